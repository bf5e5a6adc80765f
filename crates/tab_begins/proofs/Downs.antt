-- At any aim, an awake navigable that has arrived, as all above it have, stands with them, or it or one above it is visited and in need.
use Rattle.log_model.proofs.Refl.{nat_eq_refl}
use Rattle.log_model.specs.Equal.{holds}
use Rattle.log_model.specs.History.{has_nav}
use Rattle.log_model.specs.Places.{aim_of, has_arrived, is_asleep, is_given_target, is_placed, is_shown, is_standing}
use Rattle.log_model.specs.Seen.{Place, Seen, awake, lost, place_of}
use Rattle.log_model.specs.declared.made.Made.{Made}
use Rattle.row_facts.specs.WalkRows.Since.{IsVisitedInNeed}
use Rattle.seen_facts.proofs.Hang.Forms.{nav_is}
use Rattle.seen_facts.proofs.Hang.Hung.{place_chain}
use Rattle.seen_facts.proofs.Walk.Placed.{found_nav}
use Rattle.seen_facts.specs.Hang.AsPlaces.{IsChain}
use Rattle.seen_facts.specs.Home.Homes.{IsOnAwake}
use Rattle.seen_facts.specs.Walk.Serving.{is_in_place, is_needing, is_stopping}
use Rattle.std.proofs.Common.{Bool, List, None, Option, Some, [], ap, false, inl, inr, not, refl, sym, true, ◌&&◌, ◌==◌, ◌||◌, ◌∙◌, ◌∷◌, ◌≡◌, ◌⊎◌}
use Rattle.std.proofs.lemmas.Bool.{and_parts}
use Rattle.tab_begins.proofs.Standings.{in_place, none_of}
use Rattle.tab_facts.proofs.Calm.Awakes.{child, given_standing, top_shown}
use Rattle.tab_facts.specs.FrameWhole.Tab.{AreAwakeWithRows}
use Rattle.tab_ids.specs.declared.DocId.{DocId}
use Rattle.tab_ids.specs.declared.NavId.{NavId}
use Rattle.tab_ids.specs.declared.ReqId.{ReqId}
use Rattle.tab_one_pass.specs.PassedOn.{IsTab}

-- one that has arrived and doesn't stand needs something
needs_not : (s : Seen) (place : Place) → has_arrived place ≡ true → is_standing s.history.rows (aim_of s) place ≡ false → is_needing s.history.rows (aim_of s) place ≡ true
needs_not s place arrived off =
    by_tests (is_given_target s.history.rows (aim_of s) place) place.is_unmet (sym (up (is_given_target s.history.rows (aim_of s) place && not place.is_unmet) (has_arrived place) arrived) ∙ off) (is_asleep place)
  where
    up : (a b : Bool) → b ≡ true → (a && b) ≡ a
    up true b e = e
    up false b e = refl

    by_tests : (a b : Bool) → (a && not b) ≡ false → (c : Bool) → (c || b || not a) ≡ true
    by_tests true true e true = refl
    by_tests true true e false = refl
    by_tests true false e c = absurd cc
    by_tests false true e true = refl
    by_tests false true e false = refl
    by_tests false false e true = refl
    by_tests false false e false = refl

module _ (run : Option ReqId) (loads : List ReqId) (hand : List Made) (s : Seen) (tab : IsTab run loads hand s) (with_rows : AreAwakeWithRows s) where
  -- each of these stands
  abbrev pub AllPlaced : List NavId → Type 0
  AllPlaced navs = (x : NavId) → has_nav navs x ≡ true → is_placed s (aim_of s) x ≡ true

  -- each of these has arrived
  abbrev pub AllArrived : List NavId → Type 0
  AllArrived navs = (x : NavId) (place : Place) → has_nav navs x ≡ true → place_of s x ≡ Some place → has_arrived place ≡ true

  -- one of these is visited and in need
  pub record IsInNeed (navs : List NavId) : Type 0 where
    pub mover : NavId
    pub on_way : has_nav navs mover ≡ true
    pub own : Place
    pub there : place_of s mover ≡ Some own
    pub need : IsVisitedInNeed s own

  later : (first x : NavId) (navs : List NavId) → has_nav navs x ≡ true → has_nav (first ∷ navs) x ≡ true
  later first x navs has = by_test (first.0 == x.0)
    where
      by_test : (b : Bool) → (b || has_nav navs x) ≡ true
      by_test true = refl
      by_test false = has

  own_has : (nav : NavId) (navs : List NavId) → has_nav (nav ∷ navs) nav ≡ true
  own_has nav navs = ap (λ (b : Bool). b || has_nav navs nav) (nat_eq_refl nav.0)

  unlost : (nav : NavId) (place : Place) → place_of s nav ≡ Some place → place.status ≡ lost → ⊥
  unlost nav place found = (tab.standing nav place found).unlost

  -- one that stands doesn't stop the walk
  free : (x : NavId) → is_placed s (aim_of s) x ≡ true → is_stopping s.history.rows (aim_of s) s.places x ≡ false
  free x is = by_place (place_of s x) refl
    where
      stands_ : holds (is_standing s.history.rows (aim_of s)) (place_of s x) ≡ true
      stands_ =
          (and_parts (is_shown s.history.rows (aim_of s) x) (holds (is_standing s.history.rows (aim_of s)) (place_of s x)) is).1

      by_place : (o : Option Place) → place_of s x ≡ o → is_stopping s.history.rows (aim_of s) s.places x ≡ false
      by_place None none =
          let never : false ≡ true = sym (ap (λ (o : Option Place). holds (is_standing s.history.rows (aim_of s)) o) none) ∙ stands_ in absurd cc
      by_place (Some place) found =
          let stand : is_standing s.history.rows (aim_of s) place ≡ true = sym (ap (λ (o : Option Place). holds (is_standing s.history.rows (aim_of s)) o) found) ∙ stands_ in
          ap (λ (o : Option Place). not (holds (is_in_place s.history.rows (aim_of s)) o)) found
          ∙ ap not (in_place s.history.rows (aim_of s) place (unlost x place found) stand)

  -- one that is shown below such ones stands, too, or is in need
  next : (nav : NavId) (place : Place) → place_of s nav ≡ Some place → has_arrived place ≡ true → is_shown s.history.rows (aim_of s) nav ≡ true → AllPlaced place.above → AllPlaced (nav ∷ place.above) ⊎ IsInNeed (nav ∷ place.above)
  next nav place found arrived shown above = by_stand (is_standing s.history.rows (aim_of s) place) refl
    where
      own_nav : place.nav ≡ nav
      own_nav = found_nav s.places nav place found

      placed : is_standing s.history.rows (aim_of s) place ≡ true → AllPlaced (nav ∷ place.above)
      placed stand x has = by_own (nav.0 == x.0) refl has
        where
          mine : is_placed s (aim_of s) nav ≡ true
          mine = rw shown (ap (λ (o : Option Place). holds (is_standing s.history.rows (aim_of s)) o) found ∙ stand)

          by_own : (b : Bool) → (nav.0 == x.0) ≡ b → (b || has_nav place.above x) ≡ true → is_placed s (aim_of s) x ≡ true
          by_own true same h = ap (λ (n : NavId). is_placed s (aim_of s) n) (sym (nav_is nav x same)) ∙ mine
          by_own false apart h = above x h

      by_stand : (b : Bool) → is_standing s.history.rows (aim_of s) place ≡ b → AllPlaced (nav ∷ place.above) ⊎ IsInNeed (nav ∷ place.above)
      by_stand true stand = inl (placed stand)
      by_stand false off =
          inr (record {
            mover = nav;
            on_way = own_has nav place.above;
            own = place;
            there = found;
            need = record {
              shown = ap (λ (n : NavId). is_shown s.history.rows (aim_of s) n) own_nav ∙ shown;
              reached = none_of (is_stopping s.history.rows (aim_of s) s.places) place.above (λ x has. free x (above x has));
              needs = needs_not s place arrived off;
            };
          })

  down_from : (above : List NavId) (nav : NavId) (place : Place) (doc : DocId) → place_of s nav ≡ Some place → place.status ≡ awake doc → place.above ≡ above → IsChain s.places above → AllArrived (nav ∷ place.above) → AllPlaced (nav ∷ place.above) ⊎ IsInNeed (nav ∷ place.above)
  down_from [] nav place doc found wakes is chain arrived =
      next nav place found (arrived nav place (own_has nav place.above) found) (top_shown s tab.sound tab.hangs tab.homes with_rows (aim_of s) nav place found is) (λ x has. let never : true ≡ false = sym has ∙ ap (λ (l : List NavId). has_nav l x) is in absurd cc)
  down_from (parent ∷ others) nav place doc found wakes is chain arrived =
      by_above (down_from others parent on.above on.doc on.there on.wakes rest chain.1 (λ x q has at. arrived x q (later nav x place.above (ap (λ (l : List NavId). has_nav l x) (sym lists) ∙ has)) at))
    where
      on : IsOnAwake s place parent
      on = tab.homes.hung nav place doc found wakes parent others is

      rest : on.above.above ≡ others
      rest =
          let two : Some on.above ≡ Some chain.0.place = sym on.there ∙ chain.0.found in
          let one : on.above ≡ chain.0.place = cc in
          ap (λ (p : Place). p.above) one ∙ chain.0.above_is

      lists : parent ∷ on.above.above ≡ place.above
      lists = ap (λ (l : List NavId). parent ∷ l) rest ∙ sym is

      by_above : AllPlaced (parent ∷ on.above.above) ⊎ IsInNeed (parent ∷ on.above.above) → AllPlaced (nav ∷ place.above) ⊎ IsInNeed (nav ∷ place.above)
      by_above (inr it) =
          inr (record { mover = it.mover; on_way = later nav it.mover place.above (ap (λ (l : List NavId). has_nav l it.mover) (sym lists) ∙ it.on_way); own = it.own; there = it.there; need = it.need })
      by_above (inl all) =
          next nav place found (arrived nav place (own_has nav place.above) found) (child s tab.sound tab.hangs tab.homes with_rows (aim_of s) nav place doc parent others found wakes is on rest (given_standing s (aim_of s) on.above stand) both.0) (λ x has. all x (ap (λ (l : List NavId). has_nav l x) lists ∙ has))
        where
          both : (is_shown s.history.rows (aim_of s) parent ≡ true) × (holds (is_standing s.history.rows (aim_of s)) (place_of s parent) ≡ true)
          both =
              and_parts (is_shown s.history.rows (aim_of s) parent) (holds (is_standing s.history.rows (aim_of s)) (place_of s parent)) (all parent (own_has parent on.above.above))

          stand : is_standing s.history.rows (aim_of s) on.above ≡ true
          stand =
              sym (ap (λ (o : Option Place). holds (is_standing s.history.rows (aim_of s)) o) on.there) ∙ both.1

  pub down : (nav : NavId) (place : Place) (doc : DocId) → place_of s nav ≡ Some place → place.status ≡ awake doc → AllArrived (nav ∷ place.above) → AllPlaced (nav ∷ place.above) ⊎ IsInNeed (nav ∷ place.above)
  down nav place doc found wakes arrived =
      down_from place.above nav place doc found wakes refl (place_chain s tab.sound tab.hangs nav place found) arrived
