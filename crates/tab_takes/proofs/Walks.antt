-- A navigable with an entry, where it and all above it are awake and have arrived: it is reached, or it or one above it is visited and in need.
use Rattle.tab_facts.proofs.Calm.Awakes.{lost_none}
use Rattle.tab_facts.proofs.Calm.Calms.{IsGivenRow, given_row}
use Rattle.seen_facts.proofs.Hang.Forms.{nav_is}
use Rattle.seen_facts.proofs.Hang.Hung.{hangs_as, own_form, place_chain}
use Rattle.seen_facts.proofs.Hang.Members.{Passing, any_has}
use Rattle.seen_facts.proofs.Hang.Targets.{IsTarget, target_has, target_there}
use Rattle.seen_facts.specs.Hang.AsPlaces.{IsChain}
use Rattle.seen_facts.specs.Hang.Forms.{form_in, form_of, forms_of}
use Rattle.seen_facts.specs.Hang.Hanging.{BeginsBy, IsPlaced}
use Rattle.seen_facts.specs.Home.Homes.{IsOnAwake}
use Rattle.seen_facts.specs.LoadEnds.Standing.{is_reached}
use Rattle.log_model.proofs.Refl.{nat_eq_refl}
use Rattle.log_model.specs.Equal.{holds}
use Rattle.log_model.specs.History.{has_nav, has_row, is_of, target_entry}
use Rattle.log_model.specs.Places.{aim_of, has_arrived, is_asleep, is_given_target, is_lost_in, is_placed, is_shown, is_standing, way_of, way_to}
use Rattle.log_model.specs.Seen.{Place, Seen, lost, place_of}
use Rattle.log_model.specs.Soundness.{stands_at}
use Rattle.log_model.specs.declared.made.Made.{Made}
use Rattle.log_model.specs.declared.row.Row.{Row}
use Rattle.tab_facts.proofs.ShownWays.Ways.{leads_shown, shown_leads}
use Rattle.tab_facts.specs.ShownWays.Ways.{IsOnTarget, LeadsUp}
use Rattle.std.proofs.Common.{Bool, List, None, Option, Some, [], ap, arith, false, inl, inr, not, refl, subst, sym, true, ◌&&◌, ◌==◌, ◌||◌, ◌∙◌, ◌∷◌, ◌≡◌, ◌⊎◌}
use Rattle.std.proofs.lemmas.Bool.{and_parts, eqb-true}
use Rattle.std.specs.List.{list_all, list_any}
use Rattle.std.specs.Option.{option_map_or}
use Rattle.std.specs.Prelude.{is_some, slice_get}
use Rattle.tab_rests.proofs.PassedOn.{IsUnsettled, in_place, none_of}
use Rattle.tab_ids.specs.declared.NavId.{NavId}
use Rattle.tab_ids.specs.declared.ReqId.{ReqId}
use Rattle.tab_ids.specs.declared.StateId.{StateId}
use Rattle.tab_takes.proofs.Stays.{up_rows}
use Rattle.tab_takes.specs.Taking.{IsArrived}
use Rattle.tab_rests.specs.PassedOn.{IsTab}
use Rattle.seen_facts.proofs.Walk.Placed.{found_nav}
use Rattle.seen_facts.specs.Walk.Serving.{is_in_place, is_needing, is_stopping}
use Rattle.row_facts.specs.WalkRows.Since.{IsVisitedInNeed}

-- one that has arrived and doesn't stand needs something
needs_not : (s : Seen) (place : Place) → has_arrived place ≡ true → is_standing s.history.rows (aim_of s) place ≡ false → is_needing s.history.rows (aim_of s) place ≡ true
needs_not s place arrived off =
    by_tests (is_given_target s.history.rows (aim_of s) place) place.is_unmet (sym (up (is_given_target s.history.rows (aim_of s) place && not place.is_unmet) (has_arrived place) arrived) ∙ off) (is_asleep place)
  where
    up : (a b : Bool) → b ≡ true → (a && b) ≡ a
    up true b e = e
    up false b e = refl

    by_tests : (a b : Bool) → (a && not b) ≡ false → (c : Bool) → (c || b || not a) ≡ true
    by_tests true true e true = refl
    by_tests true true e false = refl
    by_tests true false e c = absurd cc
    by_tests false true e true = refl
    by_tests false true e false = refl
    by_tests false false e true = refl
    by_tests false false e false = refl

all_of : (f : NavId → Bool) (navs : List NavId) → ((nav : NavId) → has_nav navs nav ≡ true → f nav ≡ true) → list_all f navs ≡ true
all_of f [] each = refl
all_of f (nav ∷ navs) each =
    rw (each nav (ap (λ (b : Bool). b || has_nav navs nav) (nat_eq_refl nav.0))) (all_of f navs (λ x has. each x (later nav x has)))
  where
    later : (first x : NavId) → has_nav navs x ≡ true → has_nav (first ∷ navs) x ≡ true
    later first x has = by_test (first.0 == x.0)
      where
        by_test : (b : Bool) → (b || has_nav navs x) ≡ true
        by_test true = refl
        by_test false = has

module _ (run : Option ReqId) (loads : List ReqId) (hand : List Made) (s : Seen) (tab : IsTab run loads hand s) where
  -- ---- who is shown

  some_by : (nav : NavId) (place : Place) (holder : Row) → place_of s nav ≡ Some place → has_row nav s.history.rows ≡ true → slice_get place.owners 0 ≡ Some holder.state → IsTarget s.history.rows holder.nav (aim_of s) holder → is_some (target_entry s.history.rows nav (aim_of s)) ≡ true
  some_by nav place holder found has owner target =
      let a : Passing (is_of nav) s.history.rows = any_has (is_of nav) s.history.rows has in
      let own : a.it.nav ≡ place.nav = nav_is a.it.nav nav a.passes ∙ sym (found_nav s.places nav place found) in
      let p : IsPlaced (forms_of s.places) a.it = tab.hangs.rows.placed a.it a.there in
      let forms : Some p.form ≡ Some (form_of place) = sym p.found ∙ ap (λ (n : NavId). form_in (forms_of s.places) n) own ∙ own_form s tab.sound tab.hangs nav place found in
      let one : p.form ≡ form_of place = cc in
      let owned : a.it.owner ≡ Some holder.state = p.owner ∙ ap (λ f. slice_get f.owners 0) one ∙ owner in
      let b : BeginsBy s.history.rows a.it.nav holder.step.0 = tab.hangs.rows.begins a.it holder a.there target.there owned in
      target_there s.history.rows nav (aim_of s) b.row b.there (b.nav_is ∙ own ∙ found_nav s.places nav place found) (let lower = b.by in let by = target.by in omega (arith, lower, by))

  child : (nav : NavId) (place : Place) (parent : NavId) (others : List NavId) → place_of s nav ≡ Some place → has_row nav s.history.rows ≡ true → place.above ≡ parent ∷ others → (on : IsOnAwake s place parent) → on.above.above ≡ others → IsGivenRow s (aim_of s) on.above → is_shown s.history.rows (aim_of s) parent ≡ true → is_shown s.history.rows (aim_of s) nav ≡ true
  child nav place parent others found has_ is on rest up shown =
      leads_shown s tab.sound tab.hangs (aim_of s) nav place found (some_by nav place up.row found has_ owner_is target) leads
    where
      target_at : IsTarget s.history.rows on.above.nav (aim_of s) up.row
      target_at = target_has s.history.rows on.above.nav (aim_of s) up.row up.at

      target : IsTarget s.history.rows up.row.nav (aim_of s) up.row
      target = record { there = target_at.there; nav_is = refl; by = target_at.by }

      state_is : up.row.state ≡ on.document.state
      state_is =
          tab.homes.state parent on.above on.doc on.there on.wakes up.row on.document target_at.there target_at.nav_is up.given on.found

      owner_is : slice_get place.owners 0 ≡ Some up.row.state
      owner_is = on.owner ∙ ap (λ (x : StateId). Some x) (sym state_is)

      its : IsOnTarget s.history.rows (aim_of s) place parent
      its =
          record { target = up.row; at = ap (λ (n : NavId). target_entry s.history.rows n (aim_of s)) (sym (found_nav s.places parent on.above on.there)) ∙ up.at; owner = owner_is }

      leads : LeadsUp s (aim_of s) nav place
      leads x own first more has at over =
          by_own (nav.0 == x.0) refl (ap (λ (l : List NavId). has_nav (nav ∷ l) x) (sym is) ∙ has)
        where
          by_own : (b : Bool) → (nav.0 == x.0) ≡ b → (b || has_nav (parent ∷ others) x) ≡ true → IsOnTarget s.history.rows (aim_of s) own first
          by_own true same h =
              let two : Some place ≡ Some own = sym found ∙ ap (λ (n : NavId). place_of s n) (nav_is nav x same) ∙ at in
              let one : place ≡ own = cc in
              let lists : parent ∷ others ≡ first ∷ more = sym is ∙ ap (λ (p : Place). p.above) one ∙ over in
              let heads : parent ≡ first = cc in
              subst (λ (p : Place). IsOnTarget s.history.rows (aim_of s) p first) one (subst (λ (n : NavId). IsOnTarget s.history.rows (aim_of s) place n) heads its)
          by_own false apart h =
              shown_leads s tab.sound tab.hangs (aim_of s) parent on.above on.there shown x own first more (ap (λ (l : List NavId). has_nav (parent ∷ l) x) rest ∙ h) at over

  top_shown : (nav : NavId) (place : Place) → place_of s nav ≡ Some place → place.above ≡ [] → is_shown s.history.rows (aim_of s) nav ≡ true
  top_shown nav place found is =
      leads_shown s tab.sound tab.hangs (aim_of s) nav place found some (λ x own parent others has at up. absurd (none x own parent others has at up))
    where
      top : place.nav.0 ≡ 0
      top = (hangs_as s tab.sound tab.hangs nav place found).top is

      own_nav : place.nav ≡ nav
      own_nav = found_nav s.places nav place found

      some : is_some (target_entry s.history.rows nav (aim_of s)) ≡ true
      some =
          let a = any_has (stands_at nav 0) s.history.rows (tab.sound.top_row nav (ap (λ (n : NavId). n.0) (sym own_nav) ∙ top)) in
          let both = and_parts (is_of nav a.it) (a.it.step.0 == 0) a.passes in
          let first : a.it.step.0 ≡ 0 = eqb-true a.it.step.0 0 both.1 in
          target_there s.history.rows nav (aim_of s) a.it a.there (nav_is a.it.nav nav both.0) (omega (arith, first))

      none : (x : NavId) (own : Place) (parent : NavId) (others : List NavId) → has_nav (nav ∷ place.above) x ≡ true → place_of s x ≡ Some own → own.above ≡ parent ∷ others → ⊥
      none x own parent others has at up =
          by_own (nav.0 == x.0) refl (ap (λ (l : List NavId). has_nav (nav ∷ l) x) (sym is) ∙ has)
        where
          by_own : (b : Bool) → (nav.0 == x.0) ≡ b → (b || false) ≡ true → ⊥
          by_own true same h =
              let two : Some place ≡ Some own = sym found ∙ ap (λ (n : NavId). place_of s n) (nav_is nav x same) ∙ at in
              let one : place ≡ own = cc in
              let never : [] ≡ parent ∷ others = sym is ∙ ap (λ (p : Place). p.above) one ∙ up in
              absurd cc
          by_own false apart h = absurd cc

  -- ---- down from the top

  abbrev AllPlaced : List NavId → Type 0
  AllPlaced navs = (x : NavId) → has_nav navs x ≡ true → is_placed s (aim_of s) x ≡ true

  -- one of these is visited and in need
  record IsInNeed (navs : List NavId) : Type 0 where
    mover : NavId
    on_way : has_nav navs mover ≡ true
    own : Place
    there : place_of s mover ≡ Some own
    need : IsVisitedInNeed s own

  -- each of these is awake and has arrived
  abbrev AllArrived : List NavId → Type 0
  AllArrived navs = (x : NavId) (own : Place) → has_nav navs x ≡ true → place_of s x ≡ Some own → IsArrived own

  later : (first x : NavId) (navs : List NavId) → has_nav navs x ≡ true → has_nav (first ∷ navs) x ≡ true
  later first x navs has = by_test (first.0 == x.0)
    where
      by_test : (b : Bool) → (b || has_nav navs x) ≡ true
      by_test true = refl
      by_test false = has

  own_has : (nav : NavId) (navs : List NavId) → has_nav (nav ∷ navs) nav ≡ true
  own_has nav navs = ap (λ (b : Bool). b || has_nav navs nav) (nat_eq_refl nav.0)

  unlost : (nav : NavId) (place : Place) → place_of s nav ≡ Some place → place.status ≡ lost → ⊥
  unlost nav place found = (tab.standing nav place found).unlost

  -- one that stands doesn't stop the walk
  free : (x : NavId) → is_placed s (aim_of s) x ≡ true → is_stopping s.history.rows (aim_of s) s.places x ≡ false
  free x is = by_place (place_of s x) refl
    where
      stands_ : holds (is_standing s.history.rows (aim_of s)) (place_of s x) ≡ true
      stands_ =
          (and_parts (is_shown s.history.rows (aim_of s) x) (holds (is_standing s.history.rows (aim_of s)) (place_of s x)) is).1

      by_place : (o : Option Place) → place_of s x ≡ o → is_stopping s.history.rows (aim_of s) s.places x ≡ false
      by_place None none =
          let never : false ≡ true = sym (ap (λ (o : Option Place). holds (is_standing s.history.rows (aim_of s)) o) none) ∙ stands_ in absurd cc
      by_place (Some place) found =
          let stand : is_standing s.history.rows (aim_of s) place ≡ true = sym (ap (λ (o : Option Place). holds (is_standing s.history.rows (aim_of s)) o) found) ∙ stands_ in
          ap (λ (o : Option Place). not (holds (is_in_place s.history.rows (aim_of s)) o)) found
          ∙ ap not (in_place s.history.rows (aim_of s) place (unlost x place found) stand)

  -- one that is shown below such ones stands, too, or is in need
  next : (nav : NavId) (place : Place) → place_of s nav ≡ Some place → IsArrived place → is_shown s.history.rows (aim_of s) nav ≡ true → AllPlaced place.above → AllPlaced (nav ∷ place.above) ⊎ IsInNeed (nav ∷ place.above)
  next nav place found come shown above = by_stand (is_standing s.history.rows (aim_of s) place) refl
    where
      own_nav : place.nav ≡ nav
      own_nav = found_nav s.places nav place found

      placed : is_standing s.history.rows (aim_of s) place ≡ true → AllPlaced (nav ∷ place.above)
      placed stand x has = by_own (nav.0 == x.0) refl has
        where
          mine : is_placed s (aim_of s) nav ≡ true
          mine = rw shown (ap (λ (o : Option Place). holds (is_standing s.history.rows (aim_of s)) o) found ∙ stand)

          by_own : (b : Bool) → (nav.0 == x.0) ≡ b → (b || has_nav place.above x) ≡ true → is_placed s (aim_of s) x ≡ true
          by_own true same h = ap (λ (n : NavId). is_placed s (aim_of s) n) (sym (nav_is nav x same)) ∙ mine
          by_own false apart h = above x h

      by_stand : (b : Bool) → is_standing s.history.rows (aim_of s) place ≡ b → AllPlaced (nav ∷ place.above) ⊎ IsInNeed (nav ∷ place.above)
      by_stand true stand = inl (placed stand)
      by_stand false off =
          inr (record {
            mover = nav;
            on_way = own_has nav place.above;
            own = place;
            there = found;
            need = record {
              shown = ap (λ (n : NavId). is_shown s.history.rows (aim_of s) n) own_nav ∙ shown;
              reached = none_of (is_stopping s.history.rows (aim_of s) s.places) place.above (λ x has. free x (above x has));
              needs = needs_not s place come.arrived off;
            };
          })

  down_from : (above : List NavId) (nav : NavId) (place : Place) → place_of s nav ≡ Some place → has_row nav s.history.rows ≡ true → place.above ≡ above → AllArrived (nav ∷ above) → IsChain s.places above → AllPlaced (nav ∷ place.above) ⊎ IsInNeed (nav ∷ place.above)
  down_from [] nav place found has_ is all chain =
      next nav place found (all nav place (own_has nav []) found) (top_shown nav place found is) (λ x has. let never : true ≡ false = sym has ∙ ap (λ (l : List NavId). has_nav l x) is in absurd cc)
  down_from (parent ∷ others) nav place found has_ is all chain =
      by_above (down_from others parent on.above on.there (up_rows s tab.sound tab.hangs nav place found has_ parent (ap (λ (l : List NavId). has_nav (nav ∷ l) parent) is ∙ later nav parent (parent ∷ others) (own_has parent others))) rest (λ x own has. all x own (later nav x (parent ∷ others) has)) chain.1)
    where
      come : IsArrived place
      come = all nav place (own_has nav (parent ∷ others)) found

      on : IsOnAwake s place parent
      on = tab.homes.hung nav place come.doc found come.wakes parent others is

      rest : on.above.above ≡ others
      rest =
          let two : Some on.above ≡ Some chain.0.place = sym on.there ∙ chain.0.found in
          let one : on.above ≡ chain.0.place = cc in
          ap (λ (p : Place). p.above) one ∙ chain.0.above_is

      lists : parent ∷ on.above.above ≡ place.above
      lists = ap (λ (l : List NavId). parent ∷ l) rest ∙ sym is

      by_above : AllPlaced (parent ∷ on.above.above) ⊎ IsInNeed (parent ∷ on.above.above) → AllPlaced (nav ∷ place.above) ⊎ IsInNeed (nav ∷ place.above)
      by_above (inr it) =
          inr (record { mover = it.mover; on_way = later nav it.mover place.above (ap (λ (l : List NavId). has_nav l it.mover) (sym lists) ∙ it.on_way); own = it.own; there = it.there; need = it.need })
      by_above (inl placed) =
          next nav place found come (child nav place parent others found has_ is on rest (given_row s (aim_of s) on.above given) both.0) (λ x has. placed x (ap (λ (l : List NavId). has_nav l x) lists ∙ has))
        where
          both : (is_shown s.history.rows (aim_of s) parent ≡ true) × (holds (is_standing s.history.rows (aim_of s)) (place_of s parent) ≡ true)
          both =
              and_parts (is_shown s.history.rows (aim_of s) parent) (holds (is_standing s.history.rows (aim_of s)) (place_of s parent)) (placed parent (own_has parent on.above.above))

          stand : is_standing s.history.rows (aim_of s) on.above ≡ true
          stand =
              sym (ap (λ (o : Option Place). holds (is_standing s.history.rows (aim_of s)) o) on.there) ∙ both.1

          given : is_given_target s.history.rows (aim_of s) on.above ≡ true
          given =
              (and_parts (is_given_target s.history.rows (aim_of s) on.above) (not on.above.is_unmet) (and_parts (is_given_target s.history.rows (aim_of s) on.above && not on.above.is_unmet) (has_arrived on.above) stand).0).0

  pub reached_or_unsettled : (nav : NavId) (place : Place) → place_of s nav ≡ Some place → has_row nav s.history.rows ≡ true → AllArrived (nav ∷ place.above) → (is_reached s nav ≡ true) ⊎ IsUnsettled s nav
  reached_or_unsettled nav place found has_ all =
      by_case (down_from place.above nav place found has_ refl all (place_chain s tab.sound tab.hangs nav place found))
    where
      way_is : way_to s nav ≡ nav ∷ place.above
      way_is =
          ap (λ (o : Option Place). option_map_or way_of o (nav ∷ [])) found ∙ ap (λ (x : NavId). x ∷ place.above) (found_nav s.places nav place found)

      by_case : AllPlaced (nav ∷ place.above) ⊎ IsInNeed (nav ∷ place.above) → (is_reached s nav ≡ true) ⊎ IsUnsettled s nav
      by_case (inl placed) =
          inl (ap (λ (l : List NavId). list_all (is_placed s (aim_of s)) l && holds (λ (x : Place). not (list_any (is_lost_in s.places) x.above)) (place_of s nav)) way_is ∙ ap (λ (b : Bool). b && holds (λ (x : Place). not (list_any (is_lost_in s.places) x.above)) (place_of s nav)) (all_of (is_placed s (aim_of s)) (nav ∷ place.above) placed) ∙ ap (λ (o : Option Place). holds (λ (x : Place). not (list_any (is_lost_in s.places) x.above)) o) found ∙ ap not (lost_none s tab.standing place.above))
      by_case (inr it) =
          inr (record {
            place = place;
            placed = found;
            mover = it.mover;
            on_way = ap (λ (x : NavId). has_nav (x ∷ place.above) it.mover) (found_nav s.places nav place found) ∙ it.on_way;
            own = it.own;
            there = it.there;
            need = it.need;
          })
