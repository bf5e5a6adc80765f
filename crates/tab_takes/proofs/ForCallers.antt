-- What callers have before what a document made is taken: where each ongoing load's navigable is reached, or has no entry, all on the way to it are awake and have arrived; and where no traversal runs, each awake navigable is where it is to be.
use Rattle.tab_facts.specs.Calm.Calm.{CalmUnless, IsCalmYet, IsHere, UnmovedAreHere}
use Rattle.seen_facts.specs.LoadEnds.Standing.{is_reached}
use Rattle.log_model.specs.Equal.{holds}
use Rattle.log_model.specs.History.{has_nav, has_row}
use Rattle.log_model.specs.Places.{aim_of, has_arrived, is_given_target, is_lost_in, is_placed, is_shown, is_standing, way_of, way_to}
use Rattle.log_model.specs.Seen.{Place, Seen, Status, asleep, awake, lost, place_of}
use Rattle.log_model.specs.declared.made.Made.{Made}
use Rattle.seen_facts.proofs.Hang.Forms.{nav_is}
use Rattle.std.proofs.Common.{Bool, List, None, Option, Some, [], ap, false, inl, inr, not, refl, sym, true, ◌&&◌, ◌==◌, ◌||◌, ◌∙◌, ◌∷◌, ◌≡◌, ◌⊎◌}
use Rattle.std.proofs.lemmas.Bool.{and_parts}
use Rattle.std.specs.List.{list_all, list_any}
use Rattle.std.specs.Option.{option_map_or}
use Rattle.tab_rests.proofs.PassedOn.{IsBare, StandOrBare}
use Rattle.tab_ids.specs.declared.DocId.{DocId}
use Rattle.tab_ids.specs.declared.NavId.{NavId}
use Rattle.tab_ids.specs.declared.ReqId.{ReqId}
use Rattle.tab_takes.specs.Taking.{ArrivedWhere, IsArrived, LoadsArrived}
use Rattle.tab_rests.specs.PassedOn.{IsTab}
use Rattle.seen_facts.proofs.Walk.Placed.{found_nav}

-- each of these passes
each_of : (f : NavId → Bool) (navs : List NavId) → list_all f navs ≡ true → (x : NavId) → has_nav navs x ≡ true → f x ≡ true
each_of f [] all x has = absurd cc
each_of f (y ∷ navs) all x has =
    by_test (y.0 == x.0) refl has (each_of f navs (and_parts (f y) (list_all f navs) all).1 x)
  where
    by_test : (b : Bool) → (y.0 == x.0) ≡ b → (b || has_nav navs x) ≡ true → (has_nav navs x ≡ true → f x ≡ true) → f x ≡ true
    by_test true same h more = ap f (sym (nav_is y x same)) ∙ (and_parts (f y) (list_all f navs) all).0
    by_test false apart h more = more h

module _ (run : Option ReqId) (loads : List ReqId) (hand : List Made) (s : Seen) (tab : IsTab run loads hand s) where
  stands_arrived : (x : NavId) (own : Place) → place_of s x ≡ Some own → is_placed s (aim_of s) x ≡ true → IsArrived own
  stands_arrived x own there placed = by_status own.status refl
    where
      stand : is_standing s.history.rows (aim_of s) own ≡ true
      stand =
          sym (ap (λ (o : Option Place). holds (is_standing s.history.rows (aim_of s)) o) there)
          ∙ (and_parts (is_shown s.history.rows (aim_of s) x) (holds (is_standing s.history.rows (aim_of s)) (place_of s x)) placed).1

      arrived : has_arrived own ≡ true
      arrived =
          (and_parts (is_given_target s.history.rows (aim_of s) own && not own.is_unmet) (has_arrived own) stand).1

      by_status : (st : Status) → own.status ≡ st → IsArrived own
      by_status (awake doc) is = record { doc = doc; wakes = is; arrived = arrived }
      by_status lost is = absurd ((tab.standing x own there).unlost is)
      by_status asleep is =
          let off : has_arrived own ≡ false = rw is refl in
          let never : true ≡ false = sym arrived ∙ off in absurd cc

  pub stand_arrived : StandOrBare s → LoadsArrived s
  stand_arrived so req nav place load has found x own in_ there = by_case (so req nav load)
    where
      way_is : way_to s nav ≡ nav ∷ place.above
      way_is =
          ap (λ (o : Option Place). option_map_or way_of o (nav ∷ [])) found ∙ ap (λ (y : NavId). y ∷ place.above) (found_nav s.places nav place found)

      by_case : (is_reached s nav ≡ true) ⊎ IsBare s nav → IsArrived own
      by_case (inl is) =
          stands_arrived x own there (each_of (is_placed s (aim_of s)) (nav ∷ place.above) (sym (ap (λ (l : List NavId). list_all (is_placed s (aim_of s)) l) way_is) ∙ (and_parts (list_all (is_placed s (aim_of s)) (way_to s nav)) (holds (λ (y : Place). not (list_any (is_lost_in s.places) y.above)) (place_of s nav)) is).0) x in_)
      by_case (inr is) = let never : true ≡ false = sym has ∙ is in absurd cc

  -- where no traversal runs, who is awake and has an entry is where it is to be
  module _ (calm : CalmUnless IsCalmYet None s) where
    idle_here : (nav : NavId) (place : Place) (doc : DocId) → place_of s nav ≡ Some place → place.status ≡ awake doc → has_row nav s.history.rows ≡ true → IsHere s place
    idle_here nav place doc found wakes has = by_case (calm.here nav place doc found wakes)
      where
        by_case : (has_row nav s.history.rows ≡ false) ⊎ IsHere s place → IsHere s place
        by_case (inl is) = let never : true ≡ false = sym has ∙ is in absurd cc
        by_case (inr is) = is

    pub idle_unmoved : UnmovedAreHere s
    idle_unmoved nav place doc found wakes has still = idle_here nav place doc found wakes has

  -- whatever runs
  pub stand_arrives : StandOrBare s → ArrivedWhere run s
  stand_arrives so = by_run run
    where
      by_run : (r : Option ReqId) → ArrivedWhere r s
      by_run None = tt
      by_run (Some r) = stand_arrived so
