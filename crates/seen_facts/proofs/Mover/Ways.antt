-- How a request moves a navigable away: as a traversal that has begun, by a change of it or one above, or by a change that took an entry which it or one above was given.
use Rattle.std.proofs.Common.{◌≡◌, Bool, true, false, ◌||◌, ◌==◌, List, [], ◌∷◌, Option, Some, None, refl, ap, ◌∙◌, inl, inr}
use Rattle.std.specs.Prelude.{option_and_then}
use Rattle.std.specs.List.{list_any}
use Rattle.std.specs.Option.{option_map_or}
use Rattle.tab_ids.specs.declared.NavId.{NavId}
use Rattle.log_model.specs.declared.change.Change.{Change}
use Rattle.log_model.specs.Causes.{any_place, changed_one_of, is_passed_traversal, nav_of_change}
use Rattle.log_model.specs.Equal.{holds}
use Rattle.log_model.specs.History.{has_nav}
use Rattle.log_model.specs.Places.{has_passed, is_traversal, way_of, way_to}
use Rattle.log_model.specs.Seen.{Seen, Asked, Place, place_of}
use Rattle.log_model.proofs.Refl.{nat_eq_refl}
use Rattle.seen_facts.proofs.Hang.Forms.{nav_is}
use Rattle.seen_facts.proofs.Walk.Placed.{found_nav}
use Rattle.seen_facts.specs.Mover.Movers.{MovesAway, took_of}
use Rattle.seen_facts.proofs.Mover.Stays.{any_of}

-- a navigable is on its own way
pub on_its_way : (s : Seen) (nav : NavId) → has_nav (way_to s nav) nav ≡ true
on_its_way s nav = by_place (place_of s nav) refl
  where
    by_place : (o : Option Place) → place_of s nav ≡ o → has_nav (option_map_or way_of o (nav ∷ [])) nav ≡ true
    by_place None e = rw (nat_eq_refl nav.0) refl
    by_place (Some place) e =
        let own : (place.nav.0 == nav.0) ≡ true = ap (λ (n : NavId). n.0 == nav.0) (found_nav s.places nav place e) ∙ nat_eq_refl nav.0 in
        rw own refl

-- what one of them passes, some of them do
any_nav : (f : NavId → Bool) (navs : List NavId) (nav : NavId) → has_nav navs nav ≡ true → f nav ≡ true → list_any f navs ≡ true
any_nav f [] nav has passes = has
any_nav f (n ∷ navs) nav has passes = by_test (n.0 == nav.0) refl (λ more. any_nav f navs nav more passes) has
  where
    or_last : (b : Bool) {c : Bool} → c ≡ true → (b || c) ≡ true
    or_last true e = refl
    or_last false e = e

    by_test : (b : Bool) → (n.0 == nav.0) ≡ b → (has_nav navs nav ≡ true → list_any f navs ≡ true) → (b || has_nav navs nav) ≡ true → (f n || list_any f navs) ≡ true
    by_test true e rest h =
        let here : f n ≡ true = ap f (nav_is n nav e) ∙ passes in
        rw here refl
    by_test false e rest h = or_last (f n) (rest h)

module _ (s : Seen) (q : Asked) (nav : NavId) where
  pub traversal_moves : has_passed s q ≡ true → is_traversal q.what ≡ true → q.is_started ≡ true → MovesAway s q nav
  traversal_moves passes goes begun =
      any_of (is_passed_traversal s q) (changed_one_of q (way_to s nav)) (any_place s (way_to s nav) (took_of q)) (inl (rw (goes, begun) passes))

  pub change_moves : (change : Change) (changed : NavId) → q.change ≡ Some change → nav_of_change change ≡ Some changed → has_nav (way_to s nav) changed ≡ true → MovesAway s q nav
  change_moves change changed its of_it on_way =
      any_of (is_passed_traversal s q) (changed_one_of q (way_to s nav)) (any_place s (way_to s nav) (took_of q)) (inr (inl (ap (λ (o : Option Change). holds (has_nav (way_to s nav)) (option_and_then nav_of_change o)) its ∙ (ap (holds (has_nav (way_to s nav))) of_it ∙ on_way))))

  pub own_change_moves : (change : Change) → q.change ≡ Some change → nav_of_change change ≡ Some nav → MovesAway s q nav
  own_change_moves change its of_it = change_moves change nav its of_it (on_its_way s nav)

  pub taking_moves : (taken : NavId) (place : Place) → has_nav (way_to s nav) taken ≡ true → place_of s taken ≡ Some place → took_of q place ≡ true → MovesAway s q nav
  taking_moves taken place on_way there took =
      any_of (is_passed_traversal s q) (changed_one_of q (way_to s nav)) (any_place s (way_to s nav) (took_of q)) (inr (inr (any_nav (λ n. holds (took_of q) (place_of s n)) (way_to s nav) taken on_way (ap (holds (took_of q)) there ∙ took))))
