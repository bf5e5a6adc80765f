-- Places found by their navigables, and by their numbers in the list.
use Rattle.std.proofs.Common.{◌≡◌, ℕ, zero, suc, Bool, true, false, cond, List, [], ◌∷◌, Some, None, refl, sym, ap, ◌∙◌, subst, ◌==◌}
use Rattle.std.specs.Prelude.{slice_get}
use Rattle.tab_ids.specs.declared.NavId.{NavId}
use Rattle.log_model.proofs.Refl.{nat_eq_refl}
use Rattle.log_model.specs.Seen.{Place, place_in}
use Rattle.seen_facts.specs.Hang.AsPlaces.{AreDistinct}
use Rattle.seen_facts.proofs.Hang.Forms.{nav_is}

-- what is found is the navigable's place
pub found_nav : (places : List Place) (nav : NavId) (place : Place) → place_in places nav ≡ Some place → place.nav ≡ nav
found_nav [] nav place e = cc
found_nav (q ∷ places) nav place e = by_test (q.nav.0 == nav.0) refl (found_nav places nav place) e
  where
    by_test : (b : Bool) → (q.nav.0 == nav.0) ≡ b → (place_in places nav ≡ Some place → place.nav ≡ nav) → cond b (Some q) (place_in places nav) ≡ Some place → place.nav ≡ nav
    by_test true f more h = let same : q ≡ place = cc in subst (λ (p : Place). p.nav ≡ nav) same (nav_is q.nav nav f)
    by_test false f more h = more h

pub found_at : (places : List Place) (nav : NavId) (place : Place) → place_in places nav ≡ Some place → (i : ℕ) × (slice_get places i ≡ Some place)
found_at [] nav place e = cc
found_at (p ∷ places) nav place e = by_test (p.nav.0 == nav.0) (λ f. found_at places nav place f) e
  where
    by_test : (b : Bool) → (place_in places nav ≡ Some place → (i : ℕ) × (slice_get places i ≡ Some place)) → cond b (Some p) (place_in places nav) ≡ Some place → (i : ℕ) × (slice_get (p ∷ places) i ≡ Some place)
    by_test true more f = (0, f)
    by_test false more f = let m = more f in (suc m.0, m.1)

-- each place is found by its navigable
pub each_found : (places : List Place) → AreDistinct places → (i : ℕ) (place : Place) → slice_get places i ≡ Some place → place_in places place.nav ≡ Some place
each_found [] distinct i place e = cc
each_found (q ∷ places) distinct zero place e =
    let same : q ≡ place = cc in
    let here : place_in (q ∷ places) q.nav ≡ Some q = rw (nat_eq_refl q.nav.0) refl in
    subst (λ (p : Place). place_in (q ∷ places) p.nav ≡ Some p) same here
each_found (q ∷ places) distinct (suc i) place e =
    let there = each_found places distinct.1 i place e in
    let other : (q.nav.0 == place.nav.0) ≡ false = by_test (q.nav.0 == place.nav.0) refl there in
    rw other there
  where
    by_test : (b : Bool) → (q.nav.0 == place.nav.0) ≡ b → place_in places place.nav ≡ Some place → (q.nav.0 == place.nav.0) ≡ false
    by_test false f there = f
    by_test true f there =
        let no_ : None ≡ Some place = sym distinct.0 ∙ ap (λ (n : NavId). place_in places n) (nav_is q.nav place.nav f) ∙ there in cc
