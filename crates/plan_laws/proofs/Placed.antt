-- Places found by their navigables, and in the order of the walk.
use Rattle.std.proofs.Common.{◌≡◌, ℕ, zero, suc, Bool, true, false, cond, List, [], ◌∷◌, Some, None, refl, sym, ap, ◌∙◌, subst, arith}
use Rattle.std.specs.Prelude.{◌==◌, slice_get}
use Rattle.std.proofs.lemmas.Bool.Decides.{nat_tests}
use Rattle.std.proofs.lemmas.Option.{none-some, same_Some}
use Rattle.tab_ids.specs.declared.NavId.{NavId}
use Rattle.log_model.specs.Seen.{Place, place_in}
use Rattle.seen_facts.specs.Hang.AsPlaces.{AreDistinct}
use Rattle.log_model.specs.Walk.{way_from_top, is_way_before, walk_with, walk_of}

-- the first place is another one's
pub none_here : (q : Place) (l : List Place) (nav : NavId) → place_in (q ∷ l) nav ≡ None → ((q.nav.0 == nav.0) ≡ false) × (place_in l nav ≡ None)
none_here q l nav none = by_test (q.nav.0 == nav.0) refl none
  where
    by_test : (b : Bool) → (q.nav.0 == nav.0) ≡ b → cond b (Some q) (place_in l nav) ≡ None → ((q.nav.0 == nav.0) ≡ false) × (place_in l nav ≡ None)
    by_test true e none = let no_ : Some q ≡ None = none in cc
    by_test false e none = (e, none)

none_with : (p : Place) (l : List Place) (nav : NavId) → (p.nav.0 == nav.0) ≡ false → place_in l nav ≡ None → place_in (walk_with p l) nav ≡ None
none_with p [] nav e none = rw e refl
none_with p (first ∷ l) nav e none = by_test (is_way_before (way_from_top p) (way_from_top first)) (first.nav.0 == nav.0) refl (none_with p l nav e) none
  where
    by_test : (b c : Bool) → (first.nav.0 == nav.0) ≡ c → (place_in l nav ≡ None → place_in (walk_with p l) nav ≡ None) → cond c (Some first) (place_in l nav) ≡ None → place_in (cond b (p ∷ first ∷ l) (first ∷ walk_with p l)) nav ≡ None
    by_test b true f more h = let no_ : Some first ≡ None = h in cc
    by_test true false f more h = rw (e, f) h
    by_test false false f more h = rw f (more h)

pub none_walk : (l : List Place) (nav : NavId) → place_in l nav ≡ None → place_in (walk_of l) nav ≡ None
none_walk [] nav none = refl
none_walk (p ∷ l) nav none = let parts = none_here p l nav none in none_with p (walk_of l) nav parts.0 (none_walk l nav parts.1)

-- what is found is the navigable's place
pub found_nav : (places : List Place) (nav : NavId) (place : Place) → place_in places nav ≡ Some place → place.nav ≡ nav
found_nav [] nav place e = absurd (none-some place e)
found_nav (q ∷ places) nav place e = by_test (q.nav.0 == nav.0) refl (found_nav places nav place) e
  where
    by_test : (b : Bool) → (q.nav.0 == nav.0) ≡ b → (place_in places nav ≡ Some place → place.nav ≡ nav) → cond b (Some q) (place_in places nav) ≡ Some place → place.nav ≡ nav
    by_test true f more h =
        let number : q.nav.0 ≡ nav.0 = grind (arith, nat_tests, f) in
        sym (ap (λ (p : Place). p.nav) (same_Some q place h)) ∙ ap (λ (n : ℕ). let m : NavId = record { 0 = n } in m) number
    by_test false f more h = more h

-- each place is found by its number
pub each_found : (places : List Place) → AreDistinct places → (i : ℕ) (place : Place) → slice_get places i ≡ Some place → place_in places place.nav ≡ Some place
each_found [] distinct i place e = let no_ : None ≡ Some place = e in cc
each_found (q ∷ places) distinct zero place e =
    let same : q ≡ place = same_Some q place e in
    let self : (q.nav.0 == q.nav.0) ≡ true = grind (arith, nat_tests) in
    let here : place_in (q ∷ places) q.nav ≡ Some q = rw self refl in
    subst (λ (p : Place). place_in (q ∷ places) p.nav ≡ Some p) same here
each_found (q ∷ places) distinct (suc i) place e =
    let there = each_found places distinct.1 i place e in
    let other : (q.nav.0 == place.nav.0) ≡ false = by_test (q.nav.0 == place.nav.0) refl there in
    rw other there
  where
    by_test : (b : Bool) → (q.nav.0 == place.nav.0) ≡ b → place_in places place.nav ≡ Some place → (q.nav.0 == place.nav.0) ≡ false
    by_test false f there = f
    by_test true f there =
        let number : q.nav.0 ≡ place.nav.0 = grind (arith, nat_tests, f) in
        let navs : q.nav ≡ place.nav = ap (λ (n : ℕ). let m : NavId = record { 0 = n } in m) number in
        absurd (none-some place (sym distinct.0 ∙ ap (λ (n : NavId). place_in places n) navs ∙ there))
