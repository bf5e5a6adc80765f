-- In the order of the walk a navigable comes before those below it.
use Rattle.log_model.specs.History.{has_nav}
use Rattle.log_model.specs.Places.{is_below, way_of}
use Rattle.log_model.specs.Seen.{Place, Seen, place_in}
use Rattle.log_model.specs.Soundness.{IsSound}
use Rattle.log_model.specs.Walk.{is_way_before, walk_of, walk_with, way_from_top}
use Rattle.plan_laws.proofs.Placed.{none_here}
use Rattle.seen_facts.proofs.Hang.Forms.{nav_is}
use Rattle.seen_facts.proofs.Hang.Hung.{not_above_itself, places_distinct}
use Rattle.seen_facts.proofs.Hang.Members.{find_has}
use Rattle.seen_facts.proofs.Rest.Stands.{get_of}
use Rattle.seen_facts.proofs.Walk.Order.{none_walk, walk_is, walk_member, walk_once}
use Rattle.seen_facts.proofs.Walk.Placed.{each_found}
use Rattle.seen_facts.specs.Hang.AsPlaces.{AreDistinct}
use Rattle.seen_facts.specs.Hang.Hanging.{Hangs}
use Rattle.seen_facts.specs.Hang.Members.{Has}
use Rattle.std.proofs.Common.{Bool, List, None, Option, Some, [], ap, arith, cond, false, filter_map, inl, inr, map, refl, subst, suc, sym, true, ℕ, ◌++◌, ◌<◌, ◌==◌, ◌||◌, ◌∙◌, ◌∷◌, ◌≡◌}
use Rattle.std.proofs.lemmas.Bool.Decides.{nat_tests}
use Rattle.std.proofs.lemmas.Option.{slice_get-map}
use Rattle.std.specs.List.{cons_option}
use Rattle.std.specs.Option.{option_to_list}
use Rattle.std.specs.Prelude.{if◌then◌else◌, option_and_then, option_map, slice_get}
use Rattle.tab_ids.specs.declared.NavId.{NavId}

-- what is read of a place at the navigable or below it, and below it
abbrev pub read_at : {B : Type 0} → (Place → Option B) → NavId → Place → Option B
read_at read nav place = if has_nav (way_of place) nav then read place else None

abbrev pub read_below : {B : Type 0} → (Place → Option B) → NavId → Place → Option B
read_below read nav place = if is_below nav place then read place else None

-- no place comes before one above it
abbrev AreLed : List Place → Type 0
AreLed l = (i j : ℕ) (p q : Place) → i < j → slice_get l i ≡ Some p → slice_get l j ≡ Some q → is_below q.nav p ≡ false

module _ {B : Type 0} (read : Place → Option B) (nav : NavId) where
  -- without the navigable itself there are those below it
  only_below : (l : List Place) → place_in l nav ≡ None → filter_map (read_at read nav) l ≡ filter_map (read_below read nav) l
  only_below [] none = refl
  only_below (q ∷ l) none = let parts = none_here q l nav none in rw (parts.0, only_below l parts.1) refl

  at_first : (l : List Place) → AreDistinct l → AreLed l → ((p : Place) → Has l p → is_below p.nav p ≡ false) → option_to_list (option_and_then read (place_in l nav)) ++ filter_map (read_below read nav) l ≡ filter_map (read_at read nav) l
  at_first [] once led off = refl
  at_first (q ∷ l) once led off =
      by_test (q.nav.0 == nav.0) refl (at_first l once.1 (λ i j p r less here there. led (suc i) (suc j) p r (omega (arith, less)) here there) (λ p there. off p (inr there)))
    where
      joined : (o : Option B) (rest : List B) → option_to_list o ++ rest ≡ cons_option o rest
      joined None rest = refl
      joined (Some x) rest = refl

      by_found : (o : Option Place) → place_in l nav ≡ o → option_to_list (option_and_then read o) ++ filter_map (read_below read nav) l ≡ filter_map (read_at read nav) l → option_to_list (option_and_then read o) ++ cons_option (read_below read nav q) (filter_map (read_below read nav) l) ≡ cons_option (read_below read nav q) (filter_map (read_at read nav) l)
      by_found None none more = ap (cons_option (read_below read nav q)) (sym (only_below l none))
      by_found (Some p) found more =
          let its = find_has (λ (r : Place). r.nav.0 == nav.0) l p found in
          let at = get_of l p its.0 in
          let apart : is_below nav q ≡ false = subst (λ (n : NavId). is_below n q ≡ false) (nav_is p.nav nav its.1) (led 0 (suc at.0) q p (omega arith) refl at.1) in
          rw apart more

      by_test : (b : Bool) → (q.nav.0 == nav.0) ≡ b → option_to_list (option_and_then read (place_in l nav)) ++ filter_map (read_below read nav) l ≡ filter_map (read_at read nav) l → option_to_list (option_and_then read (cond b (Some q) (place_in l nav))) ++ cons_option (read_below read nav q) (filter_map (read_below read nav) l) ≡ cons_option (let o : Option B = cond (b || is_below nav q) (read q) None in o) (filter_map (read_at read nav) l)
      by_test false is more = by_found (place_in l nav) refl more
      by_test true is more =
          let own : q.nav ≡ nav = nav_is q.nav nav is in
          let apart : is_below nav q ≡ false = subst (λ (n : NavId). is_below n q ≡ false) own (off q (inl refl)) in
          let none : place_in l nav ≡ None = subst (λ (n : NavId). place_in l n ≡ None) own once.0 in
          rw (apart, only_below l none) (joined (read q) (filter_map (read_below read nav) l))

-- ---- the walk has each place

found_with : (p : Place) (l : List Place) (nav : NavId) → place_in l p.nav ≡ None → place_in (walk_with p l) nav ≡ place_in (p ∷ l) nav
found_with p [] nav none = refl
found_with p (q ∷ l) nav none =
    by_test (is_way_before (way_from_top p) (way_from_top q)) (q.nav.0 == nav.0) (p.nav.0 == nav.0) refl refl (none_here q l p.nav none).0 (found_with p l nav (none_here q l p.nav none).1)
  where
    by_test : (before here own : Bool) → (q.nav.0 == nav.0) ≡ here → (p.nav.0 == nav.0) ≡ own → (q.nav.0 == p.nav.0) ≡ false → place_in (walk_with p l) nav ≡ cond own (Some p) (place_in l nav) → place_in (cond before (p ∷ q ∷ l) (q ∷ walk_with p l)) nav ≡ cond own (Some p) (cond here (Some q) (place_in l nav))
    by_test true here own e f apart more = rw (e, f) refl
    by_test false false own e f apart more = rw e more
    by_test false true false e f apart more = rw e refl
    by_test false true true e f apart more = let never : true ≡ false = grind (arith, nat_tests, e, f, apart) in absurd cc

found_walk : (l : List Place) → AreDistinct l → (nav : NavId) → place_in (walk_of l) nav ≡ place_in l nav
found_walk [] once nav = refl
found_walk (p ∷ l) once nav = found_with p (walk_of l) nav (none_walk l p.nav once.0) ∙ ap (λ (o : Option Place). cond (p.nav.0 == nav.0) (Some p) o) (found_walk l once.1 nav)

-- ---- all of it

module _ (s : Seen) (sound : IsSound s.history) (hangs : Hangs s) {B : Type 0} (read : Place → Option B) (nav : NavId) where
  abbrev walk : List Place
  walk = walk_of s.places

  own_place : (i : ℕ) (p : Place) → slice_get walk i ≡ Some p → place_in s.places p.nav ≡ Some p
  own_place i p at = let its = walk_member s.places i p at in each_found s.places (places_distinct s sound hangs) its.0 p its.1

  named : (i : ℕ) (p : Place) → slice_get walk i ≡ Some p → slice_get (map (λ (q : Place). q.nav) walk) i ≡ Some p.nav
  named i p at = slice_get-map (λ (q : Place). q.nav) walk i ∙ ap (λ (o : Option Place). option_map (λ (q : Place). q.nav) o) at

  led : AreLed walk
  led i j p q less here there =
      let apart = (walk_is s sound hangs).apart i j p.nav q.nav less (named i p here) (named j q there) in
      apart.beside p (own_place i p here)

  -- what is read at the navigable, and then below it, is what is read at and below it in the order of the walk
  pub own_first : option_to_list (option_and_then read (place_in s.places nav)) ++ filter_map (read_below read nav) walk ≡ filter_map (read_at read nav) walk
  own_first =
      ap (λ (o : Option Place). option_to_list (option_and_then read o) ++ filter_map (read_below read nav) walk) (sym (found_walk s.places (places_distinct s sound hangs) nav))
      ∙ at_first read nav walk (walk_once s.places (places_distinct s sound hangs)) led (λ p there. (let at = get_of walk p there in not_above_itself s sound hangs p.nav p (own_place at.0 p at.1)))
