-- The order of the walk is that of the log's places.
use Rattle.std.proofs.Common.{◌≡◌, ◌≤◌, ℕ, zero, suc, true, false, cond, List, [], ◌∷◌, length, map, Some, None, refl, sym, ap, ◌∙◌, subst, arith}
use Rattle.std.specs.Prelude.{◌==◌, slice_get, reverse}
use Rattle.std.proofs.lemmas.Bool.Decides.{nat_tests}
use Rattle.std.specs.BTreeMap.{insert_entry}
use Rattle.std.specs.declared.cmp.Ordering.{Ordering}
use Rattle.std.specs.declared.cmp.Ordering.TheVariants.{Less, Equal, Greater}
use Rattle.std.specs.Ordering.{nat_cmp, match_ordering}
use Rattle.std.specs.Cmp.Lexicographic.{slice_cmp}
use Rattle.tab_ids.specs.declared.NavId.{NavId}
use Rattle.log_model.specs.Seen.{Place, place_in}
use Rattle.log_model.specs.Places.{way_of}
use Rattle.log_model.specs.Walk as log
use Rattle.log_model.specs.Walk.{way_from_top, is_way_before, walk_with, backwards}
use Rattle.nav_tree.specs.Tree.{Tree}
use Rattle.apply_plan.specs.Order.{rest, way_in, sorted_in, walk_of}
use Rattle.plan_laws.specs.Held.{AreAbove, AreHeld}
use Rattle.seen_facts.specs.Hang.AsPlaces.{AreDistinct}
use Rattle.plan_laws.proofs.Ways.{numbers, numbers_back, back_back, Tells, tells}
use Rattle.plan_laws.proofs.Placed.{none_here, none_walk}

-- a place under the numbers of its way
abbrev keyed : Place → List ℕ × NavId
keyed p = (numbers (way_from_top p), p.nav)

-- put in by the numbers of its way it comes where the walk has it
insert_is : (p : Place) (l : List Place) → place_in l p.nav ≡ None → insert_entry (slice_cmp nat_cmp) (map keyed l) (numbers (way_from_top p)) p.nav ≡ map keyed (walk_with p l)
insert_is p [] none = refl
insert_is p (q ∷ l) none = by_order (slice_cmp nat_cmp (numbers (way_from_top p)) (numbers (way_from_top q))) (tells (way_from_top p) (way_from_top q)) (insert_is p l (none_here q l p.nav none).1)
  where
    by_order : (o : Ordering) → Tells (way_from_top p) (way_from_top q) o → insert_entry (slice_cmp nat_cmp) (map keyed l) (numbers (way_from_top p)) p.nav ≡ map keyed (walk_with p l) → match_ordering o (keyed p ∷ keyed q ∷ map keyed l) ((numbers (way_from_top q), p.nav) ∷ map keyed l) (keyed q ∷ insert_entry (slice_cmp nat_cmp) (map keyed l) (numbers (way_from_top p)) p.nav) ≡ map keyed (cond (is_way_before (way_from_top p) (way_from_top q)) (p ∷ q ∷ l) (q ∷ walk_with p l))
    by_order Less t more = rw t refl
    by_order Equal t more =
        let ways : way_of p ≡ way_of q = sym (back_back (way_of p)) ∙ ap backwards t ∙ back_back (way_of q) in
        let navs : Some p.nav ≡ Some q.nav = ap (λ (l : List NavId). slice_get l 0) ways in
        let same : p.nav ≡ q.nav = cc in
        let no_ : (q.nav.0 == q.nav.0) ≡ false = subst (λ (m : NavId). (q.nav.0 == m.0) ≡ false) same (none_here q l p.nav none).0 in
        let yes_ : (q.nav.0 == q.nav.0) ≡ true = grind (arith, nat_tests) in
        let bad : true ≡ false = sym yes_ ∙ no_ in
        cc
    by_order Greater t more = rw t (ap (λ (m : List (List ℕ × NavId)). keyed q ∷ m) more)

-- the numbers of those above one
rest_is : (tree : Tree) (above : List NavId) (n : ℕ) (nav : NavId) → AreAbove tree nav above → length above ≤ n → rest n tree nav ≡ numbers above
rest_is tree [] zero nav are low = refl
rest_is tree [] (suc n) nav are low = rw are refl
rest_is tree (a ∷ above) zero nav are low = absurd (omega (arith, low))
rest_is tree (a ∷ above) (suc n) nav are low = rw are.0 (ap (λ (l : List ℕ). a.0 ∷ l) (rest_is tree above n a are.1 (omega (arith, low))))

-- the way of a place's navigable
pub way_is : (places : List Place) (tree : Tree) → AreHeld places tree → (i : ℕ) (place : Place) → slice_get places i ≡ Some place → way_in tree place.nav ≡ numbers (way_from_top place)
way_is places tree held i place there =
    ap (λ (l : List ℕ). reverse (place.nav.0 ∷ l)) (rest_is tree place.above (length tree.navs) place.nav (held.above i place there) (held.depth i place there)) ∙ numbers_back (way_of place)

sorted_are : (tree : Tree) (l : List Place) → ((i : ℕ) (p : Place) → slice_get l i ≡ Some p → way_in tree p.nav ≡ numbers (way_from_top p)) → AreDistinct l → sorted_in tree (map (λ (p : Place). p.nav) l) ≡ map keyed (log.walk_of l)
sorted_are tree [] ways distinct = refl
sorted_are tree (p ∷ l) ways distinct =
    ap (λ (m : List (List ℕ × NavId)). insert_entry (slice_cmp nat_cmp) m (way_in tree p.nav) p.nav) (sorted_are tree l (λ i q e. ways (suc i) q e) distinct.1)
    ∙ ap (λ (w : List ℕ). insert_entry (slice_cmp nat_cmp) (map keyed (log.walk_of l)) w p.nav) (ways 0 p refl)
    ∙ insert_is p (log.walk_of l) (none_walk l p.nav distinct.0)

navs_of : (l : List Place) → map (λ (e : List ℕ × NavId). e.1) (map keyed l) ≡ map (λ (p : Place). p.nav) l
navs_of [] = refl
navs_of (p ∷ l) = ap (λ (m : List NavId). p.nav ∷ m) (navs_of l)

-- the walk through the tree is that through the places
pub walk_is : (places : List Place) (tree : Tree) → AreHeld places tree → walk_of tree ≡ map (λ (p : Place). p.nav) (log.walk_of places)
walk_is places tree held =
    ap (λ (l : List NavId). map (λ (e : List ℕ × NavId). e.1) (sorted_in tree l)) held.order
    ∙ ap (λ (m : List (List ℕ × NavId)). map (λ (e : List ℕ × NavId). e.1) m) (sorted_are tree places (way_is places tree held) held.distinct)
    ∙ navs_of (log.walk_of places)
