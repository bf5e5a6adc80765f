-- The navigables in the order of the walk: none comes before one above it.
use Rattle.std.proofs.Common.{◌≡◌, ℕ, zero, suc, ◌<◌, ◌⊎◌, inl, inr, Bool, true, false, cond, ◌||◌, ◌==◌, List, [], ◌∷◌, ◌++◌, map, Some, None, refl, sym, ap, ◌∙◌, subst, arith}
use Rattle.std.specs.Prelude.{slice_get, fold, nat_lt}
use Rattle.std.proofs.lemmas.Bool.Decides.{nat_tests}
use Rattle.tab_ids.specs.declared.NavId.{NavId}
use Rattle.log_model.specs.History.{has_nav}
use Rattle.log_model.specs.Seen.{Seen, Place, place_in, place_of}
use Rattle.log_model.specs.Soundness.{IsSound}
use Rattle.log_model.specs.Places.{way_of, is_below}
use Rattle.log_model.specs.Walk.{backwards, way_from_top, is_way_before, walk_with, walk_of}
use Rattle.seen_facts.specs.Hang.AsPlaces.{AreDistinct, IsChain}
use Rattle.seen_facts.specs.Hang.Hanging.{Hangs}
use Rattle.seen_facts.proofs.Hang.Forms.{nav_is}
use Rattle.seen_facts.proofs.Hang.Hung.{place_chain, places_distinct}
use Rattle.seen_facts.specs.Walk.Walking.{IsApart, IsWalk}
use Rattle.seen_facts.proofs.Walk.Placed.{each_found}

-- ---- ways

before_total : (a b : List NavId) → is_way_before a b ≡ false → is_way_before b a ≡ true
before_total [] b e = let no_ : true ≡ false = e in cc
before_total (x ∷ a) [] e = refl
before_total (x ∷ a) (y ∷ b) e = by_test (x.0 == y.0) (y.0 == x.0) refl refl (before_total a b) e
  where
    by_test : (p q : Bool) → (x.0 == y.0) ≡ p → (y.0 == x.0) ≡ q → (is_way_before a b ≡ false → is_way_before b a ≡ true) → cond p (is_way_before a b) (nat_lt x.0 y.0) ≡ false → cond q (is_way_before b a) (nat_lt y.0 x.0) ≡ true
    by_test true true f g more h = more h
    by_test true false f g more h = let no_ : false ≡ true = (grind (arith, nat_tests, f, g)) in cc
    by_test false true f g more h = let no_ : false ≡ true = (grind (arith, nat_tests, f, g)) in cc
    by_test false false f g more h = grind (arith, nat_tests, f, g, h)

before_trans : (a b c : List NavId) → is_way_before a b ≡ true → is_way_before b c ≡ true → is_way_before a c ≡ true
before_trans [] b c e f = refl
before_trans (x ∷ a) [] c e f = let no_ : false ≡ true = e in cc
before_trans (x ∷ a) (y ∷ b) [] e f = let no_ : false ≡ true = f in cc
before_trans (x ∷ a) (y ∷ b) (z ∷ c) e f = by_test (x.0 == y.0) (y.0 == z.0) (x.0 == z.0) refl refl refl (before_trans a b c) e f
  where
    by_test : (p q r : Bool) → (x.0 == y.0) ≡ p → (y.0 == z.0) ≡ q → (x.0 == z.0) ≡ r → (is_way_before a b ≡ true → is_way_before b c ≡ true → is_way_before a c ≡ true) → cond p (is_way_before a b) (nat_lt x.0 y.0) ≡ true → cond q (is_way_before b c) (nat_lt y.0 z.0) ≡ true → cond r (is_way_before a c) (nat_lt x.0 z.0) ≡ true
    by_test true true true i j k more g h = more g h
    by_test true true false i j k more g h = let no_ : false ≡ true = grind (arith, nat_tests, i, j, k) in cc
    by_test true false true i j k more g h = let no_ : false ≡ true = grind (arith, nat_tests, i, j, k) in cc
    by_test true false false i j k more g h = grind (arith, nat_tests, i, j, k, h)
    by_test false true true i j k more g h = let no_ : false ≡ true = grind (arith, nat_tests, i, j, k) in cc
    by_test false true false i j k more g h = grind (arith, nat_tests, i, j, k, g)
    by_test false false true i j k more g h = let no_ : false ≡ true = grind (arith, nat_tests, i, j, k, g, h) in cc
    by_test false false false i j k more g h = grind (arith, nat_tests, i, j, k, g, h)

-- a longer way comes after its beginning
long_after : (w : List NavId) (x : NavId) (r : List NavId) → is_way_before (w ++ x ∷ r) w ≡ false
long_after [] x r = refl
long_after (n ∷ w) x r = let same : (n.0 == n.0) ≡ true = grind (arith, nat_tests) in rw same (long_after w x r)

pub back_onto : (acc l : List NavId) → fold (λ (done : List NavId) (nav : NavId). nav ∷ done) acc l ≡ backwards l ++ acc
back_onto acc [] = refl
back_onto acc (x ∷ l) = back_onto (x ∷ acc) l ∙ sym (moved (backwards l) x acc) ∙ ap (λ (m : List NavId). m ++ acc) (sym (back_onto (x ∷ []) l))
  where
    moved : (m : List NavId) (x : NavId) (acc : List NavId) → (m ++ x ∷ []) ++ acc ≡ m ++ x ∷ acc
    moved [] x acc = refl
    moved (y ∷ m) x acc = ap (λ (k : List NavId). y ∷ k) (moved m x acc)

back_append : (front back : List NavId) → backwards (front ++ back) ≡ backwards back ++ backwards front
back_append front back = split [] front ∙ back_onto (backwards front) back
  where
    split : (acc front : List NavId) → fold (λ (done : List NavId) (nav : NavId). nav ∷ done) acc (front ++ back) ≡ fold (λ (done : List NavId) (nav : NavId). nav ∷ done) (fold (λ (done : List NavId) (nav : NavId). nav ∷ done) acc front) back
    split acc [] = refl
    split acc (x ∷ front) = split (x ∷ acc) front

-- ---- a list in the order

abbrev AreAfter : Place → List Place → Type 0
AreAfter p [] = Unit {0}
AreAfter p (q ∷ l) = (is_way_before (way_from_top p) (way_from_top q) ≡ true) × AreAfter p l

abbrev IsOrdered : List Place → Type 0
IsOrdered [] = Unit {0}
IsOrdered (p ∷ l) = AreAfter p l × IsOrdered l

after_trans : (p q : Place) (l : List Place) → is_way_before (way_from_top p) (way_from_top q) ≡ true → AreAfter q l → AreAfter p l
after_trans p q [] e all = tt
after_trans p q (r ∷ l) e all = (before_trans (way_from_top p) (way_from_top q) (way_from_top r) e all.0, after_trans p q l e all.1)

after_with : (q p : Place) (l : List Place) → is_way_before (way_from_top q) (way_from_top p) ≡ true → AreAfter q l → AreAfter q (walk_with p l)
after_with q p [] e all = (e, tt)
after_with q p (first ∷ l) e all = by_test (is_way_before (way_from_top p) (way_from_top first)) (after_with q p l e all.1)
  where
    by_test : (b : Bool) → AreAfter q (walk_with p l) → AreAfter q (cond b (p ∷ first ∷ l) (first ∷ walk_with p l))
    by_test true more = (e, all)
    by_test false more = (all.0, more)

ordered_with : (p : Place) (l : List Place) → IsOrdered l → IsOrdered (walk_with p l)
ordered_with p [] is = (tt, tt)
ordered_with p (first ∷ l) is = by_test (is_way_before (way_from_top p) (way_from_top first)) refl (ordered_with p l is.1)
  where
    by_test : (b : Bool) → is_way_before (way_from_top p) (way_from_top first) ≡ b → IsOrdered (walk_with p l) → IsOrdered (cond b (p ∷ first ∷ l) (first ∷ walk_with p l))
    by_test true e more = ((e, after_trans p first l e is.0), is)
    by_test false e more = (after_with first p l (before_total (way_from_top p) (way_from_top first) e) is.0, more)

walk_ordered : (l : List Place) → IsOrdered (walk_of l)
walk_ordered [] = tt
walk_ordered (p ∷ l) = ordered_with p (walk_of l) (walk_ordered l)

after_at : (p : Place) (l : List Place) (j : ℕ) (q : Place) → AreAfter p l → slice_get l j ≡ Some q → is_way_before (way_from_top p) (way_from_top q) ≡ true
after_at p [] j q all e = cc
after_at p (x ∷ l) zero q all e = let same : x ≡ q = cc in subst (λ (y : Place). is_way_before (way_from_top p) (way_from_top y) ≡ true) same all.0
after_at p (x ∷ l) (suc j) q all e = after_at p l j q all.1 e

ordered_at : (l : List Place) (i j : ℕ) (p q : Place) → IsOrdered l → i < j → slice_get l i ≡ Some p → slice_get l j ≡ Some q → is_way_before (way_from_top p) (way_from_top q) ≡ true
ordered_at [] i j p q is less e f = cc
ordered_at (x ∷ l) i zero p q is less e f = absurd (omega (arith, less))
ordered_at (x ∷ l) zero (suc j) p q is less e f = let same : x ≡ p = cc in subst (λ (y : Place). is_way_before (way_from_top y) (way_from_top q) ≡ true) same (after_at x l j q is.0 f)
ordered_at (x ∷ l) (suc i) (suc j) p q is less e f = ordered_at l i j p q is.1 (omega (arith, less)) e f

-- ---- each once

none_with : (p : Place) (l : List Place) (nav : NavId) → (p.nav.0 == nav.0) ≡ false → place_in l nav ≡ None → place_in (walk_with p l) nav ≡ None
none_with p [] nav e none = rw e refl
none_with p (first ∷ l) nav e none = by_test (is_way_before (way_from_top p) (way_from_top first)) (first.nav.0 == nav.0) refl (none_with p l nav e) none
  where
    by_test : (b c : Bool) → (first.nav.0 == nav.0) ≡ c → (place_in l nav ≡ None → place_in (walk_with p l) nav ≡ None) → cond c (Some first) (place_in l nav) ≡ None → place_in (cond b (p ∷ first ∷ l) (first ∷ walk_with p l)) nav ≡ None
    by_test b true f more h = let no_ : Some first ≡ None = h in cc
    by_test true false f more h = rw (e, f) h
    by_test false false f more h = rw f (more h)

pub none_get : (l : List Place) (nav : NavId) (j : ℕ) (q : Place) → place_in l nav ≡ None → slice_get l j ≡ Some q → (q.nav.0 == nav.0) ≡ false
none_get [] nav j q none e = cc
none_get (x ∷ l) nav j q none e = by_test (x.nav.0 == nav.0) refl j e none (none_get l nav)
  where
    by_test : (b : Bool) → (x.nav.0 == nav.0) ≡ b → (j : ℕ) → slice_get (x ∷ l) j ≡ Some q → cond b (Some x) (place_in l nav) ≡ None → ((j : ℕ) (q : Place) → place_in l nav ≡ None → slice_get l j ≡ Some q → (q.nav.0 == nav.0) ≡ false) → (q.nav.0 == nav.0) ≡ false
    by_test true f j g h more = let no_ : Some x ≡ None = h in cc
    by_test false f zero g h more = let same : x ≡ q = cc in subst (λ (y : Place). (y.nav.0 == nav.0) ≡ false) same f
    by_test false f (suc j) g h more = more j q h g

turned : (a b : ℕ) → (a == b) ≡ false → (b == a) ≡ false
turned a b e = by (b == a) refl
  where
    by : (x : Bool) → (b == a) ≡ x → x ≡ false
    by false f = refl
    by true f = let no_ : false ≡ true = grind (arith, nat_tests, e, f) in cc

once_with : (p : Place) (l : List Place) → place_in l p.nav ≡ None → AreDistinct l → AreDistinct (walk_with p l)
once_with p [] none is = (refl, tt)
once_with p (first ∷ l) none is = by_test (is_way_before (way_from_top p) (way_from_top first)) (first.nav.0 == p.nav.0) refl none (once_with p l)
  where
    by_test : (b c : Bool) → (first.nav.0 == p.nav.0) ≡ c → cond c (Some first) (place_in l p.nav) ≡ None → (place_in l p.nav ≡ None → AreDistinct l → AreDistinct (walk_with p l)) → AreDistinct (cond b (p ∷ first ∷ l) (first ∷ walk_with p l))
    by_test b true f h more = let no_ : Some first ≡ None = h in cc
    by_test true false f h more = (rw f h, is)
    by_test false false f h more = (none_with p l first.nav (turned first.nav.0 p.nav.0 f) is.0, more h is.1)

pub none_walk : (l : List Place) (nav : NavId) → place_in l nav ≡ None → place_in (walk_of l) nav ≡ None
none_walk [] nav none = refl
none_walk (p ∷ l) nav none = by_test (p.nav.0 == nav.0) refl none (none_walk l nav)
  where
    by_test : (c : Bool) → (p.nav.0 == nav.0) ≡ c → cond c (Some p) (place_in l nav) ≡ None → (place_in l nav ≡ None → place_in (walk_of l) nav ≡ None) → place_in (walk_with p (walk_of l)) nav ≡ None
    by_test true f h more = let no_ : Some p ≡ None = h in cc
    by_test false f h more = none_with p (walk_of l) nav f (more h)

pub walk_once : (l : List Place) → AreDistinct l → AreDistinct (walk_of l)
walk_once [] is = tt
walk_once (p ∷ l) is = once_with p (walk_of l) (none_walk l p.nav is.0) (walk_once l is.1)

once_at : (l : List Place) (i j : ℕ) (p q : Place) → AreDistinct l → i < j → slice_get l i ≡ Some p → slice_get l j ≡ Some q → (p.nav.0 == q.nav.0) ≡ false
once_at [] i j p q is less e f = cc
once_at (x ∷ l) i zero p q is less e f = absurd (omega (arith, less))
once_at (x ∷ l) zero (suc j) p q is less e f = let same : x ≡ p = cc in subst (λ (y : Place). (y.nav.0 == q.nav.0) ≡ false) same (turned q.nav.0 x.nav.0 (none_get l x.nav j q is.0 f))
once_at (x ∷ l) (suc i) (suc j) p q is less e f = once_at l i j p q is.1 (omega (arith, less)) e f

-- ---- the same places

member_with : (p : Place) (l : List Place) (i : ℕ) (q : Place) → slice_get (walk_with p l) i ≡ Some q → (p ≡ q) ⊎ ((k : ℕ) × (slice_get l k ≡ Some q))
member_with p [] zero q e = inl (let same : p ≡ q = cc in same)
member_with p [] (suc i) q e = cc
member_with p (first ∷ l) i q e = by_test (is_way_before (way_from_top p) (way_from_top first)) i e (member_with p l)
  where
    later : (p ≡ q) ⊎ ((k : ℕ) × (slice_get l k ≡ Some q)) → (p ≡ q) ⊎ ((k : ℕ) × (slice_get (first ∷ l) k ≡ Some q))
    later (inl same) = inl same
    later (inr at) = inr (suc at.0, at.1)

    by_test : (b : Bool) (i : ℕ) → slice_get (cond b (p ∷ first ∷ l) (first ∷ walk_with p l)) i ≡ Some q → ((i : ℕ) (q : Place) → slice_get (walk_with p l) i ≡ Some q → (p ≡ q) ⊎ ((k : ℕ) × (slice_get l k ≡ Some q))) → (p ≡ q) ⊎ ((k : ℕ) × (slice_get (first ∷ l) k ≡ Some q))
    by_test true zero f more = inl (let same : p ≡ q = cc in same)
    by_test true (suc i) f more = inr (i, f)
    by_test false zero f more = inr (0, f)
    by_test false (suc i) f more = later (more i q f)

pub walk_member : (l : List Place) (i : ℕ) (q : Place) → slice_get (walk_of l) i ≡ Some q → (k : ℕ) × (slice_get l k ≡ Some q)
walk_member [] i q e = cc
walk_member (p ∷ l) i q e = by_case (member_with p (walk_of l) i q e) (walk_member l)
  where
    by_case : (p ≡ q) ⊎ ((k : ℕ) × (slice_get (walk_of l) k ≡ Some q)) → ((i : ℕ) (q : Place) → slice_get (walk_of l) i ≡ Some q → (k : ℕ) × (slice_get l k ≡ Some q)) → (k : ℕ) × (slice_get (p ∷ l) k ≡ Some q)
    by_case (inl same) more = (0, ap (λ (y : Place). Some y) same)
    by_case (inr at) more = let old = more at.0 q at.1 in (suc old.0, old.1)

navs_with : (p : Place) (l : List Place) (nav : NavId) → has_nav (map (λ (q : Place). q.nav) (walk_with p l)) nav ≡ ((p.nav.0 == nav.0) || has_nav (map (λ (q : Place). q.nav) l) nav)
navs_with p [] nav = refl
navs_with p (first ∷ l) nav = by_test (is_way_before (way_from_top p) (way_from_top first)) (navs_with p l nav)
  where
    swapped : (a b c : Bool) → (a || (b || c)) ≡ (b || (a || c))
    swapped true true c = refl
    swapped true false c = refl
    swapped false true c = refl
    swapped false false c = refl

    by_test : (b : Bool) → has_nav (map (λ (q : Place). q.nav) (walk_with p l)) nav ≡ ((p.nav.0 == nav.0) || has_nav (map (λ (q : Place). q.nav) l) nav) → has_nav (map (λ (q : Place). q.nav) (cond b (p ∷ first ∷ l) (first ∷ walk_with p l))) nav ≡ ((p.nav.0 == nav.0) || has_nav (map (λ (q : Place). q.nav) (first ∷ l)) nav)
    by_test true more = refl
    by_test false more = rw more (swapped (first.nav.0 == nav.0) (p.nav.0 == nav.0) (has_nav (map (λ (q : Place). q.nav) l) nav))

found_in_walk : (l : List Place) (nav : NavId) (place : Place) → place_in l nav ≡ Some place → has_nav (map (λ (q : Place). q.nav) (walk_of l)) nav ≡ true
found_in_walk [] nav place e = cc
found_in_walk (p ∷ l) nav place e = navs_with p (walk_of l) nav ∙ by_test (p.nav.0 == nav.0) e (found_in_walk l nav place)
  where
    by_test : (b : Bool) → cond b (Some p) (place_in l nav) ≡ Some place → (place_in l nav ≡ Some place → has_nav (map (λ (q : Place). q.nav) (walk_of l)) nav ≡ true) → (b || has_nav (map (λ (q : Place). q.nav) (walk_of l)) nav) ≡ true
    by_test true f more = refl
    by_test false f more = more f

-- ---- the whole

-- where one is above, the way splits there
record Splits (places : List Place) (above : List NavId) (nav : NavId) : Type 0 where
  pub front : List NavId
  pub rest : List NavId
  pub is : above ≡ front ++ nav ∷ rest
  pub place : Place
  pub found : place_in places nav ≡ Some place
  pub above_is : place.above ≡ rest

splits : (places : List Place) (above : List NavId) (nav : NavId) → IsChain places above → has_nav above nav ≡ true → Splits places above nav
splits places [] nav chain has = let no_ : false ≡ true = has in cc
splits places (a ∷ above) nav chain has = by_test (a.0 == nav.0) refl has (splits places above nav chain.1)
  where
    by_test : (b : Bool) → (a.0 == nav.0) ≡ b → (b || has_nav above nav) ≡ true → (has_nav above nav ≡ true → Splits places above nav) → Splits places (a ∷ above) nav
    by_test true e h more =
        let same : a ≡ nav = nav_is a nav e in
        record { front = []; rest = above; is = ap (λ (m : NavId). m ∷ above) same; place = chain.0.place; found = ap (λ (m : NavId). place_in places m) (sym same) ∙ chain.0.found; above_is = chain.0.above_is }
    by_test false e h more = let s = more h in record { front = a ∷ s.front; rest = s.rest; is = ap (λ (l : List NavId). a ∷ l) s.is; place = s.place; found = s.found; above_is = s.above_is }

get_nav : (l : List Place) (i : ℕ) (nav : NavId) → slice_get (map (λ (q : Place). q.nav) l) i ≡ Some nav → (p : Place) × (slice_get l i ≡ Some p) × (p.nav ≡ nav)
get_nav [] i nav e = cc
get_nav (x ∷ l) zero nav e = (x, refl, let same : x.nav ≡ nav = cc in same)
get_nav (x ∷ l) (suc i) nav e = get_nav l i nav e

pub walk_is : (s : Seen) → IsSound s.history → Hangs s → IsWalk s (map (λ (q : Place). q.nav) (walk_of s.places))
walk_is s sound hangs =
    record {
      all = λ nav place found. found_in_walk s.places nav place found;
      apart = λ i j one other less here there. apart i j one other less (get_nav (walk_of s.places) i one here) (get_nav (walk_of s.places) j other there);
    }
  where
    apart : (i j : ℕ) (one other : NavId) → i < j → (p : Place) × (slice_get (walk_of s.places) i ≡ Some p) × (p.nav ≡ one) → (q : Place) × (slice_get (walk_of s.places) j ≡ Some q) × (q.nav ≡ other) → IsApart s other one
    apart i j one other less p q =
        record {
          differs = subst (λ (m : NavId). (m.0 == other.0) ≡ false) p.2 (subst (λ (m : NavId). (p.0.nav.0 == m.0) ≡ false) q.2 (once_at (walk_of s.places) i j p.0 q.0 (walk_once s.places (places_distinct s sound hangs)) less p.1 q.1));
          beside = λ place found. by_test place found (is_below other place) refl;
        }
      where
        at_p : (k : ℕ) × (slice_get s.places k ≡ Some p.0)
        at_p = walk_member s.places i p.0 p.1

        at_q : (k : ℕ) × (slice_get s.places k ≡ Some q.0)
        at_q = walk_member s.places j q.0 q.1

        by_test : (place : Place) → place_of s one ≡ Some place → (b : Bool) → is_below other place ≡ b → b ≡ false
        by_test place found false e = refl
        by_test place found true e =
            let mine : place_of s one ≡ Some p.0 = ap (λ (m : NavId). place_of s m) (sym p.2) ∙ each_found s.places (places_distinct s sound hangs) at_p.0 p.0 at_p.1 in
            let its : place_of s other ≡ Some q.0 = ap (λ (m : NavId). place_of s m) (sym q.2) ∙ each_found s.places (places_distinct s sound hangs) at_q.0 q.0 at_q.1 in
            let one_ : Some place ≡ Some p.0 = sym found ∙ mine in
            let same : place ≡ p.0 = cc in
            let has : has_nav p.0.above other ≡ true = ap (λ (x : Place). has_nav x.above other) (sym same) ∙ e in
            let parts = splits s.places p.0.above other (place_chain s sound hangs p.0.nav p.0 (each_found s.places (places_distinct s sound hangs) at_p.0 p.0 at_p.1)) has in
            let two_ : Some parts.place ≡ Some q.0 = sym parts.found ∙ its in
            let other_ : parts.place ≡ q.0 = cc in
            let rest : q.0.above ≡ parts.rest = ap (λ (x : Place). x.above) (sym other_) ∙ parts.above_is in
            let way : way_from_top p.0 ≡ way_from_top q.0 ++ backwards (p.0.nav ∷ parts.front) =
            ap (λ (l : List NavId). backwards (p.0.nav ∷ l)) parts.is ∙ back_append (p.0.nav ∷ parts.front) (other ∷ parts.rest) ∙ ap (λ (l : List NavId). backwards l ++ backwards (p.0.nav ∷ parts.front)) (let w : other ∷ parts.rest ≡ way_of q.0 = ap (λ (m : NavId). m ∷ parts.rest) (sym q.2) ∙ ap (λ (l : List NavId). q.0.nav ∷ l) (sym rest) in w) in
            let before : is_way_before (way_from_top p.0) (way_from_top q.0) ≡ true = ordered_at (walk_of s.places) i j p.0 q.0 (walk_ordered s.places) less p.1 q.1 in
            let long : is_way_before (way_from_top p.0) (way_from_top q.0) ≡ false = ap (λ (l : List NavId). is_way_before l (way_from_top q.0)) way ∙ ends (backwards (p.0.nav ∷ parts.front)) (shape p.0.nav parts.front) in
            let no_ : false ≡ true = sym long ∙ before in cc
          where
            shape : (x : NavId) (l : List NavId) → (y : NavId) × (r : List NavId) × (backwards (x ∷ l) ≡ y ∷ r)
            shape x l = by_list (backwards l) (back_onto (x ∷ []) l)
              where
                by_list : (m : List NavId) → backwards (x ∷ l) ≡ m ++ x ∷ [] → (y : NavId) × (r : List NavId) × (backwards (x ∷ l) ≡ y ∷ r)
                by_list [] e = (x, [], e)
                by_list (y ∷ m) e = (y, m ++ x ∷ [], e)

            ends : (t : List NavId) → (y : NavId) × (r : List NavId) × (t ≡ y ∷ r) → is_way_before (way_from_top q.0 ++ t) (way_from_top q.0) ≡ false
            ends t is = ap (λ (l : List NavId). is_way_before (way_from_top q.0 ++ l) (way_from_top q.0)) is.2 ∙ long_after (way_from_top q.0) is.0 is.1
