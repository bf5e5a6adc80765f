-- Looking up by halves: what lies before the middle is at most it, and what lies after it is greater.
use Rattle.std.proofs.Common.{◌≡◌, ◌≢◌, ℕ, suc, zero, ◌-◌, ◌*◌, ◌^◌, ◌<◌, ◌≤◌, Bool, true, false, ◌||◌, List, [], ◌∷◌, length, refl, ap, sym, ◌∙◌, filter, take, drop, get_or, arith, Some, None}
use Rattle.std.specs.Prelude.{nat_le, nat_lt, slice_get, max}
use Rattle.std.specs.List.{list_any}
use Rattle.std.proofs.lemmas.Bool.{false≢true, le-ltb, le-leb, lt-leb, or_parts, leb-false, ltb-false}
use Rattle.std.proofs.lemmas.List.{take_all}
use Rattle.std.proofs.lemmas.Option.{none-some, slice_get-get_or}
use Rattle.std.proofs.Math.Nat.{pow-suc, mul-le-mul_left, mul_assoc}
use Rattle.history_laws.proofs.Members.{or_right, or_none, some_same}
use Rattle.step_index.specs.Ascending.{IsAscending}

-- an item is in the list
pub item_in : {A : Type 0} (test : A → Bool) (xs : List A) (i : ℕ) (x : A) → slice_get xs i ≡ Some x → test x ≡ true → list_any test xs ≡ true
item_in test [] i x is passes = absurd (none-some x is)
item_in test (y ∷ xs) zero x is passes = ap (λ b. b || list_any test xs) (ap test (some_same y x is) ∙ passes)
item_in test (y ∷ xs) (suc i) x is passes = or_right (test y) (list_any test xs) (item_in test xs i x is passes)

pub not_in : {A : Type 0} (test : A → Bool) (xs : List A) (i : ℕ) (x : A) → slice_get xs i ≡ Some x → list_any test xs ≡ false → test x ≡ false
not_in test xs i x is none = by_test (test x) refl
  where
    by_test : (b : Bool) → test x ≡ b → test x ≡ false
    by_test true passes = absurd (false≢true (sym none ∙ item_in test xs i x is passes))
    by_test false fails = fails

module _ {A : Type 0} (number : A → ℕ) where
  -- the first is lower than each later one
  pub first_lower : (first : A) (items : List A) (i : ℕ) (item : A) → IsAscending number (first ∷ items) → slice_get items i ≡ Some item → number first < number item
  first_lower first items i item sorted is =
      leb-false (number item) (number first) (not_in (λ other. nat_le (number other) (number first)) items i item is sorted.0)

  pub upto_middle : (items : List A) (i : ℕ) (item : A) (bound : ℕ) → IsAscending number items → slice_get items i ≡ Some item → number item ≤ bound → list_any (λ x. nat_lt bound (number x)) (take (suc i) items) ≡ false
  upto_middle [] i item bound sorted is upto = absurd (none-some item is)
  upto_middle (first ∷ items) zero item bound sorted is upto =
      or_none _ _ (le-ltb bound (number first) (omega (arith, upto, ap number (some_same first item is)))) refl
  upto_middle (first ∷ items) (suc i) item bound sorted is upto =
      or_none _ _ (le-ltb bound (number first) (omega (arith, upto, first_lower first items i item sorted is))) (upto_middle items i item bound sorted.1 is upto)

  -- where the last is at most a number, all are
  pub upto_last : (items : List A) (item : A) (bound : ℕ) → IsAscending number items → slice_get items (length items - 1) ≡ Some item → number item ≤ bound → list_any (λ x. nat_lt bound (number x)) items ≡ false
  upto_last items item bound sorted is upto = ap (list_any (λ x. nat_lt bound (number x))) (sym whole) ∙ upto_middle items (length items - 1) item bound sorted is upto
    where
      whole : take (suc (length items - 1)) items ≡ items
      whole = take_all (suc (length items - 1)) items (omega arith)

  -- where there is no last, there is none
  pub no_last : (items : List A) (bound : ℕ) → slice_get items (length items - 1) ≡ None → list_any (λ x. nat_lt bound (number x)) items ≡ false
  no_last [] bound none = refl
  no_last (first ∷ items) bound none =
      absurd (none-some (get_or (first ∷ items) (length (first ∷ items) - 1) first) (sym none ∙ slice_get-get_or (first ∷ items) (length (first ∷ items) - 1) first (omega arith)))

  -- where the first is greater than a number, all are
  pub all_past : (first : A) (bound : ℕ) (items : List A) → bound < number first → list_any (λ other. nat_le (number other) (number first)) items ≡ false → list_any (λ x. nat_le (number x) bound) items ≡ false
  all_past first bound [] past none = refl
  all_past first bound (next ∷ items) past none =
      let both = or_parts (nat_le (number next) (number first)) (list_any (λ other. nat_le (number other) (number first)) items) none in
      or_none _ _ (lt-leb (number next) bound (omega (arith, past, leb-false (number next) (number first) both.0))) (all_past first bound items past both.1)

  pub past_middle : (items : List A) (i : ℕ) (item : A) (bound : ℕ) → IsAscending number items → slice_get items i ≡ Some item → bound < number item → list_any (λ x. nat_le (number x) bound) (drop i items) ≡ false
  past_middle [] i item bound sorted is past = absurd (none-some item is)
  past_middle (first ∷ items) zero item bound sorted is past =
      let beyond : bound < number first = omega (arith, past, ap number (some_same first item is)) in
      or_none _ _ (lt-leb (number first) bound beyond) (all_past first bound items beyond sorted.0)
  past_middle (first ∷ items) (suc i) item bound sorted is past = past_middle items i item bound sorted.1 is past

  -- what lies up to a number is the front
  pub cut_at : (items : List A) (i bound : ℕ) → list_any (λ x. nat_lt bound (number x)) (take i items) ≡ false → list_any (λ x. nat_le (number x) bound) (drop i items) ≡ false → filter (λ x. nat_le (number x) bound) items ≡ take i items
  cut_at [] zero bound upto past = refl
  cut_at [] (suc i) bound upto past = refl
  cut_at (first ∷ items) zero bound upto past =
      let both = or_parts (nat_le (number first) bound) (list_any (λ x. nat_le (number x) bound) items) past in
      rw both.0 (cut_at items zero bound refl both.1)
  cut_at (first ∷ items) (suc i) bound upto past =
      let both = or_parts (nat_lt bound (number first)) (list_any (λ x. nat_lt bound (number x)) (take i items)) upto in
      rw (le-leb (number first) bound (ltb-false bound (number first) both.0)) (ap (λ rest. first ∷ rest) (cut_at items i bound both.1 past))

  -- where the last item up to a number isn't at it, none is
  pub none_at : (items : List A) (i : ℕ) (item : A) (bound : ℕ) → IsAscending number items → slice_get items i ≡ Some item → list_any (λ x. nat_lt bound (number x)) (take (suc i) items) ≡ false → number item ≢ bound → list_any (λ x. nat_le bound (number x)) (take (suc i) items) ≡ false
  none_at [] i item bound sorted is upto other = absurd (none-some item is)
  none_at (first ∷ items) zero item bound sorted is upto other =
      let both = or_parts (nat_lt bound (number first)) false upto in
      let same : number first ≡ number item = ap number (some_same first item is) in
      or_none _ _ (lt-leb bound (number first) (below (ltb-false bound (number first) both.0) (λ e. other (sym same ∙ e)))) refl
    where
      below : {a b : ℕ} → a ≤ b → a ≢ b → a < b
      below {a} {b} upto apart = grind (arith, upto, apart)
  none_at (first ∷ items) (suc i) item bound sorted is upto other =
      let both = or_parts (nat_lt bound (number first)) (list_any (λ x. nat_lt bound (number x)) (take (suc i) items)) upto in
      or_none _ _
      (lt-leb bound (number first) (omega (arith, first_lower first items i item sorted is, ltb-false bound (number item) (not_in (λ x. nat_lt bound (number x)) (take (suc i) items) i item (taken items i item is) both.1))))
      (none_at items i item bound sorted.1 is both.1 other)
    where
      taken : (xs : List A) (j : ℕ) (x : A) → slice_get xs j ≡ Some x → slice_get (take (suc j) xs) j ≡ Some x
      taken [] j x there = absurd (none-some x there)
      taken (y ∷ xs) zero x there = there
      taken (y ∷ xs) (suc j) x there = taken xs j x there

-- half of what is left, for one tick more
pub halved : (t left less all : ℕ) → 2 ^ t * max 1 (2 * left) ≤ all → 2 * less ≤ left → 1 ≤ left → 2 ^ (suc t) * max 1 (2 * less) ≤ all
halved t left less all within half some =
    let twice : 2 * max 1 (2 * less) ≤ max 1 (2 * left) = omega (arith, half, some) in
    let grown : 2 ^ t * (2 * max 1 (2 * less)) ≤ 2 ^ t * max 1 (2 * left) = mul-le-mul_left (2 ^ t) twice in
    let same : 2 ^ (suc t) * max 1 (2 * less) ≡ 2 ^ t * (2 * max 1 (2 * less)) =
    ap (λ n. n * max 1 (2 * less)) (pow-suc 2 t) ∙ mul_assoc (2 ^ t) 2 (max 1 (2 * less)) in
    omega (arith, within, grown, same)

-- the item at a place
pub item_at : {A : Type 0} (items : List A) (i : ℕ) (item : A) → i < length items → item ≡ get_or items i item → slice_get items i ≡ Some item
item_at items i item within is = slice_get-get_or items i item within ∙ ap (λ x. Some x) (sym is)
