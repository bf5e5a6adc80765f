-- The elements of a list, seen by the tests that they pass, and what a filter keeps of them.
use Rattle.std.proofs.Common.{◌≡◌, Bool, true, false, not, ◌&&◌, ◌||◌, cond, List, [], ◌∷◌, refl, ap, sym, ◌∙◌, filter, inl, inr, find, Some, None, subst}
use Rattle.std.specs.List.{list_any}
use Rattle.std.specs.Option.{option_map_or}
use Rattle.std.proofs.lemmas.Option.{none-some}
use Rattle.std.proofs.lemmas.Bool.{false≢true, or_cases, and_parts, and_from, cases_Bool, not-true}

-- the list has the element: whatever test it passes, an element passes
abbrev pub IsIn : {A : Type 0} → List A → A → Type 0
IsIn {A} xs x = (test : A → Bool) → test x ≡ true → list_any test xs ≡ true

pub or_right : (a b : Bool) → b ≡ true → (a || b) ≡ true
or_right true b e = refl
or_right false b e = e

pub or_none : (a b : Bool) → a ≡ false → b ≡ false → (a || b) ≡ false
or_none true b e f = e
or_none false b e f = f

pub IsIn-head : {A : Type 0} (xs : List A) (x : A) → IsIn (x ∷ xs) x
IsIn-head xs x test passes = rw passes refl

pub IsIn-tail : {A : Type 0} (xs : List A) (y x : A) → IsIn xs x → IsIn (y ∷ xs) x
IsIn-tail xs y x there test passes = or_right (test y) (list_any test xs) (there test passes)

-- an element of the list that passes
pub record Witness {A : Type 0} (test : A → Bool) (xs : List A) : Type 0 where
  pub it : A
  pub passes : test it ≡ true
  pub is_in : IsIn xs it

pub witness : {A : Type 0} (test : A → Bool) (xs : List A) → list_any test xs ≡ true → Witness test xs
witness test [] any = absurd (false≢true any)
witness test (x ∷ xs) any =
    elim (or_cases (test x) (list_any test xs) any) [
      | inl here ↦ record { it = x; passes = here; is_in = IsIn-head xs x }
      | inr there ↦ let w = witness test xs there in record { it = w.it; passes = w.passes; is_in = IsIn-tail xs x w.it w.is_in }
    ]

-- no element passes
pub list_any-none : {A : Type 0} (test : A → Bool) (xs : List A) → ((x : A) → IsIn xs x → test x ≡ false) → list_any test xs ≡ false
list_any-none test [] none = refl
list_any-none test (x ∷ xs) none = or_none (test x) (list_any test xs) (none x (IsIn-head xs x)) (list_any-none test xs (λ y there. none y (IsIn-tail xs x y there)))

-- where none passes, no element does
pub none_passes : {A : Type 0} (test : A → Bool) (xs : List A) → list_any test xs ≡ false → (x : A) → IsIn xs x → test x ≡ false
none_passes test xs none x there =
    elim (cases_Bool (test x)) [
      | inl passes ↦ absurd (false≢true (sym none ∙ there test passes))
      | inr fails ↦ fails
    ]

-- where the elements that pass one test pass another
pub list_any-weaker : {A : Type 0} (p q : A → Bool) (xs : List A) → ((x : A) → IsIn xs x → p x ≡ true → q x ≡ true) → list_any p xs ≡ true → list_any q xs ≡ true
list_any-weaker p q xs weaker any = let w = witness p xs any in w.is_in q (weaker w.it w.is_in w.passes)

-- what a filter keeps
pub list_any-filter : {A : Type 0} (p q : A → Bool) (xs : List A) → list_any p (filter q xs) ≡ list_any (λ x. q x && p x) xs
list_any-filter p q [] = refl
list_any-filter p q (x ∷ xs) =
    elim (q x) as (λ b. list_any p (cond b (x ∷ filter q xs) (filter q xs)) ≡ ((b && p x) || list_any (λ y. q y && p y) xs)) [
      | true ↦ ap (λ r. p x || r) (list_any-filter p q xs)
      | false ↦ list_any-filter p q xs
    ]

pub IsIn-filter : {A : Type 0} (q : A → Bool) (xs : List A) (x : A) → IsIn (filter q xs) x → IsIn xs x
IsIn-filter q xs x kept test passes =
    let any : list_any (λ y. q y && test y) xs ≡ true = sym (list_any-filter test q xs) ∙ kept test passes in
    list_any-weaker (λ y. q y && test y) test xs (λ y there both. (and_parts (q y) (test y) both).1) any

pub IsIn-filter_passes : {A : Type 0} (q : A → Bool) (xs : List A) (x : A) → IsIn (filter q xs) x → q x ≡ true
IsIn-filter_passes q xs x kept =
    elim (cases_Bool (q x)) [
      | inl passes ↦ passes
      | inr fails ↦
          let any = kept (λ y. not (q y)) (ap not fails) in
          let w = witness (λ y. q y && not (q y)) xs (sym (list_any-filter (λ y. not (q y)) q xs) ∙ any) in
          let both = and_parts (q w.it) (not (q w.it)) w.passes in
          absurd (false≢true (sym (not-true (q w.it) both.1) ∙ both.0))
    ]

pub IsIn-into_filter : {A : Type 0} (q : A → Bool) (xs : List A) (x : A) → IsIn xs x → q x ≡ true → IsIn (filter q xs) x
IsIn-into_filter q xs x there passes test is =
    list_any-filter test q xs ∙ there (λ y. q y && test y) (and_from (q x) (test x) passes is)

-- two filters that agree on the elements keep the same
pub filter-same : {A : Type 0} (p q : A → Bool) (xs : List A) → ((x : A) → IsIn xs x → p x ≡ q x) → filter p xs ≡ filter q xs
filter-same p q [] same = refl
filter-same p q (x ∷ xs) same =
    rw (same x (IsIn-head xs x), filter-same p q xs (λ y there. same y (IsIn-tail xs x y there))) refl

-- one filter after another
pub filter-filter : {A : Type 0} (p q : A → Bool) (xs : List A) → filter p (filter q xs) ≡ filter (λ x. q x && p x) xs
filter-filter p q [] = refl
filter-filter p q (x ∷ xs) =
    elim (q x) as (λ b. filter p (cond b (x ∷ filter q xs) (filter q xs)) ≡ cond (b && p x) (x ∷ filter (λ y. q y && p y) xs) (filter (λ y. q y && p y) xs)) [
      | true ↦ ap (λ r. cond (p x) (x ∷ r) r) (filter-filter p q xs)
      | false ↦ filter-filter p q xs
    ]

-- ---- a search

pub find-filter : {A : Type 0} (p q : A → Bool) (xs : List A) → find p (filter q xs) ≡ find (λ x. p x && q x) xs
find-filter p q [] = refl
find-filter {A} p q (x ∷ xs) = by_tests (find-filter p q xs) (p x) refl (q x) refl
  where
    by_tests : find p (filter q xs) ≡ find (λ y. p y && q y) xs → (a : Bool) → p x ≡ a → (b : Bool) → q x ≡ b → find p (filter q (x ∷ xs)) ≡ find (λ y. p y && q y) (x ∷ xs)
    by_tests rest true passes true kept = rw kept (rw passes refl)
    by_tests rest true passes false gone = rw (gone, passes) rest
    by_tests rest false fails true kept = rw kept (rw fails rest)
    by_tests rest false fails false gone = rw (gone, fails) rest

-- what it finds passes, and is in the list
pub record IsFound {A : Type 0} (test : A → Bool) (xs : List A) (x : A) : Type 0 where
  pub passes : test x ≡ true
  pub is_in : IsIn xs x

pub some_same : {A : Type 0} (x y : A) → Some x ≡ Some y → x ≡ y
some_same x y same = ap (λ o. option_map_or (λ z. z) o x) same

pub found : {A : Type 0} (test : A → Bool) (xs : List A) (x : A) → find test xs ≡ Some x → IsFound test xs x
found test [] x is = absurd (none-some x is)
found {A} test (y ∷ xs) x is = by_test (found test xs x) (test y) refl
  where
    by_test : (find test xs ≡ Some x → IsFound test xs x) → (b : Bool) → test y ≡ b → IsFound test (y ∷ xs) x
    by_test rest true passes =
        let same : y ≡ x = some_same y x (sym (ap (λ b. cond b (Some y) (find test xs)) passes) ∙ is) in
        record { passes = ap test (sym same) ∙ passes; is_in = subst (λ z. IsIn (y ∷ xs) z) same (IsIn-head xs y) }
    by_test rest false fails =
        let there = rest (sym (ap (λ b. cond b (Some y) (find test xs)) fails) ∙ is) in
        record { passes = there.passes; is_in = IsIn-tail xs y x there.is_in }

-- where it finds none, none passes
pub found_none : {A : Type 0} (test : A → Bool) (xs : List A) → find test xs ≡ None → list_any test xs ≡ false
found_none test [] none = refl
found_none {A} test (x ∷ xs) none = by_test (found_none test xs) (test x) refl
  where
    by_test : (find test xs ≡ None → list_any test xs ≡ false) → (b : Bool) → test x ≡ b → list_any test (x ∷ xs) ≡ false
    by_test rest true passes = absurd (none-some x (sym none ∙ ap (λ b. cond b (Some x) (find test xs)) passes))
    by_test rest false fails = or_none (test x) (list_any test xs) fails (rest (sym (ap (λ b. cond b (Some x) (find test xs)) fails) ∙ none))
