-- Look-ups by number in lists of records, and what a change that keeps the numbers does to them: one set of laws for all tables.
use Rattle.std.proofs.Common.{◌≡◌, ℕ, Bool, true, false, cond, ◌==◌, List, [], ◌∷◌, map, Option, Some, refl, ap, subst, arith}
use Rattle.std.specs.Prelude.{find, option_map, if◌then◌else◌}
use Rattle.std.proofs.lemmas.Bool.Decides.{nat_tests}

-- a change that keeps the numbers changes what is found
pub find_map : {A : Type 0} (key : A → ℕ) (g : A → A) (k : ℕ) (xs : List A) → ((x : A) → key (g x) ≡ key x) → find (λ (x : A). key x == k) (map g xs) ≡ option_map g (find (λ (x : A). key x == k) xs)
find_map key g k [] same = refl
find_map {A} key g k (x ∷ xs) same =
    rw (same x) (
    elim (key x == k) as (λ b. cond b (Some (g x)) (find (λ (x : A). key x == k) (map g xs)) ≡ option_map g (cond b (Some x) (find (λ (x : A). key x == k) xs))) [
      | true ↦ refl
      | false ↦ find_map key g k xs same
    ]
    )

-- what is found has the number
pub find_has : {A : Type 0} (key : A → ℕ) (k : ℕ) (xs : List A) (x : A) → find (λ (x : A). key x == k) xs ≡ Some x → key x ≡ k
find_has key k [] x e = cc
find_has {A} key k (y ∷ xs) x e = by_test (key y == k) refl (λ f. find_has key k xs x f) e
  where
    by_test : (b : Bool) → (key y == k) ≡ b → (find (λ (x : A). key x == k) xs ≡ Some x → key x ≡ k) → cond b (Some y) (find (λ (x : A). key x == k) xs) ≡ Some x → key x ≡ k
    by_test true t more f =
        let same : y ≡ x = cc in
        let is : key y ≡ k = grind (arith, nat_tests) in
        subst (λ (z : A). key z ≡ k) same is
    by_test false t more f = more f

-- the one of a number changed
pub find_on_same : {A : Type 0} (key : A → ℕ) (f : A → A) (k : ℕ) (xs : List A) → ((x : A) → key (f x) ≡ key x) → find (λ (x : A). key x == k) (map (λ (x : A). if key x == k then f x else x) xs) ≡ option_map f (find (λ (x : A). key x == k) xs)
find_on_same key f k [] same = refl
find_on_same {A} key f k (x ∷ xs) same = by_test (key x == k) refl (find_on_same key f k xs same)
  where
    by_test : (b : Bool) → (key x == k) ≡ b → find (λ (x : A). key x == k) (map (λ (x : A). if key x == k then f x else x) xs) ≡ option_map f (find (λ (x : A). key x == k) xs) → cond (key (cond b (f x) x) == k) (Some (cond b (f x) x)) (find (λ (x : A). key x == k) (map (λ (x : A). if key x == k then f x else x) xs)) ≡ option_map f (cond b (Some x) (find (λ (x : A). key x == k) xs))
    by_test true t more = rw (same x) (rw t refl)
    by_test false t more = rw t more

-- the others stay
pub find_on_other : {A : Type 0} (key : A → ℕ) (f : A → A) (k j : ℕ) (xs : List A) → ((x : A) → key (f x) ≡ key x) → (k == j) ≡ false → find (λ (x : A). key x == j) (map (λ (x : A). if key x == k then f x else x) xs) ≡ find (λ (x : A). key x == j) xs
find_on_other key f k j [] same other = refl
find_on_other {A} key f k j (x ∷ xs) same other = by_test (key x == k) refl (find_on_other key f k j xs same other)
  where
    by_test : (b : Bool) → (key x == k) ≡ b → find (λ (x : A). key x == j) (map (λ (x : A). if key x == k then f x else x) xs) ≡ find (λ (x : A). key x == j) xs → cond (key (cond b (f x) x) == j) (Some (cond b (f x) x)) (find (λ (x : A). key x == j) (map (λ (x : A). if key x == k then f x else x) xs)) ≡ cond (key x == j) (Some x) (find (λ (x : A). key x == j) xs)
    by_test true t more =
        let is : key x ≡ k = grind (arith, nat_tests) in
        let apart : (key x == j) ≡ false = rw is other in
        rw (same x) (rw apart more)
    by_test false t more = ap (λ (o : Option A). cond (key x == j) (Some x) o) more
