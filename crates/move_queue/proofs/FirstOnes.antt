-- What taking out the first element that passes a test does to a list.
use Rattle.std.proofs.Common.{◌≡◌, ℕ, suc, ◌+◌, Bool, true, false, not, ◌||◌, List, [], ◌∷◌, length, Some, None, is_some, nat_lt, arith, cond, refl, sym, ap, if◌then◌else◌, ◌∙◌}
use Rattle.std.proofs.lemmas.Grind.{common_steps}
use Rattle.std.proofs.lemmas.Bool.Decides.{nat_tests}
use Rattle.std.specs.List.{list_any, position, position_or_len, remove}
use Rattle.move_queue.specs.Queue.{without_first}

-- whether one passes is whether its place is within the list
list_any-place : {X : Type 0} (p : X → Bool) (xs : List X) → list_any p xs ≡ nat_lt (position_or_len p xs) (length xs)
list_any-place p [] = grind (arith, nat_tests)
list_any-place p (x ∷ xs) =
    let ih : list_any p xs ≡ nat_lt (position_or_len p xs) (length xs) = list_any-place p xs in
    grind (arith, nat_tests, ih)

-- an element behind the first goes
remove-next : {X : Type 0} (x : X) (xs : List X) (i : ℕ) → remove (x ∷ xs) (1 + i) ≡ x ∷ remove xs i
remove-next x xs i = let one : 1 + i ≡ suc i = omega arith in rw one refl

-- the element at the first place goes
remove-place : {X : Type 0} (p : X → Bool) (xs : List X) → list_any p xs ≡ true → remove xs (position_or_len p xs) ≡ without_first p xs
remove-place p [] any = (cc)
remove-place p (x ∷ xs) any =
    elim (p x) as (λ b. (b || list_any p xs) ≡ true → remove (x ∷ xs) (cond (not b) (1 + position_or_len p xs) 0) ≡ (if b then xs else x ∷ without_first p xs)) [
      | true ↦ λ _. refl
      | false ↦ λ h. remove-next x xs (position_or_len p xs) ∙ ap (λ ys. x ∷ ys) (remove-place p xs h)
    ] any

-- where none passes, nothing goes
without_first-none : {X : Type 0} (p : X → Bool) (xs : List X) → list_any p xs ≡ false → without_first p xs ≡ xs
without_first-none p [] none = refl
without_first-none p (x ∷ xs) none = let ih = without_first-none p xs in grind (arith, common_steps, ih)

-- there is a first place where one passes
pub any_at_position : {X : Type 0} (p : X → Bool) (xs : List X) → list_any p xs ≡ is_some (position p xs)
any_at_position p xs = rw (list_any-place p xs) (grind (arith, nat_tests))

-- what goes at the first place is the first that passes
pub remove_from_position : {X : Type 0} (p : X → Bool) (xs : List X) (i : ℕ) → position p xs ≡ Some i → remove xs i ≡ without_first p xs
remove_from_position p xs i at =
    let any : list_any p xs ≡ true = rw (list_any-place p xs) (grind (arith, at)) in
    let place : position_or_len p xs ≡ i = grind (arith, at) in
    rw (← place) (remove-place p xs any)

-- where there is none, nothing goes
pub rest_from_position : {X : Type 0} (p : X → Bool) (xs : List X) → position p xs ≡ None → xs ≡ without_first p xs
rest_from_position p xs at =
    let none : list_any p xs ≡ false = rw (list_any-place p xs) (grind (arith, at)) in
    sym (without_first-none p xs none)

-- what a withdrawal needs
pub ruleset withdrawals = (any_at_position, remove_from_position, rest_from_position)
