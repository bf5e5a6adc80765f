-- Lists that ascend.
-- This project's own.
use Rattle.std.specs.Prelude.{◌≡◌, ℕ, false, nat_le, List, [], ◌∷◌}
use Rattle.std.specs.List.{list_any}

-- each item's number is lower than those of all that follow it
abbrev pub IsAscending : {A : Type 0} → (A → ℕ) → List A → Type 0
IsAscending number [] = Unit {0}
IsAscending number (item ∷ items) =
    (list_any (λ other. nat_le (number other) (number item)) items ≡ false) × IsAscending number items
