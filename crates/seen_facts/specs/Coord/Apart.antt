-- Items of a list with different numbers.
-- This project's own.
use Rattle.std.specs.Prelude.{◌≡◌, ℕ, ◌==◌, List, [], ◌∷◌, None, find}

-- the items have different numbers
abbrev pub AreApart : {A : Type 0} → (A → ℕ) → List A → Type 0
AreApart key [] = Unit {0}
AreApart key (x ∷ xs) = (find (λ y. key y == key x) xs ≡ None) × AreApart key xs
