-- A text cut at a byte.
-- This project's own.
use Rattle.std.specs.Prelude.{ℕ, ◌==◌, List}
use Rattle.std.specs.List.{slice_split}

-- what stands before the first separator, between two of them, and after the last; the whole text where there is none
unfoldable pub pieces : ℕ → List ℕ → List (List ℕ)
pieces separator bytes = slice_split (λ b. b == separator) bytes
