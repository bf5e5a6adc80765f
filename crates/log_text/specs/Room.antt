-- What a line that is written without memory keeps.
-- This project's own.
use Rattle.std.specs.Prelude.{ℕ, List, [], ◌∷◌, ◌++◌, length, nat_lt, if◌then◌else◌}

-- how many bytes there is room for, and what is written
pub record Held : Type 0 where
  pub room : ℕ
  pub text : List ℕ

-- with one byte more; where the room is full, the same
abbrev pub with_byte : Held → ℕ → Held
with_byte held byte = (if nat_lt (length held.text) held.room then record held { text = held.text ++ byte ∷ [] } else held)
