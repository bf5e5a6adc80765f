-- What a count of bytes comes to.
-- This project's own.
use Rattle.std.specs.Prelude.{ℕ, ◌+◌, min}

-- with one byte more, up to the largest number of 64 bits
abbrev pub with_one : ℕ → ℕ → ℕ
with_one count byte = min (count + 1) 18446744073709551615
