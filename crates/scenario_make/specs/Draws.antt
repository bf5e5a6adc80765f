-- The numbers that the generator of scenarios draws.
-- This project's own.
use Rattle.std.specs.Prelude.{ℕ, ◌+◌, ◌*◌, ◌/◌, ◌%◌}

-- the number that is kept, after one draw more
abbrev pub after_draw : ℕ → ℕ
after_draw kept = (kept * 1103515245 + 12345) % 2147483648

-- what the draw after which a number is kept gives, below a bound: the number without its 16 lowest bits, modulo the bound
abbrev pub drawn : ℕ → ℕ → ℕ
drawn bound kept = kept / 65536 % bound
