-- One reading after another.
-- This project's own.
use Rattle.std.specs.Prelude.{Option, Some, None}

-- where one gives nothing, nothing is read
infixl 10 ◌>>=◌
abbrev pub ◌>>=◌ : {A B : Type 0} → Option A → (A → Option B) → Option B
(Some x) >>= f = f x
None >>= f = None
