-- What a reader of a part of a line answers, beside what that part may spell.
-- This project's own.
use Rattle.std.specs.Prelude.{◌≡◌, ℕ, List, Option, Some, None, Result, MatchResult}
use Rattle.log_reading.specs.declared.fault.Fault.{Fault}
use Rattle.log_reading.specs.declared.fault.Fault.TheVariants as faults
use Rattle.log_reading.specs.declared.error.LogTextError.{LogTextError}
use Rattle.log_reading.specs.declared.error.LogTextError.TheVariants as errors
use Rattle.log_reading.specs.Outcomes.{BeginsWithNoRow, IsFirstFault}

-- nothing is spelled; an overflow of `url` and want of memory say nothing
abbrev pub IsNone : {X : Type 0} → Fault → Option X → Type 0
IsNone faults.NoRow expected = expected ≡ None
IsNone (faults.UrlOverflow mark) expected = Unit {0}
IsNone faults.OutOfMemory expected = Unit {0}

-- the first line spells no row; an overflow of `url` and want of memory say nothing
abbrev pub IsFaulty : Fault → List ℕ → Type 0
IsFaulty faults.NoRow bytes = BeginsWithNoRow bytes
IsFaulty (faults.UrlOverflow mark) bytes = Unit {0}
IsFaulty faults.OutOfMemory bytes = Unit {0}

-- the error of a line, with the line's number
abbrev pub IsFaultAt : LogTextError → ℕ → Fault → Type 0
IsFaultAt error line faults.NoRow = error ≡ errors.BadLine line
IsFaultAt error line (faults.UrlOverflow mark) = error ≡ errors.UrlOverflow mark
IsFaultAt error line faults.OutOfMemory = error ≡ errors.OutOfMemory

-- the error is the first faulty line of the text; an overflow of `url` and want of memory say nothing
abbrev pub IsLineFault : LogTextError → List ℕ → Type 0
IsLineFault errors.NoRows bytes = ⊥
IsLineFault errors.TooManyRows bytes = ⊥
IsLineFault (errors.BadLine line) bytes = IsFirstFault bytes line
IsLineFault (errors.UrlOverflow mark) bytes = Unit {0}
IsLineFault errors.OutOfMemory bytes = Unit {0}

-- what was read is what is spelled
abbrev pub Gives : {X : Type 0} → Result X Fault → Option X → Type 0
Gives result expected = MatchResult result (λ x. expected ≡ Some x) (λ fault. IsNone fault expected)
