-- What reading a whole input and writing all of an output do. This project's own.
use Rattle.std.specs.Prelude.{ℕ, ◌<◌, ◌≤◌, List, length, take, Result, Ok, Err}
use Rattle.std.specs.declared.option.Option.{Option}
use Rattle.std.specs.Io.KnownBytes.{Appends, Consumes, IsAtEnd}
use Rattle.tab_io.specs.Causes.{Rose}
use Rattle.tab_io.specs.declared.error.ReadAllError.{ReadAllError}
use Rattle.tab_io.specs.declared.error.ReadAllError.TheVariants as errors
use Rattle.tab_io.specs.declared.error.WriteFault.{WriteFault}

-- some bytes came, and what is left is the rest
abbrev pub IsRest : Option (List ℕ) → Option (List ℕ) → Type 0
IsRest old new = (bytes : List ℕ) × Consumes old new bytes

-- more bytes came than the limit, and what is left is the rest
abbrev pub ReadsBeyond : Option (List ℕ) → Option (List ℕ) → ℕ → Type 0
ReadsBeyond old new limit = (bytes : List ℕ) × Consumes old new bytes × (limit < length bytes)

-- a text is all that was left, and no longer than the limit; else more came than the limit, or the
-- reading stopped on the way
abbrev pub ReadsAll : Option (List ℕ) → Option (List ℕ) → ℕ → Result (List ℕ) ReadAllError
    → Type 0
ReadsAll old new limit (Ok text) = Consumes old new text × IsAtEnd new × (length text ≤ limit)
ReadsAll old new limit (Err errors.TooLong) = ReadsBeyond old new limit
ReadsAll old new limit (Err errors.ReadFault) = IsRest old new
ReadsAll old new limit (Err errors.OutOfMemory) = IsRest old new

-- whatever came of a source and led to the first bytes has, with what is left now, led to the second
abbrev pub KeepsCame : Option (List ℕ) → Option (List ℕ) → List ℕ → List ℕ → Type 0
KeepsCame old new before after =
    (start : Option (List ℕ)) → Consumes start old before → Consumes start new after

-- where these bytes came of a source before, what is left now is a rest
abbrev pub IsRestAfter : Option (List ℕ) → Option (List ℕ) → List ℕ → Type 0
IsRestAfter old new before =
    (start : Option (List ℕ)) → Consumes start old before → IsRest start new

-- of the errors of a reading a fault of the source alone has a cause in the count
abbrev pub OnReadFault : {T : Type 0} → Result T ReadAllError → Type 0 → Type 0
OnReadFault (Ok text) P = Unit {0}
OnReadFault (Err errors.TooLong) P = Unit {0}
OnReadFault (Err errors.ReadFault) P = P
OnReadFault (Err errors.OutOfMemory) P = Unit {0}

-- the count didn't fall, and a fault of the source made it rise
pub record ReadHasCause {T : Type 0} (before now : ℕ) (result : Result T ReadAllError) : Type 0 where
  pub later : before ≤ now
  pub failed : OnReadFault result (Rose before now)

-- all bytes were taken, or those before some place in them
abbrev pub WritesAll : Option (List ℕ) → Option (List ℕ) → List ℕ → Result (Unit {0}) WriteFault
    → Type 0
WritesAll old new bytes (Ok _) = Appends old new bytes
WritesAll old new bytes (Err _) =
    (count : ℕ) × (count < length bytes) × Appends old new (take count bytes)
