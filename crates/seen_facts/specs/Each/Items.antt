-- A fact of each item of a list, numbers of entries up to a bound, and that nobody has died.
-- This project's own.
use Rattle.std.specs.Prelude.{◌≡◌, ℕ, ◌≤◌, List, [], ◌∷◌}
use Rattle.tab_ids.specs.declared.DocId.{DocId}
use Rattle.tab_ids.specs.declared.EntryId.{EntryId}
use Rattle.tab_ids.specs.declared.ProcId.{ProcId}
use Rattle.log_model.specs.Seen.{Seen, desk_of}

-- an entry of the document has a number up to a bound
abbrev pub IsUpTo : ℕ → DocId → EntryId → Type 0
IsUpTo bound doc entry = entry.maker ≡ doc.0 → entry.nr ≤ bound

-- a fact of each item
abbrev pub Each : {A : Type 0} → (A → Type 0) → List A → Type 0
Each F [] = Unit {0}
Each F (x ∷ xs) = F x × Each F xs

-- no process has died
abbrev pub NoneDied : Seen → Type 0
NoneDied s = (proc : ProcId) → ((desk_of s proc).known ≡ 0) × ((desk_of s proc).killed ≡ [])
