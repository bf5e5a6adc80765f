-- The rows that have a line of their own: each number is one of its type, each text a word, each address one that reads as itself.
-- This project's own.
use Rattle.std.specs.Prelude.{◌≡◌, ℕ, ℤ, ◌<◌, ◌^◌, ◌==◌, ◌&&◌, Bool, true, false, nat_lt, nat_le, List, [], ◌∷◌, length, bytes_eq, Option, Some, None, FitsSigned}
use Rattle.std.specs.Int.{w32}
use Rattle.std.specs.List.{list_all}
use Rattle.tab_ids.specs.declared.Step.{Step}
use Rattle.tab_ids.specs.declared.DocId.{DocId}
use Rattle.tab_ids.specs.declared.EntryId.{EntryId}
use Rattle.address.specs.Addresses.{IsAddress}
use Rattle.log_model.specs.declared.action.Action.{Action}
use Rattle.log_model.specs.declared.action.Action.TheVariants as actions
use Rattle.log_model.specs.declared.change.Change.{Change}
use Rattle.log_model.specs.declared.change.Change.TheVariants as changes
use Rattle.log_model.specs.declared.job.Job.{Job}
use Rattle.log_model.specs.declared.job.Task.{Task}
use Rattle.log_model.specs.declared.job.Task.TheVariants as tasks
use Rattle.log_model.specs.declared.job.Why.{Why}
use Rattle.log_model.specs.declared.job.Why.TheVariants as whys
use Rattle.log_model.specs.declared.made.Made.{Made}
use Rattle.log_model.specs.declared.made.What.{What}
use Rattle.log_model.specs.declared.made.What.TheVariants as things
use Rattle.log_model.specs.declared.outcome.Cause.{Cause}
use Rattle.log_model.specs.declared.outcome.Cause.TheVariants as causes
use Rattle.log_model.specs.declared.outcome.Outcome.{Outcome}
use Rattle.log_model.specs.declared.outcome.Outcome.TheVariants as outcomes
use Rattle.log_model.specs.declared.request.Request.{Request}
use Rattle.log_model.specs.declared.request.Request.TheVariants as requests
use Rattle.log_model.specs.declared.row_kind.Actor.{Actor}
use Rattle.log_model.specs.declared.row_kind.Actor.TheVariants as actors
use Rattle.log_model.specs.declared.row_kind.LogRow.{LogRow}
use Rattle.log_model.specs.declared.row_kind.RowKind.{RowKind}
use Rattle.log_model.specs.declared.row_kind.RowKind.TheVariants as rows
use Rattle.log_text.specs.Spellings.{dash}

-- ---- texts

-- a byte that a word may have
abbrev pub is_word_byte : ℕ → Bool
is_word_byte b = nat_lt 32 b && nat_le b 126

-- a text that may stand as a word: one or more such bytes
pub record IsWord (text : List ℕ) : Type 0 where
  pub some : (length text == 0) ≡ false
  pub bytes : list_all is_word_byte text ≡ true

-- a memo is a word, and not the dash that tells of none
abbrev pub IsMemo : Option (List ℕ) → Type 0
IsMemo (Some memo) = IsWord memo × (bytes_eq memo dash ≡ false)
IsMemo None = Unit {0}

-- a reference is a word
abbrev pub IsReference : Option (List ℕ) → Type 0
IsReference (Some reference) = IsWord reference
IsReference None = Unit {0}

-- ---- numbers within their types

abbrev pub IsU32 : ℕ → Type 0
IsU32 number = number < 2 ^ 32

abbrev pub IsU64 : ℕ → Type 0
IsU64 number = number < 2 ^ 64

abbrev pub IsU8 : ℕ → Type 0
IsU8 number = number < 2 ^ 8

abbrev pub IsDelta : ℤ → Type 0
IsDelta delta = FitsSigned w32 delta

-- a slot, where there is one
abbrev pub IsSlot : Option ℕ → Type 0
IsSlot (Some slot) = IsU8 slot
IsSlot None = Unit {0}

-- the document that is poked, where one is
abbrev pub IsPoked : Option DocId → Type 0
IsPoked (Some doc) = IsU64 doc.0
IsPoked None = Unit {0}

-- a traversal's goal, where there is one
abbrev pub IsGoal : Option Step → Type 0
IsGoal (Some goal) = IsU32 goal.0
IsGoal None = Unit {0}

abbrev pub IsEntry : EntryId → Type 0
IsEntry entry = IsU64 entry.maker × IsU32 entry.nr

abbrev pub IsActor : Actor → Type 0
IsActor (actors.Proc proc) = IsU32 proc.0
IsActor _ = Unit {0}

-- an order was sent for a request, for a death or for an eviction; the start sends none
abbrev pub IsWhy : Why → Type 0
IsWhy (whys.Req req) = IsU32 req.0
IsWhy (whys.Death death) = IsU32 death.0
IsWhy whys.Evict = Unit {0}
IsWhy whys.Start = ⊥

-- ---- what a row tells of

abbrev pub IsAction : Action → Type 0
IsAction (actions.Push memo reference) = IsMemo memo × IsReference reference
IsAction (actions.Replace memo reference) = IsMemo memo × IsReference reference
IsAction (actions.Fragment text) = IsWord text
IsAction (actions.AddFrame child) = IsU32 child.0
IsAction (actions.RemoveFrame child) = IsU32 child.0
IsAction (actions.Go delta) = IsDelta delta
IsAction actions.Edit = Unit {0}

abbrev pub IsRequest : Request → Type 0
IsRequest (requests.Load nav mode address) = IsU32 nav.0 × IsAddress address
IsRequest (requests.Go delta) = IsDelta delta
IsRequest (requests.Reload nav) = IsU32 nav.0
IsRequest (requests.Poke nav action) = IsU32 nav.0 × IsAction action

abbrev pub IsChange : Change → Type 0
IsChange (changes.Push nav entry state address memo) = IsU32 nav.0 × IsEntry entry × IsU32 state.0 × IsAddress address × IsMemo memo
IsChange (changes.Replace nav over entry state address memo) =
    IsU32 nav.0 × IsEntry over × IsEntry entry × IsU32 state.0 × IsAddress address × IsMemo memo
IsChange (changes.AddFrame owner nav entry state) = IsU32 owner.0 × IsU32 nav.0 × IsEntry entry × IsU32 state.0
IsChange (changes.RemoveFrame nav) = IsU32 nav.0
IsChange (changes.Traverse goal) = IsU32 goal.0
IsChange (changes.Reload nav) = IsU32 nav.0
IsChange changes.Edit = Unit {0}

abbrev pub IsTask : Task → Type 0
IsTask (tasks.Populate nav state address initial) = IsU32 nav.0 × IsU32 state.0 × IsAddress address
IsTask (tasks.Activate entry epoch length index memo address) =
    IsEntry entry × IsU64 epoch.0 × IsU32 length × IsU32 index × IsMemo memo × IsAddress address
IsTask (tasks.Update length index) = IsU32 length × IsU32 index
IsTask tasks.Freeze = Unit {0}
IsTask tasks.Discard = Unit {0}
IsTask (tasks.Ask slot cause) = IsU8 slot
IsTask (tasks.DoFragment req mode address) = IsU32 req.0 × IsAddress address

abbrev pub IsOutcome : Outcome → Type 0
IsOutcome (outcomes.Populated slot) = IsSlot slot
IsOutcome _ = Unit {0}

abbrev pub IsThing : What → Type 0
IsThing (things.Push entry memo address) = IsEntry entry × IsMemo memo × IsAddress address
IsThing (things.Replace over entry memo address) = IsEntry over × IsEntry entry × IsMemo memo × IsAddress address
IsThing (things.AddFrame nav) = IsU32 nav.0
IsThing (things.RemoveFrame nav) = IsU32 nav.0
IsThing (things.Go delta) = IsDelta delta
IsThing things.Edit = Unit {0}

abbrev pub IsCause : Cause → Type 0
IsCause causes.Stay = Unit {0}
IsCause (causes.By req) = IsU32 req.0
IsCause (causes.Destroyed req) = IsU32 req.0
IsCause (causes.Gone death) = IsU32 death.0

-- an order
pub record IsJob (job : Job) : Type 0 where
  pub nr : IsU64 job.nr.0
  pub proc : IsU32 job.proc.0
  pub incarnation : IsU32 job.incarnation
  pub doc : IsU64 job.doc.0
  pub why : IsWhy job.why
  pub task : IsTask job.task

-- what was made
pub record IsMade (made : Made) : Type 0 where
  pub req : IsU32 made.req.0
  pub doc : IsU64 made.doc.0
  pub epoch : IsU64 made.epoch.0
  pub what : IsThing made.what

-- an order that is taken up in vain isn't dirty
abbrev pub IsTaken : Bool → Bool → Type 0
IsTaken true dirty = Unit {0}
IsTaken false dirty = dirty ≡ false

-- ---- rows

abbrev pub IsKind : RowKind → Type 0
IsKind (rows.Opened entry state doc proc slot address) = IsEntry entry × IsU32 state.0 × IsU64 doc.0 × IsU32 proc.0 × IsSlot slot × IsAddress address
IsKind (rows.Accepted req doc what) = IsU32 req.0 × IsPoked doc × IsRequest what
IsKind (rows.Started req goal) = IsU32 req.0 × IsGoal goal
IsKind (rows.Applied req change) = IsU32 req.0 × IsChange change
IsKind (rows.Refused req reason) = IsU32 req.0
IsKind (rows.Dropped req cause) = IsU32 req.0 × IsCause cause
IsKind (rows.Prompted req doc) = IsU32 req.0 × IsU64 doc.0
IsKind (rows.Answered req stay) = IsU32 req.0
IsKind (rows.Sent job) = IsJob job
IsKind (rows.Taken proc job live dirty) = IsU32 proc.0 × IsU64 job.0 × IsTaken live dirty
IsKind (rows.Finished proc job outcome) = IsU32 proc.0 × IsU64 job.0 × IsOutcome outcome
IsKind (rows.Made proc made) = IsU32 proc.0 × IsMade made
IsKind (rows.Delivered proc) = IsU32 proc.0
IsKind (rows.Killed proc death) = IsU32 proc.0 × IsU32 death.0
IsKind (rows.Evicted state) = IsU32 state.0

-- a row that a line spells
pub record IsReadable (row : LogRow) : Type 0 where
  pub event : IsU32 row.event
  pub actor : IsActor row.actor
  pub kind : IsKind row.row

-- rows that lines spell
abbrev pub AreReadable : List LogRow → Type 0
AreReadable [] = Unit {0}
AreReadable (row ∷ rows) = IsReadable row × AreReadable rows
