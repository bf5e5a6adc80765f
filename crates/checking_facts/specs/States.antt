-- Who is in its unload check has begun, the document state of a load in its check is nobody else's, and how many document states were numbered.
-- HTML Standard, "checking if unloading is canceled" and "document state"; numbers of document states, and which requests are in their check as the coordinator has it, are this project's own.
use Rattle.std.specs.Prelude.{◌≡◌, ◌⊎◌, ◌+◌, ◌≤◌, ◌&&◌, ◌||◌, Bool, true, false, ◌==◌, Some, filter, is_some, length}
use Rattle.std.specs.List.{list_any}
use Rattle.tab_ids.specs.declared.ReqId.{ReqId}
use Rattle.tab_ids.specs.declared.StateId.{StateId}
use Rattle.log_model.specs.declared.change.Change.{Change}
use Rattle.log_model.specs.declared.change.Change.TheVariants as changes
use Rattle.log_model.specs.declared.job.Task.{Task}
use Rattle.log_model.specs.declared.job.Task.TheVariants as tasks
use Rattle.log_model.specs.declared.row.Row.{Row}
use Rattle.log_model.specs.declared.row_kind.RowKind.{RowKind}
use Rattle.log_model.specs.declared.row_kind.RowKind.TheVariants as rows
use Rattle.log_model.specs.Places.{is_load, is_ongoing_load}
use Rattle.log_model.specs.Seen.{Asked, Document, Seen, request_of}
use Rattle.seen_facts.specs.Hang.Members.{Has}
use Rattle.unasked_dues.specs.Checking.{IsAloneWith, NoneChecksFor, is_ongoing_of}

-- who is in its check has begun
abbrev pub AreBegun : (ReqId → Bool) → Seen → Type 0
AreBegun checking s = (req : ReqId) (q : Asked) → request_of s req ≡ Some q → checking req ≡ true → q.is_started ≡ true

-- a document state is that of an ongoing load in its check
pub record IsHeld (checking : ReqId → Bool) (s : Seen) (state : StateId) : Type 0 where
  pub req : ReqId
  pub q : Asked
  pub at : request_of s req ≡ Some q
  pub on : checking req ≡ true
  pub going : is_ongoing_load q ≡ true
  pub own : q.state ≡ Some state

-- no entry has it, no document, and no ongoing load but this one
pub record IsOwnState (s : Seen) (req : ReqId) (state : StateId) : Type 0 where
  pub numbered : state.0 ≤ s.states
  pub entries : (row : Row) → Has s.history.rows row → (state.0 == row.state.0) ≡ false
  pub documents : list_any (λ (d : Document). state.0 == d.state.0) s.documents ≡ false
  pub alone : IsAloneWith s req state

-- so it is of each load in its check
abbrev pub AreOwnStates : (ReqId → Bool) → Seen → Type 0
AreOwnStates checking s = (state : StateId) (held : IsHeld checking s state) → IsOwnState s held.req state

-- ---- how many were numbered

-- it has ended, or is a load that has begun, for which a document state was numbered then
abbrev pub has_spent : Asked → Bool
has_spent q = is_some q.ending || (is_load q.what && q.is_started)

-- a document state but the first came with a load that began or a request that ended
abbrev pub AreSpent : Seen → Type 0
AreSpent s = s.states ≤ 1 + length (filter has_spent s.requests)

-- ---- what is asked of a row

-- the request has spent no document state yet
pub record IsUnspent (s : Seen) (req : ReqId) : Type 0 where
  pub q : Asked
  pub at : request_of s req ≡ Some q
  pub unspent : has_spent q ≡ false

-- so it is of one that adds a frame
abbrev pub AddsUnspent : Seen → ReqId → Change → Type 0
AddsUnspent s req (changes.AddFrame owner nav entry state) = IsUnspent s req
AddsUnspent s req _ = Unit {0}

-- the document state that is numbered next is nobody's
pub record IsNextState (s : Seen) (state : StateId) : Type 0 where
  pub next : state.0 ≡ s.states + 1
  pub entries : (row : Row) → Has s.history.rows row → (state.0 == row.state.0) ≡ false
  pub documents : list_any (λ (d : Document). state.0 == d.state.0) s.documents ≡ false
  pub free : (other : ReqId) (q : Asked) → request_of s other ≡ Some q → is_ongoing_of state q ≡ false

-- an applied change brings no entry of a load in its check
abbrev pub BringsOff : (ReqId → Bool) → Seen → Change → Type 0
BringsOff checking s (changes.Push nav entry state address memo) = NoneChecksFor checking s state
BringsOff checking s (changes.Replace nav over entry state address memo) = NoneChecksFor checking s state
BringsOff checking s (changes.AddFrame owner nav entry state) = NoneChecksFor checking s state
BringsOff checking s _ = Unit {0}

-- an order makes no document of one
abbrev pub MakesOff : (ReqId → Bool) → Seen → Task → Type 0
MakesOff checking s (tasks.Populate nav state address initial) = NoneChecksFor checking s state
MakesOff checking s _ = Unit {0}

-- a row leaves them their document states; where one enters its check as it begins, its own is the next, and nobody's; and one more is numbered for none that has spent one
abbrev pub LeavesStates : (ReqId → Bool) → Seen → RowKind → Type 0
LeavesStates checking s (rows.Opened entry state doc proc slot address) = ⊥
LeavesStates checking s (rows.Started req goal) = ((checking req ≡ false) ⊎ IsNextState s (record { 0 = s.states + 1 })) × IsUnspent s req
LeavesStates checking s (rows.Applied req change) = BringsOff checking s change × AddsUnspent s req change
LeavesStates checking s (rows.Sent job) = MakesOff checking s job.task
LeavesStates checking s _ = Unit {0}
