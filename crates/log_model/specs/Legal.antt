-- When a log is legal.
-- This project's own; its parts say where their rules come from.
use Rattle.std.specs.Prelude.{◌≡◌, Bool, true, false, ◌&&◌, IsTrue, List, [], ◌∷◌}
use Rattle.log_model.specs.declared.row_kind.LogRow.{LogRow}
use Rattle.log_model.specs.Seen.{Seen, nothing}
use Rattle.log_model.specs.After.{after}
use Rattle.log_model.specs.Events.{AtEachEvent, events_of, each_row, at_end}
use Rattle.log_model.specs.Formed.{is_opening, is_numbered, is_formed_row}
use Rattle.log_model.specs.Once.{is_once_row}
use Rattle.log_model.specs.Causes.{is_caused_row}
use Rattle.log_model.specs.Queue.{is_queued_row}
use Rattle.log_model.specs.Orders.{is_ordered_row}
use Rattle.log_model.specs.Checks.{is_checked_row}
use Rattle.log_model.specs.Settled.{is_settled_if_quiet}

-- the first event is the opening row alone, and all is settled then
unfoldable pub opens : List (List LogRow) → Bool
opens ((row ∷ []) ∷ events) = is_opening row && is_settled_if_quiet (after nothing row)
opens _ = false

-- the rows of an event are formed
unfoldable pub is_formed : Seen → List LogRow → Bool
is_formed s rows = each_row is_formed_row s rows

-- each request is numbered, begins, is answered and ends at most once, by the change that it asks for
unfoldable pub is_once : Seen → List LogRow → Bool
is_once s rows = each_row is_once_row s rows

-- each refusal has its reason, and each drop its cause
unfoldable pub is_caused : Seen → List LogRow → Bool
is_caused s rows = each_row is_caused_row s rows

-- the steps of the queue begin in their turn, and only what may jumps it
unfoldable pub is_queued : Seen → List LogRow → Bool
is_queued s rows = each_row is_queued_row s rows

-- each order has its cause
unfoldable pub is_ordered : Seen → List LogRow → Bool
is_ordered s rows = each_row is_ordered_row s rows

-- nothing is done for a request before its unload check has passed, and the user is asked where it is due
unfoldable pub is_checked : Seen → List LogRow → Bool
is_checked s rows = each_row is_checked_row s rows

-- the state that an event leads to is settled where it is quiet
unfoldable pub ends_settled : Seen → List LogRow → Bool
ends_settled s rows = at_end is_settled_if_quiet s rows

-- ---- the parts of a legal log

-- its events are numbered without a gap, each with one actor
abbrev pub IsNumbered : List LogRow → Type 0
IsNumbered log = AtEachEvent is_numbered log

-- its rows stand where they may and name what is there
abbrev pub IsFormed : List LogRow → Type 0
IsFormed log = AtEachEvent is_formed log

-- each request once
abbrev pub EachRequestOnce : List LogRow → Type 0
EachRequestOnce log = AtEachEvent is_once log

-- each refusal and drop has its cause
abbrev pub OutcomesAreCaused : List LogRow → Type 0
OutcomesAreCaused log = AtEachEvent is_caused log

-- the traversal queue is kept, and jumped only as it may be
abbrev pub KeepsQueueOrder : List LogRow → Type 0
KeepsQueueOrder log = AtEachEvent is_queued log

-- each order has its cause
abbrev pub OrdersAreCaused : List LogRow → Type 0
OrdersAreCaused log = AtEachEvent is_ordered log

-- the unload check is kept
abbrev pub ChecksAreKept : List LogRow → Type 0
ChecksAreKept log = AtEachEvent is_checked log

-- where nothing is in transit and no prompt is up, all is settled
abbrev pub QuietIsSettled : List LogRow → Type 0
QuietIsSettled log = AtEachEvent ends_settled log

-- a log is legal
pub record IsLegal (log : List LogRow) : Type 0 where
  pub opened : IsTrue (opens (events_of log))
  pub numbered : IsNumbered log
  pub formed : IsFormed log
  pub once : EachRequestOnce log
  pub caused : OutcomesAreCaused log
  pub queued : KeepsQueueOrder log
  pub ordered : OrdersAreCaused log
  pub checked : ChecksAreKept log
  pub settled : QuietIsSettled log

-- an event of a log that has come to this keeps the rules
pub record IsLegalEvent (s : Seen) (rows : List LogRow) : Type 0 where
  pub numbered : is_numbered s rows ≡ true
  pub formed : is_formed s rows ≡ true
  pub once : is_once s rows ≡ true
  pub caused : is_caused s rows ≡ true
  pub queued : is_queued s rows ≡ true
  pub ordered : is_ordered s rows ≡ true
  pub checked : is_checked s rows ≡ true
  pub settled : ends_settled s rows ≡ true
