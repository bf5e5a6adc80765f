-- What the tab does at once: it puts off no update and no step of the queue, sends no order in vain, and applies a change where it is due.
-- HTML Standard, "apply the history step" and "session history traversal queue", which run without a pause; the moments are this project's own. No part of a legal log, but a promise of its own.
use Rattle.std.specs.Prelude.{Bool, true, not, ◌&&◌, ◌||◌, ◌==◌, List, length, option_and_then, is_some}
use Rattle.std.specs.List.{list_all, list_any}
use Rattle.std.specs.Option.{option_map_or}
use Rattle.log_model.specs.declared.job.Job.{Job}
use Rattle.log_model.specs.declared.job.Task.{Task}
use Rattle.log_model.specs.declared.job.Task.TheVariants as tasks
use Rattle.log_model.specs.declared.made.Made.{Made}
use Rattle.log_model.specs.declared.row_kind.LogRow.{LogRow}
use Rattle.log_model.specs.declared.row_kind.RowKind.{RowKind}
use Rattle.log_model.specs.declared.row_kind.RowKind.TheVariants as rows
use Rattle.log_model.specs.Equal.{holds, implies, same_pair, has_req}
use Rattle.log_model.specs.Seen.{Seen, Document, Asked, Place, document_of, request_of}
use Rattle.log_model.specs.Places.{is_shown, is_awake, is_gone, is_load, is_ongoing_load, passed_traversal, aim_of, all_stand, told_pair, due_pair}
use Rattle.log_model.specs.AfterRequests.{made_of_report, changes_history}
use Rattle.log_model.specs.Events.{Point, AtEachEvent, each_row, at_end}
use Rattle.log_model.specs.Queue.{is_queue_free, is_traverse}
use Rattle.log_model.specs.Orders.{is_for, is_usable}
use Rattle.log_model.specs.Points.{taken_report}

-- ---- as an event ends

-- the navigable, if it is awake, was told the length and index that are due to it
abbrev pub is_told : Seen → Place → Bool
is_told e place = implies (is_awake place) (holds (same_pair (due_pair e place.nav)) (told_pair e place))

-- each awake navigable was told its due length and index
unfoldable pub ends_told : Seen → Bool
ends_told e = list_all (is_told e) e.places

-- a traversal that has passed its check goes on only as long as not all stand at the aim
abbrev pub has_reason_to_run : Seen → Bool
has_reason_to_run e = implies (is_some (passed_traversal e)) (not (all_stand e (aim_of e)))

-- a document was made for the load, and is there
abbrev pub has_document : Seen → Asked → Bool
has_document e q = holds (λ state. list_any (λ (d : Document). is_usable d state) e.documents) q.state

-- the load is ready: it has begun, has no outcome, and its document is there
abbrev pub is_ready_load : Seen → Asked → Bool
is_ready_load e q = is_ongoing_load q && has_document e q

-- no step of the queue waits: no traversal or reload that joined, and no load that is ready
abbrev pub has_no_step_waiting : Seen → Bool
has_no_step_waiting e = length e.joined == 0 && list_all (λ q. not (is_ready_load e q)) e.requests

-- a passed traversal is applied as soon as all stand at the aim, and the next step begins as soon as it may
unfoldable pub ends_stepped : Seen → Bool
ends_stepped e = has_reason_to_run e && implies (is_queue_free e) (has_no_step_waiting e)

-- ---- as an order is sent

-- the order is for the traversal that has passed and hasn't ended, if there is one
abbrev pub is_for_passed : Seen → Job → Bool
is_for_passed s job = option_map_or (λ (q : Asked). is_for q.nr job) (passed_traversal s) true

-- the document's navigable is shown at the aim
abbrev pub is_of_shown : Seen → Job → Bool
is_of_shown s job = holds (λ (d : Document). is_shown s.history.rows (aim_of s) d.nav) (document_of s job.doc)

-- the document was frozen and not shown since
abbrev pub is_frozen : Seen → Job → Bool
is_frozen s job = holds (λ (d : Document). d.is_frozen) (document_of s job.doc)

-- no order goes to a document that is gone, none is frozen twice, and while a passed traversal runs what is shown or frozen is so for it
abbrev pub is_order_of_use : Seen → Job → Task → Bool
is_order_of_use s job (tasks.Populate nav state address initial) = true
is_order_of_use s job (tasks.Activate entry epoch length index memo address) =
    not (is_gone s job.doc) && is_for_passed s job && is_of_shown s job
is_order_of_use s job tasks.Freeze = not (is_gone s job.doc) && is_for_passed s job && not (is_frozen s job)
is_order_of_use s job _ = not (is_gone s job.doc)

-- ---- as a change is applied

-- the event takes the report of what was made, or a traversal for which it was held back was applied in the event before the row
abbrev pub is_taken_here : Point → LogRow → Made → Bool
is_taken_here p row made =
    holds (λ (taken : Made). taken.req.0 == made.req.0) (option_and_then made_of_report (taken_report p row))
    || (has_req p.start.parked made.req && list_any is_traverse p.done)

-- what a document made is applied as its report is taken; a load with a new document, while that document is there
abbrev pub is_applied_in_time : Point → LogRow → Asked → Bool
is_applied_in_time p row q =
    implies (q.is_started && is_load q.what) (has_document p.now q)
    && implies (holds (λ (made : Made). changes_history made.what) q.made) (holds (is_taken_here p row) q.made)

-- ---- the whole

-- the row is an order that is of use, or a change that is applied in time
abbrev pub is_row_in_time : Point → LogRow → Bool
is_row_in_time p row = by_kind p row row.row
  where
    by_kind : Point → LogRow → RowKind → Bool
    by_kind p row (rows.Sent job) = is_order_of_use p.now job job.task
    by_kind p row (rows.Applied req change) = holds (is_applied_in_time p row) (request_of p.now req)
    by_kind p row _ = true

-- the rows of an event are in time
unfoldable pub goes_in_time : Seen → List LogRow → Bool
goes_in_time s rows = each_row is_row_in_time s rows

-- the tab acts at once
pub record ActsAtOnce (log : List LogRow) : Type 0 where
  -- as an event ends, each awake navigable was told its due length and index
  pub told : AtEachEvent (at_end ends_told) log
  -- as an event ends, no step that may end or begin is put off
  pub stepped : AtEachEvent (at_end ends_stepped) log
  -- orders are of use, and changes are applied in time
  pub in_time : AtEachEvent goes_in_time log
