-- A document that nothing needs as it is made, and that was made for no request.
-- HTML Standard, "attempt to populate the history entry's document" and "destroy a document"; that such a document is discarded at once, for what it was made for, is this project's own.
use Rattle.tab_stands.specs.Standing.{InCheck, IsOwnRead}
use Rattle.log_model.specs.declared.job.Job.{Job}
use Rattle.log_model.specs.declared.job.Why.{Why}
use Rattle.log_model.specs.declared.outcome.Outcome.{Outcome}
use Rattle.log_model.specs.declared.row_kind.RowKind.{RowKind}
use Rattle.move_queue.specs.Queue.{Queue}
use Rattle.seen_laws.specs.InEvent.{InEvent, now_of}
use Rattle.std.specs.Prelude.{Bool, List, None, [], ℕ, ◌≡◌}
use Rattle.tab_doors.specs.declared.tables.Tables.{Tables}
use Rattle.tab_ids.specs.declared.DocId.{DocId}
use Rattle.tab_ids.specs.declared.NavId.{NavId}
use Rattle.tab_ids.specs.declared.ProcId.{ProcId}
use Rattle.tab_ids.specs.declared.ReqId.{ReqId}
use Rattle.tab_ids.specs.declared.StateId.{StateId}
use Rattle.tab_stands.specs.Delivering.{IsSeenDelivery}
use Rattle.tab_stands.specs.PassedOn.{InPass, IsStray, IsReadyIn}
use Rattle.log_model.specs.declared.job.Task.TheVariants as tasks
use Rattle.log_model.specs.declared.job.Why.TheVariants as whys
use Rattle.log_model.specs.declared.made.Report.TheVariants as reports

-- the event in which the process's report of an order is taken, what is in its unload check as it begins, the queue, and the requests that are noted for stray documents
pub record InMade : Type 0 where
  pub event : InEvent
  pub check : InCheck
  pub proc : ProcId
  pub job : Job
  pub outcome : Outcome
  pub queue : Queue
  pub noted : List (StateId × ReqId)

-- a pass of it, with nothing at hand but the loads in their check
abbrev pub pass_in : InMade → InPass
pass_in m = record { event = m.event; loads = m.check.loads; hand = [] }

-- a pass may follow, for the start; while a traversal in its check holds the queue, one that sweeps
abbrev pub IsReadyThen : InMade → List RowKind → Tables → Type 0
IsReadyThen m out t = IsReadyIn m.check.holds (pass_in m) out t m.queue m.noted whys.Start

-- the event's own row is read off, and the report tells that the document was made for the document state, for this reason, which is no request; and the document is stray then
pub record IsMadeUnneeded (m : InMade) (doc : DocId) (state : StateId) (why : Why) : Type 0 where
  pub aside : IsOwnRead m.event
  pub tells : IsSeenDelivery m.event m.proc (reports.Done m.job m.outcome None)
  pub nav : NavId
  pub address : List ℕ
  pub initial : Bool
  pub task : m.job.task ≡ tasks.Populate nav state address initial
  pub doc_is : m.job.doc ≡ doc
  pub why_is : m.job.why ≡ why
  pub unasked : (req : ReqId) → why ≡ whys.Req req → ⊥
  pub stray : IsStray (now_of m.event []) doc state
