-- What a coordinator of a tab with loads is told by a report as it is delivered.
-- HTML Standard, "apply the history step" and "URL and history update steps"; orders and reports are this project's own.
use Rattle.load_table.specs.Loads.{is_populating}
use Rattle.load_table.specs.declared.load.Load.{Load}
use Rattle.log_model.specs.AfterRequests.{made_of_report}
use Rattle.log_model.specs.Seen.{Seen, desk_of}
use Rattle.log_model.specs.declared.job.Task.{Task}
use Rattle.log_model.specs.declared.made.Made.{Made}
use Rattle.log_model.specs.declared.made.Report.{Report}
use Rattle.move_queue.specs.declared.queue_step.QueueStep.{QueueStep}
use Rattle.move_queue.specs.declared.queue_step.QueueStep.TheVariants.{Ready}
use Rattle.nav_tree.specs.Tree.{is_state}
use Rattle.load_doors.specs.Logged.{seen_start}
use Rattle.seen_laws.specs.InEvent.{InEvent}
use Rattle.seen_laws.specs.Unasked.{no_answer}
use Rattle.unasked.specs.Premises.{IsUnheld}
use Rattle.std.specs.Map.{lookup}
use Rattle.std.specs.Option.{option_map_or}
use Rattle.std.specs.Prelude.{List, Some, [], false, find, slice_get, ◌==◌, ◌∷◌, ◌≡◌}
use Rattle.tab_ids.specs.declared.DocId.{DocId}
use Rattle.tab_ids.specs.declared.ProcId.{ProcId}
use Rattle.tab_ids.specs.declared.ReqId.{ReqId}
use Rattle.tab_ids.specs.declared.StateId.{StateId}
use Rattle.tab_settles.specs.PassedOn.{IsStray, MayServe}
use Rattle.log_model.specs.declared.job.Task.TheVariants as tasks
use Rattle.log_model.specs.declared.row_kind.Actor.TheVariants as actors
use Rattle.log_model.specs.declared.row_kind.RowKind.TheVariants as rows

-- the event in which the coordinator takes the first report of the process
pub record IsDelivery (e : InEvent) (proc : ProcId) (report : Report) : Type 0 where
  pub by_coord : e.actor ≡ actors.Coord
  pub own : e.own ≡ rows.Delivered proc
  pub first : slice_get (desk_of e.start proc).reports 0 ≡ Some report

-- so it is where this is the report as it would be had nobody been asked, and a traversal in its check has shown nobody a document
pub record IsSeenDelivery (e : InEvent) (proc : ProcId) (report : Report) : Type 0 where
  pub by_coord : e.actor ≡ actors.Coord
  pub own : e.own ≡ rows.Delivered proc
  pub first : slice_get (desk_of (seen_start e) proc).reports 0 ≡ Some report
  pub real : Report
  pub real_first : slice_get (desk_of e.start proc).reports 0 ≡ Some real
  pub quiet : no_answer real ≡ Some report
  pub unheld : IsUnheld e.checking e.start

-- the order shows its document
abbrev pub IsShowTask : Task → Type 0
IsShowTask (tasks.Activate entry epoch length index memo address) = Unit {0}
IsShowTask _ = ⊥

-- the order neither makes nor shows a document, and asks nothing
abbrev pub IsQuietTask : Task → Type 0
IsQuietTask (tasks.Update length index) = Unit {0}
IsQuietTask tasks.Freeze = Unit {0}
IsQuietTask tasks.Discard = Unit {0}
IsQuietTask (tasks.DoFragment req mode address) = Unit {0}
IsQuietTask _ = ⊥

-- the order makes its document, for the document state
abbrev pub IsMakeTask : StateId → Task → Type 0
IsMakeTask state (tasks.Populate nav made_for address initial) = made_for ≡ state
IsMakeTask state _ = ⊥

-- the step of the load that waits for the document, if one does
abbrev pub step_ready : List Load → DocId → List QueueStep
step_ready table doc =
    option_map_or (λ (load : Load). Ready load.req load.nav ∷ []) (find (is_populating doc) table) []

-- a request is noted for the document state, for which an order to its document may be sent
pub record IsNotedFor (s : Seen) (noted : List (StateId × ReqId)) (state : StateId) : Type 0 where
  pub req : ReqId
  pub noted_is : lookup (is_state state) noted ≡ Some req
  pub may : MayServe s req

-- so it is of the state of a document that was made, where that is stray; and what was noted for others is
pub record IsMadeNoted (s : Seen) (was noted : List (StateId × ReqId)) (doc : DocId) (state : StateId) : Type 0 where
  pub others : (other : StateId) → (state.0 == other.0) ≡ false → lookup (is_state other) noted ≡ lookup (is_state other) was
  pub own : IsStray s doc state → IsNotedFor s noted state

-- the report tells of what a document made, of a poke or of a fragment order
abbrev pub IsToldOf : Report → Made → Type 0
IsToldOf report made = made_of_report report ≡ Some made
