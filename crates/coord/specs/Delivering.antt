-- What a coordinator is told by a report as it is delivered.
-- HTML Standard, "apply the history step" and "URL and history update steps"; orders and reports are this project's own.
use Rattle.tab_stands.specs.Standing.{none_in_check}
use Rattle.coord.specs.Standing.{IsOpenIn}
use Rattle.coord.specs.declared.coordinator.Coordinator.{Coordinator}
use Rattle.indexmap.specs.IndexMap.{insert_entry}
use Rattle.load_table.specs.Loads.{HasOneEach}
use Rattle.log_model.specs.declared.job.Job.{Job}
use Rattle.log_model.specs.declared.made.Made.{Made}
use Rattle.log_model.specs.declared.made.Report.{Report}
use Rattle.log_model.specs.declared.outcome.Outcome.{Outcome}
use Rattle.move_queue.specs.declared.queue_step.QueueStep.{QueueStep}
use Rattle.move_queue.specs.declared.queue_step.QueueStep.TheVariants.{Ready}
use Rattle.seen_laws.specs.InEvent.{InEvent, log_of}
use Rattle.slot_facts.specs.Slots.{AreSlots}
use Rattle.std.specs.Prelude.{List, None, Option, Some, [], ℕ, ◌++◌, ◌∷◌, ◌≡◌}
use Rattle.tab_doors.specs.Noting.{PlacesOne}
use Rattle.tab_doors.specs.Ties.{is_doc}
use Rattle.tab_doors.specs.Working.{KeepsRun}
use Rattle.tab_ids.specs.declared.DocId.{DocId}
use Rattle.tab_ids.specs.declared.NavId.{NavId}
use Rattle.tab_ids.specs.declared.ProcId.{ProcId}
use Rattle.tab_ids.specs.declared.ReqId.{ReqId}
use Rattle.tab_ids.specs.declared.StateId.{StateId}
use Rattle.tab_stands.specs.Delivering.{IsDelivery, IsToldOf, step_ready}
use Rattle.tab_unneeded.specs.Made.{InMade}
use Rattle.log_model.specs.declared.made.Report.TheVariants as reports
use Rattle.log_model.specs.declared.outcome.Outcome.TheVariants as outcomes

-- an event, and the process whose first report it takes, with that report
pub record InDelivery : Type 0 where
  pub event : InEvent
  pub proc : ProcId
  pub report : Report

-- the same, where the report tells that an order was done: how it went
pub record InDone : Type 0 where
  pub event : InEvent
  pub proc : ProcId
  pub outcome : Outcome

-- how an order went of which a report tells; of another report it is asked by nobody
abbrev pub outcome_of : Report → Outcome
outcome_of (reports.Done job outcome made) = outcome
outcome_of _ = outcomes.Discarded

-- ---- handler slots

-- the slot of which a report tells, with its document: that of a document that was made and has a handler
abbrev pub slot_told : Report → Option (DocId × ℕ)
slot_told (reports.Done job (outcomes.Populated (Some slot)) made) = Some (job.doc, slot)
slot_told _ = None

-- the table with that, if a report tells of one
abbrev pub slots_with : List (DocId × ℕ) → Option (DocId × ℕ) → List (DocId × ℕ)
slots_with slots (Some told) = insert_entry is_doc slots told.0 told.1
slots_with slots None = slots

-- ---- a report that was heard: the coordinator's slots are those of the log with it

-- an order was done, and nothing was made of it
pub record IsDone (d : InDone) (c : Coordinator) (job : Job) : Type 0 where
  pub delivery : IsDelivery d.event d.proc (reports.Done job d.outcome None)
  pub open_ : IsOpenIn d.event c
  pub slots : AreSlots (log_of d.event []) c.slots.entries

-- a document made something, of a poke or of an order
pub record IsMade (d : InDelivery) (c : Coordinator) (made : Made) : Type 0 where
  pub delivery : IsDelivery d.event d.proc d.report
  pub tells : IsToldOf d.report made
  pub open_ : IsOpenIn d.event c
  pub slots : AreSlots (log_of d.event []) c.slots.entries

-- ---- a document was made

-- what the event makes of a document that nothing needs
abbrev pub made_in : InDone → Coordinator → Job → InMade
made_in d c job =
    record { event = d.event; check = none_in_check; proc = d.proc; job = job; outcome = d.outcome; queue = c.queue; noted = c.blame.entries }

abbrev pub done_in : InMade → InDone
done_in m = record { event = m.event; proc = m.proc; outcome = m.outcome }

-- the step of a load that is ready, if one is
abbrev pub steps_of : Option ReqId → NavId → List QueueStep
steps_of (Some req) nav = Ready req nav ∷ []
steps_of None nav = []

-- the document is there for its state, and the load that waits for it waits for its turn; the rest is as it was
pub record HasPlaced (c then_ : Coordinator) (doc : DocId) (state : StateId) : Type 0 where
  pub header : then_.header ≡ c.header
  pub one : PlacesOne state doc c.tables then_.tables
  pub run : KeepsRun c.tables then_.tables
  pub queue : then_.queue ≡ record c.queue { waiting = c.queue.waiting ++ step_ready c.tables.loads doc }
  pub noted : then_.blame.entries ≡ c.blame.entries
  pub slots : then_.slots.entries ≡ c.slots.entries
  pub one_each : HasOneEach c.tables.loads
