-- An order that its process has still to finish, or the report of which waits.
-- This project's own.
use Rattle.std.specs.Prelude.{◌≡◌, ◌⊎◌, List}
use Rattle.tab_ids.specs.declared.DocId.{DocId}
use Rattle.tab_ids.specs.declared.JobId.{JobId}
use Rattle.log_model.specs.declared.job.Job.{Job}
use Rattle.log_model.specs.declared.job.Task.{Task}
use Rattle.log_model.specs.declared.job.Task.TheVariants as tasks
use Rattle.log_model.specs.declared.made.Report.{Report}
use Rattle.log_model.specs.declared.made.Report.TheVariants as reports
use Rattle.log_model.specs.declared.outcome.Outcome.{Outcome}
use Rattle.log_model.specs.declared.outcome.Outcome.TheVariants as outcomes
use Rattle.log_model.specs.Seen.{Desk}
use Rattle.seen_facts.specs.Coord.Leading.{orders_of_desk}
use Rattle.seen_facts.specs.Hang.Members.{Has}

-- an item of the list is so
pub record HasSome {A : Type 0} (P : A → Type 0) (xs : List A) : Type 0 where
  pub it : A
  pub there : Has xs it
  pub is : P it

-- the outcome is one of the task
abbrev pub IsOutcomeOf : Task → Outcome → Type 0
IsOutcomeOf (tasks.Populate nav state address initial) (outcomes.Populated slot) = Unit {0}
IsOutcomeOf (tasks.Activate entry epoch length index memo address) outcomes.Activated = Unit {0}
IsOutcomeOf (tasks.Update length index) outcomes.Updated = Unit {0}
IsOutcomeOf tasks.Freeze outcomes.Frozen = Unit {0}
IsOutcomeOf tasks.Discard outcomes.Discarded = Unit {0}
IsOutcomeOf (tasks.Ask slot cause) (outcomes.Asked verdict) = Unit {0}
IsOutcomeOf (tasks.DoFragment req mode address) outcomes.Fragmented = Unit {0}
IsOutcomeOf _ _ = ⊥

-- the report tells of such an order, with an outcome of its task
abbrev pub TellsOf : (Job → Type 0) → Report → Type 0
TellsOf P (reports.Done job outcome made) = P job × IsOutcomeOf job.task outcome
TellsOf P _ = ⊥

-- such an order is in the mail or in hand, or a report of it waits
abbrev pub IsOutstanding : (Job → Type 0) → Desk → Type 0
IsOutstanding P desk = HasSome P (orders_of_desk desk) ⊎ HasSome (TellsOf P) desk.reports

-- the order shows the document, and has the number
abbrev pub IsShowOf : DocId → JobId → Job → Type 0
IsShowOf doc nr job = by_task doc nr job job.task
  where
    by_task : DocId → JobId → Job → Task → Type 0
    by_task doc nr job (tasks.Activate entry epoch length index memo address) = (job.doc ≡ doc) × (job.nr ≡ nr)
    by_task doc nr job _ = ⊥

-- the order makes the document
abbrev pub IsMakeOf : DocId → Job → Type 0
IsMakeOf doc job = by_task doc job job.task
  where
    by_task : DocId → Job → Task → Type 0
    by_task doc job (tasks.Populate nav state address initial) = job.doc ≡ doc
    by_task doc job _ = ⊥
