-- What a document process works out for an order.
-- HTML Standard, "Checking if unloading is canceled"; one outcome for each kind of order is this project's own.
use Rattle.std.specs.Prelude.{Bool, List, slice_get, Option, Some, None, if◌then◌else◌}
use Rattle.log_model.specs.declared.handler.HandlerKind.{HandlerKind}
use Rattle.log_model.specs.declared.handler.Leaving.{Leaving}
use Rattle.log_model.specs.declared.handler.Verdict.{Verdict}
use Rattle.log_model.specs.declared.handler.Verdict.TheVariants as verdicts
use Rattle.log_model.specs.declared.job.Order.{Order}
use Rattle.log_model.specs.declared.job.Task.{Task}
use Rattle.log_model.specs.declared.job.Task.TheVariants as tasks
use Rattle.log_model.specs.declared.outcome.Outcome.{Outcome}
use Rattle.log_model.specs.declared.outcome.Outcome.TheVariants as outcomes
use Rattle.log_model.specs.Handlers.{prompts}

-- an order that was worked on, its outcome, and the kind of the unload handler that was asked, if one was
pub record Done : Type 0 where
  pub order : Order
  pub outcome : Outcome
  pub kind : Option HandlerKind

-- what a document answers that is asked to leave: without a handler it leaves
abbrev pub verdict_of : Option HandlerKind → Leaving → Verdict
verdict_of None leaving = verdicts.Leave
verdict_of (Some kind) leaving = if prompts kind leaving then verdicts.Prompt else verdicts.Leave

-- the outcome of a task, where the document has unsaved edits or not and the asked handler is of this kind
abbrev pub outcome_of_task : Task → Bool → Option HandlerKind → Outcome
outcome_of_task (tasks.Populate nav state address initial) dirty kind = outcomes.Populated None
outcome_of_task (tasks.Activate entry epoch length index memo address) dirty kind = outcomes.Activated
outcome_of_task (tasks.Update length index) dirty kind = outcomes.Updated
outcome_of_task tasks.Freeze dirty kind = outcomes.Frozen
outcome_of_task tasks.Discard dirty kind = outcomes.Discarded
outcome_of_task (tasks.Ask slot cause) dirty kind =
    outcomes.Asked (verdict_of kind (record { dirty = dirty; cause = cause }))
outcome_of_task (tasks.DoFragment req mode address) dirty kind = outcomes.Fragmented

-- the order worked on, where the asked handler is of this kind
abbrev pub done_of : Order → Option HandlerKind → Done
done_of order kind = record { order = order; outcome = outcome_of_task order.job.task order.dirty kind; kind = kind }

-- the kind of the handler that an order asks, of those in these slots: none where the slot is empty, or where the order asks nobody
abbrev pub kind_asked : List HandlerKind → Task → Option HandlerKind
kind_asked kinds (tasks.Ask slot cause) = slice_get kinds slot
kind_asked kinds _ = None
