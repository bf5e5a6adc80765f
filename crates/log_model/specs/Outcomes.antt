-- Which outcome a finished order may have, and whether a request was dropped.
-- This project's own: one outcome for each kind of order.
use Rattle.std.specs.Prelude.{Bool, true, false}
use Rattle.log_model.specs.declared.job.Task.{Task}
use Rattle.log_model.specs.declared.job.Task.TheVariants as tasks
use Rattle.log_model.specs.declared.outcome.Ending.{Ending}
use Rattle.log_model.specs.declared.outcome.Ending.TheVariants as endings
use Rattle.log_model.specs.declared.outcome.Outcome.{Outcome}
use Rattle.log_model.specs.declared.outcome.Outcome.TheVariants as outcomes

-- the outcome is one of the task
abbrev pub is_outcome_of : Task → Outcome → Bool
is_outcome_of (tasks.Populate nav state address initial) (outcomes.Populated slot) = true
is_outcome_of (tasks.Activate entry epoch length index memo address) outcomes.Activated = true
is_outcome_of (tasks.Update length index) outcomes.Updated = true
is_outcome_of tasks.Freeze outcomes.Frozen = true
is_outcome_of tasks.Discard outcomes.Discarded = true
is_outcome_of (tasks.Ask slot cause) (outcomes.Asked verdict) = true
is_outcome_of (tasks.DoFragment req mode address) outcomes.Fragmented = true
is_outcome_of task outcome = false

-- the request was dropped
abbrev pub is_drop : Ending → Bool
is_drop (endings.Dropped cause) = true
is_drop _ = false
