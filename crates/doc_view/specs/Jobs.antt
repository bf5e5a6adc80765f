-- What an order to a document asks of its view.
-- HTML Standard, "Navigating to a fragment", "Updating the document".
use Rattle.std.specs.Prelude.{Option, option_map, option_and_then}
use Rattle.log_model.specs.declared.job.Task.{Task}
use Rattle.log_model.specs.declared.job.Task.TheVariants as tasks
use Rattle.log_model.specs.declared.made.Made.{Made}
use Rattle.log_model.specs.Views.{View, made_for, made_of_task, request_of_task}

-- the task is one for a view that is there: its document is neither to be made nor to be gone
abbrev pub IsForView : Task → Type 0
IsForView (tasks.Populate nav state address initial) = ⊥
IsForView (tasks.Activate entry epoch length index memo address) = Unit {0}
IsForView (tasks.Update length index) = Unit {0}
IsForView tasks.Freeze = Unit {0}
IsForView tasks.Discard = ⊥
IsForView (tasks.Ask slot cause) = Unit {0}
IsForView (tasks.DoFragment req mode address) = Unit {0}

-- what a document makes of an order, for the request that the order answers
abbrev pub made_of_order : View → Task → Option Made
made_of_order view task =
    option_and_then (λ req. option_map (made_for view req) (made_of_task view task)) (request_of_task task)
