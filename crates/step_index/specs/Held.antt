-- The history that a `StepIndex` holds.
use Rattle.log_model.specs.History.{History}
use Rattle.step_index.specs.declared.step_index.StepIndex.{StepIndex}
use Rattle.step_index.specs.Parts.{history_in}

-- the rows of all navigables, the current step, and the child navigables ever added
abbrev pub history_held : StepIndex → History
history_held store = history_in store.parts
