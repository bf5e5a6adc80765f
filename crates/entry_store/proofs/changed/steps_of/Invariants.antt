use Rattle.std.proofs.Common.{◌≡◌, take}
use Rattle.log_model.specs.History.{used_steps}
use Rattle.entry_store.proofs.changed.steps_of.Given as goal

abbrev pub invariant-loop-row : goal.invariant-loop-row
invariant-loop-row l = l.steps.keys ≡ used_steps (take l.row-index l.rows)
