use Rattle.std.proofs.Common.{take}
use Rattle.step_index.specs.Starts.{AreStarted}
use Rattle.step_index.proofs.rebuild.starts_of.Given as goal

abbrev pub invariant-loop-row : goal.invariant-loop-row
invariant-loop-row l = AreStarted l.starts.entries (take l.row-index l.rows)
