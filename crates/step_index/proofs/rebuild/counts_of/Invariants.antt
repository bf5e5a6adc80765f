use Rattle.std.proofs.Common.{take}
use Rattle.step_index.specs.Groups.{AreCounted}
use Rattle.step_index.proofs.rebuild.counts_of.Given as goal

abbrev pub invariant-loop-row : goal.invariant-loop-row
invariant-loop-row l = AreCounted l.counts.entries (take l.row-index l.rows)
