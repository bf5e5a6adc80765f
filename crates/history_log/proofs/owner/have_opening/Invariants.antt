use Rattle.std.proofs.Common.{◌≡◌, drop}
use Rattle.history_log.specs.Lefts as lefts
use Rattle.history_log.proofs.owner.have_opening.Given as goal

abbrev pub invariant-loop-row : goal.invariant-loop-row
invariant-loop-row l = lefts.have_opening (drop l.row-index l.rows) ≡ lefts.have_opening l.rows
