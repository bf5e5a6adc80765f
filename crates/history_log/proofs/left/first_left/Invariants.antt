use Rattle.std.proofs.Common.{◌≡◌, take, drop}
use Rattle.history_log.specs.Lefts.{left_from}
use Rattle.history_log.proofs.left.first_left.Given as goal

abbrev pub invariant-loop-i : goal.invariant-loop-i
invariant-loop-i l =
    left_from l.proc (take l.i l.rows) (drop l.i l.rows) ≡ left_from l.proc (take l.from l.rows) (drop l.from l.rows)
