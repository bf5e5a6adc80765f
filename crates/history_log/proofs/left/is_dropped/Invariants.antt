use Rattle.std.proofs.Common.{◌≡◌, drop}
use Rattle.history_log.specs.Lefts.{is_dropped_by}
use Rattle.history_log.proofs.left.is_dropped.Given as goal

abbrev pub invariant-loop-i : goal.invariant-loop-i
invariant-loop-i l = is_dropped_by l.req (drop l.i l.rows) ≡ is_dropped_by l.req (drop l.from l.rows)
