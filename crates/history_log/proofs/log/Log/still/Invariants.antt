use Rattle.std.proofs.Common.{◌≤◌, ◌-◌}
use Rattle.history_log.proofs.StillLaws.{AreIdleBelow}
use Rattle.history_log.proofs.log.Log.still.Given as goal

abbrev pub invariant-processes : goal.invariant-processes
invariant-processes l = record {
  idle : AreIdleBelow l.rows l.from;
  few : l.from ≤ 4294967296;
}

abbrev pub decreases-processes : goal.decreases-processes
decreases-processes l = 4294967296 - l.from
