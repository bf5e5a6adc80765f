-- Each round logs something, from below the limit on.
use Rattle.std.proofs.Common.{◌≡◌, ◌-◌, false, length}
use Rattle.world.specs.Open.{row_limit}
use Rattle.scenario_play.specs.Courses.{PlaysRounds}
use Rattle.scenario_play.specs.Moves.{HaveTurns}
use Rattle.scenario_play.proofs.round.settle.Given as goal

abbrev pub invariant-rounds : goal.invariant-rounds
invariant-rounds g l = record {
  opened : l.world.closed ≡ false;
  header : l.world.header ≡ l.fn.world.header;
  kinds : l.world.kinds ≡ l.fn.world.kinds;
  turns : HaveTurns l.world.header;
  played : PlaysRounds l.fn.world.log l.world.log;
}

abbrev pub decreases-rounds : goal.decreases-rounds
decreases-rounds g l = row_limit - length l.world.log
