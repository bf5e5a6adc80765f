use Rattle.std.proofs.Common.{◌≡◌, ◌-◌, false}
use Rattle.scenario_text.specs.Follows.{does_all, turns_to}
use Rattle.log_model.specs.Logs.{seen_of}
use Rattle.world.specs.Sited.{SomeWaits}
use Rattle.scenario_play.specs.Moves.{HasTurn}
use Rattle.scenario_play.specs.Courses.{Leads}
use Rattle.scenario_play.proofs.StepMoves.{HasMoved}
use Rattle.scenario_play.proofs.round.round.Given as goal

abbrev pub invariant-loop-number : goal.invariant-loop-number
invariant-loop-number g l = record {
  opened : l.world.closed ≡ false;
  header : l.world.header ≡ l.fn.world.header;
  kinds : l.world.kinds ≡ l.fn.world.kinds;
  moved : (busy : SomeWaits l.fn.world.header (seen_of l.fn.world.log)) → HasTurn busy.proc → HasMoved busy.proc l.number l.fn.world l.world;
  played : Leads (does_all (turns_to (l.number - 1))) l.fn.world.log l.world.log;
}
