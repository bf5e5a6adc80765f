use Rattle.std.proofs.Common.{◌≡◌, false, take}
use Rattle.scenario_text.specs.Follows.{plays}
use Rattle.scenario_play.specs.Courses.{Leads}
use Rattle.scenario_play.specs.Moves.{HaveTurns}
use Rattle.scenario_play.proofs.playing.play_lines.Given as goal

abbrev pub invariant-loop-line : goal.invariant-loop-line
invariant-loop-line g l = record {
  opened : l.world.closed ≡ false;
  header : l.world.header ≡ l.fn.world.header;
  kinds : l.world.kinds ≡ l.fn.world.kinds;
  turns : HaveTurns l.world.header;
  played : Leads (plays (take l.line-index l.lines)) l.fn.world.log l.world.log;
}
