use Rattle.std.proofs.Common.{◌++◌}
use Rattle.scenario_make.specs.Scenarios.{made_turns}
use Rattle.scenario_make.proofs.MadeTurns.{AreAdded}
use Rattle.scenario_make.proofs.making.add_turns.Given as goal

abbrev pub invariant-turns : goal.invariant-turns
invariant-turns l = AreAdded (l.fn.lines ++ made_turns 1000 l.n 2) l.lines l.turn l.draws.kept l.number
