use Rattle.std.proofs.Common.{arith}
use Rattle.scenario_make.proofs.MadeTurns.{one_added, all_added}
use Rattle.scenario_make.proofs.making.add_turns.Goals as goal

pub turns-preserved : goal.turns-preserved
turns-preserved c =
    one_added _ c.turns.lines c.add_turn.new.lines c.in_ok-line.line c.turns.turn c.turns.draws.kept c.next_line.new.draws.kept c.turns.number c.in_ok-number.number (omega (arith, c.turns-test.true)) c.turns.invariant
    c.in_ok-line.ensures.line c.in_ok-line.ensures.kept c.in_ok-number.ensures.lines c.in_ok-number.ensures.number

pub returns : goal.returns
returns c = all_added _ c.turns.lines c.turns.turn c.turns.draws.kept c.turns.number (omega (arith, c.turns-test.false)) c.turns.invariant
