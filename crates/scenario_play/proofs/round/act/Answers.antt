use Rattle.std.proofs.Common.{refl}
use Rattle.scenario_text.specs.declared.line.ScenarioLine.TheVariants as lines
use Rattle.scenario_play.proofs.LeadLaws.{leads_none}
use Rattle.scenario_play.proofs.StepMoves.{act_moves}
use Rattle.scenario_play.proofs.round.act.Goals as goal

pub returns-in-Ok-clause-moves : goal.returns-in-Ok-clause-moves
returns-in-Ok-clause-moves c =
    act_moves c.args.world.now c.step.new.world c.args.proc c.in-Ok.field-0 c.requires.open c.in-Ok.ensures.steps

pub returns-then-not-has_poke-clause-plays : goal.returns-then-not-has_poke-clause-plays
returns-then-not-has_poke-clause-plays c =
    leads_none (lines.Act c.args.proc) c.args.world.now.log (c.if-not-has_poke.ensures.log refl)
