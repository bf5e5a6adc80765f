use Rattle.scenario_play.proofs.StepMoves.{deliver_moves}
use Rattle.scenario_play.proofs.round.deliver.Goals as goal

pub returns-in-Ok-clause-moves : goal.returns-in-Ok-clause-moves
returns-in-Ok-clause-moves c =
    deliver_moves c.args.world.now c.step.new.world c.args.proc c.in-Ok.field-0 c.requires.open c.in-Ok.ensures.steps
