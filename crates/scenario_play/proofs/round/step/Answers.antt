use Rattle.std.proofs.Common.{Ok, Err}
use Rattle.world.specs.declared.error.StepError.TheVariants as errors
use Rattle.scenario_play.proofs.StepPlays.{step_plays}
use Rattle.scenario_play.proofs.round.step.Goals as goal

pub returns-in-Ok-clause-plays : goal.returns-in-Ok-clause-plays
returns-in-Ok-clause-plays c =
    step_plays c.args.world.now c.step.new.self c.args.event (Ok c.in-Ok.reply) c.log-log.ensures.legal c.requires.hand (c.in-Ok.ensures.steps c.requires.open)

pub returns-in-Err-LogFull-clause-plays : goal.returns-in-Err-LogFull-clause-plays
returns-in-Err-LogFull-clause-plays c =
    step_plays c.args.world.now c.step.new.self c.args.event (Err errors.LogFull) c.log-log.ensures.legal c.requires.hand (rw c.in-Err-LogFull.field-0-is at (c.in-Err-LogFull.ensures.steps c.requires.open))

pub returns-in-Err-UrlOverflow-clause-plays : goal.returns-in-Err-UrlOverflow-clause-plays
returns-in-Err-UrlOverflow-clause-plays c =
    step_plays c.args.world.now c.step.new.self c.args.event (Err (errors.UrlOverflow c.in-Err-UrlOverflow.overflowed)) c.log-log.ensures.legal c.requires.hand (rw c.in-Err-UrlOverflow.field-0-is at (c.in-Err-UrlOverflow.ensures.steps c.requires.open))

pub returns-in-Err-OutOfMemory-clause-plays : goal.returns-in-Err-OutOfMemory-clause-plays
returns-in-Err-OutOfMemory-clause-plays c =
    step_plays c.args.world.now c.step.new.self c.args.event (Err errors.OutOfMemory) c.log-log.ensures.legal c.requires.hand (rw c.in-Err-OutOfMemory.field-0-is at (c.in-Err-OutOfMemory.ensures.steps c.requires.open))
