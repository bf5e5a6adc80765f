use Rattle.std.proofs.Common.{◌∙◌, sym, refl}
use Rattle.scenario_text.specs.declared.line.ScenarioLine.TheVariants as lines
use Rattle.scenario_text.specs.Follows.{does}
use Rattle.scenario_play.proofs.LeadLaws.{failed}
use Rattle.scenario_play.proofs.StepPlays.{finish_has_none, no_finish}
use Rattle.scenario_play.proofs.round.finish_in_hand.Goals as goal

pub returns-in_err-order-clause-plays : goal.returns-in_err-order-clause-plays
returns-in_err-order-clause-plays g c =
    failed (does (lines.Finish c.args.proc)) _ _ c.from_residual.result c.from_residual.ensures.0 (no_finish c.args.world.now.log c.args.proc (c.in_err-order.ensures.some refl))

pub returns-in-None-clause-plays : goal.returns-in-None-clause-plays
returns-in-None-clause-plays g c =
    finish_has_none c.args.world.now.log c.args.proc (sym c.in_ok-order.ensures.log ∙ c.in-None.is)
