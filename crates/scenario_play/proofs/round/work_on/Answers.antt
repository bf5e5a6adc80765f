use Rattle.std.proofs.Common.{◌∙◌, [], ◌∷◌, sym, refl}
use Rattle.scenario_text.specs.declared.line.ScenarioLine.TheVariants as lines
use Rattle.scenario_text.specs.Follows.{does_all}
use Rattle.scenario_play.proofs.LeadLaws.{failed}
use Rattle.scenario_play.proofs.StepPlays.{no_copy, works_on}
use Rattle.scenario_play.proofs.round.work_on.Goals as goal

pub returns-in_err-order-clause-plays : goal.returns-in_err-order-clause-plays
returns-in_err-order-clause-plays g c =
    failed (does_all (lines.Begin c.args.proc ∷ lines.Finish c.args.proc ∷ [])) _ _ c.from_residual.result c.from_residual.ensures.0 (no_copy c.args.world.now.log c.args.proc (c.in_err-order.ensures.some refl))

pub returns-in-Some-clause-plays : goal.returns-in-Some-clause-plays
returns-in-Some-clause-plays g c =
    works_on c.args.proc c.in-Some.order c.args.world.now.log c.finish.new.world.log c.finish.result (sym c.in_ok-order.ensures.log ∙ c.in-Some.is) c.finish.ensures.plays
