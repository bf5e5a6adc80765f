use Rattle.std.proofs.Common.{refl}
use Rattle.scenario_text.specs.declared.line.ScenarioLine.TheVariants as lines
use Rattle.scenario_text.specs.Follows.{does}
use Rattle.scenario_play.proofs.LeadLaws.{cuts_here, failed}
use Rattle.scenario_play.proofs.playing.ask.Goals as goal

pub returns-in_err-address-in-Load-clause-plays : goal.returns-in_err-address-in-Load-clause-plays
returns-in_err-address-in-Load-clause-plays c =
    failed (does (lines.Ask c.args.request.now)) c.args.world.now.log c.args.world.now.log c.from_residual-in_err-address-in-Load.result c.from_residual-in_err-address-in-Load.ensures.0 (cuts_here (lines.Ask c.args.request.now) c.args.world.now.log refl)

pub returns-in_err-action-in-Poke-clause-plays : goal.returns-in_err-action-in-Poke-clause-plays
returns-in_err-action-in-Poke-clause-plays c =
    failed (does (lines.Ask c.args.request.now)) c.args.world.now.log c.args.world.now.log c.from_residual.result c.from_residual.ensures.0 (cuts_here (lines.Ask c.args.request.now) c.args.world.now.log refl)
