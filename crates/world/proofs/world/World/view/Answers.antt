use Rattle.std.proofs.Common.{◌≡◌, ◌∙◌, false, Option, None, subst}
use Rattle.std.specs.Option.{option_copied}
use Rattle.std.specs.Prelude.{option_and_then}
use Rattle.log_model.specs.Logs.{seen_of}
use Rattle.log_model.specs.Seen.{Document}
use Rattle.log_model.specs.Views.{View}
use Rattle.world.specs.Kept.{WorldState}
use Rattle.world.specs.Steps.{reached_in}
use Rattle.world.proofs.Facts.{are_of}
use Rattle.world.proofs.Readers.{view_here, view_none}
use Rattle.world.proofs.world.World.view.Goals as goal

pub returns-in-Ok : goal.returns-in-Ok
returns-in-Ok c =
    record { view = subst (λ (w : WorldState). w.closed ≡ false → option_copied c.of.result ≡ option_and_then (λ (d : Document). d.view) (reached_in (seen_of w.log) c.args.nav)) c.self.view_is (λ e. c.of.ensures ∙ view_here _ _ _ (c.self.invariant.stands e) c.args.nav c.in-Ok.doc (c.in-Ok.ensures.reached _ (are_of _ _ _ (c.self.invariant.stands e)))) }

pub returns-in-Err : goal.returns-in-Err
returns-in-Err c =
    record { view = subst (λ (w : WorldState). w.closed ≡ false → (let o : Option View = None in o) ≡ option_and_then (λ (d : Document). d.view) (reached_in (seen_of w.log) c.args.nav)) c.self.view_is (λ e. view_none _ _ _ (c.self.invariant.stands e) c.args.nav _ (c.in-Err.ensures.denied _ (are_of _ _ _ (c.self.invariant.stands e)))) }
