use Rattle.std.proofs.Common.{◌≡◌, false, subst}
use Rattle.log_model.specs.Logs.{seen_of, is_still}
use Rattle.world.specs.Kept.{WorldState}
use Rattle.world.specs.Sited.{SomeWaits}
use Rattle.world.proofs.Readers.{some_waits, still_is}
use Rattle.world.proofs.world.World.is_still.Goals as goal

pub returns-clause-still : goal.returns-clause-still
returns-clause-still c =
    subst (λ (w : WorldState). w.closed ≡ false → c.is_idle.result ≡ is_still (seen_of w.log)) c.self.view_is (λ e. still_is _ _ _ (c.self.invariant.stands e) c.is_idle.result c.is_idle.ensures.idle c.is_idle.ensures.busy)

pub returns-clause-sited : goal.returns-clause-sited
returns-clause-sited c =
    subst (λ (w : WorldState). w.closed ≡ false → c.is_idle.result ≡ false → SomeWaits w.header (seen_of w.log)) c.self.view_is (λ e. some_waits _ _ _ (c.self.invariant.stands e) c.is_idle.result c.is_idle.ensures.idle c.is_idle.ensures.busy)
