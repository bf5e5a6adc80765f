use Rattle.std.proofs.Common.{◌≡◌, false, subst}
use Rattle.log_model.specs.Logs.{seen_of, is_quiet}
use Rattle.world.specs.Kept.{WorldState}
use Rattle.world.proofs.Readers.{quiet_is}
use Rattle.world.proofs.world.World.is_quiet.Goals as goal

pub returns : goal.returns
returns c =
    record { quiet = subst (λ (w : WorldState). w.closed ≡ false → c.is_idle.result ≡ is_quiet (seen_of w.log)) c.self.view_is (λ e. quiet_is _ _ _ (c.self.invariant.stands e) c.is_idle.result c.is_idle.ensures.idle c.is_idle.ensures.busy) }
