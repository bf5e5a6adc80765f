use Rattle.std.proofs.Common.{◌≡◌, ℕ, ◌==◌, false, length, ap, subst}
use Rattle.log_model.specs.Formed.{running_documents}
use Rattle.log_model.specs.Logs.{seen_of}
use Rattle.world.specs.Kept.{WorldState}
use Rattle.world.proofs.world.World.is_sole.Goals as goal

pub returns : goal.returns
returns c =
    record { sole = subst (λ (w : WorldState). w.closed ≡ false → (c.count.result == 1) ≡ (length (running_documents (seen_of w.log) c.args.nav) == 1)) c.self.view_is (λ e. let is = c.self.invariant.stands e in ap (λ (n : ℕ). n == 1) (c.count.ensures _ is.holds.runners)) }
