use Rattle.std.proofs.Common.{[], subst, ◌≡◌}
use Rattle.log_model.specs.Suits.{Suits}
use Rattle.world.specs.Kept.{WorldState, OpensAs}
use Rattle.world.proofs.world.World.into_log.Goals as goal

pub returns-clause-suits : goal.returns-clause-suits
returns-clause-suits c =
    subst (λ (w : WorldState). w.header.pages ≡ [] → OpensAs w.header w.log → Suits w.header w.log) c.self.view_is c.self.invariant.suits
