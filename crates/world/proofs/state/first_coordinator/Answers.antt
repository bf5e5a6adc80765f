use Rattle.coord.specs.Standing.{StandsFor}
use Rattle.log_model.specs.declared.header.Header.{Header}
use Rattle.std.proofs.Common.{IfOk, subst, ◌≡◌}
use Rattle.coord.specs.PassedOn.{opened_at}
use Rattle.world.proofs.state.first_coordinator.Goals as goal

pub returns-clause-stands : goal.returns-clause-stands
returns-clause-stands c =
    subst (λ (h : Header). IfOk c.fresh.result (λ x. StandsFor (opened_at h.first c.args.proc) x)) c.in_ok-settings.ensures c.fresh.ensures.stands

pub returns-clause-header : goal.returns-clause-header
returns-clause-header c =
    subst (λ (h : Header). IfOk c.fresh.result (λ x. x.header ≡ h)) c.in_ok-settings.ensures c.fresh.ensures.header
