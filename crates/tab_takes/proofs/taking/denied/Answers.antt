use Rattle.tab_takes.proofs.Denied.{deny_due, has_denied}
use Rattle.tab_takes.proofs.Verdicts.{apart}
use Rattle.tab_takes.proofs.taking.denied.Goals as goal

pub deny-requires : goal.deny-requires
deny-requires g c =
    (c.requires.0.passing.work, (deny_due _ _ _ _ _ c.requires.0 _ c.requires.1, apart _ _ _ _ _ c.requires.0))

pub returns : goal.returns
returns g c =
    record { taken = has_denied _ _ _ _ _ c.requires.0 _ c.requires.1 _ _ c.in_ok-deny.ensures.out c.in_ok-deny.ensures.tables c.in_ok-deny.ensures.work }
