use Rattle.tab_takes.proofs.Sorts.{off}
use Rattle.tab_takes.proofs.Dropped.{destroy_done, destroy_due, is_no_load}
use Rattle.tab_takes.proofs.Verdicts.{apart, tells}
use Rattle.tab_takes.proofs.taking.destroyed.Goals as goal

pub destroy-requires : goal.destroy-requires
destroy-requires g c =
    (c.requires.0.passing.work, (destroy_due _ _ _ _ _ c.requires.0 _ (tells _ _ _ _ _ c.requires.0 _ c.requires.1), (apart _ _ _ _ _ c.requires.0, (is_no_load _ _ _ _ _ c.requires.0, off _ _ _ _ _ c.requires.0))))

pub returns : goal.returns
returns g c =
    record { taken = destroy_done _ _ _ _ _ c.requires.0 _ (tells _ _ _ _ _ c.requires.0 _ c.requires.1) _ _ c.in_ok-destroy.ensures.out c.in_ok-destroy.ensures.tables c.in_ok-destroy.ensures.work }
