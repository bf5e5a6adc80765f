use Rattle.tab_takes.proofs.Sorts.{off}
use Rattle.std.proofs.Common.{refl}
use Rattle.tab_takes.proofs.Dropped.{drop_done, drop_due, is_no_load}
use Rattle.tab_takes.proofs.Verdicts.{apart, tells}
use Rattle.tab_takes.proofs.taking.moved_by.Goals as goal

pub drop_moved-requires : goal.drop_moved-requires
drop_moved-requires g c =
    let told = tells _ _ _ _ _ c.requires.0 _ c.requires.1 in
    (c.requires.0.passing.work, (drop_due _ _ _ _ _ c.requires.0 told.0 told.1.0 _ told.1.1 _ refl, (apart _ _ _ _ _ c.requires.0, (is_no_load _ _ _ _ _ c.requires.0, off _ _ _ _ _ c.requires.0))))

pub returns : goal.returns
returns g c =
    let told = tells _ _ _ _ _ c.requires.0 _ c.requires.1 in
    record { taken = drop_done _ _ _ _ _ c.requires.0 told.0 told.1.0 _ told.1.1 _ refl _ _ c.in_ok-drop_moved.ensures.out c.in_ok-drop_moved.ensures.tables c.in_ok-drop_moved.ensures.work }
