use Rattle.tab_loads.proofs.Comes.{cut_now, cut_there, drop_now}
use Rattle.tab_loads.proofs.cutting.cut_off.Goals as goal

pub cut_there-by-requires : goal.cut_there-by-requires
cut_there-by-requires g c = cut_there _ _ c.requires.0 _ c.requires.1.1.1

pub drop_new-requires : goal.drop_new-requires
drop_new-requires g c = drop_now _ _ c.requires.0 _ c.requires.1.0 _ c.requires.1.1.0 _ c.requires.1.1.1

pub returns : goal.returns
returns g c =
    record { come = cut_now _ _ c.requires.0 _ c.requires.1.0 _ c.requires.1.1.0 _ c.requires.1.1.1 _ c.cut_there-by.ensures _ _ c.in_ok-drop_new.ensures.work c.in_ok-drop_new.ensures.out c.in_ok-drop_new.ensures.tables }
