use Rattle.tab_takes.proofs.Dropped.{no_death, no_evict, no_start}
use Rattle.tab_takes.proofs.Verdicts.{tells}
use Rattle.tab_takes.proofs.taking.moved.Goals as goal

pub unreachable-requires : goal.unreachable-requires
unreachable-requires g c =
    let told = tells _ _ _ _ _ c.requires.0 _ c.requires.1 in
    no_death _ _ _ _ _ c.requires.0 told.0 told.1.0 _ told.1.1 _ c.in-Death.is

pub unreachable-requires-in-Evict : goal.unreachable-requires-in-Evict
unreachable-requires-in-Evict g c =
    let told = tells _ _ _ _ _ c.requires.0 _ c.requires.1 in
    no_evict _ _ _ _ _ c.requires.0 told.0 told.1.0 _ told.1.1 c.in-Evict.is

pub unreachable-requires-in-Start : goal.unreachable-requires-in-Start
unreachable-requires-in-Start g c =
    let told = tells _ _ _ _ _ c.requires.0 _ c.requires.1 in
    no_start _ _ _ _ _ c.requires.0 told.0 told.1.0 _ told.1.1 c.in-Start.is
