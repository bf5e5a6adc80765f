use Rattle.seen_laws.specs.InEvent.{now_of}
use Rattle.tab_walk.proofs.leaving.make_room.Given as goal
use Rattle.tab_walk.specs.Moving.{evicting_in}

abbrev pub ghost-evict : goal.ghost-evict
ghost-evict g a = evicting_in g.m (now_of g.m.pass.event a.out.now)
