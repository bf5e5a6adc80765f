use Rattle.coord.proofs.coordinator.Coordinator.evict.Given as goal
use Rattle.coord.specs.Evicting.{evict_in}

abbrev pub ghost-evict_kept : goal.ghost-evict_kept
ghost-evict_kept g a = evict_in g.v a.self.now
