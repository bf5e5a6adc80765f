use Rattle.coord.proofs.coordinator.Coordinator.evict_kept.Given as goal

abbrev pub ghost-evict_longest : goal.ghost-evict_longest
ghost-evict_longest g a = g.b

abbrev pub ghost-settle : goal.ghost-settle
ghost-settle g a = g.b.event
