use Rattle.coord.proofs.coordinator.Coordinator.take_shown.Given as goal

abbrev pub ghost-settle : goal.ghost-settle
ghost-settle g a = g.d.event
