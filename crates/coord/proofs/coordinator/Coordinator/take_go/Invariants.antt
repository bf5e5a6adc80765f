use Rattle.coord.proofs.coordinator.Coordinator.take_go.Given as goal

abbrev pub ghost-settle : goal.ghost-settle
ghost-settle g a = g.d.event
