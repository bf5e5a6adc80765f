use Rattle.coord.proofs.coordinator.Coordinator.hold_back.Given as goal

abbrev pub ghost-settle : goal.ghost-settle
ghost-settle g a = g.d.event
