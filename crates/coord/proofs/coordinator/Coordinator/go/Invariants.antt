use Rattle.coord.proofs.coordinator.Coordinator.go.Given as goal

abbrev pub ghost-settle : goal.ghost-settle
ghost-settle g a = g.e
