use Rattle.coord.proofs.coordinator.Coordinator.request.Given as goal

abbrev pub ghost-load : goal.ghost-load
ghost-load g a = g.e

abbrev pub ghost-go : goal.ghost-go
ghost-go g a = g.e
