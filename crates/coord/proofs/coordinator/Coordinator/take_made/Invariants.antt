use Rattle.coord.proofs.coordinator.Coordinator.take_made.Given as goal

abbrev pub ghost-take_go : goal.ghost-take_go
ghost-take_go g a = g.d

abbrev pub ghost-take_change : goal.ghost-take_change
ghost-take_change g a = g.d
