use Rattle.coord.proofs.coordinator.Coordinator.take_placed.Given as goal

abbrev pub ghost-take_asked : goal.ghost-take_asked
ghost-take_asked g a = g.d

abbrev pub ghost-take_unasked : goal.ghost-take_unasked
ghost-take_unasked g a = g.d
