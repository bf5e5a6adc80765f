use Rattle.coord.proofs.coordinator.Coordinator.take_change.Given as goal

abbrev pub ghost-hold_back : goal.ghost-hold_back
ghost-hold_back g a = g.d

abbrev pub ghost-take_up : goal.ghost-take_up
ghost-take_up g a = g.d
