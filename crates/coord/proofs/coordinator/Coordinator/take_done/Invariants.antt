use Rattle.coord.proofs.coordinator.Coordinator.take_done.Given as goal

abbrev pub ghost-take_shown : goal.ghost-take_shown
ghost-take_shown g a = g.d

abbrev pub ghost-take_placed : goal.ghost-take_placed
ghost-take_placed g a = g.d

abbrev pub ghost-take_quiet : goal.ghost-take_quiet
ghost-take_quiet g a = g.d
