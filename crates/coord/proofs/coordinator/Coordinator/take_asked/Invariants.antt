use Rattle.coord.proofs.coordinator.Coordinator.take_asked.Given as goal

abbrev pub ghost-place : goal.ghost-place
ghost-place g a = g.d

abbrev pub ghost-settle : goal.ghost-settle
ghost-settle g a = g.d.event
