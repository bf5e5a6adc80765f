use Rattle.coord.proofs.coordinator.Coordinator.drop_made.Given as goal

abbrev pub ghost-discard_made : goal.ghost-discard_made
ghost-discard_made g a = g.m

abbrev pub ghost-settle : goal.ghost-settle
ghost-settle g a = g.m.event
