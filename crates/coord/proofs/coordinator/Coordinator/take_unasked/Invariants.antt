use Rattle.coord.proofs.coordinator.Coordinator.take_unasked.Given as goal
use Rattle.coord.specs.Delivering.{made_in}

abbrev pub ghost-drop_made : goal.ghost-drop_made
ghost-drop_made g a = made_in g.d a.self.now a.job.now

abbrev pub ghost-place : goal.ghost-place
ghost-place g a = g.d

abbrev pub ghost-settle : goal.ghost-settle
ghost-settle g a = g.d.event
