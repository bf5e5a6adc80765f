use Rattle.coord.proofs.coordinator.Coordinator.deliver.Given as goal
use Rattle.coord.specs.Delivering.{outcome_of}

abbrev pub ghost-take_made : goal.ghost-take_made
ghost-take_made g a = g.d

abbrev pub ghost-take_done : goal.ghost-take_done
ghost-take_done g a = record { event = g.d.event; proc = g.d.proc; outcome = outcome_of g.d.report }
