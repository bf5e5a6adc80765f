use Rattle.tab_stands.specs.Standing.{none_in_check}
use Rattle.coord.proofs.coordinator.Coordinator.load.Given as goal

abbrev pub ghost-load : goal.ghost-load
ghost-load g a = record { event = g.e; check = none_in_check }

abbrev pub ghost-settle : goal.ghost-settle
ghost-settle g a = g.e
