use Rattle.coord.proofs.coordinator.Coordinator.settle.Given as goal
use Rattle.std.proofs.Common.{[]}

abbrev pub ghost-settle : goal.ghost-settle
ghost-settle g a = record { event = g.e; loads = []; hand = [] }
