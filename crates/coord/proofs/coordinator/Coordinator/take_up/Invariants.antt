use Rattle.coord.proofs.coordinator.Coordinator.take_up.Given as goal
use Rattle.std.proofs.Common.{[], ◌∷◌}

abbrev pub ghost-take : goal.ghost-take
ghost-take g a = record { event = g.d.event; loads = []; hand = a.made.now ∷ [] }

abbrev pub ghost-settle : goal.ghost-settle
ghost-settle g a = g.d.event
