use Rattle.coord.proofs.Readings.{shown_here}
use Rattle.coord.proofs.coordinator.Coordinator.is_shown.Goals as goal
use Rattle.std.proofs.Common.{◌∙◌}

pub returns : goal.returns
returns c s stands row = c.is_reached.ensures ∙ shown_here s c.args.self.now stands c.args.nav row c.current.result.0 c.current.ensures
