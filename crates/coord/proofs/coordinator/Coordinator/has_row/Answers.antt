use Rattle.coord.proofs.Readings.{row_is}
use Rattle.coord.proofs.coordinator.Coordinator.has_row.Goals as goal
use Rattle.std.proofs.Common.{Bool, ap, not, ◌∙◌}

pub returns : goal.returns
returns c s stands room = ap (λ (b : Bool). not b) c.is_bare.ensures ∙ row_is s c.args.self.now stands c.args.nav room
