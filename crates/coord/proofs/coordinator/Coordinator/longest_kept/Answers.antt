use Rattle.coord.proofs.Evicted.{longest_is}
use Rattle.coord.proofs.coordinator.Coordinator.longest_kept.Goals as goal
use Rattle.std.proofs.Common.{◌∙◌}

pub returns : goal.returns
returns c s its = c.oldest.ensures ∙ longest_is s c.args.self.now its
