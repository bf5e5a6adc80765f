use Rattle.coord.proofs.Mades.{node_there}
use Rattle.coord.proofs.coordinator.Coordinator.take_change.Goals as goal

pub judged-verdict-requires : goal.judged-verdict-requires
judged-verdict-requires g c = node_there g.d c.args.self.now c.args.made.now c.requires.0
