use Rattle.world.proofs.EvictLaws.{evicts_so}
use Rattle.world.proofs.evicting.discard.Goals as goal

pub evict-requires : goal.evict-requires
evict-requires g c =
    evicts_so g.v c.args.header.now _ _ _ _ c.requires.0 c.requires.1.0 c.requires.1.1.0 c.requires.1.1.1
