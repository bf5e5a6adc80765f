use Rattle.world.proofs.DeliverLaws.{delivers_so}
use Rattle.world.proofs.delivering.take.Goals as goal

pub deliver-requires : goal.deliver-requires
deliver-requires g c =
    delivers_so g.d c.args.header.now _ _ _ _ _ c.requires.0 c.requires.1.0 c.requires.1.1.0 c.requires.1.1.1
