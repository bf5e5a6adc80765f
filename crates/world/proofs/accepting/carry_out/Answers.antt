use Rattle.world.proofs.AcceptLaws.{asks_so}
use Rattle.world.proofs.accepting.carry_out.Goals as goal

pub request-requires : goal.request-requires
request-requires g c =
    asks_so g.e c.args.header.now _ _ _ _ _ c.requires.0 c.requires.1.0 c.requires.1.1.0 c.requires.1.1.1
