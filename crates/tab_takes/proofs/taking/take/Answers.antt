use Rattle.std.proofs.Common.{refl}
use Rattle.tab_takes.proofs.taking.take.Goals as goal

pub take_judged-requires : goal.take_judged-requires
take_judged-requires g c =
    (record { passing = c.requires.0; taking = c.requires.1.0; open_ = c.requires.1.1.1.1.0; loose = c.requires.1.1.1.1.1.0; arrived = c.requires.1.1.1.1.1.1 }, (refl, (c.requires.1.1.0, c.requires.1.1.1.0)))
