use Rattle.std.proofs.Common.{rules}
use Rattle.tab_settles.proofs.turning.take_turn.Goals as goal

pub finish-requires : goal.finish-requires
finish-requires g c = (c.requires.0, (search rules, c.requires.1.1))

pub begin-requires : goal.begin-requires
begin-requires g c = (c.requires.0, (search rules, (c.requires.1.0, c.requires.1.1)))
