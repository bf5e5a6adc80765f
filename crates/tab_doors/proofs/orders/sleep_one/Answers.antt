use Rattle.tab_doors.proofs.Asleep.{asleep_there, moved_asleep}
use Rattle.tab_doors.proofs.orders.sleep_one.Goals as goal

pub set_moved-requires : goal.set_moved-requires
set_moved-requires c = asleep_there _ _ _ _ c.sleep.ensures c.requires

pub returns-then-moves : goal.returns-then-moves
returns-then-moves c = rw (c.set_moved.ensures, c.sleep.ensures, c.if-moves.true) (moved_asleep c.args.why c.args.nav c.args.tree.now)
