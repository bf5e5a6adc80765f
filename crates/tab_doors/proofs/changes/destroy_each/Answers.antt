use Rattle.tab_doors.proofs.Destroying.{one_more}
use Rattle.tab_doors.proofs.changes.destroy_each.Goals as goal

pub loop-i-preserved : goal.loop-i-preserved
loop-i-preserved c = rw (c.remove.ensures, c.loop-i.invariant) (one_more c.args.tree.now c.args.navs.now c.args.by c.loop-i.i _ c.at-nav.ensures)
