use Rattle.load_doors.proofs.Applied.{applied_here}
use Rattle.tab_doors.proofs.Destroying.{lost_as}
use Rattle.load_doors.proofs.applying.apply_load.Goals as goal

pub destroy_each-requires : goal.destroy_each-requires
destroy_each-requires g c = lost_as c.args.tables.now _ _ c.in_ok-lost.ensures.rest c.in_ok-lost.ensures.lost

pub returns-clause-work : goal.returns-clause-work
returns-clause-work g c =
    rw c.destroy_each.ensures (applied_here g.a.event c.args.out.now _ c.args.tables.now _ c.args.nav g.a.load c.load_of-load.result.now c.args.over g.a.change _ _ _ c.requires.0 c.requires.1.1.1.1.1.1.1.1.1 c.requires.1.0 c.requires.1.1.0 c.requires.1.1.1.0 c.requires.1.1.1.1.1.0 c.requires.1.1.1.1.1.1.0 c.requires.1.1.1.1.1.1.1.0 c.load_of-load.ensures c.in_ok-change.ensures c.in_ok-lost.ensures.out c.in_ok-lost.ensures.rest c.in_ok-lost.ensures.history c.in_ok-lost.ensures.lost c.cancel.ensures.rest c.cancel.ensures.others)
