use Rattle.tab_doors.proofs.ChangeWorks.{remove_done}
use Rattle.tab_doors.proofs.Destroying.{lost_as}
use Rattle.tab_doors.proofs.Works.{next_work}
use Rattle.tab_doors.proofs.tables.Tables.remove_frame.Goals as goal

pub change-requires : goal.change-requires
change-requires g c = (c.requires.0.holds.history, c.requires.1.1.1.0)

pub destroy_each-requires : goal.destroy_each-requires
destroy_each-requires g c = lost_as c.args.self.now _ _ c.in_ok-lost.ensures.rest c.in_ok-lost.ensures.lost

pub returns-clause-work : goal.returns-clause-work
returns-clause-work g c =
    rw c.destroy_each.ensures (next_work _ _ _ _ c.in_ok-lost.ensures.out (remove_done _ _ c.args.self.now _ _ c.requires.0 c.requires.1.0 c.requires.1.1.0 c.requires.1.1.1.1.0 c.requires.1.1.1.1.1 _ _ c.in_ok-lost.ensures.rest c.in_ok-lost.ensures.history c.in_ok-lost.ensures.lost))
