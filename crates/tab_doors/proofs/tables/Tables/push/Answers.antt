use Rattle.tab_doors.proofs.ChangeWorks.{push_done}
use Rattle.tab_doors.proofs.Destroying.{lost_as, there_as, there_with}
use Rattle.tab_doors.proofs.Nodes.{awake_still, still_more}
use Rattle.tab_doors.proofs.Works.{next_work}
use Rattle.tab_doors.proofs.tables.Tables.push.Goals as goal

pub change-requires : goal.change-requires
change-requires g c = (c.requires.0.holds.history, c.requires.1.1.1.1.0)

pub given-requires : goal.given-requires
given-requires g c = there_as c.args.self.now _ _ c.in_ok-lost.ensures.rest (awake_still _ _ _ c.requires.1.0)

pub set_told-requires : goal.set_told-requires
set_told-requires g c = still_more _ _ _ _ c.given.ensures (there_as c.args.self.now _ _ c.in_ok-lost.ensures.rest (awake_still _ _ _ c.requires.1.0))

pub destroy_each-requires : goal.destroy_each-requires
destroy_each-requires g c = there_with _ _ _ _ _ c.set_told.ensures (there_with _ _ _ _ _ c.given.ensures (lost_as c.args.self.now _ _ c.in_ok-lost.ensures.rest c.in_ok-lost.ensures.lost))

pub returns-clause-work : goal.returns-clause-work
returns-clause-work g c =
    rw (c.destroy_each.ensures, c.set_told.ensures, c.given.ensures) (next_work _ _ _ _ c.in_ok-lost.ensures.out (push_done _ _ c.args.self.now _ _ _ _ _ _ c.requires.0 c.requires.1.0 c.requires.1.1.0 c.requires.1.1.1.0 c.requires.1.1.1.1.1.0 c.requires.1.1.1.1.1.1.0 c.requires.1.1.1.1.1.1.1 _ _ c.in_ok-lost.ensures.rest c.in_ok-lost.ensures.history c.in_ok-lost.ensures.lost))
