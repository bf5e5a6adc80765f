use Rattle.tab_doors.proofs.Nodes.{awake_still}
use Rattle.tab_doors.proofs.Works.{next_work}
use Rattle.tab_doors.proofs.ChangeWorks.{replace_work}
use Rattle.tab_doors.proofs.tables.Tables.replace.Goals as goal

pub make_change-requires : goal.make_change-requires
make_change-requires g c = (c.requires.0.holds.history, c.requires.1.1.1.1.0)

pub given-requires : goal.given-requires
given-requires g c = awake_still _ _ _ c.requires.1.0

pub returns-clause-work : goal.returns-clause-work
returns-clause-work g c =
    rw c.given.ensures (next_work _ _ _ _ c.in_ok-push.ensures.ok (replace_work _ _ c.args.self.now _ _ _ _ _ _ _ c.requires.0 c.requires.1.1.0 c.requires.1.1.1.0 c.requires.1.1.1.1.1.0 c.requires.1.1.1.1.1.1.0 c.requires.1.1.1.1.1.1.1 c.make_change.new.store c.in_ok-make_change.ensures.ok))
