use Rattle.tab_doors.proofs.Works.{next_work}
use Rattle.tab_doors.proofs.TurnWorks.{begin_work}
use Rattle.tab_doors.proofs.tables.Tables.begin.Goals as goal

pub returns-clause-work : goal.returns-clause-work
returns-clause-work g c = next_work _ _ _ _ c.in_ok-push.ensures.ok (begin_work _ _ _ _ _ c.requires.0 c.requires.1.0 c.requires.1.1.0 c.requires.1.1.1.0 c.requires.1.1.1.1)
