use Rattle.tab_doors.proofs.Works.{next_work}
use Rattle.tab_doors.proofs.TurnWorks.{nowhere_work}
use Rattle.tab_doors.proofs.tables.Tables.refuse.Goals as goal

pub returns-clause-work : goal.returns-clause-work
returns-clause-work g c = next_work _ _ _ _ c.in_ok-push.ensures.ok (nowhere_work _ _ _ _ c.requires.0 c.requires.1.1.0 c.requires.1.1.1 c.requires.1.0)
