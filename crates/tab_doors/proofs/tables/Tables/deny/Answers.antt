use Rattle.tab_doors.proofs.Works.{next_work}
use Rattle.tab_doors.proofs.TurnWorks.{deny_work}
use Rattle.tab_doors.proofs.tables.Tables.deny.Goals as goal

pub returns-clause-work : goal.returns-clause-work
returns-clause-work g c = next_work _ _ _ _ c.in_ok-push.ensures.ok (deny_work _ _ _ _ c.requires.0 c.requires.1.1 _ c.requires.1.0)
