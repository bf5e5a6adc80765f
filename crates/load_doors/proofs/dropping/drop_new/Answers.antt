use Rattle.tab_doors.proofs.Works.{next_work}
use Rattle.load_doors.proofs.Dropped.{drop_new_work}
use Rattle.load_doors.proofs.dropping.drop_new.Goals as goal

pub returns-clause-work : goal.returns-clause-work
returns-clause-work g c =
    next_work _ _ _ _ c.in_ok-push.ensures.ok (drop_new_work _ _ _ _ c.requires.0 c.requires.1.1.0 _ c.requires.1.0 c.requires.1.1.1.0 c.requires.1.1.1.1)
