use Rattle.tab_doors.proofs.Works.{next_work}
use Rattle.load_doors.proofs.Dropped.{destroy_load_work}
use Rattle.load_doors.proofs.dropping.destroy_load.Goals as goal

pub returns-clause-work : goal.returns-clause-work
returns-clause-work g c =
    next_work _ _ _ _ c.in_ok-push.ensures.ok (destroy_load_work _ _ _ _ c.requires.0 c.requires.1.1.0 _ _ c.requires.1.1.1 c.cancel.ensures.rest c.cancel.ensures.others _ c.requires.1.0)
