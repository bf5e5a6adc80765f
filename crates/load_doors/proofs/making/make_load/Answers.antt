use Rattle.std.proofs.Common.{refl}
use Rattle.load_doors.proofs.Made.{load_make_work}
use Rattle.tab_doors.proofs.Works.{next_work, order_is}
use Rattle.load_doors.proofs.making.make_load.Goals as goal

pub returns-clause-work : goal.returns-clause-work
returns-clause-work g c =
    next_work _ _ _ _ (order_is _ _ _ _ _ _ _ _ _ c.requires.0 c.in_ok-push.ensures.ok c.in_ok-job.ensures.job) (load_make_work _ _ _ _ _ _ _ _ _ _ c.requires.0 c.requires.1.0 c.requires.1.1.0 c.requires.1.1.1.0 c.requires.1.1.1.1.0 c.requires.1.1.1.1.1.0 c.requires.1.1.1.1.1.1.0 c.requires.1.1.1.1.1.1.1 (record { tree = refl; making = c.in_ok-insert.ensures.entries; whose = c.in_ok-insert-2.ensures.entries; shown = refl; last = refl; initial = refl; history = refl; documents = refl; states = refl; entries = refl; sent = c.in_ok-job.ensures.sent; kept = refl; checks = refl; asking = refl }) refl refl refl c.populating.ensures.populating c.populating.ensures.others)

pub returns-clause-out : goal.returns-clause-out
returns-clause-out g c = order_is _ _ _ _ _ _ _ _ _ c.requires.0 c.in_ok-push.ensures.ok c.in_ok-job.ensures.job
