use Rattle.std.proofs.Common.{refl}
use Rattle.tab_doors.proofs.Works.{order_is, next_work}
use Rattle.tab_doors.proofs.OrderWorks.{make_work}
use Rattle.tab_doors.proofs.tables.Tables.make.Goals as goal

pub returns-clause-work : goal.returns-clause-work
returns-clause-work g c =
    next_work _ _ _ _ (order_is _ _ _ _ _ _ _ _ _ c.requires.0 c.in_ok-push.ensures.ok c.in_ok-job.ensures.job) (make_work _ _ _ _ _ _ _ _ _ _ _ c.requires.0 c.requires.1.0 c.requires.1.1.0 c.requires.1.1.1.0 c.requires.1.1.1.1.0 c.requires.1.1.1.1.1.0 c.requires.1.1.1.1.1.1.0 c.requires.1.1.1.1.1.1.1 (record { tree = refl; making = c.in_ok-insert.ensures.entries; whose = c.in_ok-insert-2.ensures.entries; shown = refl; last = refl; history = refl; documents = refl; states = refl; entries = refl; sent = c.in_ok-job.ensures.sent; kept = refl; initial = refl; checks = refl; asking = refl }) refl refl refl)

pub returns-clause-out : goal.returns-clause-out
returns-clause-out g c = order_is _ _ _ _ _ _ _ _ _ c.requires.0 c.in_ok-push.ensures.ok c.in_ok-job.ensures.job
