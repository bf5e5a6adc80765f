use Rattle.std.proofs.Common.{refl}
use Rattle.tab_doors.proofs.Works.{order_there, has_proc, next_work}
use Rattle.tab_doors.proofs.OrderWorks.{tell_work}
use Rattle.tab_doors.proofs.tables.Tables.tell.Goals as goal

pub proc_there-proc-requires : goal.proc_there-proc-requires
proc_there-proc-requires g c = has_proc _ _ _ _ _ c.requires.0 c.requires.1.1.0.found

pub returns-clause-work : goal.returns-clause-work
returns-clause-work g c =
    next_work _ _ _ _ (order_there _ _ _ _ _ c.requires.0 c.requires.1.1.0.found _ _ _ _ _ c.proc_there-proc.ensures c.in_ok-push.ensures.ok c.in_ok-job.ensures.job) (tell_work _ _ _ _ _ _ _ _ _ c.requires.0 c.requires.1.0 c.requires.1.1.0 c.requires.1.1.1 c.set_told.ensures (record { making = refl; whose = refl; shown = refl; last = refl; history = refl; documents = refl; states = refl; entries = refl; sent = c.in_ok-job.ensures.sent; loads = refl; initial = refl; checks = refl; asking = refl }) refl refl refl)

pub returns-clause-out : goal.returns-clause-out
returns-clause-out g c = order_there _ _ _ _ _ c.requires.0 c.requires.1.1.0.found _ _ _ _ _ c.proc_there-proc.ensures c.in_ok-push.ensures.ok c.in_ok-job.ensures.job
