use Rattle.std.proofs.Common.{refl}
use Rattle.tab_doors.proofs.Works.{has_proc, next_for, order_there}
use Rattle.tab_doors.proofs.SleepWorks.{freeze_work}
use Rattle.tab_doors.proofs.tables.Tables.freeze.Goals as goal

pub proc_there-proc-requires : goal.proc_there-proc-requires
proc_there-proc-requires g c = has_proc _ _ _ _ _ c.requires.0 c.requires.1.1.1.0.found

pub returns-clause-work : goal.returns-clause-work
returns-clause-work g c =
    rw (c.sleep_each.ensures, c.is_for-moves.ensures) (next_for _ _ _ _ _ (order_there _ _ _ _ _ c.requires.0 c.requires.1.1.1.0.found _ _ _ _ _ c.proc_there-proc.ensures c.in_ok-push.ensures.ok c.in_ok-job.ensures.job) (freeze_work _ _ _ _ _ _ _ c.requires.0 c.requires.1.0 c.requires.1.1.0 c.requires.1.1.1.1.0 refl (record { making = refl; whose = refl; shown = refl; last = refl; history = refl; documents = refl; states = refl; entries = refl; sent = c.in_ok-job.ensures.sent; loads = refl; initial = refl; checks = refl; asking = refl }) refl refl refl))

pub returns-clause-out : goal.returns-clause-out
returns-clause-out g c = order_there _ _ _ _ _ c.requires.0 c.requires.1.1.1.0.found _ _ _ _ _ c.proc_there-proc.ensures c.in_ok-push.ensures.ok c.in_ok-job.ensures.job
