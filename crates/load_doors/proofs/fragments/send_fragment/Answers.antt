use Rattle.std.proofs.Common.{refl}
use Rattle.tab_doors.proofs.Works.{has_proc, next_work, order_there}
use Rattle.load_doors.proofs.FragmentOrders.{fragment_work}
use Rattle.load_doors.proofs.fragments.send_fragment.Goals as goal

pub proc_there-proc-requires : goal.proc_there-proc-requires
proc_there-proc-requires g c = has_proc _ _ _ _ _ c.requires.0 c.requires.1.1.1.found

pub returns-clause-work : goal.returns-clause-work
returns-clause-work g c =
    next_work _ _ _ _ (order_there _ _ _ _ _ c.requires.0 c.requires.1.1.1.found _ _ _ _ _ c.proc_there-proc.ensures c.in_ok-push.ensures.ok c.in_ok-job.ensures.job) (fragment_work _ _ _ _ _ _ _ c.requires.0 c.requires.1.1.0 c.requires.1.0 _ refl c.in_ok-job.ensures.sent)

pub returns-clause-out : goal.returns-clause-out
returns-clause-out g c = order_there _ _ _ _ _ c.requires.0 c.requires.1.1.1.found _ _ _ _ _ c.proc_there-proc.ensures c.in_ok-push.ensures.ok c.in_ok-job.ensures.job
