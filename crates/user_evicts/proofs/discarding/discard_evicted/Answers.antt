use Rattle.std.proofs.Common.{refl}
use Rattle.tab_doors.proofs.Works.{next_work}
use Rattle.user_evicts.proofs.Works.{evicted_out, evicted_proc, evicted_work}
use Rattle.user_evicts.proofs.discarding.discard_evicted.Goals as goal

pub proc_there-proc-requires : goal.proc_there-proc-requires
proc_there-proc-requires g c = evicted_proc g.s.event c.args.tables.now c.args.doc c.args.state c.requires.1.0 c.requires.1.1.0

pub returns-clause-work : goal.returns-clause-work
returns-clause-work g c =
    rw (c.discard.ensures) (next_work _ _ _ _ (evicted_out g.s.event c.args.tables.now c.args.doc c.args.state c.requires.1.0 c.requires.1.1.0 _ _ _ c.requires.0 c.proc_there-proc.ensures c.in_ok-push.ensures.ok c.in_ok-job.ensures.job) (evicted_work _ _ _ _ _ _ c.requires.1.0 c.requires.1.1.0 c.requires.1.1.1 refl (record { making = refl; whose = refl; shown = refl; last = refl; history = refl; documents = refl; states = refl; entries = refl; sent = c.in_ok-job.ensures.sent; loads = refl; initial = refl; checks = refl; asking = refl }) refl refl c.forget.ensures.rest))

pub returns-clause-out : goal.returns-clause-out
returns-clause-out g c =
    evicted_out g.s.event c.args.tables.now c.args.doc c.args.state c.requires.1.0 c.requires.1.1.0 _ _ _ c.requires.0 c.proc_there-proc.ensures c.in_ok-push.ensures.ok c.in_ok-job.ensures.job
