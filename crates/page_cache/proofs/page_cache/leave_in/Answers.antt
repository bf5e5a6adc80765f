use Rattle.page_cache.proofs.Leaves.{put_left}
use Rattle.page_cache.proofs.page_cache.leave_in.Goals as goal

pub returns-then-known-clause-kept : goal.returns-then-known-clause-kept
returns-then-known-clause-kept c =
    rw c.in_ok-out.ensures.entries (put_left c.args.kept.now c.args.state c.len-len.ensures.valid)

pub returns-in-Some-clause-kept : goal.returns-in-Some-clause-kept
returns-in-Some-clause-kept c =
    rw c.in_ok-out.ensures.entries (put_left c.args.kept.now c.args.state c.len-len.ensures.valid)

pub returns-in-None-clause-kept : goal.returns-in-None-clause-kept
returns-in-None-clause-kept c =
    rw c.in_ok-out.ensures.entries (put_left c.args.kept.now c.args.state c.len-len.ensures.valid)
