use Rattle.unload_check.proofs.Tables.{removed_ended}
use Rattle.unload_check.proofs.unload_check.end_in.Goals as goal

pub returns : goal.returns
returns c =
    rw c.shift_remove-ended.ensures.entries (removed_ended c.args.req c.args.checks.now.entries c.len-len.ensures.unique)
