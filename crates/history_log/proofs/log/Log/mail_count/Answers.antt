use Rattle.std.proofs.Common.{arith}
use Rattle.history_log.proofs.MailLaws.{count_read}
use Rattle.history_log.proofs.log.Log.mail_count.Goals as goal

pub returns : goal.returns
returns c =
    let at = c.self.view_is in
    rw (← at, ← c.as_slice-row-items.ensures.value) (count_read c.args.proc c.loop-row.count c.loop-row.row-index c.as_slice-row-items.result.now (omega arith) c.loop-row.invariant.counted)
