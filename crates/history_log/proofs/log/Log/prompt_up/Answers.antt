use Rattle.std.proofs.Common.{◌∙◌, arith}
use Rattle.history_log.proofs.PromptLaws.{prompt_read}
use Rattle.history_log.proofs.log.Log.prompt_up.Goals as goal

pub returns : goal.returns
returns c =
    let at = c.self.view_is in
    c.is_up.ensures ∙ rw (← at, ← c.as_slice-row-items.ensures.value) (prompt_read c.args.req c.loop-row.reader c.loop-row.row-index c.as_slice-row-items.result.now (grind arith) (omega arith) c.loop-row.invariant)
