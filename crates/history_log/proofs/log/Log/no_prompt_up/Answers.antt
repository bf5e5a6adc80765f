use Rattle.std.proofs.Common.{sym}
use Rattle.history_log.proofs.QuietLaws.{quiet_found, up_found}
use Rattle.history_log.proofs.log.Log.no_prompt_up.Goals as goal

pub returns-then-prompt_up : goal.returns-then-prompt_up
returns-then-prompt_up c = sym (up_found c.args.self.now c.in-Some.req c.prompt_up.result c.prompt_up.ensures c.if-prompt_up.true)

pub returns : goal.returns
returns c =
    sym (rw (← c.self.view_is, ← c.as_slice-row-items.ensures.value) (quiet_found c.as_slice-row-items.result.now c.loop-row.row-index c.loop-row-test.false c.loop-row.invariant))
