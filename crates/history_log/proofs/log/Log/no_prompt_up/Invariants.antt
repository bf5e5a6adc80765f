use Rattle.std.proofs.Common.{take}
use Rattle.history_log.proofs.QuietLaws.{AreDown}
use Rattle.history_log.proofs.log.Log.no_prompt_up.Given as goal

abbrev pub invariant-loop-row : goal.invariant-loop-row
invariant-loop-row l = AreDown l.row-items (take l.row-index l.row-items)
