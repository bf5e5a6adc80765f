use Rattle.std.proofs.Common.{length, arith}
use Rattle.history_log.proofs.LeftLaws.{served_none}
use Rattle.history_log.proofs.left.head_after.Goals as goal

pub returns-in-None-clause-served : goal.returns-in-None-clause-served
returns-in-None-clause-served c = λ closed serves. served_none c.args.proc c.args.rows.now c.args.head (length c.args.rows.now) c.in-None.ensures (omega arith)
