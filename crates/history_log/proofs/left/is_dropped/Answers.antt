use Rattle.std.proofs.Common.{◌∙◌, sym, arith}
use Rattle.history_log.proofs.LeftLaws.{none_dropped_past}
use Rattle.history_log.proofs.left.is_dropped.Goals as goal

pub returns : goal.returns
returns c =
    sym (none_dropped_past c.args.req c.args.until c.loop-i.i c.args.rows.now (omega arith) c.requires.none_later) ∙ c.loop-i.invariant
