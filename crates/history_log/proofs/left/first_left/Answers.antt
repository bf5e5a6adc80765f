use Rattle.std.proofs.Common.{◌∙◌, sym}
use Rattle.history_log.proofs.LeftLaws.{left_first_at, left_skip_at, left_none}
use Rattle.history_log.proofs.left.first_left.Goals as goal

pub returns-then-is_left : goal.returns-then-is_left
returns-then-is_left c =
    left_first_at c.args.proc c.args.rows.now c.args.from c.loop-i.i c.is_left.result c.loop-i-test.true c.is_left.ensures c.if-is_left.true c.loop-i.invariant

pub loop-i-preserved : goal.loop-i-preserved
loop-i-preserved c =
    left_skip_at c.args.proc c.args.rows.now c.loop-i.i c.is_left.result c.loop-i-test.true c.is_left.ensures c.if-is_left.false ∙ c.loop-i.invariant

pub returns : goal.returns
returns c = sym c.loop-i.invariant ∙ left_none c.args.proc c.args.rows.now c.loop-i.i c.loop-i-test.false
