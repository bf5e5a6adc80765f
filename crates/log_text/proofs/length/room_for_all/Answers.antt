use Rattle.log_text.proofs.LongestLaws.{longest_more, longest_all}
use Rattle.log_text.proofs.length.room_for_all.Goals as goal

pub loop-row-preserved : goal.loop-row-preserved
loop-row-preserved c =
    longest_more c.args.rows.now c.loop-row.row-index c.row-item.result c.loop-row.most c.room_for_more-most.result c.loop-row-test.true c.row-item.is c.loop-row.invariant c.room_for_more-most.ensures.before c.room_for_more-most.ensures.row

pub returns : goal.returns
returns c = longest_all c.args.rows.now c.loop-row.row-index c.loop-row.most c.loop-row-test.false c.loop-row.invariant
