use Rattle.tab_asks.proofs.Orders.{counted_more, out_more}
use Rattle.tab_asks.proofs.asking.ask_all.Goals as goal

pub loop-question-preserved : goal.loop-question-preserved
loop-question-preserved c =
    let i = c.loop-question.question-index in
    let questions = c.args.questions.now in
    let inv = c.loop-question.invariant in
    record {
      rows = out_more c.args.tables.now c.loop-question.tables c.args.req c.args.out.now c.loop-question.out c.ask.new.out questions i c.question-item.result c.loop-question-test.true c.question-item.is inv.counted inv.rows c.in_ok-ask.ensures.out;
      counted = counted_more i c.args.tables.now c.loop-question.tables c.ask.new.tables inv.counted c.in_ok-ask.ensures.counted;
    }
