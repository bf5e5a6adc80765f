use Rattle.std.proofs.Common.{◌<◌, length, arith}
use Rattle.std.proofs.lemmas.Bool.Decides.{nat_tests}
use Rattle.apply_plan.proofs.Walks.{sorted_more}
use Rattle.apply_plan.proofs.order.sorted.Goals as goal

pub loop-i-preserved : goal.loop-i-preserved
loop-i-preserved c =
    let test = c.loop-i-test.true in
    let len = c.len-count.ensures in
    let at = c.at-nav.ensures in
    sorted_more c.args.tree.now c.loop-i.i c.loop-i.sorted.entries _ c.in_ok-way.way c.at-nav.result (let low : c.loop-i.i < length c.args.tree.now.navs = grind (arith, nat_tests, test, len) in low) (rw len at at) c.in_ok-way.ensures c.in_ok-put.ensures c.loop-i.invariant
