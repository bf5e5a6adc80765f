use Rattle.std.proofs.Common.{arith, length, sym, ◌<◌, ◌∙◌}
use Rattle.std.proofs.lemmas.Bool.Decides.{nat_tests}
use Rattle.tab_drops.proofs.ways.is_below.Goals as goal
use Rattle.tab_moves.proofs.PassedOn.{up_past}

pub loop-i-preserved : goal.loop-i-preserved
loop-i-preserved c =
    let test = c.loop-i-test.true in
    let len = c.len-i-end.ensures in
    c.loop-i.invariant
    ∙ up_past (length c.args.tree.now.navs) c.loop-i.i c.args.tree.now c.args.top c.loop-i.at c.in-Some.parent (let low : c.loop-i.i < length c.args.tree.now.navs = grind (arith, nat_tests, test, len) in low) (sym c.parent_of.ensures ∙ c.in-Some.is) (sym c.eq.ensures ∙ c.if-eq.false)
