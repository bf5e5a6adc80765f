use Rattle.std.proofs.Common.{arith, length, sym, ◌<◌, ◌∙◌}
use Rattle.tab_drops.proofs.Climbs.{needs_past}
use Rattle.tab_drops.proofs.ways.is_unsettled.Goals as goal

pub loop-i-preserved : goal.loop-i-preserved
loop-i-preserved c =
    let low : c.loop-i.i < length c.args.tables.now.tree.navs = (let test = c.loop-i-test.true in let ends = c.len-i-end.ensures in omega (arith, test, ends)) in
    c.loop-i.invariant ∙ needs_past (length c.args.tables.now.tree.navs) c.loop-i.i c.args.tables.now c.loop-i.at c.in-Some.parent low (sym c.is_needing.ensures ∙ c.if-is_needing.false) (sym c.parent_of.ensures ∙ c.in-Some.is)
