use Rattle.std.proofs.Common.{arith, length, sym, ◌<◌, ◌∙◌}
use Rattle.tab_evicts.proofs.Climbs.{owned_past}
use Rattle.tab_evicts.proofs.below.hangs_on.Goals as goal

pub loop-i-preserved : goal.loop-i-preserved
loop-i-preserved c =
    let low : c.loop-i.i < length c.args.tree.now.navs = (let test = c.loop-i-test.true in let ends = c.len-i-end.ensures in omega (arith, test, ends)) in
    c.loop-i.invariant ∙ owned_past (length c.args.tree.now.navs) c.loop-i.i c.args.tree.now c.args.state c.loop-i.at c.in-Some.parent low (sym c.is_owned_by.ensures ∙ c.if-is_owned_by.false) (sym c.parent_of.ensures ∙ c.in-Some.is)
