use Rattle.std.proofs.Common.{◌<◌, ◌≤◌, length, sym, ◌∙◌, arith}
use Rattle.std.proofs.lemmas.Bool.Decides.{nat_tests}
use Rattle.apply_plan.proofs.Ways.{up_more, up_end}
use Rattle.apply_plan.proofs.reach.is_below_top.Goals as goal

pub loop-up-preserved : goal.loop-up-preserved
loop-up-preserved g c =
    let test = c.loop-up-test.true in
    let len = c.len-up-end.ensures in
    let low : c.loop-up.up < length c.args.tree.now.navs = grind (arith, nat_tests, test, len) in
    c.loop-up.invariant ∙ up_more (length c.args.tree.now.navs) c.loop-up.up _ _ _ _ _ _ low c.if-at-eq0.false c.in-Some.ensures

pub returns : goal.returns
returns g c =
    let test = c.loop-up-test.false in
    let len = c.len-up-end.ensures in
    let low : length c.args.tree.now.navs ≤ c.loop-up.up = grind (arith, nat_tests, test, len) in
    sym (c.loop-up.invariant ∙ up_end (length c.args.tree.now.navs) c.loop-up.up _ _ _ _ _ low)
