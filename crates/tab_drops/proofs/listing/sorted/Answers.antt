use Rattle.apply_plan.specs.Order.{made_in}
use Rattle.std.proofs.Common.{arith, length, ◌≡◌, ◌≤◌}
use Rattle.std.proofs.lemmas.Bool.Decides.{nat_tests}
use Rattle.std.proofs.lemmas.List.{length-map}
use Rattle.tab_drops.proofs.Sortings.{made_get, under_all, under_next, under_none}
use Rattle.tab_drops.proofs.listing.sorted.Goals as goal

pub loop-i-init : goal.loop-i-init
loop-i-init c = under_none c.args.loads.now (made_in c.args.tree.now) _ c.new-sorted.ensures.empty

pub loop-i-preserved : goal.loop-i-preserved
loop-i-preserved c =
    under_next c.args.loads.now c.requires (made_in c.args.tree.now) c.loop-i.i _ _ (made_get c.args.tree.now c.loop-i.i _ c.at.ensures) c.loop-i.invariant _ c.in_ok-put.ensures

pub returns : goal.returns
returns c =
    let test = c.loop-i-test.false in
    let len = c.len-i-end.ensures in
    let long : length (made_in c.args.tree.now) ≡ length c.args.tree.now.navs = length-map c.args.tree.now.navs (λ e. e.0) in
    under_all c.args.loads.now (made_in c.args.tree.now) c.loop-i.i _ (let past : length (made_in c.args.tree.now) ≤ c.loop-i.i = grind (arith, nat_tests, test, len, long) in past) c.loop-i.invariant
