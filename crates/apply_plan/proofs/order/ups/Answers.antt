use Rattle.std.proofs.Common.{◌<◌, ◌-◌, ◌+◌, ◌++◌, ℕ, List, length, sym, ap, ◌∙◌, arith}
use Rattle.std.proofs.lemmas.Bool.Decides.{nat_tests}
use Rattle.apply_plan.specs.Order.{rest}
use Rattle.apply_plan.proofs.Walks.{up_one, up_none, append_none}
use Rattle.apply_plan.proofs.order.ups.Goals as goal

pub returns-in-None : goal.returns-in-None
returns-in-None c = sym (c.loop-up.invariant ∙ ap (λ (r : List ℕ). c.loop-up.way.items ++ r) (up_none (length c.args.tree.now.navs - c.loop-up.up) c.args.tree.now c.loop-up.at (sym c.in-None.ensures)) ∙ append_none c.loop-up.way.items)

pub loop-up-preserved : goal.loop-up-preserved
loop-up-preserved c =
    let test = c.loop-up-test.true in
    let len = c.len-up-end.ensures in
    c.loop-up.invariant
    ∙ up_one (length c.args.tree.now.navs) c.loop-up.up c.args.tree.now c.loop-up.at c.in-Some.parent c.loop-up.way.items (let low : c.loop-up.up < length c.args.tree.now.navs = grind (arith, nat_tests, test, len) in low) (sym c.in-Some.ensures)
    ∙ ap (λ (w : List ℕ). w ++ rest (length c.args.tree.now.navs - (c.loop-up.up + 1)) c.args.tree.now c.in-Some.parent) (sym c.in_ok-push-in-Some.ensures.items)
