use Rattle.std.proofs.Common.{ap, sym, ◌++◌, ◌∙◌, filter, drop, ◌+◌}
use Rattle.std.specs.Prelude.{List}
use Rattle.apply_plan.specs.Order.{made_in}
use Rattle.tab_ids.specs.declared.NavId.{NavId}
use Rattle.tab_passes.specs.Sleepers.{falls_below}
use Rattle.tab_passes.proofs.Sleeps.{falls_more, falls_past}
use Rattle.tab_passes.proofs.sleeping.push_below.Goals.{then-falls_below+in_ok-push, else-falls_below}
use Rattle.tab_passes.proofs.sleeping.push_below.Goals as goal

pub loop-i-preserved : goal.loop-i-preserved
loop-i-preserved c =
    let left = filter (falls_below c.args.tree.now c.args.top) (drop (c.loop-i.i + 1) (made_in c.args.tree.now)) in
    elim c.if-falls_below.branch [
      | then-falls_below+in_ok-push w ↦
          c.loop-i.invariant
          ∙ falls_more c.args.tree.now c.args.top c.at-nav.result c.loop-i.navs c.loop-i.i c.at-nav.ensures (sym c.falls_below.ensures ∙ w.if-falls_below.true)
          ∙ ap (λ (l : List NavId). l ++ left) (sym (w.navs-is ∙ w.in_ok-push.ensures.ok))
      | else-falls_below w ↦
          c.loop-i.invariant
          ∙ falls_past c.args.tree.now c.args.top c.at-nav.result c.loop-i.navs c.loop-i.i c.at-nav.ensures (sym c.falls_below.ensures ∙ w.if-falls_below.false)
          ∙ ap (λ (l : List NavId). l ++ left) (sym w.navs-is)
    ]
