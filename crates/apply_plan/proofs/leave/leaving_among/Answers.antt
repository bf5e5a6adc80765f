use Rattle.std.proofs.Common.{◌+◌, ◌++◌, drop, filter_map, sym, ap, ◌∙◌}
use Rattle.apply_plan.specs.Leaving.{leaving_of}
use Rattle.apply_plan.proofs.Plans.{leave_more, leave_past}
use Rattle.apply_plan.proofs.leave.leaving_among.Goals.{in-Some+in_ok-push-in-Some, in-None}
use Rattle.apply_plan.proofs.leave.leaving_among.Goals as goal

pub loop-i-preserved : goal.loop-i-preserved
loop-i-preserved g c =
    let rows = (g.S.Store.history c.args.store.now).rows in
    let rest = filter_map (leaving_of rows c.args.goal.0 c.args.tree.now) (drop (c.loop-i.i + 1) c.args.navs.now) in
    elim c.match-leaving_of.branch [
      | in-Some+in_ok-push-in-Some w ↦
          c.loop-i.invariant
          ∙ leave_more rows _ _ c.loop-i.docs _ c.args.navs.now c.loop-i.i w.in-Some.doc c.at.ensures (sym w.in-Some.ensures)
          ∙ ap (λ docs. docs ++ rest) (sym (w.docs-is ∙ w.in_ok-push-in-Some.ensures.ok))
      | in-None w ↦
          c.loop-i.invariant
          ∙ leave_past rows _ _ c.loop-i.docs _ c.args.navs.now c.loop-i.i c.at.ensures (sym w.in-None.ensures)
          ∙ ap (λ docs. docs ++ rest) (sym w.docs-is)
    ]
