use Rattle.std.proofs.Common.{◌+◌, ◌++◌, drop, filter_map, sym, ap, ◌∙◌}
use Rattle.std.specs.Prelude.{List}
use Rattle.tab_ids.specs.declared.DocId.{DocId}
use Rattle.tab_passes.specs.Sleepers.{doc_below}
use Rattle.tab_passes.proofs.Belows.{below_more, below_past}
use Rattle.tab_passes.proofs.below.docs_among.Goals.{in-Some+in_ok-push-in-Some, in-None}
use Rattle.tab_passes.proofs.below.docs_among.Goals as goal

pub loop-i-preserved : goal.loop-i-preserved
loop-i-preserved c =
    let rest = filter_map (doc_below c.args.tree.now c.args.top) (drop (c.loop-i.i + 1) c.args.navs.now) in
    elim c.match-doc_below.branch [
      | in-Some+in_ok-push-in-Some w ↦
          c.loop-i.invariant
          ∙ below_more c.args.tree.now c.args.top c.loop-i.docs _ c.args.navs.now c.loop-i.i w.in-Some.doc c.at.ensures (sym w.in-Some.ensures)
          ∙ ap (λ (docs : List DocId). docs ++ rest) (sym (w.docs-is ∙ w.in_ok-push-in-Some.ensures.ok))
      | in-None w ↦
          c.loop-i.invariant
          ∙ below_past c.args.tree.now c.args.top c.loop-i.docs _ c.args.navs.now c.loop-i.i c.at.ensures (sym w.in-None.ensures)
          ∙ ap (λ (docs : List DocId). docs ++ rest) (sym w.docs-is)
    ]
