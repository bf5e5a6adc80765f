use Rattle.std.proofs.Common.{◌+◌, ◌++◌, ap, drop, filter, sym, ◌∙◌}
use Rattle.std.specs.Prelude.{List}
use Rattle.tab_ids.specs.declared.DocId.{DocId}
use Rattle.tab_sweeps.proofs.Listings.{stray_more, stray_past}
use Rattle.tab_sweeps.proofs.strays.strays_among.Goals.{in-Some+in_ok-push-in-Some, in-None}
use Rattle.tab_sweeps.proofs.strays.strays_among.Goals as goal
use Rattle.tab_sweeps.specs.Sweeping.{is_stray_in}

pub loop-i-preserved : goal.loop-i-preserved
loop-i-preserved c =
    let rest = filter (is_stray_in c.args.tables.now) (drop (c.loop-i.i + 1) c.args.docs.now) in
    elim c.match-stray_state.branch [
      | in-Some+in_ok-push-in-Some w ↦
          c.loop-i.invariant
          ∙ stray_more c.args.tables.now c.loop-i.strays _ c.args.docs.now c.loop-i.i _ c.at-doc.ensures (sym w.in-Some.ensures)
          ∙ ap (λ (docs : List DocId). docs ++ rest) (sym (w.strays-is ∙ w.in_ok-push-in-Some.ensures.ok))
      | in-None w ↦
          c.loop-i.invariant
          ∙ stray_past c.args.tables.now c.loop-i.strays _ c.args.docs.now c.loop-i.i c.at-doc.ensures (sym w.in-None.ensures)
          ∙ ap (λ (docs : List DocId). docs ++ rest) (sym w.strays-is)
    ]
