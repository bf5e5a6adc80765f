use Rattle.std.proofs.Common.{◌≡◌, ◌+◌, add-one, ◌∙◌, sym, ap, subst, List, ◌++◌, ◌∷◌, [], take, arith}
use Rattle.std.proofs.Math.Seq.{take-suc}
use Rattle.log_model.specs.declared.row.Row.{Row}
use Rattle.step_index.specs.Groups.{CountsLess}
use Rattle.step_index.specs.Starts.{StartsLess}
use Rattle.step_index.specs.Cut.{NotesLess}
use Rattle.step_index.proofs.Starting.{less_and_less}
use Rattle.step_index.proofs.Counting.{less_counted}
use Rattle.step_index.proofs.Cutting.{notes_and_notes, notes_one}
use Rattle.step_index.proofs.cut.forget_rows.Goals as goal

pub loop-row-preserved : goal.loop-row-preserved
loop-row-preserved c =
    let rows = c.args.rows.now in
    let i = c.loop-row.row-index in
    let row = c.row-item.result in
    let next : take (i + 1) rows ≡ take i rows ++ row ∷ [] = rw add-one (take-suc rows i row c.loop-row-test.true ∙ ap (λ (r : Row). take i rows ++ r ∷ []) (sym c.row-item.is)) in
    record {
      noted = subst (λ (gone : List Row). NotesLess c.args.noted.now.entries gone c.forget_place.new.noted.entries) (sym next)
          (notes_and_notes c.args.noted.now.entries c.loop-row.noted.entries c.forget_place.new.noted.entries (take i rows) (row ∷ []) c.loop-row.invariant.noted (notes_one c.loop-row.noted.entries c.forget_place.new.noted.entries row c.forget_place.ensures.one));
      starts = subst (λ (gone : List Row). StartsLess c.args.starts.now.entries gone c.end_start.new.starts.entries) (sym next)
          (less_and_less c.args.starts.now.entries c.loop-row.starts.entries c.end_start.new.starts.entries (take i rows) (row ∷ []) c.loop-row.invariant.starts c.end_start.ensures.less);
      counts = subst (λ (gone : List Row). CountsLess c.args.counts.now.entries gone c.uncount_row.new.counts.entries) (sym next)
          (less_counted c.args.counts.now.entries c.loop-row.counts.entries c.uncount_row.new.counts.entries (take i rows) (row ∷ []) c.loop-row.invariant.counts c.uncount_row.ensures);
      note_room = omega (arith, c.loop-row.invariant.note_room, c.forget_place.ensures.room);
      start_room = omega (arith, c.loop-row.invariant.start_room, c.end_start.ensures.room);
    }
