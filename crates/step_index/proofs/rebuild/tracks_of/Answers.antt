use Rattle.std.proofs.Common.{ap, ◌∙◌, add-one, List, arith, subst}
use Rattle.std.specs.List.{list_any}
use Rattle.std.proofs.lemmas.List.{take_all}
use Rattle.log_model.specs.declared.row.Row.{Row}
use Rattle.log_model.specs.Order.{ordered}
use Rattle.entry_store.specs.Kept.{PutsRow}
use Rattle.step_index.specs.Tracks.{rows_of, is_from}
use Rattle.step_index.proofs.Searching.{item_at}
use Rattle.step_index.proofs.Rebuilding.{next_last, next_same, built}
use Rattle.step_index.proofs.rebuild.tracks_of.Goals as goal

pub put_last-requires-clause-last : goal.put_last-requires-clause-last
put_last-requires-clause-last c =
    let row = c.row-item.result in
    ap (λ (r : Row). list_any (is_from r.nav r.step.0) (rows_of c.loop-row.tracks.items)) c.in_ok-copy.ensures
    ∙ next_last c.args.rows.now c.requires.strict c.loop-row.row-index row (item_at c.args.rows.now c.loop-row.row-index row c.loop-row-test.true c.row-item.is) c.loop-row.tracks.items c.loop-row.invariant.rows

pub loop-row-preserved : goal.loop-row-preserved
loop-row-preserved c =
    let row = c.row-item.result in
    record {
      tracks = c.in_ok-put_last.ensures.tracks;
      rows = rw add-one (next_same c.args.rows.now c.requires.strict c.loop-row.row-index row (item_at c.args.rows.now c.loop-row.row-index row c.loop-row-test.true c.row-item.is) c.loop-row.tracks.items c.loop-row.invariant.rows
          c.put_last.new.tracks.items (subst (λ (r : Row). PutsRow (rows_of c.loop-row.tracks.items) r (rows_of c.put_last.new.tracks.items)) c.in_ok-copy.ensures c.in_ok-put_last.ensures.ok)
          c.loop-row-test.true c.row-item.is);
    }

pub returns-clause-rows : goal.returns-clause-rows
returns-clause-rows c =
    built c.args.rows.now c.loop-row.tracks.items c.requires.strict c.loop-row.invariant.tracks
    (c.loop-row.invariant.rows ∙ ap (λ (rows : List Row). ordered rows) (take_all c.loop-row.row-index c.args.rows.now (omega (arith, c.loop-row-test.false))))
