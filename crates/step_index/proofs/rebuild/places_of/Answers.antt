use Rattle.std.proofs.Common.{add-one}
use Rattle.step_index.proofs.Noting.{next_noted}
use Rattle.step_index.proofs.rebuild.places_of.Goals as goal

pub loop-row-preserved : goal.loop-row-preserved
loop-row-preserved c =
    rw add-one (next_noted c.loop-row.noted.entries c.note_row.new.noted.entries c.args.rows.now c.loop-row.row-index c.row-item.result c.loop-row-test.true c.row-item.is c.requires.once c.in_ok-note_row.ensures c.loop-row.invariant)
