use Rattle.std.proofs.Common.{ap, refl, List}
use Rattle.log_model.specs.declared.row.Row.{Row}
use Rattle.entry_store.specs.Kept.{history_of}
use Rattle.step_index.proofs.Framing.{index_same}
use Rattle.step_index.proofs.room.make_room.Goals as goal

pub returns-in_err-reserve_counts-clause-index : goal.returns-in_err-reserve_counts-clause-index
returns-in_err-reserve_counts-clause-index c =
    let lists = c.reserve_lists.ensures in
    index_same c.args.parts.now _ c.requires.index c.requires.index.tracks refl lists.noted lists.starts c.reserve_counts.ensures.counts lists.used

pub returns-in_err-reserve_row-clause-index : goal.returns-in_err-reserve_row-clause-index
returns-in_err-reserve_row-clause-index c =
    let parts = c.args.parts.now in
    let lists = c.reserve_lists.ensures in
    index_same parts _ c.requires.index c.reserve_row.ensures.tracks (ap (λ (rows : List Row). history_of rows parts.current.0 parts.added.keys) c.reserve_row.ensures.rows) lists.noted lists.starts c.reserve_counts.ensures.counts lists.used

pub returns-clause-index : goal.returns-clause-index
returns-clause-index c =
    let parts = c.args.parts.now in
    let lists = c.reserve_lists.ensures in
    index_same parts _ c.requires.index c.reserve_row.ensures.tracks (ap (λ (rows : List Row). history_of rows parts.current.0 parts.added.keys) c.reserve_row.ensures.rows) lists.noted lists.starts c.reserve_counts.ensures.counts lists.used
