use Rattle.std.proofs.Common.{◌∙◌, ap, sym, List, find}
use Rattle.std.specs.Prelude.{◌&&◌}
use Rattle.log_model.specs.Soundness.{is_entry}
use Rattle.step_index.specs.declared.track.Track.{Track}
use Rattle.step_index.specs.Noted.{is_at_place}
use Rattle.step_index.specs.Tracks.{rows_of}
use Rattle.step_index.proofs.Noting.{noted_row, unnoted}
use Rattle.step_index.proofs.readers.row_in.Goals as goal

pub returns-in-Some : goal.returns-in-Some
returns-in-Some c =
    let parts = c.args.parts.now in
    c.row_at.ensures
    ∙ ap (λ (tracks : List Track). find (λ row. is_at_place c.in-Some.place row && is_entry c.args.entry row) (rows_of tracks)) c.deref.ensures.value
    ∙ sym (noted_row parts.noted.entries (rows_of parts.tracks.items) c.requires.index.noted c.args.entry c.in-Some.place (sym c.place_of.ensures ∙ c.in-Some.is))

pub returns-in-None : goal.returns-in-None
returns-in-None c =
    let parts = c.args.parts.now in
    sym (unnoted parts.noted.entries (rows_of parts.tracks.items) c.requires.index.noted c.args.entry (sym c.place_of.ensures ∙ c.in-None.is))
