use Rattle.std.proofs.Common.{◌∙◌, sym, ap, List, subst}
use Rattle.std.proofs.lemmas.Bool.{false≢true}
use Rattle.log_model.specs.History.{has_row}
use Rattle.step_index.specs.declared.track.Track.{Track}
use Rattle.step_index.specs.Tracks.{rows_of, AreTracks}
use Rattle.step_index.proofs.Tracking.{rows_in_gap}
use Rattle.step_index.proofs.Looking.{has_row_none}
use Rattle.step_index.proofs.put.put_in_track.Goals as goal

pub unreachable-requires : goal.unreachable-requires
unreachable-requires c =
    let tracks = c.deref.result.now in
    let are : AreTracks tracks = subst AreTracks (sym c.deref.ensures.value) c.requires.tracks in
    absurd (false≢true (
    sym (has_row_none (rows_of tracks) c.args.row.nav (rows_in_gap tracks c.args.row.nav c.in-Err.field-0 are c.in-Err.ensures.gap))
    ∙ ap (λ (ts : List Track). has_row c.args.row.nav (rows_of ts)) c.deref.ensures.value
    ∙ c.requires.there))
