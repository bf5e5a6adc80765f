use Rattle.std.proofs.Common.{◌∙◌, ap, sym}
use Rattle.std.proofs.lemmas.Option.{get_or_from_slice_get}
use Rattle.step_index.specs.Cut.{has_rows}
use Rattle.step_index.specs.Tracks.{rows_of}
use Rattle.step_index.proofs.Tracking.{rows_at, rows_in_gap}
use Rattle.step_index.proofs.Looking.{has_row_none}
use Rattle.step_index.proofs.Cutting.{has_rows_is}
use Rattle.step_index.proofs.readers.has_row_in.Goals as goal

pub returns-in-Ok : goal.returns-in-Ok
returns-in-Ok c =
    let tracks = c.args.tracks.now in
    let place = c.in-Ok.ensures.here in
    c.has_rows.ensures
    ∙ ap has_rows (c.index-tracks-at.is ∙ get_or_from_slice_get tracks c.in-Ok.at place.it c.index-tracks-at.result place.here)
    ∙ has_rows_is (rows_of tracks) c.args.nav place.it (rows_at tracks c.args.nav c.in-Ok.at place.it c.requires.tracks place.here place.is_navs)

pub returns-in-Err : goal.returns-in-Err
returns-in-Err c =
    sym (has_row_none (rows_of c.args.tracks.now) c.args.nav (rows_in_gap c.args.tracks.now c.args.nav c.in-Err.field-0 c.requires.tracks c.in-Err.ensures.gap))
