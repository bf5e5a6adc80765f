use Rattle.std.proofs.Common.{◌∙◌, ap, sym, subst, find, List, []}
use Rattle.std.specs.Prelude.{◌&&◌, ◌==◌}
use Rattle.std.proofs.lemmas.Option.{get_or_from_slice_get}
use Rattle.log_model.specs.declared.row.Row.{Row}
use Rattle.log_model.specs.Soundness.{is_entry}
use Rattle.step_index.specs.declared.track.Track.{Track}
use Rattle.step_index.specs.Ascending.{IsAscending}
use Rattle.step_index.specs.Tracks.{rows_of, step_of}
use Rattle.step_index.proofs.Tracking.{track_is, rows_at, rows_in_gap}
use Rattle.step_index.proofs.Noting.{found_in}
use Rattle.step_index.proofs.readers.row_at.Goals as goal

pub row_at_step-requires : goal.row_at_step-requires
row_at_step-requires c =
    let place = c.in-Ok.ensures.here in
    let same = get_or_from_slice_get c.args.tracks.now c.in-Ok.at place.it c.index-tracks-at.result place.here in
    record {
      sorted = subst (λ (rows : List Row). IsAscending step_of rows) (sym (c.deref.ensures.value ∙ ap (λ (t : Track). t.rows.items) same))
          (track_is c.args.tracks.now c.in-Ok.at place.it c.requires.tracks place.here).1;
    }

pub returns-in-Ok : goal.returns-in-Ok
returns-in-Ok c =
    let tracks = c.args.tracks.now in
    let place = c.in-Ok.ensures.here in
    let same = get_or_from_slice_get tracks c.in-Ok.at place.it c.index-tracks-at.result place.here in
    c.row_at_step.ensures
    ∙ ap (find (λ (row : Row). row.step.0 == c.args.place.step.0 && is_entry c.args.entry row)) (c.deref.ensures.value ∙ ap (λ (t : Track). t.rows.items) same)
    ∙ sym (found_in c.args.place c.args.entry (rows_of tracks) place.it.rows.items (rows_at tracks c.args.place.nav c.in-Ok.at place.it c.requires.tracks place.here place.is_navs))

pub returns-in-Err : goal.returns-in-Err
returns-in-Err c =
    let tracks = c.args.tracks.now in
    sym (found_in c.args.place c.args.entry (rows_of tracks) [] (rows_in_gap tracks c.args.place.nav c.in-Err.field-0 c.requires.tracks c.in-Err.ensures.gap))
