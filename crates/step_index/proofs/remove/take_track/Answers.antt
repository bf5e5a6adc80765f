use Rattle.std.proofs.Common.{◌≡◌, ◌∙◌, sym, ap, subst, refl, Option}
use Rattle.std.specs.Prelude.{IfSome, slice_set}
use Rattle.step_index.specs.declared.track.Track.{Track}
use Rattle.step_index.specs.Tracks.{rows_of, AreTracks}
use Rattle.step_index.proofs.Removing.{taken_rows, emptied_tracks, emptied_left}
use Rattle.step_index.proofs.remove.take_track.Goals as goal

pub returns-clause-tracks : goal.returns-clause-tracks
returns-clause-tracks c =
    let tracks = c.args.tracks.now.items in
    let place = c.requires.place in
    let empty : Track = record { nav = place.it.nav; rows = c.new-none.result } in
    let swapped = subst (λ (o : Option Track). IfSome o (λ track. (c.swap_rows.result ≡ track.rows) × (c.swap_rows.new.tracks.items ≡ slice_set tracks c.args.at (record { nav = track.nav; rows = c.new-none.result })))) place.here c.swap_rows.ensures in
    subst AreTracks (sym swapped.1) (emptied_tracks tracks c.args.nav c.args.at place c.requires.tracks empty refl c.new-none.ensures.items)

pub returns-clause-rows : goal.returns-clause-rows
returns-clause-rows c =
    let tracks = c.args.tracks.now.items in
    let place = c.requires.place in
    let swapped = subst (λ (o : Option Track). IfSome o (λ track. (c.swap_rows.result ≡ track.rows) × (c.swap_rows.new.tracks.items ≡ slice_set tracks c.args.at (record { nav = track.nav; rows = c.new-none.result })))) place.here c.swap_rows.ensures in
    ap (λ rows. rows.items) swapped.0 ∙ taken_rows tracks c.args.nav c.args.at place c.requires.tracks

pub returns-clause-left : goal.returns-clause-left
returns-clause-left c =
    let tracks = c.args.tracks.now.items in
    let place = c.requires.place in
    let empty : Track = record { nav = place.it.nav; rows = c.new-none.result } in
    let swapped = subst (λ (o : Option Track). IfSome o (λ track. (c.swap_rows.result ≡ track.rows) × (c.swap_rows.new.tracks.items ≡ slice_set tracks c.args.at (record { nav = track.nav; rows = c.new-none.result })))) place.here c.swap_rows.ensures in
    ap rows_of swapped.1 ∙ emptied_left tracks c.args.nav c.args.at place c.requires.tracks empty refl c.new-none.ensures.items
