use Rattle.std.proofs.Common.{◌≡◌, ◌∙◌, sym, ap, subst, true, Option}
use Rattle.std.specs.Prelude.{IfSome}
use Rattle.std.specs.List.{list_any}
use Rattle.std.proofs.lemmas.Option.{get_or_from_slice_get}
use Rattle.history_laws.proofs.Members.{some_same}
use Rattle.log_model.specs.declared.row.Row.{Row}
use Rattle.log_model.specs.History.{same_entry}
use Rattle.step_index.specs.declared.track.Track.{Track}
use Rattle.step_index.specs.Ascending.{IsAscending}
use Rattle.step_index.specs.Tracks.{rows_of, step_of}
use Rattle.step_index.specs.Spots.{keeps_frames}
use Rattle.step_index.proofs.Searching.{item_at}
use Rattle.step_index.proofs.Tracking.{track_is, track_any}
use Rattle.step_index.proofs.Replacing.{spot_found}
use Rattle.step_index.proofs.replace.spot_in.Goals as goal

pub entry_at-requires : goal.entry_at-requires
entry_at-requires c =
    let tracks = c.args.parts.now.tracks.items in
    let place = c.requires.place in
    let same = c.index.ensures ∙ get_or_from_slice_get tracks c.args.place place.it c.index.result.now place.here in
    record { sorted = subst (IsAscending step_of) (sym (c.as_slice-rows.ensures.value ∙ ap (λ (t : Track). t.rows.items) same)) (track_is tracks c.args.place place.it c.requires.index.tracks place.here).1 }

pub keeps_frames-requires-clause-sorted : goal.keeps_frames-requires-clause-sorted
keeps_frames-requires-clause-sorted c =
    let tracks = c.args.parts.now.tracks.items in
    let place = c.requires.place in
    let same = c.index.ensures ∙ get_or_from_slice_get tracks c.args.place place.it c.index.result.now place.here in
    subst (IsAscending step_of) (sym (c.as_slice-rows.ensures.value ∙ ap (λ (t : Track). t.rows.items) same)) (track_is tracks c.args.place place.it c.requires.index.tracks place.here).1

pub keeps_frames-requires-clause-part : goal.keeps_frames-requires-clause-part
keeps_frames-requires-clause-part c = λ test any.
    let tracks = c.args.parts.now.tracks.items in
    let place = c.requires.place in
    let same = c.index.ensures ∙ get_or_from_slice_get tracks c.args.place place.it c.index.result.now place.here in
    track_any test tracks c.args.place place.it place.here (ap (list_any test) (sym (c.as_slice-rows.ensures.value ∙ ap (λ (t : Track). t.rows.items) same)) ∙ any)

pub returns-then-keeps_frames : goal.returns-then-keeps_frames
returns-then-keeps_frames c =
    let tracks = c.args.parts.now.tracks.items in
    let place = c.requires.place in
    let rows = c.as_slice-rows.result.now in
    let row = c.index-rows-at.result in
    let found = c.in-Some.ensures.found in
    let here = item_at rows c.in-Some.at row c.in-Some.ensures.within c.index-rows-at.is in
    let same = c.index.ensures ∙ get_or_from_slice_get tracks c.args.place place.it c.index.result.now place.here in
    let keeps = subst (λ (o : Option Row). IfSome o (λ was. c.keeps_frames.result ≡ true → keeps_frames c.args.state was (rows_of tracks) ≡ true)) here c.keeps_frames.ensures in
    spot_found tracks c.args.place c.args.nav c.args.over c.args.state c.in-Some.at row c.requires.index.tracks place rows
    (c.as_slice-rows.ensures.value ∙ ap (λ (t : Track). t.rows.items) same)
    c.in-Some.ensures.within here
    (ap (λ (r : Row). same_entry r.entry c.args.over) (some_same row found.it (sym here ∙ found.here)) ∙ found.is_it)
    (keeps c.if-keeps_frames.true)
