use Rattle.std.proofs.Common.{refl}
use Rattle.step_index.specs.declared.track.Track.{Track}
use Rattle.entry_store.proofs.Placing.{OnErr-any}
use Rattle.step_index.proofs.Tracking.{behind_same, behind_kept, behind_tracks, behind_puts}
use Rattle.step_index.proofs.places.put_behind.Goals as goal

pub returns-in_err-push-clause-tracks : goal.returns-in_err-push-clause-tracks
returns-in_err-push-clause-tracks c =
    let new : Track = record { nav = c.index_mut-track.result.now.nav; rows = c.push.new.self } in
    behind_kept c.args.tracks.now.items c.args.at c.requires.tracks c.args.row.nav c.requires.place c.index_mut-track.result.now new c.index_mut-track.ensures.value refl c.in_err-push.ensures.items

pub returns-in_err-push-clause-err : goal.returns-in_err-push-clause-err
returns-in_err-push-clause-err c =
    let new : Track = record { nav = c.index_mut-track.result.now.nav; rows = c.push.new.self } in
    OnErr-any c.from_residual.result (behind_same c.args.tracks.now.items c.args.at c.requires.tracks c.args.row.nav c.requires.place c.index_mut-track.result.now new c.index_mut-track.ensures.value refl c.in_err-push.ensures.items)

pub returns-clause-tracks : goal.returns-clause-tracks
returns-clause-tracks c =
    let new : Track = record { nav = c.index_mut-track.result.now.nav; rows = c.push.new.self } in
    behind_tracks c.args.tracks.now.items c.args.at c.requires.tracks c.args.row.nav c.requires.place c.index_mut-track.result.now new c.index_mut-track.ensures.value refl c.args.row refl c.in_ok-push.ensures.items c.requires.last

pub returns-clause-ok : goal.returns-clause-ok
returns-clause-ok c =
    let new : Track = record { nav = c.index_mut-track.result.now.nav; rows = c.push.new.self } in
    behind_puts c.args.tracks.now.items c.args.at c.requires.tracks c.args.row.nav c.requires.place c.index_mut-track.result.now new c.index_mut-track.ensures.value refl c.args.row c.in_ok-push.ensures.items
