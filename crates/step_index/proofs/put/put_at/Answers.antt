use Rattle.std.proofs.Common.{refl}
use Rattle.step_index.specs.declared.track.Track.{Track}
use Rattle.step_index.proofs.Tracking.{room_here, behind_tracks, behind_puts}
use Rattle.step_index.proofs.put.put_at.Goals as goal

pub push_reserved-requires : goal.push_reserved-requires
push_reserved-requires c =
    room_here c.args.tracks.now.items c.args.at c.requires.tracks c.args.row.nav c.requires.place c.index_mut-track.result.now c.index_mut-track.result.now c.index_mut-track.ensures.value refl c.requires.room

pub returns-clause-tracks : goal.returns-clause-tracks
returns-clause-tracks c =
    let new : Track = record { nav = c.index_mut-track.result.now.nav; rows = c.push_reserved.new.self } in
    behind_tracks c.args.tracks.now.items c.args.at c.requires.tracks c.args.row.nav c.requires.place c.index_mut-track.result.now new c.index_mut-track.ensures.value refl c.args.row refl c.push_reserved.ensures.items c.requires.last

pub returns-clause-rows : goal.returns-clause-rows
returns-clause-rows c =
    let new : Track = record { nav = c.index_mut-track.result.now.nav; rows = c.push_reserved.new.self } in
    behind_puts c.args.tracks.now.items c.args.at c.requires.tracks c.args.row.nav c.requires.place c.index_mut-track.result.now new c.index_mut-track.ensures.value refl c.args.row c.push_reserved.ensures.items
