use Rattle.std.proofs.Common.{refl, arith}
use Rattle.step_index.specs.declared.track.Track.{Track}
use Rattle.step_index.proofs.Tracking.{behind_same, behind_kept, room_made}
use Rattle.step_index.proofs.room.reserve_row.Goals as goal

pub returns-in_err-reserve-clause-tracks : goal.returns-in_err-reserve-clause-tracks
returns-in_err-reserve-clause-tracks c =
    let new : Track = record { nav = c.index_mut-track.result.now.nav; rows = c.reserve.new.self } in
    behind_kept c.args.tracks.now.items c.args.at c.requires.tracks c.args.nav c.requires.place c.index_mut-track.result.now new c.index_mut-track.ensures.value refl c.in_err-reserve.ensures.items

pub returns-in_err-reserve-clause-rows : goal.returns-in_err-reserve-clause-rows
returns-in_err-reserve-clause-rows c =
    let new : Track = record { nav = c.index_mut-track.result.now.nav; rows = c.reserve.new.self } in
    behind_same c.args.tracks.now.items c.args.at c.requires.tracks c.args.nav c.requires.place c.index_mut-track.result.now new c.index_mut-track.ensures.value refl c.in_err-reserve.ensures.items

pub returns-clause-tracks : goal.returns-clause-tracks
returns-clause-tracks c =
    let new : Track = record { nav = c.index_mut-track.result.now.nav; rows = c.reserve.new.self } in
    behind_kept c.args.tracks.now.items c.args.at c.requires.tracks c.args.nav c.requires.place c.index_mut-track.result.now new c.index_mut-track.ensures.value refl c.in_ok-reserve.ensures.items

pub returns-clause-rows : goal.returns-clause-rows
returns-clause-rows c =
    let new : Track = record { nav = c.index_mut-track.result.now.nav; rows = c.reserve.new.self } in
    behind_same c.args.tracks.now.items c.args.at c.requires.tracks c.args.nav c.requires.place c.index_mut-track.result.now new c.index_mut-track.ensures.value refl c.in_ok-reserve.ensures.items

pub returns-clause-room : goal.returns-clause-room
returns-clause-room c =
    let new : Track = record { nav = c.index_mut-track.result.now.nav; rows = c.reserve.new.self } in
    room_made c.args.tracks.now.items c.args.at c.requires.tracks c.args.nav c.requires.place c.index_mut-track.result.now new c.index_mut-track.ensures.value refl (omega (arith, c.in_ok-reserve.ensures.ok))
