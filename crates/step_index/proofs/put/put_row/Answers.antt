use Rattle.std.proofs.Common.{◌∙◌, sym, Some}
use Rattle.step_index.specs.Tracks.{rows_of}
use Rattle.step_index.proofs.Noting.{others_noted, here_noted, more_noted}
use Rattle.step_index.proofs.Starting.{more_started}
use Rattle.step_index.proofs.Pushing.{with_step-last}
use Rattle.step_index.proofs.put.put_row.Goals as goal

pub returns-clause-filed : goal.returns-clause-filed
returns-clause-filed c =
    let parts = c.args.parts.now in
    let rows = rows_of parts.tracks.items in
    let row = c.args.row in
    let new = rows_of c.put_in_track.new.tracks.items in
    record {
      tracks = c.put_in_track.ensures.tracks;
      noted =
          more_noted c.note_in_room.new.noted.entries rows row new c.put_in_track.ensures.rows (here_noted parts.noted.entries c.note_in_room.new.noted.entries row c.note_in_room.ensures)
          (others_noted parts.noted.entries c.note_in_room.new.noted.entries row.entry (Some (record { nav = row.nav; step = row.step })) rows c.note_in_room.ensures c.requires.new c.requires.filed.noted);
      started = more_started parts.starts.entries rows row c.start_in_room.new.starts.entries c.start_in_room.ensures new c.put_in_track.ensures.rows c.requires.filed.started;
    }

pub returns-clause-used : goal.returns-clause-used
returns-clause-used c = c.push_reserved.ensures.items ∙ sym (with_step-last c.args.row.step.0 c.args.parts.now.used.items c.requires.beyond)
