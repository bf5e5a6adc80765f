use Rattle.std.proofs.Common.{subst, ℕ, List, Some}
use Rattle.tab_ids.specs.declared.EntryId.{EntryId}
use Rattle.tab_ids.specs.declared.StateId.{StateId}
use Rattle.tab_ids.specs.declared.Step.{Step}
use Rattle.step_index.specs.declared.groups.Group.{Group}
use Rattle.step_index.specs.declared.noted.Place.{Place}
use Rattle.step_index.specs.Groups.{CountsRow}
use Rattle.step_index.specs.Noted.{NotesOne}
use Rattle.step_index.specs.Starts.{StartsOne}
use Rattle.step_index.specs.Tracks.{rows_of}
use Rattle.step_index.proofs.Noting.{others_noted, here_noted, more_noted}
use Rattle.step_index.proofs.Starting.{more_started}
use Rattle.step_index.proofs.Counting.{more_counted}
use Rattle.step_index.proofs.Framing.{none_from}
use Rattle.step_index.proofs.frames.put_frame.Goals as goal

pub put_last-requires-clause-last : goal.put_last-requires-clause-last
put_last-requires-clause-last c = none_from c.args.row.nav c.args.row.step.0 (rows_of c.args.parts.now.tracks.items) c.requires.none

pub returns-clause-filed : goal.returns-clause-filed
returns-clause-filed c =
    let parts = c.args.parts.now in
    let rows = rows_of parts.tracks.items in
    let row = c.args.row in
    let new = rows_of c.put_last.new.tracks.items in
    let notes = subst (λ (old : List (EntryId × Place)). NotesOne old row.entry (Some (record { nav = row.nav; step = row.step })) c.note_in_room.new.noted.entries) c.in_ok-reserve_notes.ensures.noted c.note_in_room.ensures in
    let starts = subst (λ (old : List (StateId × Step)). StartsOne old row.state row.step c.start_in_room.new.starts.entries) c.in_ok-reserve_notes.ensures.starts c.start_in_room.ensures in
    record {
      tracks = c.in_ok-put_last.ensures.tracks;
      noted =
          more_noted c.note_in_room.new.noted.entries rows row new c.in_ok-put_last.ensures.ok (here_noted parts.noted.entries c.note_in_room.new.noted.entries row notes)
          (others_noted parts.noted.entries c.note_in_room.new.noted.entries row.entry (Some (record { nav = row.nav; step = row.step })) rows notes c.requires.new c.requires.index.noted);
      started = more_started parts.starts.entries rows row c.start_in_room.new.starts.entries starts new c.in_ok-put_last.ensures.ok c.requires.index.started;
    }

pub returns-clause-counted : goal.returns-clause-counted
returns-clause-counted c =
    let parts = c.args.parts.now in
    let rows = rows_of parts.tracks.items in
    let row = c.args.row in
    let new = rows_of c.put_last.new.tracks.items in
    more_counted parts.counts.entries c.count_row.new.counts.entries rows new row c.in_ok-put_last.ensures.ok
    (subst (λ (old : List (Group × ℕ)). CountsRow old row.step row.owner c.count_row.new.counts.entries) c.in_ok-reserve_counts.ensures.counts c.count_row.ensures) c.requires.index.counted
