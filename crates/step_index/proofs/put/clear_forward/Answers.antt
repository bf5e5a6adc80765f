use Rattle.std.proofs.Common.{◌≡◌, ◌-◌, ◌∙◌, sym, ap, subst, List, [], ℕ, filter, length, arith}
use Rattle.std.specs.Prelude.{nat_le}
use Rattle.std.specs.List.{count_by}
use Rattle.log_model.specs.declared.row.Row.{Row}
use Rattle.log_model.specs.History.{used_steps}
use Rattle.entry_store.proofs.StepBounds.{filter-fewer}
use Rattle.step_index.specs.Groups.{is_in, count_of}
use Rattle.step_index.specs.Noted.{AreNoted}
use Rattle.step_index.specs.Starts.{AreStarted}
use Rattle.step_index.specs.Tracks.{rows_of}
use Rattle.step_index.specs.Parts.{history_in}
use Rattle.step_index.proofs.Looking.{used_ascend}
use Rattle.step_index.proofs.Starting.{left_started}
use Rattle.step_index.proofs.Cutting.{used_upto}
use Rattle.step_index.proofs.Pushing.{at_most, all_upto, none_past, upto_noted}
use Rattle.step_index.proofs.put.clear_forward.Goals as goal

pub returns-then-le-clause-rows : goal.returns-then-le-clause-rows
returns-then-le-clause-rows c =
    let parts = c.args.parts.now in
    sym (all_upto parts.current.0 (rows_of parts.tracks.items) (at_most _ _ c.greatest_step_in.ensures c.le.ensures c.if-le.true))

pub returns-then-le-clause-used : goal.returns-then-le-clause-used
returns-then-le-clause-used c =
    let parts = c.args.parts.now in
    c.requires.kept.used ∙ ap used_steps (sym (all_upto parts.current.0 (rows_of parts.tracks.items) (at_most _ _ c.greatest_step_in.ensures c.le.ensures c.if-le.true)))

pub returns-then-le-clause-counts : goal.returns-then-le-clause-counts
returns-then-le-clause-counts c group =
    let parts = c.args.parts.now in
    let none = none_past parts.current.0 (rows_of parts.tracks.items) (at_most _ _ c.greatest_step_in.ensures c.le.ensures c.if-le.true) in
    less (count_of group parts.counts.entries) ∙ ap (λ (gone : List Row). count_of group parts.counts.entries - count_by (is_in group) gone) (sym none)
  where
    less : (n : ℕ) → n ≡ n - count_by (is_in group) []
    less n = omega arith

pub cut_used-requires : goal.cut_used-requires
cut_used-requires c = record { sorted = used_ascend (history_in c.args.parts.now) c.args.parts.now.used.items c.requires.kept }

pub returns-clause-filed : goal.returns-clause-filed
returns-clause-filed c =
    let parts = c.args.parts.now in
    let rows = rows_of parts.tracks.items in
    let current = parts.current.0 in
    record {
      tracks = c.cut_tracks.ensures.tracks;
      noted =
          subst (λ (r : List Row). AreNoted c.cut_tracks.new.noted.entries r) (sym c.cut_tracks.ensures.rows)
          (upto_noted parts.noted.entries c.cut_tracks.new.noted.entries current rows c.requires.kept.sound.entries c.cut_tracks.ensures.noted c.requires.filed.noted);
      started =
          subst (λ (r : List Row). AreStarted c.cut_tracks.new.starts.entries r) (sym c.cut_tracks.ensures.rows)
          (left_started parts.starts.entries rows current c.cut_tracks.new.starts.entries c.cut_tracks.ensures.starts c.requires.filed.started);
    }

pub returns-clause-used : goal.returns-clause-used
returns-clause-used c =
    let parts = c.args.parts.now in
    c.cut_used.ensures.left ∙ ap (filter (λ n. nat_le n parts.current.0)) c.requires.kept.used ∙ used_upto parts.current.0 (rows_of parts.tracks.items) c.requires.kept.below

pub returns-clause-room : goal.returns-clause-room
returns-clause-room c = λ nav room.
    let used = c.args.parts.now.used in
    record {
      note = omega (arith, room.note, c.cut_tracks.ensures.note_room);
      start = omega (arith, room.start, c.cut_tracks.ensures.start_room);
      used = omega (
        arith,
        room.used,
        c.cut_used.ensures.capacity,
        c.cut_used.new.used.ok.0,
        used.ok.0,
        ap (length {A = ℕ}) c.cut_used.ensures.left,
        filter-fewer (λ n. nat_le n c.args.parts.now.current.0) used.items,
      );
      row = c.cut_tracks.ensures.room nav room.row;
    }
