use Rattle.std.proofs.Common.{◌≡◌, ◌<◌, ◌∙◌, sym, ap, subst, List, take, length, get_or, arith}
use Rattle.std.proofs.lemmas.Option.{slice_get-get_or}
use Rattle.log_model.specs.declared.row.Row.{Row}
use Rattle.step_index.specs.declared.track.Track.{Track}
use Rattle.step_index.specs.Ascending.{IsAscending}
use Rattle.step_index.specs.Groups.{CountsLess}
use Rattle.step_index.specs.Starts.{StartsLess}
use Rattle.step_index.specs.Tracks.{rows_of, step_of}
use Rattle.step_index.specs.Cut.{NotesLess, IsCut, rows_upto, rows_past}
use Rattle.step_index.proofs.Tracking.{track_is}
use Rattle.step_index.proofs.Starting.{less_and_less}
use Rattle.step_index.proofs.Counting.{less_counted}
use Rattle.step_index.proofs.Cutting.{notes_and_notes, cut_rest, cut_more, past_more, same_here}
use Rattle.step_index.proofs.cut.cut_each.Goals as goal

pub cut_rows-requires : goal.cut_rows-requires
cut_rows-requires c =
    let old = c.args.tracks.now in
    let i = c.loop-track.track-index in
    let within : i < length c.loop-track.tracks = omega (arith, c.loop-track-test.true, c.loop-track.auto.tracks) in
    let item : c.track-item.result ≡ get_or old i c.track-item.result = same_here c.args.step.0 old c.loop-track.tracks i c.track-item.result c.track-item.result within c.loop-track.auto.tracks c.loop-track.invariant.rest c.track-item.is in
    let there = slice_get-get_or old i c.track-item.result (omega (arith, within, c.loop-track.auto.tracks)) in
    record {
      sorted = subst (λ (t : Track). IsAscending step_of t.rows.items) (sym item ∙ c.track-item.is) (track_is old i (get_or old i c.track-item.result) c.requires.tracks there).1;
    }

pub loop-track-preserved : goal.loop-track-preserved
loop-track-preserved c =
    let old = c.args.tracks.now in
    let i = c.loop-track.track-index in
    let step = c.args.step.0 in
    let it = c.track-item.result in
    let new : Track = record { nav = (get_or c.loop-track.tracks i it).nav; rows = c.cut_rows.new.rows } in
    let within : i < length c.loop-track.tracks = omega (arith, c.loop-track-test.true, c.loop-track.auto.tracks) in
    let long = c.loop-track.auto.tracks in
    let rest = c.loop-track.invariant.rest in
    let was : it ≡ get_or old i it = same_here step old c.loop-track.tracks i it new within long rest c.track-item.is in
    let cut : IsCut step it new = record {
      nav = ap (λ (t : Track). t.nav) (sym c.track-item.is);
      rows = c.cut_rows.ensures.left ∙ ap (λ (t : Track). rows_upto step t.rows.items) (sym c.track-item.is);
      room = c.cut_rows.ensures.capacity ∙ ap (λ (t : Track). Rattle.std.specs.Prelude.vec_capacity t.rows) (sym c.track-item.is);
    } in
    let gone = past_more step old c.loop-track.tracks i it new within long rest in
    let mine : rows_past step (get_or c.loop-track.tracks i it).rows.items ≡ rows_past step (get_or old i it).rows.items = ap (λ (t : Track). rows_past step t.rows.items) (sym c.track-item.is ∙ was) in
    record {
      cut = cut_more step old c.loop-track.tracks i it new within long rest c.loop-track.invariant.cut (subst (λ (t : Track). IsCut step t new) was cut);
      rest = cut_rest step old c.loop-track.tracks i it new within long rest;
      noted =
          subst (λ (rows : List Row). NotesLess c.args.noted.now.entries rows c.cut_rows.new.noted.entries) (sym gone)
          (notes_and_notes c.args.noted.now.entries c.loop-track.noted.entries c.cut_rows.new.noted.entries (rows_past step (rows_of (take i old))) (rows_past step (get_or old i it).rows.items) c.loop-track.invariant.noted
          (subst (λ (rows : List Row). NotesLess c.loop-track.noted.entries rows c.cut_rows.new.noted.entries) mine c.cut_rows.ensures.noted));
      starts =
          subst (λ (rows : List Row). StartsLess c.args.starts.now.entries rows c.cut_rows.new.starts.entries) (sym gone)
          (less_and_less c.args.starts.now.entries c.loop-track.starts.entries c.cut_rows.new.starts.entries (rows_past step (rows_of (take i old))) (rows_past step (get_or old i it).rows.items) c.loop-track.invariant.starts
          (subst (λ (rows : List Row). StartsLess c.loop-track.starts.entries rows c.cut_rows.new.starts.entries) mine c.cut_rows.ensures.starts));
      counts =
          subst (λ (rows : List Row). CountsLess c.args.counts.now.entries rows c.cut_rows.new.counts.entries) (sym gone)
          (less_counted c.args.counts.now.entries c.loop-track.counts.entries c.cut_rows.new.counts.entries (rows_past step (rows_of (take i old))) (rows_past step (get_or old i it).rows.items) c.loop-track.invariant.counts
          (subst (λ (rows : List Row). CountsLess c.loop-track.counts.entries rows c.cut_rows.new.counts.entries) mine c.cut_rows.ensures.counts));
      note_room = omega (arith, c.loop-track.invariant.note_room, c.cut_rows.ensures.note_room);
      start_room = omega (arith, c.loop-track.invariant.start_room, c.cut_rows.ensures.start_room);
    }
