use Rattle.std.proofs.Common.{◌≡◌, ◌≤◌, take, drop}
use Rattle.indexmap.specs.IndexMap.{spare}
use Rattle.step_index.specs.Groups.{CountsLess}
use Rattle.step_index.specs.Starts.{StartsLess}
use Rattle.step_index.specs.Tracks.{rows_of}
use Rattle.step_index.specs.Cut.{AreCut, NotesLess, rows_past}
use Rattle.step_index.proofs.cut.cut_each.Given as goal

abbrev pub invariant-loop-track : goal.invariant-loop-track
invariant-loop-track l =
    record {
      cut : AreCut l.step.0 (take l.track-index l.fn.tracks) (take l.track-index l.tracks);
      rest : drop l.track-index l.tracks ≡ drop l.track-index l.fn.tracks;
      noted : NotesLess l.fn.noted.entries (rows_past l.step.0 (rows_of (take l.track-index l.fn.tracks))) l.noted.entries;
      starts : StartsLess l.fn.starts.entries (rows_past l.step.0 (rows_of (take l.track-index l.fn.tracks))) l.starts.entries;
      counts : CountsLess l.fn.counts.entries (rows_past l.step.0 (rows_of (take l.track-index l.fn.tracks))) l.counts.entries;
      note_room : spare l.fn.noted ≤ spare l.noted;
      start_room : spare l.fn.starts ≤ spare l.starts;
    }
