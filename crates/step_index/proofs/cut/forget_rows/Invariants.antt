use Rattle.std.proofs.Common.{◌≤◌, take}
use Rattle.indexmap.specs.IndexMap.{spare}
use Rattle.step_index.specs.Groups.{CountsLess}
use Rattle.step_index.specs.Starts.{StartsLess}
use Rattle.step_index.specs.Cut.{NotesLess}
use Rattle.step_index.proofs.cut.forget_rows.Given as goal

abbrev pub invariant-loop-row : goal.invariant-loop-row
invariant-loop-row l =
    record {
      noted : NotesLess l.fn.noted.entries (take l.row-index l.rows) l.noted.entries;
      starts : StartsLess l.fn.starts.entries (take l.row-index l.rows) l.starts.entries;
      counts : CountsLess l.fn.counts.entries (take l.row-index l.rows) l.counts.entries;
      note_room : spare l.fn.noted ≤ spare l.noted;
      start_room : spare l.fn.starts ≤ spare l.starts;
    }
