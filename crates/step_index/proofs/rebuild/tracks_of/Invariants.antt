use Rattle.std.proofs.Common.{◌≡◌, take}
use Rattle.log_model.specs.Order.{ordered}
use Rattle.step_index.specs.Tracks.{rows_of, AreTracks}
use Rattle.step_index.proofs.rebuild.tracks_of.Given as goal

abbrev pub invariant-loop-row : goal.invariant-loop-row
invariant-loop-row l =
    record {
      tracks : AreTracks l.tracks.items;
      rows : ordered (rows_of l.tracks.items) ≡ ordered (take l.row-index l.rows);
    }
