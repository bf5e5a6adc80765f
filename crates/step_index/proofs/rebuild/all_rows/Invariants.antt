use Rattle.std.proofs.Common.{◌≡◌, take}
use Rattle.step_index.specs.Tracks.{rows_of}
use Rattle.step_index.proofs.rebuild.all_rows.Given as goal

abbrev pub invariant-loop-track : goal.invariant-loop-track
invariant-loop-track l = l.all.items ≡ rows_of (take l.track-index l.tracks)
