use Rattle.std.proofs.Common.{take}
use Rattle.step_index.specs.Tracks.{rows_of}
use Rattle.step_index.specs.Cut.{AreHeld}
use Rattle.step_index.proofs.cut.is_clean.Given as goal

abbrev pub invariant-loop-track : goal.invariant-loop-track
invariant-loop-track l = AreHeld l.starts.entries l.step.0 (rows_of (take l.track-index l.tracks))
