use Rattle.std.proofs.Common.{◌≡◌, take}
use Rattle.step_index.specs.Tracks.{rows_of}
use Rattle.step_index.proofs.listing.rows_in_order.Given as goal

abbrev pub invariant-loop-track : goal.invariant-loop-track
invariant-loop-track l = l.all ≡ rows_of (take l.track-index l.tracks)
