use Rattle.std.proofs.Common.{◌≡◌, take, fold, []}
use Rattle.step_index.specs.Tracks.{rows_of}
use Rattle.entry_store.specs.Reading.{child_of}
use Rattle.step_index.proofs.listing.child_numbers_in.Given as goal

abbrev pub invariant-loop-track : goal.invariant-loop-track
invariant-loop-track l = l.numbers.keys ≡ fold (child_of l.state) [] (rows_of (take l.track-index l.tracks))
