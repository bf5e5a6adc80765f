use Rattle.std.proofs.Common.{◌≡◌, take, fold, []}
use Rattle.entry_store.specs.Nested.{rows_of}
use Rattle.entry_store.specs.Reading.{child_of}
use Rattle.entry_store.proofs.listing.child_numbers_in.Given as goal

abbrev pub invariant-loop-nest : goal.invariant-loop-nest
invariant-loop-nest l = l.numbers.keys ≡ fold (child_of l.state) [] (rows_of (take l.nest-index l.nests))
