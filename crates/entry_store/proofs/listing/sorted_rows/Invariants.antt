use Rattle.std.proofs.Common.{◌≡◌, take, fold, []}
use Rattle.entry_store.specs.Nested.{rows_of}
use Rattle.entry_store.specs.Reading.{placed_row}
use Rattle.entry_store.proofs.listing.sorted_rows.Given as goal

abbrev pub invariant-loop-nest : goal.invariant-loop-nest
invariant-loop-nest l = l.sorted.entries ≡ fold placed_row [] (rows_of (take l.nest-index l.nests))
