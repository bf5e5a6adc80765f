use Rattle.std.proofs.Common.{◌≡◌, take, fold}
use Rattle.entry_store.specs.Reading.{placed_row}
use Rattle.entry_store.proofs.listing.sort_list.Given as goal

abbrev pub invariant-loop-row : goal.invariant-loop-row
invariant-loop-row l = l.sorted.entries ≡ fold placed_row l.fn.sorted.entries (take l.row-index l.rows)
