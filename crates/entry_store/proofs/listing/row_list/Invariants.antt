use Rattle.std.proofs.Common.{◌≡◌}
use Rattle.entry_store.proofs.listing.row_list.Given as goal

abbrev pub invariant-loop-row : goal.invariant-loop-row
invariant-loop-row l = l.rows ≡ l.yielded
