use Rattle.std.proofs.Common.{◌≡◌, ◌++◌, take}
use Rattle.step_index.proofs.listing.list_rows.Given as goal

abbrev pub invariant-loop-row : goal.invariant-loop-row
invariant-loop-row l = l.all ≡ l.fn.all ++ take l.row-index l.rows
