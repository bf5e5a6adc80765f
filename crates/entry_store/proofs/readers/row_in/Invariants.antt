use Rattle.std.proofs.Common.{◌≡◌, drop}
use Rattle.log_model.specs.History.{row_of}
use Rattle.entry_store.specs.Nested.{rows_of}
use Rattle.entry_store.proofs.readers.row_in.Given as goal

abbrev pub invariant-loop-nest : goal.invariant-loop-nest
invariant-loop-nest l = row_of l.entry (rows_of (drop l.nest-index l.nests)) ≡ row_of l.entry (rows_of l.nests)
