use Rattle.std.proofs.Common.{◌≡◌, drop}
use Rattle.log_model.specs.History.{has_state}
use Rattle.entry_store.specs.Nested.{rows_of}
use Rattle.entry_store.proofs.readers.has_state_in.Given as goal

abbrev pub invariant-loop-nest : goal.invariant-loop-nest
invariant-loop-nest l = has_state l.state (rows_of (drop l.nest-index l.nests)) ≡ has_state l.state (rows_of l.nests)
