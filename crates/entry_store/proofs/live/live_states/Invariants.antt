use Rattle.std.proofs.Common.{filter}
use Rattle.entry_store.specs.Nested.{rows_of, outlives, AreSupported, missing}
use Rattle.entry_store.proofs.live.live_states.Given as goal

abbrev pub invariant-rounds : goal.invariant-rounds
invariant-rounds l = AreSupported l.states.keys (filter (outlives l.cut) (rows_of l.nests))

abbrev pub decreases-rounds : goal.decreases-rounds
decreases-rounds l = missing l.states.keys (rows_of l.nests)
