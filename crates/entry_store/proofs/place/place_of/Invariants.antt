use Rattle.std.proofs.Common.{◌≡◌, drop, find, ◌&&◌}
use Rattle.log_model.specs.declared.row.Row.{Row}
use Rattle.log_model.specs.History.{is_of}
use Rattle.entry_store.specs.Nested.{rows_of, stays}
use Rattle.entry_store.proofs.place.place_of.Given as goal

abbrev pub invariant-loop-i : goal.invariant-loop-i
invariant-loop-i l =
    find (λ (row : Row). is_of l.nav row && stays l.cut l.states.keys row) (rows_of (drop l.i l.nests)) ≡ find (λ (row : Row). is_of l.nav row && stays l.cut l.states.keys row) (rows_of l.nests)
