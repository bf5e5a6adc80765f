use Rattle.std.proofs.Common.{◌≡◌, take, fold}
use Rattle.entry_store.specs.Nested.{with_step_of, rows_of}
use Rattle.entry_store.proofs.steps.note_nests.Given as goal

abbrev pub invariant-loop-nest : goal.invariant-loop-nest
invariant-loop-nest l = l.steps.keys ≡ fold (with_step_of l.cut l.states.keys) l.fn.steps.keys (rows_of (take l.nest-index l.nests))
