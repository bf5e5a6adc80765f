use Rattle.std.proofs.Common.{◌≡◌, take, fold}
use Rattle.entry_store.specs.Nested.{with_step_of}
use Rattle.entry_store.proofs.steps.note_rows.Given as goal

abbrev pub invariant-loop-row : goal.invariant-loop-row
invariant-loop-row l = l.steps.keys ≡ fold (with_step_of l.cut l.states.keys) l.fn.steps.keys (take l.row-index l.rows)
