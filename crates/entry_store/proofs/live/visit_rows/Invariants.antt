use Rattle.std.proofs.Common.{◌≡◌, take, fold}
use Rattle.entry_store.specs.Nested.{visit}
use Rattle.entry_store.proofs.live.visit_rows.Given as goal

abbrev pub invariant-loop-row : goal.invariant-loop-row
invariant-loop-row l = l.states.keys ≡ fold (visit l.cut) l.fn.states.keys (take l.row-index l.rows)
