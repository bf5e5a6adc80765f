use Rattle.std.proofs.Common.{◌≡◌, take, fold}
use Rattle.entry_store.specs.Nested.{visit, rows_of}
use Rattle.entry_store.proofs.live.visit_nests.Given as goal

abbrev pub invariant-loop-nest : goal.invariant-loop-nest
invariant-loop-nest l = l.states.keys ≡ fold (visit l.cut) l.fn.states.keys (rows_of (take l.nest-index l.nests))
