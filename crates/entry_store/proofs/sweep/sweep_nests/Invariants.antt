use Rattle.std.proofs.Common.{◌≡◌, take, drop, filter}
use Rattle.entry_store.specs.Nested.{rows_of, stays}
use Rattle.entry_store.proofs.sweep.sweep_nests.Given as goal

abbrev pub invariant-loop-nest : goal.invariant-loop-nest
invariant-loop-nest l = record {
  swept : rows_of (take l.nest-index l.nests) ≡ filter (stays l.cut l.states.keys) (rows_of (take l.nest-index l.fn.nests));
  rest : drop l.nest-index l.nests ≡ drop l.nest-index l.fn.nests;
}
