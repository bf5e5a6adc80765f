use Rattle.std.proofs.Common.{◌≡◌, take, fold, None}
use Rattle.entry_store.specs.Nested.{rows_of}
use Rattle.entry_store.specs.Reading.{first_of}
use Rattle.entry_store.proofs.add.first_step_in.Given as goal

abbrev pub invariant-loop-nest : goal.invariant-loop-nest
invariant-loop-nest l = l.best ≡ fold (first_of l.state) None (rows_of (take l.nest-index l.nests))
