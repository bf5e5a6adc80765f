use Rattle.std.proofs.Common.{◌≡◌, take, fold}
use Rattle.entry_store.specs.Nested.{rows_of}
use Rattle.entry_store.specs.Reading.{used_upto}
use Rattle.entry_store.proofs.readers.used_step_in.Given as goal

abbrev pub invariant-loop-nest : goal.invariant-loop-nest
invariant-loop-nest l = l.best ≡ fold (used_upto l.s.0) 0 (rows_of (take l.nest-index l.nests))
