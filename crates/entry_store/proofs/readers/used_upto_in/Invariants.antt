use Rattle.std.proofs.Common.{◌≡◌, take, fold}
use Rattle.entry_store.specs.Reading.{used_upto}
use Rattle.entry_store.proofs.readers.used_upto_in.Given as goal

abbrev pub invariant-loop-row : goal.invariant-loop-row
invariant-loop-row l = l.best ≡ fold (used_upto l.s.0) l.before (take l.row-index l.rows)
