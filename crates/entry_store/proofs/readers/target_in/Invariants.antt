use Rattle.std.proofs.Common.{◌≡◌, take, fold, None}
use Rattle.std.specs.Option.{option_copied}
use Rattle.entry_store.specs.Nested.{rows_of}
use Rattle.entry_store.specs.Reading.{later_of}
use Rattle.entry_store.proofs.readers.target_in.Given as goal

abbrev pub invariant-loop-nest : goal.invariant-loop-nest
invariant-loop-nest l = option_copied l.best ≡ fold (later_of l.nav l.s.0) None (rows_of (take l.nest-index l.nests))
