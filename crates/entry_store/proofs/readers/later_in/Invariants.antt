use Rattle.std.proofs.Common.{◌≡◌, take, fold}
use Rattle.std.specs.Option.{option_copied}
use Rattle.entry_store.specs.Reading.{later_of}
use Rattle.entry_store.proofs.readers.later_in.Given as goal

abbrev pub invariant-loop-row : goal.invariant-loop-row
invariant-loop-row l = option_copied l.best ≡ fold (later_of l.nav l.s.0) (option_copied l.before) (take l.row-index l.rows)
