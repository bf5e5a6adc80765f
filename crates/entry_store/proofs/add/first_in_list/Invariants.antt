use Rattle.std.proofs.Common.{◌≡◌, take, fold}
use Rattle.entry_store.specs.Reading.{first_of}
use Rattle.entry_store.proofs.add.first_in_list.Given as goal

abbrev pub invariant-loop-row : goal.invariant-loop-row
invariant-loop-row l = l.best ≡ fold (first_of l.state) l.fn.before (take l.row-index l.rows)
