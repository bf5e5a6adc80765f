use Rattle.std.proofs.Common.{◌≡◌, take, fold}
use Rattle.entry_store.specs.Reading.{child_of}
use Rattle.step_index.proofs.listing.note_children.Given as goal

abbrev pub invariant-loop-row : goal.invariant-loop-row
invariant-loop-row l = l.numbers.keys ≡ fold (child_of l.state) l.fn.numbers.keys (take l.row-index l.rows)
