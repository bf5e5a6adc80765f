use Rattle.std.proofs.Common.{take}
use Rattle.tab_one_pass.proofs.noting.note_entries.Given as goal
use Rattle.tab_one_pass.specs.Noting.{AreNotedBy, entry_noting}

abbrev pub invariant-loop-i : goal.invariant-loop-i
invariant-loop-i l =
    AreNotedBy (entry_noting l.tables l.req) (take l.i l.all-inside.items.items) l.fn.blame.entries l.blame.entries
