use Rattle.apply_plan.specs.Order.{made_in}
use Rattle.std.proofs.Common.{take}
use Rattle.tab_one_pass.proofs.noting.note_loads.Given as goal
use Rattle.tab_one_pass.specs.Noting.{AreNoted}

abbrev pub invariant-loop-i : goal.invariant-loop-i
invariant-loop-i l = AreNoted l.tables l.by (take l.i (made_in l.tables.tree)) l.fn.blame.entries l.blame.entries
