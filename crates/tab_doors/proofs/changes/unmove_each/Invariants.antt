use Rattle.std.proofs.Common.{◌≡◌, take}
use Rattle.apply_plan.specs.Order.{made_in}
use Rattle.tab_doors.specs.Ending.{unmove_all}
use Rattle.tab_doors.proofs.changes.unmove_each.Given as goal

abbrev pub invariant-loop-i : goal.invariant-loop-i
invariant-loop-i l = l.tree ≡ unmove_all (take l.i (made_in l.fn.tree)) l.fn.tree
