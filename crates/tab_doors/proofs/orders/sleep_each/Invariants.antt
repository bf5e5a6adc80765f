use Rattle.std.proofs.Common.{◌≡◌, take}
use Rattle.tab_doors.proofs.orders.sleep_each.Given as goal
use Rattle.tab_doors.specs.Sleeping.{sleep_all}

abbrev pub invariant-loop-i : goal.invariant-loop-i
invariant-loop-i l = l.tree ≡ sleep_all (take l.i l.navs) l.why l.moves l.fn.tree
