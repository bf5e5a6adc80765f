use Rattle.std.proofs.Common.{◌≡◌, take}
use Rattle.tab_doors.specs.Ending.{destroy_all}
use Rattle.tab_doors.proofs.changes.destroy_each.Given as goal

abbrev pub invariant-loop-i : goal.invariant-loop-i
invariant-loop-i l = l.tree ≡ destroy_all (take l.i l.navs) l.by l.fn.tree
