use Rattle.std.proofs.Common.{◌≡◌, ◌-◌, drop, length}
use Rattle.apply_plan.specs.Order.{keyed, sorted_in, made_in}
use Rattle.apply_plan.proofs.order.sorted.Given as goal

abbrev pub invariant-loop-i : goal.invariant-loop-i
invariant-loop-i l = keyed l.sorted.entries ≡ sorted_in l.tree (drop (length l.tree.navs - l.i) (made_in l.tree))
