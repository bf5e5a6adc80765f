use Rattle.std.proofs.Common.{◌≡◌, ◌++◌, drop, filter}
use Rattle.apply_plan.specs.Order.{made_in}
use Rattle.tab_passes.specs.Sleepers.{falls_below}
use Rattle.tab_passes.proofs.sleeping.push_below.Given as goal

abbrev pub invariant-loop-i : goal.invariant-loop-i
invariant-loop-i l =
    l.fn.navs ++ filter (falls_below l.tree l.top) (made_in l.tree) ≡ l.navs ++ filter (falls_below l.tree l.top) (drop l.i (made_in l.tree))
