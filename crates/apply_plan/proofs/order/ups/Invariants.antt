use Rattle.std.proofs.Common.{◌≡◌, ◌-◌, ◌++◌, ◌∷◌, length}
use Rattle.apply_plan.specs.Order.{rest}
use Rattle.apply_plan.proofs.order.ups.Given as goal

abbrev pub invariant-loop-up : goal.invariant-loop-up
invariant-loop-up l = l.fn.nav.0 ∷ rest (length l.tree.navs) l.tree l.fn.nav ≡ l.way.items ++ rest (length l.tree.navs - l.up) l.tree l.at
