use Rattle.std.proofs.Common.{◌≡◌, ◌-◌, length}
use Rattle.apply_plan.specs.Order.{rest}
use Rattle.tab_passes.specs.Sleepers.{is_below_in}
use Rattle.tab_passes.proofs.Sleeps.{has_number}
use Rattle.tab_passes.proofs.sleeping.is_below.Given as goal

abbrev pub invariant-loop-i : goal.invariant-loop-i
invariant-loop-i l = is_below_in l.tree l.top l.fn.nav ≡ has_number l.top (rest (length l.tree.navs - l.i) l.tree l.at)
