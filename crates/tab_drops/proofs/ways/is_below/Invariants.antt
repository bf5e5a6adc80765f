use Rattle.apply_plan.specs.Order.{rest}
use Rattle.std.proofs.Common.{length, ◌-◌, ◌≡◌}
use Rattle.tab_drops.proofs.ways.is_below.Given as goal
use Rattle.tab_moves.proofs.PassedOn.{has_number}
use Rattle.tab_moves.specs.PassedOn.{is_below_in}

abbrev pub invariant-loop-i : goal.invariant-loop-i
invariant-loop-i l = is_below_in l.tree l.top l.fn.nav ≡ has_number l.top (rest (length l.tree.navs - l.i) l.tree l.at)
