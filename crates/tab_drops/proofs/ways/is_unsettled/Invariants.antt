use Rattle.apply_plan.specs.Order.{rest}
use Rattle.std.proofs.Common.{length, ◌-◌, ◌∷◌, ◌≡◌}
use Rattle.tab_drops.proofs.ways.is_unsettled.Given as goal
use Rattle.tab_drops.specs.Ways.{any_needing_in, is_unsettled_in}

abbrev pub invariant-loop-i : goal.invariant-loop-i
invariant-loop-i l = is_unsettled_in l.tables l.fn.nav ≡ any_needing_in l.tables (l.at.0 ∷ rest (length l.tables.tree.navs - l.i) l.tables.tree l.at)
