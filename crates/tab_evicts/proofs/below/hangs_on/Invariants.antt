use Rattle.apply_plan.specs.Order.{rest}
use Rattle.std.proofs.Common.{length, ◌-◌, ◌∷◌, ◌≡◌}
use Rattle.tab_evicts.proofs.below.hangs_on.Given as goal
use Rattle.tab_evicts.specs.Evicting.{any_owned_by, hangs_in}

abbrev pub invariant-loop-i : goal.invariant-loop-i
invariant-loop-i l = hangs_in l.tree l.state l.fn.nav ≡ any_owned_by l.tree l.state (l.at.0 ∷ rest (length l.tree.navs - l.i) l.tree l.at)
