use Rattle.std.proofs.Common.{◌≡◌, drop}
use Rattle.apply_plan.specs.Plans.{rest_after}
use Rattle.apply_plan.proofs.planning.place_after.Given as goal

abbrev pub invariant-loop-i : goal.invariant-loop-i
invariant-loop-i l = rest_after l.last l.navs ≡ rest_after l.last (drop l.i l.navs)
