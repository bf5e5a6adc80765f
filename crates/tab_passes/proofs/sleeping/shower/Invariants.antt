use Rattle.std.proofs.Common.{◌≡◌, drop, find}
use Rattle.apply_plan.specs.Order.{made_in}
use Rattle.tab_passes.specs.Sleepers.{wakes_on}
use Rattle.tab_passes.proofs.sleeping.shower.Given as goal

abbrev pub invariant-loop-i : goal.invariant-loop-i
invariant-loop-i l = find (wakes_on l.tree l.doc) (made_in l.tree) ≡ find (wakes_on l.tree l.doc) (drop l.i (made_in l.tree))
