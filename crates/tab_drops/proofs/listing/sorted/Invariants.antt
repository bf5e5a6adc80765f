use Rattle.apply_plan.specs.Order.{made_in}
use Rattle.std.proofs.Common.{take}
use Rattle.tab_drops.proofs.listing.sorted.Given as goal
use Rattle.tab_drops.specs.Listing.{AreUnder}

abbrev pub invariant-loop-i : goal.invariant-loop-i
invariant-loop-i l = AreUnder l.loads (take l.i (made_in l.tree)) l.sorted.entries
