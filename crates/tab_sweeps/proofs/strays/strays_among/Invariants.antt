use Rattle.std.proofs.Common.{◌≡◌, ◌++◌, drop, filter}
use Rattle.tab_sweeps.proofs.strays.strays_among.Given as goal
use Rattle.tab_sweeps.specs.Sweeping.{is_stray_in}

abbrev pub invariant-loop-i : goal.invariant-loop-i
invariant-loop-i l = filter (is_stray_in l.tables) l.docs ≡ l.strays ++ filter (is_stray_in l.tables) (drop l.i l.docs)
