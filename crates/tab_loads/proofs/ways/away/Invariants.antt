use Rattle.std.proofs.Common.{length, ◌-◌, ◌≡◌}
use Rattle.tab_loads.proofs.Aways.{away_within}
use Rattle.tab_loads.proofs.ways.away.Given as goal
use Rattle.tab_loads.specs.Telling.{away_in}

abbrev pub invariant-loop-i : goal.invariant-loop-i
invariant-loop-i l = away_in l.tables l.fn.nav ≡ away_within (length l.tables.tree.navs - l.i) l.tables l.found l.at
