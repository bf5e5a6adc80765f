use Rattle.std.proofs.Common.{◌≡◌, ◌++◌, drop, filter_map}
use Rattle.tab_passes.specs.Sleepers.{doc_below}
use Rattle.tab_passes.proofs.below.docs_among.Given as goal

abbrev pub invariant-loop-i : goal.invariant-loop-i
invariant-loop-i l = filter_map (doc_below l.tree l.top) l.navs ≡ l.docs ++ filter_map (doc_below l.tree l.top) (drop l.i l.navs)
