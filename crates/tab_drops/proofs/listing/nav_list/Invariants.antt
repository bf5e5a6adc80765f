use Rattle.std.proofs.Common.{◌≡◌}
use Rattle.tab_drops.proofs.listing.nav_list.Given as goal

abbrev pub invariant-loop-nav : goal.invariant-loop-nav
invariant-loop-nav l = l.navs ≡ l.yielded
