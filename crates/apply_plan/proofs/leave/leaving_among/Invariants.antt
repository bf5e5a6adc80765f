use Rattle.std.proofs.Common.{◌≡◌, ◌++◌, drop, filter_map}
use Rattle.apply_plan.specs.Leaving.{leaving_of}
use Rattle.apply_plan.proofs.leave.leaving_among.Given as goal

abbrev pub invariant-loop-i : goal.invariant-loop-i
invariant-loop-i g l =
    filter_map (leaving_of (g.S.Store.history l.store).rows l.goal.0 l.tree) l.navs
    ≡ l.docs ++ filter_map (leaving_of (g.S.Store.history l.store).rows l.goal.0 l.tree) (drop l.i l.navs)
