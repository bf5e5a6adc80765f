use Rattle.std.proofs.Common.{◌≡◌, drop}
use Rattle.apply_plan.specs.Plans.{first_need}
use Rattle.apply_plan.proofs.planning.first_from.Given as goal

abbrev pub invariant-loop-i : goal.invariant-loop-i
invariant-loop-i g l =
    first_need (g.S.Store.history l.store).rows l.aim.0 l.tree (drop l.from l.navs)
    ≡ first_need (g.S.Store.history l.store).rows l.aim.0 l.tree (drop l.i l.navs)
