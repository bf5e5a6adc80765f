use Rattle.std.proofs.Common.{◌≡◌, ◌-◌, Some, length}
use Rattle.apply_plan.specs.Reaches.{is_reached_within}
use Rattle.apply_plan.proofs.reach.is_below_top.Given as goal

abbrev pub invariant-loop-up : goal.invariant-loop-up
invariant-loop-up g l =
    is_reached_within (length l.tree.navs) l.reach (g.S.Store.history l.store).rows l.step.0 l.tree (Some l.fn.nav)
    ≡ is_reached_within (length l.tree.navs - l.up) l.reach (g.S.Store.history l.store).rows l.step.0 l.tree (Some l.at)
