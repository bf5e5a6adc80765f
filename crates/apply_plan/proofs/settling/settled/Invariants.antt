use Rattle.std.proofs.Common.{◌≡◌, drop}
use Rattle.std.specs.List.{list_all}
use Rattle.apply_plan.specs.Order.{made_in}
use Rattle.apply_plan.specs.Standing.{stands_if_wanted, are_settled}
use Rattle.apply_plan.proofs.settling.settled.Given as goal

abbrev pub invariant-loop-i : goal.invariant-loop-i
invariant-loop-i g l =
    are_settled (g.S.Store.history l.store).rows l.aim.0 l.tree
    ≡ list_all (stands_if_wanted (g.S.Store.history l.store).rows l.aim.0 l.tree) (drop l.i (made_in l.tree))
