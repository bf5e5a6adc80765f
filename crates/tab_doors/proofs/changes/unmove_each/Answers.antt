use Rattle.std.proofs.Common.{◌≡◌, ◌∙◌, ap, length, take, arith}
use Rattle.nav_tree.specs.Tree.{Tree}
use Rattle.apply_plan.specs.Order.{made_in}
use Rattle.tab_doors.proofs.Unmoving.{same_length}
use Rattle.tab_doors.proofs.changes.unmove_each.Goals as goal

pub at-nav-requires : goal.at-nav-requires
at-nav-requires c =
    let same : length c.loop-i.tree.navs ≡ length c.args.tree.now.navs = ap (λ (t : Tree). length t.navs) c.loop-i.invariant ∙ same_length (take c.loop-i.i (made_in c.args.tree.now)) c.args.tree.now in
    omega (arith, same, c.loop-i-test.true, c.len-i-end.ensures)
