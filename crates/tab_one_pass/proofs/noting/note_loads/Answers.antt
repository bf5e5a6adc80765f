use Rattle.apply_plan.specs.Order.{made_in}
use Rattle.std.proofs.Common.{arith, length, ◌≡◌, ◌≤◌}
use Rattle.std.proofs.lemmas.Bool.Decides.{nat_tests}
use Rattle.std.proofs.lemmas.List.{length-map}
use Rattle.tab_drops.proofs.Sortings.{made_get}
use Rattle.tab_one_pass.proofs.Notings.{noted_all, noted_next, noted_none}
use Rattle.tab_one_pass.proofs.noting.note_loads.Goals as goal
use Rattle.tab_one_pass.specs.Noting.{noting_in}

pub loop-i-init : goal.loop-i-init
loop-i-init c = noted_none (noting_in c.args.tables.now c.args.by) (made_in c.args.tables.now.tree) _

pub loop-i-preserved : goal.loop-i-preserved
loop-i-preserved c =
    noted_next (noting_in c.args.tables.now c.args.by) (made_in c.args.tables.now.tree) c.loop-i.i _ _ _ _ (made_get c.args.tables.now.tree c.loop-i.i _ c.at.ensures) c.loop-i.invariant c.in_ok-note.ensures

pub returns : goal.returns
returns c =
    let test = c.loop-i-test.false in
    let len = c.len-i-end.ensures in
    let long : length (made_in c.args.tables.now.tree) ≡ length c.args.tables.now.tree.navs = length-map c.args.tables.now.tree.navs (λ e. e.0) in
    noted_all (noting_in c.args.tables.now c.args.by) (made_in c.args.tables.now.tree) c.loop-i.i _ _ (let past : length (made_in c.args.tables.now.tree) ≤ c.loop-i.i = grind (arith, nat_tests, test, len, long) in past) c.loop-i.invariant
