use Rattle.std.proofs.Common.{ap, length, ◌∙◌, ◌≤◌, arith}
use Rattle.std.specs.Prelude.{List, slice_get}
use Rattle.tab_ids.specs.declared.NavId.{NavId}
use Rattle.tab_passes.proofs.Tells.{tell_begins, tell_goes_on, tell_ends}
use Rattle.tab_passes.proofs.telling.tell_all.Goals as goal

pub loop-i-init : goal.loop-i-init
loop-i-init g c = tell_begins g.p _ _ _ _ c.requires (c.navs.view_is ∙ c.in_ok-navs.ensures)

pub loop-i-preserved : goal.loop-i-preserved
loop-i-preserved g c =
    tell_goes_on g.p _ _ _ _ _ _ _ _ _ _ c.loop-i.invariant (ap (λ (l : List NavId). slice_get l c.loop-i.i) c.navs.view_is ∙ c.at.ensures) c.in_ok-tell_one.ensures.passing c.in_ok-tell_one.ensures.told c.in_ok-tell_one.ensures.kept c.in_ok-tell_one.ensures.only

pub returns-clause-told : goal.returns-clause-told
returns-clause-told g c =
    let long : length c.navs.inside.items.items ≤ c.loop-i.i =
    (let same = ap (λ (l : List NavId). length l) c.navs.view_is in let ends = c.len-i-end.ensures in let past = c.loop-i-test.false in omega (arith, same, ends, past)) in
    tell_ends g.p _ _ _ _ _ _ _ c.loop-i.invariant long
