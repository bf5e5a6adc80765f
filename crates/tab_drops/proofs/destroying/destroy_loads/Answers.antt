use Rattle.std.proofs.Common.{List, ap, arith, length, ◌∙◌, ◌≤◌}
use Rattle.std.specs.Prelude.{slice_get}
use Rattle.tab_drops.proofs.Loops.{bare_asks, bare_end, bare_entries, bare_next, bare_only, bare_stand}
use Rattle.tab_drops.proofs.Spans.{drops_begin}
use Rattle.tab_drops.proofs.Turns.{loads_own}
use Rattle.tab_drops.proofs.destroying.destroy_loads.Goals as goal
use Rattle.tab_ids.specs.declared.NavId.{NavId}

pub loading-requires : goal.loading-requires
loading-requires g c = loads_own _ c.args.tables.now.loads c.requires.0.work.loads

pub loop-i-init : goal.loop-i-init
loop-i-init g c = drops_begin g.p _ _ c.args.tables.now c.args.out.now _ c.requires.0

pub destroy_if-requires : goal.destroy_if-requires
destroy_if-requires g c =
    bare_asks g.p c.args.out.now c.args.tables.now c.requires.0 c.navs.inside.items.items _ c.navs.view_is c.in_ok-navs.ensures c.loop-i.i c.loop-i.tables c.loop-i.out c.loop-i.invariant c.requires.1.0 c.requires.1.1

pub loop-i-preserved : goal.loop-i-preserved
loop-i-preserved g c =
    bare_next g.p c.args.out.now c.args.tables.now c.requires.0 c.navs.inside.items.items _ c.navs.view_is c.in_ok-navs.ensures c.loop-i.i c.loop-i.tables c.loop-i.out c.loop-i.invariant _ _ _ (ap (λ (l : List NavId). slice_get l c.loop-i.i) c.navs.view_is ∙ c.at.ensures) c.in_ok-destroy_if.ensures.turn c.in_ok-destroy_if.ensures.passing c.in_ok-destroy_if.ensures.kept

pub returns-clause-only : goal.returns-clause-only
returns-clause-only g c = bare_only g.p c.args.out.now c.args.tables.now c.requires.0 c.navs.inside.items.items _ c.navs.view_is c.in_ok-navs.ensures c.loop-i.i c.loop-i.tables c.loop-i.out c.loop-i.invariant

pub returns-clause-gone : goal.returns-clause-gone
returns-clause-gone g c =
    let long : length c.navs.inside.items.items ≤ c.loop-i.i =
    (let same = ap (λ (l : List NavId). length l) c.navs.view_is in let ends = c.len-i-end.ensures in let past = c.loop-i-test.false in omega (arith, same, ends, past)) in
    bare_end g.p c.args.out.now c.args.tables.now c.requires.0 c.navs.inside.items.items _ c.navs.view_is c.in_ok-navs.ensures c.loop-i.i c.loop-i.tables c.loop-i.out c.loop-i.invariant c.requires.1.1 long

pub returns-clause-entries : goal.returns-clause-entries
returns-clause-entries g c =
    let long : length c.navs.inside.items.items ≤ c.loop-i.i =
    (let same = ap (λ (l : List NavId). length l) c.navs.view_is in let ends = c.len-i-end.ensures in let past = c.loop-i-test.false in omega (arith, same, ends, past)) in
    bare_entries g.p c.args.out.now c.args.tables.now c.requires.0 c.navs.inside.items.items _ c.navs.view_is c.in_ok-navs.ensures c.loop-i.i c.loop-i.tables c.loop-i.out c.loop-i.invariant c.requires.1.1 long

pub returns-clause-loads : goal.returns-clause-loads
returns-clause-loads g c =
    let long : length c.navs.inside.items.items ≤ c.loop-i.i =
    (let same = ap (λ (l : List NavId). length l) c.navs.view_is in let ends = c.len-i-end.ensures in let past = c.loop-i-test.false in omega (arith, same, ends, past)) in
    bare_stand g.p c.args.out.now c.args.tables.now c.requires.0 c.navs.inside.items.items _ c.navs.view_is c.in_ok-navs.ensures c.loop-i.i c.loop-i.tables c.loop-i.out c.loop-i.invariant c.requires.1.1 long
