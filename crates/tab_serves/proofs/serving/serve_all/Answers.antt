use Rattle.std.proofs.Common.{ap, arith, length, subst, sym, ◌+◌, ◌<◌, ◌∙◌, ◌≤◌}
use Rattle.std.specs.Prelude.{List}
use Rattle.tab_ids.specs.declared.NavId.{NavId}
use Rattle.tab_serves.proofs.Rounds.{serve_begins, serve_ends, serve_goes_on}
use Rattle.tab_serves.proofs.serving.serve_all.Goals as goal
use Rattle.tab_serves.specs.Serving.{IsWalking, walk_by}

pub loop-i-init : goal.loop-i-init
loop-i-init g c = serve_begins g.p c.args.cause _ _ _ c.requires.0 c.requires.1.1 (c.navs.view_is ∙ c.in_ok-navs.ensures)

pub serve_one-requires : goal.serve_one-requires
serve_one-requires g c = (
  subst (λ (l : List NavId). IsWalking (walk_by g.p c.args.cause l) c.loop-i.i c.loop-i.out c.loop-i.tables) c.navs.view_is c.loop-i.invariant.walking,
  (
    (let low : c.loop-i.i < length c.in_ok-navs.navs = (let test = c.loop-i-test.true in let ends = c.len-i-end.ensures in omega (arith, test, ends)) in low),
    c.requires.1.0,
  ),
)

pub loop-i-preserved : goal.loop-i-preserved
loop-i-preserved g c =
    serve_goes_on g.p _ _ _ _ _ _ _ _ _ c.loop-i.invariant
    (subst (λ (l : List NavId). IsWalking (walk_by g.p c.args.cause l) (c.loop-i.i + 1) c.serve_one.new.out c.serve_one.new.tables) (sym c.navs.view_is) c.in_ok-serve_one.ensures.walking) c.in_ok-serve_one.ensures.left c.in_ok-serve_one.ensures.only c.in_ok-serve_one.ensures.quiet c.in_ok-serve_one.ensures.kept

pub returns-clause-served : goal.returns-clause-served
returns-clause-served g c =
    let long : length c.navs.inside.items.items ≤ c.loop-i.i =
    (let same = ap (λ (l : List NavId). length l) c.navs.view_is in let ends = c.len-i-end.ensures in let past = c.loop-i-test.false in omega (arith, same, ends, past)) in
    serve_ends g.p _ _ _ _ _ _ _ c.loop-i.invariant long
