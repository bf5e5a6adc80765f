use Rattle.apply_plan.specs.declared.need.Need.{Need}
use Rattle.std.proofs.Common.{Some, ap, refl, sym, ◌∙◌}
use Rattle.tab_serves.proofs.Rounds.{made_quiet, made_served, made_since, moved_served}
use Rattle.tab_serves.proofs.Turns.{idle_left, idle_walking, made_left, make_own, may_move, move_own, move_quiet, moved_left, turn_walking}
use Rattle.tab_serves.proofs.serving.serve_one.Goals as goal
use Rattle.tab_serves.specs.Serving.{walk_by}
use Rattle.tab_walk.proofs.PassedOn.{only_none}

pub move_to-requires : goal.move_to-requires
move_to-requires g c =
    let need = sym c.need_at.ensures ∙ c.in-Some.is ∙ ap (λ (n : Need). Some n) c.in-Move.is in
    (c.requires.0.passing, (c.requires.1.1, (move_own (walk_by g.p c.args.cause c.args.navs.now) c.args.i c.args.out.now c.args.tables.now c.requires.0 c.at-nav.result.now c.at-nav.ensures _ _ need, (may_move (walk_by g.p c.args.cause c.args.navs.now) c.args.i c.args.out.now c.args.tables.now c.requires.0 c.at-nav.result.now c.at-nav.ensures _ need c.args.cause refl, c.requires.0.off))))

pub make_target-requires : goal.make_target-requires
make_target-requires g c =
    (c.requires.0.passing, (c.requires.1.1, (c.requires.0.may, make_own (walk_by g.p c.args.cause c.args.navs.now) c.args.i c.args.out.now c.args.tables.now c.requires.0 c.at-nav.result.now c.at-nav.ensures _ _ (sym c.need_at.ensures ∙ c.in-Some.is ∙ ap (λ (n : Need). Some n) c.in-Populate.is))))

pub returns-in-None-clause-walking : goal.returns-in-None-clause-walking
returns-in-None-clause-walking g c =
    idle_walking (walk_by g.p c.args.cause c.args.navs.now) c.args.i c.args.out.now c.args.tables.now c.requires.0 c.at-nav.result.now c.at-nav.ensures (sym c.need_at.ensures ∙ c.in-None.is)

pub returns-in-None-clause-left : goal.returns-in-None-clause-left
returns-in-None-clause-left g c =
    idle_left (walk_by g.p c.args.cause c.args.navs.now) c.args.i c.args.out.now c.args.tables.now c.requires.0 c.at-nav.result.now c.at-nav.ensures

pub returns-in-None-clause-only : goal.returns-in-None-clause-only
returns-in-None-clause-only g c = only_none _ _

pub returns-in_ok-move_to-in-Move-clause-walking : goal.returns-in_ok-move_to-in-Move-clause-walking
returns-in_ok-move_to-in-Move-clause-walking g c =
    turn_walking (walk_by g.p c.args.cause c.args.navs.now) c.args.i c.args.out.now c.args.tables.now c.requires.0 c.at-nav.result.now c.at-nav.ensures _ (sym c.need_at.ensures ∙ c.in-Some.is) _ _ c.in_ok-move_to-in-Move.ensures.passing c.in_ok-move_to-in-Move.ensures.turn c.in_ok-move_to-in-Move.ensures.wakes (moved_served _ _ _ _ c.in_ok-move_to-in-Move.ensures.only) c.in_ok-move_to-in-Move.ensures.kept c.in_ok-move_to-in-Move.ensures.off

pub returns-in_ok-move_to-in-Move-clause-left : goal.returns-in_ok-move_to-in-Move-clause-left
returns-in_ok-move_to-in-Move-clause-left g c =
    moved_left (walk_by g.p c.args.cause c.args.navs.now) c.args.i c.args.out.now c.args.tables.now c.requires.0 c.at-nav.result.now c.at-nav.ensures _ (sym c.need_at.ensures ∙ c.in-Some.is) _ _ c.in_ok-move_to-in-Move.ensures.passing c.in_ok-move_to-in-Move.ensures.turn c.in_ok-move_to-in-Move.ensures.wakes (moved_served _ _ _ _ c.in_ok-move_to-in-Move.ensures.only) c.in_ok-move_to-in-Move.ensures.kept c.in_ok-move_to-in-Move.ensures.moved

pub returns-in_ok-move_to-in-Move-clause-only : goal.returns-in_ok-move_to-in-Move-clause-only
returns-in_ok-move_to-in-Move-clause-only g c = moved_served _ _ _ _ c.in_ok-move_to-in-Move.ensures.only

pub returns-in_ok-make_target-in-Populate-clause-walking : goal.returns-in_ok-make_target-in-Populate-clause-walking
returns-in_ok-make_target-in-Populate-clause-walking g c =
    turn_walking (walk_by g.p c.args.cause c.args.navs.now) c.args.i c.args.out.now c.args.tables.now c.requires.0 c.at-nav.result.now c.at-nav.ensures _ (sym c.need_at.ensures ∙ c.in-Some.is) _ _ c.in_ok-make_target-in-Populate.ensures.passing c.in_ok-make_target-in-Populate.ensures.turn (made_since _ _ _ _ _ g.p.event _ _ c.in_ok-make_target-in-Populate.ensures.made) (made_served _ _ _ _ _ _ _ c.in_ok-make_target-in-Populate.ensures.made) c.in_ok-make_target-in-Populate.ensures.kept (c.in_ok-make_target-in-Populate.ensures.off _ c.requires.0.off)

pub returns-in_ok-make_target-in-Populate-clause-left : goal.returns-in_ok-make_target-in-Populate-clause-left
returns-in_ok-make_target-in-Populate-clause-left g c =
    made_left (walk_by g.p c.args.cause c.args.navs.now) c.args.i c.args.out.now c.args.tables.now c.requires.0 c.at-nav.result.now c.at-nav.ensures _ (sym c.need_at.ensures ∙ c.in-Some.is) _ _ c.in_ok-make_target-in-Populate.ensures.passing c.in_ok-make_target-in-Populate.ensures.turn (made_since _ _ _ _ _ g.p.event _ _ c.in_ok-make_target-in-Populate.ensures.made) (made_served _ _ _ _ _ _ _ c.in_ok-make_target-in-Populate.ensures.made) c.in_ok-make_target-in-Populate.ensures.kept _ _ _ c.in_ok-make_target-in-Populate.ensures.made

pub returns-in_ok-make_target-in-Populate-clause-only : goal.returns-in_ok-make_target-in-Populate-clause-only
returns-in_ok-make_target-in-Populate-clause-only g c = made_served _ _ _ _ _ _ _ c.in_ok-make_target-in-Populate.ensures.made

pub returns-in_ok-move_to-in-Move-clause-quiet : goal.returns-in_ok-move_to-in-Move-clause-quiet
returns-in_ok-move_to-in-Move-clause-quiet g c =
    move_quiet (walk_by g.p c.args.cause c.args.navs.now) c.args.i c.args.out.now c.args.tables.now c.requires.0 c.at-nav.result.now c.at-nav.ensures _ (sym c.need_at.ensures ∙ c.in-Some.is) _ c.in_ok-move_to-in-Move.ensures.moved

pub returns-in_ok-make_target-in-Populate-clause-quiet : goal.returns-in_ok-make_target-in-Populate-clause-quiet
returns-in_ok-make_target-in-Populate-clause-quiet g c = made_quiet _ _ _ _ _ g.p.event _ _ c.in_ok-make_target-in-Populate.ensures.made

pub returns-in-None-clause-quiet : goal.returns-in-None-clause-quiet
returns-in-None-clause-quiet g c = λ held. only_none _ _
