use mir.Syntax.{w32}
use mir.Val.{SFits}
use Rattle.std.proofs.Common.{ap, rules}
use Rattle.std.proofs.lemmas.Int.{to_z-of_z}
use Rattle.seen_facts.specs.Each.Runs.{is_this}
use Rattle.std.specs.Prelude.{Option}
use Rattle.tab_ids.specs.declared.ReqId.{ReqId}
use Rattle.tab_turns.proofs.Begins.{begin_due, begin_passing, begin_turning, has_begun, has_refused, refuse_due, refuse_passing, refuse_turning, to_goal, to_none}
use Rattle.tab_turns.proofs.beginning.begin_traversal.Goals as goal

pub refuse-requires : goal.refuse-requires
refuse-requires g c =
    let fits : SFits w32 c.args.delta = search rules in
    let nowhere = to_none _ _ _ c.requires.0.work c.args.delta _ (to_z-of_z w32 c.args.delta fits) _ c.goal_of.ensures c.in-None.is in
    (c.requires.0.work, (refuse_due g.p _ _ c.requires.0 c.requires.1.0 c.requires.1.1.0 _ _ c.requires.1.1.1.0 c.requires.1.1.1.1.0 nowhere, (ap (λ (o : Option ReqId). is_this o c.args.req) c.requires.1.1.0, c.requires.1.0.free)))

pub begin-requires : goal.begin-requires
begin-requires g c =
    let fits : SFits w32 c.args.delta = search rules in
    let there = to_goal _ _ _ c.requires.0.work c.args.delta _ (to_z-of_z w32 c.args.delta fits) _ c.goal_of.ensures _ c.in-Some.is in
    (c.requires.0.work, (c.requires.1.1.0, (begin_due g.p _ _ c.requires.0 c.requires.1.0 c.requires.1.1.0 _ _ c.requires.1.1.1.0 c.requires.1.1.1.1.0 _ there, (c.requires.1.1.1.1.1.1.1 _ there, c.requires.1.0.free))))

pub returns-in_ok-refuse-in-None-clause-passing : goal.returns-in_ok-refuse-in-None-clause-passing
returns-in_ok-refuse-in-None-clause-passing g c =
    let fits : SFits w32 c.args.delta = search rules in
    let nowhere = to_none _ _ _ c.requires.0.work c.args.delta _ (to_z-of_z w32 c.args.delta fits) _ c.goal_of.ensures c.in-None.is in
    refuse_passing g.p _ _ c.requires.0 c.requires.1.0 c.requires.1.1.0 _ _ c.requires.1.1.1.0 c.requires.1.1.1.1.0 nowhere _ _ c.in_ok-refuse-in-None.ensures.out c.in_ok-refuse-in-None.ensures.work c.in_ok-refuse-in-None.ensures.tables

pub returns-in_ok-refuse-in-None-clause-turning : goal.returns-in_ok-refuse-in-None-clause-turning
returns-in_ok-refuse-in-None-clause-turning g c =
    let fits : SFits w32 c.args.delta = search rules in
    let nowhere = to_none _ _ _ c.requires.0.work c.args.delta _ (to_z-of_z w32 c.args.delta fits) _ c.goal_of.ensures c.in-None.is in
    refuse_turning g.p _ _ c.requires.0 c.requires.1.0 c.requires.1.1.0 _ _ c.requires.1.1.1.0 c.requires.1.1.1.1.0 nowhere _ _ c.in_ok-refuse-in-None.ensures.out c.in_ok-refuse-in-None.ensures.work c.in_ok-refuse-in-None.ensures.tables

pub returns-in_ok-refuse-in-None-clause-gone : goal.returns-in_ok-refuse-in-None-clause-gone
returns-in_ok-refuse-in-None-clause-gone g c =
    let fits : SFits w32 c.args.delta = search rules in
    let nowhere = to_none _ _ _ c.requires.0.work c.args.delta _ (to_z-of_z w32 c.args.delta fits) _ c.goal_of.ensures c.in-None.is in
    has_refused g.p _ _ c.requires.0 c.requires.1.0 c.requires.1.1.0 _ _ c.requires.1.1.1.0 c.requires.1.1.1.1.0 nowhere _ _ c.in_ok-refuse-in-None.ensures.out c.in_ok-refuse-in-None.ensures.work c.in_ok-refuse-in-None.ensures.tables

pub returns-in_ok-begin-in-Some-clause-passing : goal.returns-in_ok-begin-in-Some-clause-passing
returns-in_ok-begin-in-Some-clause-passing g c =
    let fits : SFits w32 c.args.delta = search rules in
    let there = to_goal _ _ _ c.requires.0.work c.args.delta _ (to_z-of_z w32 c.args.delta fits) _ c.goal_of.ensures _ c.in-Some.is in
    begin_passing g.p _ _ c.requires.0 c.requires.1.0 c.requires.1.1.0 _ _ c.requires.1.1.1.0 c.requires.1.1.1.1.0 _ there _ _ c.in_ok-begin-in-Some.ensures.out c.in_ok-begin-in-Some.ensures.work c.in_ok-begin-in-Some.ensures.tables (c.requires.1.1.1.1.1.1.1 _ there) c.requires.1.1.1.1.1.0 c.requires.1.1.1.1.1.1.0

pub returns-in_ok-begin-in-Some-clause-turning : goal.returns-in_ok-begin-in-Some-clause-turning
returns-in_ok-begin-in-Some-clause-turning g c =
    let fits : SFits w32 c.args.delta = search rules in
    let there = to_goal _ _ _ c.requires.0.work c.args.delta _ (to_z-of_z w32 c.args.delta fits) _ c.goal_of.ensures _ c.in-Some.is in
    begin_turning g.p _ _ c.requires.0 c.requires.1.0 c.requires.1.1.0 _ _ c.requires.1.1.1.0 c.requires.1.1.1.1.0 _ there _ _ c.in_ok-begin-in-Some.ensures.out c.in_ok-begin-in-Some.ensures.work c.in_ok-begin-in-Some.ensures.tables

pub returns-in_ok-begin-in-Some-clause-gone : goal.returns-in_ok-begin-in-Some-clause-gone
returns-in_ok-begin-in-Some-clause-gone g c =
    let fits : SFits w32 c.args.delta = search rules in
    let there = to_goal _ _ _ c.requires.0.work c.args.delta _ (to_z-of_z w32 c.args.delta fits) _ c.goal_of.ensures _ c.in-Some.is in
    has_begun g.p _ _ c.requires.0 c.requires.1.0 c.requires.1.1.0 _ _ c.requires.1.1.1.0 c.requires.1.1.1.1.0 _ there _ _ c.in_ok-begin-in-Some.ensures.out c.in_ok-begin-in-Some.ensures.work c.in_ok-begin-in-Some.ensures.tables
