use Rattle.seen_laws.specs.InEvent.{now_of}
use Rattle.std.proofs.Common.{ap, refl, subst, sym, ◌∙◌}
use Rattle.tab_ids.specs.declared.NavId.{NavId}
use Rattle.tab_moves.specs.Moving.{IsToLeave}
use Rattle.tab_moves.proofs.PassedOn.{only_none}
use Rattle.tab_walk.proofs.Offs.{asleep_off, left_off, may_own, to_leave}
use Rattle.tab_walk.proofs.Puts.{frozen_left}
use Rattle.tab_walk.proofs.leaving.set_off.Goals as goal
use Rattle.tab_walk.specs.Moving.{is_up_in, move_of}

pub freeze_left-requires : goal.freeze_left-requires
freeze_left-requires g c =
    (c.requires.0, (c.requires.1.0.its, (refl, (subst (λ (n : NavId). IsToLeave (record { pass = g.m.pass; move = move_of g.m; cause = g.m.cause }) c.args.tables.now.running (now_of g.m.pass.event c.args.out.now) n c.args.left c.args.why) c.requires.1.0.its (to_leave g.m c.args.out.now c.args.tables.now c.requires.0 c.args.left c.args.why (may_own g.m c.args.out.now c.args.tables.now c.requires.0 c.args.nav c.args.left c.args.why c.requires.1.0) (ap (λ (n : NavId). is_up_in c.args.tables.now.tree n) c.requires.1.0.its ∙ sym c.is_up.ensures ∙ c.if-is_up.true)), c.requires.1.1))))

pub returns-in_ok-freeze_left-clause-off : goal.returns-in_ok-freeze_left-clause-off
returns-in_ok-freeze_left-clause-off g c =
    (left_off g.m c.args.out.now c.args.tables.now c.requires.0 c.args.nav c.args.left c.args.why c.requires.1.0 _ _ _ c.in_ok-freeze_left.ensures.kept c.in_ok-freeze_left.ensures.leaving c.in_ok-freeze_left.ensures.only c.in_ok-freeze_left.ensures.left).0

pub returns-in_ok-freeze_left-clause-part : goal.returns-in_ok-freeze_left-clause-part
returns-in_ok-freeze_left-clause-part g c =
    (left_off g.m c.args.out.now c.args.tables.now c.requires.0 c.args.nav c.args.left c.args.why c.requires.1.0 _ _ _ c.in_ok-freeze_left.ensures.kept c.in_ok-freeze_left.ensures.leaving c.in_ok-freeze_left.ensures.only c.in_ok-freeze_left.ensures.left).1

pub returns-else-is_up-clause-off : goal.returns-else-is_up-clause-off
returns-else-is_up-clause-off g c =
    asleep_off g.m c.args.out.now c.args.tables.now c.requires.0 c.args.left c.args.why (may_own g.m c.args.out.now c.args.tables.now c.requires.0 c.args.nav c.args.left c.args.why c.requires.1.0) (ap (λ (n : NavId). is_up_in c.args.tables.now.tree n) c.requires.1.0.its ∙ sym c.is_up.ensures ∙ c.if-is_up.false)

pub returns-in_ok-freeze_left-clause-left : goal.returns-in_ok-freeze_left-clause-left
returns-in_ok-freeze_left-clause-left g c = frozen_left _ _ _ _ c.in_ok-freeze_left.ensures.only

pub returns-else-is_up-clause-left : goal.returns-else-is_up-clause-left
returns-else-is_up-clause-left g c = only_none _ _
