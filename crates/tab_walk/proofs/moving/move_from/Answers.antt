use Rattle.seen_facts.specs.Kept.Keeping.{kept_states}
use Rattle.page_cache.specs.Kept.{left_first}
use Rattle.seen_laws.specs.InEvent.{now_of}
use Rattle.std.proofs.Common.{List, Option, Some, [], ap, drop, subst, sym, ◌∙◌, ◌≡◌}
use Rattle.tab_ids.specs.declared.ReqId.{ReqId}
use Rattle.tab_ids.specs.declared.StateId.{StateId}
use Rattle.tab_moves.specs.Making.{show_why}
use Rattle.tab_moves.specs.Moving.{AreLeftUnder}
use Rattle.tab_moves.specs.PassedOn.{IsLeaving}
use Rattle.tab_walk.proofs.OffTurns.{left_rows, moved_rows, off_left}
use Rattle.tab_walk.specs.Cutting.{OffAreLeft}
use Rattle.tab_walk.proofs.Froms.{off_ready, part_named, part_turn, room_ready}
use Rattle.tab_walk.proofs.Offs.{part_then}
use Rattle.tab_walk.proofs.Puts.{left_then_left, moved_as, moved_for, woken_as}
use Rattle.tab_walk.proofs.moving.move_from.Goals as goal
use Rattle.tab_walk.specs.Moving.{InMove, move_of}
use Rattle.log_model.specs.declared.job.Why.{Why}

pub set_off-requires : goal.set_off-requires
set_off-requires g c = (
  subst (λ (x : InMove). IsLeaving g.m.pass (Some (move_of x)) [] c.args.out.now c.begin_move.new.tables) c.requires.0 c.in_ok-gone.ensures.leaving,
  (
    off_ready g.m c.args.nav c.args.cause c.args.doc c.args.entry c.args.left c.args.old c.requires.0 c.args.tables.now.running _ c.in_ok-gone.ensures.kept.running _ c.show_why-why.ensures _ _ c.args.state c.requires.1.1.0,
    subst (λ (w : Why). AreLeftUnder g.m.pass.event c.args.out.now c.args.nav w) (sym (c.show_why-why.ensures ∙ ap (λ (r : Option ReqId). show_why r c.args.cause) c.in_ok-gone.ensures.kept.running)) c.requires.1.1.1.0,
  ),
)

pub make_room-requires : goal.make_room-requires
make_room-requires g c =
    let whys : c.show_why-why.result ≡ show_why c.args.tables.now.running c.args.cause = c.show_why-why.ensures ∙ ap (λ (r : Option ReqId). show_why r c.args.cause) c.in_ok-gone.ensures.kept.running in (
      c.in_ok-set_off.ensures.leaving,
      (
        room_ready g.m c.args.tables.now.running _ c.args.tables.now.kept.keep _ (now_of g.m.pass.event c.args.out.now) _ c.args.state _ _ c.args.cause c.args.nav _ c.requires.1.1.0 c.in_ok-set_off.ensures.off
            (ap (λ (x : InMove). x.nav) c.requires.0)
            c.in_ok-set_off.ensures.part
            c.in_ok-set_off.ensures.states
            (c.in_ok-set_off.ensures.kept.keep ∙ c.in_ok-gone.ensures.kept.keep)
            c.show_why-why.ensures
            c.in_ok-set_off.ensures.kept.running
            (ap (λ (x : InMove). x.cause) c.requires.0)
            (c.in_ok-gone.ensures.gone ∙ ap (λ (l : List StateId). drop c.args.tables.now.kept.keep (left_first c.args.old l)) c.requires.1.0.work.kept ∙ ap (λ (x : InMove). drop c.args.tables.now.kept.keep (left_first x.state (kept_states (now_of g.m.pass.event c.args.out.now)))) c.requires.0),
        off_left g.m.pass.event c.args.out.now _ _ c.args.nav (left_rows _ _ _ c.in_ok-set_off.ensures.left) c.in_ok-set_off.ensures.part.others c.requires.1.0.going.tab.sound c.requires.1.0.going.tab.hangs c.in_ok-set_off.ensures.leaving.going.tab.sound c.in_ok-set_off.ensures.leaving.going.tab.hangs c.in_ok-set_off.ensures.leaving.going.tab.homes.homed
            (subst (λ (w : Why). AreLeftUnder g.m.pass.event c.args.out.now c.args.nav w) (sym whys) c.requires.1.1.1.0)
            (subst (λ (w : Why). OffAreLeft g.m.pass.event c.args.out.now w) (sym whys) c.requires.1.1.1.1),
      ),
    )

pub returns-clause-turn : goal.returns-clause-turn
returns-clause-turn g c =
    part_turn _ _ _ c.args.nav
    (part_then _ _ _ c.args.nav c.in_ok-set_off.ensures.part (part_named _ _ (sym (ap (λ (x : InMove). x.nav) c.requires.0)) _ _ c.in_ok-make_room.ensures.part))
    c.in_ok-show_target.ensures.turn

pub returns-clause-only : goal.returns-clause-only
returns-clause-only g c =
    moved_for _ _ _ _ _ _ _ _ _ _ _ (c.show_why-why.ensures ∙ ap (λ (r : Option ReqId). show_why r c.args.cause) c.in_ok-gone.ensures.kept.running) (ap (λ (r : Option ReqId). show_why r c.args.cause) (c.in_ok-make_room.ensures.kept.running ∙ c.in_ok-set_off.ensures.kept.running ∙ c.in_ok-gone.ensures.kept.running))
    (left_then_left _ _ _ _ c.in_ok-set_off.ensures.left c.in_ok-make_room.ensures.left) c.in_ok-show_target.ensures.shown

pub returns-clause-wakes : goal.returns-clause-wakes
returns-clause-wakes g c =
    woken_as g.m c.args.nav c.args.doc c.args.entry (ap (λ (x : InMove). x.nav) c.requires.0) (ap (λ (x : InMove). x.doc) c.requires.0) (ap (λ (x : InMove). x.entry) c.requires.0) g.m.pass.event _ _ _ _ _ _ _ _ _ (left_then_left _ _ _ _ c.in_ok-set_off.ensures.left c.in_ok-make_room.ensures.left) c.in_ok-make_room.ensures.shows c.in_ok-show_target.ensures.shown

pub returns-clause-moved : goal.returns-clause-moved
returns-clause-moved g c =
    moved_as g.m c.args.nav c.args.doc c.args.entry (ap (λ (x : InMove). x.nav) c.requires.0) (ap (λ (x : InMove). x.doc) c.requires.0) (ap (λ (x : InMove). x.entry) c.requires.0) g.m.pass.event _ _ _ _ _ _ _ _ _ _ c.requires.1.1.0.bound (left_then_left _ _ _ _ c.in_ok-set_off.ensures.left c.in_ok-make_room.ensures.left) c.in_ok-make_room.ensures.shows c.in_ok-show_target.ensures.shown (λ are. c.in_ok-make_room.ensures.part.loading (c.in_ok-set_off.ensures.part.loading are))

pub returns-clause-off : goal.returns-clause-off
returns-clause-off g c =
    off_left g.m.pass.event c.args.out.now _ (show_why c.args.tables.now.running c.args.cause) c.args.nav (moved_rows _ _ _ (returns-clause-only g c)) (returns-clause-turn g c).others c.requires.1.0.going.tab.sound c.requires.1.0.going.tab.hangs c.in_ok-show_target.ensures.passing.going.tab.sound c.in_ok-show_target.ensures.passing.going.tab.hangs c.in_ok-show_target.ensures.passing.going.tab.homes.homed c.requires.1.1.1.0 c.requires.1.1.1.1
