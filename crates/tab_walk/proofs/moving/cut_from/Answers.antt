use Rattle.log_model.specs.declared.job.Why.{Why}
use Rattle.std.proofs.Common.{Option, ap, refl, subst, sym}
use Rattle.tab_moves.specs.Moving.{AreLeftUnder}
use Rattle.tab_walk.proofs.OffTurns.{moved_rows, off_left}
use Rattle.tab_walk.specs.Cutting.{OffAreLeft}
use Rattle.tab_ids.specs.declared.ReqId.{ReqId}
use Rattle.tab_moves.specs.Making.{show_why}
use Rattle.tab_walk.proofs.Froms.{part_named, part_turn}
use Rattle.tab_walk.proofs.Puts.{moved_as, moved_for, woken_as}
use Rattle.tab_walk.proofs.Readies.{cut_begun, cut_new, cut_ready}
use Rattle.tab_walk.proofs.moving.cut_from.Goals as goal
use Rattle.tab_walk.specs.Moving.{InMove}

pub cut_left-requires : goal.cut_left-requires
cut_left-requires g c = (
  cut_begun g.m c.args.out.now c.args.tables.now c.requires.1.0 c.args.nav c.args.cause c.args.doc c.args.entry c.args.left c.args.old c.requires.0 c.requires.1.1.0,
  (
    cut_ready g.m c.args.out.now c.args.tables.now c.requires.1.0 c.args.nav c.args.cause c.args.doc c.args.entry c.args.left c.args.old c.requires.0 c.requires.1.1.0 _ c.show_why-why.ensures,
    (refl, (cut_new g.m c.args.out.now c.args.tables.now c.requires.1.0 c.args.nav c.args.cause c.args.doc c.args.entry c.args.left c.args.old c.requires.0 c.requires.1.1.0, (subst (λ (w : Why). AreLeftUnder g.m.pass.event c.args.out.now c.args.nav w) (sym c.show_why-why.ensures) c.requires.1.1.1.0, subst (λ (w : Why). OffAreLeft g.m.pass.event c.args.out.now w) (sym c.show_why-why.ensures) c.requires.1.1.1.1))),
  ),
)

pub returns-clause-turn : goal.returns-clause-turn
returns-clause-turn g c =
    part_turn _ _ _ c.args.nav (part_named _ _ (sym (ap (λ (x : InMove). x.nav) c.requires.0)) _ _ c.in_ok-cut_left.ensures.part) c.in_ok-show_target.ensures.turn

pub returns-clause-only : goal.returns-clause-only
returns-clause-only g c =
    moved_for _ _ _ _ _ _ _ _ _ _ _ c.show_why-why.ensures (ap (λ (r : Option ReqId). show_why r c.args.cause) c.in_ok-cut_left.ensures.kept.running) c.in_ok-cut_left.ensures.left c.in_ok-show_target.ensures.shown

pub returns-clause-wakes : goal.returns-clause-wakes
returns-clause-wakes g c =
    woken_as g.m c.args.nav c.args.doc c.args.entry (ap (λ (x : InMove). x.nav) c.requires.0) (ap (λ (x : InMove). x.doc) c.requires.0) (ap (λ (x : InMove). x.entry) c.requires.0) g.m.pass.event _ _ _ _ _ _ _ _ _ c.in_ok-cut_left.ensures.left c.in_ok-cut_left.ensures.shows c.in_ok-show_target.ensures.shown

pub returns-clause-moved : goal.returns-clause-moved
returns-clause-moved g c =
    moved_as g.m c.args.nav c.args.doc c.args.entry (ap (λ (x : InMove). x.nav) c.requires.0) (ap (λ (x : InMove). x.doc) c.requires.0) (ap (λ (x : InMove). x.entry) c.requires.0) g.m.pass.event _ _ _ _ _ _ _ _ _ _ c.requires.1.1.0.bound c.in_ok-cut_left.ensures.left c.in_ok-cut_left.ensures.shows c.in_ok-show_target.ensures.shown c.in_ok-cut_left.ensures.part.loading

pub returns-clause-off : goal.returns-clause-off
returns-clause-off g c =
    off_left g.m.pass.event c.args.out.now _ (show_why c.args.tables.now.running c.args.cause) c.args.nav (moved_rows _ _ _ (returns-clause-only g c)) (returns-clause-turn g c).others c.requires.1.0.going.tab.sound c.requires.1.0.going.tab.hangs c.in_ok-show_target.ensures.passing.going.tab.sound c.in_ok-show_target.ensures.passing.going.tab.hangs c.in_ok-show_target.ensures.passing.going.tab.homes.homed c.requires.1.1.1.0 c.requires.1.1.1.1
