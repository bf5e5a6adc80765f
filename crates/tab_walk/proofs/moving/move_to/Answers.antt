use Rattle.log_model.specs.declared.header.Header.{Header}
use Rattle.std.proofs.Common.{ap, arith, refl, sym, ◌∙◌, ◌≤◌, ◌≡◌}
use Rattle.std.proofs.lemmas.Bool.Decides.{nat_tests}
use Rattle.seen_facts.proofs.Hang.Hung.{places_distinct}
use Rattle.seen_laws.specs.InEvent.{now_of}
use Rattle.tab_moves.proofs.PassedOn.{leaving_none, only_none}
use Rattle.tab_moves.specs.Making.{show_why}
use Rattle.tab_walk.proofs.OffTurns.{off_turn, shown_row, shown_under}
use Rattle.tab_walk.proofs.Finds.{doc_there, first_epoch, found_cut, found_from, found_lefts, found_none, row_there}
use Rattle.tab_walk.proofs.Puts.{moved_by, moved_for, woken}
use Rattle.tab_walk.proofs.moving.move_to.Goals as goal

pub row_there-requires : goal.row_there-requires
row_there-requires g c = row_there g.p c.args.out.now c.args.tables.now c.requires.0 c.args.nav c.args.entry c.requires.1.1.0

pub doc_there-doc-requires : goal.doc_there-doc-requires
doc_there-doc-requires g c =
    doc_there g.p c.args.out.now c.args.tables.now c.requires.0 c.args.nav c.args.entry c.requires.1.1.0 c.row_there.result.now c.row_there.ensures

pub show_target-requires : goal.show_target-requires
show_target-requires g c =
    (leaving_none g.p c.args.out.now c.args.tables.now c.requires.0, found_none g.p c.args.out.now c.args.tables.now c.requires.0 c.args.nav c.args.entry c.requires.1.1.0 c.row_there.result.now c.row_there.ensures c.doc_there-doc.result c.doc_there-doc.ensures c.args.cause c.requires.1.1.1.0 (sym c.left_by.ensures ∙ c.in-None.is))

pub cut_from-requires : goal.cut_from-requires
cut_from-requires g c = (
  refl,
  (
    c.requires.0,
    (
      found_cut g.p c.args.out.now c.args.tables.now c.requires.0 c.args.nav c.args.entry c.requires.1.1.0 c.row_there.result.now c.row_there.ensures c.doc_there-doc.result c.doc_there-doc.ensures c.args.tables.now.kept.keep c.args.cause c.requires.1.1.1.0 (c.requires.1.1.1.0.header ∙ ap (λ (h : Header). h.keep) (sym c.requires.1.0) ∙ c.if-header-eq0.true) c.in-Some.left.0 c.in-Some.left.1 (sym c.left_by.ensures ∙ c.in-Some.is),
      (found_lefts g.p c.args.out.now c.args.tables.now c.requires.0 c.args.nav c.args.entry c.requires.1.1.0 c.row_there.result.now c.row_there.ensures c.doc_there-doc.result c.doc_there-doc.ensures c.args.tables.now.kept.keep c.args.cause c.requires.1.1.1.0 c.in-Some.left.0 c.in-Some.left.1 (sym c.left_by.ensures ∙ c.in-Some.is), c.requires.1.1.1.1),
    ),
  ),
)

pub move_from-requires : goal.move_from-requires
move_from-requires g c =
    let some = c.if-header-eq0.false in
    let keep : c.args.tables.now.kept.keep ≡ c.args.header.now.keep = c.requires.1.1.1.0.header ∙ ap (λ (h : Header). h.keep) (sym c.requires.1.0) in (
      refl,
      (
        c.requires.0,
        (
          found_from g.p c.args.out.now c.args.tables.now c.requires.0 c.args.nav c.args.entry c.requires.1.1.0 c.row_there.result.now c.row_there.ensures c.doc_there-doc.result c.doc_there-doc.ensures c.args.tables.now.kept.keep c.args.cause c.requires.1.1.1.0 (let low : 1 ≤ c.args.tables.now.kept.keep = grind (arith, nat_tests, some, keep) in low) c.in-Some.left.0 c.in-Some.left.1 (sym c.left_by.ensures ∙ c.in-Some.is),
          (found_lefts g.p c.args.out.now c.args.tables.now c.requires.0 c.args.nav c.args.entry c.requires.1.1.0 c.row_there.result.now c.row_there.ensures c.doc_there-doc.result c.doc_there-doc.ensures c.args.tables.now.kept.keep c.args.cause c.requires.1.1.1.0 c.in-Some.left.0 c.in-Some.left.1 (sym c.left_by.ensures ∙ c.in-Some.is), c.requires.1.1.1.1),
        ),
      ),
    )

pub returns-in_ok-show_target-in-None-clause-only : goal.returns-in_ok-show_target-in-None-clause-only
returns-in_ok-show_target-in-None-clause-only g c = moved_for _ _ _ _ _ _ _ _ _ _ _ refl refl (only_none _ _) c.in_ok-show_target-in-None.ensures.shown

pub returns-in_ok-show_target-in-None-clause-wakes : goal.returns-in_ok-show_target-in-None-clause-wakes
returns-in_ok-show_target-in-None-clause-wakes g c =
    woken _ c.args.cause _ _ _ _ _ _ _ _ _ _ _ _ (only_none _ _) (found_none g.p c.args.out.now c.args.tables.now c.requires.0 c.args.nav c.args.entry c.requires.1.1.0 c.row_there.result.now c.row_there.ensures c.doc_there-doc.result c.doc_there-doc.ensures c.args.cause c.requires.1.1.1.0 (sym c.left_by.ensures ∙ c.in-None.is)) c.in_ok-show_target-in-None.ensures.shown

pub returns-in_ok-show_target-in-None-clause-moved : goal.returns-in_ok-show_target-in-None-clause-moved
returns-in_ok-show_target-in-None-clause-moved g c =
    moved_by _ c.args.cause _ _ _ _ _ _ _ _ _ _ _ _ (only_none _ _) (found_none g.p c.args.out.now c.args.tables.now c.requires.0 c.args.nav c.args.entry c.requires.1.1.0 c.row_there.result.now c.row_there.ensures c.doc_there-doc.result c.doc_there-doc.ensures c.args.cause c.requires.1.1.1.0 (sym c.left_by.ensures ∙ c.in-None.is)) c.in_ok-show_target-in-None.ensures.shown (λ place placed none. (refl, first_epoch g.p c.args.out.now c.args.tables.now c.requires.0 c.args.nav _ c.in_ok-show_target-in-None.ensures.shown.raised place placed none)) (λ are. are)

pub returns-in_ok-show_target-in-None-clause-off : goal.returns-in_ok-show_target-in-None-clause-off
returns-in_ok-show_target-in-None-clause-off g c =
    let to = found_none g.p c.args.out.now c.args.tables.now c.requires.0 c.args.nav c.args.entry c.requires.1.1.0 c.row_there.result.now c.row_there.ensures c.doc_there-doc.result c.doc_there-doc.ensures c.args.cause c.requires.1.1.1.0 (sym c.left_by.ensures ∙ c.in-None.is) in
    let by = c.in_ok-show_target-in-None.ensures.shown in
    let tab = c.in_ok-show_target-in-None.ensures.passing.going.tab in
    let distinct = places_distinct (now_of g.p.event _) tab.sound tab.hangs in
    off_turn g.p.event c.args.out.now _ (show_why c.args.tables.now.running c.args.cause) c.args.nav (shown_row g.p.event c.args.out.now _ _ _ _ _ _ _ c.args.cause _ to by) c.in_ok-show_target-in-None.ensures.turn.others (places_distinct (now_of g.p.event c.args.out.now) c.requires.0.going.tab.sound c.requires.0.going.tab.hangs) distinct tab.homes.homed
    (shown_under g.p.event c.args.out.now _ _ _ _ _ _ _ c.args.cause _ to by distinct tab.homes.homed (show_why c.args.tables.now.running c.args.cause)) c.requires.1.1.1.1
