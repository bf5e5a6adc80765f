use Rattle.std.proofs.Common.{Some}
use Rattle.tab_evicts.proofs.Nones.{fewer_below, none_there, there_listed}
use Rattle.tab_evicts.proofs.Firsts.{done_as, first_is_there, first_lets, quiet_as, sends_as, stays_as}
use Rattle.tab_evicts.proofs.Quiets.{gone_only, quiet_gone, quiet_leaves, quiet_own}
use Rattle.tab_evicts.proofs.Spans.{stays_then}
use Rattle.tab_evicts.proofs.evicting.evict.Goals as goal
use Rattle.tab_evicts.specs.Evicting.{letting_for}
use Rattle.tab_passes.proofs.Onlies.{only_then}

pub doc_there-doc-requires : goal.doc_there-doc-requires
doc_there-doc-requires g c = first_is_there g.m c.args.gone c.args.why c.args.out.now c.args.tables.now c.requires.0 c.requires.1.0 c.requires.1.1

pub discard-requires : goal.discard-requires
discard-requires g c =
    let its = quiet_as g.m c.args.gone c.args.why c.args.out.now c.args.tables.now c.requires.0 c.requires.1.0 c.requires.1.1 c.doc_there-doc.result c.doc_there-doc.ensures in (
      c.requires.0,
      (
        quiet_leaves g.m.pass (Some g.m.move) c.args.out.now c.args.tables.now c.requires.0 c.args.why c.requires.1.0.may c.doc_there-doc.result c.args.gone its,
        (
          sends_as g.m c.args.gone c.args.why c.args.out.now c.args.tables.now c.requires.0 c.requires.1.0 c.requires.1.1 c.doc_there-doc.result c.doc_there-doc.ensures,
          (
            quiet_gone g.m.pass (Some g.m.move) c.args.out.now c.args.tables.now c.requires.0 c.args.why c.requires.1.0.may c.doc_there-doc.result c.args.gone its,
            (
              quiet_own g.m.pass (Some g.m.move) c.args.out.now c.args.tables.now c.requires.0 c.args.why c.requires.1.0.may c.doc_there-doc.result c.args.gone its,
              (first_lets g.m c.args.gone c.args.why c.args.out.now c.args.tables.now c.requires.0 c.requires.1.0 c.requires.1.1, c.requires.1.0.free),
            ),
          ),
        ),
      ),
    )

pub discard_below-requires : goal.discard_below-requires
discard_below-requires g c =
    done_as g.m c.args.gone c.args.why c.args.out.now c.args.tables.now c.requires.0 c.requires.1.0 c.requires.1.1 c.doc_there-doc.result c.doc_there-doc.ensures _ _ c.in_ok-discard.ensures.out c.in_ok-discard.ensures.kept c.in_ok-discard.ensures.leaving

pub returns-clause-only : goal.returns-clause-only
returns-clause-only g c =
    only_then _ _ _ _
    (gone_only g.m.pass (Some g.m.move) c.args.out.now c.args.tables.now c.requires.0 c.args.why c.requires.1.0.may c.doc_there-doc.result c.args.gone (quiet_as g.m c.args.gone c.args.why c.args.out.now c.args.tables.now c.requires.0 c.requires.1.0 c.requires.1.1 c.doc_there-doc.result c.doc_there-doc.ensures) _ c.discard.new.tables c.in_ok-discard.ensures.out)
    c.in_ok-discard_below.ensures.only

pub returns-clause-stays : goal.returns-clause-stays
returns-clause-stays g c =
    stays_then _ _ _
    (stays_as g.m c.args.gone c.args.why c.args.out.now c.args.tables.now c.requires.0 c.requires.1.0 c.requires.1.1 c.doc_there-doc.result c.doc_there-doc.ensures _ c.discard.new.tables c.in_ok-discard.ensures.out)
    c.in_ok-discard_below.ensures.stays

pub returns-clause-below : goal.returns-clause-below
returns-clause-below g c =
    none_there (letting_for g.m) c.args.gone c.args.why _ _
    (done_as g.m c.args.gone c.args.why c.args.out.now c.args.tables.now c.requires.0 c.requires.1.0 c.requires.1.1 c.doc_there-doc.result c.doc_there-doc.ensures _ _ c.in_ok-discard.ensures.out c.in_ok-discard.ensures.kept c.in_ok-discard.ensures.leaving)
    _ _ _ c.args.tables.now.tree
    (there_listed _ c.args.tables.now c.requires.0.work.holds.documents c.args.gone)
    c.in_ok-docs.ensures.placed
    (fewer_below g.m.pass (Some g.m.move) c.args.out.now c.args.tables.now c.requires.0 c.args.why c.requires.1.0.may c.doc_there-doc.result c.args.gone (quiet_as g.m c.args.gone c.args.why c.args.out.now c.args.tables.now c.requires.0 c.requires.1.0 c.requires.1.1 c.doc_there-doc.result c.doc_there-doc.ensures) c.args.gone _ c.discard.new.tables c.in_ok-discard.ensures.out)
    c.in_ok-discard_below.ensures.fewer
    c.in_ok-discard_below.ensures.gone
