use Rattle.std.proofs.Common.{Some, drop, ◌+◌}
use Rattle.tab_evicts.proofs.Quiets.{gone_only, quiet_gone, quiet_leaves, quiet_own}
use Rattle.tab_walk.proofs.Cuts.{cut_done, cut_lets, cut_quiet, cut_sends, cut_state, cut_stays, cut_turned, cutting_turn}
use Rattle.tab_walk.proofs.cutting.cut_at.Goals as goal

pub state_there-state-requires : goal.state_there-state-requires
state_there-state-requires g c =
    cut_state g.n.cut g.n.gone c.args.why g.n.rest (drop (c.args.i + 1) c.args.docs.now) c.at-doc.result.now c.args.out.now c.args.tables.now (cutting_turn g.n.cut g.n.gone c.args.why g.n.rest c.args.docs.now c.args.i c.at-doc.result.now c.args.out.now c.args.tables.now c.at-doc.ensures c.requires.1)

pub discard-requires : goal.discard-requires
discard-requires g c =
    let so = cutting_turn g.n.cut g.n.gone c.args.why g.n.rest c.args.docs.now c.args.i c.at-doc.result.now c.args.out.now c.args.tables.now c.at-doc.ensures c.requires.1 in
    let its = cut_quiet g.n.cut g.n.gone c.args.why g.n.rest (drop (c.args.i + 1) c.args.docs.now) c.at-doc.result.now c.args.out.now c.args.tables.now so c.state_there-state.result c.state_there-state.ensures in (
      c.requires.1.leaving,
      (
        quiet_leaves g.n.cut.pass (Some g.n.cut.move) c.args.out.now c.args.tables.now c.requires.1.leaving c.args.why c.requires.1.may c.at-doc.result.now c.state_there-state.result its,
        (
          cut_sends g.n.cut g.n.gone c.args.why g.n.rest (drop (c.args.i + 1) c.args.docs.now) c.at-doc.result.now c.args.out.now c.args.tables.now so c.state_there-state.result c.state_there-state.ensures,
          (
            quiet_gone g.n.cut.pass (Some g.n.cut.move) c.args.out.now c.args.tables.now c.requires.1.leaving c.args.why c.requires.1.may c.at-doc.result.now c.state_there-state.result its,
            (
              quiet_own g.n.cut.pass (Some g.n.cut.move) c.args.out.now c.args.tables.now c.requires.1.leaving c.args.why c.requires.1.may c.at-doc.result.now c.state_there-state.result its,
              (cut_lets g.n.cut g.n.gone c.args.why g.n.rest (drop (c.args.i + 1) c.args.docs.now) c.at-doc.result.now c.args.out.now c.args.tables.now so c.state_there-state.result c.state_there-state.ensures, so.free),
            ),
          ),
        ),
      ),
    )

pub returns-clause-cutting : goal.returns-clause-cutting
returns-clause-cutting g c =
    let so = cutting_turn g.n.cut g.n.gone c.args.why g.n.rest c.args.docs.now c.args.i c.at-doc.result.now c.args.out.now c.args.tables.now c.at-doc.ensures c.requires.1 in
    cut_turned g.n.cut g.n.gone c.args.why g.n.first g.n.rest c.args.docs.now c.args.i c.at-doc.result.now _ _ c.at-doc.ensures c.requires.0.rest
    (cut_done g.n.cut g.n.gone c.args.why g.n.rest (drop (c.args.i + 1) c.args.docs.now) c.at-doc.result.now c.args.out.now c.args.tables.now so c.state_there-state.result c.state_there-state.ensures _ _ c.in_ok-discard.ensures.out c.in_ok-discard.ensures.leaving)

pub returns-clause-only : goal.returns-clause-only
returns-clause-only g c =
    let so = cutting_turn g.n.cut g.n.gone c.args.why g.n.rest c.args.docs.now c.args.i c.at-doc.result.now c.args.out.now c.args.tables.now c.at-doc.ensures c.requires.1 in
    gone_only g.n.cut.pass (Some g.n.cut.move) c.args.out.now c.args.tables.now c.requires.1.leaving c.args.why c.requires.1.may c.at-doc.result.now c.state_there-state.result
    (cut_quiet g.n.cut g.n.gone c.args.why g.n.rest (drop (c.args.i + 1) c.args.docs.now) c.at-doc.result.now c.args.out.now c.args.tables.now so c.state_there-state.result c.state_there-state.ensures) _ c.discard.new.tables c.in_ok-discard.ensures.out

pub returns-clause-stays : goal.returns-clause-stays
returns-clause-stays g c =
    cut_stays g.n.cut g.n.gone c.args.why g.n.rest (drop (c.args.i + 1) c.args.docs.now) c.at-doc.result.now c.args.out.now c.args.tables.now (cutting_turn g.n.cut g.n.gone c.args.why g.n.rest c.args.docs.now c.args.i c.at-doc.result.now c.args.out.now c.args.tables.now c.at-doc.ensures c.requires.1) c.state_there-state.result c.state_there-state.ensures _ c.discard.new.tables c.in_ok-discard.ensures.out
