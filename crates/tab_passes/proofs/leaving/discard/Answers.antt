use Rattle.tab_passes.proofs.Leavings.{gone_leaving}
use Rattle.tab_passes.proofs.Others.{cause_off}
use Rattle.tab_passes.proofs.Lefts.{sleepers_left, to_go}
use Rattle.tab_passes.proofs.leaving.discard.Goals as goal

pub discard-requires : goal.discard-requires
discard-requires g c =
    (c.requires.0.work, (cause_off _ _ _ c.requires.0.work c.requires.0.going.tab.asked.each c.args.why c.requires.1.0.may, (c.requires.1.1.0, (to_go g.l.pass g.l.move g.l.docs c.args.out.now c.args.tables.now c.requires.0 c.args.doc _ c.in_ok-navs.ensures c.args.state c.requires.1.1.1.0, (sleepers_left g.l.pass g.l.move g.l.docs c.args.out.now c.args.tables.now c.requires.0 c.args.doc _ c.in_ok-navs.ensures c.args.state, (c.requires.1.1.1.1.0, (c.requires.1.1.1.1.1.0, c.requires.1.1.1.1.1.1)))))))

pub returns-clause-leaving : goal.returns-clause-leaving
returns-clause-leaving g c =
    gone_leaving g.l.pass g.l.move g.l.docs c.args.out.now c.args.tables.now c.requires.0 c.args.doc c.args.why c.requires.1.0 _ _ c.in_ok-discard.ensures.out c.in_ok-discard.ensures.kept c.in_ok-discard.ensures.work
