use Rattle.tab_passes.proofs.Leavings.{frozen_leaving}
use Rattle.tab_passes.proofs.Others.{cause_off}
use Rattle.tab_passes.proofs.Lefts.{sleepers_are, sleepers_listed}
use Rattle.tab_passes.proofs.leaving.freeze.Goals as goal

pub freeze-requires : goal.freeze-requires
freeze-requires g c =
    (c.requires.0.work, (cause_off _ _ _ c.requires.0.work c.requires.0.going.tab.asked.each c.args.why c.requires.1.0.may, (c.requires.1.1.0, (c.requires.1.1.1, (sleepers_are g.l.pass g.l.move g.l.docs c.args.out.now c.args.tables.now c.requires.0 c.args.doc _ c.in_ok-navs.ensures, sleepers_listed g.l.pass g.l.move g.l.docs c.args.out.now c.args.tables.now c.requires.0 c.args.doc _ c.in_ok-navs.ensures)))))

pub returns-clause-leaving : goal.returns-clause-leaving
returns-clause-leaving g c =
    frozen_leaving g.l.pass g.l.move g.l.docs c.args.out.now c.args.tables.now c.requires.0 c.args.doc c.args.why c.requires.1.0 _ _ c.in_ok-freeze.ensures.out c.in_ok-freeze.ensures.kept c.in_ok-freeze.ensures.work
