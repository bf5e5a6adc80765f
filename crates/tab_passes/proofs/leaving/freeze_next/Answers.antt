use Rattle.tab_passes.proofs.Frozen.{freezes_it}
use Rattle.tab_passes.proofs.Freezings.{freeze_leaves, freeze_may_go, freeze_there, freezing_more, freezing_still}
use Rattle.seen_laws.specs.InEvent.{now_of}
use Rattle.tab_passes.proofs.Onlies.{only_one}
use Rattle.tab_passes.proofs.leaving.freeze_next.Goals as goal

pub freeze-requires : goal.freeze-requires
freeze-requires g c =
    (c.requires.leaving, (freeze_leaves g.n.freezing c.args.why g.n.left g.n.docs c.args.doc c.args.out.now c.args.tables.now c.requires, (freeze_may_go g.n.freezing c.args.why g.n.left g.n.docs c.args.doc c.args.out.now c.args.tables.now c.requires, freeze_there g.n.freezing c.args.why g.n.left g.n.docs c.args.doc c.args.out.now c.args.tables.now c.requires)))

pub returns-clause-freezing : goal.returns-clause-freezing
returns-clause-freezing g c =
    freezing_more g.n.freezing c.args.why g.n.left g.n.docs c.args.doc c.args.out.now c.args.tables.now c.requires _ _ c.in_ok-freeze.ensures.out c.in_ok-freeze.ensures.kept c.in_ok-freeze.ensures.leaving

pub returns-clause-only : goal.returns-clause-only
returns-clause-only g c = only_one _ _ _ _ c.in_ok-freeze.ensures.out (freezes_it (now_of g.n.freezing.pass.event c.args.out.now) c.args.doc c.args.why _)

pub returns-clause-still : goal.returns-clause-still
returns-clause-still g c = freezing_still g.n.freezing c.args.why g.n.left g.n.docs c.args.doc c.args.out.now c.args.tables.now c.requires _ c.in_ok-freeze.ensures.out
