use Rattle.seen_laws.specs.InEvent.{now_of}
use Rattle.tab_moves.proofs.Frees.{all_frozen, freezing_as, has_left_as, left_done}
use Rattle.tab_moves.proofs.Leaves.{is_there, may_leave, may_send}
use Rattle.tab_moves.proofs.leaving.freeze_left.Goals as goal

pub freeze-requires : goal.freeze-requires
freeze-requires g c =
    (c.requires.0, (may_leave g.l.moving c.args.nav c.args.doc c.args.why _ _ c.requires.0 c.requires.1.1.1.0, (may_send g.l.moving c.args.nav c.args.doc c.args.why _ _ c.requires.0 c.requires.1.1.1.0 c.requires.1.1.1.1, is_there g.l.moving c.args.nav c.args.doc c.args.why _ _ c.requires.0 c.requires.1.1.1.0)))

pub freeze_each-requires : goal.freeze_each-requires
freeze_each-requires g c =
    freezing_as g.l.moving c.args.nav c.args.doc c.args.why _ _ c.requires.0 c.requires.1.1.1.0 _ _ c.in_ok-freeze.ensures.out c.in_ok-freeze.ensures.kept c.in_ok-freeze.ensures.leaving c.requires.1.1.1.1 g.l.nav c.requires.1.0 g.l.left c.requires.1.1.0 _ c.in_ok-below.ensures

pub returns-clause-leaving : goal.returns-clause-leaving
returns-clause-leaving g c =
    left_done g.l.moving c.args.nav c.args.doc c.args.why _ _ c.requires.0 c.requires.1.1.1.0 _ _ c.in_ok-freeze.ensures.out c.in_ok-freeze.ensures.kept c.in_ok-freeze.ensures.leaving g.l.left c.requires.1.1.0 _ c.in_ok-below.ensures _ _ c.in_ok-freeze_each.ensures.freezing.leaving

pub returns-clause-only : goal.returns-clause-only
returns-clause-only g c = all_frozen (now_of g.l.moving.pass.event c.args.out.now) c.args.doc c.args.why _ _ _ _ _ c.in_ok-below.ensures c.in_ok-freeze.ensures.out c.in_ok-freeze_each.ensures.only

pub returns-clause-left : goal.returns-clause-left
returns-clause-left g c =
    has_left_as g.l.moving c.args.nav c.args.doc c.args.why _ _ c.requires.0 c.requires.1.1.1.0 _ _ c.in_ok-freeze.ensures.out c.in_ok-freeze.ensures.kept c.in_ok-freeze.ensures.leaving _ _ c.in_ok-below.ensures c.in_ok-freeze_each.ensures.still
