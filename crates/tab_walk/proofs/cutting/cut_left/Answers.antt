use Rattle.seen_laws.specs.InEvent.{now_of}
use Rattle.tab_walk.proofs.Named.{cutting_named, first_cut, leaving_named, part_named_, shows_named}
use Rattle.tab_walk.proofs.Puts.{cut_left_only}
use Rattle.tab_walk.proofs.cutting.cut_left.Goals as goal

pub discard-requires : goal.discard-requires
discard-requires g c =
    let its = first_cut g.k.m c.args.out.now c.args.tables.now c.requires.0 c.args.why c.args.nav c.args.left c.args.old c.requires.1.0 c.requires.1.1.1.1.0 c.requires.1.1.1.1.1 in
    (c.requires.0, (its.leaves, (its.sends, (its.gone, (its.own, (its.lets, c.requires.1.0.free))))))

pub cut_each-requires : goal.cut_each-requires
cut_each-requires g c =
    cutting_named g.k.m c.args.out.now c.args.tables.now c.requires.0 c.args.why c.args.nav c.args.left c.args.old c.requires.1.0 c.requires.1.1.1.1.0 c.requires.1.1.1.1.1 _ _ c.in_ok-discard.ensures.out c.in_ok-discard.ensures.kept c.in_ok-discard.ensures.leaving g.k.new c.requires.1.1.1.0 g.k.rest c.requires.1.1.0 _ c.in_ok-below.ensures

pub returns-clause-leaving : goal.returns-clause-leaving
returns-clause-leaving g c =
    leaving_named g.k.m c.args.out.now c.args.tables.now c.requires.0 c.args.why c.args.nav c.args.left c.args.old c.requires.1.0 c.requires.1.1.1.1.0 c.requires.1.1.1.1.1 _ _ c.in_ok-discard.ensures.out c.in_ok-discard.ensures.kept c.in_ok-discard.ensures.leaving g.k.new c.requires.1.1.1.0 g.k.rest c.requires.1.1.0 _ c.in_ok-below.ensures _ _ c.in_ok-cut_each.ensures.kept c.in_ok-cut_each.ensures.cutting c.in_ok-cut_each.ensures.only c.in_ok-cut_each.ensures.stays

pub returns-clause-shows : goal.returns-clause-shows
returns-clause-shows g c =
    shows_named g.k.m c.args.out.now c.args.tables.now c.requires.0 c.args.why c.args.nav c.args.left c.args.old c.requires.1.0 c.requires.1.1.1.1.0 c.requires.1.1.1.1.1 _ _ c.in_ok-discard.ensures.out c.in_ok-discard.ensures.kept c.in_ok-discard.ensures.leaving g.k.new c.requires.1.1.1.0 g.k.rest c.requires.1.1.0 _ c.in_ok-below.ensures _ _ c.in_ok-cut_each.ensures.kept c.in_ok-cut_each.ensures.cutting c.in_ok-cut_each.ensures.only c.in_ok-cut_each.ensures.stays

pub returns-clause-part : goal.returns-clause-part
returns-clause-part g c =
    part_named_ g.k.m c.args.out.now c.args.tables.now c.requires.0 c.args.why c.args.nav c.args.left c.args.old c.requires.1.0 c.requires.1.1.1.1.0 c.requires.1.1.1.1.1 _ _ c.in_ok-discard.ensures.out c.in_ok-discard.ensures.kept c.in_ok-discard.ensures.leaving g.k.new c.requires.1.1.1.0 g.k.rest c.requires.1.1.0 _ c.in_ok-below.ensures _ _ c.in_ok-cut_each.ensures.kept c.in_ok-cut_each.ensures.cutting c.in_ok-cut_each.ensures.only c.in_ok-cut_each.ensures.stays

pub returns-clause-left : goal.returns-clause-left
returns-clause-left g c = cut_left_only (now_of g.k.m.pass.event c.args.out.now) c.args.why c.args.left _ _ _ c.in_ok-discard.ensures.out c.in_ok-cut_each.ensures.only
