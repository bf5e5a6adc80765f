use Rattle.seen_laws.specs.InEvent.{now_of}
use Rattle.std.proofs.Common.{Option, arith, false, subst, true, ◌==◌, ◌≡◌}
use Rattle.std.proofs.lemmas.Bool.Decides.{nat_tests}
use Rattle.tab_ids.specs.declared.StateId.{StateId}
use Rattle.tab_moves.proofs.PassedOn.{only_none}
use Rattle.tab_walk.proofs.Puts.{discarded_left}
use Rattle.tab_walk.proofs.Rooms.{evicted, none_beyond, other_beyond, same_beyond}
use Rattle.tab_walk.proofs.leaving.make_room.Goals as goal
use Rattle.tab_walk.specs.Moving.{MayMakeRoom}

pub evict-requires : goal.evict-requires
evict-requires g c =
    let h = c.if-gone-state.true in
    (c.requires.0, (other_beyond g.m c.args.out.now c.args.tables.now c.requires.0 c.args.state c.args.why c.in-Some.gone (subst (λ (o : Option StateId). MayMakeRoom g.m c.args.tables.now.running c.args.tables.now.kept.keep (now_of g.m.pass.event c.args.out.now) o c.args.state c.args.why) c.in-Some.is c.requires.1.0) (let differs : (c.in-Some.gone.0 == c.args.state.0) ≡ false = grind (arith, nat_tests, h) in differs), c.requires.1.1))

pub returns-in_ok-evict-in-Some-clause-leaving : goal.returns-in_ok-evict-in-Some-clause-leaving
returns-in_ok-evict-in-Some-clause-leaving g c =
    (evicted g.m c.args.out.now c.args.tables.now c.requires.0 c.args.state c.args.why c.in-Some.gone (subst (λ (o : Option StateId). MayMakeRoom g.m c.args.tables.now.running c.args.tables.now.kept.keep (now_of g.m.pass.event c.args.out.now) o c.args.state c.args.why) c.in-Some.is c.requires.1.0) _ _ c.in_ok-evict-in-Some.ensures.kept c.in_ok-evict-in-Some.ensures.evicting c.in_ok-evict-in-Some.ensures.only c.in_ok-evict-in-Some.ensures.stays).0

pub returns-in_ok-evict-in-Some-clause-shows : goal.returns-in_ok-evict-in-Some-clause-shows
returns-in_ok-evict-in-Some-clause-shows g c =
    (evicted g.m c.args.out.now c.args.tables.now c.requires.0 c.args.state c.args.why c.in-Some.gone (subst (λ (o : Option StateId). MayMakeRoom g.m c.args.tables.now.running c.args.tables.now.kept.keep (now_of g.m.pass.event c.args.out.now) o c.args.state c.args.why) c.in-Some.is c.requires.1.0) _ _ c.in_ok-evict-in-Some.ensures.kept c.in_ok-evict-in-Some.ensures.evicting c.in_ok-evict-in-Some.ensures.only c.in_ok-evict-in-Some.ensures.stays).1

pub returns-in_ok-evict-in-Some-clause-part : goal.returns-in_ok-evict-in-Some-clause-part
returns-in_ok-evict-in-Some-clause-part g c =
    (evicted g.m c.args.out.now c.args.tables.now c.requires.0 c.args.state c.args.why c.in-Some.gone (subst (λ (o : Option StateId). MayMakeRoom g.m c.args.tables.now.running c.args.tables.now.kept.keep (now_of g.m.pass.event c.args.out.now) o c.args.state c.args.why) c.in-Some.is c.requires.1.0) _ _ c.in_ok-evict-in-Some.ensures.kept c.in_ok-evict-in-Some.ensures.evicting c.in_ok-evict-in-Some.ensures.only c.in_ok-evict-in-Some.ensures.stays).2

pub returns-else-gone-state-clause-shows : goal.returns-else-gone-state-clause-shows
returns-else-gone-state-clause-shows g c =
    let h = c.if-gone-state.false in
    same_beyond g.m c.args.out.now c.args.tables.now c.requires.0 c.args.state c.args.why c.in-Some.gone (subst (λ (o : Option StateId). MayMakeRoom g.m c.args.tables.now.running c.args.tables.now.kept.keep (now_of g.m.pass.event c.args.out.now) o c.args.state c.args.why) c.in-Some.is c.requires.1.0) (let same : (c.in-Some.gone.0 == c.args.state.0) ≡ true = grind (arith, nat_tests, h) in same)

pub returns-in-None-clause-shows : goal.returns-in-None-clause-shows
returns-in-None-clause-shows g c =
    none_beyond g.m c.args.out.now c.args.tables.now c.requires.0 c.args.state c.args.why (subst (λ (o : Option StateId). MayMakeRoom g.m c.args.tables.now.running c.args.tables.now.kept.keep (now_of g.m.pass.event c.args.out.now) o c.args.state c.args.why) c.in-None.is c.requires.1.0)

pub returns-in_ok-evict-in-Some-clause-left : goal.returns-in_ok-evict-in-Some-clause-left
returns-in_ok-evict-in-Some-clause-left g c = discarded_left _ _ _ c.in_ok-evict-in-Some.ensures.only

pub returns-else-gone-state-clause-left : goal.returns-else-gone-state-clause-left
returns-else-gone-state-clause-left g c = only_none _ _

pub returns-in-None-clause-left : goal.returns-in-None-clause-left
returns-in-None-clause-left g c = only_none _ _
