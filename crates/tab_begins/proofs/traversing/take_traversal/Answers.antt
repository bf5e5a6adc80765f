use mir.Syntax.{w32}
use mir.Val.{SFits}
use Rattle.std.proofs.Common.{rules, subst, sym, ℤ}
use Rattle.std.proofs.lemmas.Int.{to_z-of_z}
use Rattle.tab_begins.proofs.Traverses.{goes_on, keeps_strays, old_loads}
use Rattle.tab_begins.proofs.traversing.take_traversal.Goals as goal
use Rattle.seen_laws.specs.InEvent.{now_of}
use Rattle.tab_applies.specs.PassedOn.{HasGone, IsFirst, MayGoUnasked}

pub returns-clause-goes : goal.returns-clause-goes
returns-clause-goes g c =
    let fits : SFits w32 c.args.delta = search rules in
    goes_on g.p _ _ c.requires.0 c.requires.1.1.0 _ _ c.requires.1.1.1.0 c.requires.1.1.1.1.0 c.requires.1.1.1.1.1.1.0 _ _ c.in_ok-begin_traversal.ensures.passing (subst (λ (d : ℤ). HasGone g.p.event c.args.out.now c.begin_traversal.new.out c.args.tables.now c.begin_traversal.new.tables c.args.req d) (to_z-of_z w32 c.args.delta fits) c.in_ok-begin_traversal.ensures.gone)

pub returns-clause-loads : goal.returns-clause-loads
returns-clause-loads g c =
    let fits : SFits w32 c.args.delta = search rules in
    old_loads g.p _ _ c.requires.0 c.requires.1.1.0 _ _ c.requires.1.1.1.0 c.requires.1.1.1.1.0 c.requires.1.1.1.1.1.1.0 _ _ c.in_ok-begin_traversal.ensures.passing (subst (λ (d : ℤ). HasGone g.p.event c.args.out.now c.begin_traversal.new.out c.args.tables.now c.begin_traversal.new.tables c.args.req d) (to_z-of_z w32 c.args.delta fits) c.in_ok-begin_traversal.ensures.gone)

pub returns-clause-strays : goal.returns-clause-strays
returns-clause-strays g c =
    let fits : SFits w32 c.args.delta = search rules in
    keeps_strays g.p _ _ c.requires.0 c.requires.1.1.0 _ _ c.requires.1.1.1.0 c.requires.1.1.1.1.0 c.requires.1.1.1.1.1.1.0 _ _ c.in_ok-begin_traversal.ensures.passing (subst (λ (d : ℤ). HasGone g.p.event c.args.out.now c.begin_traversal.new.out c.args.tables.now c.begin_traversal.new.tables c.args.req d) (to_z-of_z w32 c.args.delta fits) c.in_ok-begin_traversal.ensures.gone)

pub begin_traversal-requires : goal.begin_traversal-requires
begin_traversal-requires g c =
    let fits : SFits w32 c.args.delta = search rules in
    (c.requires.0, (c.requires.1.0, (c.requires.1.1.0, (subst (λ (d : ℤ). IsFirst (now_of g.p.event c.args.out.now) c.args.req d) (sym (to_z-of_z w32 c.args.delta fits)) c.requires.1.1.1.0, (c.requires.1.1.1.1.0, (c.requires.1.1.1.1.1.0, (c.requires.1.1.1.1.1.1.0.rows_, subst (λ (d : ℤ). MayGoUnasked g.p.event c.args.out.now c.args.req d) (sym (to_z-of_z w32 c.args.delta fits)) c.requires.1.1.1.1.1.1.1)))))))
