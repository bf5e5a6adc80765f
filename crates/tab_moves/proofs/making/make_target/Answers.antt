use Rattle.std.proofs.Common.{sym, ◌∙◌}
use Rattle.tab_moves.proofs.Makings.{home_at, home_there, making_due, made_by, made_none, ready_to_make, row_there, still_turn}
use Rattle.tab_moves.proofs.making.make_target.Goals as goal

pub row_there-row-requires : goal.row_there-row-requires
row_there-row-requires g c = row_there _ _ _ c.requires.0 _ _ (making_due _ _ _ c.requires.0 _ _ c.requires.1.1.1)

pub home_there-proc-requires : goal.home_there-proc-requires
home_there-proc-requires g c =
    rw c.requires.1.0 (home_there g.p _ _ c.requires.0 _ _ (making_due _ _ _ c.requires.0 _ _ c.requires.1.1.1) _ c.row_there-row.ensures _ c.in_ok-address-in-None.ensures)

pub make-requires : goal.make-requires
make-requires g c =
    let its = ready_to_make _ _ _ c.requires.0 _ _ (making_due _ _ _ c.requires.0 _ _ c.requires.1.1.1) _ c.requires.1.1.0 _ c.row_there-row.ensures (sym c.made_for.ensures ∙ c.in-None.is) _ c.in_ok-address-in-None.ensures _ _ c.make_why-why.ensures _ c.is_initial-initial.ensures _ (home_at _ _ c.args.tables.now c.args.nav _ _ c.requires.1.0 c.home_there-proc.ensures) in
    (c.requires.0.work, (its.other, (its.due, (its.known, (its.unknown, (sym c.made_for.ensures ∙ c.in-None.is, (its.unloaded, c.requires.0.going.tab.kept)))))))

pub returns-in-Some-clause-turn : goal.returns-in-Some-clause-turn
returns-in-Some-clause-turn g c =
    still_turn _ _ _ c.requires.0 _ _ (making_due _ _ _ c.requires.0 _ _ c.requires.1.1.1) _ c.row_there-row.ensures _ (sym c.made_for.ensures ∙ c.in-Some.is)

pub returns-in_ok-make-in-None-clause-passing : goal.returns-in_ok-make-in-None-clause-passing
returns-in_ok-make-in-None-clause-passing g c =
    let its = ready_to_make _ _ _ c.requires.0 _ _ (making_due _ _ _ c.requires.0 _ _ c.requires.1.1.1) _ c.requires.1.1.0 _ c.row_there-row.ensures (sym c.made_for.ensures ∙ c.in-None.is) _ c.in_ok-address-in-None.ensures _ _ c.make_why-why.ensures _ c.is_initial-initial.ensures _ (home_at _ _ c.args.tables.now c.args.nav _ _ c.requires.1.0 c.home_there-proc.ensures) in
    (its.done _ _ c.in_ok-make-in-None.ensures.kept c.in_ok-make-in-None.ensures.out c.in_ok-make-in-None.ensures.work).0

pub returns-in_ok-make-in-None-clause-turn : goal.returns-in_ok-make-in-None-clause-turn
returns-in_ok-make-in-None-clause-turn g c =
    let its = ready_to_make _ _ _ c.requires.0 _ _ (making_due _ _ _ c.requires.0 _ _ c.requires.1.1.1) _ c.requires.1.1.0 _ c.row_there-row.ensures (sym c.made_for.ensures ∙ c.in-None.is) _ c.in_ok-address-in-None.ensures _ _ c.make_why-why.ensures _ c.is_initial-initial.ensures _ (home_at _ _ c.args.tables.now c.args.nav _ _ c.requires.1.0 c.home_there-proc.ensures) in
    (its.done _ _ c.in_ok-make-in-None.ensures.kept c.in_ok-make-in-None.ensures.out c.in_ok-make-in-None.ensures.work).1

pub returns-in_ok-make-in-None-clause-off : goal.returns-in_ok-make-in-None-clause-off
returns-in_ok-make-in-None-clause-off g c =
    let its = ready_to_make _ _ _ c.requires.0 _ _ (making_due _ _ _ c.requires.0 _ _ c.requires.1.1.1) _ c.requires.1.1.0 _ c.row_there-row.ensures (sym c.made_for.ensures ∙ c.in-None.is) _ c.in_ok-address-in-None.ensures _ _ c.make_why-why.ensures _ c.is_initial-initial.ensures _ (home_at _ _ c.args.tables.now c.args.nav _ _ c.requires.1.0 c.home_there-proc.ensures) in
    (its.done _ _ c.in_ok-make-in-None.ensures.kept c.in_ok-make-in-None.ensures.out c.in_ok-make-in-None.ensures.work).2

pub returns-in-Some-clause-made : goal.returns-in-Some-clause-made
returns-in-Some-clause-made g c =
    made_none _ c.args.tables.now c.args.nav c.args.entry c.args.cause _ _ _ c.row_there-row.ensures (sym c.made_for.ensures ∙ c.in-Some.is)

pub returns-in_ok-make-in-None-clause-made : goal.returns-in_ok-make-in-None-clause-made
returns-in_ok-make-in-None-clause-made g c =
    made_by _ c.args.tables.now c.args.nav c.args.entry c.args.cause _ _ _ c.row_there-row.ensures _ _ _ _ _ _ c.in_ok-address-in-None.ensures c.make_why-why.ensures c.is_initial-initial.ensures (c.home_there-proc.ensures) c.in_ok-make-in-None.ensures.out
