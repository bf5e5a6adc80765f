use Rattle.std.proofs.Common.{ap, ℕ, ◌∙◌}
use Rattle.log_model.specs.Places.{pair_in}
use Rattle.step_index.specs.Held.{history_held}
use Rattle.tab_moves.proofs.Showings.{epoch_room, nav_there, ready, row_there, shown_by}
use Rattle.tab_moves.proofs.showing.show_target.Goals as goal

pub next_epoch-epoch-requires : goal.next_epoch-epoch-requires
next_epoch-epoch-requires g c = record { there = nav_there _ _ _ _ c.requires.0 _ _ _ _ c.requires.1; room = epoch_room _ _ _ _ c.requires.0 _ _ _ _ c.requires.1 }

pub row_there-row-requires : goal.row_there-row-requires
row_there-row-requires g c = row_there _ _ _ _ c.requires.0 _ _ _ _ c.requires.1

pub show-requires : goal.show-requires
show-requires g c =
    let its = ready _ _ _ _ c.requires.0 _ _ _ _ c.requires.1 _ c.row_there-row.ensures _ c.next_epoch-epoch.ensures _ _ (c.pair_at-length.ensures ∙ ap (λ (n : ℕ). pair_in (history_held c.args.tables.now.store).rows n) c.aim.ensures) _ c.in_ok-memo.ensures _ c.in_ok-address.ensures _ c.show_why-why.ensures in
    (c.requires.0.work, (its.other, (its.may, (its.for_run, (its.fits, (its.own_state, its.leaves))))))

pub returns-clause-passing : goal.returns-clause-passing
returns-clause-passing g c =
    let its = ready _ _ _ _ c.requires.0 _ _ _ _ c.requires.1 _ c.row_there-row.ensures _ c.next_epoch-epoch.ensures _ _ (c.pair_at-length.ensures ∙ ap (λ (n : ℕ). pair_in (history_held c.args.tables.now.store).rows n) c.aim.ensures) _ c.in_ok-memo.ensures _ c.in_ok-address.ensures _ c.show_why-why.ensures in
    (its.done _ _ c.in_ok-show.ensures.kept c.in_ok-show.ensures.out c.in_ok-show.ensures.work).0

pub returns-clause-turn : goal.returns-clause-turn
returns-clause-turn g c =
    let its = ready _ _ _ _ c.requires.0 _ _ _ _ c.requires.1 _ c.row_there-row.ensures _ c.next_epoch-epoch.ensures _ _ (c.pair_at-length.ensures ∙ ap (λ (n : ℕ). pair_in (history_held c.args.tables.now.store).rows n) c.aim.ensures) _ c.in_ok-memo.ensures _ c.in_ok-address.ensures _ c.show_why-why.ensures in
    (its.done _ _ c.in_ok-show.ensures.kept c.in_ok-show.ensures.out c.in_ok-show.ensures.work).1

pub returns-clause-shown : goal.returns-clause-shown
returns-clause-shown g c =
    shown_by _ c.args.tables.now c.args.nav _ _ _ c.row_there-row.ensures _ c.next_epoch-epoch.ensures _ _ (c.pair_at-length.ensures ∙ ap (λ (n : ℕ). pair_in (history_held c.args.tables.now.store).rows n) c.aim.ensures) _ c.in_ok-memo.ensures _ c.in_ok-address.ensures _ _ _ _ c.show_why-why.ensures c.in_ok-show.ensures.out
