use Rattle.log_model.specs.declared.header.Header.{Header}
use Rattle.log_model.specs.declared.row_kind.LogRow.{LogRow}
use Rattle.log_model.specs.Suits.{Suits}
use Rattle.std.proofs.Common.{List, [], ap, false, subst, sym, ◌∙◌, ◌∷◌}
use Rattle.tab_ids.specs.declared.ProcId.{ProcId}
use Rattle.world.proofs.Opens.{open_kept, opened_answers, opened_open, opened_unhandled}
use Rattle.world.proofs.world.World.fresh.Goals as goal
use Rattle.world.specs.Kept.{IsKept}
use Rattle.world.specs.Opening.{opening_row}

pub invariant_of-result : goal.invariant_of-result
invariant_of-result g c =
    subst (λ (h : Header). IsKept h c.in_ok-kinds.kinds.items c.in_ok-log.log c.in_ok-state.state false) (sym c.in_ok-settings.ensures)
    (subst (λ (l : List LogRow). IsKept c.args.header.now c.in_ok-kinds.kinds.items l c.in_ok-state.state false) (sym c.in_ok-log.ensures)
    (open_kept c.args.header.now c.in_ok-kinds.kinds.items (opening_row c.args.header.now.first c.opening_process-proc.result ∷ []) c.in_ok-state.state (opened_open c.args.header.now c.opening_process-proc.result c.in_ok-state.state c.opening_process-proc.ensures c.in_ok-state.ensures) (opened_answers c.in_ok-kinds.kinds.items c.args.header.now.first c.opening_process-proc.result)))

pub returns-clause-suits : goal.returns-clause-suits
returns-clause-suits g c none =
    subst (λ (l : List LogRow). Suits c.args.header.now l) (sym (c.in_ok-log.ensures ∙ ap (λ (p : ProcId). opening_row c.args.header.now.first p ∷ []) c.opening_process-proc.ensures)) (opened_unhandled c.args.header.now none)
