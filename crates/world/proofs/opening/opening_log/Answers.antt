use Rattle.log_model.specs.declared.row_kind.LogRow.{LogRow}
use Rattle.std.proofs.Common.{IfOk, List, [], subst, ℕ, ◌∷◌, ◌≡◌}
use Rattle.world.proofs.opening.opening_log.Goals as goal
use Rattle.world.specs.Opening.{opening_row}

pub returns : goal.returns
returns c =
    subst (λ (a : List ℕ). IfOk c.fresh.result (λ (log : List LogRow). log ≡ opening_row a c.args.proc ∷ [])) c.in_ok-address.ensures c.fresh.ensures
