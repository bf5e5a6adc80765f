use Rattle.std.proofs.Common.{◌≡◌, drop, Option}
use Rattle.std.specs.Prelude.{fold}
use Rattle.tab_ids.specs.declared.ProcId.{ProcId}
use Rattle.log_model.specs.declared.row_kind.LogRow.{LogRow}
use Rattle.history_log.specs.Owners.{owner_after, owner_of}
use Rattle.history_log.proofs.owner.owner_of.Given as goal

abbrev pub invariant-loop-row : goal.invariant-loop-row
invariant-loop-row l =
    fold (λ (owner : Option ProcId) (row : LogRow). owner_after l.doc owner row.row) l.owner (drop l.row-index l.rows) ≡ owner_of l.rows l.doc
