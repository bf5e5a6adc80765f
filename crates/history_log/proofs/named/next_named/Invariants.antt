use Rattle.std.proofs.Common.{◌≡◌, drop, Option}
use Rattle.std.specs.Prelude.{fold}
use Rattle.tab_ids.specs.declared.ProcId.{ProcId}
use Rattle.log_model.specs.declared.row_kind.LogRow.{LogRow}
use Rattle.history_log.specs.Names.{lower, named_by, next_named}
use Rattle.history_log.proofs.named.next_named.Given as goal

abbrev pub invariant-loop-row : goal.invariant-loop-row
invariant-loop-row l =
    fold (λ (best : Option ProcId) (row : LogRow). lower l.from best (named_by row.actor row.row)) l.best (drop l.row-index l.rows) ≡ next_named l.from l.rows
