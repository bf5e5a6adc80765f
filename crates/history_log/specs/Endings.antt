-- Which row ends a request.
-- This project's own.
use Rattle.std.specs.Prelude.{Bool, false, ◌==◌, List, find, Option}
use Rattle.tab_ids.specs.declared.ReqId.{ReqId}
use Rattle.log_model.specs.declared.row_kind.LogRow.{LogRow}
use Rattle.log_model.specs.declared.row_kind.RowKind.{RowKind}
use Rattle.log_model.specs.declared.row_kind.RowKind.TheVariants as rows

-- the row says that the request was applied, refused or dropped
abbrev pub ends : ReqId → RowKind → Bool
ends req (rows.Applied r change) = r.0 == req.0
ends req (rows.Refused r reason) = r.0 == req.0
ends req (rows.Dropped r cause) = r.0 == req.0
ends req _ = false

-- the first row that ends the request
abbrev pub outcome_row : List LogRow → ReqId → Option LogRow
outcome_row log req = find (λ (row : LogRow). ends req row.row) log
