-- What the rows that a coordinator puts out do to the table of endings.
-- This project's own.
use Rattle.std.specs.Prelude.{ℕ, ◌-◌, ◌==◌, List, slice_set, Option, Some, if◌then◌else◌}
use Rattle.tab_ids.specs.declared.ReqId.{ReqId}
use Rattle.log_model.specs.declared.outcome.Ending.{Ending}
use Rattle.log_model.specs.declared.outcome.Ending.TheVariants as ends
use Rattle.log_model.specs.declared.row_kind.Actor.{Actor}
use Rattle.log_model.specs.declared.row_kind.LogRow.{LogRow}
use Rattle.log_model.specs.declared.row_kind.RowKind.{RowKind}
use Rattle.log_model.specs.declared.row_kind.RowKind.TheVariants as rows

-- a request has ended
abbrev pub ended_in : List (Option Ending) → ReqId → Ending → List (Option Ending)
ended_in endings req ending = if req.0 == 0 then endings else slice_set endings (req.0 - 1) (Some ending)

abbrev pub endings_noted : List (Option Ending) → RowKind → List (Option Ending)
endings_noted endings (rows.Applied req change) = ended_in endings req ends.Applied
endings_noted endings (rows.Refused req reason) = ended_in endings req (ends.Refused reason)
endings_noted endings (rows.Dropped req cause) = ended_in endings req (ends.Dropped cause)
endings_noted endings _ = endings

-- a row of an event
abbrev pub row_with : ℕ → Actor → RowKind → LogRow
row_with event actor kind = record { event = event; actor = actor; row = kind }
