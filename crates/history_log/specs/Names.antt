-- The processes that rows name.
-- This project's own.
use Rattle.std.specs.Prelude.{ℕ, Bool, false, ◌&&◌, ◌==◌, nat_lt, nat_le, List, fold, Option, Some, None, if◌then◌else◌}
use Rattle.std.specs.List.{list_any}
use Rattle.tab_ids.specs.declared.ProcId.{ProcId}
use Rattle.log_model.specs.declared.row_kind.Actor.{Actor}
use Rattle.log_model.specs.declared.row_kind.Actor.TheVariants as actors
use Rattle.log_model.specs.declared.row_kind.LogRow.{LogRow}
use Rattle.log_model.specs.declared.row_kind.RowKind.{RowKind}
use Rattle.log_model.specs.declared.row_kind.RowKind.TheVariants as rows

-- the process that an actor is
abbrev pub process_of : Actor → Option ProcId
process_of (actors.Proc proc) = Some proc
process_of _ = None

-- the process that a row names
abbrev pub named_by : Actor → RowKind → Option ProcId
named_by actor (rows.Opened entry state doc proc slot address) = Some proc
named_by actor (rows.Sent job) = Some job.proc
named_by actor (rows.Taken proc job live dirty) = Some proc
named_by actor (rows.Finished proc job outcome) = Some proc
named_by actor (rows.Made proc made) = Some proc
named_by actor (rows.Delivered proc) = Some proc
named_by actor (rows.Killed proc death) = Some proc
named_by actor (rows.Refused req reason) = process_of actor
named_by actor _ = None

abbrev pub is_number : ℕ → Option ProcId → Bool
is_number p None = false
is_number p (Some proc) = proc.0 == p

-- the row names the process of a number
abbrev pub names : ℕ → LogRow → Bool
names p row = is_number p (named_by row.actor row.row)

-- some row names it
abbrev pub is_named : ℕ → List LogRow → Bool
is_named p log = list_any (names p) log

-- the lower of two numbers, from one on
abbrev pub lower : ℕ → Option ProcId → Option ProcId → Option ProcId
lower from best None = best
lower from None (Some proc) = if nat_le from proc.0 then Some proc else None
lower from (Some best) (Some proc) = if nat_le from proc.0 && nat_lt proc.0 best.0 then Some proc else Some best

-- the lowest number from one on that rows name
abbrev pub next_named : ℕ → List LogRow → Option ProcId
next_named from log = fold (λ (best : Option ProcId) (row : LogRow). lower from best (named_by row.actor row.row)) None log
