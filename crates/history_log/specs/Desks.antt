-- What a reader of the rows keeps of a process: whether an order is in hand, and how many reports wait.
-- This project's own.
use Rattle.std.specs.Prelude.{ℕ, ◌+◌, ◌-◌, Bool, true, false, not, ◌&&◌, ◌==◌, nat_lt, Option, Some, None, is_some, if◌then◌else◌}
use Rattle.tab_ids.specs.declared.ProcId.{ProcId}
use Rattle.log_model.specs.declared.made.What.{What}
use Rattle.log_model.specs.declared.made.What.TheVariants as whats
use Rattle.log_model.specs.declared.row_kind.LogRow.{LogRow}
use Rattle.log_model.specs.declared.row_kind.RowKind.{RowKind}
use Rattle.log_model.specs.declared.row_kind.RowKind.TheVariants as rows
use Rattle.log_model.specs.Seen.{Seen, desk_of}
use Rattle.log_model.specs.After.{follows_finished}
use Rattle.history_log.specs.declared.order_reader.OrderReader.{OrderReader}
use Rattle.history_log.specs.Mails.{mail_after, no_mail}
use Rattle.history_log.specs.Lefts.{is_made_by}

-- an order is in hand after one more row, where one waits in the mail or not
abbrev pub holds_after : ProcId → Bool → Bool → RowKind → Bool
holds_after p holds waits (rows.Opened entry state doc proc slot address) = false
holds_after p holds waits (rows.Taken proc job live dirty) = if proc.0 == p.0 then live && waits else holds
holds_after p holds waits (rows.Finished proc job outcome) = if proc.0 == p.0 then false else holds
holds_after p holds waits (rows.Killed proc death) = if proc.0 == p.0 then false else holds
holds_after p holds waits _ = holds

-- mail and hand after one more row
abbrev pub order_after : ProcId → OrderReader → RowKind → OrderReader
order_after p o row = record { mail = mail_after p o.mail row; holds = holds_after p o.holds (nat_lt o.mail.gone o.mail.sent) row }

abbrev pub no_order : OrderReader
no_order = record { mail = no_mail; holds = false }

-- what was made of a poke is reported, but for an edit
abbrev pub is_reported : What → Bool
is_reported whats.Edit = false
is_reported _ = true

-- how many reports wait after one more row
abbrev pub reports_after : ProcId → Bool → Bool → ℕ → RowKind → ℕ
reports_after p joins holds n (rows.Opened entry state doc proc slot address) = 0
reports_after p joins holds n (rows.Finished proc job outcome) = if proc.0 == p.0 && holds then n + 1 else n
reports_after p joins holds n (rows.Made proc made) = if proc.0 == p.0 && (not joins && is_reported made.what) then n + 1 else n
reports_after p joins holds n (rows.Delivered proc) = if proc.0 == p.0 then n - 1 else n
reports_after p joins holds n (rows.Killed proc death) = if proc.0 == p.0 then n + 1 else n
reports_after p joins holds n _ = n

-- what the process makes joins the report of the order before it
abbrev pub joins_order : ProcId → Seen → LogRow → Bool
joins_order p s row = is_made_by p row.row && follows_finished s row

-- the process that finishes an order in the row
abbrev pub finisher : RowKind → Option ProcId
finisher (rows.Finished proc job outcome) = Some proc
finisher _ = None

-- an order of that process is in hand
abbrev pub finishes_of : Seen → Option ProcId → Bool
finishes_of s None = false
finishes_of s (Some proc) = is_some (desk_of s proc).in_hand
