-- How far the mail of one process has come: how many orders were sent to it, and how many of these have left its mail.
-- This project's own.
use Rattle.std.specs.Prelude.{◌+◌, ◌==◌, min, List, filter_map, Option, Some, None, if◌then◌else◌}
use Rattle.tab_ids.specs.declared.ProcId.{ProcId}
use Rattle.log_model.specs.declared.job.Job.{Job}
use Rattle.log_model.specs.declared.row_kind.LogRow.{LogRow}
use Rattle.log_model.specs.declared.row_kind.RowKind.{RowKind}
use Rattle.log_model.specs.declared.row_kind.RowKind.TheVariants as rows
use Rattle.history_log.specs.declared.mail_count.MailCount.{MailCount}

-- after one more row: what is sent joins, what is taken leaves, and an opening empties the mail
abbrev pub mail_after : ProcId → MailCount → RowKind → MailCount
mail_after proc m (rows.Opened entry state doc p slot address) = record m { gone = m.sent }
mail_after proc m (rows.Sent job) = if job.proc.0 == proc.0 then record m { sent = m.sent + 1 } else m
mail_after proc m (rows.Taken p job live dirty) = if p.0 == proc.0 then record m { gone = min (m.gone + 1) m.sent } else m
mail_after proc m _ = m

-- before any row
abbrev pub no_mail : MailCount
no_mail = record { sent = 0; gone = 0 }

-- the order that a row sends to the process
abbrev pub sent_by : ProcId → RowKind → Option Job
sent_by proc (rows.Sent job) = if job.proc.0 == proc.0 then Some job else None
sent_by proc _ = None

-- the orders that rows send to the process
abbrev pub sent_to : ProcId → List LogRow → List Job
sent_to proc log = filter_map (λ (row : LogRow). sent_by proc row.row) log
