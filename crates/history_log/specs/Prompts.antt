-- What each row says of one request's prompt: what a reader of the rows keeps, without memory.
-- This project's own.
use Rattle.std.specs.Prelude.{◌-◌, Bool, true, false, not, ◌&&◌, ◌==◌, Option, Some, None, if◌then◌else◌}
use Rattle.tab_ids.specs.declared.ReqId.{ReqId}
use Rattle.log_model.specs.declared.row_kind.RowKind.{RowKind}
use Rattle.log_model.specs.declared.row_kind.RowKind.TheVariants as rows
use Rattle.history_log.specs.declared.prompt_reader.PromptReader.{PromptReader}

-- the row is of the request, which is accepted
abbrev pub is_told : ReqId → ReqId → PromptReader → Bool
is_told req r p = r.0 == req.0 && p.left == 0

-- what is kept after one more row
abbrev pub prompt_after : ReqId → PromptReader → RowKind → PromptReader
prompt_after req p (rows.Accepted r doc what) = record p { left = p.left - 1 }
prompt_after req p (rows.Prompted r doc) = if is_told req r p then record p { is_prompted = true } else p
prompt_after req p (rows.Answered r stay) = if is_told req r p then record p { is_answered = true } else p
prompt_after req p (rows.Applied r change) = if is_told req r p then record p { is_dropped = false } else p
prompt_after req p (rows.Refused r reason) = if is_told req r p then record p { is_dropped = false } else p
prompt_after req p (rows.Dropped r cause) = if is_told req r p then record p { is_dropped = true } else p
prompt_after req p _ = p

-- before any row: as many requests are to be accepted as the number says
abbrev pub no_prompt : ReqId → PromptReader
no_prompt req = record { left = req.0; is_prompted = false; is_answered = false; is_dropped = false }

-- the prompt is up
abbrev pub reads_up : PromptReader → Bool
reads_up p = p.is_prompted && (not p.is_answered && not p.is_dropped)

-- the request that a row asks the user about
abbrev pub prompted_by : RowKind → Option ReqId
prompted_by (rows.Prompted r doc) = Some r
prompted_by _ = None
