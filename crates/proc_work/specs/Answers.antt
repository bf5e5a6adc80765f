-- That documents which are asked to leave answer by the kinds of their handlers.
-- HTML Standard, "Checking if unloading is canceled"; that a handler answers by its kind is this project's own.
use Rattle.std.specs.Prelude.{Bool, true, false, List, slice_get, Option}
use Rattle.log_model.specs.declared.handler.HandlerKind.{HandlerKind}
use Rattle.log_model.specs.declared.handler.HandlerKind.TheVariants as kinds
use Rattle.log_model.specs.declared.handler.Verdict.{Verdict}
use Rattle.log_model.specs.declared.handler.Verdict.TheVariants as verdicts
use Rattle.log_model.specs.declared.job.Order.{Order}
use Rattle.log_model.specs.declared.job.Task.{Task}
use Rattle.log_model.specs.declared.job.Task.TheVariants as tasks
use Rattle.log_model.specs.declared.outcome.Outcome.{Outcome}
use Rattle.log_model.specs.declared.outcome.Outcome.TheVariants as outcomes
use Rattle.log_model.specs.declared.row_kind.LogRow.{LogRow}
use Rattle.log_model.specs.declared.row_kind.RowKind.{RowKind}
use Rattle.log_model.specs.declared.row_kind.RowKind.TheVariants as rows
use Rattle.log_model.specs.Equal.{holds, same_option}
use Rattle.log_model.specs.Events.{Point, AtEachEvent, each_row}
use Rattle.log_model.specs.Seen.{desk_of}
use Rattle.proc_work.specs.Work.{verdict_of}

-- two kinds are the same
abbrev pub same_kind : HandlerKind → HandlerKind → Bool
same_kind kinds.Dirty kinds.Dirty = true
same_kind kinds.Draft kinds.Draft = true
same_kind kinds.Always kinds.Always = true
same_kind _ _ = false

-- where the task asks a handler, this is the kind of its slot, or that there is none
abbrev pub has_kind_of : List HandlerKind → Task → Option HandlerKind → Bool
has_kind_of slots (tasks.Ask slot cause) kind = same_option same_kind kind (slice_get slots slot)
has_kind_of slots task kind = true

-- two answers are the same
abbrev pub same_verdict : Verdict → Verdict → Bool
same_verdict verdicts.Leave verdicts.Leave = true
same_verdict verdicts.Prompt verdicts.Prompt = true
same_verdict _ _ = false

-- what was asked is answered as the kind of its slot says, for the dirty mark of the order as it was taken up and the cause of the question
abbrev pub is_answer_of : List HandlerKind → Order → Task → Outcome → Bool
is_answer_of slots order (tasks.Ask slot cause) (outcomes.Asked verdict) =
    same_verdict verdict (verdict_of (slice_get slots slot) (record { dirty = order.dirty; cause = cause }))
is_answer_of slots order task outcome = true

-- the row finishes the order in hand so, or finishes none
abbrev pub is_answered_row : List HandlerKind → Point → LogRow → Bool
is_answered_row slots p row = by_kind slots p row.row
  where
    by_kind : List HandlerKind → Point → RowKind → Bool
    by_kind slots p (rows.Finished proc job outcome) =
        holds (λ (order : Order). is_answer_of slots order order.job.task outcome) (desk_of p.now proc).in_hand
    by_kind slots p _ = true

-- a question is finished with a prompt exactly where its slot has a kind that prompts, for the dirty mark and the cause of the order
abbrev pub AnswersBy : List HandlerKind → List LogRow → Type 0
AnswersBy slots log = AtEachEvent (each_row (is_answered_row slots)) log
