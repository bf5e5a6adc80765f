-- The unload check of a load, traversal or reload: nothing is done for it before it has passed, no document with a handler is left unasked, and the user is asked exactly where a document wants it.
-- HTML Standard, "checking if unloading is canceled". This project's own: one prompt for each request, and at which row it comes.
use Rattle.std.specs.Prelude.{Bool, true, false, not, ◌&&◌, ◌||◌, ◌==◌, nat_lt, List, fold, map, filter, filter_map, take_while, option_to_list, Option, Some, None, is_some, if◌then◌else◌}
use Rattle.std.specs.List.{list_all, list_any}
use Rattle.tab_ids.specs.declared.DocId.{DocId}
use Rattle.tab_ids.specs.declared.ReqId.{ReqId}
use Rattle.log_model.specs.declared.handler.Verdict.{Verdict}
use Rattle.log_model.specs.declared.handler.Verdict.TheVariants as verdicts
use Rattle.log_model.specs.declared.job.Task.{Task}
use Rattle.log_model.specs.declared.job.Task.TheVariants as tasks
use Rattle.log_model.specs.declared.job.Why.{Why}
use Rattle.log_model.specs.declared.job.Why.TheVariants as whys
use Rattle.log_model.specs.declared.row_kind.LogRow.{LogRow}
use Rattle.log_model.specs.declared.row_kind.RowKind.{RowKind}
use Rattle.log_model.specs.declared.row_kind.RowKind.TheVariants as rows
use Rattle.log_model.specs.Outcomes.{is_drop}
use Rattle.log_model.specs.Equal.{holds, implies, same_list, same_doc, has_doc}
use Rattle.log_model.specs.Seen.{Seen, Document, Asked, Asking, document_of, request_of}
use Rattle.log_model.specs.Places.{shower_of, is_gone, all_asked, has_passed, is_load, is_traversal, is_reload}
use Rattle.log_model.specs.After.{after}
use Rattle.log_model.specs.Events.{Point}
use Rattle.log_model.specs.Points.{next_of}
use Rattle.log_model.specs.Orders.{is_for}

-- ---- nothing before the check has passed

-- the request is one that is checked: a load, a traversal or a reload
abbrev pub is_checked : Asked → Bool
is_checked q = is_load q.what || is_traversal q.what || is_reload q.what

-- the request has passed its check, if it is one that is checked
abbrev pub may_go_on : Seen → ReqId → Bool
may_go_on s req = holds (λ q. implies (is_checked q) (has_passed s q)) (request_of s req)

-- the document was asked for the request
abbrev pub was_asked : Asked → DocId → Bool
was_asked q doc = list_any (λ (asking : Asking). asking.doc.0 == doc.0) q.asks

-- a document with a handler, which a navigable was awake on as the request began and still was as this event began, was asked for it
abbrev pub may_be_left : Point → DocId → ReqId → Bool
may_be_left p doc req =
    holds (λ (q : Asked). implies (has_doc q.awake_then doc && is_some (shower_of p.start doc) && has_handler p.now doc) (was_asked q doc)) (request_of p.now req)
  where
    has_handler : Seen → DocId → Bool
    has_handler s doc = holds (λ (d : Document). is_some d.slot) (document_of s doc)

-- an order for the request may be sent: no document is made, shown or frozen before the check has passed, and none is left unasked
abbrev pub may_be_sent : Point → DocId → ReqId → Task → Bool
may_be_sent p doc req (tasks.Populate nav state address initial) = may_go_on p.now req
may_be_sent p doc req (tasks.Activate entry epoch length index memo address) = may_go_on p.now req
may_be_sent p doc req tasks.Freeze = may_go_on p.now req && may_be_left p doc req
may_be_sent p doc req tasks.Discard = may_be_left p doc req
may_be_sent p doc req _ = true

-- an order for a request comes no sooner than it may
abbrev pub is_sent_in_time : Point → DocId → Why → Task → Bool
is_sent_in_time p doc (whys.Req req) task = may_be_sent p doc req task
is_sent_in_time p doc _ task = true

-- ---- the prompt

-- the lower number of two documents
abbrev pub lower_doc : Option DocId → DocId → Option DocId
lower_doc None doc = Some doc
lower_doc (Some best) doc = if nat_lt doc.0 best.0 then Some doc else Some best

-- the documents that want a prompt for the request and aren't gone
abbrev pub prompting : Seen → Asked → List DocId
prompting s q =
    filter (λ doc. not (is_gone s doc))
    (map (λ (asking : Asking). asking.doc) (filter (λ (asking : Asking). holds is_prompt asking.verdict) q.asks))
  where
    is_prompt : Verdict → Bool
    is_prompt verdicts.Prompt = true
    is_prompt verdicts.Leave = false

-- the document for whose sake the user is to be asked: the lowest-numbered of those, unless the request was dropped
abbrev pub due_prompt : Seen → Asked → Option DocId
due_prompt s q = if holds is_drop q.ending then None else fold lower_doc None (prompting s q)

-- the row discards a document or asks the user
abbrev pub is_of_run : LogRow → Bool
is_of_run row = by_kind row.row
  where
    by_task : Task → Bool
    by_task tasks.Discard = true
    by_task _ = false

    by_kind : RowKind → Bool
    by_kind (rows.Sent job) = by_task job.task
    by_kind (rows.Prompted req doc) = true
    by_kind _ = false

-- what the log has come to after the row and the run of Discard and Prompted rows that follow it
abbrev pub after_run : Point → LogRow → Seen
after_run p row = fold after (next_of p row) (take_while is_of_run p.later)

-- the document for whose sake a row asks the user about the request
abbrev pub prompt_in : ReqId → LogRow → Option DocId
prompt_in req row = by_kind req row.row
  where
    by_kind : ReqId → RowKind → Option DocId
    by_kind req (rows.Prompted r doc) = if r.0 == req.0 then Some doc else None
    by_kind req _ = None

-- the row goes on with the request: it makes, shows or freezes a document for it, or applies it
abbrev pub goes_on_with : ReqId → LogRow → Bool
goes_on_with req row = by_kind req row.row
  where
    by_task : Task → Bool
    by_task (tasks.Populate nav state address initial) = true
    by_task (tasks.Activate entry epoch length index memo address) = true
    by_task tasks.Freeze = true
    by_task _ = false

    by_kind : ReqId → RowKind → Bool
    by_kind req (rows.Sent job) = is_for req job && by_task job.task
    by_kind req (rows.Applied r change) = r.0 == req.0
    by_kind req _ = false

-- the documents for whose sake the rows ask the user about the request are the due ones
abbrev pub prompts_are : List DocId → ReqId → List LogRow → Bool
prompts_are due req later = same_list same_doc (filter_map (prompt_in req) later) due

-- the user is asked exactly for the due document, later in this event and before the request goes on
abbrev pub is_prompted_after : Point → LogRow → Asked → Bool
is_prompted_after p row q =
    let due = option_to_list (due_prompt (after_run p row) q)
    in prompts_are due q.nr p.later && prompts_are due q.nr (take_while (λ later. not (goes_on_with q.nr later)) p.later)

-- the row settles the last question of the request
abbrev pub is_settled_by : Seen → Seen → Asked → Bool
is_settled_by now next q = not (all_asked now q) && holds (all_asked next) (request_of next q.nr)

-- where the row settles the last question of a request, the user is asked as it is due
abbrev pub prompts_duly : Point → LogRow → Bool
prompts_duly p row = list_all (is_prompted_after p row) (filter (is_settled_by p.now (next_of p row)) p.now.requests)

-- an order that discards a document may settle questions
abbrev pub settles_duly : Point → LogRow → Task → Bool
settles_duly p row tasks.Discard = prompts_duly p row
settles_duly p row _ = true

-- the user is asked in the event in which the last question of the request is settled
abbrev pub is_prompted_duly : Point → ReqId → Bool
is_prompted_duly p req =
    holds (λ q. not (all_asked p.start q)) (request_of p.start req) && holds (all_asked p.now) (request_of p.now req)

-- ---- the whole

-- nothing is done for a request before its check has passed, no document is left unasked, and the user is asked where and when it is due
abbrev pub is_checked_row : Point → LogRow → Bool
is_checked_row p row = by_kind p row row.row
  where
    by_kind : Point → LogRow → RowKind → Bool
    by_kind p row (rows.Sent job) = is_sent_in_time p job.doc job.why job.task && settles_duly p row job.task
    by_kind p row (rows.Delivered proc) = prompts_duly p row
    by_kind p row (rows.Applied req change) = may_go_on p.now req
    by_kind p row (rows.Prompted req doc) = is_prompted_duly p req
    by_kind p row _ = true
