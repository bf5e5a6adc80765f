-- When the rows of a log are formed: which rows an event has, and what each row names.
-- This project's own.
use Rattle.std.specs.Prelude.{ℕ, ◌+◌, Bool, true, false, not, ◌&&◌, ◌||◌, ◌==◌, nat_lt, List, [], ◌∷◌, length, map, filter, filter_map, fold, slice_get, Option, Some, None, is_none, is_some, option_and_then, if◌then◌else◌}
use Rattle.std.specs.List.{list_all, list_any}
use Rattle.std.specs.Option.{option_map_or}
use Rattle.tab_ids.specs.declared.NavId.{NavId}
use Rattle.tab_ids.specs.declared.StateId.{StateId}
use Rattle.tab_ids.specs.declared.ProcId.{ProcId}
use Rattle.tab_ids.specs.declared.DocId.{DocId}
use Rattle.tab_ids.specs.declared.JobId.{JobId}
use Rattle.tab_ids.specs.declared.ReqId.{ReqId}
use Rattle.log_model.specs.declared.change.Change.TheVariants as changes
use Rattle.log_model.specs.declared.job.Job.{Job}
use Rattle.log_model.specs.declared.job.Order.{Order}
use Rattle.log_model.specs.declared.job.Task.{Task}
use Rattle.log_model.specs.declared.job.Task.TheVariants as tasks
use Rattle.log_model.specs.declared.made.Made.{Made}
use Rattle.log_model.specs.declared.made.What.{What}
use Rattle.log_model.specs.declared.made.What.TheVariants as whats
use Rattle.log_model.specs.declared.outcome.Outcome.{Outcome}
use Rattle.log_model.specs.declared.request.Poke.{Poke}
use Rattle.log_model.specs.declared.request.Request.{Request}
use Rattle.log_model.specs.declared.row_kind.Actor.{Actor}
use Rattle.log_model.specs.declared.row_kind.Actor.TheVariants as actors
use Rattle.log_model.specs.declared.row_kind.LogRow.{LogRow}
use Rattle.log_model.specs.declared.row_kind.RowKind.{RowKind}
use Rattle.log_model.specs.declared.row_kind.RowKind.TheVariants as rows
use Rattle.log_model.specs.Equal.{holds, implies, same_bool, same_actor, same_list, same_req}
use Rattle.log_model.specs.Outcomes.{is_outcome_of}
use Rattle.log_model.specs.Views.{View}
use Rattle.log_model.specs.Seen.{Seen, Document, Desk, Asked, document_of, desk_of, request_of}
use Rattle.log_model.specs.AfterRequests.{is_running}
use Rattle.log_model.specs.Events.{Point, have_number}
use Rattle.log_model.specs.Points.{refuses, nav_of_request, is_poke}

-- ---- the opening, and the numbers of events

-- the row opens the log: the start's, with the first entry, document state and document
abbrev pub is_opening : LogRow → Bool
is_opening row = row.event == 0 && same_actor row.actor actors.Start && opens_first row.row
  where
    opens_first : RowKind → Bool
    opens_first (rows.Opened entry state doc proc slot address) =
        entry.maker == 0 && entry.nr == 1 && state.0 == 1 && doc.0 == 1
    opens_first _ = false

-- the rows have one actor
abbrev pub have_one_actor : List LogRow → Bool
have_one_actor [] = true
have_one_actor (first ∷ rows) = list_all (λ (row : LogRow). same_actor row.actor first.actor) rows

-- events are numbered without a gap, and the rows of each have one actor
unfoldable pub is_numbered : Seen → List LogRow → Bool
is_numbered s rows = have_number s.events rows && have_one_actor rows

-- ---- which rows an event has

-- the first poke in the input of a process is of the request
abbrev pub is_first_poke : Seen → ProcId → ReqId → Bool
is_first_poke s proc req = holds (λ (poke : Poke). poke.req.0 == req.0) (slice_get (desk_of s proc).input 0)

-- the row may stand first in an event of the actor
abbrev pub may_begin : Seen → Actor → RowKind → Bool
may_begin s actors.Ui (rows.Accepted req doc what) = true
may_begin s actors.Ui (rows.Answered req stay) = true
may_begin s actors.Ui (rows.Evicted state) = true
may_begin s actors.Ui (rows.Killed proc death) = true
may_begin s actors.Coord (rows.Delivered proc) = true
may_begin s (actors.Proc p) (rows.Taken proc job live dirty) = p.0 == proc.0
may_begin s (actors.Proc p) (rows.Finished proc job outcome) = p.0 == proc.0
may_begin s (actors.Proc p) (rows.Made proc made) = p.0 == proc.0 && is_first_poke s proc made.req
may_begin s (actors.Proc p) (rows.Refused req reason) = is_first_poke s p req
may_begin s _ _ = false

-- the row tells what the coordinator does
abbrev pub is_work : RowKind → Bool
is_work (rows.Started req goal) = true
is_work (rows.Applied req change) = true
is_work (rows.Refused req reason) = true
is_work (rows.Dropped req cause) = true
is_work (rows.Prompted req doc) = true
is_work (rows.Sent job) = true
is_work _ = false

-- a row that drops
abbrev pub is_dropped : RowKind → Bool
is_dropped (rows.Dropped req cause) = true
is_dropped _ = false

-- a row that tells what was made
abbrev pub is_made : RowKind → Bool
is_made (rows.Made proc made) = true
is_made _ = false

-- a row that applies an edit
abbrev pub is_applied_edit : RowKind → Bool
is_applied_edit (rows.Applied req changes.Edit) = true
is_applied_edit _ = false

-- the row may stand further on in an event with that own row
abbrev pub may_follow : RowKind → RowKind → Bool
may_follow (rows.Accepted req doc what) row = is_work row
may_follow (rows.Answered req stay) row = is_work row
may_follow (rows.Evicted state) row = is_work row
may_follow (rows.Delivered proc) row = is_work row
may_follow (rows.Killed proc death) row = is_dropped row
may_follow (rows.Finished proc job outcome) row = is_made row
may_follow (rows.Made proc made) row = is_applied_edit row
may_follow _ row = false

-- the row stands where it may in its event
abbrev pub is_in_its_place : Point → LogRow → Bool
is_in_its_place p row = by_place p p.done row
  where
    by_place : Point → List LogRow → LogRow → Bool
    by_place p [] row = may_begin p.now row.actor row.row
    by_place p (own ∷ done) row = may_follow own.row row.row

-- ---- what follows a row

-- the requests that rows drop, in order
abbrev pub drops_in : List LogRow → List ReqId
drops_in later = filter_map (λ (row : LogRow). dropped row.row) later
  where
    dropped : RowKind → Option ReqId
    dropped (rows.Dropped req cause) = Some req
    dropped _ = None

-- one row follows, and it tells what was made of the order's request
abbrev pub is_followed_by_made : List LogRow → ReqId → Bool
is_followed_by_made (row ∷ []) req = by_kind row.row req
  where
    by_kind : RowKind → ReqId → Bool
    by_kind (rows.Made proc made) req = made.req.0 == req.0
    by_kind _ req = false
is_followed_by_made _ req = false

-- a finished order has no further row, but a fragment order whose document runs has what was made of it
abbrev pub is_followed_duly : Seen → Job → Task → List LogRow → Bool
is_followed_duly s job (tasks.DoFragment req mode address) later =
    if is_running s job.doc then is_followed_by_made later req else length later == 0
is_followed_duly s job _ later = length later == 0

-- an edit is applied at once; what else was made has no further row
abbrev pub is_applied_duly : Made → What → List LogRow → Bool
is_applied_duly made whats.Edit (row ∷ []) = by_kind row.row made.req
  where
    by_kind : RowKind → ReqId → Bool
    by_kind (rows.Applied req changes.Edit) r = req.0 == r.0
    by_kind _ r = false
is_applied_duly made whats.Edit _ = false
is_applied_duly made _ later = length later == 0

-- ---- what a row names

-- the document of the greater epoch
abbrev pub newer : Option Document → Document → Option Document
newer None d = Some d
newer (Some best) d = if nat_lt (epoch best) (epoch d) then Some d else Some best
  where
    epoch : Document → ℕ
    epoch d = option_map_or (λ (v : View). v.epoch.0) d.view 0

-- the documents of a navigable that run
abbrev pub running_documents : Seen → NavId → List Document
running_documents s nav =
    filter (λ (d : Document). d.nav.0 == nav.0 && holds (λ (view : View). view.running) d.view) s.documents

-- the document that a poke of a navigable reaches: the running one of the greatest epoch
abbrev pub poked_document : Seen → NavId → Option Document
poked_document s nav = fold newer None (running_documents s nav)

-- a poke names the document that it reaches, or none where it is refused in this event; another request names none
abbrev pub names_document : Point → ReqId → Option DocId → Request → Bool
names_document p req None what = not (is_poke what) || list_any (refuses req) p.later
names_document p req (Some doc) what =
    is_poke what && not (list_any (refuses req) p.later)
    && holds (λ (d : Document). d.nr.0 == doc.0) (option_and_then (poked_document p.now) (nav_of_request what))

-- the order that is taken is the first of the mail while nothing is in hand; it is live where its incarnation is the process's, and dirty where its document's view is
abbrev pub is_taken_duly : Seen → Desk → JobId → Bool → Bool → Bool
is_taken_duly s desk job live dirty = is_none desk.in_hand && holds (is_first s desk job live dirty) (slice_get desk.mail 0)
  where
    is_first : Seen → Desk → JobId → Bool → Bool → Job → Bool
    is_first s desk job live dirty first =
        first.nr.0 == job.0 && same_bool live (first.incarnation == length desk.killed)
        && same_bool dirty (holds (λ (d : Document). holds (λ (view : View). view.dirty) d.view) (document_of s first.doc))

-- the order that is finished is the one in hand, with an outcome of its task
abbrev pub is_finished_duly : Point → Desk → JobId → Outcome → Bool
is_finished_duly p desk job outcome =
    holds (λ (order : Order). order.job.nr.0 == job.0 && is_outcome_of order.job.task outcome && is_followed_duly p.now order.job order.job.task p.later)
    desk.in_hand

-- the last of a list
abbrev pub last_of : List DocId → Option DocId
last_of [] = None
last_of (doc ∷ []) = Some doc
last_of (doc ∷ docs) = last_of docs

-- the document state of the document that is kept longest
abbrev pub is_longest_kept : Seen → StateId → Bool
is_longest_kept s state = holds (λ (d : Document). d.state.0 == state.0) (option_and_then (document_of s) (last_of s.kept))

-- the request's prompt is up: the user was asked for it, and neither answered nor did the request end
abbrev pub awaits_answer : Asked → Bool
awaits_answer q = is_some q.prompted && is_none q.answered && is_none q.ending

-- what the row names is there
abbrev pub is_said_rightly : Point → LogRow → Bool
is_said_rightly p row = by_kind p p.now row.row
  where
    by_kind : Point → Seen → RowKind → Bool
    by_kind p s (rows.Accepted req doc what) = names_document p req doc what
    by_kind p s (rows.Answered req stay) = holds awaits_answer (request_of s req)
    by_kind p s (rows.Evicted state) = is_longest_kept s state
    by_kind p s (rows.Killed proc death) =
        death.0 == (s.deaths + 1)
        && same_list same_req (drops_in p.later) (map (λ (poke : Poke). poke.req) (desk_of s proc).input)
    by_kind p s (rows.Delivered proc) = is_some (slice_get (desk_of s proc).reports 0)
    by_kind p s (rows.Taken proc job live dirty) =
        is_taken_duly s (desk_of s proc) job live dirty && length p.later == 0
    by_kind p s (rows.Finished proc job outcome) = is_finished_duly p (desk_of s proc) job outcome
    by_kind p s (rows.Made proc made) = implies (length p.done == 0) (is_applied_duly made made.what p.later)
    by_kind p s (rows.Started req goal) = is_some (request_of s req)
    by_kind p s (rows.Applied req change) = is_some (request_of s req)
    by_kind p s (rows.Refused req reason) = is_some (request_of s req)
    by_kind p s (rows.Dropped req cause) = is_some (request_of s req)
    by_kind p s (rows.Prompted req doc) = is_some (request_of s req)
    by_kind p s _ = true

-- the row stands where it may, and what it names is there
abbrev pub is_formed_row : Point → LogRow → Bool
is_formed_row p row = is_in_its_place p row && is_said_rightly p row
