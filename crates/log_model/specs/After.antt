-- How each row of a log changes what the log has come to: one function for each part.
-- This project's own.
use Rattle.std.specs.Prelude.{ℕ, ◌+◌, Bool, true, false, not, ◌&&◌, ◌||◌, ◌==◌, List, [], ◌∷◌, ◌++◌, drop, map, filter, slice_get, bytes_eq, option_map, Option, Some, None, is_some, if◌then◌else◌}
use Rattle.std.specs.Option.{option_map_or}
use Rattle.tab_ids.specs.declared.Death.{Death}
use Rattle.tab_ids.specs.declared.ProcId.{ProcId}
use Rattle.tab_ids.specs.declared.DocId.{DocId}
use Rattle.tab_ids.specs.declared.ReqId.{ReqId}
use Rattle.tab_ids.specs.declared.StateId.{StateId}
use Rattle.log_model.specs.declared.action.Action.{Action}
use Rattle.log_model.specs.declared.change.Change.{Change}
use Rattle.log_model.specs.declared.change.Change.TheVariants as changes
use Rattle.log_model.specs.declared.job.Job.{Job}
use Rattle.log_model.specs.declared.made.Made.{Made}
use Rattle.log_model.specs.declared.made.What.{What}
use Rattle.log_model.specs.declared.made.What.TheVariants as whats
use Rattle.log_model.specs.declared.made.Report.{Report}
use Rattle.log_model.specs.declared.made.Report.TheVariants as reports
use Rattle.log_model.specs.declared.outcome.Ending.{Ending}
use Rattle.log_model.specs.declared.outcome.Ending.TheVariants as endings
use Rattle.log_model.specs.declared.outcome.Outcome.{Outcome}
use Rattle.log_model.specs.declared.request.Poke.{Poke}
use Rattle.address.specs.Addresses.{blank_text}
use Rattle.log_model.specs.declared.request.Request.{Request}
use Rattle.log_model.specs.declared.request.Request.TheVariants as requests
use Rattle.log_model.specs.declared.row_kind.Actor.{Actor}
use Rattle.log_model.specs.declared.row_kind.Actor.TheVariants as actors
use Rattle.log_model.specs.declared.row_kind.LogRow.{LogRow}
use Rattle.log_model.specs.declared.row_kind.RowKind.{RowKind}
use Rattle.log_model.specs.declared.row_kind.RowKind.TheVariants as rows
use Rattle.log_model.specs.History.{History, applied}
use Rattle.log_model.specs.Equal.{holds}
pub use Rattle.log_model.specs.Opening.{opening_history}
use Rattle.log_model.specs.Seen.{Seen, Desk, Asked, document_of, empty_desk, request_of}
use Rattle.log_model.specs.Places.{is_load, is_reload, all_stand}
use Rattle.log_model.specs.AfterPlaces.{places_after, kept_after}
pub use Rattle.log_model.specs.AfterDocuments.{opening_document, on_document, told_by, frozen_by, addressed, told_after_change, with_applied, applied_to, new_document, documents_sent, task_in_hand, view_finished, documents_finished, slot_finished, documents_delivered, documents_killed, documents_after}
use Rattle.log_model.specs.AfterRequests.{on_request, requests_told, joined_after, parked_after}

-- ---- the history

-- an applied change changes the history; nothing else does
abbrev pub history_after : History → RowKind → History
history_after history (rows.Opened entry state doc proc slot address) = opening_history entry state address
history_after history (rows.Applied req change) = applied history change
history_after history _ = history

-- ---- the processes

-- the desks with that of one process changed; a process that no row has named gets a desk
abbrev pub on_desk : ProcId → (Desk → Desk) → List Desk → List Desk
on_desk proc f [] = f (empty_desk proc) ∷ []
on_desk proc f (desk ∷ desks) = if desk.proc.0 == proc.0 then f desk ∷ desks else desk ∷ on_desk proc f desks

-- an accepted poke joins the input of its document's process
abbrev pub poked : Seen → ReqId → DocId → Action → List Desk
poked s req doc action =
    option_map_or
    (λ d. on_desk d.proc (λ desk. record desk { input = desk.input ++ record { req = req; doc = doc; action = action } ∷ [] }) s.desks)
    (document_of s doc)
    s.desks

-- an accepted request joins an input where it pokes a document
abbrev pub desks_accepted : Seen → ReqId → Option DocId → Request → List Desk
desks_accepted s req (Some doc) (requests.Poke nav action) = poked s req doc action
desks_accepted s req _ _ = s.desks

-- a poke that its process refuses leaves the input
abbrev pub desks_refused : List Desk → Actor → List Desk
desks_refused desks (actors.Proc proc) = on_desk proc (λ desk. record desk { input = drop 1 desk.input }) desks
desks_refused desks _ = desks

-- what was made of the first poke is reported, but for an edit
abbrev pub reports_made : List Report → Made → What → List Report
reports_made waiting made whats.Edit = waiting
reports_made waiting made _ = waiting ++ reports.Made made ∷ []

-- the process makes something of its first poke
abbrev pub desk_made : Made → Desk → Desk
desk_made made desk = record desk { input = drop 1 desk.input; reports = reports_made desk.reports made made.what }

-- a live order is in hand; a void one is let go
abbrev pub desk_taken : Bool → Bool → Desk → Desk
desk_taken live dirty desk =
    record desk {
      mail = drop 1 desk.mail;
      in_hand = if live then option_map (λ job. record { job = job; dirty = dirty }) (slice_get desk.mail 0) else None;
    }

-- the order in hand is done, and its report waits
abbrev pub desk_finished : Outcome → Desk → Desk
desk_finished outcome desk =
    record desk {
      in_hand = None;
      reports = option_map_or (λ order. desk.reports ++ reports.Done order.job outcome None ∷ []) desk.in_hand desk.reports;
    }

-- what a document made of the order that was just finished joins the report of it
abbrev pub reports_joined : Made → List Report → List Report
reports_joined made [] = []
reports_joined made (reports.Done job outcome joined ∷ []) = reports.Done job outcome (Some made) ∷ []
reports_joined made (report ∷ waiting) = report ∷ reports_joined made waiting

-- the row stands straight after the end of an order, in the same event
abbrev pub follows_finished : Seen → LogRow → Bool
follows_finished s row = s.events == (row.event + 1) && is_some s.just_finished

-- what was made joins the report of the order before it, or it is made of the first poke
abbrev pub desks_made : Bool → Made → Desk → Desk
desks_made true made desk = record desk { reports = reports_joined made desk.reports }
desks_made false made desk = desk_made made desk

-- a delivered death is known
abbrev pub known_after : ℕ → Option Report → ℕ
known_after known (Some (reports.Died death)) = known + 1
known_after known _ = known

-- the first report is taken
abbrev pub desk_delivered : Desk → Desk
desk_delivered desk =
    record desk { reports = drop 1 desk.reports; known = known_after desk.known (slice_get desk.reports 0) }

-- a death empties the hand, raises the incarnation and waits to be reported; the mail stays
abbrev pub desk_killed : Death → Desk → Desk
desk_killed death desk =
    record desk { in_hand = None; reports = desk.reports ++ reports.Died death ∷ []; killed = desk.killed ++ death ∷ [] }

-- a poke that is dropped leaves the input
abbrev pub desk_dropped : ReqId → Desk → Desk
desk_dropped req desk = record desk { input = filter (λ (poke : Poke). not (poke.req.0 == req.0)) desk.input }

-- what each row does to the processes
abbrev pub desks_after : Seen → LogRow → List Desk
desks_after s row = by_kind s (follows_finished s row) row.actor row.row
  where
    by_kind : Seen → Bool → Actor → RowKind → List Desk
    by_kind s joins actor (rows.Opened entry state doc proc slot address) = empty_desk proc ∷ []
    by_kind s joins actor (rows.Accepted req doc what) = desks_accepted s req doc what
    by_kind s joins actor (rows.Refused req reason) = desks_refused s.desks actor
    by_kind s joins actor (rows.Sent job) = on_desk job.proc (λ desk. record desk { mail = desk.mail ++ job ∷ [] }) s.desks
    by_kind s joins actor (rows.Taken proc job live dirty) = on_desk proc (desk_taken live dirty) s.desks
    by_kind s joins actor (rows.Finished proc job outcome) = on_desk proc (desk_finished outcome) s.desks
    by_kind s joins actor (rows.Made proc made) = on_desk proc (desks_made joins made) s.desks
    by_kind s joins actor (rows.Delivered proc) = on_desk proc desk_delivered s.desks
    by_kind s joins actor (rows.Dropped req cause) = map (desk_dropped req) s.desks
    by_kind s joins actor (rows.Killed proc death) = on_desk proc (desk_killed death) s.desks
    by_kind s joins actor _ = s.desks

-- ---- the requests

-- a request as it is accepted
abbrev pub new_request : ReqId → Option DocId → Request → Asked
new_request req doc what =
    record {
      ending = None;
      nr = req;
      what = what;
      doc = doc;
      is_started = false;
      goal = None;
      state = None;
      replaces = false;
      awake_then = [];
      asks = [];
      prompted = None;
      answered = None;
      made = None;
      fragment = None;
      is_not_found = false;
      change = None;
      took = [];
      activated = [];
      moved = [];
    }

-- the request of a number has ended
abbrev pub ended : List Asked → ReqId → Ending → List Asked
ended asked req ending = on_request req (λ q. record q { ending = Some ending }) asked

-- what each row says of the requests
abbrev pub requests_after : List Asked → RowKind → List Asked
requests_after asked (rows.Accepted req doc what) = asked ++ new_request req doc what ∷ []
requests_after asked (rows.Started req goal) = on_request req (λ q. record q { is_started = true; goal = goal }) asked
requests_after asked (rows.Applied req change) =
    on_request req (λ q. record q { change = Some change }) (ended asked req endings.Applied)
requests_after asked (rows.Refused req reason) = ended asked req (endings.Refused reason)
requests_after asked (rows.Dropped req cause) = ended asked req (endings.Dropped cause)
requests_after asked (rows.Prompted req doc) = on_request req (λ q. record q { prompted = Some doc }) asked
requests_after asked (rows.Answered req stay) = on_request req (λ q. record q { answered = Some stay }) asked
requests_after asked (rows.Made proc made) = on_request made.req (λ q. record q { made = Some made }) asked
requests_after asked _ = asked

-- ---- what is numbered

-- how many orders were sent
abbrev pub jobs_after : ℕ → RowKind → ℕ
jobs_after jobs (rows.Sent job) = jobs + 1
jobs_after jobs _ = jobs

-- the request is a load
abbrev pub is_load_request : Seen → ReqId → Bool
is_load_request s req = holds (λ (q : Asked). is_load q.what) (request_of s req)

-- how many document states were numbered: the first, and one where a load begins or a frame is added
abbrev pub states_after : Seen → RowKind → ℕ
states_after s (rows.Opened entry state doc proc slot address) = 1
states_after s (rows.Started req goal) = if is_load_request s req then s.states + 1 else s.states
states_after s (rows.Applied req (changes.AddFrame owner nav entry state)) = s.states + 1
states_after s _ = s.states

-- how many entries the coordinator numbered: the first, and one where a load or a new frame is applied
abbrev pub entries_after : ℕ → RowKind → ℕ
entries_after entries (rows.Opened entry state doc proc slot address) = 1
entries_after entries (rows.Applied req change) = by_change entries change
  where
    by_change : ℕ → Change → ℕ
    by_change entries (changes.Push nav entry state address memo) = if entry.maker == 0 then entries + 1 else entries
    by_change entries (changes.Replace nav over entry state address memo) =
        if entry.maker == 0 then entries + 1 else entries
    by_change entries (changes.AddFrame owner nav entry state) = entries + 1
    by_change entries _ = entries
entries_after entries _ = entries

-- how many deaths there were
abbrev pub deaths_after : ℕ → RowKind → ℕ
deaths_after deaths (rows.Killed proc death) = deaths + 1
deaths_after deaths _ = deaths

-- the document states of initial about:blank documents: the first where it is about:blank, and that of each new frame
abbrev pub initial_states_after : List StateId → RowKind → List StateId
initial_states_after states (rows.Opened entry state doc proc slot address) =
    if bytes_eq address blank_text then state ∷ [] else []
initial_states_after states (rows.Applied req (changes.AddFrame owner nav entry state)) = states ++ state ∷ []
initial_states_after states _ = states

-- ---- the last reload, or load with a new document

-- the applied change is that of a reload, or of a load with a new document
abbrev pub is_new_step : Seen → ReqId → Bool
is_new_step s req =
    holds (λ (q : Asked). is_reload q.what || (is_load q.what && q.is_started)) (request_of s req)

-- the order that a row has finished
abbrev pub finished_by : Seen → RowKind → Option Job
finished_by s (rows.Finished proc job outcome) = task_in_hand s proc
finished_by s _ = None

-- the reload, or load with a new document, that was applied last
abbrev pub last_step_after : Seen → RowKind → Option ReqId
last_step_after s (rows.Applied req change) = if is_new_step s req then Some req else s.last_step
last_step_after s _ = s.last_step

-- whether all stood at the current step since: not yet, where such a change is applied
abbrev pub has_stood_after : Seen → RowKind → Bool
has_stood_after s (rows.Applied req change) = not (is_new_step s req) && s.has_stood
has_stood_after s _ = s.has_stood

-- they have stood, or they stand now
abbrev pub has_stood_now : Bool → Seen → Bool
has_stood_now true s = true
has_stood_now false s = all_stand s s.history.current

-- ---- the whole

-- what the log has come to after one more row, but for whether all stand
abbrev pub changed : Seen → LogRow → Seen
changed s row =
    record {
      events = row.event + 1;
      history = history_after s.history row.row;
      documents = documents_after s row.row;
      desks = desks_after s row;
      requests = requests_told s row.row (requests_after s.requests row.row);
      jobs = jobs_after s.jobs row.row;
      places = places_after s row.row;
      kept = kept_after s row.row;
      joined = joined_after s row.row;
      parked = parked_after s row.row;
      states = states_after s row.row;
      entries = entries_after s.entries row.row;
      deaths = deaths_after s.deaths row.row;
      initial_states = initial_states_after s.initial_states row.row;
      just_finished = finished_by s row.row;
      last_step = last_step_after s row.row;
      has_stood = has_stood_after s row.row;
    }

-- what the log has come to after one more row
abbrev pub after : Seen → LogRow → Seen
after s row = let new = changed s row in record new { has_stood = has_stood_now new.has_stood new }
