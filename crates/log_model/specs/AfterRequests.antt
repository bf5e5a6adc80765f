-- What each row of a log adds to the requests from the state that it meets, and to the queue of traversals and reloads.
-- HTML Standard, "session history traversal queue"; held back reports are this project's own form of "synchronous navigation steps".
use Rattle.std.specs.Prelude.{ℕ, ◌+◌, ◌-◌, Bool, true, false, not, ◌&&◌, ◌||◌, ◌==◌, List, [], ◌∷◌, ◌++◌, map, filter, filter_map, slice_get, slice_set, bytes_eq, Option, Some, None, option_and_then, if◌then◌else◌}
use Rattle.std.specs.List.{list_any}
use Rattle.std.specs.Option.{option_map_or}
use Rattle.tab_ids.specs.declared.NavId.{NavId}
use Rattle.tab_ids.specs.declared.StateId.{StateId}
use Rattle.tab_ids.specs.declared.DocId.{DocId}
use Rattle.tab_ids.specs.declared.EntryId.{EntryId}
use Rattle.tab_ids.specs.declared.JobId.{JobId}
use Rattle.tab_ids.specs.declared.ReqId.{ReqId}
use Rattle.log_model.specs.declared.change.Change.{Change}
use Rattle.log_model.specs.declared.job.Job.{Job}
use Rattle.log_model.specs.declared.job.Order.{Order}
use Rattle.log_model.specs.declared.job.Task.{Task}
use Rattle.log_model.specs.declared.job.Task.TheVariants as tasks
use Rattle.log_model.specs.declared.job.Why.{Why}
use Rattle.log_model.specs.declared.job.Why.TheVariants as whys
use Rattle.log_model.specs.declared.made.Made.{Made}
use Rattle.log_model.specs.declared.made.What.{What}
use Rattle.log_model.specs.declared.made.What.TheVariants as whats
use Rattle.log_model.specs.declared.made.Report.{Report}
use Rattle.log_model.specs.declared.made.Report.TheVariants as reports
use Rattle.log_model.specs.declared.outcome.Outcome.{Outcome}
use Rattle.log_model.specs.declared.outcome.Outcome.TheVariants as outcomes
use Rattle.log_model.specs.declared.request.Mode.{Mode}
use Rattle.log_model.specs.declared.request.Mode.TheVariants as modes
use Rattle.log_model.specs.declared.request.Request.{Request}
use Rattle.log_model.specs.declared.request.Request.TheVariants as requests
use Rattle.log_model.specs.declared.row.Row.{Row}
use Rattle.log_model.specs.declared.row_kind.RowKind.{RowKind}
use Rattle.log_model.specs.declared.row_kind.RowKind.TheVariants as rows
use Rattle.log_model.specs.Equal.{holds}
use Rattle.log_model.specs.History.{History, same_entry, has_nav, has_row, applied}
use Rattle.log_model.specs.Views.{View}
use Rattle.log_model.specs.Seen.{Seen, Document, Asked, Asking, document_of, desk_of, request_in, place_of}
use Rattle.log_model.specs.Places.{awake_document, running_traversal, is_present, given_row}
use Rattle.log_model.specs.AfterPlaces.{sleepers_below, sleepers_with}

-- the requests with one of them changed
abbrev pub on_request : ReqId → (Asked → Asked) → List Asked → List Asked
on_request req f asked = option_map_or (λ q. slice_set asked (req.0 - 1) (f q)) (request_in asked req) asked

-- ---- where a load, traversal or reload begins

-- the document state is one of initial about:blank documents
abbrev pub is_initial_state : Seen → StateId → Bool
is_initial_state s state = list_any (λ (initial : StateId). initial.0 == state.0) s.initial_states

-- the mode is replace, or it is auto and the address is the given entry's
abbrev pub wants_replace : Mode → List ℕ → Option Row → Bool
wants_replace modes.Replace address given = true
wants_replace modes.Auto address given = holds (λ (row : Row). bytes_eq address row.address) given
wants_replace modes.Push address given = false

-- a load is to replace the given entry: it wants to, or that entry's document is an initial about:blank one ("navigate": history handling)
abbrev pub load_replaces : Seen → Request → Bool
load_replaces s (requests.Load nav mode address) =
    option_map_or (λ place. replaces s mode address (given_row s place)) (place_of s nav) false
  where
    replaces : Seen → Mode → List ℕ → Option Row → Bool
    replaces s mode address given =
        wants_replace mode address given || holds (λ (row : Row). is_initial_state s row.state) given
load_replaces s _ = false

-- a document state is numbered for a load that begins
abbrev pub load_state : Seen → Request → Option StateId
load_state s (requests.Load nav mode address) = Some (record { 0 = s.states + 1 })
load_state s _ = None

-- the documents that navigables are awake on
abbrev pub awake_documents : Seen → List DocId
awake_documents s = filter_map awake_document s.places

-- what is kept of the state as a request begins
abbrev pub request_begun : Seen → Asked → Asked
request_begun s q =
    record q { state = load_state s q.what; replaces = load_replaces s q.what; awake_then = awake_documents s }

-- ---- what its orders do

-- a question was sent for the request
abbrev pub with_asking : Job → Asked → Asked
with_asking job q =
    record q { asks = q.asks ++ record { job = job.nr; doc = job.doc; verdict = None; is_delivered = false } ∷ [] }

-- the questions with that of one order changed
abbrev pub on_asking : JobId → (Asking → Asking) → Asked → Asked
on_asking job f q = record q { asks = map (λ (asking : Asking). if asking.job.0 == job.0 then f asking else asking) q.asks }

-- the navigables were moved for the request
abbrev pub with_moved : List NavId → Asked → Asked
with_moved navs q = record q { moved = navs ++ q.moved }

-- the navigable was shown a document for the request
abbrev pub with_activated : NavId → Asked → Asked
with_activated nav q = record q { activated = nav ∷ q.activated; moved = nav ∷ q.moved }

-- what an order for a request adds to it
abbrev pub request_served : Seen → Job → Task → Asked → Asked
request_served s job (tasks.Activate entry epoch length index memo address) q =
    option_map_or (λ (d : Document). with_activated d.nav (with_moved (option_map_or (sleepers_below s job.doc) (place_of s d.nav) []) q)) (document_of s job.doc) q
request_served s job tasks.Freeze q = with_moved (sleepers_with s job.doc) q
request_served s job tasks.Discard q = with_moved (sleepers_with s job.doc) q
request_served s job (tasks.Ask slot cause) q = with_asking job q
request_served s job _ q = q

-- the requests with that of an order changed
abbrev pub on_served : Why → (Asked → Asked) → List Asked → List Asked
on_served (whys.Req req) f asked = on_request req f asked
on_served _ f asked = asked

-- a fragment order answers the load of its own request; an order that makes a document, or tells one something, adds nothing
abbrev pub requests_sent : Seen → Job → Task → List Asked → List Asked
requests_sent s job (tasks.DoFragment req mode address) asked =
    on_request req (λ q. record q { fragment = Some job.doc }) asked
requests_sent s job (tasks.Populate nav state address initial) asked = asked
requests_sent s job (tasks.Update length index) asked = asked
requests_sent s job task asked = on_served job.why (request_served s job task) asked

-- ---- what its documents answer

-- the document of a number runs
abbrev pub is_running : Seen → DocId → Bool
is_running s doc = holds (λ (d : Document). holds (λ (view : View). view.running) d.view) (document_of s doc)

-- a finished question has its answer; a fragment order may have found its document not running
abbrev pub requests_finished : Seen → Option Order → Outcome → List Asked → List Asked
requests_finished s None outcome asked = asked
requests_finished s (Some order) (outcomes.Asked verdict) asked =
    on_served order.job.why (on_asking order.job.nr (λ asking. record asking { verdict = Some verdict })) asked
requests_finished s (Some order) outcomes.Fragmented asked = by_task s order.job order.job.task asked
  where
    by_task : Seen → Job → Task → List Asked → List Asked
    by_task s job (tasks.DoFragment req mode address) asked =
        on_request req (λ q. record q { is_not_found = not (is_running s job.doc) }) asked
    by_task s job _ asked = asked
requests_finished s (Some order) _ asked = asked

-- the report of a question's answer is delivered
abbrev pub requests_delivered : Option Report → List Asked → List Asked
requests_delivered (Some (reports.Done job (outcomes.Asked verdict) made)) asked =
    on_served job.why (on_asking job.nr (λ asking. record asking { is_delivered = true })) asked
requests_delivered _ asked = asked

-- the entries that a change takes from the history
abbrev pub entries_taken : History → Change → List EntryId
entries_taken history change =
    map (λ (row : Row). row.entry)
    (filter (λ (row : Row). not (list_any (λ (left : Row). same_entry left.entry row.entry) (applied history change).rows)) history.rows)

-- what each row adds to the requests, with the state that it meets
abbrev pub requests_told : Seen → RowKind → List Asked → List Asked
requests_told s (rows.Started req goal) asked = on_request req (request_begun s) asked
requests_told s (rows.Applied req change) asked =
    on_request req (λ q. record q { took = entries_taken s.history change }) asked
requests_told s (rows.Sent job) asked = requests_sent s job job.task asked
requests_told s (rows.Finished proc job outcome) asked = requests_finished s (desk_of s proc).in_hand outcome asked
requests_told s (rows.Delivered proc) asked = requests_delivered (slice_get (desk_of s proc).reports 0) asked
requests_told s _ asked = asked

-- ---- the queue

-- the requests without one
abbrev pub without_req : ReqId → List ReqId → List ReqId
without_req req reqs = filter (λ (r : ReqId). not (r.0 == req.0)) reqs

-- what was made, where the report tells of it
abbrev pub made_of_report : Report → Option Made
made_of_report (reports.Made made) = Some made
made_of_report (reports.Done job outcome made) = made
made_of_report (reports.Died death) = None

-- a user's traversal or reload joins as it is accepted
abbrev pub joined_accepted : List ReqId → ReqId → Request → List ReqId
joined_accepted joined req (requests.Go delta) = joined ++ req ∷ []
joined_accepted joined req (requests.Reload nav) = joined ++ req ∷ []
joined_accepted joined req _ = joined

-- a document's traversal joins as its report is delivered
abbrev pub joined_delivered : List ReqId → Option Made → List ReqId
joined_delivered joined None = joined
joined_delivered joined (Some made) = by_what joined made.req made.what
  where
    by_what : List ReqId → ReqId → What → List ReqId
    by_what joined req (whats.Go delta) = joined ++ req ∷ []
    by_what joined req _ = joined

-- what each row does to the queue of traversals and reloads
abbrev pub joined_after : Seen → RowKind → List ReqId
joined_after s (rows.Accepted req doc what) = joined_accepted s.joined req what
joined_after s (rows.Delivered proc) =
    joined_delivered s.joined (option_and_then made_of_report (slice_get (desk_of s proc).reports 0))
joined_after s (rows.Applied req change) = without_req req s.joined
joined_after s (rows.Refused req reason) = without_req req s.joined
joined_after s (rows.Dropped req cause) = without_req req s.joined
joined_after s _ = s.joined

-- ---- held back reports

-- what was made changes the history: a push, a replace, or a frame added or removed
abbrev pub changes_history : What → Bool
changes_history (whats.Push entry memo address) = true
changes_history (whats.Replace over entry memo address) = true
changes_history (whats.AddFrame nav) = true
changes_history (whats.RemoveFrame nav) = true
changes_history (whats.Go delta) = false
changes_history whats.Edit = false

-- the running traversal has shown the navigable a document
abbrev pub is_traversed : Seen → NavId → Bool
is_traversed s nav = holds (λ (q : Asked). has_nav q.activated nav) (running_traversal s)

-- what was made is present, in a navigable that has a row
abbrev pub is_in_place : Seen → Made → Bool
is_in_place s made =
    is_present s made && holds (λ (d : Document). has_row d.nav s.history.rows) (document_of s made.doc)

-- the navigable of what was made was shown a document by the running traversal
abbrev pub is_held_up : Seen → Made → Bool
is_held_up s made = holds (λ (d : Document). is_traversed s d.nav) (document_of s made.doc)

-- a delivered report that changes the history is held back where the running traversal has shown its navigable a document
abbrev pub is_held_back : Seen → Made → Bool
is_held_back s made = changes_history made.what && is_in_place s made && is_held_up s made

-- what each row does to the held back reports
abbrev pub parked_after : Seen → RowKind → List ReqId
parked_after s (rows.Delivered proc) =
    option_map_or (λ (made : Made). if is_held_back s made then s.parked ++ made.req ∷ [] else s.parked)
    (option_and_then made_of_report (slice_get (desk_of s proc).reports 0))
    s.parked
parked_after s (rows.Applied req change) = without_req req s.parked
parked_after s (rows.Refused req reason) = without_req req s.parked
parked_after s (rows.Dropped req cause) = without_req req s.parked
parked_after s _ = s.parked
