-- Each order to a document's process has its cause.
-- HTML Standard, "attempt to populate the history entry's document", "activate history entry", "update document for history step application", "destroy a document", "checking if unloading is canceled", "navigate to a fragment". This project's own: the exact causes, epochs, numbers and incarnations.
use Rattle.std.specs.Prelude.{ℕ, ◌+◌, Bool, true, false, not, ◌&&◌, ◌||◌, ◌==◌, nat_lt, List, length, filter, filter_map, find, take_while, bytes_eq, Option, Some, None, is_none, option_map, option_and_then, if◌then◌else◌}
use Rattle.std.specs.List.{list_all, list_any}
use Rattle.tab_ids.specs.declared.NavId.{NavId}
use Rattle.tab_ids.specs.declared.StateId.{StateId}
use Rattle.tab_ids.specs.declared.DocId.{DocId}
use Rattle.tab_ids.specs.declared.EntryId.{EntryId}
use Rattle.tab_ids.specs.declared.Epoch.{Epoch}
use Rattle.tab_ids.specs.declared.ReqId.{ReqId}
use Rattle.tab_ids.specs.declared.Step.{Step}
use Rattle.log_model.specs.declared.handler.LeaveCause.{LeaveCause}
use Rattle.log_model.specs.declared.handler.LeaveCause.TheVariants as leavings
use Rattle.log_model.specs.declared.job.Job.{Job}
use Rattle.log_model.specs.declared.job.Task.{Task}
use Rattle.log_model.specs.declared.job.Task.TheVariants as tasks
use Rattle.log_model.specs.declared.job.Why.{Why}
use Rattle.log_model.specs.declared.job.Why.TheVariants as whys
use Rattle.log_model.specs.declared.made.Report.{Report}
use Rattle.log_model.specs.declared.made.Report.TheVariants as reports
use Rattle.log_model.specs.declared.outcome.Outcome.TheVariants as outcomes
use Rattle.log_model.specs.declared.request.Mode.{Mode}
use Rattle.log_model.specs.declared.request.Request.{Request}
use Rattle.log_model.specs.declared.request.Request.TheVariants as requests
use Rattle.log_model.specs.declared.row.Row.{Row}
use Rattle.log_model.specs.declared.row_kind.LogRow.{LogRow}
use Rattle.log_model.specs.declared.row_kind.RowKind.{RowKind}
use Rattle.log_model.specs.declared.row_kind.RowKind.TheVariants as rows
use Rattle.log_model.specs.Equal.{holds, same_list, same_memo, same_mode, same_leaving, same_bool, same_pair, has_doc}
use Rattle.log_model.specs.History.{same_entry, has_nav, has_state, target_entry}
use Rattle.log_model.specs.Seen.{Seen, Document, Asked, Place, document_of, desk_of, request_of, place_of}
use Rattle.log_model.specs.Places.{is_shown, targets_state, is_asleep, is_awake_on, awake_document, shower_of, way_of, is_document_below, given_row, has_passed, is_ongoing_load, aim_of, stands, is_fragment_navigation, pair_at, told_pair, due_pair}
use Rattle.log_model.specs.AfterRequests.{is_initial_state}
use Rattle.log_model.specs.Walk.{walk_of}
use Rattle.log_model.specs.Events.{Point}
use Rattle.log_model.specs.Formed.{last_of}
use Rattle.log_model.specs.Points.{rows_of_event, taken_report, is_accepted_here, had_started, order_of}

-- ---- what is read

-- the load whose document state it is, while it is ongoing
abbrev pub ongoing_load : Seen → StateId → Option Asked
ongoing_load s state =
    find (λ (q : Asked). is_ongoing_load q && holds (λ (own : StateId). own.0 == state.0) q.state) s.requests

-- the target of the navigable at the aim
abbrev pub target_at_aim : Seen → NavId → Option Row
target_at_aim s nav = target_entry s.history.rows nav (aim_of s)

-- the place of the navigable of an order's document
abbrev pub place_of_order : Seen → Job → Option Place
place_of_order s job = option_and_then (λ (d : Document). place_of s d.nav) (document_of s job.doc)

-- ---- Populate: "attempt to populate the history entry's document"

-- the order makes the document of a load that has begun and passed, at its navigable and address
abbrev pub populates_load : Seen → NavId → StateId → List ℕ → Bool → Bool
populates_load s nav state address initial =
    holds (λ (q : Asked). has_passed s q && loads_there nav address q.what && not initial) (ongoing_load s state)
  where
    loads_there : NavId → List ℕ → Request → Bool
    loads_there nav address (requests.Load n mode a) = n.0 == nav.0 && bytes_eq a address
    loads_there nav address _ = false

-- the order makes the document of the target of a shown navigable at the aim, an initial about:blank one where its document state is
abbrev pub populates_target : Seen → NavId → StateId → List ℕ → Bool → Bool
populates_target s nav state address initial =
    is_shown s.history.rows (aim_of s) nav
    && holds (λ (row : Row). row.state.0 == state.0 && bytes_eq row.address address) (target_at_aim s nav)
    && same_bool initial (is_initial_state s state)

-- the order that makes the document is outstanding: its end isn't reported, and the document isn't known dead
abbrev pub is_being_made : Document → Bool
is_being_made d = not d.is_ready && not d.is_known_dead

-- no document of the state is being made, and each is gone or the navigable is to be reloaded
abbrev pub needs_document : Seen → NavId → StateId → Bool
needs_document s nav state =
    list_all (λ (d : Document). not (is_being_made d) && (d.is_discarded || d.is_known_dead || is_reloaded s nav)) (filter (λ (d : Document). d.state.0 == state.0) s.documents)
  where
    is_reloaded : Seen → NavId → Bool
    is_reloaded s nav = holds (λ (place : Place). place.is_pending) (place_of s nav)

-- a document is made for a passed load or for a target at the aim, where there is none
abbrev pub is_populated_duly : Seen → NavId → StateId → List ℕ → Bool → Bool
is_populated_duly s nav state address initial =
    (populates_load s nav state address initial || populates_target s nav state address initial) && needs_document s nav state

-- ---- Activate: "activate history entry"

-- the navigable is asleep, or was given another entry, or is to be reloaded
abbrev pub needs_activation : Place → EntryId → Bool
needs_activation place entry = is_asleep place || not (holds (same_entry entry) place.given) || place.is_pending

-- the document is there, made for the state
abbrev pub is_usable : Document → StateId → Bool
is_usable d state = d.state.0 == state.0 && d.is_ready && not d.is_discarded && not d.is_known_dead

-- a navigable that needs it is shown a usable document of its target at the aim, with that entry's fields, the aim's length and index, and a greater epoch
abbrev pub is_activated_duly : Seen → Job → EntryId → Epoch → ℕ × ℕ → Option (List ℕ) → List ℕ → Bool
is_activated_duly s job entry epoch pair memo address = holds (in_document s entry epoch pair memo address) (document_of s job.doc)
  where
    is_row : Document → EntryId → Option (List ℕ) → List ℕ → Row → Bool
    is_row d entry memo address row =
        same_entry row.entry entry && same_memo row.memo memo && bytes_eq row.address address && is_usable d row.state

    at_place : EntryId → Epoch → Place → Bool
    at_place entry epoch place = needs_activation place entry && nat_lt place.epoch.0 epoch.0

    in_document : Seen → EntryId → Epoch → ℕ × ℕ → Option (List ℕ) → List ℕ → Document → Bool
    in_document s entry epoch pair memo address d =
        holds (at_place entry epoch) (place_of s d.nav)
        && holds (is_row d entry memo address) (target_at_aim s d.nav)
        && same_pair pair (pair_at s (aim_of s))

-- ---- Update: "update document for history step application"

-- an awake navigable is told the due length and index, which it wasn't told
abbrev pub is_updated_duly : Seen → Job → ℕ × ℕ → Bool
is_updated_duly s job pair =
    holds (λ place. not (holds (same_pair pair) (told_pair s place)) && same_pair pair (due_pair s place.nav)) (shower_of s job.doc)

-- ---- Freeze and Discard: leaving a document, and "destroy a document"

-- the row shows the navigable a document, other than the one it was awake on as the event began, or discards one of its documents
abbrev pub displaces : Point → NavId → LogRow → Bool
displaces p nav row = holds (λ job. is_of_nav p nav job && by_task p nav job job.task) (order_of row)
  where
    is_of_nav : Point → NavId → Job → Bool
    is_of_nav p nav job = holds (λ (d : Document). d.nav.0 == nav.0) (document_of p.now job.doc)

    by_task : Point → NavId → Job → Task → Bool
    by_task p nav job (tasks.Activate entry epoch length index memo address) =
        not (holds (is_awake_on job.doc) (place_of p.start nav))
    by_task p nav job tasks.Discard = true
    by_task p nav job _ = false

-- a document that a navigable was awake on as the event began is frozen, where that navigable or one above is shown another document or loses its own in this event
abbrev pub is_frozen_duly : Point → LogRow → Job → Bool
is_frozen_duly p row job =
    holds (λ place. list_any (λ nav. list_any (displaces p nav) (rows_of_event p row)) (way_of place)) (shower_of p.start job.doc)

-- no row has the document's state, nor an ongoing load
abbrev pub is_stateless : Seen → Document → Bool
is_stateless s d = not (has_state d.state s.history.rows) && is_none (ongoing_load s d.state)

-- this event takes the report that the document was made, and neither an ongoing load nor a target of a shown navigable at the aim needs it
abbrev pub is_unneeded : Point → LogRow → Document → Bool
is_unneeded p row d =
    holds (tells_made d) (taken_report p row) && is_none (ongoing_load p.now d.state)
    && not (list_any (is_target p.now d.state) p.now.places)
  where
    tells_made : Document → Report → Bool
    tells_made d (reports.Done job (outcomes.Populated slot) made) = job.doc.0 == d.nr.0
    tells_made d _ = false

    is_target : Seen → StateId → Place → Bool
    is_target s state place =
        is_shown s.history.rows (aim_of s) place.nav && targets_state s.history.rows (aim_of s) place.nav state

-- the row shows the navigable another document
abbrev pub shows_another : Seen → Document → LogRow → Bool
shows_another s d row = holds (λ job. by_task s d job job.task) (order_of row)
  where
    by_task : Seen → Document → Job → Task → Bool
    by_task s d job (tasks.Activate entry epoch length index memo address) =
        not (job.doc.0 == d.nr.0) && holds (λ (other : Document). other.nav.0 == d.nav.0) (document_of s job.doc)
    by_task s d job _ = false

-- the document is left for another: it was its navigable's last, and a later row of this event shows that another one
abbrev pub is_left : Point → Document → Bool
is_left p d =
    holds (λ (place : Place). holds (λ (last : DocId). last.0 == d.nr.0) place.last) (place_of p.now d.nav)
    && list_any (shows_another p.now d) p.later

-- the document is below one that is discarded or known dead
abbrev pub is_below_gone : Seen → Document → Bool
is_below_gone s d =
    list_any (λ (other : Document). not (other.nr.0 == d.nr.0) && (other.is_discarded || other.is_known_dead) && is_document_below s other.state d) s.documents

-- a document is discarded where its state is gone, or nothing needs it as it is made, or it is left, or it leaves the kept ones, or it is below one that is gone
abbrev pub is_discarded_duly : Point → LogRow → Job → Bool
is_discarded_duly p row job =
    holds (λ d. is_stateless p.now d || is_unneeded p row d || is_left p d || has_doc p.now.kept d.nr || is_below_gone p.now d) (document_of p.now job.doc)

-- as the longest kept document is evicted it is sent a Discard
abbrev pub is_evicted_duly : Point → Bool
is_evicted_duly p = holds (λ doc. list_any (discards doc) p.later) (last_of p.now.kept)
  where
    is_discard : Task → Bool
    is_discard tasks.Discard = true
    is_discard _ = false

    discards : DocId → LogRow → Bool
    discards doc row = holds (λ (job : Job). job.doc.0 == doc.0 && is_discard job.task) (order_of row)

-- ---- Ask: "checking if unloading is canceled"

-- the place's navigable is left by the request as it begins: by a load or reload where it is at or below that navigable, by a traversal where it isn't shown at the goal or has another document state there
abbrev pub is_leaving : Seen → Request → Option Step → Place → Document → Bool
is_leaving s (requests.Load nav mode address) goal place d = has_nav (way_of place) nav
is_leaving s (requests.Reload nav) goal place d = has_nav (way_of place) nav
is_leaving s what (Some goal) place d =
    not (is_shown s.history.rows goal.0 place.nav && targets_state s.history.rows goal.0 place.nav d.state)
is_leaving s what None place d = false

-- the cause with which documents are asked
abbrev pub leave_cause : Request → LeaveCause
leave_cause (requests.Load nav mode address) = leavings.Load
leave_cause (requests.Reload nav) = leavings.Reload
leave_cause _ = leavings.Traverse

-- a question: the document, its handler slot, and the cause
abbrev pub Question : Type 0
Question = DocId × ℕ × LeaveCause

-- two questions are the same
abbrev pub same_question : Question → Question → Bool
same_question a b = a.0.0 == b.0.0 && a.1 == b.1 && same_leaving a.2 b.2

-- the question that is due to an awake navigable's document: where it is left and has a handler
abbrev pub question_for : Seen → Request → Option Step → Place → Option Question
question_for s what goal place = option_and_then (by_document s what goal place) (option_and_then (document_of s) (awake_document place))
  where
    by_document : Seen → Request → Option Step → Place → Document → Option Question
    by_document s what goal place d =
        if is_leaving s what goal place d then option_map (λ slot. (d.nr, slot, leave_cause what)) d.slot else None

-- the questions that are due as a request begins, in the order of the walk
abbrev pub due_questions : Seen → Request → Option Step → List Question
due_questions s what goal = filter_map (question_for s what goal) (walk_of s.places)

-- the order is for the request
abbrev pub is_for : ReqId → Job → Bool
is_for req job = by_why req job.why
  where
    by_why : ReqId → Why → Bool
    by_why req (whys.Req r) = r.0 == req.0
    by_why req _ = false

-- the question that a row sends for the request
abbrev pub question_in : ReqId → LogRow → Option Question
question_in req row = option_and_then (λ job. if is_for req job then by_task job job.task else None) (order_of row)
  where
    by_task : Job → Task → Option Question
    by_task job (tasks.Ask slot cause) = Some (job.doc, slot, cause)
    by_task job _ = None

-- the row sends a question
abbrev pub is_question : LogRow → Bool
is_question row = holds by_task (option_map (λ (job : Job). job.task) (order_of row))
  where
    by_task : Task → Bool
    by_task (tasks.Ask slot cause) = true
    by_task _ = false

-- the rows that follow ask exactly these questions for the request, and all of them come first
abbrev pub asks_at_once : ReqId → List Question → List LogRow → Bool
asks_at_once req due later =
    same_list same_question (filter_map (question_in req) later) due
    && same_list same_question (filter_map (question_in req) (take_while is_question later)) due

-- as a request begins, exactly the leaving documents that have a handler are asked straight after, in the order of the walk: so the request hasn't passed before all of them were asked
abbrev pub asks_duly : Point → ReqId → Option Step → Asked → Bool
asks_duly p req goal q = asks_at_once req (due_questions p.now q.what goal) p.later

-- a question is sent for a request that began in this event
abbrev pub is_asked_duly : Point → Job → Bool
is_asked_duly p job = by_why p job.why
  where
    by_why : Point → Why → Bool
    by_why p (whys.Req req) = holds (λ (q : Asked). q.is_started && not (had_started p req)) (request_of p.now req)
    by_why p _ = false

-- ---- DoFragment: "navigate to a fragment"

-- a fragment order is for a load accepted in this event, of a navigable that is awake on the document, stands, and has a given entry from which the load is a fragment navigation
abbrev pub is_sent_to_fragment : Point → Job → ReqId → Mode → List ℕ → Bool
is_sent_to_fragment p job req mode address = is_accepted_here p req && holds (λ (q : Asked). by_request p.now job mode address q.what) (request_of p.now req)
  where
    in_place : Seen → Job → List ℕ → Place → Bool
    in_place s job address place =
        is_awake_on job.doc place && stands s (aim_of s) place.nav
        && holds (λ (row : Row). is_fragment_navigation row.address address) (given_row s place)

    by_request : Seen → Job → Mode → List ℕ → Request → Bool
    by_request s job mode address (requests.Load nav m a) =
        same_mode m mode && bytes_eq a address && holds (in_place s job address) (place_of s nav)
    by_request s job mode address _ = false

-- ---- the whole

-- a document that is to be made has the next number; another order goes to the process of its document
abbrev pub is_addressed : Seen → Job → Task → Bool
is_addressed s job (tasks.Populate nav state address initial) = job.doc.0 == (length s.documents + 1)
is_addressed s job _ = holds (λ (d : Document). d.proc.0 == job.proc.0) (document_of s job.doc)

-- the order has its cause
abbrev pub has_cause : Point → LogRow → Job → Task → Bool
has_cause p row job (tasks.Populate nav state address initial) = is_populated_duly p.now nav state address initial
has_cause p row job (tasks.Activate entry epoch length index memo address) =
    is_activated_duly p.now job entry epoch (length, index) memo address
has_cause p row job (tasks.Update length index) = is_updated_duly p.now job (length, index)
has_cause p row job tasks.Freeze = is_frozen_duly p row job
has_cause p row job tasks.Discard = is_discarded_duly p row job
has_cause p row job (tasks.Ask slot cause) = is_asked_duly p job
has_cause p row job (tasks.DoFragment req mode address) = is_sent_to_fragment p job req mode address

-- the order is numbered, addressed to the incarnation that is known, and has its cause
abbrev pub is_sent_duly : Point → LogRow → Job → Bool
is_sent_duly p row job =
    job.nr.0 == (p.now.jobs + 1) && is_addressed p.now job job.task
    && job.incarnation == (desk_of p.now job.proc).known
    && has_cause p row job job.task

-- each order has its cause, as a request begins its documents are asked, and an evicted document is discarded
abbrev pub is_ordered_row : Point → LogRow → Bool
is_ordered_row p row = by_kind p row row.row
  where
    by_kind : Point → LogRow → RowKind → Bool
    by_kind p row (rows.Sent job) = is_sent_duly p row job
    by_kind p row (rows.Started req goal) = holds (asks_duly p req goal) (request_of p.now req)
    by_kind p row (rows.Evicted state) = is_evicted_duly p
    by_kind p row _ = true
