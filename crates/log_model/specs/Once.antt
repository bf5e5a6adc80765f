-- Each request once: it is numbered, begins, is answered and ends at most once, and its applied change is the one that it asks for.
-- This project's own; which change a navigation, a traversal or a document's own step makes is the HTML Standard's: "navigate", "URL and history update steps", "traverse the history by a delta", "create a new child navigable", "destroy a child navigable".
use Rattle.std.specs.Prelude.{ℕ, ℤ, pos, ◌+ℤ◌, ◌+◌, Bool, true, false, not, ◌&&◌, ◌||◌, ◌==◌, nat_lt, List, length, slice_get, Option, Some, None, is_none, option_map, option_and_then, if◌then◌else◌}
use Rattle.std.specs.List.{list_all}
use Rattle.tab_ids.specs.declared.NavId.{NavId}
use Rattle.tab_ids.specs.declared.StateId.{StateId}
use Rattle.tab_ids.specs.declared.ProcId.{ProcId}
use Rattle.tab_ids.specs.declared.EntryId.{EntryId}
use Rattle.tab_ids.specs.declared.ReqId.{ReqId}
use Rattle.tab_ids.specs.declared.Step.{Step}
use Rattle.log_model.specs.declared.action.Action.{Action}
use Rattle.log_model.specs.declared.action.Action.TheVariants as actions
use Rattle.log_model.specs.declared.change.Change.{Change}
use Rattle.log_model.specs.declared.change.Change.TheVariants as changes
use Rattle.log_model.specs.declared.job.Job.{Job}
use Rattle.log_model.specs.declared.job.Task.{Task}
use Rattle.log_model.specs.declared.job.Task.TheVariants as tasks
use Rattle.log_model.specs.declared.made.Made.{Made}
use Rattle.log_model.specs.declared.made.What.{What}
use Rattle.log_model.specs.declared.made.What.TheVariants as whats
use Rattle.log_model.specs.declared.request.Request.{Request}
use Rattle.log_model.specs.declared.request.Request.TheVariants as requests
use Rattle.log_model.specs.declared.row.Row.{Row}
use Rattle.log_model.specs.declared.row_kind.LogRow.{LogRow}
use Rattle.log_model.specs.declared.row_kind.RowKind.{RowKind}
use Rattle.log_model.specs.declared.row_kind.RowKind.TheVariants as rows
use Rattle.log_model.specs.Equal.{holds, same_what, same_change}
use Rattle.log_model.specs.History.{fits, owner_of, used_steps, history_index}
use Rattle.log_model.specs.Views.{View, made_by, made_of_task}
use Rattle.log_model.specs.Seen.{Seen, Document, Asked, Place, document_of, request_of, place_of}
use Rattle.log_model.specs.Places.{is_traversal, is_reload, is_awake, is_placed, is_ongoing_load, aim_of, given_row, way_to, is_fragment_navigation}
use Rattle.log_model.specs.After.{follows_finished}
use Rattle.log_model.specs.Events.{Point}
use Rattle.log_model.specs.Points.{end_of, is_accepted_here}

-- ---- how a request begins

-- the place among the used steps that a delta leads to from the current one
abbrev pub index_at_delta : Seen → ℤ → ℤ
index_at_delta s delta = pos (history_index s.history.rows s.history.current) +ℤ delta

-- the used step that a delta leads to: none below the first or beyond the last
abbrev pub step_at_delta : Seen → ℤ → Option ℕ
step_at_delta s delta = at (used_steps s.history.rows) (index_at_delta s delta)
  where
    at : List ℕ → ℤ → Option ℕ
    at steps (pos n) = slice_get steps n
    at steps _ = None

-- the goal of a traversal as it begins: "traverse the history by a delta"
abbrev pub is_goal : Seen → ℤ → Option Step → Bool
is_goal s delta goal = holds (λ (step : ℕ). holds (λ (g : Step). g.0 == step) goal) (step_at_delta s delta)

-- the delta of a traversal
abbrev pub delta_of : Request → Option ℤ
delta_of (requests.Go delta) = Some delta
delta_of (requests.Poke nav action) = by_action action
  where
    by_action : Action → Option ℤ
    by_action (actions.Go delta) = Some delta
    by_action _ = None
delta_of _ = None

-- a load begins in the event of its acceptance, where its navigable and all above it are shown and stand at the aim, and it is no fragment navigation
abbrev pub load_begins : Point → Asked → NavId → List ℕ → Bool
load_begins p q nav address =
    is_accepted_here p q.nr && list_all (is_placed p.now (aim_of p.now)) (way_to p.now nav)
    && holds (λ place. not (is_awake place && holds (λ (row : Row). is_fragment_navigation row.address address) (given_row p.now place))) (place_of p.now nav)

-- the request loads the navigable
abbrev pub loads : NavId → Request → Bool
loads nav (requests.Load n mode address) = n.0 == nav.0
loads nav _ = false

-- no earlier load of the navigable is ongoing
abbrev pub has_no_earlier_load : Seen → ReqId → NavId → Bool
has_no_earlier_load s req nav =
    list_all (λ (q : Asked). not (is_ongoing_load q && nat_lt q.nr.0 req.0 && loads nav q.what)) s.requests

-- the request may begin, once and before its outcome: a load, with no earlier one of its navigable as the event ends; a traversal with its goal; a reload
abbrev pub may_begin_request : Point → LogRow → Option Step → Asked → Bool
may_begin_request p row goal q = not q.is_started && is_none q.ending && by_request p row goal q q.what
  where
    by_request : Point → LogRow → Option Step → Asked → Request → Bool
    by_request p row goal q (requests.Load nav mode address) =
        is_none goal && load_begins p q nav address && has_no_earlier_load (end_of p row) q.nr nav
    by_request p row goal q (requests.Reload nav) = is_none goal
    by_request p row goal q what = holds (λ delta. is_goal p.now delta goal) (delta_of what)

-- ---- what a document makes

-- what was made is what the view makes, under its epoch
abbrev pub is_made_of : Made → (View → Option What) → Document → Bool
is_made_of made makes d =
    holds (λ (view : View). view.running && view.epoch.0 == made.epoch.0 && holds (λ what. same_what what made.what) (makes view)) d.view

-- what a request's action makes
abbrev pub makes_of_request : Request → View → Option What
makes_of_request (requests.Poke nav action) view = made_by view action
makes_of_request _ view = None

-- the document of what was made is in the process, and makes it
abbrev pub is_made_in : Seen → ProcId → Made → (View → Option What) → Bool
is_made_in s proc made makes = holds (λ (d : Document). d.proc.0 == proc.0 && is_made_of made makes d) (document_of s made.doc)

-- what was made of an order is what the order makes of its document
abbrev pub is_made_of_order : Seen → ProcId → Made → Job → Bool
is_made_of_order s proc made job =
    job.doc.0 == made.doc.0 && answers made job.task && is_made_in s proc made (λ view. made_of_task view job.task)
  where
    answers : Made → Task → Bool
    answers made (tasks.DoFragment req mode address) = req.0 == made.req.0
    answers made _ = false

-- what was made of a poke is what its action makes of the poked document
abbrev pub is_made_of_poke : Seen → ProcId → Made → Asked → Bool
is_made_of_poke s proc made q = holds (λ doc. doc.0 == made.doc.0) q.doc && is_made_in s proc made (makes_of_request q.what)

-- what was made of a request, once: by the order that the row follows, or else by its poke
abbrev pub is_made_duly : Seen → LogRow → ProcId → Made → Bool
is_made_duly s row proc made =
    holds
    (λ (q : Asked).
    is_none q.made
    && (if follows_finished s row then holds (is_made_of_order s proc made) s.just_finished else is_made_of_poke s proc made q))
    (request_of s made.req)

-- ---- what is applied

-- the next document state, and the coordinator's next entry
abbrev pub next_state : Seen → StateId
next_state s = record { 0 = s.states + 1 }

abbrev pub next_entry_of : Seen → EntryId
next_entry_of s = record { maker = 0; nr = s.entries + 1 }

-- the change of a load with a new document: a new entry, in the place of the given one where the load replaces
abbrev pub change_of_load : Seen → Asked → NavId → List ℕ → Option Change
change_of_load s q nav address =
    if q.replaces then option_and_then (λ state. option_map (λ over. changes.Replace nav over (next_entry_of s) state address None) (option_and_then (λ (place : Place). place.given) (place_of s nav))) q.state
    else option_map (λ state. changes.Push nav (next_entry_of s) state address None) q.state

-- the change of what a document made: of its navigable and document state
abbrev pub change_of_made : Seen → Document → What → Option Change
change_of_made s d (whats.Push entry memo address) = Some (changes.Push d.nav entry d.state address memo)
change_of_made s d (whats.Replace over entry memo address) = Some (changes.Replace d.nav over entry d.state address memo)
change_of_made s d (whats.AddFrame nav) = Some (changes.AddFrame d.state nav (next_entry_of s) (next_state s))
change_of_made s d (whats.RemoveFrame nav) =
    if holds (λ (owner : StateId). owner.0 == d.state.0) (owner_of nav s.history.rows) then Some (changes.RemoveFrame nav) else None
change_of_made s d (whats.Go delta) = None
change_of_made s d whats.Edit = Some changes.Edit

-- the change of what was made of a request
abbrev pub change_of_report : Seen → Asked → Option Change
change_of_report s q =
    option_and_then (λ (made : Made). option_and_then (λ d. change_of_made s d made.what) (document_of s made.doc)) q.made

-- the change of a load, traversal or reload that has begun: a load has a new document, a traversal goes to the aim
abbrev pub change_of_begun : Seen → Asked → Request → Option Change
change_of_begun s q (requests.Load nav mode address) = change_of_load s q nav address
change_of_begun s q (requests.Reload nav) = Some (changes.Reload nav)
change_of_begun s q what = Some (changes.Traverse (record { 0 = aim_of s }))

-- the request has to begin before it is applied: a traversal or a reload
abbrev pub has_to_begin : Request → Bool
has_to_begin what = is_traversal what || is_reload what

-- the change that a request asks for: its own where it has begun, else that of what a document made of it
abbrev pub due_change : Seen → Asked → Option Change
due_change s q =
    if q.is_started then change_of_begun s q q.what
    else (if has_to_begin q.what then None else change_of_report s q)

-- the entry is later than the last applied one of the document that made it
abbrev pub is_later_entry : Seen → EntryId → Bool
is_later_entry s entry =
    list_all (λ (d : Document). not (d.nr.0 == entry.maker) || nat_lt d.last_applied entry.nr) s.documents

-- one document's entries are applied in the order in which it made them
abbrev pub is_in_order : Seen → Change → Bool
is_in_order s (changes.Push nav entry state address memo) = is_later_entry s entry
is_in_order s (changes.Replace nav over entry state address memo) = is_later_entry s entry
is_in_order s _ = true

-- the change fits the history, is the one that the request asks for, and is in order
abbrev pub is_applied_rightly : Seen → Change → Asked → Bool
is_applied_rightly s change q = fits s.history change && holds (same_change change) (due_change s q) && is_in_order s change

-- ---- the whole

-- the request hasn't ended
abbrev pub is_open : Asked → Bool
is_open q = is_none q.ending

-- each request is numbered, begins, is asked for, is answered, is made and ends at most once, by the change that it asks for
abbrev pub is_once_row : Point → LogRow → Bool
is_once_row p row = by_kind p row p.now row.row
  where
    by_kind : Point → LogRow → Seen → RowKind → Bool
    by_kind p row s (rows.Accepted req doc what) = req.0 == (length s.requests + 1)
    by_kind p row s (rows.Started req goal) = holds (may_begin_request p row goal) (request_of s req)
    by_kind p row s (rows.Applied req change) =
        holds (λ q. is_open q && is_applied_rightly s change q) (request_of s req)
    by_kind p row s (rows.Refused req reason) = holds is_open (request_of s req)
    by_kind p row s (rows.Dropped req cause) = holds is_open (request_of s req)
    by_kind p row s (rows.Prompted req doc) = holds (λ (q : Asked). is_none q.prompted) (request_of s req)
    by_kind p row s (rows.Answered req stay) = holds (λ (q : Asked). is_none q.answered) (request_of s req)
    by_kind p row s (rows.Made proc made) = is_made_duly s row proc made
    by_kind p row s _ = true
