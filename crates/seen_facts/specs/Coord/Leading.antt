-- What is on its way between the coordinator and a document: orders that lead to a view, and reports that lead from the given entry to that view.
-- HTML Standard, "apply the history step" and "URL and history update steps"; the exact form is this project's own.
use Rattle.std.specs.Prelude.{◌≡◌, ℕ, Bool, true, false, ◌&&◌, ◌==◌, List, ◌++◌, filter, filter_map, fold, length, slice_get, option_to_list, option_map, option_and_then, Option, Some}
use Rattle.std.specs.List.{list_any}
use Rattle.tab_ids.specs.declared.DocId.{DocId}
use Rattle.tab_ids.specs.declared.EntryId.{EntryId}
use Rattle.tab_ids.specs.declared.Epoch.{Epoch}
use Rattle.tab_ids.specs.declared.NavId.{NavId}
use Rattle.tab_ids.specs.declared.ReqId.{ReqId}
use Rattle.log_model.specs.declared.job.Job.{Job}
use Rattle.log_model.specs.declared.job.Order.{Order}
use Rattle.log_model.specs.declared.made.Made.{Made}
use Rattle.log_model.specs.declared.made.What.{What}
use Rattle.log_model.specs.declared.made.What.TheVariants as whats
use Rattle.log_model.specs.declared.row.Row.{Row}
use Rattle.log_model.specs.Views.{View}
use Rattle.log_model.specs.Seen.{Seen, Document, Desk, Asked, Place, awake, document_of, desk_of, place_of, request_in}
use Rattle.log_model.specs.AfterDocuments.{view_finished}
use Rattle.log_model.specs.AfterRequests.{made_of_report}

-- ---- the orders

-- the orders of a process that it has still to finish: that in hand, then its mail
abbrev pub orders_of_desk : Desk → List Job
orders_of_desk desk = option_to_list (option_map (λ (order : Order). order.job) desk.in_hand) ++ desk.mail

-- the order is to the document, in the incarnation that lives
abbrev pub is_live_order : DocId → ℕ → Job → Bool
is_live_order doc incarnation job = job.doc.0 == doc.0 && job.incarnation == incarnation

-- the orders to the document that its process has still to finish
abbrev pub orders_for : Desk → DocId → List Job
orders_for desk doc = filter (is_live_order doc (length desk.killed)) (orders_of_desk desk)

-- the document once an order is finished
abbrev pub once_finished : Document → Job → Document
once_finished d job = record d { view = view_finished d job.task }

-- the view that the unfinished orders make of the document
abbrev pub pending_view : Document → Desk → Option View
pending_view d desk = (fold once_finished d (orders_for desk d.nr)).view

-- ---- the reports

-- what was made is the document's, under the epoch
abbrev pub is_made_under : DocId → Epoch → Made → Bool
is_made_under doc epoch made = made.doc.0 == doc.0 && made.epoch.0 == epoch.0

-- what was made of the requests that are held back, in the order of delivery
abbrev pub held_back : List Asked → List ReqId → List Made
held_back asked parked = filter_map (λ req. option_and_then (λ (q : Asked). q.made) (request_in asked req)) parked

-- what the document made under the epoch and the history doesn't have yet: what is held back, and what waits to be delivered
abbrev pub coming : List Made → Desk → DocId → Epoch → List Made
coming held desk doc epoch = filter (is_made_under doc epoch) (held ++ filter_map made_of_report desk.reports)

-- what an entry shows
pub record Face : Type 0 where
  pub entry : EntryId
  pub address : List ℕ
  pub memo : Option (List ℕ)

-- what a view shows
abbrev pub face_of_view : View → Face
face_of_view view = record { entry = view.entry; address = view.address; memo = view.memo }

-- a new entry is shown, whether it was pushed or replaced one
abbrev pub face_after : Face → Made → Face
face_after face made = by_what face made.what
  where
    by_what : Face → What → Face
    by_what face (whats.Push entry memo address) = record { entry = entry; address = address; memo = memo }
    by_what face (whats.Replace over entry memo address) = record { entry = entry; address = address; memo = memo }
    by_what face _ = face

-- a push was made
abbrev pub is_push : Made → Bool
is_push made = by_what made.what
  where
    by_what : What → Bool
    by_what (whats.Push entry memo address) = true
    by_what _ = false

-- ---- the whole

-- the orders of a document lead to a running view of the epoch; what is coming leads from the given entry, as its row shows it, to that view; and unless a push is coming, the document was told the view's length and index last
pub record Leads (rows : List Row) (held : List Made) (desk : Desk) (d : Document) (given : Option EntryId) (epoch : Epoch) : Type 0 where
  pub face : Face
  pub is_given : Some face.entry ≡ given
  pub is_row : (i : ℕ) (row : Row) → slice_get rows i ≡ Some row → row.entry ≡ face.entry → (row.address ≡ face.address) × (row.memo ≡ face.memo)
  pub view : View
  pub pending : pending_view d desk ≡ Some view
  pub leads : fold face_after face (coming held desk d.nr epoch) ≡ face_of_view view
  pub runs : view.running ≡ true
  pub in_epoch : view.epoch ≡ epoch
  pub pair : list_any is_push (coming held desk d.nr epoch) ≡ false → d.told ≡ Some (view.length, view.index)

-- the same, but for what the document was told: so it is between an applied push and the order that tells of it
pub record LeadsUntold (rows : List Row) (held : List Made) (desk : Desk) (d : Document) (given : Option EntryId) (epoch : Epoch) : Type 0 where
  pub face : Face
  pub is_given : Some face.entry ≡ given
  pub is_row : (i : ℕ) (row : Row) → slice_get rows i ≡ Some row → row.entry ≡ face.entry → (row.address ≡ face.address) × (row.memo ≡ face.memo)
  pub view : View
  pub pending : pending_view d desk ≡ Some view
  pub leads : fold face_after face (coming held desk d.nr epoch) ≡ face_of_view view
  pub runs : view.running ≡ true
  pub in_epoch : view.epoch ≡ epoch

-- what is on its way leads, but that nothing is said of what one document was told
abbrev pub LeadsBut : DocId → List Row → List Made → Desk → Document → Option EntryId → Epoch → Type 0
LeadsBut doc rows held desk d given epoch = by_document (d.nr.0 == doc.0) rows held desk d given epoch
  where
    by_document : Bool → List Row → List Made → Desk → Document → Option EntryId → Epoch → Type 0
    by_document true rows held desk d given epoch = LeadsUntold rows held desk d given epoch
    by_document false rows held desk d given epoch = Leads rows held desk d given epoch

-- a fact of the document of each awake navigable, with the desk of its process, what the navigable was given, and its epoch
abbrev pub EachAwake : (Desk → Document → Option EntryId → Epoch → Type 0) → Seen → Type 0
EachAwake F s =
    (nav : NavId) (place : Place) (doc : DocId) (d : Document) → place_of s nav ≡ Some place → place.status ≡ awake doc → document_of s doc ≡ Some d → F (desk_of s d.proc) d place.given place.epoch

-- what is on its way leads for the document of each awake navigable
abbrev pub EachLeads : Seen → Type 0
EachLeads s = EachAwake (Leads s.history.rows (held_back s.requests s.parked)) s

-- a document that a navigable is awake on is of that navigable
abbrev pub EachIsOfItsNavigable : Seen → Type 0
EachIsOfItsNavigable s =
    (nav : NavId) (place : Place) (doc : DocId) (d : Document) → place_of s nav ≡ Some place → place.status ≡ awake doc → document_of s doc ≡ Some d → d.nav.0 ≡ nav.0

-- so it leads for each, but for what one document was told
abbrev pub EachLeadsBut : DocId → Seen → Type 0
EachLeadsBut doc s = EachAwake (LeadsBut doc s.history.rows (held_back s.requests s.parked)) s
