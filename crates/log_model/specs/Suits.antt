-- When a log suits the settings under which its tab was opened: the processes of documents, their handlers, and how many are kept.
-- This project's own; keeping documents for traversal is the HTML Standard's "Documents kept for traversal" left to the browser.
use Rattle.std.specs.Prelude.{ℕ, Bool, true, false, not, ◌&&◌, ◌||◌, ◌==◌, nat_lt, nat_le, IsTrue, List, [], ◌∷◌, length, find, slice_get, bytes_eq, Option, Some, None, option_map, option_and_then, if◌then◌else◌}
use Rattle.std.specs.Option.{option_map_or}
use Rattle.tab_ids.specs.declared.NavId.{NavId}
use Rattle.tab_ids.specs.declared.ProcId.{ProcId}
use Rattle.tab_ids.specs.declared.DocId.{DocId}
use Rattle.address.specs.Addresses.{base_of, origin_of, blank_text}
use Rattle.log_model.specs.declared.header.Header.{Header}
use Rattle.log_model.specs.declared.header.Site.{Site}
use Rattle.log_model.specs.declared.header.Page.{Page}
use Rattle.log_model.specs.declared.job.Job.{Job}
use Rattle.log_model.specs.declared.job.Order.{Order}
use Rattle.log_model.specs.declared.job.Task.{Task}
use Rattle.log_model.specs.declared.job.Task.TheVariants as tasks
use Rattle.log_model.specs.declared.outcome.Outcome.{Outcome}
use Rattle.log_model.specs.declared.outcome.Outcome.TheVariants as outcomes
use Rattle.log_model.specs.declared.row_kind.LogRow.{LogRow}
use Rattle.log_model.specs.declared.row_kind.RowKind.{RowKind}
use Rattle.log_model.specs.declared.row_kind.RowKind.TheVariants as rows
use Rattle.log_model.specs.Equal.{holds, same_slot, has_doc}
use Rattle.log_model.specs.History.{has_state}
use Rattle.log_model.specs.Seen.{Seen, Document, Place, nothing, document_of, desk_of, place_of}
use Rattle.log_model.specs.Places.{awake_document, is_gone}
use Rattle.log_model.specs.AfterPlaces.{without_doc}
use Rattle.log_model.specs.Events.{Point, AtEachEvent, events_of, each_row, at_end}
use Rattle.log_model.specs.Formed.{last_of}
use Rattle.log_model.specs.Orders.{is_left, is_below_gone}
use Rattle.log_model.specs.Points.{own_row, order_of}

-- ---- where a document lives, and its handler

-- the process that is meant where nothing says otherwise
abbrev pub first_process : ProcId
first_process = record { 0 = 1 }

-- the process of an origin: that of its site
abbrev pub process_of_origin : Header → List ℕ → ProcId
process_of_origin header origin = option_map_or (λ (site : Site). site.proc) (find (λ (site : Site). bytes_eq site.origin origin) header.sites) first_process

-- the process of the document of a navigable's parent
abbrev pub process_of_parent : Seen → NavId → Option ProcId
process_of_parent s nav =
    option_and_then
    (λ (place : Place). option_and_then (λ parent. option_and_then (process_of_place s) (place_of s parent)) (slice_get place.above 0))
    (place_of s nav)
  where
    process_of_place : Seen → Place → Option ProcId
    process_of_place s place = option_map (λ (d : Document). d.proc) (option_and_then (document_of s) (awake_document place))

-- the process of a document: that of its origin's site; of an about:blank document that of its parent's document, at the top the first
abbrev pub home_of : Header → Seen → NavId → List ℕ → Option ProcId
home_of header s nav address =
    if bytes_eq (base_of address) blank_text then (if nav.0 == 0 then Some first_process else process_of_parent s nav)
    else Some (process_of_origin header (origin_of address))

-- the handler slot of the page at an address
abbrev pub slot_of : Header → List ℕ → Option ℕ
slot_of header address =
    option_map (λ (page : Page). page.slot) (find (λ (page : Page). bytes_eq page.base (base_of address)) header.pages)

-- the process is the document's
abbrev pub is_home : Header → Seen → NavId → List ℕ → ProcId → Bool
is_home header s nav address proc = holds (λ (home : ProcId). home.0 == proc.0) (home_of header s nav address)

-- the row opens the tab at the first address, in its process and with its handler
abbrev pub opens_suitably : Header → Seen → RowKind → Bool
opens_suitably header s (rows.Opened entry state doc proc slot address) =
    bytes_eq address header.first && is_home header s (record { 0 = 0 }) address proc
    && same_slot slot (slot_of header address)
opens_suitably header s _ = false

-- a document is made in its process
abbrev pub is_sent_home : Header → Seen → Job → Task → Bool
is_sent_home header s job (tasks.Populate nav state address initial) = is_home header s nav address job.proc
is_sent_home header s job _ = true

-- a document that was made has the handler of its page
abbrev pub is_slotted : Header → Task → Outcome → Bool
is_slotted header (tasks.Populate nav state address initial) (outcomes.Populated slot) =
    same_slot slot (slot_of header address)
is_slotted header task outcome = true

-- ---- how many are kept

-- the document that a later order of the event leaves: the last one of a navigable that is shown another
abbrev pub newly_left : Seen → List LogRow → Option DocId
newly_left s [] = None
newly_left s (row ∷ later) = first (option_and_then (λ job. leaves s job job.task) (order_of row)) (newly_left s later)
  where
    leaves : Seen → Job → Task → Option DocId
    leaves s job (tasks.Activate entry epoch length index memo address) =
        option_and_then
        (λ (d : Document). option_and_then (λ (place : Place). option_and_then (λ (last : DocId). if last.0 == job.doc.0 then None else Some last) place.last) (place_of s d.nav))
        (document_of s job.doc)
    leaves s job _ = None

    first : Option DocId → Option DocId → Option DocId
    first (Some doc) later = Some doc
    first None later = later

-- the kept documents with one more in front, if there is one and it isn't gone
abbrev pub kept_with : Seen → Option DocId → List DocId
kept_with s None = s.kept
kept_with s (Some doc) = if is_gone s doc then s.kept else doc ∷ without_doc doc s.kept

-- the kept documents as one is to go: with the newly left one, and with the new one still among them
abbrev pub kept_then : Point → Document → List DocId
kept_then p d = if is_left p d then d.nr ∷ without_doc d.nr p.now.kept else kept_with p.now (newly_left p.now p.later)

-- this event evicts
abbrev pub evicts : Point → LogRow → Bool
evicts p row = by_kind (own_row p row)
  where
    by_kind : RowKind → Bool
    by_kind (rows.Evicted state) = true
    by_kind _ = false

-- the document is the longest kept, and this event evicts it or more are kept than may be
abbrev pub is_overdue : Header → Point → LogRow → Document → Bool
is_overdue header p row d =
    holds (λ (doc : DocId). doc.0 == d.nr.0) (last_of (kept_then p d))
    && (evicts p row || nat_lt header.keep (length (kept_then p d)))

-- the document is left or kept, and nothing else is a reason for it to go: its state has a row, it isn't below one that is gone, and its navigable isn't to be reloaded
abbrev pub is_spare : Point → Document → Bool
is_spare p d =
    (is_left p d || has_doc p.now.kept d.nr) && not d.is_discarded && has_state d.state p.now.history.rows
    && not (is_below_gone p.now d)
    && holds (λ (place : Place). not place.is_pending) (place_of p.now d.nav)

-- a spare document is discarded only where it is overdue
abbrev pub is_discarded_suitably : Header → Point → LogRow → Job → Task → Bool
is_discarded_suitably header p row job tasks.Discard =
    holds (λ d. not (is_spare p d) || is_overdue header p row d) (document_of p.now job.doc)
is_discarded_suitably header p row job _ = true

-- ---- the whole

-- the row suits the settings
abbrev pub is_suitable_row : Header → Point → LogRow → Bool
is_suitable_row header p row = by_kind header p row row.row
  where
    by_kind : Header → Point → LogRow → RowKind → Bool
    by_kind header p row (rows.Sent job) =
        is_sent_home header p.now job job.task && is_discarded_suitably header p row job job.task
    by_kind header p row (rows.Finished proc job outcome) =
        holds (λ (order : Order). is_slotted header order.job.task outcome) (desk_of p.now proc).in_hand
    by_kind header p row _ = true

-- the first event opens the tab as the settings say
abbrev pub opens_as : Header → Seen → List (List LogRow) → Bool
opens_as header s ((row ∷ rows) ∷ events) = opens_suitably header s row.row
opens_as header s _ = false

-- no more documents are kept than may be
abbrev pub keeps_few : Header → Seen → Bool
keeps_few header s = nat_le (length s.kept) header.keep

-- a log suits the settings
pub record Suits (header : Header) (log : List LogRow) : Type 0 where
  -- it opens at the first address, in its process and with its handler
  pub opened : IsTrue (opens_as header nothing (events_of log))
  -- documents are made in their processes with their handlers, and a kept one is discarded only where too many are kept
  pub placed : AtEachEvent (each_row (is_suitable_row header)) log
  -- no more documents are kept than may be
  pub kept : AtEachEvent (at_end (keeps_few header)) log
