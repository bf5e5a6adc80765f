-- What an open world keeps beside its log, which is what the log has come to.
-- This project's own.
use Rattle.std.specs.Prelude.{◌≡◌, ℕ, ◌≤◌, ◌*◌, List, [], map, Option, IfSome, bytes_eq, if◌then◌else◌, option_and_then}
use Rattle.tab_ids.specs.declared.DocId.{DocId}
use Rattle.tab_ids.specs.declared.ProcId.{ProcId}
use Rattle.address.specs.Addresses.{base_of, origin_of, blank_text}
use Rattle.log_model.specs.declared.header.Header.{Header}
use Rattle.log_model.specs.declared.outcome.Ending.{Ending}
use Rattle.log_model.specs.declared.row_kind.LogRow.{LogRow}
use Rattle.log_model.specs.Limits.{BeginsBelow}
use Rattle.log_model.specs.Logs.{seen_of}
use Rattle.log_model.specs.Seen.{Seen, Document, Asked, document_of, desk_of}
use Rattle.log_model.specs.Suits.{first_process, process_of_origin}
use Rattle.log_model.specs.Views.{View}
use Rattle.proc_tables.specs.Desks.{desk_at}
use Rattle.proc_tables.specs.Views.{view_at}
use Rattle.coord.specs.Keeping.{Keeps}
use Rattle.running_table.specs.Making.{IsTold}
use Rattle.world.specs.Sited.{AreSited}
use Rattle.world.specs.declared.state.State.{State}

-- no event begins at this many rows or more
abbrev pub row_limit : ℕ
row_limit = 1000000

-- the document with which a tab opens
abbrev pub first_document : DocId
first_document = record { 0 = 1 }

-- its process: that of the site of its address's origin; for an about:blank document the first
unfoldable pub opening_process : Header → ProcId
opening_process header =
    if bytes_eq (base_of header.first) blank_text then first_process
    else process_of_origin header (origin_of header.first)

-- the view of a document
abbrev pub view_in : Seen → DocId → Option View
view_in s doc = option_and_then (λ (d : Document). d.view) (document_of s doc)

-- how each request ended, in the order of acceptance
abbrev pub endings_of : Seen → List (Option Ending)
endings_of s = map (λ (q : Asked). q.ending) s.requests

-- after so many events: a document numbers an entry in an event of its own, and its index is that of an order, or one more with each entry
pub record IsSmall (events : ℕ) (view : View) : Type 0 where
  pub numbered : view.numbered ≤ events
  pub index : view.index ≤ 2 * events

-- the number of the next event, the lists of each process, the view of each document, which documents run, and how each request ended
pub record Holds (s : Seen) (t : State) : Type 0 where
  pub events : s.events ≡ t.events
  pub desks : (proc : ProcId) → desk_of s proc ≡ desk_at t.desks proc
  pub views : (doc : DocId) → view_in s doc ≡ view_at t.views doc
  pub runners : IsTold s t.runners
  pub endings : endings_of s ≡ t.endings.items
  pub small : (doc : DocId) → IfSome (view_at t.views doc) (IsSmall t.events)

-- the settings without their pages: no document gets a handler yet
abbrev pub bare : Header → Header
bare header = record header { pages = [] }

-- the log keeps all rules, the coordinator stands for it with the settings but their pages, and the rest is what it has come to
pub record IsOpen (header : Header) (log : List LogRow) (t : State) : Type 0 where
  pub keeps : Keeps (bare header) log t.coordinator
  pub header_is : t.coordinator.header ≡ bare header
  pub limited : BeginsBelow row_limit log
  pub holds : Holds (seen_of log) t
  -- each document lives in a process of the settings
  pub sited : AreSited header (seen_of log).documents
