-- What is true between two rows of the entries that documents make: each known entry was numbered, and what a document made and isn't in the history yet waits in the order in which it was made.
-- HTML Standard, "URL and history update steps" and "apply the history step"; numbers of entries, processes and held back reports are this project's own.
use Rattle.std.specs.Prelude.{◌≡◌, ℕ, ◌≤◌, true, false, ◌==◌, List, [], ◌++◌, filter, filter_map, length, Some}
use Rattle.tab_ids.specs.declared.DocId.{DocId}
use Rattle.tab_ids.specs.declared.EntryId.{EntryId}
use Rattle.tab_ids.specs.declared.NavId.{NavId}
use Rattle.tab_ids.specs.declared.ProcId.{ProcId}
use Rattle.tab_ids.specs.declared.ReqId.{ReqId}
use Rattle.log_model.specs.declared.made.Made.{Made}
use Rattle.log_model.specs.declared.made.What.{What}
use Rattle.log_model.specs.declared.made.What.TheVariants as whats
use Rattle.log_model.specs.declared.row.Row.{Row}
use Rattle.log_model.specs.AfterRequests.{made_of_report}
use Rattle.log_model.specs.History.{has_row}
use Rattle.log_model.specs.Seen.{Seen, Asked, Desk, Document, Place, awake, desk_of, document_of, place_in, place_of, request_in}
use Rattle.log_model.specs.Views.{View}
use Rattle.seen_facts.specs.Coord.Leading.{coming, held_back}
use Rattle.seen_facts.specs.Hang.Members.{Has}
use Rattle.seen_facts.specs.Home.Homes.{document_in}
use Rattle.seen_facts.specs.Each.Mades.{Ascend, Continues}
use Rattle.seen_facts.specs.Each.Items.{Each, IsUpTo}

-- a fact of each document
abbrev pub EachThere : (Document → Type 0) → List Document → Type 0
EachThere F documents = (doc : DocId) (d : Document) → document_in documents doc ≡ Some d → F d

-- ---- entries that were numbered

-- the document has a number from 1 up to how many documents there are
pub record IsCounted (count : ℕ) (d : Document) : Type 0 where
  pub real : 1 ≤ d.nr.0
  pub number : d.nr.0 ≤ count

-- the entry was numbered by the coordinator, or by a document that is there, and one of a document is none later than the last applied
pub record IsNumbered (entries : ℕ) (count : ℕ) (documents : List Document) (entry : EntryId) : Type 0 where
  pub own : entry.maker ≡ 0 → entry.nr ≤ entries
  pub maker : entry.maker ≤ count
  pub applied : (doc : DocId) (d : Document) → document_in documents doc ≡ Some d → IsUpTo d.last_applied d.nr entry

-- a fact of each entry of the rows, each that a navigable was ever given, and each that a change took from the history
pub record EachEntry (F : EntryId → Type 0) (rows : List Row) (places : List Place) (asked : List Asked) : Type 0 where
  pub of_row : (row : Row) → Has rows row → F row.entry
  pub given : (nav : NavId) (place : Place) (entry : EntryId) → place_in places nav ≡ Some place → Has place.ever_given entry → F entry
  pub took : (req : ReqId) (q : Asked) (entry : EntryId) → request_in asked req ≡ Some q → Has q.took entry → F entry

-- ---- what documents made and the history doesn't have yet: held back, then at hand in the event, then in the reports of the document's process

-- what is held back, and what is at hand
abbrev pub waiting : Seen → List Made → List Made
waiting s hand = held_back s.requests s.parked ++ hand

-- what of it a process tells of
abbrev pub mades_of : Desk → List Made
mades_of desk = filter_map made_of_report desk.reports

-- all of it, with one process
abbrev pub untold : List Made → Desk → List Made
untold held desk = held ++ mades_of desk

-- what the document made of it
abbrev pub untaken : List Made → Desk → DocId → List Made
untaken held desk doc = filter (λ (made : Made). made.doc.0 == doc.0) (untold held desk)

-- a new entry of what the document made is the document's
abbrev pub IsItsOwn : DocId → What → Type 0
IsItsOwn doc (whats.Push entry memo address) = entry.maker ≡ doc.0
IsItsOwn doc (whats.Replace over entry memo address) = entry.maker ≡ doc.0
IsItsOwn doc _ = Unit {0}

-- something was made by a document that is there
pub record IsMadeThere (documents : List Document) (made : Made) : Type 0 where
  pub document : Document
  pub found : document_in documents made.doc ≡ Some document
  pub own : IsItsOwn made.doc made.what

-- and in that document's process
pub record IsMadeIn (documents : List Document) (proc : ProcId) (made : Made) : Type 0 where
  pub by : IsMadeThere documents made
  pub home : by.document.proc ≡ proc

-- what waits is of documents that are there
abbrev pub EachWaits : Seen → List Made → Type 0
EachWaits s hand = Each (IsMadeThere s.documents) (waiting s hand)

-- what a process tells of was made by its own documents
abbrev pub EachIsAtHome : Seen → Type 0
EachIsAtHome s = (proc : ProcId) → Each (IsMadeIn s.documents proc) (mades_of (desk_of s proc))

-- the numbers of the document's entries rise, from the last applied one to the last that it numbered
abbrev pub Ascends : List Made → Desk → Document → Type 0
Ascends held desk d = (view : View) → d.view ≡ Some view → Ascend d.last_applied (untaken held desk d.nr) view.numbered

-- so it is of each document, with the process in which it lives
abbrev pub EachAscends : Seen → List Made → Type 0
EachAscends s hand =
    (doc : DocId) (d : Document) → document_of s doc ≡ Some d → Ascends (waiting s hand) (desk_of s d.proc) d

-- a document that isn't made has made nothing
abbrev pub HasMadeNothing : List Made → Desk → Document → Type 0
HasMadeNothing held desk d = d.is_ready ≡ false → (d.last_applied ≡ 0) × (untaken held desk d.nr ≡ [])

-- so it is of each document, too
abbrev pub EachHasMadeNothing : Seen → List Made → Type 0
EachHasMadeNothing s hand =
    (doc : DocId) (d : Document) → document_of s doc ≡ Some d → HasMadeNothing (waiting s hand) (desk_of s d.proc) d

-- of the document of each awake navigable that has a row, each replace that is coming is of the entry before it, from the given one on
abbrev pub EachContinues : Seen → List Made → Type 0
EachContinues s hand =
    (nav : NavId) (place : Place) (doc : DocId) (d : Document) (given : EntryId) → place_of s nav ≡ Some place → place.status ≡ awake doc → document_of s doc ≡ Some d → has_row place.nav s.history.rows ≡ true → place.given ≡ Some given → Continues given (coming (waiting s hand) (desk_of s d.proc) doc place.epoch)

-- ---- all of it, with this at hand of what documents made
pub record AreEntries (hand : List Made) (s : Seen) : Type 0 where
  pub counted : EachThere (IsCounted (length s.documents)) s.documents
  pub entries : EachEntry (IsNumbered s.entries (length s.documents) s.documents) s.history.rows s.places s.requests
  pub waits : EachWaits s hand
  pub home : EachIsAtHome s
  pub unmade : EachHasMadeNothing s hand
  pub ascends : EachAscends s hand
  pub continues : EachContinues s hand
