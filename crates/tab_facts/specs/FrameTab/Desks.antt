-- What the processes of a tab of frames have: orders that make, show, tell and discard documents, and what these made.
-- HTML Standard, "apply the history step" and "URL and history update steps"; processes and their lists are this project's own.
use Rattle.std.specs.Prelude.{◌≡◌, ℕ, ◌+◌, ◌≤◌, Bool, true, false, ◌==◌, List, [], ◌∷◌, ◌++◌, filter, filter_map, Some, None}
use Rattle.tab_ids.specs.declared.DocId.{DocId}
use Rattle.tab_ids.specs.declared.EntryId.{EntryId}
use Rattle.tab_ids.specs.declared.NavId.{NavId}
use Rattle.tab_ids.specs.declared.ProcId.{ProcId}
use Rattle.log_model.specs.declared.job.Job.{Job}
use Rattle.log_model.specs.declared.job.Task.{Task}
use Rattle.log_model.specs.declared.job.Task.TheVariants as tasks
use Rattle.log_model.specs.declared.made.Made.{Made}
use Rattle.log_model.specs.declared.made.What.{What}
use Rattle.log_model.specs.declared.made.What.TheVariants as whats
use Rattle.log_model.specs.declared.made.Report.{Report}
use Rattle.log_model.specs.declared.made.Report.TheVariants as reports
use Rattle.log_model.specs.declared.request.Poke.{Poke}
use Rattle.log_model.specs.Views.{View, next_entry}
use Rattle.log_model.specs.History.{has_row}
use Rattle.log_model.specs.AfterRequests.{made_of_report}
use Rattle.log_model.specs.Seen.{Seen, Document, Desk, Place, awake, desk_of, place_in, place_of}
use Rattle.seen_facts.specs.Coord.Leading.{orders_of_desk, coming, held_back}
use Rattle.seen_facts.specs.Home.Homes.{document_in}
use Rattle.seen_facts.specs.Transit.Orders.{IsOutcomeOf}
use Rattle.seen_facts.specs.Each.Items.{Each}
use Rattle.seen_facts.specs.Each.Mades.{HasNothing, Ascend, Continues}
use Rattle.tab_facts.specs.FrameTab.Alive.{EachThere}

-- ---- orders and reports

-- the order makes the document; or the document is made, and the order shows it under an epoch of its navigable, tells it length and index, or discards it
abbrev pub IsTaskOf : Document → Place → Task → Type 0
IsTaskOf d place (tasks.Populate nav state address initial) = Unit {0}
IsTaskOf d place (tasks.Activate entry epoch length index memo address) = (d.is_ready ≡ true) × (1 ≤ epoch.0) × (epoch.0 ≤ place.epoch.0)
IsTaskOf d place (tasks.Update length index) = d.is_ready ≡ true
IsTaskOf d place tasks.Discard = d.is_ready ≡ true
IsTaskOf d place _ = ⊥

-- the order is to a document that is there, in the first incarnation
pub record IsOrderTo (documents : List Document) (places : List Place) (job : Job) : Type 0 where
  pub document : Document
  pub found : document_in documents job.doc ≡ Some document
  pub place : Place
  pub placed : place_in places document.nav ≡ Some place
  pub incarnation : job.incarnation ≡ 0
  pub task : IsTaskOf document place job.task

-- what the document made is no edit, and a new entry of it is the document's
abbrev pub IsItsOwn : DocId → What → Type 0
IsItsOwn doc (whats.Push entry memo address) = entry.maker ≡ doc.0
IsItsOwn doc (whats.Replace over entry memo address) = entry.maker ≡ doc.0
IsItsOwn doc whats.Edit = ⊥
IsItsOwn doc _ = Unit {0}

-- a document whose view is this makes it: no edit, and a new entry with the next number, in the place of the one it shows where it replaces
abbrev pub IsMadeNew : View → What → Type 0
IsMadeNew view (whats.Push entry memo address) = entry ≡ next_entry view
IsMadeNew view (whats.Replace over entry memo address) = (over ≡ view.entry) × (entry ≡ next_entry view)
IsMadeNew view whats.Edit = ⊥
IsMadeNew view _ = Unit {0}

-- something was made by a document that is there
pub record IsMadeThere (documents : List Document) (made : Made) : Type 0 where
  pub document : Document
  pub found : document_in documents made.doc ≡ Some document
  pub own : IsItsOwn made.doc made.what

-- a report: of such an order, or of what such a document made
abbrev pub IsReportTo : List Document → List Place → Report → Type 0
IsReportTo documents places (reports.Done job outcome None) = IsOrderTo documents places job × IsOutcomeOf job.task outcome
IsReportTo documents places (reports.Done job outcome (Some made)) = ⊥
IsReportTo documents places (reports.Made made) = IsMadeThere documents made
IsReportTo documents places (reports.Died death) = ⊥

-- a poke is to a document that is there
pub record IsPokeThere (documents : List Document) (poke : Poke) : Type 0 where
  pub document : Document
  pub found : document_in documents poke.doc ≡ Some document

-- what the process of all documents has
pub record IsHomeDesk (documents : List Document) (places : List Place) (desk : Desk) : Type 0 where
  pub orders : Each (IsOrderTo documents places) (orders_of_desk desk)
  pub told : Each (IsReportTo documents places) desk.reports
  pub pokes : Each (IsPokeThere documents) desk.input

-- the other processes have nothing
pub record IsBare (desk : Desk) : Type 0 where
  pub nothing : HasNothing desk
  pub input : desk.input ≡ []

pub record AreDesks (home : ProcId) (s : Seen) : Type 0 where
  pub own : IsHomeDesk s.documents s.places (desk_of s home)
  pub others : (proc : ProcId) → (home.0 == proc.0) ≡ false → IsBare (desk_of s proc)

-- ---- each document is made once

-- an order makes the document, where it is to that one
abbrev pub makes_by : Bool → Task → ℕ
makes_by true (tasks.Populate nav state address initial) = 1
makes_by _ _ = 0

abbrev pub makes_it : DocId → Job → ℕ
makes_it doc job = makes_by (job.doc.0 == doc.0) job.task

-- how many of the orders make the document, and of how many such the reports tell
abbrev pub makes_sent : DocId → List Job → ℕ
makes_sent doc [] = 0
makes_sent doc (job ∷ jobs) = makes_it doc job + makes_sent doc jobs

abbrev pub makes_told : DocId → List Report → ℕ
makes_told doc [] = 0
makes_told doc (reports.Done job outcome made ∷ waiting) = makes_it doc job + makes_told doc waiting
makes_told doc (report ∷ waiting) = makes_told doc waiting

-- one is on its way, until its report is delivered
abbrev pub makes_due : Bool → ℕ
makes_due true = 0
makes_due false = 1

abbrev pub IsMadeOnce : Desk → Document → Type 0
IsMadeOnce desk d = makes_sent d.nr (orders_of_desk desk) + makes_told d.nr desk.reports ≡ makes_due d.is_ready

abbrev pub EachIsMadeOnce : ProcId → Seen → Type 0
EachIsMadeOnce home s = EachThere (IsMadeOnce (desk_of s home)) s.documents

-- ---- what documents made and the history doesn't have yet: held back, then at hand in the event, then in the reports

-- what the document made of it
abbrev pub untaken : List Made → Desk → DocId → List Made
untaken held desk doc = filter (λ (made : Made). made.doc.0 == doc.0) (held ++ filter_map made_of_report desk.reports)

-- the numbers of its entries rise, from the last applied one to the last that it numbered
abbrev pub Ascends : List Made → Desk → Document → Type 0
Ascends held desk d = (view : View) → d.view ≡ Some view → Ascend d.last_applied (untaken held desk d.nr) view.numbered

-- what is held back, and what is at hand
abbrev pub waiting : Seen → List Made → List Made
waiting s hand = held_back s.requests s.parked ++ hand

abbrev pub EachAscends : ProcId → Seen → List Made → Type 0
EachAscends home s hand = EachThere (Ascends (waiting s hand) (desk_of s home)) s.documents

-- a document that isn't made has made nothing
abbrev pub HasMadeNothing : List Made → Desk → Document → Type 0
HasMadeNothing held desk d = d.is_ready ≡ false → (d.last_applied ≡ 0) × (untaken held desk d.nr ≡ [])

abbrev pub EachHasMadeNothing : ProcId → Seen → List Made → Type 0
EachHasMadeNothing home s hand = EachThere (HasMadeNothing (waiting s hand) (desk_of s home)) s.documents

-- what waits is of documents that are there
abbrev pub EachWaits : Seen → List Made → Type 0
EachWaits s hand = Each (IsMadeThere s.documents) (waiting s hand)

-- of the document of each awake navigable that has a row, each replace that is coming is of the entry before it, from the given one on
abbrev pub EachContinues : ProcId → Seen → List Made → Type 0
EachContinues home s hand =
    (nav : NavId) (place : Place) (doc : DocId) (given : EntryId) → place_of s nav ≡ Some place → place.status ≡ awake doc → has_row place.nav s.history.rows ≡ true → place.given ≡ Some given → Continues given (coming (waiting s hand) (desk_of s home) doc place.epoch)
