-- What each process has is of documents that live there: orders to them, reports of such orders and of what they made, and pokes.
-- HTML Standard, "apply the history step", "navigate to a fragment" and "URL and history update steps"; processes and their lists are this project's own.
use Rattle.std.specs.Prelude.{◌≡◌, ◌≤◌, true, List, Option, Some, None}
use Rattle.tab_ids.specs.declared.DocId.{DocId}
use Rattle.tab_ids.specs.declared.ProcId.{ProcId}
use Rattle.log_model.specs.declared.job.Job.{Job}
use Rattle.log_model.specs.declared.job.Task.{Task}
use Rattle.log_model.specs.declared.job.Task.TheVariants as tasks
use Rattle.log_model.specs.declared.made.Made.{Made}
use Rattle.log_model.specs.declared.made.Report.{Report}
use Rattle.log_model.specs.declared.made.Report.TheVariants as reports
use Rattle.log_model.specs.declared.made.What.{What}
use Rattle.log_model.specs.declared.made.What.TheVariants as whats
use Rattle.log_model.specs.declared.request.Poke.{Poke}
use Rattle.log_model.specs.Seen.{Seen, Document, Desk, Place, desk_of, place_in}
use Rattle.seen_facts.specs.Coord.Leading.{orders_of_desk}
use Rattle.seen_facts.specs.Home.Homes.{document_in}
use Rattle.seen_facts.specs.Each.Items.{Each}
use Rattle.seen_facts.specs.Transit.Orders.{IsOutcomeOf}

-- a document that lives in the process
pub record LivesIn (documents : List Document) (proc : ProcId) (doc : DocId) : Type 0 where
  pub d : Document
  pub found : document_in documents doc ≡ Some d
  pub home : d.proc.0 ≡ proc.0

-- the order makes the document; or that is made, and the order shows it under an epoch of its navigable, tells it length and index, freezes, asks or discards it, or sends it to a fragment
abbrev pub IsTaskOf : Document → Place → Task → Type 0
IsTaskOf d place (tasks.Populate nav state address initial) = Unit {0}
IsTaskOf d place (tasks.Activate entry epoch length index memo address) = (d.is_ready ≡ true) × (1 ≤ epoch.0) × (epoch.0 ≤ place.epoch.0)
IsTaskOf d place _ = d.is_ready ≡ true

-- the order is to a document that lives in the process, in the first incarnation
pub record IsOrderIn (documents : List Document) (places : List Place) (proc : ProcId) (job : Job) : Type 0 where
  pub lives : LivesIn documents proc job.doc
  pub place : Place
  pub placed : place_in places lives.d.nav ≡ Some place
  pub proc_is : job.proc.0 ≡ proc.0
  pub incarnation : job.incarnation ≡ 0
  pub task : IsTaskOf lives.d place job.task

-- what a document made is no edit, and a new entry of it is the document's
abbrev pub IsItsOwn : DocId → What → Type 0
IsItsOwn doc (whats.Push entry memo address) = entry.maker ≡ doc.0
IsItsOwn doc (whats.Replace over entry memo address) = entry.maker ≡ doc.0
IsItsOwn doc whats.Edit = ⊥
IsItsOwn doc _ = Unit {0}

-- a document that lives in the process made it
pub record IsMadeIn (documents : List Document) (proc : ProcId) (made : Made) : Type 0 where
  pub lives : LivesIn documents proc made.doc
  pub own : IsItsOwn made.doc made.what

-- the order sends a document to a fragment
abbrev pub IsFragmentTask : Task → Type 0
IsFragmentTask (tasks.DoFragment req mode address) = Unit {0}
IsFragmentTask _ = ⊥

-- what was made of an order, if anything: of a fragment order, by its document
abbrev pub IsMadeOfOrder : List Document → ProcId → Job → Option Made → Type 0
IsMadeOfOrder documents proc job None = Unit {0}
IsMadeOfOrder documents proc job (Some made) = IsFragmentTask job.task × (made.doc.0 ≡ job.doc.0) × IsMadeIn documents proc made

-- a report: of such an order, with what was made of it, or of what such a document made
abbrev pub IsReportIn : List Document → List Place → ProcId → Report → Type 0
IsReportIn documents places proc (reports.Done job outcome made) =
    IsOrderIn documents places proc job × IsOutcomeOf job.task outcome × IsMadeOfOrder documents proc job made
IsReportIn documents places proc (reports.Made made) = IsMadeIn documents proc made
IsReportIn documents places proc (reports.Died death) = ⊥

-- a poke is to a document that lives in the process
abbrev pub IsPokeIn : List Document → ProcId → Poke → Type 0
IsPokeIn documents proc poke = LivesIn documents proc poke.doc

-- what a process has
pub record IsDeskIn (documents : List Document) (places : List Place) (proc : ProcId) (desk : Desk) : Type 0 where
  pub orders : Each (IsOrderIn documents places proc) (orders_of_desk desk)
  pub told : Each (IsReportIn documents places proc) desk.reports
  pub pokes : Each (IsPokeIn documents proc) desk.input

-- of each process
abbrev pub AreDesksIn : Seen → Type 0
AreDesksIn s = (proc : ProcId) → IsDeskIn s.documents s.places proc (desk_of s proc)
