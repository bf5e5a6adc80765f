-- What is true between two rows of each document of a tab, with loads and with documents that are left: it lives in the first incarnation of its process, is made once, and belongs to a navigable that has a place; nobody is awake on a frozen one, and a document state has one document that isn't discarded.
-- HTML Standard, "Documents", "attempt to populate the history entry's document" and "destroy a document"; processes, incarnations, frozen documents and handler slots are this project's own.
use Rattle.std.specs.Prelude.{◌≡◌, ℕ, ◌+◌, Bool, true, false, ◌==◌, List, [], ◌∷◌, Some, None}
use Rattle.tab_ids.specs.declared.DocId.{DocId}
use Rattle.tab_ids.specs.declared.NavId.{NavId}
use Rattle.log_model.specs.declared.job.Job.{Job}
use Rattle.log_model.specs.declared.job.Task.{Task}
use Rattle.log_model.specs.declared.job.Task.TheVariants as tasks
use Rattle.log_model.specs.declared.made.Report.{Report}
use Rattle.log_model.specs.declared.made.Report.TheVariants as reports
use Rattle.log_model.specs.Seen.{Seen, Desk, Document, Place, awake, desk_of, document_of, place_in, place_of}
use Rattle.log_model.specs.Views.{View}
use Rattle.seen_facts.specs.Coord.Leading.{orders_of_desk}

-- ---- a document by itself

-- it lives in the first incarnation of its process, and has no handler; its view is its own, and runs only once it is made
pub record IsLive (d : Document) : Type 0 where
  pub incarnation : d.incarnation ≡ 0
  pub slot : d.slot ≡ None
  pub lives : d.dead_by ≡ None
  pub unknown : d.is_known_dead ≡ false
  pub viewed : (view : View) → d.view ≡ Some view → view.doc ≡ d.nr
  pub unmade : (view : View) → d.view ≡ Some view → d.is_ready ≡ false → view.running ≡ false
  -- it is discarded only once it is made
  pub made : d.is_discarded ≡ true → d.is_ready ≡ true

-- the navigable has a place
pub record HasPlace (places : List Place) (nav : NavId) : Type 0 where
  pub place : Place
  pub found : place_in places nav ≡ Some place

-- ---- it is made once

-- an order makes the document, where it is to that one
abbrev pub makes_by : Bool → Task → ℕ
makes_by true (tasks.Populate nav state address initial) = 1
makes_by _ _ = 0

abbrev pub makes_it : DocId → Job → ℕ
makes_it doc job = makes_by (job.doc.0 == doc.0) job.task

-- how many of the orders make the document, and of how many such the reports tell
abbrev pub makes_sent : DocId → List Job → ℕ
makes_sent doc [] = 0
makes_sent doc (job ∷ jobs) = makes_it doc job + makes_sent doc jobs

abbrev pub makes_told : DocId → List Report → ℕ
makes_told doc [] = 0
makes_told doc (reports.Done job outcome made ∷ waiting) = makes_it doc job + makes_told doc waiting
makes_told doc (report ∷ waiting) = makes_told doc waiting

-- both
abbrev pub makes_at : DocId → Desk → ℕ
makes_at doc desk = makes_sent doc (orders_of_desk desk) + makes_told doc desk.reports

-- one is on its way, until its report is delivered
abbrev pub makes_due : Bool → ℕ
makes_due true = 0
makes_due false = 1

abbrev pub IsMadeOnce : Desk → Document → Type 0
IsMadeOnce desk d = makes_at d.nr desk ≡ makes_due d.is_ready

-- ---- all documents

pub record IsDoc (s : Seen) (d : Document) : Type 0 where
  pub live : IsLive d
  pub placed : HasPlace s.places d.nav
  pub once : IsMadeOnce (desk_of s d.proc) d

-- nobody is awake on a frozen document
abbrev pub AreThawed : Seen → Type 0
AreThawed s =
    (nav : NavId) (place : Place) (doc : DocId) (d : Document) → place_of s nav ≡ Some place → place.status ≡ awake doc → document_of s doc ≡ Some d → d.is_frozen ≡ false

-- no two documents of one state are both not discarded
abbrev pub AreSole : Seen → Type 0
AreSole s =
    (doc other : DocId) (d e : Document) → document_of s doc ≡ Some d → document_of s other ≡ Some e → d.state ≡ e.state → d.is_discarded ≡ false → e.is_discarded ≡ false → d.nr ≡ e.nr

pub record AreDocs (s : Seen) : Type 0 where
  pub each : (doc : DocId) (d : Document) → document_of s doc ≡ Some d → IsDoc s d
  pub thawed : AreThawed s
  pub sole : AreSole s
