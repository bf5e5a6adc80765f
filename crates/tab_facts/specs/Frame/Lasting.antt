-- What lasts in a tab of frames: documents act under an epoch under which they were shown, pokes are of the navigables of their documents, what is gone stays gone, a document state has one document that is there, and a navigable has one document.
-- HTML Standard, "attempt to populate the history entry's document", "destroy a document" and "destroy a child navigable"; epochs and orders are this project's own.
use Rattle.seen_facts.specs.Coord.Leading.{orders_of_desk}
use Rattle.tab_facts.specs.FrameTab.Alive.{EachThere}
use Rattle.seen_facts.specs.Home.Homes.{document_in}
use Rattle.log_model.specs.History.{has_row}
use Rattle.log_model.specs.Points.{nav_of_request}
use Rattle.log_model.specs.Seen.{Asked, Desk, Document, Place, Seen, desk_of, document_of, place_of}
use Rattle.log_model.specs.Views.{View}
use Rattle.log_model.specs.declared.job.Job.{Job}
use Rattle.log_model.specs.declared.made.Made.{Made}
use Rattle.log_model.specs.declared.made.Report.{Report}
use Rattle.log_model.specs.declared.request.Request.{Request}
use Rattle.seen_facts.specs.Each.Runs.{EachAsked}
use Rattle.seen_facts.specs.Each.Items.{Each}
use Rattle.std.specs.Prelude.{Bool, List, Option, Some, false, true, ℕ, ◌≡◌, ◌≤◌}
use Rattle.tab_ids.specs.declared.DocId.{DocId}
use Rattle.tab_ids.specs.declared.NavId.{NavId}
use Rattle.tab_ids.specs.declared.ProcId.{ProcId}
use Rattle.tab_ids.specs.declared.ReqId.{ReqId}
use Rattle.tab_ids.specs.declared.StateId.{StateId}
use Rattle.log_model.specs.declared.job.Task.TheVariants as tasks
use Rattle.log_model.specs.declared.made.Report.TheVariants as reports

-- what a request asks, of which document, and what was made of it
pub record Wish : Type 0 where
  pub what : Request
  pub doc : Option DocId
  pub made : Option Made

abbrev pub wish : Asked → Wish
wish q = record { what = q.what; doc = q.doc; made = q.made }

-- a document that runs was shown, so it has an epoch
abbrev pub IsRunShown : Document → Type 0
IsRunShown d = (view : View) → d.view ≡ Some view → view.running ≡ true → 1 ≤ view.epoch.0

-- what was made was made under an epoch
abbrev pub IsMadeShown : Wish → Type 0
IsMadeShown w = (made : Made) → w.made ≡ Some made → 1 ≤ made.epoch.0

-- a document that is there, of the request's navigable
pub record IsOfItsNav (documents : List Document) (w : Wish) (doc : DocId) : Type 0 where
  pub d : Document
  pub found : document_in documents doc ≡ Some d
  pub nav_is : nav_of_request w.what ≡ Some d.nav

-- so is the one that it pokes
abbrev pub PokesItsNav : List Document → Wish → Type 0
PokesItsNav documents w = (doc : DocId) → w.doc ≡ Some doc → IsOfItsNav documents w doc

-- a navigable whose last entries were taken has none
abbrev pub AreTakenBare : Seen → Type 0
AreTakenBare s =
    (nav : NavId) (place : Place) (req : ReqId) → place_of s nav ≡ Some place → place.taken_by ≡ Some req → has_row nav s.history.rows ≡ false

-- nor has the navigable of a document that is discarded
abbrev pub AreGoneBare : Seen → Type 0
AreGoneBare s =
    (doc : DocId) (d : Document) → document_of s doc ≡ Some d → d.is_discarded ≡ true → has_row d.nav s.history.rows ≡ false

-- a document that is there, of the document state
pub record IsOfState (documents : List Document) (doc : DocId) (state : StateId) : Type 0 where
  pub d : Document
  pub found : document_in documents doc ≡ Some d
  pub state_is : d.state ≡ state

-- an order that makes a document names the state of that document
abbrev pub NamesItsState : List Document → Job → Type 0
NamesItsState documents job =
    (nav : NavId) (state : StateId) (address : List ℕ) (initial : Bool) → job.task ≡ tasks.Populate nav state address initial → IsOfState documents job.doc state

-- so does the order of which a report tells
abbrev pub TellsItsState : List Document → Report → Type 0
TellsItsState documents (reports.Done job outcome made) = NamesItsState documents job
TellsItsState documents _ = Unit {0}

-- in the mail, in hand, or in a report that waits
pub record NameTheirStates (documents : List Document) (desk : Desk) : Type 0 where
  pub orders : Each (NamesItsState documents) (orders_of_desk desk)
  pub told : Each (TellsItsState documents) desk.reports

-- a document that isn't made isn't discarded
abbrev pub IsKeptUnmade : Document → Type 0
IsKeptUnmade d = d.is_ready ≡ false → d.is_discarded ≡ false

-- a document state has one document that isn't discarded
abbrev pub AreSole : List Document → Type 0
AreSole documents =
    (doc other : DocId) (d o : Document) → document_in documents doc ≡ Some d → document_in documents other ≡ Some o → o.state ≡ d.state → d.is_discarded ≡ false → o.is_discarded ≡ false → o.nr ≡ d.nr

-- a navigable has one document
abbrev pub AreSingle : List Document → Type 0
AreSingle documents =
    (doc other : DocId) (d o : Document) → document_in documents doc ≡ Some d → document_in documents other ≡ Some o → o.nav ≡ d.nav → o.nr ≡ d.nr

-- all of it
pub record IsLasting (s : Seen) : Type 0 where
  pub shown : EachThere IsRunShown s.documents
  pub made : EachAsked (λ (req : ReqId) (q : Asked). IsMadeShown (wish q)) s.requests
  pub poked : EachAsked (λ (req : ReqId) (q : Asked). PokesItsNav s.documents (wish q)) s.requests
  pub taken : AreTakenBare s
  pub gone : AreGoneBare s
  pub populates : (proc : ProcId) → NameTheirStates s.documents (desk_of s proc)
  pub unmade : EachThere IsKeptUnmade s.documents
  pub sole : AreSole s.documents
  pub single : AreSingle s.documents
