-- The documents of a tab of frames: each lives in one process, and none is left, frozen or kept.
-- HTML Standard, "Documents" and "create a new child navigable"; processes, incarnations and handler slots are this project's own.
use Rattle.std.specs.Prelude.{◌≡◌, ℕ, ◌≤◌, false, List, length, Some, None}
use Rattle.tab_ids.specs.declared.DocId.{DocId}
use Rattle.tab_ids.specs.declared.NavId.{NavId}
use Rattle.tab_ids.specs.declared.ProcId.{ProcId}
use Rattle.log_model.specs.Seen.{Seen, Document, Place, place_in}
use Rattle.log_model.specs.Views.{View}
use Rattle.seen_facts.specs.Home.Homes.{document_in}

-- the document lives in the process, in its first incarnation, has no handler and isn't frozen; its view is its own, and runs only once the document is made
pub record IsAlive (home : ProcId) (d : Document) : Type 0 where
  pub proc : d.proc ≡ home
  pub incarnation : d.incarnation ≡ 0
  pub slot : d.slot ≡ None
  pub thawed : d.is_frozen ≡ false
  pub lives : d.dead_by ≡ None
  pub unknown : d.is_known_dead ≡ false
  pub viewed : (view : View) → d.view ≡ Some view → view.doc ≡ d.nr
  pub unmade : (view : View) → d.view ≡ Some view → d.is_ready ≡ false → view.running ≡ false

-- the navigable has a place
pub record HasPlace (places : List Place) (nav : NavId) : Type 0 where
  pub place : Place
  pub found : place_in places nav ≡ Some place

-- so it is of a document of a navigable that has a place, with a number from 1 up to how many there are
pub record IsThere (home : ProcId) (count : ℕ) (places : List Place) (d : Document) : Type 0 where
  pub alive : IsAlive home d
  pub placed : HasPlace places d.nav
  pub number : d.nr.0 ≤ count
  pub real : 1 ≤ d.nr.0

-- a fact of each document
abbrev pub EachThere : (Document → Type 0) → List Document → Type 0
EachThere F documents = (doc : DocId) (d : Document) → document_in documents doc ≡ Some d → F d

abbrev pub AreThere : ProcId → Seen → Type 0
AreThere home s = EachThere (IsThere home (length s.documents) s.places) s.documents
