-- What is true between two rows of each awake navigable: its document is there, made for the state of the given entry; and the navigable above it is awake, too.
-- HTML Standard, "Navigables", "active document" and "Nested histories"; awake and asleep navigables are this project's own.
use Rattle.std.specs.Prelude.{◌≡◌, true, false, ◌==◌, List, ◌∷◌, find, slice_get, Option, Some}
use Rattle.tab_ids.specs.declared.DocId.{DocId}
use Rattle.tab_ids.specs.declared.NavId.{NavId}
use Rattle.log_model.specs.declared.row.Row.{Row}
use Rattle.log_model.specs.Seen.{Seen, Document, Place, awake, place_of}
use Rattle.seen_facts.specs.Hang.Members.{Has}

-- the document with a number
abbrev pub document_in : List Document → DocId → Option Document
document_in documents doc = find (λ (d : Document). d.nr.0 == doc.0) documents

-- the document is the navigable's, it is made, and neither discarded nor known to be dead
pub record IsAtHome (documents : List Document) (nav : NavId) (doc : DocId) : Type 0 where
  pub document : Document
  pub found : document_in documents doc ≡ Some document
  pub nav_is : document.nav ≡ nav
  pub ready : document.is_ready ≡ true
  pub undiscarded : document.is_discarded ≡ false
  pub unknown : document.is_known_dead ≡ false

-- a fact of each awake navigable's place and of the number of its document
abbrev pub EachWake : (Place → DocId → Type 0) → Seen → Type 0
EachWake F s = (nav : NavId) (place : Place) (doc : DocId) → place_of s nav ≡ Some place → place.status ≡ awake doc → F place doc

-- its document is there, and was shown last
pub record IsHomed (documents : List Document) (place : Place) (doc : DocId) : Type 0 where
  pub home : IsAtHome documents place.nav doc
  pub last : place.last ≡ Some doc

-- the row of the given entry, while it has one, is of the document's state
abbrev pub IsOfState : List Row → List Document → Place → DocId → Type 0
IsOfState rows documents place doc =
    (row : Row) (d : Document) → Has rows row → row.nav ≡ place.nav → place.given ≡ Some row.entry → document_in documents doc ≡ Some d → row.state ≡ d.state

-- the navigable above is awake on a document of the state on which this one hangs
pub record IsOnAwake (s : Seen) (place : Place) (parent : NavId) : Type 0 where
  pub above : Place
  pub there : place_of s parent ≡ Some above
  pub doc : DocId
  pub wakes : above.status ≡ awake doc
  pub document : Document
  pub found : document_in s.documents doc ≡ Some document
  pub owner : slice_get place.owners 0 ≡ Some document.state

abbrev pub HangsOnAwake : Seen → Place → DocId → Type 0
HangsOnAwake s place doc = (parent : NavId) (others : List NavId) → place.above ≡ parent ∷ others → IsOnAwake s place parent

-- all of it
pub record AreHomed (s : Seen) : Type 0 where
  pub homed : EachWake (IsHomed s.documents) s
  pub state : EachWake (IsOfState s.history.rows s.documents) s
  pub hung : EachWake (HangsOnAwake s) s
