-- What is true between two rows of where each navigable stands, with loads and with documents that are left: none is lost or to be reloaded, and it was given an entry exactly if it was shown a document.
-- HTML Standard, "Navigables" and "Applying the history step"; epochs, and asleep and lost navigables, are this project's own.
use Rattle.std.specs.Prelude.{◌≡◌, ◌≢◌, ◌≤◌, false, List, Option, Some, None}
use Rattle.tab_ids.specs.declared.DocId.{DocId}
use Rattle.tab_ids.specs.declared.EntryId.{EntryId}
use Rattle.tab_ids.specs.declared.NavId.{NavId}
use Rattle.tab_ids.specs.declared.ReqId.{ReqId}
use Rattle.log_model.specs.declared.row.Row.{Row}
use Rattle.log_model.specs.History.{has_row}
use Rattle.log_model.specs.Places.{top}
use Rattle.log_model.specs.Seen.{Seen, Asked, Document, Place, awake, lost, document_of, place_of, request_in}
use Rattle.seen_facts.specs.Hang.Members.{Has}

-- the request of a number is there
pub record IsAskedBy (asked : List Asked) (by : Option ReqId) : Type 0 where
  pub req : ReqId
  pub is : by ≡ Some req
  pub q : Asked
  pub there : request_in asked req ≡ Some q

-- no document was ever shown in the navigable
pub record IsUnshownYet (place : Place) : Type 0 where
  pub given : place.given ≡ None
  pub last : place.last ≡ None

-- one was
pub record IsShownOnce (place : Place) : Type 0 where
  pub doc : DocId
  pub last : place.last ≡ Some doc
  pub entry : EntryId
  pub given : place.given ≡ Some entry
  pub ever : Has place.ever_given entry

-- which of both, its epoch tells
abbrev pub IsTold : Place → Type 0
IsTold place = (place.epoch.0 ≡ 0 → IsUnshownYet place) × (1 ≤ place.epoch.0 → IsShownOnce place)

-- the entry that the navigable was given is of the document state of the document that it was shown last, where it is in the history
abbrev pub IsOfItsLast : Seen → Place → Type 0
IsOfItsLast s place =
    (doc : DocId) (d : Document) (row : Row) → place.last ≡ Some doc → document_of s doc ≡ Some d → Has s.history.rows row → row.nav ≡ place.nav → place.given ≡ Some row.entry → row.state ≡ d.state

-- where the navigable stands
pub record IsStanding (s : Seen) (place : Place) : Type 0 where
  pub unlost : place.status ≡ lost → ⊥
  pub unpending : place.is_pending ≡ false
  pub met : place.is_unmet ≡ false
  -- it is awake only once it was shown a document
  pub shown : (doc : DocId) → place.status ≡ awake doc → 1 ≤ place.epoch.0
  pub told : IsTold place
  pub of_last : IsOfItsLast s place
  -- without an entry, a request took its last ones; but for the top, a request added it
  pub taken : has_row place.nav s.history.rows ≡ false → IsAskedBy s.requests place.taken_by
  pub added : place.nav ≢ top → IsAskedBy s.requests place.added_by

-- so it is of each
abbrev pub AreStanding : Seen → Type 0
AreStanding s = (nav : NavId) (place : Place) → place_of s nav ≡ Some place → IsStanding s place
