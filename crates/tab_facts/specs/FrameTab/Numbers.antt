-- The entries and document states of a tab of frames: one document state for each navigable, and numbers that were given.
-- HTML Standard, "Session history entries" and "Nested histories"; the numbers are this project's own.
use Rattle.std.specs.Prelude.{◌≡◌, ◌≢◌, ℕ, ◌≤◌, ◌==◌, true, List, ◌∷◌, map, Some}
use Rattle.std.specs.List.{list_any}
use Rattle.tab_ids.specs.declared.DocId.{DocId}
use Rattle.tab_ids.specs.declared.EntryId.{EntryId}
use Rattle.tab_ids.specs.declared.NavId.{NavId}
use Rattle.tab_ids.specs.declared.ReqId.{ReqId}
use Rattle.tab_ids.specs.declared.StateId.{StateId}
use Rattle.log_model.specs.declared.row.Row.{Row}
use Rattle.log_model.specs.History.{History}
use Rattle.log_model.specs.Places.{top}
use Rattle.log_model.specs.Seen.{Seen, Document, Asked, Place, place_in, request_in}
use Rattle.seen_facts.specs.Hang.Hanging.{BeginsBy}
use Rattle.seen_facts.specs.Hang.Members.{Has}
use Rattle.seen_facts.specs.Home.Homes.{document_in}
use Rattle.seen_facts.specs.Each.Items.{IsUpTo}

-- ---- document states

-- the rows of a navigable have one document state
abbrev pub AreOfOneState : List Row → Type 0
AreOfOneState rows = (one other : Row) → Has rows one → Has rows other → one.nav ≡ other.nav → one.state ≡ other.state

-- a navigable with a row has one at the first step
abbrev pub EachBegins : List Row → Type 0
EachBegins rows = (row : Row) → Has rows row → BeginsBy rows row.nav 0

-- the document state of the row was numbered, and but for the top's it is of initial about:blank documents
pub record IsOfGivenState (states : ℕ) (initial : List StateId) (row : Row) : Type 0 where
  pub real : 1 ≤ row.state.0
  pub given : row.state.0 ≤ states
  pub blank : row.nav ≢ top → list_any (λ (state : StateId). state.0 == row.state.0) initial ≡ true

-- the rows of the document's navigable have its document state, which was numbered
pub record IsOfItsRows (rows : List Row) (states : ℕ) (d : Document) : Type 0 where
  pub rows_ : (row : Row) → Has rows row → row.nav ≡ d.nav → row.state ≡ d.state
  pub given : d.state.0 ≤ states

-- the navigables that have a place are the top and those that were ever added
abbrev pub AreListed : History → List Place → Type 0
AreListed history places = map (λ (place : Place). place.nav) places ≡ top ∷ history.added

pub record AreStated (s : Seen) : Type 0 where
  pub one : AreOfOneState s.history.rows
  pub begins : EachBegins s.history.rows
  pub given : (row : Row) → Has s.history.rows row → IsOfGivenState s.states s.initial_states row
  pub documents : (doc : DocId) (d : Document) → document_in s.documents doc ≡ Some d → IsOfItsRows s.history.rows s.states d
  pub listed : AreListed s.history s.places

-- ---- entries

-- the entry was numbered by the coordinator, or by a document that is there, and one of a document is none later than the last applied
pub record IsNumbered (entries : ℕ) (count : ℕ) (documents : List Document) (entry : EntryId) : Type 0 where
  pub own : entry.maker ≡ 0 → entry.nr ≤ entries
  pub maker : entry.maker ≤ count
  pub applied : (doc : DocId) (d : Document) → document_in documents doc ≡ Some d → IsUpTo d.last_applied d.nr entry

-- a fact of each entry of the rows, each that a navigable was ever given, and each that a change took from the history
pub record EachEntry (F : EntryId → Type 0) (rows : List Row) (places : List Place) (asked : List Asked) : Type 0 where
  pub of_row : (row : Row) → Has rows row → F row.entry
  pub given : (nav : NavId) (place : Place) (entry : EntryId) → place_in places nav ≡ Some place → Has place.ever_given entry → F entry
  pub took : (req : ReqId) (q : Asked) (entry : EntryId) → request_in asked req ≡ Some q → Has q.took entry → F entry
