-- What is true between two rows of each load that has begun and has no outcome: its document state was numbered for it and is no entry's yet, its documents are its navigable's and were never shown, and a navigable has one such load.
-- HTML Standard, "Navigables" ("ongoing navigation"), "Beginning navigation" and "attempt to populate the history entry's document"; numbers of document states are this project's own.
use Rattle.std.specs.Prelude.{◌≡◌, ℕ, ◌≤◌, Bool, true, false, ◌&&◌, List, Option, Some, None, is_none, option_map}
use Rattle.tab_ids.specs.declared.DocId.{DocId}
use Rattle.tab_ids.specs.declared.NavId.{NavId}
use Rattle.tab_ids.specs.declared.ReqId.{ReqId}
use Rattle.tab_ids.specs.declared.StateId.{StateId}
use Rattle.log_model.specs.declared.made.Made.{Made}
use Rattle.log_model.specs.declared.outcome.Ending.{Ending}
use Rattle.log_model.specs.declared.request.Mode.{Mode}
use Rattle.log_model.specs.declared.request.Request.{Request}
use Rattle.log_model.specs.declared.request.Request.TheVariants as requests
use Rattle.log_model.specs.declared.row.Row.{Row}
use Rattle.log_model.specs.Equal.{has_doc}
use Rattle.log_model.specs.Once.{loads}
use Rattle.log_model.specs.Places.{is_load}
use Rattle.log_model.specs.Seen.{Seen, Asked, Document, Place, place_of, request_in}
use Rattle.seen_facts.specs.Hang.Members.{Has}
use Rattle.seen_facts.specs.Home.Homes.{document_in}

-- what is read of a request: what it asks, whether it has begun, how it ended, the document state that was numbered for it, and what was made of it
pub record Look : Type 0 where
  pub what : Request
  pub is_started : Bool
  pub ending : Option Ending
  pub state : Option StateId
  pub made : Option Made

abbrev pub look : Asked → Look
look q = record { what = q.what; is_started = q.is_started; ending = q.ending; state = q.state; made = q.made }

abbrev pub look_in : List Asked → ReqId → Option Look
look_in asked req = option_map look (request_in asked req)

abbrev pub look_of : Seen → ReqId → Option Look
look_of s req = look_in s.requests req

-- it is a load that has begun and has no outcome: its navigable's ongoing navigation
abbrev pub is_ongoing : Look → Bool
is_ongoing l = (l.is_started && is_none l.ending) && is_load l.what

-- no navigable was ever awake on the document
abbrev pub IsNeverShown : Seen → DocId → Type 0
IsNeverShown s doc = (nav : NavId) (place : Place) → place_of s nav ≡ Some place → has_doc place.ever_awake doc ≡ false

-- an ongoing load: the navigable, and the document state that was numbered for it
pub record IsLoading (s : Seen) (l : Look) : Type 0 where
  pub nav : NavId
  pub mode : Mode
  pub address : List ℕ
  pub what : l.what ≡ requests.Load nav mode address
  pub state : StateId
  pub state_is : l.state ≡ Some state
  pub numbered : state.0 ≤ s.states
  pub unmade : l.made ≡ None
  -- no entry has the document state
  pub unheld : (row : Row) → Has s.history.rows row → row.state.0 ≡ state.0 → ⊥
  -- a document of it is the navigable's, and was never shown
  pub whose : (doc : DocId) (d : Document) → document_in s.documents doc ≡ Some d → d.state.0 ≡ state.0 → d.nav ≡ nav
  pub unshown : (doc : DocId) (d : Document) → document_in s.documents doc ≡ Some d → d.state.0 ≡ state.0 → IsNeverShown s doc

-- of each
pub record AreLoading (s : Seen) : Type 0 where
  pub each : (req : ReqId) (l : Look) → look_of s req ≡ Some l → is_ongoing l ≡ true → IsLoading s l
  -- two of one navigable, or of one document state, are the same
  pub one : (a b : ReqId) (l m : Look) (nav : NavId) → look_of s a ≡ Some l → look_of s b ≡ Some m → is_ongoing l ≡ true → is_ongoing m ≡ true → loads nav l.what ≡ true → loads nav m.what ≡ true → a.0 ≡ b.0
  pub apart : (a b : ReqId) (l m : Look) (state : StateId) → look_of s a ≡ Some l → look_of s b ≡ Some m → is_ongoing l ≡ true → is_ongoing m ≡ true → l.state ≡ Some state → m.state ≡ Some state → a.0 ≡ b.0
  -- the document states of entries and documents were numbered
  pub rows_ : (row : Row) → Has s.history.rows row → row.state.0 ≤ s.states
  pub documents : (doc : DocId) (d : Document) → document_in s.documents doc ≡ Some d → d.state.0 ≤ s.states
