-- What a door asks of the ongoing loads and of the documents that are kept for traversal.
-- HTML Standard, "Navigables" ("ongoing navigation") and "Documents kept for traversal"; that a document that is left is kept, and in which order, is this project's own.
use Rattle.seen_facts.proofs.Kept.States.{AreOfOwnStates}
use Rattle.load_table.specs.Loads.{is_nav, ongoing_load}
use Rattle.load_table.specs.declared.load.Load.{Load}
use Rattle.seen_facts.specs.LoadTies.Tying.{made_for}
use Rattle.log_model.specs.AfterPlaces.{kept_leaving, without_doc}
use Rattle.log_model.specs.Places.{is_ongoing_load}
use Rattle.log_model.specs.Seen.{Asked, Document, Place, Seen, document_of, place_of, request_of}
use Rattle.page_cache.specs.Kept.{left_first, without}
use Rattle.seen_facts.specs.Kept.Keeping.{kept_states}
use Rattle.std.specs.Prelude.{List, None, Option, Some, false, option_and_then, take, ℕ, ◌==◌, ◌∷◌, ◌≡◌}
use Rattle.tab_ids.specs.declared.DocId.{DocId}
use Rattle.tab_ids.specs.declared.NavId.{NavId}
use Rattle.tab_ids.specs.declared.ReqId.{ReqId}
use Rattle.tab_ids.specs.declared.StateId.{StateId}

-- the request is no ongoing load
abbrev pub IsNoLoad : Seen → ReqId → Type 0
IsNoLoad s req = (q : Asked) → request_of s req ≡ Some q → is_ongoing_load q ≡ false

-- the table's load of the navigable has the document state, of which no document is there or being made; no other load has it
pub record IsUnmadeLoad (s : Seen) (table : List Load) (nav : NavId) (state : StateId) : Type 0 where
  pub load : Load
  pub at : ongoing_load nav table ≡ Some load
  pub state_is : load.state ≡ state
  pub unmade : made_for s.documents state ≡ None
  pub alone : (other : NavId) (l : Load) → ongoing_load other table ≡ Some l → is_nav other nav ≡ false → (state.0 == l.state.0) ≡ false

-- the documents that are kept once this one is shown
abbrev pub kept_once_shown : Seen → DocId → List DocId
kept_once_shown s doc =
    kept_leaving s doc (option_and_then (λ (d : Document). option_and_then (λ (place : Place). place.last) (place_of s d.nav)) (document_of s doc))

-- its navigable leaves no other document for it
abbrev pub LeavesNone : Seen → DocId → Type 0
LeavesNone s doc = kept_once_shown s doc ≡ without_doc doc s.kept

-- it leaves the document of this state, which is then kept
pub record LeavesOne (s : Seen) (doc : DocId) (state : StateId) : Type 0 where
  pub left : DocId
  pub is : kept_once_shown s doc ≡ without_doc doc (left ∷ without_doc left s.kept)
  pub apart : (left.0 == doc.0) ≡ false
  pub own : AreOfOwnStates s.documents s.kept left state

-- the document of this state, if there is one
abbrev pub Leaves : Seen → DocId → Option StateId → Type 0
Leaves s doc None = LeavesNone s doc
Leaves s doc (Some state) = LeavesOne s doc state

-- ---- a move that has begun

-- the document that is to be shown, and the state of the one that its navigable leaves for it, which is kept then; None where it leaves none, or one that isn't kept
pub record Move : Type 0 where
  pub doc : DocId
  pub left : Option StateId

-- the cache has noted the state that is left, and let the longest kept one go where there are too many
abbrev pub with_left : Option StateId → ℕ → List StateId → List StateId
with_left None keep states = states
with_left (Some left) keep states = take keep (left_first left states)

-- the states in the cache, where these are those of the kept documents
abbrev pub kept_in : Option Move → ℕ → List StateId → List StateId
kept_in None keep states = states
kept_in (Some move) keep states = with_left move.left keep states

-- once the document of this state is discarded, the cache has let go of it
abbrev pub LetsGo : Option Move → ℕ → List StateId → StateId → Type 0
LetsGo move keep states state = without state (kept_in move keep states) ≡ kept_in move keep (without state states)

-- once the document of a state is kept no longer, there is room for all
abbrev pub HasRoom : Option StateId → ℕ → List StateId → StateId → Type 0
HasRoom None keep states state = Unit {0}
HasRoom (Some left) keep states state = without state (take keep (left_first left states)) ≡ left_first left (without state states)

-- what is left by the document that is shown, of this state, is what the move has noted
abbrev pub LeavesFor : Option Move → Seen → DocId → StateId → ℕ → Type 0
LeavesFor None s doc state keep = LeavesNone s doc
LeavesFor (Some move) s doc state keep = (move.doc ≡ doc) × Leaves s doc move.left × HasRoom move.left keep (kept_states s) state
