-- A navigable that a step moves: it is awake on a document, and its target there has another document state.
-- HTML Standard, "applying the history step".
use Rattle.log_model.specs.Places.{targets_state}
use Rattle.log_model.specs.Seen.{Document, Place, Seen, awake, document_of, place_of}
use Rattle.std.specs.Prelude.{Some, false, ℕ, ◌≡◌}
use Rattle.tab_ids.specs.declared.DocId.{DocId}
use Rattle.tab_ids.specs.declared.NavId.{NavId}

-- it is awake on a document, and its target at the step, if it has one, has another document state
pub record IsMoved (s : Seen) (step : ℕ) (nav : NavId) : Type 0 where
  pub place : Place
  pub there : place_of s nav ≡ Some place
  pub doc : DocId
  pub wakes : place.status ≡ awake doc
  pub document : Document
  pub found : document_of s doc ≡ Some document
  pub leaves : targets_state s.history.rows step nav document.state ≡ false
