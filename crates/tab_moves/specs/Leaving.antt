-- What a navigable leaves as it is shown another document: the one that it was shown last, where that is another one and is there.
-- HTML Standard, "apply the history step" and "Documents kept for traversal".
use Rattle.log_model.specs.Seen.{Document, Place, Seen, document_of, place_of}
use Rattle.nav_tree.specs.Tree.{is_nav, state_of}
use Rattle.std.specs.Map.{lookup}
use Rattle.std.specs.Prelude.{None, Option, Some, false, if◌then◌else◌, option_and_then, option_map, true, ◌==◌, ◌≡◌}
use Rattle.tab_doors.specs.declared.tables.Tables.{Tables}
use Rattle.tab_ids.specs.declared.DocId.{DocId}
use Rattle.tab_ids.specs.declared.NavId.{NavId}
use Rattle.tab_ids.specs.declared.StateId.{StateId}

-- it and its document state, as the tables tell
abbrev pub left_in : Tables → NavId → DocId → Option (DocId × StateId)
left_in t nav doc =
    option_and_then (λ (last : DocId). if last.0 == doc.0 then None else option_map (λ (state : StateId). (last, state)) (state_of last t.tree)) (lookup (is_nav nav) t.last.entries)

-- the document was shown to the navigable last, isn't this one, and is there
pub record IsLeftFor (s : Seen) (nav : NavId) (doc left : DocId) (state : StateId) : Type 0 where
  pub place : Place
  pub placed : place_of s nav ≡ Some place
  pub last : place.last ≡ Some left
  pub apart : (left.0 == doc.0) ≡ false
  pub document : Document
  pub found : document_of s left ≡ Some document
  pub state_is : document.state ≡ state
  pub ready : document.is_ready ≡ true
  pub undiscarded : document.is_discarded ≡ false
  pub unknown : document.is_known_dead ≡ false
