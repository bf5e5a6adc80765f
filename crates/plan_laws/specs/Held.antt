-- How a table of navigables stands for the places of a log's navigables.
-- This project's own.
use Rattle.std.specs.Prelude.{◌≡◌, ℕ, ◌≤◌, true, List, [], ◌∷◌, length, map, slice_get, Option, Some, None, option_and_then, if◌then◌else◌, ◌==◌}
use Rattle.tab_ids.specs.declared.NavId.{NavId}
use Rattle.tab_ids.specs.declared.StateId.{StateId}
use Rattle.tab_ids.specs.declared.DocId.{DocId}
use Rattle.tab_ids.specs.declared.Step.{Step}
use Rattle.log_model.specs.declared.row.Row.{Row}
use Rattle.log_model.specs.declared.request.Request.{Request}
use Rattle.log_model.specs.Equal.{holds}
use Rattle.log_model.specs.Seen.{Seen, Document, Place, Status, awake, lost, asleep, place_in}
use Rattle.log_model.specs.Seen as seen
use Rattle.log_model.specs.Places.{awake_document}
use Rattle.log_model.specs.Orders.{is_leaving}
use Rattle.nav_tree.specs.declared.nav.Nav.{Nav}
use Rattle.nav_tree.specs.declared.status.NavStatus.{NavStatus}
use Rattle.nav_tree.specs.declared.status.NavStatus.TheVariants as kept
use Rattle.nav_tree.specs.declared.place.Place as live
use Rattle.nav_tree.specs.Tree.{Tree, nav_of, document_of}
use Rattle.seen_facts.specs.Hang.AsPlaces.{AreDistinct, HangsAs, IsChain}
use Rattle.apply_plan.specs.Reaches.{is_awake}
use Rattle.apply_plan.specs.Needs.{is_pending}
use Rattle.apply_plan.specs.Order.{parent_in, made_in}

-- these navigables are above one in the tree, the nearest first, and the last of them is the top
abbrev pub AreAbove : Tree → NavId → List NavId → Type 0
AreAbove tree nav [] = parent_in tree nav ≡ None
AreAbove tree nav (parent ∷ above) = (parent_in tree nav ≡ Some parent) × AreAbove tree parent above

-- the tree has the places' navigables, in the same order, each below the same ones
pub record AreHeld (places : List Place) (tree : Tree) : Type 0 where
  pub order : made_in tree ≡ map (λ (place : Place). place.nav) places
  pub distinct : AreDistinct places
  pub above : (i : ℕ) (place : Place) → slice_get places i ≡ Some place → AreAbove tree place.nav place.above
  -- no more are above one than there are
  pub depth : (i : ℕ) (place : Place) → slice_get places i ≡ Some place → length place.above ≤ length tree.navs

-- ---- what is kept of each navigable

-- the status of which one is kept
abbrev pub status_of : NavStatus → Status
status_of (kept.Awake doc) = awake doc
status_of kept.Lost = lost
status_of kept.Asleep = asleep

-- what the tree keeps of a place's navigable is as the place tells
pub record IsKept (tree : Tree) (place : Place) : Type 0 where
  pub fields : Nav
  pub there : nav_of place.nav tree ≡ Some fields
  pub owner : fields.owner ≡ slice_get place.owners 0
  pub status : status_of fields.status ≡ place.status
  pub given : fields.given ≡ place.given
  pub unmet : is_pending fields.reload ≡ place.is_unmet
  -- whether its last Activate is finished and told, as long as it is awake
  pub stands : is_awake fields.status ≡ true → fields.stands ≡ place.is_delivered

-- the tree and the history stand for the places
pub record StandFor (rows : List Row) (places : List Place) (tree : Tree) : Type 0 where
  pub held : AreHeld places tree
  pub kept : (nav : NavId) (place : Place) → place_in places nav ≡ Some place → IsKept tree place
  pub hangs : (nav : NavId) (place : Place) → place_in places nav ≡ Some place → HangsAs rows place
  pub chains : (nav : NavId) (place : Place) → place_in places nav ≡ Some place → IsChain places place.above

-- ---- documents

-- the live document of each document state is the document, exactly for the state that it was made for
pub record IsLive (s : Seen) (tree : Tree) (doc : DocId) : Type 0 where
  pub document : Document
  pub found : seen.document_of s doc ≡ Some document
  pub nr : document.nr ≡ doc
  pub live : (state : StateId) → holds (λ (place : live.Place). place.doc.0 == doc.0) (document_of state tree) ≡ (state.0 == document.state.0)

-- each document that a navigable is awake on is live
abbrev pub AreLive : Seen → Tree → Type 0
AreLive s tree = (place : Place) (doc : DocId) → place_in s.places place.nav ≡ Some place → place.status ≡ awake doc → IsLive s tree doc

-- the document that a request leaves as it begins, of one place
abbrev pub left_by : Seen → Request → Option Step → Place → Option DocId
left_by s what goal place =
    option_and_then (λ (d : Document). if is_leaving s what goal place d then Some d.nr else None) (option_and_then (seen.document_of s) (awake_document place))
