-- What follows of each place: how its navigable hangs in the history, at each step.
-- HTML Standard, "Nested histories", "Child navigables"; which navigables are shown is this project's own reading of "Apply the history step".
use Rattle.std.specs.Prelude.{◌≡◌, ◌≢◌, ℕ, ◌≤◌, true, List, [], ◌∷◌, length, slice_get, Some, None, is_some}
use Rattle.tab_ids.specs.declared.NavId.{NavId}
use Rattle.tab_ids.specs.declared.StateId.{StateId}
use Rattle.log_model.specs.declared.row.Row.{Row}
use Rattle.log_model.specs.History.{owner_of, target_entry}
use Rattle.log_model.specs.Places.{holder_of, is_shown}
use Rattle.log_model.specs.Seen.{Place, place_in}

-- no two places have one navigable
abbrev pub AreDistinct : List Place → Type 0
AreDistinct [] = Unit {0}
AreDistinct (place ∷ places) = (place_in places place.nav ≡ None) × AreDistinct places

-- a navigable with entries hangs on this document state, of this navigable
pub record IsHung (rows : List Row) (place : Place) (parent : NavId) : Type 0 where
  pub owner : StateId
  pub owner_is : owner_of place.nav rows ≡ Some owner
  pub holder_is : holder_of owner rows ≡ Some parent
  pub first : slice_get place.owners 0 ≡ Some owner

-- the navigables hang together in the history as the places tell
pub record HangsAs (rows : List Row) (place : Place) : Type 0 where
  -- the top alone has none above it
  pub top : place.above ≡ [] → place.nav.0 ≡ 0
  pub child : (parent : NavId) (above : List NavId) → place.above ≡ parent ∷ above → place.nav.0 ≢ 0
  -- one with entries hangs on a document state of the first one above it
  pub hung : (step : ℕ) (parent : NavId) (above : List NavId) → is_some (target_entry rows place.nav step) ≡ true → place.above ≡ parent ∷ above → IsHung rows place parent
  -- then so do those above it, so that they aren't more than the rows
  pub rooted : (step : ℕ) → is_some (target_entry rows place.nav step) ≡ true → length place.above ≤ length rows
  -- one that is shown has a target
  pub begun : (step : ℕ) → is_shown rows step place.nav ≡ true → is_some (target_entry rows place.nav step) ≡ true

-- a navigable's place, below these
pub record IsLink (places : List Place) (nav : NavId) (above : List NavId) : Type 0 where
  pub place : Place
  pub found : place_in places nav ≡ Some place
  pub above_is : place.above ≡ above

-- each of these navigables has its place below those that follow
abbrev pub IsChain : List Place → List NavId → Type 0
IsChain places [] = Unit {0}
IsChain places (nav ∷ above) = IsLink places nav above × IsChain places above
