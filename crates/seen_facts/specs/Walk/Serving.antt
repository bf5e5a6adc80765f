-- What each navigable needs that a walk visits, and that it is served: it needs nothing, or a document of its target is being made.
-- HTML Standard, "Apply the history step"; that children wait for their parents, and that a document is made before it is shown, is this project's own.
use Rattle.std.specs.Prelude.{◌≡◌, ◌⊎◌, ℕ, Bool, true, false, not, ◌&&◌, ◌||◌, List, Some}
use Rattle.std.specs.List.{list_any}
use Rattle.tab_ids.specs.declared.NavId.{NavId}
use Rattle.tab_ids.specs.declared.StateId.{StateId}
use Rattle.log_model.specs.declared.row.Row.{Row}
use Rattle.log_model.specs.Equal.{holds}
use Rattle.log_model.specs.History.{target_entry}
use Rattle.log_model.specs.Orders.{is_being_made}
use Rattle.log_model.specs.Places.{is_shown, is_awake, is_asleep, is_given_target, aim_of}
use Rattle.log_model.specs.Seen.{Seen, Document, Place, place_in, place_of}
use Rattle.seen_facts.specs.Hang.Members.{Has}

-- a place is awake on its target
abbrev pub is_in_place : List Row → ℕ → Place → Bool
is_in_place rows step place = is_awake place && is_given_target rows step place

-- a navigable stops the walk that isn't awake on its target
abbrev pub is_stopping : List Row → ℕ → List Place → NavId → Bool
is_stopping rows step places nav = not (holds (is_in_place rows step) (place_in places nav))

-- a place needs something: it is asleep, a reload of it is due, or it wasn't given its target
abbrev pub is_needing : List Row → ℕ → Place → Bool
is_needing rows step place = is_asleep place || place.is_unmet || not (is_given_target rows step place)

-- a document of the document state is being made
pub record IsMaking (documents : List Document) (state : StateId) : Type 0 where
  pub document : Document
  pub there : Has documents document
  pub state_is : document.state ≡ state
  pub made : is_being_made document ≡ true

-- where the walk visits the place's navigable, which needs something, a document of its target is being made
abbrev pub IsServed : List Row → List Place → List Document → ℕ → Place → Type 0
IsServed rows places documents step place =
    is_shown rows step place.nav ≡ true → list_any (is_stopping rows step places) place.above ≡ false → is_needing rows step place ≡ true → (target : Row) → target_entry rows place.nav step ≡ Some target → IsMaking documents target.state

-- so it is of a navigable, where the log's aim has it
pub record IsServedAt (s : Seen) (nav : NavId) : Type 0 where
  pub serve : (place : Place) → place_of s nav ≡ Some place → IsServed s.history.rows s.places s.documents (aim_of s) place

-- of each navigable
pub record AreServed (s : Seen) : Type 0 where
  pub each : (nav : NavId) → IsServedAt s nav

-- ---- what a navigable waits for

-- that its document tells that it is shown
pub record IsComing (place : Place) : Type 0 where
  pub wakes : is_awake place ≡ true
  pub late : place.is_delivered ≡ false

-- that a document of its target is made
pub record IsMadeFor (rows : List Row) (documents : List Document) (step : ℕ) (place : Place) : Type 0 where
  pub target : Row
  pub at : target_entry rows place.nav step ≡ Some target
  pub making : IsMaking documents target.state

abbrev pub Waits : List Row → List Document → ℕ → Place → Type 0
Waits rows documents step place = IsComing place ⊎ IsMadeFor rows documents step place
