-- Which navigables are shown at a step, by the places: each on the way to one hangs on the target of the next one above it.
-- HTML Standard, "Nested histories", "Child navigables"; which navigables are shown is this project's own reading of "apply the history step".
use Rattle.log_model.specs.History.{has_nav, has_row, target_entry}
use Rattle.log_model.specs.Seen.{Place, Seen, place_of}
use Rattle.log_model.specs.declared.row.Row.{Row}
use Rattle.std.specs.Prelude.{List, Some, false, option_map, slice_get, true, ℕ, ◌==◌, ◌∷◌, ◌≡◌}
use Rattle.tab_ids.specs.declared.NavId.{NavId}
use Rattle.tab_ids.specs.declared.StateId.{StateId}

-- the place hangs on the document state of the parent's target
pub record IsOnTarget (rows : List Row) (step : ℕ) (place : Place) (parent : NavId) : Type 0 where
  pub target : Row
  pub at : target_entry rows parent step ≡ Some target
  pub owner : slice_get place.owners 0 ≡ Some target.state

-- so does that of each navigable on the way to this one
abbrev pub LeadsUp : Seen → ℕ → NavId → Place → Type 0
LeadsUp s step nav place =
    (x : NavId) (own : Place) (parent : NavId) (others : List NavId) → has_nav (nav ∷ place.above) x ≡ true → place_of s x ≡ Some own → own.above ≡ parent ∷ others → IsOnTarget s.history.rows step own parent

-- where a navigable hangs
abbrev pub hanging : Place → List NavId × List StateId
hanging place = (place.above, place.owners)

-- each navigable hangs where it hung, and each other one than this with entries has the target that it had
pub record KeepsTargets (s t : Seen) (nav : NavId) : Type 0 where
  pub hung : (other : NavId) → option_map hanging (place_of t other) ≡ option_map hanging (place_of s other)
  pub targets : (other : NavId) → (other.0 == nav.0) ≡ false → has_row other t.history.rows ≡ true → target_entry t.history.rows other t.history.current ≡ target_entry s.history.rows other s.history.current
