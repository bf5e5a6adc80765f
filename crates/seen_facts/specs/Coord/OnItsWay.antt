-- Each navigable that is to stand does stand, or something for it is on its way, or one above it doesn't stand.
-- HTML Standard, "apply the history step"; the exact form is this project's own.
use Rattle.std.specs.Prelude.{◌≡◌, ℕ, ◌<◌, ◌⊎◌, Bool, true, false, List, length, slice_get, Some}
use Rattle.log_model.specs.declared.row.Row.{Row}
use Rattle.log_model.specs.Equal.{holds}
use Rattle.log_model.specs.Seen.{Place, place_in}
use Rattle.log_model.specs.Places.{is_standing, is_wanted}

-- the navigable of the place stands at the step
abbrev pub stands_in : List Row → List Place → ℕ → Place → Bool
stands_in rows places step place = holds (is_standing rows step) (place_in places place.nav)

-- a navigable above, nearer to the top, is to stand at the step and doesn't
pub record IsHeldUp (rows : List Row) (places : List Place) (step : ℕ) (place : Place) : Type 0 where
  pub index : ℕ
  pub above : Place
  pub there : slice_get places index ≡ Some above
  pub wanted : is_wanted rows places step above ≡ true
  pub falls : stands_in rows places step above ≡ false
  pub nearer : length above.above < length place.above

-- each place that is to stand at the step and doesn't waits for something, or is held up
pub record EachOnItsWay (rows : List Row) (places : List Place) (step : ℕ) (Waits : Place → Type 0) : Type 0 where
  pub each : (i : ℕ) (place : Place) → slice_get places i ≡ Some place → is_wanted rows places step place ≡ true → stands_in rows places step place ≡ false → Waits place ⊎ IsHeldUp rows places step place
