-- The entries that a `StepIndex` keeps, navigable by navigable.
-- This project's own.
use Rattle.std.specs.Prelude.{◌≡◌, ◌≤◌, ◌<◌, ℕ, Bool, false, not, ◌&&◌, nat_le, length, take, drop, slice_get, List, [], ◌∷◌, Some}
use Rattle.std.specs.List.{flat_map, list_any}
use Rattle.tab_ids.specs.declared.NavId.{NavId}
use Rattle.log_model.specs.declared.row.Row.{Row}
use Rattle.log_model.specs.History.{is_of}
use Rattle.step_index.specs.declared.track.Track.{Track}
use Rattle.step_index.specs.Ascending.{IsAscending}

-- the navigable's number, and an entry's step
abbrev pub nav_of : Track → ℕ
nav_of track = track.nav.0

abbrev pub step_of : Row → ℕ
step_of row = row.step.0

-- the entries of all navigables
abbrev pub rows_of : List Track → List Row
rows_of tracks = flat_map (λ (track : Track). track.rows.items) tracks

-- one navigable's entries, by step
abbrev pub IsTrack : NavId → List Row → Type 0
IsTrack nav rows =
    (list_any (λ (row : Row). not (is_of nav row)) rows ≡ false) × IsAscending step_of rows

-- the navigables by number, each with its own entries; a removed frame has none left
abbrev pub AreTracks : List Track → Type 0
AreTracks [] = Unit {0}
AreTracks (track ∷ tracks) =
    (list_any (λ other. nat_le (nav_of other) (nav_of track)) tracks ≡ false) × (IsTrack track.nav track.rows.items × AreTracks tracks)

-- the navigable's entries stand at the place
pub record IsTrackAt (tracks : List Track) (nav : NavId) (at : ℕ) : Type 0 where
  pub it : Track
  pub within : at < length tracks
  pub here : slice_get tracks at ≡ Some it
  pub is_navs : it.nav.0 ≡ nav.0

-- the navigable has no entries, and would have them at the place
pub record IsGap (tracks : List Track) (nav : NavId) (at : ℕ) : Type 0 where
  pub within : at ≤ length tracks
  pub lower : list_any (λ other. nat_le nav.0 (nav_of other)) (take at tracks) ≡ false
  pub higher : list_any (λ other. nat_le (nav_of other) nav.0) (drop at tracks) ≡ false

-- the row stands at the navigable's step or after it
abbrev pub is_from : NavId → ℕ → Row → Bool
is_from nav step row = is_of nav row && nat_le step row.step.0
