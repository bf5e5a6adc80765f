-- Where an entry stands among the tracks.
-- This project's own.
use Rattle.std.specs.Prelude.{◌≡◌, ◌<◌, ℕ, Bool, true, not, ◌&&◌, ◌||◌, ◌==◌, length, slice_get, List, [], ◌∷◌, ◌++◌, Option, Some}
use Rattle.std.specs.List.{list_any}
use Rattle.std.specs.Option.{option_map_or}
use Rattle.tab_ids.specs.declared.NavId.{NavId}
use Rattle.tab_ids.specs.declared.StateId.{StateId}
use Rattle.tab_ids.specs.declared.EntryId.{EntryId}
use Rattle.log_model.specs.declared.row.Row.{Row}
use Rattle.log_model.specs.History.{same_entry}
use Rattle.log_model.specs.Soundness.{is_in_state, is_owned_by}
use Rattle.step_index.specs.declared.track.Track.{Track}
use Rattle.step_index.specs.Tracks.{rows_of}

-- the entry stands at the place
pub record IsEntryAt (rows : List Row) (entry : EntryId) (at : ℕ) : Type 0 where
  pub it : Row
  pub here : slice_get rows at ≡ Some it
  pub is_it : same_entry it.entry entry ≡ true

-- a row of the navigable, at the step, stands at the place
pub record IsPlace (tracks : List Track) (place at : ℕ) (nav : NavId) (step : ℕ) : Type 0 where
  pub track : Track
  pub it : Row
  pub within : place < length tracks
  pub there : slice_get tracks place ≡ Some track
  pub in_rows : at < length track.rows.items
  pub here : slice_get track.rows.items at ≡ Some it
  pub is_navs : nav.0 ≡ it.nav.0
  pub step_is : step ≡ it.step.0

-- the rows of the track at a place
abbrev pub track_rows : List Track → ℕ → List Row
track_rows tracks place = option_map_or (λ (track : Track). track.rows.items) (slice_get tracks place) []

-- no frame goes where an entry of the document state takes the place of a row: the row has that, or another row has the row's, or nothing hangs on it
abbrev pub keeps_frames : StateId → Row → List Row → Bool
keeps_frames state was rows =
    state.0 == was.state.0
    || (list_any (λ (row : Row). is_in_state was.state row && not (row.step.0 == was.step.0)) rows || not (list_any (is_owned_by was.state) rows))

-- the place of a navigable's entry, with its owner and its step; no frame goes with it
pub record IsSpotOf (tracks : List Track) (nav : NavId) (over : EntryId) (state : StateId) (place at : ℕ) (owner : Option StateId) (step : ℕ) : Type 0 where
  pub is_place : IsPlace tracks place at nav step
  pub is_over : same_entry is_place.it.entry over ≡ true
  pub owner_is : owner ≡ is_place.it.owner
  pub keeps : keeps_frames state is_place.it (rows_of tracks) ≡ true

-- one row has the place of another, and the rest is as it was
pub record PutsOver (old : List Track) (place at : ℕ) (row was : Row) (new : List Track) : Type 0 where
  pub track : Track
  pub there : slice_get old place ≡ Some track
  pub here : slice_get track.rows.items at ≡ Some was
  pub front : List Row
  pub back : List Row
  pub of_old : rows_of old ≡ front ++ was ∷ back
  pub of_new : rows_of new ≡ front ++ row ∷ back
