-- The forward session history cut off, track by track.
-- This project's own.
use Rattle.std.specs.Prelude.{◌≡◌, ℕ, Bool, true, false, not, ◌&&◌, ◌||◌, ◌==◌, nat_le, nat_lt, vec_len, vec_capacity, List, [], ◌∷◌, filter, if◌then◌else◌, None}
use Rattle.std.specs.List.{list_any}
use Rattle.std.specs.Option.{option_map_or}
use Rattle.tab_ids.specs.declared.NavId.{NavId}
use Rattle.tab_ids.specs.declared.StateId.{StateId}
use Rattle.tab_ids.specs.declared.Step.{Step}
use Rattle.tab_ids.specs.declared.EntryId.{EntryId}
use Rattle.log_model.specs.declared.row.Row.{Row}
use Rattle.log_model.specs.Soundness.{is_entry}
use Rattle.step_index.specs.declared.noted.Place.{Place}
use Rattle.step_index.specs.declared.track.Track.{Track}
use Rattle.step_index.specs.Noted.{place_of}
use Rattle.step_index.specs.Starts.{start_of, is_by}

-- the rows up to a step, and those past it
abbrev pub rows_upto : ℕ → List Row → List Row
rows_upto step rows = filter (λ (row : Row). nat_le row.step.0 step) rows

abbrev pub rows_past : ℕ → List Row → List Row
rows_past step rows = filter (λ (row : Row). not (nat_le row.step.0 step)) rows

-- the entries of the rows are forgotten, and the others looked for where they were
abbrev pub NotesLess : List (EntryId × Place) → List Row → List (EntryId × Place) → Type 0
NotesLess old rows new =
    (entry : EntryId) → place_of entry new ≡ (if list_any (is_entry entry) rows then None else place_of entry old)

-- one navigable's entries past a step go
pub record IsCut (step : ℕ) (old new : Track) : Type 0 where
  pub nav : new.nav ≡ old.nav
  pub rows : new.rows.items ≡ rows_upto step old.rows.items
  pub room : vec_capacity new.rows ≡ vec_capacity old.rows

-- those of each do
abbrev pub AreCut : ℕ → List Track → List Track → Type 0
AreCut step [] [] = Unit {0}
AreCut step [] (new ∷ news) = ⊥
AreCut step (old ∷ olds) [] = ⊥
AreCut step (old ∷ olds) (new ∷ news) = IsCut step old new × AreCut step olds news

-- the track has a row
abbrev pub has_rows : Track → Bool
has_rows track = not (track.rows.len == 0)

-- there is room for one entry more of the navigable
abbrev pub HasRowRoom : NavId → List Track → Type 0
HasRowRoom nav tracks =
    list_any (λ (track : Track). track.nav.0 == nav.0 && not (nat_lt (vec_len track.rows) (vec_capacity track.rows))) tracks ≡ false

-- the row goes with the cut, or hangs on no document state, or on one that starts by the step
abbrev pub is_held : List (StateId × Step) → ℕ → Row → Bool
is_held starts step row =
    not (nat_le row.step.0 step) || option_map_or (λ owner. is_by (start_of owner starts) step) row.owner true

-- all rows do
abbrev pub AreHeld : List (StateId × Step) → ℕ → List Row → Type 0
AreHeld starts step rows = list_any (λ (row : Row). not (is_held starts step row)) rows ≡ false
