-- Where a row stands in the lists.
-- This project's own.
use Rattle.std.specs.Prelude.{◌≡◌, ◌<◌, ◌+◌, ◌&&◌, ℕ, Bool, true, List, [], ◌∷◌, ◌++◌, length, take, drop, slice_get, Option, Some, None}
use Rattle.tab_ids.specs.declared.NavId.{NavId}
use Rattle.tab_ids.specs.declared.StateId.{StateId}
use Rattle.tab_ids.specs.declared.EntryId.{EntryId}
use Rattle.log_model.specs.declared.row.Row.{Row}
use Rattle.log_model.specs.History.{same_entry, is_of}
use Rattle.entry_store.specs.declared.nest.Nest.{Nest}
use Rattle.entry_store.specs.Nested.{rows_of}

-- the row is the navigable's, of the entry
abbrev pub is_navs_entry : NavId → EntryId → Row → Bool
is_navs_entry nav entry row = same_entry row.entry entry && is_of nav row

abbrev pub rows_in : Option Nest → List Row
rows_in None = []
rows_in (Some nest) = nest.rows.items

-- the rows of one list
abbrev pub rows_at : List Nest → ℕ → List Row
rows_at nests place = rows_in (slice_get nests place)

-- the rows that stand before a place, and those after it
abbrev pub rows_before : List Nest → ℕ → ℕ → List Row
rows_before nests place at = rows_of (take place nests) ++ take at (rows_at nests place)

abbrev pub rows_after : List Nest → ℕ → ℕ → List Row
rows_after nests place at = drop (at + 1) (rows_at nests place) ++ rows_of (drop (place + 1) nests)

-- the place is one of the lists
pub record IsWithin (nests : List Nest) (place at : ℕ) : Type 0 where
  pub in_lists : place < length nests
  pub in_list : at < length (rows_at nests place)

-- a navigable's entry, and where it stands in its list
pub record IsEntryAt (rows : List Row) (nav : NavId) (entry : EntryId) (at : ℕ) : Type 0 where
  pub it : Row
  pub here : slice_get rows at ≡ Some it
  pub passes : is_navs_entry nav entry it ≡ true

-- a navigable's entry, and where it stands in the lists, with its owner and its step
pub record IsPlaceOf (nests : List Nest) (nav : NavId) (entry : EntryId) (place at : ℕ) (owner : Option StateId) (step : ℕ) : Type 0 where
  pub it : Row
  pub within : place < length nests
  pub here : slice_get (rows_at nests place) at ≡ Some it
  pub passes : is_navs_entry nav entry it ≡ true
  pub owner_is : owner ≡ it.owner
  pub step_is : step ≡ it.step.0

-- a list that begins with an entry of the navigable, and the document state on which that entry hangs
pub record IsListOf (nests : List Nest) (nav : NavId) (place : ℕ) (owner : Option StateId) : Type 0 where
  pub it : Row
  pub within : place < length nests
  pub here : slice_get (rows_at nests place) 0 ≡ Some it
  pub is_navs : it.nav.0 ≡ nav.0
  pub owner_is : owner ≡ it.owner

-- one row has the place of another, and the rest is as it was
pub record SwapsRow (old : List Nest) (place at : ℕ) (row was : Row) (new : List Nest) : Type 0 where
  pub there : slice_get (rows_at old place) at ≡ Some was
  pub of_old : rows_of old ≡ rows_before old place at ++ was ∷ rows_after old place at
  pub of_new : rows_of new ≡ rows_before old place at ++ row ∷ rows_after old place at
  pub still : IsWithin new place at
  pub before : rows_before new place at ≡ rows_before old place at
  pub after : rows_after new place at ≡ rows_after old place at
