-- What a `StepIndex` stands for, and what it keeps.
-- This project's own.
use Rattle.std.specs.Prelude.{◌≡◌, ◌≢◌, ◌<◌, ◌≤◌, ℕ, Bool, false, nat_lt, List, length, vec_len, vec_capacity, slice_get, IfSome}
use Rattle.std.specs.List.{list_any}
use Rattle.indexmap.specs.IndexMap.{spare}
use Rattle.tab_ids.specs.declared.NavId.{NavId}
use Rattle.log_model.specs.declared.row.Row.{Row}
use Rattle.log_model.specs.History.{History, cleared}
use Rattle.entry_store.specs.Kept.{IsKept}
use Rattle.step_index.specs.declared.groups.Group.{Group}
use Rattle.step_index.specs.declared.groups.Group.TheVariants.{On}
use Rattle.step_index.specs.declared.parts.Parts.{Parts}
use Rattle.step_index.specs.Groups.{AreCounted, count_of}
use Rattle.step_index.specs.Noted.{AreNoted}
use Rattle.step_index.specs.Starts.{AreStarted}
use Rattle.step_index.specs.Tracks.{rows_of, AreTracks, IsTrackAt}
use Rattle.step_index.specs.Cut.{rows_upto, HasRowRoom}

-- the history: the entries of all navigables, the current step, and the child navigables ever added
abbrev pub history_in : Parts → History
history_in parts =
    record { rows = rows_of parts.tracks.items; current = parts.current.0; added = parts.added.keys }

-- the entries are sorted and noted, and so are the starts of their document states
pub record IsFiled (parts : Parts) : Type 0 where
  pub tracks : AreTracks parts.tracks.items
  pub noted : AreNoted parts.noted.entries (rows_of parts.tracks.items)
  pub started : AreStarted parts.starts.entries (rows_of parts.tracks.items)

-- the history is sound and the used steps are those of its entries, and these are filed and counted
pub record IsIndex (parts : Parts) : Type 0 where
  pub kept : IsKept (history_in parts) parts.used.items
  pub tracks : AreTracks parts.tracks.items
  pub noted : AreNoted parts.noted.entries (rows_of parts.tracks.items)
  pub started : AreStarted parts.starts.entries (rows_of parts.tracks.items)
  pub counted : AreCounted parts.counts.entries (rows_of parts.tracks.items)

-- there is room for one entry more of the navigable
pub record HasRoom (parts : Parts) (nav : NavId) : Type 0 where
  pub note : 0 < spare parts.noted
  pub start : 0 < spare parts.starts
  pub used : vec_len parts.used < vec_capacity parts.used
  pub row : HasRowRoom nav parts.tracks.items

-- the navigable's entries stand at the place, at least one, the first of them up to the current step, and clearing leaves all up to there
pub record IsLeftAt (parts : Parts) (nav : NavId) (at : ℕ) : Type 0 where
  pub place : IsTrackAt parts.tracks.items nav at
  pub some : 0 < length place.it.rows.items
  pub first : IfSome (slice_get place.it.rows.items 0) (λ row. row.step.0 ≤ parts.current.0)
  pub clean : cleared (history_in parts) ≡ rows_upto parts.current.0 (rows_of parts.tracks.items)

-- a row hangs on the row's document state, as it is counted
abbrev pub has_below : List (Group × ℕ) → Row → Bool
has_below counts row = nat_lt 0 (count_of (On row.state) counts)

-- the frame's entries stand at the place, at least one, and nothing hangs on their document states
pub record IsLeafAt (parts : Parts) (nav : NavId) (at : ℕ) : Type 0 where
  pub is_child : nav.0 ≢ 0
  pub place : IsTrackAt parts.tracks.items nav at
  pub some : 0 < length place.it.rows.items
  pub free : list_any (has_below parts.counts.entries) place.it.rows.items ≡ false
