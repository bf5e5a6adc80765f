-- Where a `StepIndex` looks for an entry.
-- This project's own.
use Rattle.std.specs.Prelude.{◌≡◌, Bool, false, not, ◌&&◌, ◌==◌, List, Option, Some, None, if◌then◌else◌}
use Rattle.std.specs.List.{list_any}
use Rattle.std.specs.Option.{option_map_or}
use Rattle.std.specs.Map.{lookup}
use Rattle.tab_ids.specs.declared.EntryId.{EntryId}
use Rattle.log_model.specs.declared.row.Row.{Row}
use Rattle.log_model.specs.History.{same_entry, is_of}
use Rattle.step_index.specs.declared.noted.Place.{Place}

-- the row stands at the place
abbrev pub is_at_place : Place → Row → Bool
is_at_place place row = is_of place.nav row && row.step.0 == place.step.0

-- where the entry is looked for
abbrev pub place_of : EntryId → List (EntryId × Place) → Option Place
place_of entry noted = lookup (same_entry entry) noted

-- the row is looked for where it stands
abbrev pub is_noted : List (EntryId × Place) → Row → Bool
is_noted noted row =
    option_map_or (λ (place : Place). place.nav.0 == row.nav.0 && place.step.0 == row.step.0) (place_of row.entry noted) false

-- each row is
abbrev pub AreNoted : List (EntryId × Place) → List Row → Type 0
AreNoted noted rows = list_any (λ (row : Row). not (is_noted noted row)) rows ≡ false

-- one entry is looked for at another place, or not at all, and the others where they were
abbrev pub NotesOne : List (EntryId × Place) → EntryId → Option Place → List (EntryId × Place) → Type 0
NotesOne old entry place new =
    (other : EntryId) → place_of other new ≡ (if same_entry other entry then place else place_of other old)

-- a row's entry is looked for where the row stands, and another one not at all
pub record NotesOver (old : List (EntryId × Place)) (row : Row) (over : EntryId) (new : List (EntryId × Place)) : Type 0 where
  pub between : List (EntryId × Place)
  pub comes : NotesOne old row.entry (Some (record { nav = row.nav; step = row.step })) between
  pub goes : NotesOne between over None new
