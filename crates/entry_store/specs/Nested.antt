-- The lists that `EntryStore` keeps, the rows that they hold, and how one pass along them finds the document states that stay.
-- This project's own.
use Rattle.std.specs.Prelude.{◌≡◌, ℕ, Bool, true, not, ◌&&◌, ◌||◌, ◌==◌, nat_le, List, [], ◌∷◌, ◌++◌, filter, count_by, if◌then◌else◌}
use Rattle.std.specs.List.{list_any, flat_map}
use Rattle.std.specs.Option.{option_map_or}
use Rattle.tab_ids.specs.declared.StateId.{StateId}
use Rattle.log_model.specs.declared.row.Row.{Row}
use Rattle.log_model.specs.History.{same_entry, is_of, has_state, with_step}
use Rattle.entry_store.specs.declared.nest.Nest.{Nest}
use Rattle.entry_store.specs.declared.cut.Cut.{Cut}
use Rattle.entry_store.specs.declared.cut.Cut.TheVariants.{Forward, Navigable, Nothing}

-- the rows that the lists hold
abbrev pub rows_of : List Nest → List Row
rows_of nests = flat_map (λ (nest : Nest). nest.rows.items) nests

-- the row outlives the cut itself
abbrev pub outlives : Cut → Row → Bool
outlives (Forward current but) row = nat_le row.step.0 current.0 || same_entry row.entry but
outlives (Navigable nav) row = not (is_of nav row)
outlives Nothing row = true

-- the document state is in the list
abbrev pub has : List StateId → StateId → Bool
has states state = list_any (λ (other : StateId). state.0 == other.0) states

-- the row hangs on no document state, or on one in the list
abbrev pub is_held_by : List StateId → Row → Bool
is_held_by states row = option_map_or (has states) row.owner true

-- the row stays where these document states do
abbrev pub stays : Cut → List StateId → Row → Bool
stays cut states row = outlives cut row && is_held_by states row

-- the document states that are known to stay, and with them that of a row that does
abbrev pub visit : Cut → List StateId → Row → List StateId
visit cut states row =
    if stays cut states row then (if has states row.state then states else states ++ row.state ∷ []) else states

-- the document states are exactly those of the rows that they hold
abbrev pub AreHeld : List StateId → List Row → Type 0
AreHeld states rows = (state : StateId) → has states state ≡ has_state state (filter (is_held_by states) rows)

-- the document states are among those of the rows that they hold
abbrev pub AreSupported : List StateId → List Row → Type 0
AreSupported states rows = (state : StateId) → has states state ≡ true → has_state state (filter (is_held_by states) rows) ≡ true

-- how many rows have a document state that isn't in the list
abbrev pub missing : List StateId → List Row → ℕ
missing states rows = count_by (λ (row : Row). not (has states row.state)) rows

-- the steps, with that of a row that stays
abbrev pub with_step_of : Cut → List StateId → List ℕ → Row → List ℕ
with_step_of cut states steps row = if stays cut states row then with_step row.step.0 steps else steps
