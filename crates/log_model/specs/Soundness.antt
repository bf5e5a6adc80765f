-- What every history of a tab meets, and what a saved one has to meet.
-- This project's own; it says of a list of rows what HTML Standard, "Session history entries" and "Nested histories", say of nested lists.
use Rattle.std.specs.Prelude.{◌≡◌, ◌≢◌, ◌≤◌, ℕ, Bool, true, false, ◌&&◌, ◌==◌, List, count_by, is_none}
use Rattle.std.specs.List.{list_any}
use Rattle.std.specs.Option.{option_map_or}
use Rattle.tab_ids.specs.declared.NavId.{NavId}
use Rattle.tab_ids.specs.declared.StateId.{StateId}
use Rattle.tab_ids.specs.declared.EntryId.{EntryId}
use Rattle.log_model.specs.declared.row.Row.{Row}
use Rattle.log_model.specs.History.{History, same_entry, is_of, has_row, has_state}

-- the row has the entry
abbrev pub is_entry : EntryId → Row → Bool
is_entry entry row = same_entry row.entry entry

-- the row is the navigable's at a step
abbrev pub stands_at : NavId → ℕ → Row → Bool
stands_at nav step row = is_of nav row && row.step.0 == step

-- the row has the document state
abbrev pub is_in_state : StateId → Row → Bool
is_in_state state row = row.state.0 == state.0

-- the row hangs on the document state
abbrev pub is_owned_by : StateId → Row → Bool
is_owned_by state row = option_map_or (λ owner. owner.0 == state.0) row.owner false

-- a row of the navigable has the document state
abbrev pub holds : NavId → StateId → List Row → Bool
holds nav state rows = list_any (λ row. is_of nav row && is_in_state state row) rows

-- a row of the navigable hangs on the document state
abbrev pub hangs_on : NavId → StateId → List Row → Bool
hangs_on nav state rows = list_any (λ row. is_of nav row && is_owned_by state row) rows

-- a row of the navigable hangs on no document state
abbrev pub is_free : NavId → List Row → Bool
is_free nav rows = list_any (λ row. is_of nav row && is_none row.owner) rows

-- following owners leads from the navigable to the top: whatever holds at the top, and at a navigable if at the one on whose document state it hangs, holds here
abbrev pub LeadsToTop : List Row → NavId → Type 0
LeadsToTop rows nav =
    (test : NavId → Bool)
    → ((top : NavId) → top.0 ≡ 0 → test top ≡ true)
    → ((child parent : NavId) (owner : StateId) → hangs_on child owner rows ≡ true → holds parent owner rows ≡ true → test parent ≡ true → test child ≡ true)
    → test nav ≡ true

-- the rows hang together
pub record IsRooted (rows : List Row) : Type 0 where
  -- all rows of a navigable have the same owner
  pub owners : (nav : NavId) (one other : StateId) → hangs_on nav one rows ≡ true → hangs_on nav other rows ≡ true → one.0 ≡ other.0
  -- the top has no owner
  pub top_owner : (nav : NavId) (owner : StateId) → hangs_on nav owner rows ≡ true → nav.0 ≢ 0
  -- each other navigable has one
  pub child_owner : (nav : NavId) → is_free nav rows ≡ true → nav.0 ≡ 0
  -- the rows of a document state belong to one navigable
  pub states : (state : StateId) (one other : NavId) → holds one state rows ≡ true → holds other state rows ≡ true → one.0 ≡ other.0
  -- an owner is no document state of the same navigable
  pub another : (nav : NavId) (owner : StateId) → hangs_on nav owner rows ≡ true → holds nav owner rows ≡ false
  -- following owners leads to the top
  pub leads : (nav : NavId) → has_row nav rows ≡ true → LeadsToTop rows nav

-- a sound history
pub record IsSound (history : History) : Type 0 where
  -- entries are distinct
  pub entries : (entry : EntryId) → count_by (is_entry entry) history.rows ≤ 1
  -- the rows of a navigable have different steps
  pub steps : (nav : NavId) (step : ℕ) → count_by (stands_at nav step) history.rows ≤ 1
  -- owners are those of navigables, and lead to the top
  pub rooted : IsRooted history.rows
  -- the top has a row at step 0
  pub top_row : (nav : NavId) → nav.0 ≡ 0 → list_any (stands_at nav 0) history.rows ≡ true
  -- an owner is the document state of a row
  pub anchored : (nav : NavId) (owner : StateId) → hangs_on nav owner history.rows ≡ true → has_state owner history.rows ≡ true
