-- A store of a history: what a change may ask of it, when it refuses, and what its readers answer.
-- HTML Standard, "Session history entries", "Nested histories" and "Low-level operations on session history"; the refusals are this project's own.
use Rattle.std.specs.Prelude.{◌≡◌, ◌≤◌, ℕ, Bool, true, false, not, ◌&&◌, ◌||◌, ◌==◌, List, [], ◌∷◌, map, if◌then◌else◌}
use Rattle.std.specs.List.{list_any}
use Rattle.tab_ids.specs.declared.NavId.{NavId}
use Rattle.tab_ids.specs.declared.StateId.{StateId}
use Rattle.log_model.specs.declared.row.Row.{Row}
use Rattle.log_model.specs.declared.change.Change.{Change}
use Rattle.log_model.specs.declared.change.Change.TheVariants.{Push, Replace, AddFrame, RemoveFrame, Traverse, Reload, Edit}
use Rattle.log_model.specs.History.{History, same_entry, has_nav, is_of, has_row, has_state, with_step, greatest_step, cleared}
use Rattle.log_model.specs.Soundness.{is_entry, is_owned_by, holds}
use Rattle.entry_store.specs.declared.error.StoreError.{StoreError}
use Rattle.entry_store.specs.declared.error.StoreError.TheVariants as errors

-- ---- what the caller of a change sees to

-- the document state is no row's of another navigable
abbrev pub IsStateOf : NavId → StateId → List Row → Type 0
IsStateOf nav state rows = (other : NavId) → holds other state rows ≡ true → other.0 ≡ nav.0

-- the change's numbers are fit for the history: a new entry's is new, a new frame's document state is, and a traversal's goal lies in the history
abbrev pub MayTake : History → Change → Type 0
MayTake history (Push nav entry state address memo) =
    (list_any (is_entry entry) history.rows ≡ false) × IsStateOf nav state history.rows
MayTake history (Replace nav over entry state address memo) =
    (list_any (is_entry entry) history.rows ≡ false) × IsStateOf nav state history.rows
MayTake history (AddFrame owner nav entry state) =
    (list_any (is_entry entry) history.rows ≡ false) × (has_state state history.rows ≡ false)
MayTake history (RemoveFrame nav) = Unit {0}
MayTake history (Traverse goal) = goal.0 ≤ greatest_step history.rows
MayTake history (Reload nav) = Unit {0}
MayTake history Edit = Unit {0}

-- ---- when a change is refused

-- the change names a navigable that has no entry, or that it may not remove
abbrev pub lacks_navigable : History → Change → Bool
lacks_navigable history (Push nav entry state address memo) = not (has_row nav (cleared history))
lacks_navigable history (Replace nav over entry state address memo) = not (has_row nav history.rows)
lacks_navigable history (AddFrame owner nav entry state) = false
lacks_navigable history (RemoveFrame nav) = nav.0 == 0 || not (has_row nav history.rows)
lacks_navigable history (Traverse goal) = false
lacks_navigable history (Reload nav) = not (has_row nav history.rows)
lacks_navigable history Edit = false

-- the change names an entry that the navigable doesn't have, or a document state that no entry has
abbrev pub lacks_entry : History → Change → Bool
lacks_entry history (Push nav entry state address memo) = false
lacks_entry history (Replace nav over entry state address memo) =
    not (list_any (λ row. same_entry row.entry over && is_of nav row) history.rows)
lacks_entry history (AddFrame owner nav entry state) = not (has_state owner history.rows)
lacks_entry history (RemoveFrame nav) = false
lacks_entry history (Traverse goal) = false
lacks_entry history (Reload nav) = false
lacks_entry history Edit = false

-- the change adds a frame under a number that was used before
abbrev pub takes_used_number : History → Change → Bool
takes_used_number history (Push nav entry state address memo) = false
takes_used_number history (Replace nav over entry state address memo) = false
takes_used_number history (AddFrame owner nav entry state) = nav.0 == 0 || has_nav history.added nav
takes_used_number history (RemoveFrame nav) = false
takes_used_number history (Traverse goal) = false
takes_used_number history (Reload nav) = false
takes_used_number history Edit = false

-- the error is the first that there is cause for; want of memory has no cause
abbrev pub IsRefused : History → Change → StoreError → Type 0
IsRefused history change errors.NoNavigable = lacks_navigable history change ≡ true
IsRefused history change errors.NoEntry =
    (lacks_navigable history change ≡ false) × (lacks_entry history change ≡ true)
IsRefused history change errors.NavTaken =
    (lacks_navigable history change ≡ false) × (lacks_entry history change ≡ false) × (takes_used_number history change ≡ true)
IsRefused history change errors.OutOfMemory = Unit {0}

-- ---- children

-- the numbers of the navigables whose entries hang on the document state, in order, each once
abbrev pub child_numbers : StateId → List Row → List ℕ
child_numbers state [] = []
child_numbers state (row ∷ rows) =
    if is_owned_by state row then with_step row.nav.0 (child_numbers state rows) else child_numbers state rows

-- the navigables whose entries hang on the document state, in order of number
abbrev pub children_of : StateId → List Row → List NavId
children_of state rows = map (λ number. let nav : NavId = record { 0 = number } in nav) (child_numbers state rows)
