-- What an `EntryStore` stands for, and what it keeps.
-- This project's own.
use Rattle.std.specs.Prelude.{◌≡◌, ◌≢◌, ◌<◌, ◌+◌, ◌&&◌, ℕ, true, false, nat_le, List, ◌∷◌, ◌++◌, length, slice_get, filter, find, fold, [], Option, Some, None}
use Rattle.std.specs.List.{list_any}
use Rattle.std.specs.Option.{option_map}
use Rattle.tab_ids.specs.declared.NavId.{NavId}
use Rattle.tab_ids.specs.declared.StateId.{StateId}
use Rattle.tab_ids.specs.declared.EntryId.{EntryId}
use Rattle.address.specs.Addresses.{blank_text}
use Rattle.log_model.specs.declared.row.Row.{Row}
use Rattle.log_model.specs.declared.change.Change.{Change}
use Rattle.log_model.specs.History.{History, Fits, applied, is_of, has_nav, has_row, used_steps, with_step}
use Rattle.log_model.specs.Order.{ordered, SameHistory}
use Rattle.log_model.specs.Soundness.{IsSound}
use Rattle.entry_store.specs.declared.changed.Changed.{Changed}
use Rattle.entry_store.specs.declared.nested.Nested.{Nested}
use Rattle.entry_store.specs.declared.cut.Cut.TheVariants.{Forward, Nothing}
use Rattle.entry_store.specs.Places.{rows_at, rows_before, rows_after}
use Rattle.entry_store.specs.Reading.{first_of}
use Rattle.entry_store.specs.Nested.{rows_of, outlives, stays, AreHeld}

-- the history that the lists stand for: their rows one after the other
abbrev pub history_in : Nested → History
history_in lists =
    record { rows = rows_of lists.nests.items; current = lists.current.0; added = lists.added.keys }

-- a history of these rows
abbrev pub history_of : List Row → ℕ → List NavId → History
history_of rows current added = record { rows = rows; current = current; added = added }

-- the new rows are the old ones and one more, somewhere
pub record PutsRow (old : List Row) (row : Row) (new : List Row) : Type 0 where
  pub front : List Row
  pub back : List Row
  pub was : old ≡ front ++ back
  pub is : new ≡ front ++ row ∷ back

-- what the lists keep, with the used steps beside them
pub record IsKept (history : History) (beside : List ℕ) : Type 0 where
  -- they stand for a sound history
  pub sound : IsSound history
  -- each child with a row was added
  pub added : (nav : NavId) → has_row nav history.rows ≡ true → nav.0 ≢ 0 → has_nav history.added nav ≡ true
  -- the steps beside them are the used ones
  pub used : beside ≡ used_steps history.rows
  -- no row stands at the last step that there is
  pub below : list_any (λ (row : Row). nat_le 4294967295 row.step.0) history.rows ≡ false

-- a push that is sure of its place: the list that it goes to, the new row, and the document states and the used steps that it leaves
pub record IsPushPlan (lists : Nested) (nav : NavId) (entry : EntryId) (state : StateId) (address : List ℕ) (memo : Option (List ℕ)) (place : ℕ) (row : Row) (states : List StateId) (beside : List ℕ) : Type 0 where
  pub owner : Option StateId
  pub within : place < length lists.nests.items
  pub held : AreHeld states (filter (outlives (Forward lists.current entry)) (rows_of lists.nests.items))
  -- the owner is that of the navigable's first row that stays
  pub found : Some owner ≡ option_map (λ (r : Row). r.owner) (find (λ r. is_of nav r && stays (Forward lists.current entry) states r) (rows_of lists.nests.items))
  pub is : row ≡ record { owner = owner; nav = nav; entry = entry; step = record { 0 = lists.current.0 + 1 }; state = state; address = address; memo = memo }
  pub steps : beside ≡ with_step (lists.current.0 + 1) (used_steps (filter (stays (Forward lists.current entry) states) (rows_of lists.nests.items)))

-- a new frame's list: its one row stands at the first step of its owner's rows
pub record IsFramePlan (history : History) (owner : StateId) (nav : NavId) (entry : EntryId) (state : StateId) (rows : List Row) : Type 0 where
  pub step : ℕ
  pub first : fold (first_of owner) None history.rows ≡ Some step
  pub is_child : nav.0 ≢ 0
  pub is_new : has_nav history.added nav ≡ false
  pub are : rows ≡ record { owner = Some owner; nav = nav; entry = entry; step = record { 0 = step }; state = state; address = blank_text; memo = None } ∷ []

-- the lists with one row in the place of another, and then without the rows that hang on nothing any more
pub record IsPutOver (old : Nested) (place at : ℕ) (row : Row) (new : Nested) : Type 0 where
  pub was : Row
  pub there : slice_get (rows_at old.nests.items place) at ≡ Some was
  pub of_old : rows_of old.nests.items ≡ rows_before old.nests.items place at ++ was ∷ rows_after old.nests.items place at
  pub put : List Row
  pub put_is : put ≡ rows_before old.nests.items place at ++ row ∷ rows_after old.nests.items place at
  pub states : List StateId
  pub held : AreHeld states (filter (outlives Nothing) put)
  pub swept : rows_of new.nests.items ≡ filter (stays Nothing states) put
  pub steps : new.used.keys ≡ used_steps (filter (stays Nothing states) put)
  pub current : new.current ≡ old.current
  pub added : new.added.keys ≡ old.added.keys

-- what a change made of a history, its rows in order
pub record IsChanged (history : History) (change : Change) (new : Changed) : Type 0 where
  pub fits : Fits history change
  pub same : SameHistory (history_of new.rows new.current.0 new.added.keys) (applied history change)
  pub kept : IsKept (history_of new.rows new.current.0 new.added.keys) new.used.keys
  pub in_order : ordered new.rows ≡ new.rows
