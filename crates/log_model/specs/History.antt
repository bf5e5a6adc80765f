-- The session history of a traversable and its child navigables, and how a change changes it.
-- HTML Standard, "Session history entries", "Nested histories", "Updating the traversable" and "Low-level operations on session history".
use Rattle.std.specs.Prelude.{ℕ, zero, suc, ◌+◌, min, max, Bool, true, not, ◌&&◌, ◌==◌, IsTrue, nat_lt, nat_le, List, [], ◌∷◌, ◌++◌, length, map, filter, fold, find, Option, Some, None, option_and_then, if◌then◌else◌}
use Rattle.std.specs.List.{list_any}
use Rattle.std.specs.Option.{option_map_or}
use Rattle.tab_ids.specs.declared.NavId.{NavId}
use Rattle.tab_ids.specs.declared.StateId.{StateId}
use Rattle.tab_ids.specs.declared.EntryId.{EntryId}
use Rattle.address.specs.Addresses.{blank_text}
use Rattle.log_model.specs.declared.row.Row.{Row}
use Rattle.log_model.specs.declared.change.Change.{Change}
use Rattle.log_model.specs.declared.change.Change.TheVariants.{Push, Replace, AddFrame, RemoveFrame, Traverse, Reload, Edit}

-- a history: the entries of all navigables as one list of rows, the current step, and the numbers of the child navigables ever added
pub record History : Type 0 where
  pub rows : List Row
  pub current : ℕ
  pub added : List NavId

-- ---- equal numbers

-- two entries are the same
abbrev pub same_entry : EntryId → EntryId → Bool
same_entry a b = a.maker == b.maker && a.nr == b.nr

-- the navigable is in the list
abbrev pub has_nav : List NavId → NavId → Bool
has_nav navs nav = list_any (λ (n : NavId). n.0 == nav.0) navs

-- ---- readers of the rows

-- the row belongs to the navigable
abbrev pub is_of : NavId → Row → Bool
is_of nav row = row.nav.0 == nav.0

-- the navigable has a row
abbrev pub has_row : NavId → List Row → Bool
has_row nav rows = list_any (is_of nav) rows

-- the document state is that of a row
abbrev pub has_state : StateId → List Row → Bool
has_state state rows = list_any (λ (row : Row). row.state.0 == state.0) rows

-- the document state on which the navigable's entries hang: that of its first row
abbrev pub owner_of : NavId → List Row → Option StateId
owner_of nav rows = option_and_then (λ (row : Row). row.owner) (find (is_of nav) rows)

-- the row of an entry
abbrev pub row_of : EntryId → List Row → Option Row
row_of entry rows = find (λ (row : Row). same_entry row.entry entry) rows

-- ---- used steps: "get all used history steps", "get the used step"

-- the sorted list with one more member, each once
abbrev pub with_step : ℕ → List ℕ → List ℕ
with_step step [] = step ∷ []
with_step step (first ∷ steps) =
    if nat_lt step first then step ∷ first ∷ steps
    else (if step == first then first ∷ steps else first ∷ with_step step steps)

-- the distinct steps of all rows, sorted
abbrev pub used_steps : List Row → List ℕ
used_steps [] = []
used_steps (row ∷ rows) = with_step row.step.0 (used_steps rows)

-- the greatest used step that is at most the given one; step 0 is always used
abbrev pub used_step_at : List Row → ℕ → ℕ
used_step_at rows step = fold max 0 (filter (λ used. nat_le used step) (map (λ (row : Row). row.step.0) rows))

-- the greatest used step
abbrev pub greatest_step : List Row → ℕ
greatest_step rows = fold max 0 (map (λ (row : Row). row.step.0) rows)

-- the history object's length: how many used steps there are
abbrev pub history_length : List Row → ℕ
history_length rows = length (used_steps rows)

-- the history object's index at a step: how many used steps stand before its used step
abbrev pub history_index : List Row → ℕ → ℕ
history_index rows step = length (filter (λ used. nat_lt used (used_step_at rows step)) (used_steps rows))

-- ---- "get the target history entry"

-- the row with the greater step
abbrev pub later_row : Option Row → Row → Option Row
later_row None row = Some row
later_row (Some best) row = if nat_lt best.step.0 row.step.0 then Some row else Some best

-- the navigable's row with the greatest step that is at most the given one
abbrev pub target_entry : List Row → NavId → ℕ → Option Row
target_entry rows nav step = fold later_row None (filter (λ row. is_of nav row && nat_le row.step.0 step) rows)

-- ---- tidying: nested histories go with their document state

-- the row hangs on no document state, or on that of a row
abbrev pub is_anchored : List Row → Row → Bool
is_anchored rows row = option_map_or (λ owner. has_state owner rows) row.owner true

-- the rows without those that hang on a document state which no row has
abbrev pub tidied_once : List Row → List Row
tidied_once rows = filter (is_anchored rows) rows

-- the same, again and again
abbrev pub tidied_times : ℕ → List Row → List Row
tidied_times zero rows = rows
tidied_times (suc n) rows = tidied_times n (tidied_once rows)

-- the rows whose nested histories hang on a remaining row: the rule above as many times as there are rows
abbrev pub tidied : List Row → List Row
tidied rows = tidied_times (length rows) rows

-- ---- changes

-- the rows without the forward session history: "clear the forward session history"
abbrev pub cleared : History → List Row
cleared history = tidied (filter (λ row. nat_le row.step.0 history.current) history.rows)

-- the least step of the rows with a document state
abbrev pub first_step : StateId → List Row → ℕ
first_step state rows =
    least_of (map (λ (row : Row). row.step.0) (filter (λ (row : Row). row.state.0 == state.0) rows))
  where
    least_of : List ℕ → ℕ
    least_of [] = 0
    least_of (step ∷ steps) = fold min step steps

-- the row takes the place and the step of the row of the replaced entry
abbrev pub replaced_row : EntryId → Row → Row → Row
replaced_row over new row =
    if same_entry row.entry over && is_of new.nav row then record new { owner = row.owner; step = row.step } else row

-- whether a history can take the change
abbrev pub fits : History → Change → Bool
fits history (Push nav entry state address memo) = has_row nav (cleared history)
fits history (Replace nav over entry state address memo) =
    list_any (λ row. same_entry row.entry over && is_of nav row) history.rows
fits history (AddFrame owner nav entry state) =
    has_state owner history.rows && not (nav.0 == 0) && not (has_nav history.added nav)
fits history (RemoveFrame nav) = not (nav.0 == 0) && has_row nav history.rows
fits history (Traverse goal) = nat_le goal.0 (greatest_step history.rows)
fits history (Reload nav) = has_row nav history.rows
fits history Edit = true

-- the change fits the history
abbrev pub Fits : History → Change → Type 0
Fits history change = IsTrue (fits history change)

-- the history after a push: the forward session history is cleared, and one entry is added a step after the current one
abbrev pub pushed : History → NavId → EntryId → StateId → List ℕ → Option (List ℕ) → History
pushed history nav entry state address memo =
    record history {
      rows = cleared history ++ record {
        owner = owner_of nav (cleared history);
        nav = nav;
        entry = entry;
        step = record { 0 = history.current + 1 };
        state = state;
        address = address;
        memo = memo;
      } ∷ [];
      current = history.current + 1;
    }

-- the history after a change that fits
abbrev pub applied : History → Change → History
applied history (Push nav entry state address memo) = pushed history nav entry state address memo
applied history (Replace nav over entry state address memo) =
    record history {
      rows = tidied (map (replaced_row over (record {
        owner = None;
        nav = nav;
        entry = entry;
        step = record { 0 = 0 };
        state = state;
        address = address;
        memo = memo;
      })) history.rows);
    }
applied history (AddFrame owner nav entry state) =
    record {
      rows = history.rows ++ record {
        owner = Some owner;
        nav = nav;
        entry = entry;
        step = record { 0 = first_step owner history.rows };
        state = state;
        address = blank_text;
        memo = None;
      } ∷ [];
      current = history.current;
      added = history.added ++ nav ∷ [];
    }
applied history (RemoveFrame nav) =
    let rows = tidied (filter (λ row. not (is_of nav row)) history.rows) in
    record history { rows = rows; current = used_step_at rows history.current }
applied history (Traverse goal) = record history { current = used_step_at history.rows goal.0 }
applied history (Reload nav) = history
applied history Edit = history
