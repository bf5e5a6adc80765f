-- Where the document states of a `StepIndex` start.
-- This project's own.
use Rattle.std.specs.Prelude.{◌≡◌, ℕ, Bool, true, false, not, ◌&&◌, ◌==◌, nat_le, find, option_map, List, Option, Some, None, if◌then◌else◌}
use Rattle.std.specs.List.{list_any}
use Rattle.std.specs.Option.{option_map_or}
use Rattle.std.specs.Map.{lookup}
use Rattle.tab_ids.specs.declared.StateId.{StateId}
use Rattle.tab_ids.specs.declared.Step.{Step}
use Rattle.log_model.specs.declared.row.Row.{Row}
use Rattle.log_model.specs.Soundness.{is_in_state}

-- the step at which a document state starts, as it is kept
abbrev pub start_of : StateId → List (StateId × Step) → Option Step
start_of state starts = lookup (λ (other : StateId). state.0 == other.0) starts

-- the start is at the step or before
abbrev pub is_by : Option Step → ℕ → Bool
is_by start step = option_map_or (λ (at : Step). nat_le at.0 step) start false

-- the start is at the step
abbrev pub is_start : Option Step → ℕ → Bool
is_start start step = option_map_or (λ (at : Step). at.0 == step) start false

-- each row's document state starts at the row's step or before, and each document state at that of one of its rows
pub record AreStarted (starts : List (StateId × Step)) (rows : List Row) : Type 0 where
  pub by_rows : list_any (λ (row : Row). not (is_by (start_of row.state starts) row.step.0)) rows ≡ false
  pub at_row : (state : StateId) (step : ℕ) → is_start (start_of state starts) step ≡ true → list_any (λ (row : Row). is_in_state state row && row.step.0 == step) rows ≡ true

-- one document state starts at the step, unless it did by then
abbrev pub StartsOne : List (StateId × Step) → StateId → Step → List (StateId × Step) → Type 0
StartsOne old state step new =
    (other : StateId) → start_of other new ≡ (if other.0 == state.0 && not (is_by (start_of other old) step.0) then Some step else start_of other old)

-- where the document state starts at the step, it starts later, or is gone
abbrev pub StartsAnew : List (StateId × Step) → StateId → Step → Option Step → List (StateId × Step) → Type 0
StartsAnew old state step later new =
    (other : StateId) → start_of other new ≡ (if other.0 == state.0 && is_start (start_of other old) step.0 then later else start_of other old)

-- one row has the place of another, and the rows are those from there on
pub record StartsOver (old : List (StateId × Step)) (row was : Row) (rows : List Row) (new : List (StateId × Step)) : Type 0 where
  pub between : List (StateId × Step)
  pub comes : StartsOne old row.state row.step between
  pub goes : StartsAnew between was.state was.step (option_map (λ (r : Row). r.step) (find (is_in_state was.state) rows)) new

-- a row of the document state stands where it starts
abbrev pub starts_with : StateId → Option Step → List Row → Bool
starts_with state start rows = list_any (λ (row : Row). is_in_state state row && is_start start row.step.0) rows

-- the document states that start with one of the rows are gone
abbrev pub StartsLess : List (StateId × Step) → List Row → List (StateId × Step) → Type 0
StartsLess old rows new =
    (state : StateId) → start_of state new ≡ (if starts_with state (start_of state old) rows then None else start_of state old)
