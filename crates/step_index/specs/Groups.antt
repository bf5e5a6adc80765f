-- How many rows of a `StepIndex` stand at a step, and how many hang on a document state.
-- This project's own.
use Rattle.std.specs.Prelude.{◌≡◌, ◌<◌, ◌+◌, ◌-◌, ℕ, Bool, true, false, not, ◌&&◌, ◌==◌, nat_lt, List, Option, if◌then◌else◌}
use Rattle.std.specs.List.{list_any, count_by}
use Rattle.std.specs.Option.{option_map_or}
use Rattle.std.specs.Map.{lookup}
use Rattle.tab_ids.specs.declared.StateId.{StateId}
use Rattle.tab_ids.specs.declared.Step.{Step}
use Rattle.log_model.specs.declared.row.Row.{Row}
use Rattle.step_index.specs.declared.groups.Group.{Group}
use Rattle.step_index.specs.declared.groups.Group.TheVariants.{At, On}

-- the two are the same step, or the same document state
abbrev pub same_group : Group → Group → Bool
same_group (At one) (At other) = one.0 == other.0
same_group (At one) (On other) = false
same_group (On one) (At other) = false
same_group (On one) (On other) = one.0 == other.0

-- a row at the step, which hangs on the owner, is of the group
abbrev pub is_of_group : Group → Step → Option StateId → Bool
is_of_group (At at) step owner = step.0 == at.0
is_of_group (On state) step owner = option_map_or (λ o. o.0 == state.0) owner false

abbrev pub is_in : Group → Row → Bool
is_in group row = is_of_group group row.step row.owner

-- how many rows are of the group, as it is kept
abbrev pub count_of : Group → List (Group × ℕ) → ℕ
count_of group counts = option_map_or (λ n. n) (lookup (same_group group) counts) 0

-- each group is counted
abbrev pub AreCounted : List (Group × ℕ) → List Row → Type 0
AreCounted counts rows = (group : Group) → count_of group counts ≡ count_by (is_in group) rows

-- one row more is counted
abbrev pub CountsRow : List (Group × ℕ) → Step → Option StateId → List (Group × ℕ) → Type 0
CountsRow old step owner new =
    (group : Group) → count_of group new ≡ count_of group old + (if is_of_group group step owner then 1 else 0)

-- the rows are counted no more
abbrev pub CountsLess : List (Group × ℕ) → List Row → List (Group × ℕ) → Type 0
CountsLess old rows new = (group : Group) → count_of group new ≡ count_of group old - count_by (is_in group) rows

-- none of the counts of a row's groups is as great as a count can be
abbrev pub AreBelow : List (Group × ℕ) → Step → Option StateId → Type 0
AreBelow counts step owner =
    (group : Group) → is_of_group group step owner ≡ true → count_of group counts < 18446744073709551615

-- a row stands at the step, and none is counted there
abbrev pub is_unused : List (Group × ℕ) → List Row → ℕ → Bool
is_unused counts rows step =
    list_any (λ (row : Row). row.step.0 == step && not (nat_lt 0 (count_of (At row.step) counts))) rows
