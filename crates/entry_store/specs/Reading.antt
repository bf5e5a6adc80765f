-- What one step along the rows makes of an answer, for each reader of the lists.
-- This project's own.
use Rattle.std.specs.Prelude.{ℕ, max, min, ◌&&◌, nat_le, List, Option, Some, None, if◌then◌else◌}
use Rattle.std.specs.Ordering.{nat_cmp, ordering_then}
use Rattle.std.specs.BTreeMap.{insert_entry}
use Rattle.tab_ids.specs.declared.NavId.{NavId}
use Rattle.tab_ids.specs.declared.StateId.{StateId}
use Rattle.tab_ids.specs.declared.Step.{Step}
use Rattle.log_model.specs.declared.row.Row.{Row}
use Rattle.log_model.specs.History.{is_of, later_row, with_step}
use Rattle.log_model.specs.Soundness.{is_in_state, is_owned_by}

-- the greatest step so far that is at most the given one
abbrev pub used_upto : ℕ → ℕ → Row → ℕ
used_upto step best row = if nat_le row.step.0 step then max best row.step.0 else best

-- the navigable's row so far with the greatest step that is at most the given one
abbrev pub later_of : NavId → ℕ → Option Row → Row → Option Row
later_of nav step best row = if is_of nav row && nat_le row.step.0 step then later_row best row else best

-- the lower of a step and of that before it, if there is one
abbrev pub lower_step : Option ℕ → ℕ → Option ℕ
lower_step None step = Some step
lower_step (Some best) step = Some (min best step)

-- the least step so far of a row with the document state
abbrev pub first_of : StateId → Option ℕ → Row → Option ℕ
first_of state best row = if is_in_state state row then lower_step best row.step.0 else best

-- the numbers so far of the navigables whose entries hang on the document state
abbrev pub child_of : StateId → List ℕ → Row → List ℕ
child_of state numbers row = if is_owned_by state row then with_step row.nav.0 numbers else numbers

-- the rows so far under navigable and step, with one more in its place
abbrev pub placed_row : List ((ℕ × ℕ) × Row) → Row → List ((ℕ × ℕ) × Row)
placed_row rows row = insert_entry (λ one other. ordering_then (nat_cmp one.0 other.0) (nat_cmp one.1 other.1)) rows (row.nav.0, row.step.0) row

-- the used steps so far, with one more
abbrev pub step_taken : List ℕ → Step → List ℕ
step_taken steps step = with_step step.0 steps
