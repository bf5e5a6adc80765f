-- What stays kept where rows go, or the current step moves.
use Rattle.std.proofs.Common.{◌≡◌, ℕ, ◌≤◌, List, sym, ◌∙◌}
use Rattle.std.specs.Prelude.{nat_le}
use Rattle.std.proofs.lemmas.Bool.{le-leb}
use Rattle.tab_ids.specs.declared.NavId.{NavId}
use Rattle.tab_ids.specs.declared.Step.{Step}
use Rattle.log_model.specs.declared.row.Row.{Row}
use Rattle.log_model.specs.History.{History, Fits, is_of, used_steps, greatest_step}
use Rattle.log_model.specs.declared.change.Change.TheVariants.{Traverse}
use Rattle.log_model.specs.Order.{ordered}
use Rattle.log_model.specs.Soundness.{IsSound}
use Rattle.history_laws.proofs.Sorted.{ordered-any}
use Rattle.history_laws.proofs.InOrder.{IsSound-ordered, used_steps-ordered}
use Rattle.history_laws.proofs.Members.{IsIn, witness, list_any-none, none_passes}
use Rattle.entry_store.specs.Kept.{IsKept}

-- soundness says nothing of the current step and of the navigables added
pub IsSound-at : (history : History) (current : ℕ) (added : List NavId) → IsSound history → IsSound (record { rows = history.rows; current = current; added = added })
IsSound-at history current added sound = record {
  entries = sound.entries;
  steps = sound.steps;
  rooted = sound.rooted;
  top_row = sound.top_row;
  anchored = sound.anchored;
}

-- fewer rows
pub IsKept-part : (history : History) (used : List ℕ) → IsKept history used → (rows : List Row) (current : ℕ) (beside : List ℕ)
    → ((row : Row) → IsIn rows row → IsIn history.rows row)
    → IsSound (record { rows = rows; current = current; added = history.added })
    → beside ≡ used_steps rows
    → IsKept (record { rows = rows; current = current; added = history.added }) beside
IsKept-part history used kept rows current beside part sound steps = record {
  sound = sound;
  added = λ nav has is_child.
      let w = witness (is_of nav) rows has in
      kept.added nav (part w.it w.is_in (is_of nav) w.passes) is_child;
  used = steps;
  below = list_any-none (λ (r : Row). nat_le 4294967295 r.step.0) rows (λ r there. none_passes (λ (x : Row). nat_le 4294967295 x.step.0) history.rows kept.below r (part r there));
}

-- another current step
pub IsKept-at : (history : History) (used : List ℕ) (current : ℕ) → IsKept history used → IsKept (record { rows = history.rows; current = current; added = history.added }) used
IsKept-at history used current kept =
    IsKept-part history used kept history.rows current used (λ row there. there) (IsSound-at history current history.added kept.sound) kept.used

pub Fits-goal : (history : History) (goal : Step) → goal.0 ≤ greatest_step history.rows → Fits history (Traverse goal)
Fits-goal history goal within = le-leb goal.0 (greatest_step history.rows) within

-- the rows put in order
pub IsKept-ordered : (history : History) (used : List ℕ) → IsKept history used → IsKept (record { rows = ordered history.rows; current = history.current; added = history.added }) used
IsKept-ordered history used kept =
    IsKept-part history used kept (ordered history.rows) history.current used
    (λ row there test passes. sym (ordered-any test history.rows) ∙ there test passes)
    (IsSound-ordered history kept.sound)
    (kept.used ∙ sym (used_steps-ordered history.rows kept.sound.steps))
