-- What a store answers that holds a history, up to the order of its rows: the history's length, index and targets.
use Rattle.std.proofs.Common.{◌≡◌, ℕ, List, sym, ap, ◌∙◌, arith}
use Rattle.std.specs.Prelude.{count_by}
use Rattle.tab_ids.specs.declared.NavId.{NavId}
use Rattle.log_model.specs.declared.row.Row.{Row}
use Rattle.log_model.specs.History.{History, target_entry, history_length, history_index}
use Rattle.log_model.specs.Order.{SameHistory}
use Rattle.log_model.specs.Soundness.{stands_at}
use Rattle.history_laws.proofs.InOrder.{count_by-ordered, target_entry-ordered, history_length-ordered, history_index-ordered}
use Rattle.history_laws.proofs.Sorted.{HaveSteps}
use Rattle.step_index.specs.declared.step_index.StepIndex.{StepIndex}
use Rattle.step_index.specs.Held.{history_held}
use Rattle.step_index.specs.contracts.step_index.StepIndexStore.TheImpl.Laws.{sound-law}

-- ---- two histories that are the same but for the order of their rows

steps_same : (one other : History) → SameHistory one other → HaveSteps one.rows → HaveSteps other.rows
steps_same one other same few nav step =
    omega (arith, few nav step, count_by-ordered (stands_at nav step) one.rows, count_by-ordered (stands_at nav step) other.rows, ap (λ (rows : List Row). count_by (stands_at nav step) rows) same.rows)

module _ (store : StepIndex) (history : History) (same : SameHistory (history_held store) history) where
  mine : HaveSteps (history_held store).rows
  mine = (sound-law store).steps

  its : HaveSteps history.rows
  its = steps_same (history_held store) history same mine

  pub same_length : history_length (history_held store).rows ≡ history_length history.rows
  same_length =
      sym (history_length-ordered (history_held store).rows mine) ∙ (ap (λ (rows : List Row). history_length rows) same.rows ∙ history_length-ordered history.rows its)

  -- at the current step
  pub same_index : (step : ℕ) → step ≡ (history_held store).current → history_index (history_held store).rows step ≡ history_index history.rows history.current
  same_index step at =
      sym (history_index-ordered (history_held store).rows mine step)
      ∙ (ap (λ (rows : List Row). history_index rows step) same.rows ∙ (history_index-ordered history.rows its step ∙ ap (λ (n : ℕ). history_index history.rows n) (at ∙ same.current)))

  pub same_target : (nav : NavId) (step : ℕ) → step ≡ (history_held store).current → target_entry (history_held store).rows nav step ≡ target_entry history.rows nav history.current
  same_target nav step at =
      sym (target_entry-ordered (history_held store).rows mine nav step)
      ∙ (ap (λ (rows : List Row). target_entry rows nav step) same.rows ∙ (target_entry-ordered history.rows its nav step ∙ ap (λ (n : ℕ). target_entry history.rows nav n) (at ∙ same.current)))
