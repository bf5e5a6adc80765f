-- The aim, and the length and index that are due, as the tables tell of them.
use Rattle.tab_facts.proofs.TabEvents.Left.{passed_runs}
use Rattle.seen_facts.proofs.Each.Runs.{none_passes, only_passes}  -- keep
use Rattle.tab_doors.proofs.Histories.{log_steps}
use Rattle.tab_doors.specs.Look.{moved_by}
use Rattle.tab_doors.specs.Working.{HasGoal}
use Rattle.seen_facts.specs.Asked.Asking.{ArePlain}
use Rattle.history_laws.proofs.InOrder.{history_index-ordered, history_length-ordered, used_step_at-ordered}
use Rattle.log_model.specs.Equal.{holds}
use Rattle.log_model.specs.History.{History, has_nav, history_index, history_length, used_step_at}
use Rattle.log_model.specs.Order.{SameHistory}
use Rattle.log_model.specs.Places.{aim_of, is_moved_in, passed_traversal, running_traversal}
use Rattle.log_model.specs.Seen.{Asked, Seen, request_in}
use Rattle.log_model.specs.declared.row.Row.{Row}
use Rattle.tab_passes.specs.Passing.{aim_in}
use Rattle.seen_facts.specs.Each.Runs.{OnlyRuns, is_run}
use Rattle.std.proofs.Common.{List, None, Option, Some, [], ap, refl, subst, sym, ℕ, ◌∙◌, ◌≡◌}
use Rattle.std.specs.Option.{option_map_or}
use Rattle.std.specs.Prelude.{option_and_then}
use Rattle.step_index.specs.Held.{history_held}
use Rattle.step_index.specs.contracts.step_index.StepIndexStore.TheImpl.Laws.{sound-law}
use Rattle.step_index.specs.declared.step_index.StepIndex.{StepIndex}
use Rattle.tab_ids.specs.declared.NavId.{NavId}
use Rattle.tab_ids.specs.declared.ReqId.{ReqId}
use Rattle.tab_ids.specs.declared.Step.{Step}

-- ---- the traversal that runs has passed

module _ (s : Seen) (run : Option ReqId) (asked : ArePlain run s) where
  pub passed_is : passed_traversal s ≡ running_traversal s
  passed_is = passed_runs s asked.passed

  -- it is the one that runs
  pub running_is : running_traversal s ≡ option_and_then (λ (req : ReqId). request_in s.requests req) run
  running_is = by_run run refl
    where
      by_run : (o : Option ReqId) → run ≡ o → running_traversal s ≡ option_and_then (λ (req : ReqId). request_in s.requests req) run
      by_run None is = rw is (none_passes is_run s.requests (subst (λ (o : Option ReqId). OnlyRuns o s) is asked.only))
      by_run (Some req) is =
          let it = asked.runs req is in
          let found : request_in s.requests req ≡ Some it.q = it.found in
          rw is (only_passes is_run s.requests req it.q found (subst (λ (o : Option ReqId). OnlyRuns o s) is asked.only) ∙ sym found)

  pub aim_is : (goal : Step) → HasGoal s.requests run goal → aim_of s ≡ aim_in s.history run goal
  aim_is goal has = ap (λ (o : Option Asked). option_map_or (λ (q : Asked). option_map_or (λ (g : Step). used_step_at s.history.rows g.0) q.goal s.history.current) o s.history.current) (passed_is ∙ running_is) ∙ by_run run refl
    where
      leads : Option Asked → ℕ
      leads o = option_map_or (λ (q : Asked). option_map_or (λ (g : Step). used_step_at s.history.rows g.0) q.goal s.history.current) o s.history.current

      by_run : (o : Option ReqId) → run ≡ o → option_map_or (λ (q : Asked). option_map_or (λ (g : Step). used_step_at s.history.rows g.0) q.goal s.history.current) (option_and_then (λ (req : ReqId). request_in s.requests req) run) s.history.current ≡ aim_in s.history run goal
      by_run None is = rw is refl
      by_run (Some req) is =
          let it = asked.runs req is in
          let found : request_in s.requests req ≡ Some it.q = it.found in
          rw is (rw found (rw (has req it.q is found) refl))

  -- who is moved by it
  pub moved_is : (nav : NavId) → is_moved_in s.requests nav ≡ has_nav (moved_by s.requests run) nav
  moved_is nav = ap (λ (o : Option Asked). holds (λ (q : Asked). has_nav q.moved nav) o) running_is ∙ by_run run
    where
      by_found : (o : Option Asked) → holds (λ (q : Asked). has_nav q.moved nav) o ≡ has_nav (option_map_or (λ (q : Asked). q.moved) o []) nav
      by_found None = refl
      by_found (Some q) = refl

      by_run : (o : Option ReqId) → holds (λ (q : Asked). has_nav q.moved nav) (option_and_then (λ (req : ReqId). request_in s.requests req) o) ≡ has_nav (moved_by s.requests o) nav
      by_run None = refl
      by_run (Some req) = by_found (request_in s.requests req)

-- ---- length and index

pub held_pair : (store : StepIndex) (history : History) → SameHistory (history_held store) history → (step : ℕ) → (history_length (history_held store).rows ≡ history_length history.rows) × (history_index (history_held store).rows step ≡ history_index history.rows step)
held_pair store history same step = (
  sym (history_length-ordered (history_held store).rows (sound-law store).steps) ∙ ap history_length same.rows ∙ history_length-ordered history.rows (log_steps store history same),
  sym (history_index-ordered (history_held store).rows (sound-law store).steps step) ∙ ap (λ (l : List Row). history_index l step) same.rows ∙ history_index-ordered history.rows (log_steps store history same) step,
)

pub held_used : (store : StepIndex) (history : History) → SameHistory (history_held store) history → (step : ℕ) → used_step_at (history_held store).rows step ≡ used_step_at history.rows step
held_used store history same step =
    sym (used_step_at-ordered (history_held store).rows (sound-law store).steps step) ∙ ap (λ (l : List Row). used_step_at l step) same.rows ∙ used_step_at-ordered history.rows (log_steps store history same) step

pub held_aim : (store : StepIndex) (history : History) (run : Option ReqId) (goal : Step) → SameHistory (history_held store) history → aim_in (history_held store) run goal ≡ aim_in history run goal
held_aim store history None goal same = same.current
held_aim store history (Some req) goal same = held_used store history same goal.0
