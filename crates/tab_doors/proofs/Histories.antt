-- What the store finds is what the log has, and it goes on holding that over a change.
use Rattle.seen_facts.proofs.Coord.Held.{fun_ext}
use Rattle.entry_store.proofs.ForCallers.{refused_only_for_memory}
use Rattle.entry_store.proofs.SameReplay.{may_same, fits_same, applied_same, trans_same}
use Rattle.entry_store.specs.Store.{MayTake, IsRefused}
use Rattle.entry_store.specs.declared.error.StoreError.TheVariants as errors
use Rattle.entry_store.specs.declared.error.StoreError.{StoreError}
use Rattle.log_model.specs.declared.change.Change.{Change}
use Rattle.tab_doors.specs.Dues.{has_any, has_none, lost_of}
use Rattle.history_laws.proofs.InOrder.{count_by-ordered, target_entry-ordered}
use Rattle.history_laws.proofs.Sorted.{HaveSteps}
use Rattle.log_model.specs.History.{History, Fits, applied, target_entry}
use Rattle.log_model.specs.Order.{SameHistory, ordered}
use Rattle.log_model.specs.Soundness.{stands_at}
use Rattle.log_model.specs.declared.row.Row.{Row}
use Rattle.std.proofs.Common.{Bool, List, Option, ap, arith, not, subst, sym, ℕ, ◌∙◌, ◌≡◌, ◌≤◌, ◌<◌}
use Rattle.std.specs.List.{count_by}
use Rattle.std.specs.Prelude.{filter, is_some}
use Rattle.step_index.specs.Held.{history_held}
use Rattle.step_index.specs.contracts.step_index.StepIndexStore.TheImpl.Laws.{sound-law, added-law}
use Rattle.step_index.specs.declared.step_index.StepIndex.{StepIndex}
use Rattle.tab_ids.specs.declared.NavId.{NavId}

module _ (store : StepIndex) (history : History) (same : SameHistory (history_held store) history) where
  held_steps : HaveSteps (history_held store).rows
  held_steps = (sound-law store).steps

  pub log_steps : HaveSteps history.rows
  log_steps nav step =
      let one : count_by (stands_at nav step) (ordered (history_held store).rows) ≡ count_by (stands_at nav step) (history_held store).rows = count_by-ordered (stands_at nav step) (history_held store).rows in
      let two : count_by (stands_at nav step) (ordered history.rows) ≡ count_by (stands_at nav step) history.rows = count_by-ordered (stands_at nav step) history.rows in
      let alike : count_by (stands_at nav step) (ordered (history_held store).rows) ≡ count_by (stands_at nav step) (ordered history.rows) = ap (λ (l : List Row). count_by (stands_at nav step) l) same.rows in
      let few : count_by (stands_at nav step) (history_held store).rows ≤ 1 = held_steps nav step in
      omega (arith, one, two, alike, few)

  pub held_target : (nav : NavId) (step : ℕ) → target_entry (history_held store).rows nav step ≡ target_entry history.rows nav step
  held_target nav step =
      sym (target_entry-ordered (history_held store).rows held_steps nav step)
      ∙ ap (λ (l : List Row). target_entry l nav step) same.rows
      ∙ target_entry-ordered history.rows log_steps nav step

  pub held_begins : (nav : NavId) → has_any (history_held store).rows nav ≡ has_any history.rows nav
  held_begins nav = ap (λ (o : Option Row). is_some o) (held_target nav 4294967295)

-- those that lose their last entries, as the store tells
pub held_lost : (old new : StepIndex) (was then_ : History) → SameHistory (history_held old) was → SameHistory (history_held new) then_ → (navs : List NavId) → lost_of (history_held old).rows (history_held new).rows navs ≡ lost_of was.rows then_.rows navs
held_lost old new was then_ before after_ navs =
    ap (λ (f : NavId → Bool). filter f (filter (has_any (history_held old).rows) navs)) (fun_ext (λ n. ap not (held_begins new then_ after_ n)))
    ∙ ap (λ (f : NavId → Bool). filter (has_none then_.rows) (filter f navs)) (fun_ext (λ n. held_begins old was before n))

-- ---- the store's change

module _ (store : StepIndex) (history : History) (change : Change) (same : SameHistory (history_held store) history) (fit : Fits history change) (may : MayTake history change) where
  pub may_here : MayTake (history_held store) change
  may_here = may_same (history_held store) history same (sound-law store) change may

  pub fits_here : Fits (history_held store) change
  fits_here = fits_same (history_held store) history same (sound-law store) change ∙ fit

  pub changed_same : (new : StepIndex) → SameHistory (history_held new) (applied (history_held store) change) → SameHistory (history_held new) (applied history change)
  changed_same new became =
      trans_same (history_held new) (applied (history_held store) change) (applied history change) became (applied_same (history_held store) history same (sound-law store) (added-law store) change fits_here may)

  pub only_memory : (error : StoreError) → IsRefused (history_held store) change error → error ≡ errors.OutOfMemory
  only_memory error refused = refused_only_for_memory (history_held store) change error fits_here refused

  pub room_here : history.current < 4294967294 → (history_held store).current < 4294967294
  room_here room = subst (λ (n : ℕ). n < 4294967294) (sym same.current) room
