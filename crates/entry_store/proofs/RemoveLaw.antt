-- The removal of a frame from the lists: what is left is what the definition leaves.
use Rattle.std.proofs.Common.{◌≡◌, ◌≢◌, ℕ, true, not, List, refl, ap, sym, ◌∙◌, filter, subst}
use Rattle.std.specs.List.{list_any}
use Rattle.std.proofs.lemmas.Bool.{and_from, ne_eqb}
use Rattle.tab_ids.specs.declared.NavId.{NavId}
use Rattle.tab_ids.specs.declared.StateId.{StateId}
use Rattle.log_model.specs.declared.row.Row.{Row}
use Rattle.log_model.specs.declared.change.Change.TheVariants.{RemoveFrame}
use Rattle.log_model.specs.History.{History, Fits, is_of, has_row, applied, tidied, used_steps, used_step_at}
use Rattle.log_model.specs.Order.{ordered, SameHistory}
use Rattle.log_model.specs.Soundness.{IsSound}
use Rattle.history_laws.proofs.Members.{IsIn-filter}
use Rattle.history_laws.proofs.Tidying.{IsIn-tidied}
use Rattle.history_laws.proofs.RemoveFrame.{IsSound-removed}
use Rattle.entry_store.specs.declared.cut.Cut.TheVariants.{Navigable}
use Rattle.entry_store.specs.declared.nest.Nest.{Nest}
use Rattle.entry_store.specs.declared.nested.Nested.{Nested}
use Rattle.entry_store.specs.Nested.{rows_of, outlives, stays, AreHeld}
use Rattle.entry_store.specs.Kept.{history_in, IsKept}
use Rattle.entry_store.proofs.Left.{stays-tidied}
use Rattle.entry_store.proofs.Keeping.{IsKept-part}

pub removal_fits : (history : History) (nav : NavId) → nav.0 ≢ 0 → has_row nav history.rows ≡ true → Fits history (RemoveFrame nav)
removal_fits history nav is_child has = and_from _ _ (ap not (ne_eqb nav.0 0 is_child)) has

module _ (lists : Nested) (kept : IsKept (history_in lists) lists.used.keys) (nav : NavId) (is_child : nav.0 ≢ 0) (one : List Nest) (one_is : one ≡ lists.nests.items) (states : List StateId) (held : AreHeld states (filter (outlives (Navigable nav)) (rows_of one))) (steps : List ℕ) (steps_are : steps ≡ used_steps (filter (stays (Navigable nav) states) (rows_of one))) (swept : List Row) (swept_is : swept ≡ filter (stays (Navigable nav) states) (rows_of lists.nests.items)) (current : ℕ) (current_is : current ≡ used_step_at swept lists.current.0) where
  abbrev left : List Row
  left = filter (λ row. not (is_of nav row)) (rows_of lists.nests.items)

  swept_tidied : swept ≡ tidied left
  swept_tidied =
      swept_is
      ∙ stays-tidied (rows_of lists.nests.items) kept.sound.rooted (Navigable nav) states (subst (λ (nests : List Nest). AreHeld states (filter (outlives (Navigable nav)) (rows_of nests))) one_is held)

  pub removed_same : SameHistory (record { rows = swept; current = current; added = lists.added.keys }) (applied (history_in lists) (RemoveFrame nav))
  removed_same = record {
    rows = ap ordered swept_tidied;
    current = current_is ∙ ap (λ rows. used_step_at rows lists.current.0) swept_tidied;
    added = refl;
  }

  pub removed_kept : IsKept (record { rows = swept; current = current; added = lists.added.keys }) steps
  removed_kept =
      IsKept-part (history_in lists) lists.used.keys kept swept current steps
      (λ row there. IsIn-filter (λ r. not (is_of nav r)) (rows_of lists.nests.items) row (IsIn-tidied left row (λ test passes. sym (ap (list_any test) swept_tidied) ∙ there test passes)))
      (subst (λ (rows : List Row). IsSound (record { rows = rows; current = current; added = lists.added.keys })) (sym swept_tidied) (IsSound-removed (history_in lists) nav current lists.added.keys kept.sound is_child))
      (steps_are ∙ ap (λ (nests : List Nest). used_steps (filter (stays (Navigable nav) states) (rows_of nests))) one_is ∙ ap used_steps (sym swept_is))
