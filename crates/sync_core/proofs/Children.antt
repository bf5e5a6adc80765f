-- A navigable is among the children of a document state exactly where a row of it hangs on the state.
use Rattle.std.proofs.Common.{◌≡◌, ℕ, ◌||◌, if◌then◌else◌, List, [], ◌∷◌, map, refl, ap, ◌∙◌, inl, inr}
use Rattle.std.specs.Prelude.{◌==◌}
use Rattle.std.specs.List.{list_any}
use Rattle.std.proofs.Math.Bool.{and-true, and-false}
use Rattle.std.proofs.lemmas.Bool.{cases_Bool}
use Rattle.tab_ids.specs.declared.NavId.{NavId}
use Rattle.tab_ids.specs.declared.StateId.{StateId}
use Rattle.log_model.specs.declared.row.Row.{Row}
use Rattle.log_model.specs.History.{has_nav, used_steps, with_step}
use Rattle.log_model.specs.Soundness.{is_owned_by, hangs_on}
use Rattle.entry_store.specs.Store.{child_numbers, children_of}
use Rattle.entry_store.proofs.LastStep.{used_steps-any}

-- the rows that hang on the state, with the number of their navigable for a step: the children's numbers are their used steps
numbered : StateId → List Row → List Row
numbered state [] = []
numbered state (row ∷ rows) =
    if is_owned_by state row then (record row { step = record { 0 = row.nav.0 } }) ∷ numbered state rows else numbered state rows

numbers_are : (state : StateId) (rows : List Row) → child_numbers state rows ≡ used_steps (numbered state rows)
unfolding numbered
numbers_are state [] = refl
numbers_are state (row ∷ rows) =
    elim (cases_Bool (is_owned_by state row)) [
      | inl owned ↦ rw owned (ap (with_step row.nav.0) (numbers_are state rows))
      | inr other ↦ rw other (numbers_are state rows)
    ]

numbered_any : (nav : NavId) (state : StateId) (rows : List Row) → list_any (λ (row : Row). row.step.0 == nav.0) (numbered state rows) ≡ hangs_on nav state rows
unfolding numbered
numbered_any nav state [] = refl
numbered_any nav state (row ∷ rows) =
    elim (cases_Bool (is_owned_by state row)) [
      | inl owned ↦ rw (owned, and-true (row.nav.0 == nav.0)) (ap (λ b. row.nav.0 == nav.0 || b) (numbered_any nav state rows))
      | inr other ↦ rw (other, and-false (row.nav.0 == nav.0)) (numbered_any nav state rows)
    ]

numbers_any : (nav : NavId) (numbers : List ℕ) → has_nav (map (λ number. let nav : NavId = record { 0 = number } in nav) numbers) nav ≡ list_any (λ number. number == nav.0) numbers
numbers_any nav [] = refl
numbers_any nav (number ∷ numbers) = ap (λ b. number == nav.0 || b) (numbers_any nav numbers)

pub children_any : (nav : NavId) (state : StateId) (rows : List Row) → has_nav (children_of state rows) nav ≡ hangs_on nav state rows
children_any nav state rows =
    numbers_any nav (child_numbers state rows)
    ∙ ap (list_any (λ number. number == nav.0)) (numbers_are state rows)
    ∙ used_steps-any (λ number. number == nav.0) (numbered state rows)
    ∙ numbered_any nav state rows
