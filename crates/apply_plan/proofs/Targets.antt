-- A navigable's target is the row of its own entry.
use Rattle.std.proofs.Common.{◌≡◌, ◌⊎◌, ℕ, ◌≤◌, Bool, true, cond, List, [], ◌∷◌, Option, Some, None, filter, fold, find, refl, sym, ap, ◌∙◌, inl, inr, ⊎_elim, arith}
use Rattle.std.specs.Prelude.{◌+◌, ◌&&◌, nat_le, nat_lt}
use Rattle.std.specs.List.{count_by}
use Rattle.std.specs.Option.{option_map}
use Rattle.std.proofs.lemmas.Bool.{cases_Bool}
use Rattle.std.proofs.lemmas.Bool.Decides.{nat_tests}
use Rattle.std.proofs.lemmas.List.Sums.{sum_by-cons}
use Rattle.std.proofs.lemmas.Option.{none-some, same_Some}
use Rattle.tab_ids.specs.declared.NavId.{NavId}
use Rattle.tab_ids.specs.declared.EntryId.{EntryId}
use Rattle.log_model.specs.declared.row.Row.{Row}
use Rattle.log_model.specs.History.{History, same_entry, is_of, row_of, later_row, target_entry}
use Rattle.log_model.specs.Soundness.{is_entry, IsSound}

one_more : (test : Row → Bool) (row : Row) (rows : List Row) → test row ≡ true → count_by test (row ∷ rows) ≡ count_by test rows + 1
one_more test row rows passes = omega (arith, sum_by-cons (λ r. cond (test r) 1 0) row rows, ap {B = ℕ} (λ b. cond b 1 0) passes)

no_fewer : (test : Row → Bool) (row : Row) (rows : List Row) → count_by test rows ≤ count_by test (row ∷ rows)
no_fewer test row rows = omega (arith, sum_by-cons (λ r. cond (test r) 1 0) row rows)

-- what is found is counted
found_counts : (test : Row → Bool) (rows : List Row) (row : Row) → find test rows ≡ Some row → 1 ≤ count_by test rows
found_counts test [] row e = absurd (none-some row e)
found_counts test (first ∷ rows) row e =
    elim (cases_Bool (test first)) [
      | inl passes ↦ omega (arith, one_more test first rows passes)
      | inr fails ↦ omega (arith, found_counts test rows row (rw fails at e), no_fewer test first rows)
    ]

entry_same : (entry : EntryId) → same_entry entry entry ≡ true
entry_same entry = grind (arith, nat_tests)

-- a row found further on is found from here, where its entry is in no other row
found_past : (first row : Row) (rows : List Row) → count_by (is_entry row.entry) (first ∷ rows) ≤ 1 → row_of row.entry rows ≡ Some row → row_of row.entry (first ∷ rows) ≡ Some row
found_past first row rows few found =
    elim (cases_Bool (is_entry row.entry first)) [
      | inl same ↦ absurd (omega (arith, few, one_more (is_entry row.entry) first rows same, found_counts (is_entry row.entry) rows row found))
      | inr other ↦ rw other found
    ]

-- the latest of the rows that pass is the one from before, or is found by its entry
latest_found : (test : Row → Bool) (rows : List Row) (best : Option Row) (row : Row) → count_by (is_entry row.entry) rows ≤ 1 → fold later_row best (filter test rows) ≡ Some row → (best ≡ Some row) ⊎ (row_of row.entry rows ≡ Some row)
latest_found test [] best row few e = inl e
latest_found test (first ∷ rows) best row few e =
    elim (cases_Bool (test first)) [
      | inl passes ↦
          ⊎_elim
          (λ latest. by_latest best latest)
          (λ found. inr (found_past first row rows few found))
          (latest_found test rows (later_row best first) row (omega (arith, few, no_fewer (is_entry row.entry) first rows)) (rw passes at e))
      | inr fails ↦
          ⊎_elim
          (λ before. inl before)
          (λ found. inr (found_past first row rows few found))
          (latest_found test rows best row (omega (arith, few, no_fewer (is_entry row.entry) first rows)) (rw fails at e))
    ]
  where
    here : first ≡ row → row_of row.entry (first ∷ rows) ≡ Some row
    here is = rw is (rw (entry_same row.entry) refl)

    by_latest : (best : Option Row) → later_row best first ≡ Some row → (best ≡ Some row) ⊎ (row_of row.entry (first ∷ rows) ≡ Some row)
    by_latest None latest = inr (here (same_Some _ _ latest))
    by_latest (Some b) latest =
        elim (cases_Bool (nat_lt b.step.0 first.step.0)) [
          | inl later ↦ inr (here (same_Some _ _ (rw later at latest)))
          | inr earlier ↦ inl (rw earlier at latest)
        ]

-- the target is found by its entry
pub target_found : (h : History) → IsSound h → (nav : NavId) (step : ℕ) (row : Row) → target_entry h.rows nav step ≡ Some row → row_of row.entry h.rows ≡ Some row
target_found h sound nav step row e =
    ⊎_elim
    (λ none. absurd (none-some row none))
    (λ found. found)
    (latest_found (λ r. is_of nav r && nat_le r.step.0 step) h.rows None row (sound.entries row.entry) e)

-- the entry of the target leads to the target
pub target_read : (h : History) → IsSound h → (nav : NavId) (step : ℕ) (entry : EntryId) → option_map (λ (row : Row). row.entry) (target_entry h.rows nav step) ≡ Some entry → row_of entry h.rows ≡ target_entry h.rows nav step
target_read h sound nav step entry e = by_target (target_entry h.rows nav step) refl e
  where
    by_target : (target : Option Row) → target_entry h.rows nav step ≡ target → option_map (λ (row : Row). row.entry) target ≡ Some entry → row_of entry h.rows ≡ target
    by_target None is none = absurd (none-some entry none)
    by_target (Some row) is same = ap (λ (k : EntryId). row_of k h.rows) (sym (same_Some _ _ same)) ∙ target_found h sound nav step row is
