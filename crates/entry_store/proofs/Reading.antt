-- What a reader finds, list by list, is what it finds in all rows.
use Rattle.std.proofs.Common.{◌≡◌, ℕ, ◌+◌, ◌<◌, ◌≤◌, Bool, true, false, ◌&&◌, ◌||◌, List, [], ◌∷◌, ◌++◌, length, refl, ap, sym, ◌∙◌, filter, fold, map, inl, inr, Option, Some, None, take, drop, get_or, add-one, drop-cons}
use Rattle.std.specs.Prelude.{max, nat_le, find}
use Rattle.std.specs.List.{list_any}
use Rattle.std.specs.Option.{option_or}
use Rattle.std.proofs.lemmas.Bool.{cases_Bool}
use Rattle.std.proofs.lemmas.List.{take_all}
use Rattle.std.proofs.lemmas.List.Folds.{list_any-append, find-append}
use Rattle.tab_ids.specs.declared.NavId.{NavId}
use Rattle.log_model.specs.declared.row.Row.{Row}
use Rattle.log_model.specs.History.{is_of, later_row, used_step_at, target_entry}
use Rattle.entry_store.specs.declared.nest.Nest.{Nest}
use Rattle.entry_store.specs.Nested.{rows_of}
use Rattle.entry_store.specs.Reading.{used_upto, later_of}

-- the lists that are left, and the first of them
pub rows_of-drop : (nests : List Nest) (i : ℕ) (nest : Nest) → i < length nests → rows_of (drop i nests) ≡ (get_or nests i nest).rows.items ++ rows_of (drop (i + 1) nests)
rows_of-drop nests i nest within = rw add-one (ap rows_of (drop-cons nests i nest within))

-- a search that goes on
pub find_rest : (p : Row → Bool) (nests : List Nest) (i : ℕ) (nest : Nest) → i < length nests → find p (rows_of (drop i nests)) ≡ option_or (find p (get_or nests i nest).rows.items) (find p (rows_of (drop (i + 1) nests)))
find_rest p nests i nest within = ap (find p) (rows_of-drop nests i nest within) ∙ find-append p (get_or nests i nest).rows.items (rows_of (drop (i + 1) nests))

-- lists that are left, where those before have no passing row
module _ (p : Row → Bool) (nests : List Nest) (i : ℕ) (item : Nest) (within : i < length nests) (is : item ≡ get_or nests i item) where
  pub found_here : list_any p item.rows.items ≡ true → list_any p (rows_of (drop i nests)) ≡ list_any p (rows_of nests) → list_any p (rows_of nests) ≡ true
  found_here here rest =
      sym rest
      ∙ ap (list_any p) (rows_of-drop nests i item within)
      ∙ list_any-append p (get_or nests i item).rows.items (rows_of (drop (i + 1) nests))
      ∙ ap (λ b. b || list_any p (rows_of (drop (i + 1) nests))) (ap (λ (nest : Nest). list_any p nest.rows.items) (sym is) ∙ here)

  pub found_later : list_any p item.rows.items ≡ false → list_any p (rows_of (drop i nests)) ≡ list_any p (rows_of nests) → list_any p (rows_of (drop (i + 1) nests)) ≡ list_any p (rows_of nests)
  found_later none rest =
      sym (
      ap (list_any p) (rows_of-drop nests i item within)
      ∙ list_any-append p (get_or nests i item).rows.items (rows_of (drop (i + 1) nests))
      ∙ ap (λ b. b || list_any p (rows_of (drop (i + 1) nests))) (ap (λ (nest : Nest). list_any p nest.rows.items) (sym is) ∙ none)
      )
      ∙ rest

  pub first_here : (row : Row) → find p item.rows.items ≡ Some row → find p (rows_of (drop i nests)) ≡ find p (rows_of nests) → find p (rows_of nests) ≡ Some row
  first_here row here rest =
      sym rest
      ∙ find_rest p nests i item within
      ∙ ap (λ found. option_or found (find p (rows_of (drop (i + 1) nests)))) (ap (λ (nest : Nest). find p nest.rows.items) (sym is) ∙ here)

  pub first_later : find p item.rows.items ≡ None → find p (rows_of (drop i nests)) ≡ find p (rows_of nests) → find p (rows_of (drop (i + 1) nests)) ≡ find p (rows_of nests)
  first_later none rest =
      sym (
      find_rest p nests i item within
      ∙ ap (λ found. option_or found (find p (rows_of (drop (i + 1) nests)))) (ap (λ (nest : Nest). find p nest.rows.items) (sym is) ∙ none)
      )
      ∙ rest

-- the used step, row by row
used_from : (step best : ℕ) (rows : List Row) → fold (used_upto step) best rows ≡ fold max best (filter (λ used. nat_le used step) (map (λ (row : Row). row.step.0) rows))
used_from step best [] = refl
used_from step best (row ∷ rows) =
    elim (cases_Bool (nat_le row.step.0 step)) [
      | inl at_most ↦ rw at_most (used_from step (max best row.step.0) rows)
      | inr beyond ↦ rw beyond (used_from step best rows)
    ]

pub used_step_by_row : (rows : List Row) (step : ℕ) → fold (used_upto step) 0 rows ≡ used_step_at rows step
used_step_by_row rows step = used_from step 0 rows

-- the target, row by row
target_from : (nav : NavId) (step : ℕ) (best : Option Row) (rows : List Row) → fold (later_of nav step) best rows ≡ fold later_row best (filter (λ row. is_of nav row && nat_le row.step.0 step) rows)
target_from nav step best [] = refl
target_from nav step best (row ∷ rows) =
    elim (cases_Bool (is_of nav row && nat_le row.step.0 step)) [
      | inl is ↦ rw is (target_from nav step (later_row best row) rows)
      | inr isnt ↦ rw isnt (target_from nav step best rows)
    ]

pub target_by_row : (rows : List Row) (nav : NavId) (step : ℕ) → fold (later_of nav step) None rows ≡ target_entry rows nav step
target_by_row rows nav step = target_from nav step None rows

pub used_by_list : (nests : List Nest) (step i best : ℕ) → length nests ≤ i → best ≡ fold (used_upto step) 0 (rows_of (take i nests)) → best ≡ used_step_at (rows_of nests) step
used_by_list nests step i best all is =
    is ∙ ap (λ (some : List Nest). fold (used_upto step) 0 (rows_of some)) (take_all i nests all) ∙ used_step_by_row (rows_of nests) step

pub target_by_list : (nests : List Nest) (nav : NavId) (step i : ℕ) (best : Option Row) → length nests ≤ i → best ≡ fold (later_of nav step) None (rows_of (take i nests)) → best ≡ target_entry (rows_of nests) nav step
target_by_list nests nav step i best all is =
    is ∙ ap (λ (some : List Nest). fold (later_of nav step) None (rows_of some)) (take_all i nests all) ∙ target_by_row (rows_of nests) nav step
