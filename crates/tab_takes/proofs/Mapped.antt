-- Rows that become others of the same navigable, owner, step and document state: who has an entry, which states have one, who is shown, and what each target becomes.
use Rattle.log_model.specs.Equal.{holds}
use Rattle.log_model.specs.History.{has_row, has_state, is_of, later_row, owner_of, target_entry}
use Rattle.log_model.specs.Places.{holder_of, is_shown, is_shown_within, targets_state, way_up}
use Rattle.log_model.specs.declared.row.Row.{Row}
use Rattle.std.proofs.Common.{Bool, List, None, Option, Some, [], ap, cond, false, fold, length, map, refl, suc, true, zero, ℕ, ◌&&◌, ◌==◌, ◌||◌, ◌∙◌, ◌∷◌, ◌≡◌}
use Rattle.std.specs.List.{list_any}
use Rattle.std.specs.Prelude.{filter, find, if◌then◌else◌, nat_le, nat_lt, option_and_then, option_map}
use Rattle.tab_ids.specs.declared.NavId.{NavId}
use Rattle.tab_ids.specs.declared.StateId.{StateId}

module _ (g : Row → Row) (nav_same : (row : Row) → (g row).nav ≡ row.nav) (owner_same : (row : Row) → (g row).owner ≡ row.owner) (step_same : (row : Row) → (g row).step ≡ row.step) (state_same : (row : Row) → (g row).state ≡ row.state) where
  -- ---- tests that don't see the change

  any_map : (test : Row → Bool) → ((row : Row) → test (g row) ≡ test row) → (rows_ : List Row) → list_any test (map g rows_) ≡ list_any test rows_
  any_map test same [] = refl
  any_map test same (row ∷ rows_) =
      ap (λ (b : Bool). b || list_any test (map g rows_)) (same row) ∙ ap (λ (b : Bool). test row || b) (any_map test same rows_)

  find_map : (test : Row → Bool) → ((row : Row) → test (g row) ≡ test row) → (rows_ : List Row) → find test (map g rows_) ≡ option_map g (find test rows_)
  find_map test same [] = refl
  find_map test same (row ∷ rows_) =
      ap (λ (b : Bool). let o : Option Row = cond b (Some (g row)) (find test (map g rows_)) in o) (same row) ∙ by_test (test row) (find_map test same rows_)
    where
      by_test : (b : Bool) → find test (map g rows_) ≡ option_map g (find test rows_) → (let o : Option Row = cond b (Some (g row)) (find test (map g rows_)) in o) ≡ option_map g (let o : Option Row = cond b (Some row) (find test rows_) in o)
      by_test true more = refl
      by_test false more = more

  filter_map_ : (test : Row → Bool) → ((row : Row) → test (g row) ≡ test row) → (rows_ : List Row) → filter test (map g rows_) ≡ map g (filter test rows_)
  filter_map_ test same [] = refl
  filter_map_ test same (row ∷ rows_) =
      ap (λ (b : Bool). let l : List Row = cond b (g row ∷ filter test (map g rows_)) (filter test (map g rows_)) in l) (same row) ∙ by_test (test row) (filter_map_ test same rows_)
    where
      by_test : (b : Bool) → filter test (map g rows_) ≡ map g (filter test rows_) → (let l : List Row = cond b (g row ∷ filter test (map g rows_)) (filter test (map g rows_)) in l) ≡ map g (let l : List Row = cond b (row ∷ filter test rows_) (filter test rows_) in l)
      by_test true more = ap (λ (l : List Row). g row ∷ l) more
      by_test false more = more

  -- the latest of changed rows is the changed latest
  fold_map : (best : Option Row) (rows_ : List Row) → fold later_row (option_map g best) (map g rows_) ≡ option_map g (fold later_row best rows_)
  fold_map best [] = refl
  fold_map None (row ∷ rows_) = fold_map (Some row) rows_
  fold_map (Some b) (row ∷ rows_) =
      ap (λ (t : Bool). fold later_row (let o : Option Row = cond t (Some (g row)) (Some (g b)) in o) (map g rows_)) (let same : nat_lt (g b).step.0 (g row).step.0 ≡ nat_lt b.step.0 row.step.0 = rw (step_same b, step_same row) refl in same)
      ∙ by_test (nat_lt b.step.0 row.step.0) (fold_map (Some row) rows_) (fold_map (Some b) rows_)
    where
      by_test : (t : Bool) → fold later_row (Some (g row)) (map g rows_) ≡ option_map g (fold later_row (Some row) rows_) → fold later_row (Some (g b)) (map g rows_) ≡ option_map g (fold later_row (Some b) rows_) → fold later_row (let o : Option Row = cond t (Some (g row)) (Some (g b)) in o) (map g rows_) ≡ option_map g (fold later_row (let o : Option Row = cond t (Some row) (Some b) in o) rows_)
      by_test true new old = new
      by_test false new old = old

  length_map : (rows_ : List Row) → length (map g rows_) ≡ length rows_
  length_map [] = refl
  length_map (row ∷ rows_) = ap suc (length_map rows_)

  -- ---- what is read

  of_same : (nav : NavId) (row : Row) → is_of nav (g row) ≡ is_of nav row
  of_same nav row = ap (λ (m : NavId). m.0 == nav.0) (nav_same row)

  pub has_row_map : (nav : NavId) (rows_ : List Row) → has_row nav (map g rows_) ≡ has_row nav rows_
  has_row_map nav rows_ = any_map (is_of nav) (of_same nav) rows_

  pub has_state_map : (state : StateId) (rows_ : List Row) → has_state state (map g rows_) ≡ has_state state rows_
  has_state_map state rows_ =
      any_map (λ (row : Row). row.state.0 == state.0) (λ row. ap (λ (x : StateId). x.0 == state.0) (state_same row)) rows_

  pub target_map : (nav : NavId) (step : ℕ) (rows_ : List Row) → target_entry (map g rows_) nav step ≡ option_map g (target_entry rows_ nav step)
  target_map nav step rows_ =
      ap (λ (l : List Row). fold later_row None l) (filter_map_ (λ (row : Row). is_of nav row && nat_le row.step.0 step) (λ row. rw (of_same nav row, step_same row) refl) rows_)
      ∙ fold_map None (filter (λ (row : Row). is_of nav row && nat_le row.step.0 step) rows_)

  owner_map : (nav : NavId) (rows_ : List Row) → owner_of nav (map g rows_) ≡ owner_of nav rows_
  owner_map nav rows_ =
      ap (λ (o : Option Row). option_and_then (λ (row : Row). row.owner) o) (find_map (is_of nav) (of_same nav) rows_) ∙ by_found (find (is_of nav) rows_)
    where
      by_found : (o : Option Row) → option_and_then (λ (row : Row). row.owner) (option_map g o) ≡ option_and_then (λ (row : Row). row.owner) o
      by_found None = refl
      by_found (Some row) = owner_same row

  holder_map : (owner : StateId) (rows_ : List Row) → holder_of owner (map g rows_) ≡ holder_of owner rows_
  holder_map owner rows_ =
      ap (λ (o : Option Row). option_map (λ (row : Row). row.nav) o) (find_map (λ (row : Row). row.state.0 == owner.0) (λ row. ap (λ (x : StateId). x.0 == owner.0) (state_same row)) rows_)
      ∙ by_found (find (λ (row : Row). row.state.0 == owner.0) rows_)
    where
      by_found : (o : Option Row) → option_map (λ (row : Row). row.nav) (option_map g o) ≡ option_map (λ (row : Row). row.nav) o
      by_found None = refl
      by_found (Some row) = ap (λ (m : NavId). Some m) (nav_same row)

  targets_map : (step : ℕ) (nav : NavId) (state : StateId) (rows_ : List Row) → targets_state (map g rows_) step nav state ≡ targets_state rows_ step nav state
  targets_map step nav state rows_ =
      ap (λ (o : Option Row). holds (λ (row : Row). row.state.0 == state.0) o) (target_map nav step rows_) ∙ by_found (target_entry rows_ nav step)
    where
      by_found : (o : Option Row) → holds (λ (row : Row). row.state.0 == state.0) (option_map g o) ≡ holds (λ (row : Row). row.state.0 == state.0) o
      by_found None = refl
      by_found (Some row) = ap (λ (x : StateId). x.0 == state.0) (state_same row)

  way_map : (step : ℕ) (nav : NavId) (rows_ : List Row) → way_up (map g rows_) step nav ≡ way_up rows_ step nav
  way_map step nav rows_ =
      ap (λ (o : Option StateId). option_and_then (λ (owner : StateId). option_and_then (λ (parent : NavId). let x : Option NavId = if targets_state (map g rows_) step parent owner then Some parent else None in x) (holder_of owner (map g rows_))) o) (owner_map nav rows_)
      ∙ by_owner (owner_of nav rows_)
    where
      by_holder : (owner : StateId) (o : Option NavId) → option_and_then (λ (parent : NavId). let x : Option NavId = if targets_state (map g rows_) step parent owner then Some parent else None in x) o ≡ option_and_then (λ (parent : NavId). let x : Option NavId = if targets_state rows_ step parent owner then Some parent else None in x) o
      by_holder owner None = refl
      by_holder owner (Some parent) =
          ap (λ (b : Bool). let x : Option NavId = if b then Some parent else None in x) (targets_map step parent owner rows_)

      by_owner : (o : Option StateId) → option_and_then (λ (owner : StateId). option_and_then (λ (parent : NavId). let x : Option NavId = if targets_state (map g rows_) step parent owner then Some parent else None in x) (holder_of owner (map g rows_))) o ≡ option_and_then (λ (owner : StateId). option_and_then (λ (parent : NavId). let x : Option NavId = if targets_state rows_ step parent owner then Some parent else None in x) (holder_of owner rows_)) o
      by_owner None = refl
      by_owner (Some owner) =
          ap (λ (h : Option NavId). option_and_then (λ (parent : NavId). let x : Option NavId = if targets_state (map g rows_) step parent owner then Some parent else None in x) h) (holder_map owner rows_) ∙ by_holder owner (holder_of owner rows_)

  within_map : (k step : ℕ) (o : Option NavId) (rows_ : List Row) → is_shown_within k (map g rows_) step o ≡ is_shown_within k rows_ step o
  within_map k step None rows_ = by_k k
    where
      by_k : (k_ : ℕ) → is_shown_within k_ (map g rows_) step None ≡ is_shown_within k_ rows_ step None
      by_k zero = refl
      by_k (suc k_) = refl
  within_map zero step (Some nav) rows_ = refl
  within_map (suc k) step (Some nav) rows_ =
      ap (λ (b : Bool). nav.0 == 0 || b) (ap (λ (o : Option NavId). is_shown_within k (map g rows_) step o) (way_map step nav rows_) ∙ within_map k step (way_up rows_ step nav) rows_)

  pub shown_map : (step : ℕ) (nav : NavId) (rows_ : List Row) → is_shown (map g rows_) step nav ≡ is_shown rows_ step nav
  shown_map step nav rows_ =
      ap (λ (k : ℕ). is_shown_within k (map g rows_) step (Some nav)) (length_map rows_) ∙ within_map (length rows_) step (Some nav) rows_
