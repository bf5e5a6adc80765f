-- A change adds one entry to a history at most, and no index is beyond the number of entries.
use Rattle.std.proofs.Common.{◌≡◌, ℕ, zero, suc, ◌+◌, ◌≤◌, Bool, true, false, cond, List, [], ◌∷◌, ◌++◌, length, map, None, arith, length-append}
use Rattle.std.specs.Prelude.{filter, not, nat_le, nat_lt, ◌==◌}
use Rattle.std.proofs.lemmas.List.{length-map}
use Rattle.log_model.specs.declared.change.Change.{Change}
use Rattle.log_model.specs.declared.change.Change.TheVariants as changes
use Rattle.log_model.specs.declared.row.Row.{Row}
use Rattle.log_model.specs.History.{History, applied, is_of, replaced_row, tidied, tidied_once, tidied_times, with_step, used_steps, used_step_at, history_index}

-- a part of a list is no longer
fewer : {A : Type 0} (test : A → Bool) (xs : List A) → length (filter test xs) ≤ length xs
fewer test [] = omega arith
fewer test (x ∷ xs) = by_test (test x) (fewer test xs)
  where
    by_test : (b : Bool) → length (filter test xs) ≤ length xs → length (cond b (x ∷ filter test xs) (filter test xs)) ≤ length (x ∷ xs)
    by_test true more = omega (arith, more)
    by_test false more = omega (arith, more)

fewer_times : (n : ℕ) (rows_ : List Row) → length (tidied_times n rows_) ≤ length rows_
fewer_times zero rows_ = omega arith
fewer_times (suc n) rows_ =
    let rest : length (tidied_times n (tidied_once rows_)) ≤ length (tidied_once rows_) = fewer_times n (tidied_once rows_) in
    let once : length (tidied_once rows_) ≤ length rows_ = fewer _ rows_ in
    omega (arith, rest, once)

one_longer : (rows_ : List Row) (row : Row) → length (rows_ ++ row ∷ []) ≡ length rows_ + 1
one_longer rows_ row = length-append rows_ (row ∷ [])

-- a change adds an entry at most
pub one_more_row : (h : History) (change : Change) → length (applied h change).rows ≤ length h.rows + 1
one_more_row h (changes.Push nav entry state address memo) =
    let left : List Row = filter (λ (row : Row). nat_le row.step.0 h.current) h.rows in
    let some : length left ≤ length h.rows = fewer (λ (row : Row). nat_le row.step.0 h.current) h.rows in
    let tidy : length (tidied left) ≤ length left = fewer_times (length left) left in
    let long : length (applied h (changes.Push nav entry state address memo)).rows ≡ length (tidied left) + 1 = one_longer (tidied left) _ in
    omega (arith, some, tidy, long)
one_more_row h (changes.Replace nav over_ entry state address memo) =
    let new : Row → Row = replaced_row over_ (record { owner = None; nav = nav; entry = entry; step = record { 0 = 0 }; state = state; address = address; memo = memo }) in
    let tidy : length (tidied (map new h.rows)) ≤ length (map new h.rows) = fewer_times (length (map new h.rows)) (map new h.rows) in
    omega (arith, tidy, length-map h.rows new)
one_more_row h (changes.AddFrame owner nav entry state) =
    let long : length (applied h (changes.AddFrame owner nav entry state)).rows ≡ length h.rows + 1 = one_longer h.rows _ in
    omega (arith, long)
one_more_row h (changes.RemoveFrame nav) =
    let left : List Row = filter (λ (row : Row). not (is_of nav row)) h.rows in
    let some : length left ≤ length h.rows = fewer (λ (row : Row). not (is_of nav row)) h.rows in
    let tidy : length (tidied left) ≤ length left = fewer_times (length left) left in
    omega (arith, some, tidy)
one_more_row h (changes.Traverse goal) = omega arith
one_more_row h (changes.Reload nav) = omega arith
one_more_row h changes.Edit = omega arith

-- ---- used steps

-- a step more is one step more at most
one_more_step : (step : ℕ) (steps : List ℕ) → length (with_step step steps) ≤ length steps + 1
one_more_step step [] = omega arith
one_more_step step (first ∷ steps) =
    by_test (nat_lt step first) (step == first) (one_more_step step steps)
  where
    by_test : (before here : Bool) → length (with_step step steps) ≤ length steps + 1 → length (cond before (step ∷ first ∷ steps) (cond here (first ∷ steps) (first ∷ with_step step steps))) ≤ length (first ∷ steps) + 1
    by_test true here more = omega arith
    by_test false true more = omega arith
    by_test false false more = omega (arith, more)

-- there are no more used steps than entries
few_steps : (rows_ : List Row) → length (used_steps rows_) ≤ length rows_
few_steps [] = omega arith
few_steps (row ∷ rows_) = omega (arith, few_steps rows_, one_more_step row.step.0 (used_steps rows_))

-- so no index is beyond the number of entries
pub index_within : (rows_ : List Row) (step : ℕ) → history_index rows_ step ≤ length rows_
index_within rows_ step =
    let before : history_index rows_ step ≤ length (used_steps rows_) = fewer (λ used. nat_lt used (used_step_at rows_ step)) (used_steps rows_) in
    omega (arith, before, few_steps rows_)
