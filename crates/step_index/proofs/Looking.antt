-- What a look-up by halves finds: the last entry up to a step, and the used step, its place and how many there are.
use Rattle.std.proofs.Common.{inl, inr, cond, ◌≡◌, ℕ, suc, zero, ◌-◌, ◌<◌, ◌≤◌, Bool, true, false, ◌&&◌, ◌||◌, List, [], ◌∷◌, length, refl, ap, sym, ◌∙◌, filter, map, fold, take, drop, get_or, arith, subst, Some, None}
use Rattle.std.specs.Prelude.{max, nat_le, nat_lt, slice_get, ◌==◌}
use Rattle.std.specs.List.{list_any}
use Rattle.std.proofs.lemmas.Bool.{false≢true, lt-ltb, le-ltb, lt-leb, le-leb, leb-true, ltb-false, leb-false, eqb-true, or_parts, or_cases, cases_Bool}
use Rattle.std.proofs.lemmas.Option.{none-some, slice_get-get_or}
use Rattle.tab_ids.specs.declared.NavId.{NavId}
use Rattle.log_model.specs.declared.row.Row.{Row}
use Rattle.log_model.specs.History.{History, is_of, has_row, later_row, target_entry, used_steps, used_step_at, history_index}
use Rattle.history_laws.proofs.Members.{or_none, some_same, filter-filter, list_any-filter}
use Rattle.entry_store.specs.Kept.{IsKept}
use Rattle.entry_store.proofs.StepBounds.{Ascends, used_steps-ascend, used_fits}
use Rattle.entry_store.proofs.LastStep.{used_steps-any, greatest_step-beyond}
use Rattle.step_index.specs.Ascending.{IsAscending}
use Rattle.step_index.specs.Tracks.{step_of}
use Rattle.step_index.proofs.Searching.{first_lower, cut_at}

-- ---- the last entry up to a step

later_from : (best : Row) (rows : List Row) (i : ℕ) (row : Row) → list_any (λ (other : Row). nat_le other.step.0 best.step.0) rows ≡ false → IsAscending step_of rows → slice_get rows i ≡ Some row → fold later_row (Some best) (take (suc i) rows) ≡ Some row
later_from best [] i row past sorted here = absurd (none-some row here)
later_from best (first ∷ rows) zero row past sorted here =
    let both = or_parts (nat_le first.step.0 best.step.0) (list_any (λ (other : Row). nat_le other.step.0 best.step.0) rows) past in
    ap (λ b. cond b (Some first) (Some best)) (lt-ltb best.step.0 first.step.0 (leb-false first.step.0 best.step.0 both.0)) ∙ here
later_from best (first ∷ rows) (suc i) row past sorted here =
    let both = or_parts (nat_le first.step.0 best.step.0) (list_any (λ (other : Row). nat_le other.step.0 best.step.0) rows) past in
    ap (λ b. fold later_row (cond b (Some first) (Some best)) (take (suc i) rows)) (lt-ltb best.step.0 first.step.0 (leb-false first.step.0 best.step.0 both.0))
    ∙ later_from first rows i row sorted.0 sorted.1 here

last_later : (rows : List Row) (i : ℕ) (row : Row) → IsAscending step_of rows → slice_get rows i ≡ Some row → fold later_row None (take (suc i) rows) ≡ Some row
last_later [] i row sorted here = absurd (none-some row here)
last_later (first ∷ rows) zero row sorted here = here
last_later (first ∷ rows) (suc i) row sorted here = later_from first rows i row sorted.0 sorted.1 here

module _ (rows : List Row) (sorted : IsAscending step_of rows) (upto step : ℕ) (lower : list_any (λ (row : Row). nat_lt step row.step.0) (take upto rows) ≡ false) (higher : list_any (λ (row : Row). nat_le row.step.0 step) (drop upto rows) ≡ false) where
  front : filter (λ (row : Row). nat_le row.step.0 step) rows ≡ take upto rows
  front = cut_at step_of rows upto step lower higher

  pub last_none : upto ≡ 0 → fold later_row None (filter (λ (row : Row). nat_le row.step.0 step) rows) ≡ None
  last_none none = ap (fold later_row None) front ∙ ap (λ n. fold later_row None (take n rows)) none

  pub last_some : (row : Row) → 0 < upto → slice_get rows (upto - 1) ≡ Some row → fold later_row None (filter (λ (row : Row). nat_le row.step.0 step) rows) ≡ Some row
  last_some row some here =
      let e : upto ≡ suc (upto - 1) = omega (arith, some) in
      ap (fold later_row None) front ∙ ap (λ n. fold later_row None (take n rows)) e ∙ last_later rows (upto - 1) row sorted here

-- the target is that of the navigable's own rows
pub target_of : (rows own : List Row) (nav : NavId) (step : ℕ) → filter (is_of nav) rows ≡ own → target_entry rows nav step ≡ fold later_row None (filter (λ (row : Row). nat_le row.step.0 step) own)
target_of rows own nav step are =
    ap (fold later_row None) (sym (filter-filter (λ (row : Row). nat_le row.step.0 step) (is_of nav) rows) ∙ ap (filter (λ (row : Row). nat_le row.step.0 step)) are)

pub has_row_is : (rows : List Row) (nav : NavId) → has_row nav rows ≡ nat_lt 0 (length (filter (is_of nav) rows))
has_row_is [] nav = refl
has_row_is (row ∷ rows) nav =
    elim (cases_Bool (is_of nav row)) [
      | inl is ↦ rw is (sym (lt-ltb 0 (suc (length (filter (is_of nav) rows))) (omega arith)))
      | inr isnt ↦ rw isnt (has_row_is rows nav)
    ]

pub has_row_none : (rows : List Row) (nav : NavId) → filter (is_of nav) rows ≡ [] → has_row nav rows ≡ false
has_row_none rows nav none = has_row_is rows nav ∙ le-ltb 0 (length (filter (is_of nav) rows)) (omega (arith, ap (length {A = Row}) none))

pub has_row_some : (rows own : List Row) (nav : NavId) → filter (is_of nav) rows ≡ own → 0 < length own → has_row nav rows ≡ true
has_row_some rows own nav are some = has_row_is rows nav ∙ lt-ltb 0 (length (filter (is_of nav) rows)) (omega (arith, some, ap (length {A = Row}) are))

-- ---- the used step

map_filter : (step : ℕ) (rows : List Row) → filter (λ used. nat_le used step) (map (λ (row : Row). row.step.0) rows) ≡ map (λ (row : Row). row.step.0) (filter (λ (row : Row). nat_le row.step.0 step) rows)
map_filter step [] = refl
map_filter step (row ∷ rows) =
    elim (cases_Bool (nat_le row.step.0 step)) [
      | inl is ↦ rw is (ap (λ rest. row.step.0 ∷ rest) (map_filter step rows))
      | inr isnt ↦ rw isnt (map_filter step rows)
    ]

-- it lies beyond a number where a used step up to the given one does
used_beyond : (rows : List Row) (step beyond : ℕ) → nat_lt beyond (used_step_at rows step) ≡ list_any (λ used. nat_lt beyond used) (filter (λ used. nat_le used step) (used_steps rows))
used_beyond rows step beyond =
    ap (λ steps. nat_lt beyond (fold max 0 steps)) (map_filter step rows)
    ∙ greatest_step-beyond beyond (filter (λ (row : Row). nat_le row.step.0 step) rows)
    ∙ list_any-filter (λ (row : Row). nat_lt beyond row.step.0) (λ (row : Row). nat_le row.step.0 step) rows
    ∙ sym (used_steps-any (λ used. nat_le used step && nat_lt beyond used) rows)
    ∙ sym (list_any-filter (λ used. nat_lt beyond used) (λ used. nat_le used step) (used_steps rows))

-- where a row stands at a step, that is the used step
upto_bound : (step best : ℕ) (steps : List ℕ) → best ≤ step → fold max best (filter (λ used. nat_le used step) steps) ≤ step
upto_bound step best [] within = within
upto_bound step best (first ∷ steps) within =
    elim (cases_Bool (nat_le first step)) [
      | inl in_ ↦ rw in_ (upto_bound step (max best first) steps (omega (arith, within, leb-true first step in_)))
      | inr out ↦ rw out (upto_bound step best steps within)
    ]

from_best : (best : ℕ) (steps : List ℕ) → best ≤ fold max best steps
from_best best [] = omega arith
from_best best (first ∷ steps) = omega (arith, from_best (max best first) steps)

upto_reached : (step best : ℕ) (rows : List Row) → list_any (λ (row : Row). row.step.0 == step) rows ≡ true → step ≤ fold max best (filter (λ used. nat_le used step) (map (λ (row : Row). row.step.0) rows))
upto_reached step best [] any = absurd (false≢true any)
upto_reached step best (row ∷ rows) any =
    elim (or_cases (row.step.0 == step) (list_any (λ (r : Row). r.step.0 == step) rows) any) [
      | inl here ↦
          rw (le-leb row.step.0 step (omega (arith, eqb-true row.step.0 step here)))
          (omega (arith, eqb-true row.step.0 step here, from_best (max best row.step.0) (filter (λ used. nat_le used step) (map (λ (r : Row). r.step.0) rows))))
      | inr there ↦
          elim (cases_Bool (nat_le row.step.0 step)) [
            | inl in_ ↦ rw in_ (upto_reached step (max best row.step.0) rows there)
            | inr out ↦ rw out (upto_reached step best rows there)
          ]
    ]

pub used_here : (rows : List Row) (step : ℕ) → list_any (λ (row : Row). row.step.0 == step) rows ≡ true → used_step_at rows step ≡ step
used_here rows step any = omega (arith, upto_bound step 0 (map (λ (row : Row). row.step.0) rows) (omega arith), upto_reached step 0 rows any)

same_beyond : (a b : ℕ) → ((beyond : ℕ) → nat_lt beyond a ≡ nat_lt beyond b) → a ≡ b
same_beyond a b same =
    omega (arith, ltb-false a b (sym (same a) ∙ le-ltb a a (omega arith)), ltb-false b a (same b ∙ le-ltb b b (omega arith)))

-- the last of some that ascend lies beyond a number where one does
any_last : (items : List ℕ) (i item beyond : ℕ) → IsAscending (λ n. n) items → slice_get items i ≡ Some item → list_any (λ n. nat_lt beyond n) (take (suc i) items) ≡ nat_lt beyond item
any_last [] i item beyond sorted here = absurd (none-some item here)
any_last (first ∷ items) zero item beyond sorted here =
    or_last (nat_lt beyond first) ∙ ap (nat_lt beyond) (some_same first item here)
  where
    or_last : (b : Bool) → (b || false) ≡ b
    or_last true = refl
    or_last false = refl
any_last (first ∷ items) (suc i) item beyond sorted here =
    ap (λ b. nat_lt beyond first || b) (any_last items i item beyond sorted.1 here)
    ∙ by_test (nat_lt beyond first) refl
  where
    by_test : (b : Bool) → nat_lt beyond first ≡ b → (nat_lt beyond first || nat_lt beyond item) ≡ nat_lt beyond item
    by_test true is =
        ap (λ b. b || nat_lt beyond item) is
        ∙ sym (lt-ltb beyond item (omega (arith, Rattle.std.proofs.lemmas.Bool.ltb-true beyond first is, first_lower (λ n. n) first items i item sorted here)))
    by_test false isnt = ap (λ b. b || nat_lt beyond item) isnt

-- those before one of some that ascend
none_lower : (item : ℕ) (items : List ℕ) → list_any (λ n. nat_le n item) items ≡ false → length (filter (λ n. nat_lt n item) items) ≡ 0
none_lower item [] none = refl
none_lower item (first ∷ items) none =
    let both = or_parts (nat_le first item) (list_any (λ n. nat_le n item) items) none in
    rw (le-ltb first item (omega (arith, leb-false first item both.0))) (none_lower item items both.1)

count_before : (items : List ℕ) (i item : ℕ) → IsAscending (λ n. n) items → slice_get items i ≡ Some item → length (filter (λ n. nat_lt n item) items) ≡ i
count_before [] i item sorted here = absurd (none-some item here)
count_before (first ∷ items) zero item sorted here =
    let same : first ≡ item = some_same first item here in
    rw (le-ltb first item (omega (arith, same))) (none_lower item items (ap (λ m. list_any (λ n. nat_le n m) items) (sym same) ∙ sorted.0))
count_before (first ∷ items) (suc i) item sorted here =
    rw (lt-ltb first item (first_lower (λ n. n) first items i item sorted here)) (ap (λ n. suc n) (count_before items i item sorted.1 here))

all_from : (low bound high : ℕ) (steps : List ℕ) → bound < low → Ascends low high steps → list_any (λ n. nat_le n bound) steps ≡ false
all_from low bound high [] past within = refl
all_from low bound high (step ∷ steps) past within =
    or_none _ _ (lt-leb step bound (omega (arith, past, within.0))) (all_from (suc step) bound high steps (omega (arith, past, within.0)) within.2)

pub ascending_from : (low high : ℕ) (steps : List ℕ) → Ascends low high steps → IsAscending (λ n. n) steps
ascending_from low high [] within = tt
ascending_from low high (step ∷ steps) within = (all_from (suc step) step high steps (omega arith) within.2, ascending_from (suc step) high steps within.2)

module _ (history : History) (used : List ℕ) (kept : IsKept history used) where
  pub used_ascend : IsAscending (λ n. n) used
  used_ascend = subst (IsAscending (λ n. n)) (sym kept.used) (ascending_from 0 4294967295 (used_steps history.rows) (used_steps-ascend 4294967295 history.rows kept.below))

  pub few_used : length used < 4294967296
  few_used = used_fits history used kept

  module _ (upto step : ℕ) (lower : list_any (λ n. nat_lt step n) (take upto used) ≡ false) (higher : list_any (λ n. nat_le n step) (drop upto used) ≡ false) where
    beyond_is : (beyond : ℕ) → nat_lt beyond (used_step_at history.rows step) ≡ list_any (λ n. nat_lt beyond n) (take upto used)
    beyond_is beyond =
        used_beyond history.rows step beyond
        ∙ ap (λ steps. list_any (λ n. nat_lt beyond n) (filter (λ n. nat_le n step) steps)) (sym kept.used)
        ∙ ap (list_any (λ n. nat_lt beyond n)) (cut_at (λ n. n) used upto step lower higher)

    pub used_none : upto ≡ 0 → used_step_at history.rows step ≡ 0
    used_none none =
        same_beyond (used_step_at history.rows step) 0 (λ beyond. beyond_is beyond ∙ ap (λ n. list_any (λ m. nat_lt beyond m) (take n used)) none ∙ sym (le-ltb beyond 0 (omega arith)))

    pub used_some : (item : ℕ) → 0 < upto → slice_get used (upto - 1) ≡ Some item → used_step_at history.rows step ≡ item
    used_some item some here =
        let e : upto ≡ suc (upto - 1) = omega (arith, some) in
        same_beyond (used_step_at history.rows step) item (λ beyond. beyond_is beyond ∙ ap (λ n. list_any (λ m. nat_lt beyond m) (take n used)) e ∙ any_last used (upto - 1) item beyond used_ascend here)

    pub index_none : upto ≡ 0 → history_index history.rows step ≡ 0
    index_none none =
        ap (λ at. length (filter (λ n. nat_lt n at) (used_steps history.rows))) (used_none none)
        ∙ none_below (used_steps history.rows)
      where
        none_below : (steps : List ℕ) → length (filter (λ n. nat_lt n 0) steps) ≡ 0
        none_below [] = refl
        none_below (first ∷ steps) = rw (le-ltb first 0 (omega arith)) (none_below steps)

    pub index_some : (item : ℕ) → 0 < upto → slice_get used (upto - 1) ≡ Some item → history_index history.rows step ≡ upto - 1
    index_some item some here =
        ap (λ at. length (filter (λ n. nat_lt n at) (used_steps history.rows))) (used_some item some here)
        ∙ ap (λ steps. length (filter (λ n. nat_lt n item) steps)) (sym kept.used)
        ∙ count_before used (upto - 1) item used_ascend here

    -- in either case
    pub index_is : upto ≤ length used → history_index history.rows step ≡ upto - 1
    index_is within = by_place upto refl
      where
        by_place : (n : ℕ) → upto ≡ n → history_index history.rows step ≡ upto - 1
        by_place zero is = index_none is ∙ omega (arith, is)
        by_place (suc n) is = index_some (get_or used (upto - 1) 0) (omega (arith, is)) (slice_get-get_or used (upto - 1) 0 (omega (arith, is, within)))
