-- The order of rows keeps the rows, and goes with a filter, a map, and a fold that takes rows in any order.
use Rattle.std.proofs.Common.{◌≡◌, ℕ, ◌≤◌, Bool, true, false, not, ◌||◌, cond, List, [], ◌∷◌, refl, ap, sym, ◌∙◌, arith, inl, inr, filter, map, fold}
use Rattle.std.specs.List.{list_any, count_by}
use Rattle.std.proofs.lemmas.Bool.{cases_Bool, true≢false, false≢true, and_from, eq-eqb}
use Rattle.std.proofs.lemmas.Bool.Decides.{nat_tests}
use Rattle.std.proofs.lemmas.List.Sums.{sum_by-cons}
use Rattle.tab_ids.specs.declared.NavId.{NavId}
use Rattle.log_model.specs.declared.row.Row.{Row}
use Rattle.log_model.specs.Order.{is_before, with_row, ordered}
use Rattle.log_model.specs.Soundness.{stands_at}
use Rattle.history_laws.proofs.Members.{or_none, IsIn, IsIn-head, IsIn-tail, IsIn-filter, list_any-none, none_passes}
use Rattle.history_laws.proofs.Ordered.{AreApart, is_before-trans}
use Rattle.history_laws.proofs.Replace.{list_any-zero}

-- ---- it keeps the rows

or_moves : (a b c : Bool) → (a || (b || c)) ≡ (b || (a || c))
or_moves true true c = refl
or_moves true false c = refl
or_moves false true c = refl
or_moves false false c = refl

here : (row first : Row) (rows : List Row) → is_before row first ≡ true → with_row row (first ∷ rows) ≡ row ∷ first ∷ rows
here row first rows before = ap (λ b. cond b (row ∷ first ∷ rows) (first ∷ with_row row rows)) before

past : (row first : Row) (rows : List Row) → is_before row first ≡ false → with_row row (first ∷ rows) ≡ first ∷ with_row row rows
past row first rows behind = ap (λ b. cond b (row ∷ first ∷ rows) (first ∷ with_row row rows)) behind

pub with_row-any : (test : Row → Bool) (row : Row) (rows : List Row) → list_any test (with_row row rows) ≡ (test row || list_any test rows)
with_row-any test row [] = refl
with_row-any test row (first ∷ rows) =
    elim (cases_Bool (is_before row first)) [
      | inl before ↦ ap (list_any test) (here row first rows before)
      | inr behind ↦ ap (list_any test) (past row first rows behind) ∙ ap (λ b. test first || b) (with_row-any test row rows) ∙ or_moves (test first) (test row) (list_any test rows)
    ]

pub ordered-any : (test : Row → Bool) (rows : List Row) → list_any test (ordered rows) ≡ list_any test rows
ordered-any test [] = refl
ordered-any test (row ∷ rows) = with_row-any test row (ordered rows) ∙ ap (λ b. test row || b) (ordered-any test rows)

-- ---- it goes with a map that keeps navigable and step

module _ (f : Row → Row) (navs : (row : Row) → (f row).nav.0 ≡ row.nav.0) (steps : (row : Row) → (f row).step.0 ≡ row.step.0) where
  before_same : (one other : Row) → is_before (f one) (f other) ≡ is_before one other
  before_same one other = rw (navs one, navs other, steps one, steps other) refl

  with_row-map : (row : Row) (rows : List Row) → with_row (f row) (map f rows) ≡ map f (with_row row rows)
  with_row-map row [] = refl
  with_row-map row (first ∷ rows) =
      elim (cases_Bool (is_before row first)) [
        | inl before ↦ here (f row) (f first) (map f rows) (before_same row first ∙ before) ∙ sym (ap (map f) (here row first rows before))
        | inr behind ↦
            past (f row) (f first) (map f rows) (before_same row first ∙ behind) ∙ ap (λ rest. f first ∷ rest) (with_row-map row rows) ∙ sym (ap (map f) (past row first rows behind))
      ]

  pub ordered-map : (rows : List Row) → ordered (map f rows) ≡ map f (ordered rows)
  ordered-map [] = refl
  ordered-map (row ∷ rows) = ap (with_row (f row)) (ordered-map rows) ∙ with_row-map row (ordered rows)

-- ---- it goes with a filter

-- no row stands before an earlier one
abbrev pub IsSorted : List Row → Type 0
IsSorted [] = Unit {0}
IsSorted (row ∷ rows) = (list_any (λ other. is_before other row) rows ≡ false) × IsSorted rows

not_after : (row first : Row) → is_before row first ≡ true → is_before first row ≡ false
not_after row first before = grind (arith, nat_tests)

before_on : (row first other : Row) → is_before row first ≡ true → is_before other first ≡ false → is_before row other ≡ true
before_on row first other before behind = grind (arith, nat_tests)

with_row-sorted : (row : Row) (rows : List Row) → IsSorted rows → IsSorted (with_row row rows)
with_row-sorted row [] sorted = (refl, tt)
with_row-sorted row (first ∷ rows) sorted =
    elim (cases_Bool (is_before row first)) [
      | inl before ↦
          rw (here row first rows before) (
            or_none _ _ (not_after row first before) (list_any-none (λ other. is_before other row) rows (λ other there.
                elim (cases_Bool (is_before other row)) [
                  | inl earlier ↦ absurd (false≢true (sym (none_passes (λ o. is_before o first) rows sorted.0 other there) ∙ is_before-trans other row first earlier before))
                  | inr isnt ↦ isnt
                ])),
            sorted,
          )
      | inr behind ↦
          rw (past row first rows behind) (with_row-any (λ other. is_before other first) row rows ∙ or_none _ _ behind sorted.0, with_row-sorted row rows sorted.1)
    ]

pub ordered-sorted : (rows : List Row) → IsSorted (ordered rows)
ordered-sorted [] = tt
ordered-sorted (row ∷ rows) = with_row-sorted row (ordered rows) (ordered-sorted rows)

-- before all of them
with_row-front : (row : Row) (rows : List Row) → list_any (λ other. not (is_before row other)) rows ≡ false → with_row row rows ≡ row ∷ rows
with_row-front row [] all = refl
with_row-front row (first ∷ rows) all = by_test (is_before row first) refl
  where
    by_test : (b : Bool) → is_before row first ≡ b → with_row row (first ∷ rows) ≡ row ∷ first ∷ rows
    by_test true before = here row first rows before
    by_test false behind = absurd (true≢false (sym (ap (λ b. not b || list_any (λ other. not (is_before row other)) rows) behind) ∙ all))

filter-past : (p : Row → Bool) (row : Row) (rows : List Row) → p row ≡ false → filter p (with_row row rows) ≡ filter p rows
filter-past p row [] fails = ap (λ b. cond b (row ∷ []) []) fails
filter-past p row (first ∷ rows) fails =
    elim (cases_Bool (is_before row first)) [
      | inl before ↦ ap (filter p) (here row first rows before) ∙ ap (λ b. cond b (row ∷ filter p (first ∷ rows)) (filter p (first ∷ rows))) fails
      | inr behind ↦ ap (filter p) (past row first rows behind) ∙ ap (λ rest. cond (p first) (first ∷ rest) rest) (filter-past p row rows fails)
    ]

filter-with_row : (p : Row → Bool) (row : Row) (rows : List Row) → p row ≡ true → IsSorted rows → filter p (with_row row rows) ≡ with_row row (filter p rows)
filter-with_row p row [] passes sorted = ap (λ b. cond b (row ∷ []) []) passes
filter-with_row p row (first ∷ rows) passes sorted = by_tests (filter-with_row p row rows passes sorted.1) (is_before row first) refl (p first) refl
  where
    all_after : is_before row first ≡ true → list_any (λ other. not (is_before row other)) (first ∷ rows) ≡ false
    all_after before =
        or_none _ _ (ap not before) (list_any-none (λ other. not (is_before row other)) rows (λ other there.
        ap not (before_on row first other before (none_passes (λ o. is_before o first) rows sorted.0 other there))))

    by_tests : filter p (with_row row rows) ≡ with_row row (filter p rows) → (a : Bool) → is_before row first ≡ a → (b : Bool) → p first ≡ b → filter p (with_row row (first ∷ rows)) ≡ with_row row (filter p (first ∷ rows))
    by_tests rest true before b is =
        ap (filter p) (here row first rows before) ∙ ap (λ c. cond c (row ∷ filter p (first ∷ rows)) (filter p (first ∷ rows))) passes
        ∙ sym (with_row-front row (filter p (first ∷ rows)) (list_any-none (λ other. not (is_before row other)) (filter p (first ∷ rows)) (λ other kept.
        none_passes (λ o. not (is_before row o)) (first ∷ rows) (all_after before) other (IsIn-filter p (first ∷ rows) other kept))))
    by_tests rest false behind true is =
        ap (filter p) (past row first rows behind) ∙ ap (λ c. cond c (first ∷ filter p (with_row row rows)) (filter p (with_row row rows))) is
        ∙ ap (λ more. first ∷ more) rest ∙ sym (past row first (filter p rows) behind)
        ∙ sym (ap (λ c. with_row row (cond c (first ∷ filter p rows) (filter p rows))) is)
    by_tests rest false behind false is =
        ap (filter p) (past row first rows behind) ∙ ap (λ c. cond c (first ∷ filter p (with_row row rows)) (filter p (with_row row rows))) is
        ∙ rest ∙ sym (ap (λ c. with_row row (cond c (first ∷ filter p rows) (filter p rows))) is)

pub ordered-filter : (p : Row → Bool) (rows : List Row) → ordered (filter p rows) ≡ filter p (ordered rows)
ordered-filter p [] = refl
ordered-filter p (row ∷ rows) = by_test (ordered-filter p rows) (p row) refl
  where
    by_test : ordered (filter p rows) ≡ filter p (ordered rows) → (b : Bool) → p row ≡ b → ordered (filter p (row ∷ rows)) ≡ filter p (with_row row (ordered rows))
    by_test rest true passes =
        ap (λ c. ordered (cond c (row ∷ filter p rows) (filter p rows))) passes ∙ ap (with_row row) rest ∙ sym (filter-with_row p row (ordered rows) passes (ordered-sorted rows))
    by_test rest false fails =
        ap (λ c. ordered (cond c (row ∷ filter p rows) (filter p rows))) fails ∙ rest ∙ sym (filter-past p row (ordered rows) fails)

-- ---- it goes with a fold that takes rows of different places in any order

-- the rows of a navigable have different steps
abbrev pub HaveSteps : List Row → Type 0
HaveSteps rows = (nav : NavId) (step : ℕ) → count_by (stands_at nav step) rows ≤ 1

pub HaveSteps-tail : (row : Row) (rows : List Row) → HaveSteps (row ∷ rows) → HaveSteps rows
HaveSteps-tail row rows few nav step = omega (arith, few nav step, sum_by-cons (λ r. cond (stands_at nav step r) 1 0) row rows)

pub apart_first : (row : Row) (rows : List Row) → HaveSteps (row ∷ rows) → (other : Row) → IsIn rows other → AreApart row other
apart_first row rows few other there navs steps =
    let test = stands_at row.nav row.step.0 in
    let mine : test row ≡ true = and_from _ _ (eq-eqb row.nav.0 row.nav.0 refl) (eq-eqb row.step.0 row.step.0 refl) in
    let none : count_by test rows ≡ 0 = omega (arith, few row.nav row.step.0, sum_by-cons (λ r. cond (test r) 1 0) row rows, ap {B = ℕ} (λ b. cond b 1 0) mine) in
    false≢true (sym (list_any-zero test rows none) ∙ there test (and_from _ _ (eq-eqb other.nav.0 row.nav.0 (sym navs)) (eq-eqb other.step.0 row.step.0 (sym steps))))

module _ {B : Type 0} (f : B → Row → B) (turns : (z : B) (one other : Row) → AreApart one other → f (f z one) other ≡ f (f z other) one) where
  fold-with_row : (z : B) (row : Row) (rows : List Row) → ((other : Row) → IsIn rows other → AreApart row other) → fold f z (with_row row rows) ≡ fold f (f z row) rows
  fold-with_row z row [] apart = refl
  fold-with_row z row (first ∷ rows) apart =
      elim (cases_Bool (is_before row first)) [
        | inl before ↦ ap (fold f z) (here row first rows before)
        | inr behind ↦
            ap (fold f z) (past row first rows behind)
            ∙ fold-with_row (f z first) row rows (λ other there. apart other (IsIn-tail rows first other there))
            ∙ ap (λ y. fold f y rows) (sym (turns z row first (apart first (IsIn-head rows first))))
      ]

  pub fold-ordered : (z : B) (rows : List Row) → HaveSteps rows → fold f z (ordered rows) ≡ fold f z rows
  fold-ordered z [] few = refl
  fold-ordered z (row ∷ rows) few =
      fold-with_row z row (ordered rows) (λ other there. apart_first row rows few other (λ test passes. sym (ordered-any test rows) ∙ there test passes))
      ∙ fold-ordered (f z row) rows (HaveSteps-tail row rows few)
