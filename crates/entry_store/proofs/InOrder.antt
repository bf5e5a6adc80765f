-- The rows, sorted under navigable and step, are those of the order; the children's numbers, each once.
use Rattle.std.proofs.Common.{◌≡◌, ℕ, ◌≤◌, Bool, true, false, ◌||◌, cond, List, [], ◌∷◌, ◌++◌, map, fold, refl, ap, sym, ◌∙◌, arith, inl, inr, append_assoc, subst}
use Rattle.std.specs.List.{list_any, count_by}
use Rattle.std.specs.declared.cmp.Ordering.TheVariants.{Less, Equal, Greater}
use Rattle.std.specs.Cmp.{nat_cmp_is}
use Rattle.std.specs.Map.{values_of}
use Rattle.std.proofs.lemmas.List.{append-nil}
use Rattle.std.proofs.lemmas.List.Sums.{sum_by-cons, sum_by-append}
use Rattle.std.proofs.lemmas.Bool.{cases_Bool, cases_order, lt-ltb, le-ltb, eq-eqb, ne_eqb, and_from, false≢true}
use Rattle.tab_ids.specs.declared.StateId.{StateId}
use Rattle.tab_ids.specs.declared.NavId.{NavId}
use Rattle.log_model.specs.declared.row.Row.{Row}
use Rattle.log_model.specs.History.{with_step}
use Rattle.log_model.specs.Order.{is_before, with_row, ordered}
use Rattle.log_model.specs.Soundness.{is_owned_by, stands_at}
use Rattle.history_laws.proofs.Members.{IsIn, IsIn-head, IsIn-tail}
use Rattle.history_laws.proofs.Ordered.{AreApart, ordered-push}
use Rattle.history_laws.proofs.UsedSteps.{with_step-with_step}
use Rattle.history_laws.proofs.Replace.{list_any-zero}
use Rattle.entry_store.specs.Store.{child_numbers}
use Rattle.entry_store.specs.Reading.{child_of, placed_row}

-- ---- the rows

-- the rows, each under its navigable and step
abbrev pub keyed : List Row → List ((ℕ × ℕ) × Row)
keyed rows = map (λ (row : Row). ((row.nav.0, row.step.0), row)) rows

values_of-keyed : (rows : List Row) → values_of (keyed rows) ≡ rows
values_of-keyed [] = refl
values_of-keyed (row ∷ rows) = ap (λ rest. row ∷ rest) (values_of-keyed rows)

-- a row goes to its place
placed : (row : Row) (rows : List Row) → ((other : Row) → IsIn rows other → AreApart other row) → placed_row (keyed rows) row ≡ keyed (with_row row rows)
placed row [] apart = refl
placed row (first ∷ rows) apart =
    elim (cases_order row.nav.0 first.nav.0) [
      | inl same ↦
          elim (cases_order row.step.0 first.step.0) [
            | inl equal ↦ absurd (apart first (IsIn-head rows first) (sym same) (sym equal))
            | inr steps ↦
                elim steps [
                  | inl lower ↦
                      rw (← nat_cmp_is row.nav.0 first.nav.0 Equal same, ← nat_cmp_is row.step.0 first.step.0 Less lower, le-ltb row.nav.0 first.nav.0 (omega (arith, same)), eq-eqb row.nav.0 first.nav.0 same, lt-ltb row.step.0 first.step.0 lower) refl
                  | inr higher ↦
                      rw (← nat_cmp_is row.nav.0 first.nav.0 Equal same, ← nat_cmp_is row.step.0 first.step.0 Greater higher, le-ltb row.nav.0 first.nav.0 (omega (arith, same)), eq-eqb row.nav.0 first.nav.0 same, le-ltb row.step.0 first.step.0 (omega (arith, higher)))
                      (ap (λ rest. ((first.nav.0, first.step.0), first) ∷ rest) (placed row rows (λ other there. apart other (IsIn-tail rows first other there))))
                ]
          ]
      | inr navs ↦
          elim navs [
            | inl lower ↦ rw (← nat_cmp_is row.nav.0 first.nav.0 Less lower, lt-ltb row.nav.0 first.nav.0 lower) refl
            | inr higher ↦
                rw (← nat_cmp_is row.nav.0 first.nav.0 Greater higher, le-ltb row.nav.0 first.nav.0 (omega (arith, higher)), ne_eqb row.nav.0 first.nav.0 (λ same. omega (arith, same, higher)))
                (ap (λ rest. ((first.nav.0, first.step.0), first) ∷ rest) (placed row rows (λ other there. apart other (IsIn-tail rows first other there))))
          ]
    ]

-- the order keeps the rows
with_row-any : (test : Row → Bool) (row : Row) (rows : List Row) → list_any test (with_row row rows) ≡ (test row || list_any test rows)
with_row-any test row [] = refl
with_row-any test row (first ∷ rows) =
    elim (cases_Bool (is_before row first)) [
      | inl before ↦ ap (λ b. list_any test (cond b (row ∷ first ∷ rows) (first ∷ with_row row rows))) before
      | inr past ↦
          ap (λ b. list_any test (cond b (row ∷ first ∷ rows) (first ∷ with_row row rows))) past
          ∙ ap (λ b. test first || b) (with_row-any test row rows)
          ∙ or_moves (test first) (test row) (list_any test rows)
    ]
  where
    or_moves : (a b c : Bool) → (a || (b || c)) ≡ (b || (a || c))
    or_moves true true c = refl
    or_moves true false c = refl
    or_moves false true c = refl
    or_moves false false c = refl

pub ordered-any : (test : Row → Bool) (rows : List Row) → list_any test (ordered rows) ≡ list_any test rows
ordered-any test [] = refl
ordered-any test (row ∷ rows) = with_row-any test row (ordered rows) ∙ ap (λ b. test row || b) (ordered-any test rows)

-- rows of a navigable have different steps
abbrev pub HaveSteps : List Row → Type 0
HaveSteps rows = (nav : NavId) (step : ℕ) → count_by (stands_at nav step) rows ≤ 1

apart_of : (done rest : List Row) (row : Row) → HaveSteps (done ++ row ∷ rest) → (other : Row) → IsIn done other → AreApart other row
apart_of done rest row few other there navs steps =
    let test = stands_at row.nav row.step.0 in
    let mine : test row ≡ true = and_from _ _ (eq-eqb row.nav.0 row.nav.0 refl) (eq-eqb row.step.0 row.step.0 refl) in
    let f : Row → ℕ = λ r. cond (test r) 1 0 in
    let none : count_by test done ≡ 0 = omega (arith, few row.nav row.step.0, sum_by-append f done (row ∷ rest), sum_by-cons f row rest, ap {B = ℕ} (λ b. cond b 1 0) mine) in
    false≢true (sym (list_any-zero test done none) ∙ there test (and_from _ _ (eq-eqb other.nav.0 row.nav.0 navs) (eq-eqb other.step.0 row.step.0 steps)))

sorted_from : (done rest : List Row) → HaveSteps (done ++ rest) → fold placed_row (keyed (ordered done)) rest ≡ keyed (ordered (done ++ rest))
sorted_from done [] few = ap (λ rows. keyed (ordered rows)) (sym (append-nil done))
sorted_from done (row ∷ rest) few =
    let apart = apart_of done rest row few in
    let longer : HaveSteps ((done ++ row ∷ []) ++ rest) = λ nav step. subst (λ (rows : List Row). count_by (stands_at nav step) rows ≤ 1) (sym (append_assoc done (row ∷ []) rest)) (few nav step) in
    ap (λ entries. fold placed_row entries rest) (placed row (ordered done) (λ other there. apart other (λ test passes. sym (ordered-any test done) ∙ there test passes)) ∙ ap keyed (sym (ordered-push done row apart)))
    ∙ sorted_from (done ++ row ∷ []) rest longer
    ∙ ap (λ rows. keyed (ordered rows)) (append_assoc done (row ∷ []) rest)

pub sorted_values : (rows : List Row) → HaveSteps rows → values_of (fold placed_row [] rows) ≡ ordered rows
sorted_values rows few = ap values_of (sorted_from [] rows few) ∙ values_of-keyed (ordered rows)

-- ---- the children

child_numbers-push : (state : StateId) (rows : List Row) (row : Row) → child_numbers state (rows ++ row ∷ []) ≡ child_of state (child_numbers state rows) row
child_numbers-push state [] row = refl
child_numbers-push state (first ∷ rows) row = by_tests (child_numbers-push state rows row) (is_owned_by state first) refl (is_owned_by state row) refl
  where
    by_tests : child_numbers state (rows ++ row ∷ []) ≡ child_of state (child_numbers state rows) row → (a : Bool) → is_owned_by state first ≡ a → (b : Bool) → is_owned_by state row ≡ b → child_numbers state ((first ∷ rows) ++ row ∷ []) ≡ child_of state (child_numbers state (first ∷ rows)) row
    by_tests rest true owned true too =
        ap (λ b. cond b (with_step first.nav.0 (child_numbers state (rows ++ row ∷ []))) (child_numbers state (rows ++ row ∷ []))) owned
        ∙ ap (with_step first.nav.0) (rest ∙ ap (λ b. cond b (with_step row.nav.0 (child_numbers state rows)) (child_numbers state rows)) too)
        ∙ with_step-with_step first.nav.0 row.nav.0 (child_numbers state rows)
        ∙ sym (ap (λ b. cond b (with_step row.nav.0 (child_numbers state (first ∷ rows))) (child_numbers state (first ∷ rows))) too
        ∙ ap (λ b. with_step row.nav.0 (cond b (with_step first.nav.0 (child_numbers state rows)) (child_numbers state rows))) owned)
    by_tests rest true owned false not_too =
        ap (λ b. cond b (with_step first.nav.0 (child_numbers state (rows ++ row ∷ []))) (child_numbers state (rows ++ row ∷ []))) owned
        ∙ ap (with_step first.nav.0) (rest ∙ ap (λ b. cond b (with_step row.nav.0 (child_numbers state rows)) (child_numbers state rows)) not_too)
        ∙ sym (ap (λ b. cond b (with_step row.nav.0 (child_numbers state (first ∷ rows))) (child_numbers state (first ∷ rows))) not_too
        ∙ ap (λ b. cond b (with_step first.nav.0 (child_numbers state rows)) (child_numbers state rows)) owned)
    by_tests rest false other b too =
        ap (λ b. cond b (with_step first.nav.0 (child_numbers state (rows ++ row ∷ []))) (child_numbers state (rows ++ row ∷ []))) other
        ∙ rest
        ∙ ap (λ numbers. child_of state numbers row) (sym (ap (λ b. cond b (with_step first.nav.0 (child_numbers state rows)) (child_numbers state rows)) other))

children_from : (state : StateId) (done rest : List Row) → fold (child_of state) (child_numbers state done) rest ≡ child_numbers state (done ++ rest)
children_from state done [] = ap (child_numbers state) (sym (append-nil done))
children_from state done (row ∷ rest) =
    ap (λ numbers. fold (child_of state) numbers rest) (sym (child_numbers-push state done row))
    ∙ children_from state (done ++ row ∷ []) rest
    ∙ ap (child_numbers state) (append_assoc done (row ∷ []) rest)

pub children_are : (state : StateId) (rows : List Row) → fold (child_of state) [] rows ≡ child_numbers state rows
children_are state rows = children_from state [] rows
