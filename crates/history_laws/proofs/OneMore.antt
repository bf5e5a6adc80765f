-- One more row: what it does to the tests of a list, and that a history stays sound where a navigable gets one.
use Rattle.std.proofs.Common.{◌≡◌, ℕ, ◌+◌, Bool, true, false, ◌||◌, cond, List, [], ◌∷◌, ◌++◌, refl, ap, sym, ◌∙◌, arith}
use Rattle.std.specs.List.{list_any, count_by}
use Rattle.std.proofs.lemmas.Bool.{or_parts}
use Rattle.std.proofs.lemmas.List.Sums.{sum_by-cons, sum_by-append}
use Rattle.std.proofs.lemmas.List.Folds.{list_any-append}
use Rattle.log_model.specs.declared.row.Row.{Row}

-- the new list has one more row, somewhere
pub record AddsRow (rows : List Row) (row : Row) (new : List Row) : Type 0 where
  pub any : (test : Row → Bool) → list_any test new ≡ (test row || list_any test rows)
  pub count : (test : Row → Bool) → count_by test new ≡ cond (test row) 1 0 + count_by test rows

or_moves : (a b c : Bool) → (a || (b || c)) ≡ (b || (a || c))
or_moves true true c = refl
or_moves true false c = refl
or_moves false true c = refl
or_moves false false c = refl

pub AddsRow-insert : (front back : List Row) (row : Row) → AddsRow (front ++ back) row (front ++ row ∷ back)
AddsRow-insert front back row = record {
  any = λ test. list_any-append test front (row ∷ back) ∙ or_moves (list_any test front) (test row) (list_any test back) ∙ ap (λ b. test row || b) (sym (list_any-append test front back));
  count = λ test.
      let f : Row → ℕ = λ r. cond (test r) 1 0 in
      omega (arith, sum_by-append f front (row ∷ back), sum_by-cons f row back, sum_by-append f front back);
}

pub AddsRow-push : (rows : List Row) (row : Row) → AddsRow rows row (rows ++ row ∷ [])
AddsRow-push rows row = record {
  any = λ test. list_any-append test rows (row ∷ []) ∙ or_last (list_any test rows) (test row);
  count = λ test.
      let f : Row → ℕ = λ r. cond (test r) 1 0 in
      omega (arith, sum_by-append f rows (row ∷ []), sum_by-cons f row []);
}
  where
    or_last : (a b : Bool) → (a || (b || false)) ≡ (b || a)
    or_last true true = refl
    or_last true false = refl
    or_last false true = refl
    or_last false false = refl

-- none passes, so none is counted
pub count_by-none : {A : Type 0} (test : A → Bool) (xs : List A) → list_any test xs ≡ false → count_by test xs ≡ 0
count_by-none test [] none = refl
count_by-none test (x ∷ xs) none =
    let both = or_parts (test x) (list_any test xs) none in
    rw (sum_by-cons (λ y. cond (test y) 1 0) x xs, both.0, count_by-none test xs both.1) refl
