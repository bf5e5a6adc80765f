-- The order of rows: a row has one place in it, from wherever it comes.
use Rattle.std.proofs.Common.{◌≡◌, ◌≢◌, ◌<◌, true, false, not, List, [], ◌∷◌, ◌++◌, refl, ap, sym, ◌∙◌, arith, inl, inr}
use Rattle.std.proofs.lemmas.Bool.{cases_Bool, false≢true, and_from, eq-eqb, lt-ltb}
use Rattle.std.proofs.lemmas.Bool.Decides.{nat_tests}
use Rattle.log_model.specs.declared.row.Row.{Row}
use Rattle.log_model.specs.Order.{is_before, with_row, ordered}
use Rattle.history_laws.proofs.Members.{or_right, IsIn, IsIn-head, IsIn-tail}

-- the two rows are of different navigables or at different steps
abbrev pub AreApart : Row → Row → Type 0
AreApart one other = one.nav.0 ≡ other.nav.0 → one.step.0 ≢ other.step.0

before_steps : (one other : Row) → one.nav.0 ≡ other.nav.0 → one.step.0 < other.step.0 → is_before one other ≡ true
before_steps one other navs steps = or_right (lib.Dec.ltb one.nav.0 other.nav.0) _ (and_from _ _ (eq-eqb one.nav.0 other.nav.0 navs) (lt-ltb one.step.0 other.step.0 steps))

pub is_before-trans : (one other third : Row) → is_before one other ≡ true → is_before other third ≡ true → is_before one third ≡ true
is_before-trans one other third first second = grind (arith, nat_tests)

pub is_before-apart : (one other : Row) → AreApart one other → is_before other one ≡ not (is_before one other)
is_before-apart one other apart = grind (arith, nat_tests)

pub put_here : (row first : Row) (rows : List Row) → is_before row first ≡ true → with_row row (first ∷ rows) ≡ row ∷ first ∷ rows
put_here row first rows before = rw before refl

pub put_past : (row first : Row) (rows : List Row) → is_before row first ≡ false → with_row row (first ∷ rows) ≡ first ∷ with_row row rows
put_past row first rows behind = rw behind refl

both_here : (one other row : Row) (rows : List Row) → is_before one row ≡ true → is_before other row ≡ true → is_before one other ≡ true → is_before other one ≡ false → with_row one (with_row other (row ∷ rows)) ≡ with_row other (with_row one (row ∷ rows))
both_here one other row rows one_row other_row before behind =
    ap (with_row one) (put_here other row rows other_row)
    ∙ put_here one other (row ∷ rows) before
    ∙ sym (ap (with_row other) (put_here one row rows one_row) ∙ put_past other one (row ∷ rows) behind ∙ ap (λ rest. one ∷ rest) (put_here other row rows other_row))

one_here : (one other row : Row) (rows : List Row) → is_before one row ≡ true → is_before other row ≡ false → with_row one (with_row other (row ∷ rows)) ≡ with_row other (with_row one (row ∷ rows))
one_here one other row rows one_row other_row =
    ap (with_row one) (put_past other row rows other_row)
    ∙ put_here one row (with_row other rows) one_row
    ∙ sym (ap (with_row other) (put_here one row rows one_row) ∙ put_past other one (row ∷ rows) behind ∙ ap (λ rest. one ∷ rest) (put_past other row rows other_row))
  where
    behind : is_before other one ≡ false
    behind =
        elim (cases_Bool (is_before other one)) [
          | inl before ↦ absurd (false≢true (sym other_row ∙ is_before-trans other one row before one_row))
          | inr isnt ↦ isnt
        ]

pub with_row-with_row : (one other : Row) (rows : List Row) → AreApart one other → with_row one (with_row other rows) ≡ with_row other (with_row one rows)
with_row-with_row one other [] apart =
    elim (cases_Bool (is_before one other)) [
      | inl before ↦ rw (is_before-apart one other apart, before) refl
      | inr behind ↦ rw (is_before-apart one other apart, behind) refl
    ]
with_row-with_row one other (row ∷ rows) apart =
    elim (cases_Bool (is_before one row)) [
      | inl one_row ↦
          elim (cases_Bool (is_before other row)) [
            | inl other_row ↦
                elim (cases_Bool (is_before one other)) [
                  | inl before ↦ both_here one other row rows one_row other_row before (is_before-apart one other apart ∙ ap not before)
                  | inr behind ↦ sym (both_here other one row rows other_row one_row (is_before-apart one other apart ∙ ap not behind) behind)
                ]
            | inr other_past ↦ one_here one other row rows one_row other_past
          ]
      | inr one_past ↦
          elim (cases_Bool (is_before other row)) [
            | inl other_row ↦ sym (one_here other one row rows other_row one_past)
            | inr other_past ↦
                ap (with_row one) (put_past other row rows other_past)
                ∙ put_past one row (with_row other rows) one_past
                ∙ ap (λ rest. row ∷ rest) (with_row-with_row one other rows apart)
                ∙ sym (ap (with_row other) (put_past one row rows one_past) ∙ put_past other row (with_row one rows) other_past)
          ]
    ]

-- a row at the end, and a row anywhere
pub ordered-push : (rows : List Row) (row : Row) → ((other : Row) → IsIn rows other → AreApart other row) → ordered (rows ++ row ∷ []) ≡ with_row row (ordered rows)
ordered-push [] row apart = refl
ordered-push (first ∷ rows) row apart =
    ap (with_row first) (ordered-push rows row (λ other there. apart other (IsIn-tail rows first other there)))
    ∙ with_row-with_row first row (ordered rows) (apart first (IsIn-head rows first))

pub ordered-insert : (front back : List Row) (row : Row) → ((other : Row) → IsIn back other → AreApart other row) → ordered (front ++ row ∷ back) ≡ ordered ((front ++ back) ++ row ∷ [])
ordered-insert [] back row apart = sym (ordered-push back row apart)
ordered-insert (first ∷ front) back row apart = ap (with_row first) (ordered-insert front back row apart)
