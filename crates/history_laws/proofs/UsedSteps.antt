-- The used steps: a row's step has one place among them, from wherever the row comes.
use Rattle.std.proofs.Common.{◌≡◌, ℕ, ◌<◌, List, [], ◌∷◌, ◌++◌, refl, ap, sym, ◌∙◌, arith, inl, inr, fold, append_assoc}
use Rattle.std.proofs.lemmas.List.{append-nil}
use Rattle.std.proofs.lemmas.Bool.{cases_order, lt-ltb, le-ltb, eq-eqb, ne_eqb}
use Rattle.log_model.specs.declared.row.Row.{Row}
use Rattle.log_model.specs.History.{with_step, used_steps}

put_here : (step first : ℕ) (steps : List ℕ) → step < first → with_step step (first ∷ steps) ≡ step ∷ first ∷ steps
put_here step first steps before = rw (lt-ltb step first before) refl

put_there : (step first : ℕ) (steps : List ℕ) → step ≡ first → with_step step (first ∷ steps) ≡ first ∷ steps
put_there step first steps same = rw (le-ltb step first (omega (arith, same)), eq-eqb step first same) refl

put_past : (step first : ℕ) (steps : List ℕ) → first < step → with_step step (first ∷ steps) ≡ first ∷ with_step step steps
put_past step first steps behind = rw (le-ltb step first (omega (arith, behind)), ne_eqb step first (λ same. omega (arith, same, behind))) refl

-- the first is the lower one
lower_first : (one other : ℕ) (steps : List ℕ) → one < other → with_step one (with_step other steps) ≡ with_step other (with_step one steps)
lower_first one other [] lower = put_here one other [] lower ∙ sym (put_past other one [] lower)
lower_first one other (step ∷ steps) lower =
    elim (cases_order one step) [
      | inl one_there ↦
          ap (with_step one) (put_past other step steps (omega (arith, one_there, lower)))
          ∙ put_there one step (with_step other steps) one_there
          ∙ sym (ap (with_step other) (put_there one step steps one_there) ∙ put_past other step steps (omega (arith, one_there, lower)))
      | inr apart ↦
          elim apart [
            | inl one_here ↦
                elim (cases_order other step) [
                  | inl other_there ↦
                      ap (with_step one) (put_there other step steps other_there)
                      ∙ put_here one step steps one_here
                      ∙ sym (ap (with_step other) (put_here one step steps one_here) ∙ put_past other one (step ∷ steps) lower ∙ ap (λ rest. one ∷ rest) (put_there other step steps other_there))
                  | inr other_apart ↦
                      elim other_apart [
                        | inl other_here ↦
                            ap (with_step one) (put_here other step steps other_here)
                            ∙ put_here one other (step ∷ steps) lower
                            ∙ sym (ap (with_step other) (put_here one step steps one_here) ∙ put_past other one (step ∷ steps) lower ∙ ap (λ rest. one ∷ rest) (put_here other step steps other_here))
                        | inr other_past ↦
                            ap (with_step one) (put_past other step steps other_past)
                            ∙ put_here one step (with_step other steps) one_here
                            ∙ sym (ap (with_step other) (put_here one step steps one_here) ∙ put_past other one (step ∷ steps) lower ∙ ap (λ rest. one ∷ rest) (put_past other step steps other_past))
                      ]
                ]
            | inr one_past ↦
                ap (with_step one) (put_past other step steps (omega (arith, one_past, lower)))
                ∙ put_past one step (with_step other steps) one_past
                ∙ ap (λ rest. step ∷ rest) (lower_first one other steps lower)
                ∙ sym (ap (with_step other) (put_past one step steps one_past) ∙ put_past other step (with_step one steps) (omega (arith, one_past, lower)))
          ]
    ]

pub with_step-with_step : (one other : ℕ) (steps : List ℕ) → with_step one (with_step other steps) ≡ with_step other (with_step one steps)
with_step-with_step one other steps =
    elim (cases_order one other) [
      | inl same ↦ rw same refl
      | inr apart ↦
          elim apart [
            | inl lower ↦ lower_first one other steps lower
            | inr higher ↦ sym (lower_first other one steps higher)
          ]
    ]

-- a row at the end, and a row anywhere
pub used_steps-push : (rows : List Row) (row : Row) → used_steps (rows ++ row ∷ []) ≡ with_step row.step.0 (used_steps rows)
used_steps-push [] row = refl
used_steps-push (first ∷ rows) row =
    ap (with_step first.step.0) (used_steps-push rows row) ∙ with_step-with_step first.step.0 row.step.0 (used_steps rows)

pub used_steps-insert : (front back : List Row) (row : Row) → used_steps (front ++ row ∷ back) ≡ with_step row.step.0 (used_steps (front ++ back))
used_steps-insert [] back row = refl
used_steps-insert (first ∷ front) back row =
    ap (with_step first.step.0) (used_steps-insert front back row) ∙ with_step-with_step first.step.0 row.step.0 (used_steps (front ++ back))

-- the steps, taken in from the left
pub used_steps-fold : (done rows : List Row) → fold (λ steps (row : Row). with_step row.step.0 steps) (used_steps done) rows ≡ used_steps (done ++ rows)
used_steps-fold done [] = ap used_steps (sym (append-nil done))
used_steps-fold done (row ∷ rows) =
    ap (λ steps. fold (λ steps (r : Row). with_step r.step.0 steps) steps rows) (sym (used_steps-push done row))
    ∙ used_steps-fold (done ++ row ∷ []) rows
    ∙ ap used_steps (append_assoc done (row ∷ []) rows)
