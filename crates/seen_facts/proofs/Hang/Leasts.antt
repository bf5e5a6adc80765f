-- The least step of the rows with a document state is at most that of each of them.
use Rattle.std.proofs.Common.{◌≡◌, ◌⊎◌, inl, inr, ℕ, ◌≤◌, Bool, true, false, cond, List, [], ◌∷◌, map, refl, sym, ap, ◌∙◌, subst, arith, fold, min, ◌==◌}
use Rattle.std.specs.Prelude.{filter}
use Rattle.tab_ids.specs.declared.StateId.{StateId}
use Rattle.log_model.specs.declared.row.Row.{Row}
use Rattle.log_model.specs.History.{first_step}
use Rattle.seen_facts.specs.Hang.Members.{Has}

least_first : (best : ℕ) (steps : List ℕ) → fold min best steps ≤ best
least_first best [] = omega arith
least_first best (step ∷ steps) = let rest : fold min (min best step) steps ≤ min best step = least_first (min best step) steps in omega (arith, rest)

least_other : (best : ℕ) (steps : List ℕ) (step : ℕ) → Has steps step → fold min best steps ≤ step
least_other best [] step h = absurd h
least_other best (first ∷ steps) step (inl same) =
    let rest : fold min (min best first) steps ≤ min best first = least_first (min best first) steps in omega (arith, rest, same)
least_other best (first ∷ steps) step (inr more) = least_other (min best first) steps step more

module _ (state : StateId) where
  abbrev steps_of : List Row → List ℕ
  steps_of rows = map (λ (row : Row). row.step.0) (filter (λ (row : Row). row.state.0 == state.0) rows)

  step_in : (rows : List Row) (row : Row) → Has rows row → (row.state.0 == state.0) ≡ true → Has (steps_of rows) row.step.0
  step_in [] row h is = absurd h
  step_in (first ∷ rows) row (inl same) is = rw (subst (λ (r : Row). (r.state.0 == state.0) ≡ true) (sym same) is) (inl (ap (λ (r : Row). r.step.0) same))
  step_in (first ∷ rows) row (inr more) is = by_test (first.state.0 == state.0) (step_in rows row more is)
    where
      by_test : (b : Bool) → Has (steps_of rows) row.step.0 → Has (map (λ (r : Row). r.step.0) (cond b (first ∷ filter (λ (r : Row). r.state.0 == state.0) rows) (filter (λ (r : Row). r.state.0 == state.0) rows))) row.step.0
      by_test true rest = inr rest
      by_test false rest = rest

  pub first_least : (rows : List Row) (row : Row) → Has rows row → (row.state.0 == state.0) ≡ true → first_step state rows ≤ row.step.0
  first_least [] row h is = absurd h
  first_least (first ∷ rows) row h is = by_test (first.state.0 == state.0) refl (λ more. first_least rows row more is) h
    where
      here : (first.state.0 == state.0) ≡ true → first_step state (first ∷ rows) ≡ fold min first.step.0 (steps_of rows)
      here e = rw e refl

      past : (first.state.0 == state.0) ≡ false → first_step state (first ∷ rows) ≡ first_step state rows
      past e = rw e refl

      by_test : (b : Bool) → (first.state.0 == state.0) ≡ b → (Has rows row → first_step state rows ≤ row.step.0) → (first ≡ row) ⊎ Has rows row → first_step state (first ∷ rows) ≤ row.step.0
      by_test true e rest (inl same) =
          let least : fold min first.step.0 (steps_of rows) ≤ first.step.0 = least_first first.step.0 (steps_of rows) in
          omega (arith, least, here e, ap (λ (r : Row). r.step.0) same)
      by_test true e rest (inr more) =
          let least : fold min first.step.0 (steps_of rows) ≤ row.step.0 = least_other first.step.0 (steps_of rows) row.step.0 (step_in rows row more is) in
          omega (arith, least, here e)
      by_test false e rest (inl same) =
          let no_ : true ≡ false = sym (subst (λ (r : Row). (r.state.0 == state.0) ≡ true) (sym same) is) ∙ e in cc
      by_test false e rest (inr more) = omega (arith, rest more, past e)
