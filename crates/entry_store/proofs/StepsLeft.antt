-- The used steps of the rows that stay.
use Rattle.std.proofs.Common.{◌≡◌, ℕ, List, [], ◌∷◌, refl, ap, ◌∙◌, filter, fold, arith, inl, inr}
use Rattle.std.specs.Ordering.{nat_cmp}
use Rattle.std.specs.declared.cmp.Ordering.TheVariants.{Less, Equal, Greater}
use Rattle.std.specs.Cmp.{nat_cmp_is}
use Rattle.std.specs.BTreeSet.{insert_key}
use Rattle.std.proofs.lemmas.Bool.{cases_Bool, cases_order, lt-ltb, le-ltb, eq-eqb, ne_eqb}
use Rattle.tab_ids.specs.declared.StateId.{StateId}
use Rattle.log_model.specs.declared.row.Row.{Row}
use Rattle.log_model.specs.History.{with_step, used_steps}
use Rattle.history_laws.proofs.UsedSteps.{used_steps-fold}
use Rattle.entry_store.specs.declared.cut.Cut.{Cut}
use Rattle.entry_store.specs.Nested.{stays, with_step_of}

-- a set of numbers takes one in as the used steps do
pub insert_key-with_step : (steps : List ℕ) (step : ℕ) → insert_key nat_cmp steps step ≡ with_step step steps
insert_key-with_step [] step = refl
insert_key-with_step (first ∷ steps) step =
    elim (cases_order step first) [
      | inl same ↦ rw (← nat_cmp_is step first Equal same, le-ltb step first (omega (arith, same)), eq-eqb step first same) refl
      | inr apart ↦
          elim apart [
            | inl lower ↦ rw (← nat_cmp_is step first Less lower, lt-ltb step first lower) refl
            | inr higher ↦
                rw (← nat_cmp_is step first Greater higher, le-ltb step first (omega (arith, higher)), ne_eqb step first (λ same. omega (arith, same, higher))) (ap (λ rest. first ∷ rest) (insert_key-with_step steps step))
          ]
    ]

pub ruleset one_step = (insert_key-with_step)

-- rows that go are passed over
pub fold-stays : (cut : Cut) (states : List StateId) (steps : List ℕ) (rows : List Row) → fold (with_step_of cut states) steps rows ≡ fold (λ steps (row : Row). with_step row.step.0 steps) steps (filter (stays cut states) rows)
fold-stays cut states steps [] = refl
fold-stays cut states steps (row ∷ rows) =
    elim (cases_Bool (stays cut states row)) [
      | inl it_stays ↦ rw it_stays (fold-stays cut states (with_step row.step.0 steps) rows)
      | inr goes ↦ rw goes (fold-stays cut states steps rows)
    ]

pub steps_left_are : (cut : Cut) (states : List StateId) (rows : List Row) → fold (with_step_of cut states) [] rows ≡ used_steps (filter (stays cut states) rows)
steps_left_are cut states rows = fold-stays cut states [] rows ∙ used_steps-fold [] (filter (stays cut states) rows)
