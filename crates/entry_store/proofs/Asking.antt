-- What a caller finds out by asking a store for its rows.
use Rattle.std.proofs.Common.{◌≡◌, ℕ, ◌≤◌, Bool, true, false, not, ◌&&◌, List, [], ◌∷◌, ap, sym, ◌∙◌, fold, map, arith, inl, inr}
use Rattle.std.specs.Prelude.{max, nat_le}
use Rattle.std.specs.List.{list_any}
use Rattle.std.proofs.lemmas.Bool.{cases_Bool, or_cases, false≢true, not-true, and_parts, and_from, eqb-true, leb-true}
use Rattle.tab_ids.specs.declared.NavId.{NavId}
use Rattle.tab_ids.specs.declared.StateId.{StateId}
use Rattle.log_model.specs.declared.row.Row.{Row}
use Rattle.log_model.specs.History.{is_of, greatest_step}
use Rattle.log_model.specs.Order.{ordered}
use Rattle.log_model.specs.Soundness.{is_in_state}
use Rattle.history_laws.proofs.Members.{witness}
use Rattle.entry_store.specs.Store.{IsStateOf}
use Rattle.entry_store.proofs.InOrder.{ordered-any}

-- no listed row of another navigable has the document state
pub state_is_free : (rows listed : List Row) (nav : NavId) (state : StateId) → listed ≡ ordered rows → not (list_any (λ (row : Row). is_in_state state row && not (is_of nav row)) listed) ≡ true → IsStateOf nav state rows
state_is_free rows listed nav state are free other held =
    let bad : Row → Bool = λ row. is_in_state state row && not (is_of nav row) in
    let none : list_any bad rows ≡ false = sym (ap (list_any bad) are ∙ ordered-any bad rows) ∙ not-true (list_any bad listed) free in
    let w = witness (λ row. is_of other row && is_in_state state row) rows held in
    let both = and_parts (is_of other w.it) (is_in_state state w.it) w.passes in
    elim (cases_Bool (is_of nav w.it)) [
      | inl mine ↦ sym (eqb-true w.it.nav.0 other.0 both.0) ∙ eqb-true w.it.nav.0 nav.0 mine
      | inr others ↦ absurd (false≢true (sym none ∙ w.is_in bad (and_from _ _ both.1 (ap not others))))
    ]

-- a listed row stands at the goal or past it
most_from : (best : ℕ) (steps : List ℕ) → best ≤ fold max best steps
most_from best [] = omega arith
most_from best (step ∷ steps) = omega (arith, most_from (max best step) steps)

reached_from : (goal best : ℕ) (rows : List Row) → list_any (λ (row : Row). nat_le goal row.step.0) rows ≡ true → goal ≤ fold max best (map (λ (row : Row). row.step.0) rows)
reached_from goal best [] none = absurd (false≢true none)
reached_from goal best (row ∷ rows) any =
    elim (or_cases (nat_le goal row.step.0) (list_any (λ (r : Row). nat_le goal r.step.0) rows) any) [
      | inl here ↦ omega (arith, leb-true goal row.step.0 here, most_from (max best row.step.0) (map (λ (r : Row). r.step.0) rows))
      | inr there ↦ reached_from goal (max best row.step.0) rows there
    ]

pub goal_is_reached : (rows listed : List Row) (goal : ℕ) → listed ≡ ordered rows → list_any (λ (row : Row). nat_le goal row.step.0) listed ≡ true → goal ≤ greatest_step rows
goal_is_reached rows listed goal are any =
    reached_from goal 0 rows (sym (ap (list_any (λ (row : Row). nat_le goal row.step.0)) are ∙ ordered-any (λ (row : Row). nat_le goal row.step.0) rows) ∙ any)
