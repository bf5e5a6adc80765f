-- How many used steps there can be: none stands at the last step that there is.
use Rattle.std.proofs.Common.{◌≡◌, ℕ, suc, ◌+◌, ◌<◌, ◌≤◌, Bool, true, false, List, [], ◌∷◌, length, filter, ap, arith, inl, inr, cond}
use Rattle.std.specs.Prelude.{nat_le}
use Rattle.std.specs.List.{list_any}
use Rattle.std.proofs.lemmas.Bool.{cases_order, lt-ltb, le-ltb, eq-eqb, ne_eqb, or_parts, leb-false}
use Rattle.log_model.specs.declared.row.Row.{Row}
use Rattle.log_model.specs.History.{History, with_step, used_steps}
use Rattle.entry_store.specs.Kept.{IsKept}

-- the steps ascend from one number on, below another
abbrev pub Ascends : ℕ → ℕ → List ℕ → Type 0
Ascends low high [] = low ≤ high
Ascends low high (step ∷ steps) = (low ≤ step) × (step < high) × Ascends (suc step) high steps

pub Ascends-length : (low high : ℕ) (steps : List ℕ) → Ascends low high steps → low + length steps ≤ high
Ascends-length low high [] within = omega (arith, within)
Ascends-length low high (step ∷ steps) within = omega (arith, within.0, Ascends-length (suc step) high steps within.2)

with_step-ascends : (low high step : ℕ) (steps : List ℕ) → low ≤ step → step < high → Ascends low high steps → Ascends low high (with_step step steps)
with_step-ascends low high step [] above below within = (above, below, omega (arith, below))
with_step-ascends low high step (first ∷ steps) above below within =
    elim (cases_order step first) [
      | inl same ↦ rw (le-ltb step first (omega (arith, same)), eq-eqb step first same) within
      | inr apart ↦
          elim apart [
            | inl lower ↦ rw (lt-ltb step first lower) (above, below, (omega (arith, lower), within.1, within.2))
            | inr higher ↦
                rw (le-ltb step first (omega (arith, higher)), ne_eqb step first (λ same. omega (arith, same, higher))) (within.0, within.1, with_step-ascends (suc first) high step steps (omega (arith, higher)) below within.2)
          ]
    ]

pub used_steps-ascend : (high : ℕ) (rows : List Row) → list_any (λ (row : Row). nat_le high row.step.0) rows ≡ false → Ascends 0 high (used_steps rows)
used_steps-ascend high [] none = omega arith
used_steps-ascend high (row ∷ rows) none =
    let both = or_parts (nat_le high row.step.0) (list_any (λ (r : Row). nat_le high r.step.0) rows) none in
    with_step-ascends 0 high row.step.0 (used_steps rows) (omega arith) (leb-false high row.step.0 both.0) (used_steps-ascend high rows both.1)

pub few_used : (high : ℕ) (rows : List Row) → list_any (λ (row : Row). nat_le high row.step.0) rows ≡ false → length (used_steps rows) ≤ high
few_used high rows none = omega (arith, Ascends-length 0 high (used_steps rows) (used_steps-ascend high rows none))

pub filter-fewer : {A : Type 0} (p : A → Bool) (xs : List A) → length (filter p xs) ≤ length xs
filter-fewer p [] = omega arith
filter-fewer p (x ∷ xs) =
    elim (p x) as (λ b. length (cond b (x ∷ filter p xs) (filter p xs)) ≤ suc (length xs)) [
      | true ↦ omega (arith, filter-fewer p xs)
      | false ↦ omega (arith, filter-fewer p xs)
    ]

pub used_fits : (history : History) (used : List ℕ) → IsKept history used → length used < 4294967296
used_fits history used kept = omega (arith, few_used 4294967295 history.rows kept.below, ap (length {A = ℕ}) kept.used)

pub index_fits : (history : History) (used : List ℕ) (p : ℕ → Bool) → IsKept history used → length (filter p used) < 4294967296
index_fits history used p kept = omega (arith, filter-fewer p used, used_fits history used kept)
