-- The greatest used step: the last of the used steps, before which all others stand.
use Rattle.std.proofs.Common.{◌≡◌, ℕ, suc, ◌+◌, ◌-◌, ◌<◌, ◌≤◌, Bool, true, false, ◌||◌, List, [], ◌∷◌, length, refl, ap, sym, ◌∙◌, filter, fold, map, subst, arith, inl, inr, Some}
use Rattle.std.specs.Prelude.{max, nat_lt, nat_le, slice_get}
use Rattle.std.specs.List.{list_any}
use Rattle.std.proofs.Math.Bool.{or-false, or_assoc, or_comm, or_self}
use Rattle.std.proofs.lemmas.Bool.{cases_Bool, cases_order, false≢true, lt-ltb, le-ltb, ltb-true, ltb-false, le-leb, eq-eqb, ne_eqb, or_parts}
use Rattle.tab_ids.specs.declared.NavId.{NavId}
use Rattle.log_model.specs.declared.row.Row.{Row}
use Rattle.log_model.specs.History.{History, with_step, used_steps, used_step_at, greatest_step, history_index}
use Rattle.log_model.specs.Soundness.{stands_at}
use Rattle.history_laws.proofs.Members.{list_any-weaker, some_same}
use Rattle.entry_store.specs.Kept.{IsKept}
use Rattle.entry_store.proofs.StepBounds.{Ascends, used_steps-ascend}

-- ---- the used steps, seen by the tests that they pass

or_moves : (a b c : Bool) → (a || (b || c)) ≡ (b || (a || c))
or_moves a b c = sym (or_assoc a b c) ∙ ap (λ x. x || c) (or_comm a b) ∙ or_assoc b a c

with_step-any : (test : ℕ → Bool) (step : ℕ) (steps : List ℕ) → list_any test (with_step step steps) ≡ (test step || list_any test steps)
with_step-any test step [] = refl
with_step-any test step (first ∷ steps) =
    elim (cases_order step first) [
      | inl same ↦ rw (le-ltb step first (omega (arith, same)), eq-eqb step first same) (ap (λ b. b || list_any test steps) (sym (or_self (test first))) ∙ or_assoc (test first) (test first) (list_any test steps) ∙ ap (λ n. test n || (test first || list_any test steps)) (sym same))
      | inr apart ↦
          elim apart [
            | inl lower ↦ rw (lt-ltb step first lower) refl
            | inr higher ↦
                rw (le-ltb step first (omega (arith, higher)), ne_eqb step first (λ same. omega (arith, same, higher)))
                (ap (λ b. test first || b) (with_step-any test step steps) ∙ or_moves (test first) (test step) (list_any test steps))
          ]
    ]

pub used_steps-any : (test : ℕ → Bool) (rows : List Row) → list_any test (used_steps rows) ≡ list_any (λ (row : Row). test row.step.0) rows
used_steps-any test [] = refl
used_steps-any test (row ∷ rows) =
    with_step-any test row.step.0 (used_steps rows) ∙ ap (λ b. test row.step.0 || b) (used_steps-any test rows)

-- ---- the greatest step

max-beyond : (beyond a b : ℕ) → nat_lt beyond (max a b) ≡ (nat_lt beyond a || nat_lt beyond b)
max-beyond beyond a b =
    elim (cases_Bool (nat_lt beyond a)) [
      | inl above ↦ rw above (lt-ltb beyond (max a b) (omega (arith, ltb-true beyond a above)))
      | inr isnt ↦
          rw isnt (
          elim (cases_Bool (nat_lt beyond b)) [
            | inl above ↦ rw above (lt-ltb beyond (max a b) (omega (arith, ltb-true beyond b above)))
            | inr isnt_either ↦ rw isnt_either (le-ltb beyond (max a b) (omega (arith, ltb-false beyond a isnt, ltb-false beyond b isnt_either)))
          ]
          )
    ]

max_of-beyond : (beyond best : ℕ) (rows : List Row) → nat_lt beyond (fold max best (map (λ (row : Row). row.step.0) rows)) ≡ (nat_lt beyond best || list_any (λ (row : Row). nat_lt beyond row.step.0) rows)
max_of-beyond beyond best [] = sym (or-false (nat_lt beyond best))
max_of-beyond beyond best (row ∷ rows) =
    max_of-beyond beyond (max best row.step.0) rows
    ∙ ap (λ b. b || list_any (λ (r : Row). nat_lt beyond r.step.0) rows) (max-beyond beyond best row.step.0)
    ∙ or_assoc (nat_lt beyond best) (nat_lt beyond row.step.0) (list_any (λ (r : Row). nat_lt beyond r.step.0) rows)

-- it lies beyond a number where a row does
pub greatest_step-beyond : (beyond : ℕ) (rows : List Row) → nat_lt beyond (greatest_step rows) ≡ list_any (λ (row : Row). nat_lt beyond row.step.0) rows
greatest_step-beyond beyond rows =
    max_of-beyond beyond 0 rows ∙ ap (λ b. b || list_any (λ (row : Row). nat_lt beyond row.step.0) rows) (le-ltb beyond 0 (omega arith))

pub none_beyond : (step : ℕ) (rows : List Row) → greatest_step rows ≤ step → list_any (λ (row : Row). nat_lt step row.step.0) rows ≡ false
none_beyond step rows last = sym (greatest_step-beyond step rows) ∙ le-ltb step (greatest_step rows) last

steps-upto : (step : ℕ) (rows : List Row) → list_any (λ (row : Row). nat_lt step row.step.0) rows ≡ false → filter (λ used. nat_le used step) (map (λ (row : Row). row.step.0) rows) ≡ map (λ (row : Row). row.step.0) rows
steps-upto step [] none = refl
steps-upto step (row ∷ rows) none =
    let both = or_parts (nat_lt step row.step.0) (list_any (λ (r : Row). nat_lt step r.step.0) rows) none in
    rw (le-leb row.step.0 step (ltb-false step row.step.0 both.0)) (ap (λ rest. row.step.0 ∷ rest) (steps-upto step rows both.1))

-- from it on, it is the used step
pub used_step_at-last : (rows : List Row) (step : ℕ) → greatest_step rows ≤ step → used_step_at rows step ≡ greatest_step rows
used_step_at-last rows step last = ap (fold max 0) (steps-upto step rows (none_beyond step rows last))

-- numbers that lie beyond the same ones are the same
same_beyond : (a b : ℕ) → ((beyond : ℕ) → nat_lt beyond a ≡ nat_lt beyond b) → a ≡ b
same_beyond a b same =
    omega (arith, ltb-false a b (sym (same a) ∙ le-ltb a a (omega arith)), ltb-false b a (same b ∙ le-ltb b b (omega arith)))

-- ---- the last of the used steps

-- the last of a step and of those after it
abbrev pub last_of : ℕ → List ℕ → ℕ
last_of step [] = step
last_of step (next ∷ steps) = last_of next steps

get-last : (step : ℕ) (steps : List ℕ) → slice_get (step ∷ steps) (length steps) ≡ Some (last_of step steps)
get-last step [] = refl
get-last step (next ∷ steps) = get-last next steps

first_to_last : (low high step : ℕ) (steps : List ℕ) → Ascends low high (step ∷ steps) → step ≤ last_of step steps
first_to_last low high step [] within = omega arith
first_to_last low high step (next ∷ steps) within = omega (arith, within.2.0, first_to_last (suc step) high next steps within.2)

any-beyond : (low high beyond step : ℕ) (steps : List ℕ) → Ascends low high (step ∷ steps) → list_any (λ used. nat_lt beyond used) (step ∷ steps) ≡ nat_lt beyond (last_of step steps)
any-beyond low high beyond step [] within = or-false (nat_lt beyond step)
any-beyond low high beyond step (next ∷ steps) within =
    ap (λ b. nat_lt beyond step || b) (any-beyond (suc step) high beyond next steps within.2)
    ∙ elim (cases_Bool (nat_lt beyond step)) [
      | inl here ↦ rw here (sym (lt-ltb beyond (last_of next steps) (omega (arith, ltb-true beyond step here, within.2.0, first_to_last (suc step) high next steps within.2))))
      | inr isnt ↦ rw isnt refl
    ]

all_before : (low high step : ℕ) (steps : List ℕ) → Ascends low high (step ∷ steps) → length (filter (λ used. nat_lt used (last_of step steps)) (step ∷ steps)) ≡ length steps
all_before low high step [] within = rw (le-ltb step step (omega arith)) refl
all_before low high step (next ∷ steps) within =
    rw (lt-ltb step (last_of next steps) (omega (arith, within.2.0, first_to_last (suc step) high next steps within.2)))
    (ap (λ n. suc n) (all_before (suc step) high next steps within.2))

-- the used steps end with the greatest
record HasLast (used : List ℕ) (rows : List Row) : Type 0 where
  pub first : ℕ
  pub rest : List ℕ
  pub are : used ≡ first ∷ rest
  pub ascend : Ascends 0 4294967295 (first ∷ rest)
  pub last : greatest_step rows ≡ last_of first rest

last_used : (history : History) (used : List ℕ) → IsKept history used → HasLast used history.rows
last_used history [] kept =
    let top : NavId = record { 0 = 0 } in
    absurd (false≢true (ap (list_any (λ _. true)) kept.used ∙ used_steps-any (λ _. true) history.rows ∙ list_any-weaker (stands_at top 0) (λ _. true) history.rows (λ row there passes. refl) (kept.sound.top_row top refl)))
last_used history (first ∷ rest) kept =
    let ascend : Ascends 0 4294967295 (first ∷ rest) = subst (Ascends 0 4294967295) (sym kept.used) (used_steps-ascend 4294967295 history.rows kept.below) in
    record {
      first = first;
      rest = rest;
      are = refl;
      ascend = ascend;
      last = same_beyond (greatest_step history.rows) (last_of first rest) (λ beyond.
          greatest_step-beyond beyond history.rows ∙ sym (used_steps-any (λ used. nat_lt beyond used) history.rows)
          ∙ ap (list_any (λ used. nat_lt beyond used)) (sym kept.used)
          ∙ any-beyond 0 4294967295 beyond first rest ascend);
    }

module _ (history : History) (used : List ℕ) (kept : IsKept history used) where
  w : HasLast used history.rows
  w = last_used history used kept

  pub some_used : 0 < length used
  some_used = omega (arith, ap (length {A = ℕ}) w.are)

  pub last_is_greatest : (last : ℕ) → slice_get used (length used - 1) ≡ Some last → last ≡ greatest_step history.rows
  last_is_greatest last is =
      let e : length (w.first ∷ w.rest) - 1 ≡ length w.rest = omega arith in
      some_same last (last_of w.first w.rest)
      (sym is ∙ ap (λ (steps : List ℕ). slice_get steps (length steps - 1)) w.are ∙ ap (slice_get (w.first ∷ w.rest)) e ∙ get-last w.first w.rest)
      ∙ sym w.last

  -- from the greatest used step on, all others stand before the used step
  pub history_index-last : (step : ℕ) → greatest_step history.rows ≤ step → history_index history.rows step + 1 ≡ length used
  history_index-last step last =
      let index : history_index history.rows step ≡ length w.rest =
      ap (λ top. length (filter (λ used. nat_lt used top) (used_steps history.rows))) (used_step_at-last history.rows step last ∙ w.last)
      ∙ ap (λ (steps : List ℕ). length (filter (λ used. nat_lt used (last_of w.first w.rest)) steps)) (sym kept.used ∙ w.are)
      ∙ all_before 0 4294967295 w.first w.rest w.ascend in
      omega (arith, index, ap (length {A = ℕ}) w.are)
