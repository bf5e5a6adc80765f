-- Targets at a step and at the used step there, and who is shown where targets are the same.
use Rattle.std.proofs.Common.{◌≡◌, inl, inr, ℕ, zero, suc, max, ◌≤◌, Bool, true, false, cond, ◌&&◌, ◌||◌, ◌==◌, List, [], ◌∷◌, ◌++◌, map, fold, length, Option, Some, None, refl, sym, ap, ◌∙◌, arith, append-nil}
use Rattle.std.specs.Prelude.{filter, if◌then◌else◌, nat_le, option_and_then}
use Rattle.std.proofs.lemmas.Bool.{and_parts, le-leb, leb-true}
use Rattle.std.proofs.lemmas.Bool.Decides.{nat_tests}
use Rattle.std.proofs.lemmas.List.Elements.{filter-append}
use Rattle.tab_ids.specs.declared.NavId.{NavId}
use Rattle.tab_ids.specs.declared.StateId.{StateId}
use Rattle.log_model.specs.declared.row.Row.{Row}
use Rattle.log_model.specs.Equal.{holds}
use Rattle.log_model.specs.History.{History, has_row, is_of, later_row, owner_of, target_entry, tidied, used_step_at}
use Rattle.log_model.specs.Places.{holder_of, is_shown, is_shown_within, targets_state, way_up}
use Rattle.log_model.specs.Soundness.{IsSound}
use Rattle.seen_facts.specs.Hang.Forms.{Form}
use Rattle.seen_facts.specs.Hang.Hanging.{HangIn}
use Rattle.seen_facts.specs.Hang.Members.{Has}
use Rattle.tab_facts.proofs.FrameTab.Aims.{filter_in, latest, part_of, target_own}
use Rattle.leave_facts.proofs.Stays.{stays_in}

-- ---- lists

-- tests that say the same of each item keep the same items
filter_alike : {A : Type 0} (p q : A → Bool) (xs : List A) → ((x : A) → Has xs x → p x ≡ q x) → filter p xs ≡ filter q xs
filter_alike p q [] same = refl
filter_alike {A} p q (x ∷ xs) same = by_test (p x) (q x) (same x (inl refl)) (filter_alike p q xs (λ y there. same y (inr there)))
  where
    by_test : (a b : Bool) → a ≡ b → filter p xs ≡ filter q xs → (let l : List A = cond a (x ∷ filter p xs) (filter p xs) in l) ≡ cond b (x ∷ filter q xs) (filter q xs)
    by_test true true e rest = ap (λ (l : List A). x ∷ l) rest
    by_test true false e rest = absurd cc
    by_test false true e rest = absurd cc
    by_test false false e rest = rest

-- ---- the used step at a step

from_best : (best : ℕ) (steps : List ℕ) → best ≤ fold max best steps
from_best best [] = omega arith
from_best best (first ∷ steps) = omega (arith, from_best (max best first) steps)

used_low : (step best : ℕ) (rows : List Row) → best ≤ step → fold max best (filter (λ used. nat_le used step) (map (λ (row : Row). row.step.0) rows)) ≤ step
used_low step best [] low = low
used_low step best (row ∷ rows) low = by_test (nat_le row.step.0 step) refl (λ n less. used_low step n rows less)
  where
    by_test : (b : Bool) → nat_le row.step.0 step ≡ b → ((n : ℕ) → n ≤ step → fold max n (filter (λ used. nat_le used step) (map (λ (r : Row). r.step.0) rows)) ≤ step) → fold max best (cond b (row.step.0 ∷ filter (λ used. nat_le used step) (map (λ (r : Row). r.step.0) rows)) (filter (λ used. nat_le used step) (map (λ (r : Row). r.step.0) rows))) ≤ step
    by_test true e rest = rest (max best row.step.0) (omega (arith, low, leb-true row.step.0 step e))
    by_test false e rest = rest best low

used_reach : (step best : ℕ) (rows : List Row) (row : Row) → Has rows row → row.step.0 ≤ step → row.step.0 ≤ fold max best (filter (λ used. nat_le used step) (map (λ (r : Row). r.step.0) rows))
used_reach step best [] row there low = absurd there
used_reach step best (first ∷ rows) row there low = by_test (nat_le first.step.0 step) refl there (λ n more. used_reach step n rows row more low)
  where
    by_test : (b : Bool) → nat_le first.step.0 step ≡ b → Has (first ∷ rows) row → ((n : ℕ) → Has rows row → row.step.0 ≤ fold max n (filter (λ used. nat_le used step) (map (λ (r : Row). r.step.0) rows))) → row.step.0 ≤ fold max best (cond b (first.step.0 ∷ filter (λ used. nat_le used step) (map (λ (r : Row). r.step.0) rows)) (filter (λ used. nat_le used step) (map (λ (r : Row). r.step.0) rows)))
    by_test true e (inl same) rest =
        let reach : max best first.step.0 ≤ fold max (max best first.step.0) (filter (λ used. nat_le used step) (map (λ (r : Row). r.step.0) rows)) = from_best (max best first.step.0) (filter (λ used. nat_le used step) (map (λ (r : Row). r.step.0) rows)) in
        let steps : first.step.0 ≡ row.step.0 = ap (λ (r : Row). r.step.0) same in
        omega (arith, reach, steps)
    by_test true e (inr more) rest = rest (max best first.step.0) more
    by_test false e (inl same) rest =
        let in_ : nat_le row.step.0 step ≡ true = le-leb row.step.0 step low in
        let never : true ≡ false = sym in_ ∙ (ap (λ (r : Row). nat_le r.step.0 step) (sym same) ∙ e) in
        absurd cc
    by_test false e (inr more) rest = rest best more

-- up to the used step at a step stand the rows that stand up to the step
up_to_used : (rows : List Row) (step : ℕ) (row : Row) → Has rows row → nat_le row.step.0 (used_step_at rows step) ≡ nat_le row.step.0 step
up_to_used rows step row there = by_test (nat_le row.step.0 step) refl
  where
    by_test : (b : Bool) → nat_le row.step.0 step ≡ b → nat_le row.step.0 (used_step_at rows step) ≡ b
    by_test true e = le-leb row.step.0 (used_step_at rows step) (used_reach step 0 rows row there (leb-true row.step.0 step e))
    by_test false e =
        let low : used_step_at rows step ≤ step = used_low step 0 rows (omega arith) in
        grind (arith, nat_tests, low, e)

-- so a navigable has the same target at both
pub target_used : (rows : List Row) (nav : NavId) (step : ℕ) → target_entry rows nav (used_step_at rows step) ≡ target_entry rows nav step
target_used rows nav step =
    ap (λ (l : List Row). fold later_row None l)
    (filter_alike (λ (row : Row). is_of nav row && nat_le row.step.0 (used_step_at rows step)) (λ (row : Row). is_of nav row && nat_le row.step.0 step) rows (λ row there. ap (λ (b : Bool). is_of nav row && b) (up_to_used rows step row there)))

-- ---- who is shown at two steps

module _ (rows : List Row) (one other : ℕ) (same : (nav : NavId) → target_entry rows nav one ≡ target_entry rows nav other) where
  way_alike : (nav : NavId) → way_up rows one nav ≡ way_up rows other nav
  way_alike nav = by_owner (owner_of nav rows)
    where
      by_holder : (owner : StateId) (o : Option NavId) → option_and_then (λ (parent : NavId). if targets_state rows one parent owner then Some parent else None) o ≡ option_and_then (λ (parent : NavId). if targets_state rows other parent owner then Some parent else None) o
      by_holder owner None = refl
      by_holder owner (Some parent) =
          ap (λ (r : Option Row). let o : Option NavId = if holds (λ (row : Row). row.state.0 == owner.0) r then Some parent else None in o) (same parent)

      by_owner : (o : Option StateId) → option_and_then (λ (owner : StateId). option_and_then (λ (parent : NavId). if targets_state rows one parent owner then Some parent else None) (holder_of owner rows)) o ≡ option_and_then (λ (owner : StateId). option_and_then (λ (parent : NavId). if targets_state rows other parent owner then Some parent else None) (holder_of owner rows)) o
      by_owner None = refl
      by_owner (Some owner) = by_holder owner (holder_of owner rows)

  within_alike : (n : ℕ) (o : Option NavId) → is_shown_within n rows one o ≡ is_shown_within n rows other o
  within_alike zero None = refl
  within_alike zero (Some nav) = refl
  within_alike (suc n) None = refl
  within_alike (suc n) (Some nav) =
      ap (λ (b : Bool). (nav.0 == 0) || b) (within_alike n (way_up rows one nav) ∙ ap (λ (o : Option NavId). is_shown_within n rows other o) (way_alike nav))

  -- where each navigable has the same target at two steps, the same ones stay there
  pub stays_alike : (nav : NavId) (state : StateId) → stays_in rows one nav state ≡ stays_in rows other nav state
  stays_alike nav state =
      ap (λ (b : Bool). b && targets_state rows one nav state) (within_alike (length rows) (Some nav))
      ∙ ap (λ (o : Option Row). is_shown rows other nav && holds (λ (row : Row). row.state.0 == state.0) o) (same nav)

-- from the last step on a navigable has the same target
pub target_past : (rows : List Row) (nav : NavId) (last step : ℕ) → ((row : Row) → Has rows row → row.step.0 ≤ last) → last ≤ step → target_entry rows nav step ≡ target_entry rows nav last
target_past rows nav last step low past =
    ap (λ (l : List Row). fold later_row None l)
    (filter_alike (λ (row : Row). is_of nav row && nat_le row.step.0 step) (λ (row : Row). is_of nav row && nat_le row.step.0 last) rows (λ row there. ap (λ (b : Bool). is_of nav row && b) (le-leb row.step.0 step (omega (arith, low row there, past)) ∙ sym (le-leb row.step.0 last (low row there)))))

-- who stays at a step stays at the used step there
pub stays_used : (rows : List Row) (step : ℕ) (nav : NavId) (state : StateId) → stays_in rows (used_step_at rows step) nav state ≡ stays_in rows step nav state
stays_used rows step nav state =
    stays_alike rows (used_step_at rows step) step (λ x. target_used rows x step) nav state

-- ---- rows that are added, or taken away

abbrev is_up_to : NavId → ℕ → Row → Bool
is_up_to nav step row = is_of nav row && nat_le row.step.0 step

-- a row more that isn't the navigable's, or is of a later step
pub target_more : (rows : List Row) (new : Row) (nav : NavId) (step : ℕ) → (is_of nav new && nat_le new.step.0 step) ≡ false → target_entry (rows ++ new ∷ []) nav step ≡ target_entry rows nav step
target_more rows new nav step none =
    ap (λ (l : List Row). fold later_row None l) (filter-append (is_up_to nav step) rows (new ∷ []) ∙ (ap (λ (b : Bool). filter (is_up_to nav step) rows ++ (let l : List Row = cond b (new ∷ []) [] in l)) none ∙ append-nil (filter (is_up_to nav step) rows)))

-- the rows that pass a test, tidied, where those of the navigable up to the step pass
pub target_part : (forms : List Form) (history : History) → IsSound history → HangIn history.rows forms → (p : Row → Bool) (nav : NavId) (step : ℕ) → has_row nav (tidied (filter p history.rows)) ≡ true → ((row : Row) → Has history.rows row → is_of nav row ≡ true → row.step.0 ≤ step → p row ≡ true) → target_entry (tidied (filter p history.rows)) nav step ≡ target_entry history.rows nav step
target_part forms history sound hang p nav step has passes =
    target_own (tidied (filter p history.rows)) nav step
    ∙ ap (λ (l : List Row). latest l step) (part_of history.rows forms history refl sound hang p nav has)
    ∙ sym (target_own (filter p history.rows) nav step)
    ∙ ap (λ (l : List Row). fold later_row None l) (filter_in (is_up_to nav step) p history.rows (λ row there is. (let parts = and_parts (is_of nav row) (nat_le row.step.0 step) is in passes row there parts.0 (leb-true row.step.0 step parts.1))))
