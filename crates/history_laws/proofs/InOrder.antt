-- A history put in order by navigable and step: it is the same history, its readers answer the same, the same changes fit it, and each keeps it the same.
use Rattle.std.proofs.Common.{◌≡◌, ◌≢◌, ◌<◌, ℕ, ◌≤◌, Bool, true, false, not, ◌&&◌, ◌||◌, cond, List, [], ◌∷◌, length, refl, ap, sym, ◌∙◌, arith, inl, inr, filter, fold, find, Option, Some, None}
use Rattle.std.specs.Prelude.{◌==◌, max, nat_le, nat_lt}
use Rattle.std.specs.List.{list_any, count_by}
use Rattle.std.proofs.lemmas.Bool.{cases_Bool, cases_order, and_parts, eqb-true, false≢true, lt-ltb, le-ltb}
use Rattle.std.proofs.lemmas.Bool.Decides.{nat_tests}
use Rattle.std.proofs.lemmas.List.Sums.{sum_by-cons}
use Rattle.std.proofs.lemmas.List.Folds.{fold-map}
use Rattle.tab_ids.specs.declared.NavId.{NavId}
use Rattle.tab_ids.specs.declared.StateId.{StateId}
use Rattle.tab_ids.specs.declared.EntryId.{EntryId}
use Rattle.tab_ids.specs.declared.Step.{Step}
use Rattle.log_model.specs.declared.row.Row.{Row}
use Rattle.log_model.specs.declared.change.Change.{Change}
use Rattle.log_model.specs.declared.change.Change.TheVariants.{Push, Replace, AddFrame, RemoveFrame, Traverse, Reload, Edit}
use Rattle.log_model.specs.History.{History, Fits, fits, applied, pushed, cleared, same_entry, has_nav, has_row, is_of, row_of, with_step, used_steps, used_step_at, greatest_step, history_length, history_index, later_row, target_entry}
use Rattle.log_model.specs.Order.{is_before, with_row, ordered, SameHistory}
use Rattle.log_model.specs.Soundness.{is_entry, is_in_state, stands_at, IsRooted, IsSound, holds, hangs_on}
use Rattle.history_laws.proofs.Members.{IsIn-head, none_passes}
use Rattle.history_laws.proofs.Ordered.{AreApart, put_here, put_past}
use Rattle.history_laws.proofs.UsedSteps.{with_step-with_step, used_steps-fold}
use Rattle.history_laws.proofs.Replace.{list_any-zero}
use Rattle.history_laws.proofs.Sorted.{IsSorted, HaveSteps, HaveSteps-tail, apart_first, ordered-any, ordered-sorted, fold-ordered}
use Rattle.history_laws.proofs.Same.{any-same}
use Rattle.history_laws.proofs.SameAfter.{used_upto, used_by_row, used_turns, cleared-same, pushed-same, Replace-same, AddFrame-same, RemoveFrame-same, Traverse-same}

-- ---- the rows

count_by-with_row : (test : Row → Bool) (row : Row) (rows : List Row) → count_by test (with_row row rows) ≡ count_by test (row ∷ rows)
count_by-with_row test row [] = refl
count_by-with_row test row (first ∷ rows) =
    elim (cases_Bool (is_before row first)) [
      | inl before ↦ ap (count_by test) (put_here row first rows before)
      | inr behind ↦
          ap (count_by test) (put_past row first rows behind)
          ∙ omega (
            arith,
            count_by-with_row test row rows,
            sum_by-cons (λ r. cond (test r) 1 0) first (with_row row rows),
            sum_by-cons (λ r. cond (test r) 1 0) row rows,
            sum_by-cons (λ r. cond (test r) 1 0) first rows,
            sum_by-cons (λ r. cond (test r) 1 0) row (first ∷ rows),
          )
    ]

pub count_by-ordered : (test : Row → Bool) (rows : List Row) → count_by test (ordered rows) ≡ count_by test rows
count_by-ordered test [] = refl
count_by-ordered test (row ∷ rows) =
    count_by-with_row test row (ordered rows)
    ∙ omega (
      arith,
      count_by-ordered test rows,
      sum_by-cons (λ r. cond (test r) 1 0) row (ordered rows),
      sum_by-cons (λ r. cond (test r) 1 0) row rows,
    )

pub HaveSteps-ordered : (rows : List Row) → HaveSteps rows → HaveSteps (ordered rows)
HaveSteps-ordered rows few nav step = omega (arith, count_by-ordered (stands_at nav step) rows, few nav step)

-- a row before which none stands, nor one at its own step, is the first
apart_before : (row first : Row) → AreApart row first → is_before first row ≡ false → is_before row first ≡ true
apart_before row first apart behind = grind (arith, nat_tests)

with_row-first : (row : Row) (rows : List Row) → HaveSteps (row ∷ rows) → list_any (λ other. is_before other row) rows ≡ false → with_row row rows ≡ row ∷ rows
with_row-first row [] few none = refl
with_row-first row (first ∷ rows) few none =
    put_here row first rows (apart_before row first (apart_first row (first ∷ rows) few first (IsIn-head rows first)) (none_passes (λ other. is_before other row) (first ∷ rows) none first (IsIn-head rows first)))

pub ordered-of_sorted : (rows : List Row) → HaveSteps rows → IsSorted rows → ordered rows ≡ rows
ordered-of_sorted [] few sorted = refl
ordered-of_sorted (row ∷ rows) few sorted =
    ap (with_row row) (ordered-of_sorted rows (HaveSteps-tail row rows few) sorted.1) ∙ with_row-first row rows few sorted.0

pub ordered-ordered : (rows : List Row) → HaveSteps rows → ordered (ordered rows) ≡ ordered rows
ordered-ordered rows few = ordered-of_sorted (ordered rows) (HaveSteps-ordered rows few) (ordered-sorted rows)

-- ---- the history

pub SameHistory-ordered : (history : History) → HaveSteps history.rows → SameHistory history (record history { rows = ordered history.rows })
SameHistory-ordered history few = record {
  rows = sym (ordered-ordered history.rows few);
  current = refl;
  added = refl;
}

IsRooted-ordered : (rows : List Row) → IsRooted rows → IsRooted (ordered rows)
IsRooted-ordered rows rooted = record {
  owners = λ nav one other first second. rooted.owners nav one other (hung nav one first) (hung nav other second);
  top_owner = λ nav owner hangs. rooted.top_owner nav owner (hung nav owner hangs);
  child_owner = λ nav free. rooted.child_owner nav (sym (ordered-any _ rows) ∙ free);
  states = λ state one other first second. rooted.states state one other (held one state first) (held other state second);
  another = λ nav owner hangs. ordered-any _ rows ∙ rooted.another nav owner (hung nav owner hangs);
  leads = λ nav has test at_top goes_down. rooted.leads nav (sym (ordered-any (is_of nav) rows) ∙ has) test at_top (λ child parent owner hangs holds. goes_down child parent owner (ordered-any _ rows ∙ hangs) (ordered-any _ rows ∙ holds));
}
  where
    hung : (nav : NavId) (state : StateId) → hangs_on nav state (ordered rows) ≡ true → hangs_on nav state rows ≡ true
    hung nav state hangs = sym (ordered-any _ rows) ∙ hangs

    held : (nav : NavId) (state : StateId) → holds nav state (ordered rows) ≡ true → holds nav state rows ≡ true
    held nav state has = sym (ordered-any _ rows) ∙ has

pub IsSound-ordered : (history : History) → IsSound history → IsSound (record history { rows = ordered history.rows })
IsSound-ordered history sound = record {
  entries = λ entry. omega (arith, count_by-ordered (is_entry entry) history.rows, sound.entries entry);
  steps = HaveSteps-ordered history.rows sound.steps;
  rooted = IsRooted-ordered history.rows sound.rooted;
  top_row = λ nav top. ordered-any (stands_at nav 0) history.rows ∙ sound.top_row nav top;
  anchored = λ nav owner hangs. ordered-any _ history.rows ∙ sound.anchored nav owner (sym (ordered-any _ history.rows) ∙ hangs);
}

-- ---- the target entry

later_upto : NavId → ℕ → Option Row → Row → Option Row
later_upto nav step best row = cond (is_of nav row && nat_le row.step.0 step) (later_row best row) best

later_by_row : (nav : NavId) (step : ℕ) (best : Option Row) (rows : List Row) → fold (later_upto nav step) best rows ≡ fold later_row best (filter (λ row. is_of nav row && nat_le row.step.0 step) rows)
unfolding later_upto
later_by_row nav step best [] = refl
later_by_row nav step best (row ∷ rows) =
    elim (cases_Bool (is_of nav row && nat_le row.step.0 step)) [
      | inl is ↦ rw is (later_by_row nav step (later_row best row) rows)
      | inr isnt ↦ rw isnt (later_by_row nav step best rows)
    ]

later_row-turns : (best : Option Row) (one other : Row) → one.step.0 ≢ other.step.0 → later_row (later_row best one) other ≡ later_row (later_row best other) one
later_row-turns None one other apart =
    elim (cases_order one.step.0 other.step.0) [
      | inl same ↦ absurd (apart same)
      | inr steps ↦
          elim steps [
            | inl lower ↦ rw (lt-ltb one.step.0 other.step.0 lower, le-ltb other.step.0 one.step.0 (omega (arith, lower))) refl
            | inr higher ↦ rw (lt-ltb other.step.0 one.step.0 higher, le-ltb one.step.0 other.step.0 (omega (arith, higher))) refl
          ]
    ]
later_row-turns (Some best) one other apart =
    elim (cases_order one.step.0 other.step.0) [
      | inl same ↦ absurd (apart same)
      | inr steps ↦
          elim steps [
            | inl lower ↦ lower_first best one other lower
            | inr higher ↦ sym (lower_first best other one higher)
          ]
    ]
  where
    lower_first : (best one other : Row) → one.step.0 < other.step.0 → later_row (later_row (Some best) one) other ≡ later_row (later_row (Some best) other) one
    lower_first best one other lower =
        elim (cases_Bool (nat_lt best.step.0 one.step.0)) [
          | inl before ↦
              let still : nat_lt best.step.0 other.step.0 ≡ true = grind (arith, nat_tests) in
              rw (before, still, lt-ltb one.step.0 other.step.0 lower, le-ltb other.step.0 one.step.0 (omega (arith, lower))) refl
          | inr behind ↦
              elim (cases_Bool (nat_lt best.step.0 other.step.0)) [
                | inl before ↦ rw (behind, before, le-ltb other.step.0 one.step.0 (omega (arith, lower))) refl
                | inr behind_too ↦ rw (behind, behind_too) (rw behind refl)
              ]
        ]

later_turns : (nav : NavId) (step : ℕ) (best : Option Row) (one other : Row) → AreApart one other → later_upto nav step (later_upto nav step best one) other ≡ later_upto nav step (later_upto nav step best other) one
unfolding later_upto
later_turns nav step best one other apart = by_tests (is_of nav one && nat_le one.step.0 step) refl (is_of nav other && nat_le other.step.0 step) refl
  where
    by_tests : (p : Bool) → (is_of nav one && nat_le one.step.0 step) ≡ p → (q : Bool) → (is_of nav other && nat_le other.step.0 step) ≡ q
        → cond q (later_row (cond p (later_row best one) best) other) (cond p (later_row best one) best) ≡ cond p (later_row (cond q (later_row best other) best) one) (cond q (later_row best other) best)
    by_tests true mine true mine_too =
        later_row-turns best one other (apart (eqb-true one.nav.0 nav.0 (and_parts (is_of nav one) _ mine).0 ∙ sym (eqb-true other.nav.0 nav.0 (and_parts (is_of nav other) _ mine_too).0)))
    by_tests true mine false isnt = refl
    by_tests false isnt true mine = refl
    by_tests false isnt false isnt_too = refl

pub target_entry-ordered : (rows : List Row) → HaveSteps rows → (nav : NavId) (step : ℕ) → target_entry (ordered rows) nav step ≡ target_entry rows nav step
target_entry-ordered rows few nav step =
    sym (later_by_row nav step None (ordered rows))
    ∙ fold-ordered (later_upto nav step) (later_turns nav step) None rows few
    ∙ later_by_row nav step None rows

-- ---- the row of an entry

find-past : (test : Row → Bool) (row : Row) (rows : List Row) → test row ≡ false → find test (with_row row rows) ≡ find test rows
find-past test row [] fails = ap (λ b. cond b (Some row) None) fails
find-past test row (first ∷ rows) fails =
    elim (cases_Bool (is_before row first)) [
      | inl before ↦ ap (find test) (put_here row first rows before) ∙ ap (λ b. cond b (Some row) (find test (first ∷ rows))) fails
      | inr behind ↦ ap (find test) (put_past row first rows behind) ∙ ap (λ rest. cond (test first) (Some first) rest) (find-past test row rows fails)
    ]

find-only : (test : Row → Bool) (row : Row) (rows : List Row) → test row ≡ true → list_any test rows ≡ false → find test (with_row row rows) ≡ Some row
find-only test row [] passes none = ap (λ b. cond b (Some row) None) passes
find-only test row (first ∷ rows) passes none =
    elim (cases_Bool (is_before row first)) [
      | inl before ↦ ap (find test) (put_here row first rows before) ∙ ap (λ b. cond b (Some row) (find test (first ∷ rows))) passes
      | inr behind ↦
          ap (find test) (put_past row first rows behind)
          ∙ ap (λ b. cond b (Some first) (find test (with_row row rows))) (or_fails (test first) (list_any test rows) none).0
          ∙ find-only test row rows passes (or_fails (test first) (list_any test rows) none).1
    ]
  where
    or_fails : (a b : Bool) → (a || b) ≡ false → (a ≡ false) × (b ≡ false)
    or_fails true b none = absurd (false≢true (sym none))
    or_fails false b none = (refl, none)

find-ordered : (test : Row → Bool) (rows : List Row) → count_by test rows ≤ 1 → find test (ordered rows) ≡ find test rows
find-ordered test [] few = refl
find-ordered test (row ∷ rows) few =
    elim (cases_Bool (test row)) [
      | inl passes ↦
          let none : count_by test rows ≡ 0 = omega (arith, few, sum_by-cons (λ r. cond (test r) 1 0) row rows, ap {B = ℕ} (λ b. cond b 1 0) passes) in
          find-only test row (ordered rows) passes (ordered-any test rows ∙ list_any-zero test rows none) ∙ sym (ap (λ b. cond b (Some row) (find test rows)) passes)
      | inr fails ↦
          find-past test row (ordered rows) fails
          ∙ find-ordered test rows (omega (arith, few, sum_by-cons (λ r. cond (test r) 1 0) row rows))
          ∙ sym (ap (λ b. cond b (Some row) (find test rows)) fails)
    ]

pub row_of-ordered : (rows : List Row) → ((entry : EntryId) → count_by (is_entry entry) rows ≤ 1) → (entry : EntryId) → row_of entry (ordered rows) ≡ row_of entry rows
row_of-ordered rows few entry = find-ordered (is_entry entry) rows (few entry)

-- ---- the steps

pub used_steps-ordered : (rows : List Row) → HaveSteps rows → used_steps (ordered rows) ≡ used_steps rows
used_steps-ordered rows few =
    sym (used_steps-fold [] (ordered rows))
    ∙ fold-ordered (λ steps (row : Row). with_step row.step.0 steps) (λ steps one other apart. with_step-with_step other.step.0 one.step.0 steps) [] rows few
    ∙ used_steps-fold [] rows

pub used_step_at-ordered : (rows : List Row) → HaveSteps rows → (step : ℕ) → used_step_at (ordered rows) step ≡ used_step_at rows step
used_step_at-ordered rows few step =
    sym (used_by_row step 0 (ordered rows))
    ∙ fold-ordered (used_upto step) (λ best one other apart. used_turns step best one other) 0 rows few
    ∙ used_by_row step 0 rows

pub greatest_step-ordered : (rows : List Row) → HaveSteps rows → greatest_step (ordered rows) ≡ greatest_step rows
greatest_step-ordered rows few =
    fold-map max (λ (row : Row). row.step.0) 0 (ordered rows)
    ∙ fold-ordered (λ (best : ℕ) (row : Row). max best row.step.0) (λ best one other apart. omega arith) 0 rows few
    ∙ sym (fold-map max (λ (row : Row). row.step.0) 0 rows)

pub history_length-ordered : (rows : List Row) → HaveSteps rows → history_length (ordered rows) ≡ history_length rows
history_length-ordered rows few = ap length (used_steps-ordered rows few)

pub history_index-ordered : (rows : List Row) → HaveSteps rows → (step : ℕ) → history_index (ordered rows) step ≡ history_index rows step
history_index-ordered rows few step =
    ap (λ at. length (filter (λ used. nat_lt used at) (used_steps (ordered rows)))) (used_step_at-ordered rows few step)
    ∙ ap (λ steps. length (filter (λ used. nat_lt used (used_step_at rows step)) steps)) (used_steps-ordered rows few)

-- ---- changes

-- the history with its rows in order
abbrev in_order : History → History
in_order history = record history { rows = ordered history.rows }

pub fits-ordered : (history : History) → IsSound history → (change : Change) → fits (record history { rows = ordered history.rows }) change ≡ fits history change
fits-ordered history sound (Push nav entry state address memo) =
    any-same (cleared (in_order history)) (cleared history) (sym (cleared-same history (in_order history) (SameHistory-ordered history sound.steps) sound (IsSound-ordered history sound))) (is_of nav)
fits-ordered history sound (Replace nav over entry state address memo) = ordered-any (λ row. same_entry row.entry over && is_of nav row) history.rows
fits-ordered history sound (AddFrame owner nav entry state) =
    ap (λ b. b && not (nav.0 == 0) && not (has_nav history.added nav)) (ordered-any (is_in_state owner) history.rows)
fits-ordered history sound (RemoveFrame nav) = ap (λ b. not (nav.0 == 0) && b) (ordered-any (is_of nav) history.rows)
fits-ordered history sound (Traverse goal) = ap (nat_le goal.0) (greatest_step-ordered history.rows sound.steps)
fits-ordered history sound (Reload nav) = ordered-any (is_of nav) history.rows
fits-ordered history sound Edit = refl

module _ (history : History) (sound : IsSound history) where
  pub pushed-ordered : (nav : NavId) (entry : EntryId) (state : StateId) (address : List ℕ) (memo : Option (List ℕ))
      → SameHistory (pushed history nav entry state address memo) (pushed (record history { rows = ordered history.rows }) nav entry state address memo)
  pushed-ordered = pushed-same history (in_order history) (SameHistory-ordered history sound.steps) sound (IsSound-ordered history sound)

  pub Replace-ordered : (nav : NavId) (over entry : EntryId) (state : StateId) (address : List ℕ) (memo : Option (List ℕ))
      → Fits history (Replace nav over entry state address memo)
      → list_any (is_entry entry) history.rows ≡ false
      → ((n : NavId) → holds n state history.rows ≡ true → n.0 ≡ nav.0)
      → SameHistory (applied history (Replace nav over entry state address memo)) (applied (record history { rows = ordered history.rows }) (Replace nav over entry state address memo))
  Replace-ordered nav over entry state address memo fit is_new mine =
      Replace-same history (in_order history) (SameHistory-ordered history sound.steps) sound (IsSound-ordered history sound) nav over entry state address memo
      (fits-ordered history sound (Replace nav over entry state address memo) ∙ fit)
      (ordered-any (is_entry entry) history.rows ∙ is_new)
      (λ n has. mine n (sym (ordered-any _ history.rows) ∙ has))

  pub AddFrame-ordered : (owner : StateId) (nav : NavId) (entry : EntryId) (state : StateId) → has_row nav history.rows ≡ false
      → SameHistory (applied history (AddFrame owner nav entry state)) (applied (record history { rows = ordered history.rows }) (AddFrame owner nav entry state))
  AddFrame-ordered = AddFrame-same history (in_order history) (SameHistory-ordered history sound.steps) sound (IsSound-ordered history sound)

  pub RemoveFrame-ordered : (nav : NavId) → SameHistory (applied history (RemoveFrame nav)) (applied (record history { rows = ordered history.rows }) (RemoveFrame nav))
  RemoveFrame-ordered = RemoveFrame-same history (in_order history) (SameHistory-ordered history sound.steps) sound (IsSound-ordered history sound)

  pub Traverse-ordered : (goal : Step) → SameHistory (applied history (Traverse goal)) (applied (record history { rows = ordered history.rows }) (Traverse goal))
  Traverse-ordered = Traverse-same history (in_order history) (SameHistory-ordered history sound.steps) sound (IsSound-ordered history sound)

-- what a change needs, to do the same where the rows stand in another order: a replace fits, its entry is new and its document state no other navigable's; the navigable of a new frame has no entry
abbrev pub KeepsSame : History → Change → Type 0
KeepsSame history (Push nav entry state address memo) = Unit {0}
KeepsSame history (Replace nav over entry state address memo) =
    Fits history (Replace nav over entry state address memo)
    × (list_any (is_entry entry) history.rows ≡ false)
    × ((n : NavId) → holds n state history.rows ≡ true → n.0 ≡ nav.0)
KeepsSame history (AddFrame owner nav entry state) = has_row nav history.rows ≡ false
KeepsSame history (RemoveFrame nav) = Unit {0}
KeepsSame history (Traverse goal) = Unit {0}
KeepsSame history (Reload nav) = Unit {0}
KeepsSame history Edit = Unit {0}

pub applied-ordered : (history : History) → IsSound history → (change : Change) → KeepsSame history change
    → SameHistory (applied history change) (applied (record history { rows = ordered history.rows }) change)
applied-ordered history sound (Push nav entry state address memo) keeps = pushed-ordered history sound nav entry state address memo
applied-ordered history sound (Replace nav over entry state address memo) keeps = Replace-ordered history sound nav over entry state address memo keeps.0 keeps.1 keeps.2
applied-ordered history sound (AddFrame owner nav entry state) keeps = AddFrame-ordered history sound owner nav entry state keeps
applied-ordered history sound (RemoveFrame nav) keeps = RemoveFrame-ordered history sound nav
applied-ordered history sound (Traverse goal) keeps = Traverse-ordered history sound goal
applied-ordered history sound (Reload nav) keeps = SameHistory-ordered history sound.steps
applied-ordered history sound Edit keeps = SameHistory-ordered history sound.steps
