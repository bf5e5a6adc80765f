-- A change keeps two histories the same that are the same but for the order of their rows: so what a store holds after each of a list of changes is the definitions' history, put in order.
use Rattle.std.proofs.Common.{◌≡◌, ℕ, ◌+◌, ◌≤◌, Bool, true, false, not, ◌&&◌, cond, List, [], ◌∷◌, ◌++◌, refl, ap, sym, ◌∙◌, arith, inl, inr, filter, map, fold, find, Option, Some, None}
use Rattle.std.specs.Prelude.{max, min, nat_le, option_and_then}
use Rattle.std.specs.List.{list_any, count_by}
use Rattle.std.specs.Option.{option_map_or}
use Rattle.std.proofs.lemmas.Bool.{cases_Bool, or_cases, false≢true, and_parts, eqb-true, eq-eqb}
use Rattle.tab_ids.specs.declared.NavId.{NavId}
use Rattle.tab_ids.specs.declared.StateId.{StateId}
use Rattle.tab_ids.specs.declared.EntryId.{EntryId}
use Rattle.tab_ids.specs.declared.Step.{Step}
use Rattle.address.specs.Addresses.{blank_text}
use Rattle.log_model.specs.declared.row.Row.{Row}
use Rattle.log_model.specs.History.{History, Fits, applied, same_entry, is_of, is_anchored, has_row, owner_of, replaced_row, first_step, cleared, pushed, tidied, used_step_at}
use Rattle.log_model.specs.declared.change.Change.TheVariants.{Replace, AddFrame, RemoveFrame, Traverse}
use Rattle.log_model.specs.Order.{with_row, ordered, SameHistory}
use Rattle.log_model.specs.Soundness.{is_entry, is_in_state, stands_at, holds, IsRooted, IsSound}
use Rattle.history_laws.proofs.Members.{IsIn, IsIn-filter, found, found_none}
use Rattle.history_laws.proofs.Tidying.{owner_same, tidied-filter}
use Rattle.history_laws.proofs.Rooted.{count_by-filter}
use Rattle.history_laws.proofs.Replace.{replaced_whole, replaced_part, replaced-split}
use Rattle.history_laws.proofs.Ordered.{ordered-push}
use Rattle.history_laws.proofs.Push.{up_to, cleared-up_to, cleared-part}
use Rattle.history_laws.proofs.Same.{any-same, in-same, filter-same_order, tidied-same, fold-same}
use Rattle.history_laws.proofs.Sorted.{HaveSteps, ordered-map}

-- ---- the owner of a navigable

owner_by : (whole : List Row) → IsRooted whole → (nav : NavId) (one other : List Row) → ((row : Row) → IsIn one row → IsIn whole row) → ((row : Row) → IsIn other row → IsIn whole row) → ((test : Row → Bool) → list_any test one ≡ list_any test other)
    → (a b : Option Row) → find (is_of nav) one ≡ a → find (is_of nav) other ≡ b → option_and_then (λ (row : Row). row.owner) a ≡ option_and_then (λ (row : Row). row.owner) b
owner_by whole rooted nav one other part part_too any None None a b = refl
owner_by whole rooted nav one other part part_too any None (Some y) a b =
    let v = found (is_of nav) other y b in
    absurd (false≢true (sym (found_none (is_of nav) one a) ∙ any (is_of nav) ∙ v.is_in (is_of nav) v.passes))
owner_by whole rooted nav one other part part_too any (Some x) None a b =
    let w = found (is_of nav) one x a in
    absurd (false≢true (sym (found_none (is_of nav) other b) ∙ sym (any (is_of nav)) ∙ w.is_in (is_of nav) w.passes))
owner_by whole rooted nav one other part part_too any (Some x) (Some y) a b =
    let w = found (is_of nav) one x a in
    let v = found (is_of nav) other y b in
    owner_same whole rooted x y (part x w.is_in) (part_too y v.is_in) (eqb-true x.nav.0 nav.0 w.passes ∙ sym (eqb-true y.nav.0 nav.0 v.passes))

-- ---- the used step

pub used_upto : ℕ → ℕ → Row → ℕ
used_upto step best row = cond (nat_le row.step.0 step) (max best row.step.0) best

pub used_by_row : (step best : ℕ) (rows : List Row) → fold (used_upto step) best rows ≡ fold max best (filter (λ used. nat_le used step) (map (λ (row : Row). row.step.0) rows))
unfolding used_upto
used_by_row step best [] = refl
used_by_row step best (row ∷ rows) =
    elim (cases_Bool (nat_le row.step.0 step)) [
      | inl at_most ↦ rw at_most (used_by_row step (max best row.step.0) rows)
      | inr beyond ↦ rw beyond (used_by_row step best rows)
    ]

pub used_turns : (step z : ℕ) (a b : Row) → used_upto step (used_upto step z a) b ≡ used_upto step (used_upto step z b) a
unfolding used_upto
used_turns step z a b = by_tests (nat_le a.step.0 step) (nat_le b.step.0 step)
  where
    by_tests : (p q : Bool) → cond q (max (cond p (max z a.step.0) z) b.step.0) (cond p (max z a.step.0) z) ≡ cond p (max (cond q (max z b.step.0) z) a.step.0) (cond q (max z b.step.0) z)
    by_tests true true = omega arith
    by_tests true false = refl
    by_tests false true = refl
    by_tests false false = refl

-- ---- the first step of a document state

lower_step : Option ℕ → ℕ → Option ℕ
lower_step None step = Some step
lower_step (Some best) step = Some (min best step)

first_upto : StateId → Option ℕ → Row → Option ℕ
first_upto state best row = cond (is_in_state state row) (lower_step best row.step.0) best

least_from : (state : StateId) (best : ℕ) (rows : List Row) → fold (first_upto state) (Some best) rows ≡ Some (fold min best (map (λ (row : Row). row.step.0) (filter (is_in_state state) rows)))
unfolding first_upto lower_step
least_from state best [] = refl
least_from state best (row ∷ rows) =
    elim (cases_Bool (is_in_state state row)) [
      | inl is ↦ rw is (least_from state (min best row.step.0) rows)
      | inr isnt ↦ rw isnt (least_from state best rows)
    ]

first_by_row : (state : StateId) (rows : List Row) → first_step state rows ≡ option_map_or (λ n. n) (fold (first_upto state) None rows) 0
unfolding first_upto lower_step
first_by_row state [] = refl
first_by_row state (row ∷ rows) =
    elim (cases_Bool (is_in_state state row)) [
      | inl is ↦ rw is (ap (λ (best : Option ℕ). option_map_or (λ n. n) best 0) (sym (least_from state row.step.0 rows)))
      | inr isnt ↦ rw isnt (first_by_row state rows)
    ]

lower_turns : (best : Option ℕ) (a b : ℕ) → lower_step (lower_step best a) b ≡ lower_step (lower_step best b) a
unfolding lower_step
lower_turns None a b = let turned : min a b ≡ min b a = omega arith in ap (λ (n : ℕ). Some n) turned
lower_turns (Some best) a b = let turned : min (min best a) b ≡ min (min best b) a = omega arith in ap (λ (n : ℕ). Some n) turned

first_turns : (state : StateId) (z : Option ℕ) (a b : Row) → first_upto state (first_upto state z a) b ≡ first_upto state (first_upto state z b) a
unfolding first_upto
first_turns state z a b = by_tests (is_in_state state a) (is_in_state state b)
  where
    by_tests : (p q : Bool) → cond q (lower_step (cond p (lower_step z a.step.0) z) b.step.0) (cond p (lower_step z a.step.0) z) ≡ cond p (lower_step (cond q (lower_step z b.step.0) z) a.step.0) (cond q (lower_step z b.step.0) z)
    by_tests true true = lower_turns z a.step.0 b.step.0
    by_tests true false = refl
    by_tests false true = refl
    by_tests false false = refl

-- ---- a row that passes, and the rows on either side

record Split (test : Row → Bool) (rows : List Row) : Type 0 where
  pub it : Row
  pub front : List Row
  pub back : List Row
  pub is : rows ≡ front ++ it ∷ back
  pub passes : test it ≡ true

split : (test : Row → Bool) (rows : List Row) → list_any test rows ≡ true → Split test rows
split test [] none = absurd (false≢true none)
split test (row ∷ rows) any =
    elim (or_cases (test row) (list_any test rows) any) [
      | inl here ↦ record { it = row; front = []; back = rows; is = refl; passes = here }
      | inr there ↦
          let rest = split test rows there in
          record { it = rest.it; front = row ∷ rest.front; back = rest.back; is = ap (λ more. row ∷ more) rest.is; passes = rest.passes }
    ]

-- ---- two histories

module _ (one other : History) (same : SameHistory one other) (sound : IsSound one) (sound_too : IsSound other) where
  pub used_step_at-same : (step : ℕ) → used_step_at one.rows step ≡ used_step_at other.rows step
  used_step_at-same step =
      sym (used_by_row step 0 one.rows)
      ∙ fold-same one.rows other.rows same.rows sound.steps sound_too.steps (used_upto step) (used_turns step) 0
      ∙ used_by_row step 0 other.rows

  -- "clear the forward session history"
  pub cleared-same : ordered (cleared one) ≡ ordered (cleared other)
  cleared-same =
      tidied-same (up_to one.current one.rows) (up_to other.current other.rows)
      (filter-same_order one.rows other.rows same.rows (λ row. nat_le row.step.0 one.current) ∙ ap (λ n. ordered (up_to n other.rows)) same.current)
      other.rows sound_too.rooted (λ row kept. IsIn-filter (λ r. nat_le r.step.0 other.current) other.rows row kept)

  owner-same : (nav : NavId) → owner_of nav (cleared one) ≡ owner_of nav (cleared other)
  owner-same nav =
      owner_by one.rows sound.rooted nav (cleared one) (cleared other) (cleared-part one)
      (λ row there. in-same other.rows one.rows (sym same.rows) row (cleared-part other row there))
      (any-same (cleared one) (cleared other) cleared-same) _ _ refl refl

  pub pushed-same : (nav : NavId) (entry : EntryId) (state : StateId) (address : List ℕ) (memo : Option (List ℕ)) → SameHistory (pushed one nav entry state address memo) (pushed other nav entry state address memo)
  pushed-same nav entry state address memo = record {
    rows =
        ordered-push (cleared one) (new (owner_of nav (cleared one)) one.current) (λ r there navs steps. omega (arith, steps, cleared-up_to one r there))
        ∙ ap (λ o. with_row (new o one.current) (ordered (cleared one))) (owner-same nav)
        ∙ ap (λ n. with_row (new (owner_of nav (cleared other)) n) (ordered (cleared one))) same.current
        ∙ ap (with_row (new (owner_of nav (cleared other)) other.current)) cleared-same
        ∙ sym (ordered-push (cleared other) (new (owner_of nav (cleared other)) other.current) (λ r there navs steps. omega (arith, steps, cleared-up_to other r there)));
    current = ap (λ n. n + 1) same.current;
    added = same.added;
  }
    where
      new : Option StateId → ℕ → Row
      new owner current = record { owner = owner; nav = nav; entry = entry; step = record { 0 = current + 1 }; state = state; address = address; memo = memo }

  pub removed-same : (nav : NavId) → ordered (tidied (filter (λ row. not (is_of nav row)) one.rows)) ≡ ordered (tidied (filter (λ row. not (is_of nav row)) other.rows))
  removed-same nav =
      tidied-same (filter (λ row. not (is_of nav row)) one.rows) (filter (λ row. not (is_of nav row)) other.rows)
      (filter-same_order one.rows other.rows same.rows (λ row. not (is_of nav row)))
      other.rows sound_too.rooted (λ row kept. IsIn-filter (λ r. not (is_of nav r)) other.rows row kept)

  pub RemoveFrame-same : (nav : NavId) → SameHistory (applied one (RemoveFrame nav)) (applied other (RemoveFrame nav))
  RemoveFrame-same nav =
      let left = filter (λ row. not (is_of nav row)) one.rows in
      let left_too = filter (λ row. not (is_of nav row)) other.rows in
      let few : HaveSteps (tidied left) = λ n step. omega (arith, count_tidied left n step, count_by-filter (stands_at n step) (λ row. not (is_of nav row)) one.rows, sound.steps n step) in
      let few_too : HaveSteps (tidied left_too) = λ n step. omega (arith, count_tidied left_too n step, count_by-filter (stands_at n step) (λ row. not (is_of nav row)) other.rows, sound_too.steps n step) in
      record {
        rows = removed-same nav;
        current =
            ap (λ n. used_step_at (tidied left) n) same.current
            ∙ sym (used_by_row other.current 0 (tidied left))
            ∙ fold-same (tidied left) (tidied left_too) (removed-same nav) few few_too (used_upto other.current) (used_turns other.current) 0
            ∙ used_by_row other.current 0 (tidied left_too);
        added = same.added;
      }
    where
      count_tidied : (rows : List Row) (n : NavId) (step : ℕ) → count_by (stands_at n step) (tidied rows) ≤ count_by (stands_at n step) rows
      count_tidied rows n step = rw (tidied-filter rows) (count_by-filter (stands_at n step) (is_anchored (tidied rows)) rows)

  pub Traverse-same : (goal : Step) → SameHistory (applied one (Traverse goal)) (applied other (Traverse goal))
  Traverse-same goal = record { rows = same.rows; current = used_step_at-same goal.0; added = same.added }

  -- ---- a new frame, of a navigable that has no entry

  first_same : (state : StateId) → first_step state one.rows ≡ first_step state other.rows
  first_same state =
      first_by_row state one.rows
      ∙ ap (λ (best : Option ℕ). option_map_or (λ n. n) best 0) (fold-same one.rows other.rows same.rows sound.steps sound_too.steps (first_upto state) (first_turns state) None)
      ∙ sym (first_by_row state other.rows)

  pub AddFrame-same : (owner : StateId) (nav : NavId) (entry : EntryId) (state : StateId) → has_row nav one.rows ≡ false → SameHistory (applied one (AddFrame owner nav entry state)) (applied other (AddFrame owner nav entry state))
  AddFrame-same owner nav entry state no_row = record {
    rows =
        ordered-push one.rows (new (first_step owner one.rows)) (λ r there navs. absurd (false≢true (sym no_row ∙ there (is_of nav) (eq-eqb r.nav.0 nav.0 navs))))
        ∙ ap (λ n. with_row (new n) (ordered one.rows)) (first_same owner)
        ∙ ap (with_row (new (first_step owner other.rows))) same.rows
        ∙ sym (ordered-push other.rows (new (first_step owner other.rows)) (λ r there navs. absurd (false≢true (sym no_row ∙ any-same one.rows other.rows same.rows (is_of nav) ∙ there (is_of nav) (eq-eqb r.nav.0 nav.0 navs)))));
    current = same.current;
    added = ap (λ navs. navs ++ nav ∷ []) same.added;
  }
    where
      new : ℕ → Row
      new step = record { owner = Some owner; nav = nav; entry = entry; step = record { 0 = step }; state = state; address = blank_text; memo = None }

  -- ---- a replace that fits

  pub Replace-same : (nav : NavId) (over entry : EntryId) (state : StateId) (address : List ℕ) (memo : Option (List ℕ))
      → Fits other (Replace nav over entry state address memo)
      → list_any (is_entry entry) other.rows ≡ false
      → ((n : NavId) → holds n state other.rows ≡ true → n.0 ≡ nav.0)
      → SameHistory (applied one (Replace nav over entry state address memo)) (applied other (Replace nav over entry state address memo))
  Replace-same nav over entry state address memo fits entry_is_new mine =
      let old = split (λ row. same_entry row.entry over && is_of nav row) other.rows fits in
      let both = and_parts (same_entry old.it.entry over) (is_of nav old.it) old.passes in
      let row : Row = record new { owner = old.it.owner; step = old.it.step } in
      let put_is = replaced-split other sound_too old.front old.back old.it new over old.is both.0 both.1 in
      let navs = sym (eqb-true old.it.nav.0 nav.0 both.1) in
      record {
        rows =
            tidied-same (map (replaced_row over new) one.rows) (map (replaced_row over new) other.rows)
            (ordered-map (replaced_row over new) keeps_nav keeps_step one.rows ∙ ap (map (replaced_row over new)) same.rows ∙ sym (ordered-map (replaced_row over new) keeps_nav keeps_step other.rows))
            (other.rows ++ row ∷ [])
            (replaced_whole other sound_too old.front old.back old.it row old.is navs refl refl entry_is_new mine)
            (λ r there. replaced_part other sound_too old.front old.back old.it row old.is navs refl refl entry_is_new mine r (λ test passes. ap (list_any test) (sym put_is) ∙ there test passes));
        current = same.current;
        added = same.added;
      }
    where
      new : Row
      new = record { owner = None; nav = nav; entry = entry; step = record { 0 = 0 }; state = state; address = address; memo = memo }

      keeps_nav : (row : Row) → (replaced_row over new row).nav.0 ≡ row.nav.0
      keeps_nav row =
          elim (cases_Bool (same_entry row.entry over && is_of nav row)) [
            | inl is ↦
                ap (λ b. (cond b (record new { owner = row.owner; step = row.step }) row).nav.0) is
                ∙ sym (eqb-true row.nav.0 nav.0 (and_parts (same_entry row.entry over) (is_of nav row) is).1)
            | inr isnt ↦ ap (λ b. (cond b (record new { owner = row.owner; step = row.step }) row).nav.0) isnt
          ]

      keeps_step : (row : Row) → (replaced_row over new row).step.0 ≡ row.step.0
      keeps_step row =
          elim (cases_Bool (same_entry row.entry over && is_of nav row)) [
            | inl is ↦ ap (λ b. (cond b (record new { owner = row.owner; step = row.step }) row).step.0) is
            | inr isnt ↦ ap (λ b. (cond b (record new { owner = row.owner; step = row.step }) row).step.0) isnt
          ]
