-- A new frame in the lists: one more list, with one row at the first step of its owner.
use Rattle.std.proofs.Common.{◌≡◌, ◌≢◌, ℕ, ◌<◌, Bool, true, false, not, ◌||◌, cond, List, [], ◌∷◌, ◌++◌, refl, ap, sym, ◌∙◌, filter, fold, map, min, arith, Option, Some, None, inl, inr, ◌⊎◌, subst}
use Rattle.std.specs.Prelude.{nat_le}
use Rattle.std.specs.List.{list_any}
use Rattle.std.proofs.lemmas.Bool.{cases_Bool, or_cases, false≢true, and_from, ne_eqb, eqb-true, eq-eqb, cases_order, lt-ltb, le-ltb}
use Rattle.std.proofs.lemmas.List.Folds.{list_any-append}
use Rattle.std.proofs.lemmas.Option.{none-some}
use Rattle.tab_ids.specs.declared.NavId.{NavId}
use Rattle.tab_ids.specs.declared.StateId.{StateId}
use Rattle.tab_ids.specs.declared.EntryId.{EntryId}
use Rattle.address.specs.Addresses.{blank_text}
use Rattle.log_model.specs.declared.row.Row.{Row}
use Rattle.log_model.specs.declared.change.Change.TheVariants.{AddFrame}
use Rattle.log_model.specs.History.{History, Fits, is_of, has_nav, has_row, has_state, first_step, with_step, used_steps, applied}
use Rattle.log_model.specs.Order.{ordered, SameHistory}
use Rattle.log_model.specs.Soundness.{is_in_state}
use Rattle.history_laws.proofs.UsedSteps.{with_step-with_step, used_steps-push}
use Rattle.history_laws.proofs.OneMore.{AddsRow, AddsRow-push}
use Rattle.history_laws.proofs.AddFrame.{IsSound-framed}
use Rattle.entry_store.specs.Store.{MayTake}
use Rattle.entry_store.specs.Kept.{IsKept}
use Rattle.history_laws.proofs.Members.{witness, or_right, or_none, some_same, none_passes}
use Rattle.entry_store.specs.Reading.{first_of, lower_step}

-- ---- the first step of a document state

abbrev steps_in : StateId → List Row → List ℕ
steps_in state rows = map (λ (row : Row). row.step.0) (filter (is_in_state state) rows)

-- with one found, the least of it and the rest
least_from : (state : StateId) (best : ℕ) (rows : List Row) → fold (first_of state) (Some best) rows ≡ Some (fold min best (steps_in state rows))
least_from state best [] = refl
least_from state best (row ∷ rows) =
    elim (cases_Bool (is_in_state state row)) [
      | inl is ↦ rw is (least_from state (min best row.step.0) rows)
      | inr isnt ↦ rw isnt (least_from state best rows)
    ]

pub first_step-found : (state : StateId) (rows : List Row) (step : ℕ) → fold (first_of state) None rows ≡ Some step → first_step state rows ≡ step
first_step-found state [] step none = absurd (none-some step none)
first_step-found state (row ∷ rows) step is = by_test (first_step-found state rows step) (is_in_state state row) refl
  where
    by_test : (fold (first_of state) None rows ≡ Some step → first_step state rows ≡ step) → (b : Bool) → is_in_state state row ≡ b → first_step state (row ∷ rows) ≡ step
    by_test rest true here =
        rw here (some_same (fold min row.step.0 (steps_in state rows)) step (sym (least_from state row.step.0 rows) ∙ sym (ap (λ b. fold (first_of state) (cond b (Some row.step.0) None) rows) here) ∙ is))
    by_test rest false past =
        rw past (rest (sym (ap (λ b. fold (first_of state) (cond b (Some row.step.0) None) rows) past) ∙ is))

-- where there is one, a row has the document state
pub first_step-none : (state : StateId) (rows : List Row) → fold (first_of state) None rows ≡ None → has_state state rows ≡ false
first_step-none state [] none = refl
first_step-none state (row ∷ rows) none = by_test (first_step-none state rows) (is_in_state state row) refl
  where
    by_test : (fold (first_of state) None rows ≡ None → has_state state rows ≡ false) → (b : Bool) → is_in_state state row ≡ b → has_state state (row ∷ rows) ≡ false
    by_test rest true here =
        absurd (none-some (fold min row.step.0 (steps_in state rows)) (sym none ∙ ap (λ b. fold (first_of state) (cond b (Some row.step.0) None) rows) here ∙ least_from state row.step.0 rows))
    by_test rest false past =
        or_none (is_in_state state row) (has_state state rows) past (rest (sym (ap (λ b. fold (first_of state) (cond b (Some row.step.0) None) rows) past) ∙ none))

pub first_step-some : (state : StateId) (rows : List Row) (step : ℕ) → fold (first_of state) None rows ≡ Some step → has_state state rows ≡ true
first_step-some state [] step is = absurd (none-some step is)
first_step-some state (row ∷ rows) step is = by_test (first_step-some state rows step) (is_in_state state row) refl
  where
    by_test : (fold (first_of state) None rows ≡ Some step → has_state state rows ≡ true) → (b : Bool) → is_in_state state row ≡ b → has_state state (row ∷ rows) ≡ true
    by_test rest true here = ap (λ b. b || has_state state rows) here
    by_test rest false past =
        or_right (is_in_state state row) (has_state state rows) (rest (sym (ap (λ b. fold (first_of state) (cond b (Some row.step.0) None) rows) past) ∙ is))

-- it is the step of a row
abbrev pub is_at : ℕ → Row → Bool
is_at step row = lib.Dec.eqb row.step.0 step

lower_is : (best : Option ℕ) (step m : ℕ) → lower_step best step ≡ Some m → (best ≡ Some m) ⊎ (step ≡ m)
lower_is None step m is = inr (some_same step m is)
lower_is (Some best) step m is =
    let same : min best step ≡ m = some_same (min best step) m is in
    elim (cases_order best step) [
      | inl equal ↦ inr (omega (arith, same, equal))
      | inr apart ↦
          elim apart [
            | inl lower ↦ let is_best : best ≡ m = omega (arith, same, lower) in inl (ap (λ (n : ℕ). Some n) is_best)
            | inr higher ↦ inr (omega (arith, same, higher))
          ]
    ]

first_there : (state : StateId) (best : Option ℕ) (rows : List Row) (m : ℕ) → fold (first_of state) best rows ≡ Some m → (best ≡ Some m) ⊎ (list_any (is_at m) rows ≡ true)
first_there state best [] m is = inl is
first_there state best (row ∷ rows) m is =
    elim (first_there state (first_of state best row) rows m is) [
      | inr there ↦ inr (or_right (is_at m row) (list_any (is_at m) rows) there)
      | inl here ↦ by_test (is_in_state state row) refl here
    ]
  where
    by_test : (b : Bool) → is_in_state state row ≡ b → first_of state best row ≡ Some m → (best ≡ Some m) ⊎ (list_any (is_at m) (row ∷ rows) ≡ true)
    by_test false past here = inl (sym (ap (λ b. cond b (lower_step best row.step.0) best) past) ∙ here)
    by_test true is_one here =
        elim (lower_is best row.step.0 m (sym (ap (λ b. cond b (lower_step best row.step.0) best) is_one) ∙ here)) [
          | inl before ↦ inl before
          | inr mine ↦ inr (ap (λ b. b || list_any (is_at m) rows) (eq-eqb row.step.0 m mine))
        ]

pub first_step-is_at : (state : StateId) (rows : List Row) (m : ℕ) → fold (first_of state) None rows ≡ Some m → list_any (is_at m) rows ≡ true
first_step-is_at state rows m is =
    elim (first_there state None rows m is) [
      | inl none ↦ absurd (none-some m none)
      | inr there ↦ there
    ]

-- ---- a number that was added before

eqb_turned : (a b : ℕ) → lib.Dec.eqb a b ≡ lib.Dec.eqb b a
eqb_turned a b =
    elim (cases_Bool (lib.Dec.eqb a b)) [
      | inl same ↦ same ∙ sym (eq-eqb b a (sym (eqb-true a b same)))
      | inr apart ↦ apart ∙ sym (ne_eqb b a (λ same. false≢true (sym apart ∙ eq-eqb a b (sym same))))
    ]

pub has_nav-turned : (added : List NavId) (nav : NavId) → list_any (λ (n : NavId). lib.Dec.eqb nav.0 n.0) added ≡ has_nav added nav
has_nav-turned [] nav = refl
has_nav-turned (n ∷ added) nav = ap (λ b. b || list_any (λ (m : NavId). lib.Dec.eqb nav.0 m.0) added) (eqb_turned nav.0 n.0) ∙ ap (λ b. lib.Dec.eqb n.0 nav.0 || b) (has_nav-turned added nav)

pub ruleset added_by_key = (has_nav-turned)

-- ---- a step that is used already

with_step-twice : (step : ℕ) (steps : List ℕ) → with_step step (with_step step steps) ≡ with_step step steps
with_step-twice step [] = rw (le-ltb step step (omega arith), eq-eqb step step refl) refl
with_step-twice step (first ∷ steps) =
    elim (cases_order step first) [
      | inl same ↦ ap (with_step step) (there same) ∙ refl
      | inr apart ↦
          elim apart [
            | inl lower ↦ ap (with_step step) (here lower) ∙ again ∙ sym (here lower)
            | inr higher ↦ ap (with_step step) (past higher steps) ∙ past higher (with_step step steps) ∙ ap (λ rest. first ∷ rest) (with_step-twice step steps) ∙ sym (past higher steps)
          ]
    ]
  where
    there : step ≡ first → with_step step (first ∷ steps) ≡ first ∷ steps
    there same = rw (le-ltb step first (omega (arith, same)), eq-eqb step first same) refl

    here : step < first → with_step step (first ∷ steps) ≡ step ∷ first ∷ steps
    here lower = rw (lt-ltb step first lower) refl

    again : with_step step (step ∷ first ∷ steps) ≡ step ∷ first ∷ steps
    again = rw (le-ltb step step (omega arith), eq-eqb step step refl) refl

    past : first < step → (rest : List ℕ) → with_step step (first ∷ rest) ≡ first ∷ with_step step rest
    past higher rest = rw (le-ltb step first (omega (arith, higher)), ne_eqb step first (λ same. omega (arith, same, higher))) refl

pub used_step-there : (rows : List Row) (step : ℕ) → list_any (is_at step) rows ≡ true → with_step step (used_steps rows) ≡ used_steps rows
used_step-there [] step none = absurd (false≢true none)
used_step-there (row ∷ rows) step any =
    elim (or_cases (is_at step row) (list_any (is_at step) rows) any) [
      | inl here ↦ rw (eqb-true row.step.0 step here) (with_step-twice step (used_steps rows))
      | inr there ↦ with_step-with_step step row.step.0 (used_steps rows) ∙ ap (with_step row.step.0) (used_step-there rows step there)
    ]

-- ---- the new frame

pub frame_fits : (history : History) (owner : StateId) (nav : NavId) (entry : EntryId) (state : StateId) (step : ℕ) → fold (first_of owner) None history.rows ≡ Some step → nav.0 ≢ 0 → has_nav history.added nav ≡ false → Fits history (AddFrame owner nav entry state)
frame_fits history owner nav entry state step is is_child is_new =
    and_from _ _ (and_from _ _ (first_step-some owner history.rows step is) (ap not (ne_eqb nav.0 0 is_child))) (ap not is_new)

abbrev pub frame_row : StateId → NavId → EntryId → ℕ → StateId → Row
frame_row owner nav entry step state =
    record { owner = Some owner; nav = nav; entry = entry; step = record { 0 = step }; state = state; address = blank_text; memo = None }

module _ (history : History) (used : List ℕ) (kept : IsKept history used) (owner : StateId) (nav : NavId) (entry : EntryId) (state : StateId) (may : MayTake history (AddFrame owner nav entry state)) (step : ℕ) (is : fold (first_of owner) None history.rows ≡ Some step) (is_child : nav.0 ≢ 0) (is_new : has_nav history.added nav ≡ false) (rows : List Row) (rows_are : rows ≡ history.rows ++ frame_row owner nav entry step state ∷ []) (added : List NavId) (added_is : added ≡ history.added ++ nav ∷ []) where
  abbrev row : Row
  row = frame_row owner nav entry step state

  adds : AddsRow history.rows row rows
  adds = subst (λ (new : List Row). AddsRow history.rows row new) (sym rows_are) (AddsRow-push history.rows row)

  -- a number that was never added has no row
  nav_is_new : has_row nav history.rows ≡ false
  nav_is_new =
      elim (cases_Bool (has_row nav history.rows)) [
        | inl has ↦ absurd (false≢true (sym is_new ∙ kept.added nav has is_child))
        | inr none ↦ none
      ]

  pub framed_same : SameHistory (record { rows = rows; current = history.current; added = added }) (applied history (AddFrame owner nav entry state))
  framed_same = record {
    rows = ap ordered (rows_are ∙ ap (λ n. history.rows ++ frame_row owner nav entry n state ∷ []) (sym (first_step-found owner history.rows step is)));
    current = refl;
    added = added_is;
  }

  has_nav-more : (child : NavId) → has_nav added child ≡ (has_nav history.added child || (lib.Dec.eqb nav.0 child.0 || false))
  has_nav-more child = ap (λ (navs : List NavId). has_nav navs child) added_is ∙ list_any-append (λ (n : NavId). lib.Dec.eqb n.0 child.0) history.added (nav ∷ [])

  pub framed_kept : IsKept (record { rows = rows; current = history.current; added = added }) used
  framed_kept = record {
    sound =
        IsSound-framed history.rows row rows adds owner refl (first_step-some owner history.rows step is) nav_is_new is_child may.1
        history.current history.current history.added added kept.sound may.0;
    added = λ child has child_is.
        has_nav-more child ∙
        elim (or_cases (is_of child row) (has_row child history.rows) (sym (adds.any (is_of child)) ∙ has)) [
          | inl here ↦ or_right (has_nav history.added child) (lib.Dec.eqb nav.0 child.0 || false) (ap (λ b. b || false) here)
          | inr there ↦ ap (λ b. b || (lib.Dec.eqb nav.0 child.0 || false)) (kept.added child there child_is)
        ];
    used = kept.used ∙ sym (ap used_steps rows_are ∙ used_steps-push history.rows row ∙ used_step-there history.rows step (first_step-is_at owner history.rows step is));
    below =
        adds.any (λ (r : Row). nat_le 4294967295 r.step.0)
        ∙ or_none _ _ below_too kept.below;
  }
    where
      below_too : nat_le 4294967295 step ≡ false
      below_too =
          let w = witness (is_at step) history.rows (first_step-is_at owner history.rows step is) in
          ap (λ n. nat_le 4294967295 n) (sym (eqb-true w.it.step.0 step w.passes)) ∙ none_passes (λ (r : Row). nat_le 4294967295 r.step.0) history.rows kept.below w.it w.is_in
