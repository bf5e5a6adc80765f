-- What a new frame does to a history: it stays sound.
use Rattle.std.proofs.Common.{◌≡◌, ◌≢◌, ℕ, Bool, true, false, ◌&&◌, ◌||◌, List, refl, ap, sym, ◌∙◌, ◌⊎◌, inl, inr, Option, Some}
use Rattle.std.specs.List.{list_any}
use Rattle.std.specs.Option.{option_map_or, is_none}
use Rattle.std.proofs.lemmas.Bool.{cases_Bool, or_cases, false≢true, and_parts, and_from, eqb-true, eq-eqb}
use Rattle.tab_ids.specs.declared.NavId.{NavId}
use Rattle.tab_ids.specs.declared.StateId.{StateId}
use Rattle.log_model.specs.declared.row.Row.{Row}
use Rattle.log_model.specs.History.{is_of, has_row, has_state}
use Rattle.log_model.specs.Soundness.{is_entry, stands_at, is_in_state, is_owned_by, holds, hangs_on, is_free, IsRooted, IsSound}
use Rattle.history_laws.proofs.Members.{or_right, witness}
use Rattle.history_laws.proofs.Tidying.{state_same}
use Rattle.history_laws.proofs.OneMore.{AddsRow}
use Rattle.history_laws.proofs.Joining.{entries_new, steps_new}

module _ (rows : List Row) (row : Row) (new : List Row) (adds : AddsRow rows row new) (owner : StateId) (hangs_there : row.owner ≡ Some owner) (owner_there : has_state owner rows ≡ true) (nav_is_new : has_row row.nav rows ≡ false) (is_child : row.nav.0 ≢ 0) (state_is_new : has_state row.state rows ≡ false) where
  more : (test : Row → Bool) → list_any test rows ≡ true → list_any test new ≡ true
  more test any = adds.any test ∙ or_right (test row) (list_any test rows) any

  -- an old row is of an old navigable
  old_nav : (nav : NavId) (test : Row → Bool) → list_any (λ r. is_of nav r && test r) rows ≡ true → row.nav.0 ≢ nav.0
  old_nav nav test any same =
      let w = witness (λ r. is_of nav r && test r) rows any in
      let both = and_parts (is_of nav w.it) (test w.it) w.passes in
      false≢true (sym nav_is_new ∙ w.is_in (is_of row.nav) (eq-eqb w.it.nav.0 row.nav.0 (eqb-true w.it.nav.0 nav.0 both.0 ∙ sym same)))

  old_state : (nav : NavId) (state : StateId) → holds nav state rows ≡ true → row.state.0 ≢ state.0
  old_state nav state any same =
      let w = witness (λ r. is_of nav r && is_in_state state r) rows any in
      let both = and_parts (is_of nav w.it) (is_in_state state w.it) w.passes in
      false≢true (sym state_is_new ∙ w.is_in (is_in_state row.state) (eq-eqb w.it.state.0 row.state.0 (eqb-true w.it.state.0 state.0 both.1 ∙ sym same)))

  hangs_cases : (nav : NavId) (on : StateId) → hangs_on nav on new ≡ true → ((row.nav.0 ≡ nav.0) × (owner.0 ≡ on.0)) ⊎ (hangs_on nav on rows ≡ true)
  hangs_cases nav on any =
      elim (or_cases (is_of nav row && is_owned_by on row) (hangs_on nav on rows) (sym (adds.any (λ r. is_of nav r && is_owned_by on r)) ∙ any)) [
        | inl here ↦
            let both = and_parts (is_of nav row) (is_owned_by on row) here in
            let owned : lib.Dec.eqb owner.0 on.0 ≡ true = sym (ap (λ (o : Option StateId). option_map_or (λ (s : StateId). lib.Dec.eqb s.0 on.0) o false) hangs_there) ∙ both.1 in
            inl (eqb-true row.nav.0 nav.0 both.0, eqb-true owner.0 on.0 owned)
        | inr there ↦ inr there
      ]

  holds_cases : (nav : NavId) (state : StateId) → holds nav state new ≡ true → ((row.nav.0 ≡ nav.0) × (row.state.0 ≡ state.0)) ⊎ (holds nav state rows ≡ true)
  holds_cases nav state any =
      elim (or_cases (is_of nav row && is_in_state state row) (holds nav state rows) (sym (adds.any (λ r. is_of nav r && is_in_state state r)) ∙ any)) [
        | inl here ↦
            let both = and_parts (is_of nav row) (is_in_state state row) here in
            inl (eqb-true row.nav.0 nav.0 both.0, eqb-true row.state.0 state.0 both.1)
        | inr there ↦ inr there
      ]

  free_down : (nav : NavId) → is_free nav new ≡ true → is_free nav rows ≡ true
  free_down nav any =
      elim (or_cases (is_of nav row && is_none row.owner) (is_free nav rows) (sym (adds.any (λ r. is_of nav r && is_none r.owner)) ∙ any)) [
        | inl here ↦
            let both = and_parts (is_of nav row) (is_none row.owner) here in
            absurd (false≢true (sym (ap (λ (o : Option StateId). is_none o) hangs_there) ∙ both.1))
        | inr there ↦ there
      ]

  module _ (rooted : IsRooted rows) where
    owners_frame : (nav : NavId) (one other : StateId) → hangs_on nav one new ≡ true → hangs_on nav other new ≡ true → one.0 ≡ other.0
    owners_frame nav one other hangs hangs_too =
        elim (hangs_cases nav one hangs) [
          | inl here ↦
              elim (hangs_cases nav other hangs_too) [
                | inl too ↦ sym here.1 ∙ too.1
                | inr there ↦ absurd (old_nav nav (is_owned_by other) there here.0)
              ]
          | inr there ↦
              elim (hangs_cases nav other hangs_too) [
                | inl here ↦ absurd (old_nav nav (is_owned_by one) there here.0)
                | inr too ↦ rooted.owners nav one other there too
              ]
        ]

    states_frame : (state : StateId) (one other : NavId) → holds one state new ≡ true → holds other state new ≡ true → one.0 ≡ other.0
    states_frame state one other held_one held_other =
        elim (holds_cases one state held_one) [
          | inl here ↦
              elim (holds_cases other state held_other) [
                | inl too ↦ sym here.0 ∙ too.0
                | inr there ↦ absurd (old_state other state there here.1)
              ]
          | inr there ↦
              elim (holds_cases other state held_other) [
                | inl here ↦ absurd (old_state one state there here.1)
                | inr too ↦ rooted.states state one other there too
              ]
        ]

    another_frame : (nav : NavId) (on : StateId) → hangs_on nav on new ≡ true → holds nav on new ≡ true → ⊥
    another_frame nav on hangs held_by =
        elim (hangs_cases nav on hangs) [
          | inl here ↦
              elim (holds_cases nav on held_by) [
                | inl too ↦
                    let w = witness (is_in_state owner) rows owner_there in
                    false≢true (sym state_is_new ∙ w.is_in (is_in_state row.state) (eq-eqb w.it.state.0 row.state.0 (eqb-true w.it.state.0 owner.0 w.passes ∙ here.1 ∙ sym too.1)))
                | inr there ↦ old_nav nav (is_in_state on) there here.0
              ]
          | inr there ↦
              elim (holds_cases nav on held_by) [
                | inl here ↦ old_nav nav (is_owned_by on) there here.0
                | inr too ↦ false≢true (sym (rooted.another nav on there) ∙ too)
              ]
        ]

    pub IsRooted-framed : IsRooted new
    IsRooted-framed = record {
      owners = owners_frame;
      top_owner = λ nav on hangs.
          elim (hangs_cases nav on hangs) [
            | inl here ↦ λ at_top. is_child (here.0 ∙ at_top)
            | inr there ↦ rooted.top_owner nav on there
          ];
      child_owner = λ nav is. rooted.child_owner nav (free_down nav is);
      states = states_frame;
      another = λ nav on hangs.
          elim (cases_Bool (holds nav on new)) [
            | inl held_by ↦ absurd (another_frame nav on hangs held_by)
            | inr apart ↦ apart
          ];
      leads = λ nav has test top step.
          let step_old = λ (child parent : NavId) (on : StateId) (hangs : hangs_on child on rows ≡ true) (held_by : holds parent on rows ≡ true). step child parent on (more _ hangs) (more _ held_by) in
          elim (or_cases (is_of nav row) (has_row nav rows) (sym (adds.any (is_of nav)) ∙ has)) [
            | inr there ↦ rooted.leads nav there test top step_old
            | inl here ↦
                let w = witness (is_in_state owner) rows owner_there in
                let above = rooted.leads w.it.nav (w.is_in (is_of w.it.nav) (eq-eqb w.it.nav.0 w.it.nav.0 refl)) test top step_old in
                let hangs : hangs_on nav owner new ≡ true = adds.any (λ r. is_of nav r && is_owned_by owner r) ∙ ap (λ b. b || hangs_on nav owner rows) (and_from _ _ here (rw hangs_there (eq-eqb owner.0 owner.0 refl))) in
                let held_by : holds w.it.nav owner new ≡ true = more _ (w.is_in (λ r. is_of w.it.nav r && is_in_state owner r) (and_from _ _ (eq-eqb w.it.nav.0 w.it.nav.0 refl) w.passes)) in
                step nav w.it.nav owner hangs held_by above
          ];
    }

  pub IsSound-framed : (current now : ℕ) (added used : List NavId) → IsSound (record { rows = rows; current = current; added = added }) → list_any (is_entry row.entry) rows ≡ false → IsSound (record { rows = new; current = now; added = used })
  IsSound-framed current now added used sound entry_is_new =
      let step_is_new : list_any (stands_at row.nav row.step.0) rows ≡ false =
      elim (cases_Bool (list_any (stands_at row.nav row.step.0) rows)) [
        | inl any ↦ absurd (old_nav row.nav (λ r. lib.Dec.eqb r.step.0 row.step.0) any refl)
        | inr none ↦ none
      ] in
      record {
        entries = entries_new rows row new adds entry_is_new step_is_new sound.entries;
        steps = steps_new rows row new adds entry_is_new step_is_new sound.steps;
        rooted = IsRooted-framed sound.rooted;
        top_row = λ nav zero_is. more (stands_at nav 0) (sound.top_row nav zero_is);
        anchored = λ nav on hangs.
            elim (hangs_cases nav on hangs) [
              | inl here ↦ more (is_in_state on) (rw (sym (state_same owner on here.1)) owner_there)
              | inr there ↦ more (is_in_state on) (sound.anchored nav on there)
            ];
      }
