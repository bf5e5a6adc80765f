-- A navigable gets a document state: the rows still hang together where the state is no other navigable's.
use Rattle.std.proofs.Common.{◌≡◌, ℕ, Bool, true, false, ◌&&◌, cond, List, refl, ap, sym, ◌∙◌, ◌+◌, ◌≤◌, arith, ◌⊎◌, inl, inr, Option}
use Rattle.std.specs.List.{list_any, count_by}
use Rattle.std.specs.Option.{option_map_or, is_none}
use Rattle.std.proofs.lemmas.Bool.{cases_Bool, or_cases, false≢true, and_parts, and_from, eqb-true, eq-eqb}
use Rattle.tab_ids.specs.declared.NavId.{NavId}
use Rattle.tab_ids.specs.declared.StateId.{StateId}
use Rattle.tab_ids.specs.declared.EntryId.{EntryId}
use Rattle.log_model.specs.declared.row.Row.{Row}
use Rattle.log_model.specs.History.{same_entry, is_of, has_state}
use Rattle.log_model.specs.Soundness.{is_entry, stands_at, is_in_state, holds, hangs_on, IsRooted, IsSound}
use Rattle.history_laws.proofs.Members.{or_right, IsIn, witness}
use Rattle.history_laws.proofs.Tidying.{nav_same, state_same}
use Rattle.history_laws.proofs.OneMore.{AddsRow, count_by-none}

-- the new rows have all of the old ones, no new owner, and at most one new document state of one navigable
pub record Joins (rows : List Row) (nav : NavId) (state : StateId) (new : List Row) : Type 0 where
  pub more : (test : Row → Bool) → list_any test rows ≡ true → list_any test new ≡ true
  pub down : (f : ℕ → Option StateId → Bool) → list_any (λ (r : Row). f r.nav.0 r.owner) new ≡ true → list_any (λ (r : Row). f r.nav.0 r.owner) rows ≡ true
  pub held : (other : NavId) (its : StateId) → holds other its new ≡ true → ((nav.0 ≡ other.0) × (state.0 ≡ its.0)) ⊎ (holds other its rows ≡ true)

-- the old row has the navigable and the owner of the new one
pub record IsLike (rows : List Row) (row : Row) : Type 0 where
  pub it : Row
  pub is_in : IsIn rows it
  pub nav : row.nav.0 ≡ it.nav.0
  pub owner : row.owner ≡ it.owner

pub Joins-added : (rows : List Row) (row : Row) (new : List Row) → AddsRow rows row new → IsLike rows row → Joins rows row.nav row.state new
Joins-added rows row new adds like = record {
  more = λ test any. adds.any test ∙ or_right (test row) (list_any test rows) any;
  down = λ f any.
      elim (or_cases (f row.nav.0 row.owner) (list_any (λ (r : Row). f r.nav.0 r.owner) rows) (sym (adds.any (λ (r : Row). f r.nav.0 r.owner)) ∙ any)) [
        | inl here ↦ like.is_in (λ (r : Row). f r.nav.0 r.owner) (rw (← like.nav, ← like.owner) here)
        | inr there ↦ there
      ];
  held = λ other its any.
      elim (or_cases (is_of other row && is_in_state its row) (holds other its rows) (sym (adds.any (λ r. is_of other r && is_in_state its r)) ∙ any)) [
        | inl here ↦
            let both = and_parts (is_of other row) (is_in_state its row) here in
            inl (eqb-true row.nav.0 other.0 both.0, eqb-true row.state.0 its.0 both.1)
        | inr there ↦ inr there
      ];
}

module _ (rows : List Row) (nav : NavId) (state : StateId) (new : List Row) (joins : Joins rows nav state new) where
  pub down_hangs : (other : NavId) (owner : StateId) → hangs_on other owner new ≡ true → hangs_on other owner rows ≡ true
  down_hangs other owner = joins.down (λ n o. lib.Dec.eqb n other.0 && option_map_or (λ (s : StateId). lib.Dec.eqb s.0 owner.0) o false)

  module _ (rooted : IsRooted rows) (anchored : (child : NavId) (owner : StateId) → hangs_on child owner rows ≡ true → has_state owner rows ≡ true) (mine : (other : NavId) → holds other state rows ≡ true → other.0 ≡ nav.0) where
    states_new : (its : StateId) (one other : NavId) → holds one its new ≡ true → holds other its new ≡ true → one.0 ≡ other.0
    states_new its one other held_one held_other =
        elim (joins.held one its held_one) [
          | inl here ↦
              elim (joins.held other its held_other) [
                | inl too ↦ sym here.0 ∙ too.0
                | inr there ↦ sym here.0 ∙ sym (mine other (rw (state_same state its here.1) there))
              ]
          | inr there ↦
              elim (joins.held other its held_other) [
                | inl here ↦ mine one (rw (state_same state its here.1) there) ∙ here.0
                | inr too ↦ rooted.states its one other there too
              ]
        ]

    another_new : (child : NavId) (owner : StateId) → hangs_on child owner rows ≡ true → holds child owner new ≡ true → ⊥
    another_new child owner hangs held_by =
        elim (joins.held child owner held_by) [
          | inr there ↦ false≢true (sym (rooted.another child owner hangs) ∙ there)
          | inl here ↦
              let v = witness (is_in_state owner) rows (anchored child owner hangs) in
              let holds_at : holds v.it.nav owner rows ≡ true = v.is_in (λ r. is_of v.it.nav r && is_in_state owner r) (and_from _ _ (eq-eqb v.it.nav.0 v.it.nav.0 refl) v.passes) in
              let is_mine = mine v.it.nav (rw (state_same state owner here.1) holds_at) in
              let same = nav_same v.it.nav child (is_mine ∙ here.0) in
              false≢true (sym (rooted.another child owner hangs) ∙ rw (sym same) holds_at)
        ]

    pub IsRooted-joined : IsRooted new
    IsRooted-joined = record {
      owners = λ child one other hangs hangs_too. rooted.owners child one other (down_hangs child one hangs) (down_hangs child other hangs_too);
      top_owner = λ child owner hangs. rooted.top_owner child owner (down_hangs child owner hangs);
      child_owner = λ child is. rooted.child_owner child (joins.down (λ n o. lib.Dec.eqb n child.0 && is_none o) is);
      states = states_new;
      another = λ child owner hangs.
          elim (cases_Bool (holds child owner new)) [
            | inl held_by ↦ absurd (another_new child owner (down_hangs child owner hangs) held_by)
            | inr apart ↦ apart
          ];
      leads = λ child has test top step.
          rooted.leads child (joins.down (λ n o. lib.Dec.eqb n child.0) has) test top (λ below parent owner hangs held_by. step below parent owner (joins.more _ hangs) (joins.more _ held_by));
    }

-- at most one passes, also with the new row
pub one_at_most : (rows : List Row) (row : Row) (new : List Row) → AddsRow rows row new → (test : Row → Bool) → count_by test rows ≤ 1 → (test row ≡ true → list_any test rows ≡ false) → count_by test new ≤ 1
one_at_most rows row new adds test few apart =
    elim (cases_Bool (test row)) [
      | inl passes ↦
          let all : count_by test new ≡ 1 + count_by test rows = adds.count test ∙ ap (λ b. cond b 1 0 + count_by test rows) passes in
          omega (arith, all, count_by-none test rows (apart passes))
      | inr fails ↦
          let all : count_by test new ≡ 0 + count_by test rows = adds.count test ∙ ap (λ b. cond b 1 0 + count_by test rows) fails in
          omega (arith, all, few)
    ]

pub entry_same : (one other : EntryId) → same_entry one other ≡ true → one ≡ other
entry_same one other same =
    let both = and_parts (lib.Dec.eqb one.maker other.maker) (lib.Dec.eqb one.nr other.nr) same in
    let makers : record { maker = one.maker; nr = one.nr } ≡ record { maker = other.maker; nr = one.nr } = ap (λ (n : ℕ). let entry : EntryId = record { maker = n; nr = one.nr } in entry) (eqb-true one.maker other.maker both.0) in
    let numbers : record { maker = other.maker; nr = one.nr } ≡ record { maker = other.maker; nr = other.nr } = ap (λ (n : ℕ). let entry : EntryId = record { maker = other.maker; nr = n } in entry) (eqb-true one.nr other.nr both.1) in
    makers ∙ numbers

-- a navigable that has rows gets one more, a step further
module _ (rows : List Row) (row : Row) (new : List Row) (adds : AddsRow rows row new) (entry_is_new : list_any (is_entry row.entry) rows ≡ false) (step_is_new : list_any (stands_at row.nav row.step.0) rows ≡ false) where
  pub entries_new : ((entry : EntryId) → count_by (is_entry entry) rows ≤ 1) → (entry : EntryId) → count_by (is_entry entry) new ≤ 1
  entries_new few entry =
      one_at_most rows row new adds (is_entry entry) (few entry) (λ is. rw (sym (entry_same row.entry entry is)) entry_is_new)

  pub steps_new : ((nav : NavId) (step : ℕ) → count_by (stands_at nav step) rows ≤ 1) → (nav : NavId) (step : ℕ) → count_by (stands_at nav step) new ≤ 1
  steps_new few nav step =
      one_at_most rows row new adds (stands_at nav step) (few nav step) (λ is.
      let both = and_parts (is_of nav row) (lib.Dec.eqb row.step.0 step) is in
      rw (sym (nav_same row.nav nav (eqb-true row.nav.0 nav.0 both.0)), sym (eqb-true row.step.0 step both.1)) step_is_new)

  pub IsSound-joined : (current now : ℕ) (added used : List NavId) → IsSound (record { rows = rows; current = current; added = added }) → IsLike rows row → ((other : NavId) → holds other row.state rows ≡ true → other.0 ≡ row.nav.0) → IsSound (record { rows = new; current = now; added = used })
  IsSound-joined current now added used sound like mine =
      let joins = Joins-added rows row new adds like in
      record {
        entries = entries_new sound.entries;
        steps = steps_new sound.steps;
        rooted = IsRooted-joined rows row.nav row.state new joins sound.rooted sound.anchored mine;
        top_row = λ nav zero_is. joins.more (stands_at nav 0) (sound.top_row nav zero_is);
        anchored = λ nav owner hangs. joins.more _ (sound.anchored nav owner (down_hangs rows row.nav row.state new joins nav owner hangs));
      }
