-- A navigable that has entries still is shown at a step as it was at another one, where targets have the document states that they had.
use Rattle.std.proofs.Common.{◌≡◌, ℕ, ◌≤◌, Bool, true, false, ◌||◌, ◌==◌, List, [], ◌∷◌, Option, Some, None, refl, sym, ap, ◌∙◌, arith}
use Rattle.std.specs.Prelude.{find, is_some, option_map, slice_get}
use Rattle.std.proofs.lemmas.Bool.{and_from, and_parts}
use Rattle.tab_ids.specs.declared.NavId.{NavId}
use Rattle.tab_ids.specs.declared.StateId.{StateId}
use Rattle.log_model.specs.declared.row.Row.{Row}
use Rattle.log_model.proofs.Refl.{nat_eq_refl}
use Rattle.log_model.specs.Equal.{holds}
use Rattle.log_model.specs.History.{has_nav, has_row, is_of, target_entry}
use Rattle.log_model.specs.Places.{holder_of, is_shown, targets_state}
use Rattle.log_model.specs.Seen.{Place, Seen, place_of}
use Rattle.log_model.specs.Soundness.{IsSound}
use Rattle.seen_facts.specs.Hang.AsPlaces.{IsChain, IsHung}
use Rattle.seen_facts.specs.Hang.Forms.{Form, form_in, form_of, forms_of}
use Rattle.seen_facts.specs.Hang.Hanging.{Hangs, IsPlaced}
use Rattle.seen_facts.proofs.Hang.Forms.{IsPlaceOf, form_of_place, nav_is, place_there}
use Rattle.seen_facts.proofs.Hang.Hung.{has_begun, hangs_as, place_chain}
use Rattle.seen_facts.proofs.Hang.Members.{Passing, any_has, find_has, has_any}
use Rattle.seen_facts.proofs.Hang.Parts.{state_is}
use Rattle.seen_facts.proofs.Hang.Targets.{IsTarget, some_is, target_has, target_there}
use Rattle.seen_facts.proofs.Walk.Placed.{found_nav}
use Rattle.tab_facts.specs.ShownWays.Ways.{IsOnTarget, LeadsUp, hanging}
use Rattle.tab_facts.proofs.ShownWays.Keeps.{shown_on_way, way_more}
use Rattle.tab_facts.proofs.ShownWays.Ways.{leads_shown, shown_leads}
use Rattle.leave_facts.proofs.Stays.{StepsStay, stays_in}
use Rattle.leave_facts.proofs.Targets.{stays_used}

either : (a b : Bool) → b ≡ true → (a || b) ≡ true
either true b is = refl
either false b is = is

-- ---- one log

-- a target has a document state
record IsTargetOf (rows : List Row) (step : ℕ) (nav : NavId) (state : StateId) : Type 0 where
  target : Row
  at : target_entry rows nav step ≡ Some target
  its_state : target.state ≡ state

target_of : (rows : List Row) (step : ℕ) (nav : NavId) (state : StateId) → targets_state rows step nav state ≡ true → IsTargetOf rows step nav state
target_of rows step nav state is = by_target (target_entry rows nav step) refl is
  where
    by_target : (o : Option Row) → target_entry rows nav step ≡ o → holds (λ (row : Row). row.state.0 == state.0) o ≡ true → IsTargetOf rows step nav state
    by_target None e never = absurd cc
    by_target (Some row) e has = record { target = row; at = e; its_state = state_is row.state state has }

targets_own : (rows : List Row) (step : ℕ) (nav : NavId) (row : Row) → target_entry rows nav step ≡ Some row → targets_state rows step nav row.state ≡ true
targets_own rows step nav row at = ap (λ (o : Option Row). holds (λ (r : Row). r.state.0 == row.state.0) o) at ∙ nat_eq_refl row.state.0

-- a navigable has one target
pub targets_one : (rows : List Row) (step : ℕ) (nav : NavId) (one other : StateId) → targets_state rows step nav one ≡ true → targets_state rows step nav other ≡ true → one ≡ other
targets_one rows step nav one other is also =
    let a : IsTargetOf rows step nav one = target_of rows step nav one is in
    let b : IsTargetOf rows step nav other = target_of rows step nav other also in
    let two : Some a.target ≡ Some b.target = sym a.at ∙ b.at in
    let same : a.target ≡ b.target = cc in
    sym a.its_state ∙ ap (λ (r : Row). r.state) same ∙ b.its_state

-- who has a target has an entry
pub target_row : (rows : List Row) (nav : NavId) (step : ℕ) → is_some (target_entry rows nav step) ≡ true → has_row nav rows ≡ true
target_row rows nav step some =
    let o = some_is (target_entry rows nav step) some in
    let its : IsTarget rows nav step o.0 = target_has rows nav step o.0 o.1 in
    has_any (is_of nav) rows o.0 its.there (ap (λ (n : NavId). n.0 == nav.0) its.nav_is ∙ nat_eq_refl nav.0)

module _ (s : Seen) (sound : IsSound s.history) (hangs : Hangs s) where
  -- who is shown has an entry
  pub shown_row : (step : ℕ) (nav : NavId) → is_shown s.history.rows step nav ≡ true → has_row nav s.history.rows ≡ true
  shown_row step nav shown = target_row s.history.rows nav step (has_begun s sound hangs step nav shown)

  -- who has an entry has a place
  record HasPlace (nav : NavId) : Type 0 where
    place : Place
    found : place_of s nav ≡ Some place

  row_place : (nav : NavId) → has_row nav s.history.rows ≡ true → HasPlace nav
  row_place nav has =
      let a : Passing (is_of nav) s.history.rows = any_has (is_of nav) s.history.rows has in
      let p : IsPlaced (forms_of s.places) a.it = hangs.rows.placed a.it a.there in
      let it : IsPlaceOf s.places a.it.nav p.form = place_there s.places a.it.nav p.form p.found in
      record { place = it.place; found = ap (λ (n : NavId). place_of s n) (sym (nav_is a.it.nav nav a.passes)) ∙ it.found }

  -- so has its parent
  parent_row : (nav : NavId) (place : Place) (parent : NavId) (others : List NavId) → place_of s nav ≡ Some place → place.above ≡ parent ∷ others → has_row nav s.history.rows ≡ true → has_row parent s.history.rows ≡ true
  parent_row nav place parent others found up has = by_holder hung.holder_is
    where
      a : Passing (is_of nav) s.history.rows
      a = any_has (is_of nav) s.history.rows has

      own : a.it.nav ≡ place.nav
      own = nav_is a.it.nav nav a.passes ∙ sym (found_nav s.places nav place found)

      here : a.it.step.0 ≤ a.it.step.0
      here = omega arith

      hung : IsHung s.history.rows place parent
      hung =
          (hangs_as s sound hangs nav place found).hung a.it.step.0 parent others (target_there s.history.rows place.nav a.it.step.0 a.it a.there own here) up

      by_holder : holder_of hung.owner s.history.rows ≡ Some parent → has_row parent s.history.rows ≡ true
      by_holder is = by_row (find (λ (row : Row). row.state.0 == hung.owner.0) s.history.rows) refl is
        where
          by_row : (o : Option Row) → find (λ (row : Row). row.state.0 == hung.owner.0) s.history.rows ≡ o → option_map (λ (row : Row). row.nav) o ≡ Some parent → has_row parent s.history.rows ≡ true
          by_row None e never = absurd cc
          by_row (Some row) e same =
              let its : row.nav ≡ parent = cc in
              has_any (is_of parent) s.history.rows row (find_has (λ (r : Row). r.state.0 == hung.owner.0) s.history.rows row e).0 (ap (λ (n : NavId). n.0 == parent.0) its ∙ nat_eq_refl parent.0)

  chain_rows : (above : List NavId) (nav : NavId) (place : Place) → place_of s nav ≡ Some place → place.above ≡ above → IsChain s.places above → has_row nav s.history.rows ≡ true → (x : NavId) → has_nav above x ≡ true → has_row x s.history.rows ≡ true
  chain_rows [] nav place found up chain has x in_ = absurd cc
  chain_rows (parent ∷ others) nav place found up chain has x in_ =
      by_first (parent.0 == x.0) refl in_ (chain_rows others parent chain.0.place chain.0.found chain.0.above_is chain.1 above x)
    where
      above : has_row parent s.history.rows ≡ true
      above = parent_row nav place parent others found up has

      by_first : (b : Bool) → (parent.0 == x.0) ≡ b → (b || has_nav others x) ≡ true → (has_nav others x ≡ true → has_row x s.history.rows ≡ true) → has_row x s.history.rows ≡ true
      by_first true same h more = ap (λ (n : NavId). has_row n s.history.rows) (sym (nav_is parent x same)) ∙ above
      by_first false apart h more = more h

  -- so has each above it
  above_rows : (nav : NavId) (place : Place) → place_of s nav ≡ Some place → has_row nav s.history.rows ≡ true → (x : NavId) → has_nav place.above x ≡ true → has_row x s.history.rows ≡ true
  above_rows nav place found has x in_ =
      chain_rows place.above nav place found refl (place_chain s sound hangs nav place found) has x in_

-- ---- one log and another

-- each navigable with an entry hangs where it hung
pub record HangAlike (s t : Seen) : Type 0 where
  pub each : (nav : NavId) → has_row nav s.history.rows ≡ true → option_map hanging (place_of t nav) ≡ option_map hanging (place_of s nav)

-- where it has the form that it had
pub form_hangs : (s t : Seen) (nav : NavId) → form_in (forms_of t.places) nav ≡ form_in (forms_of s.places) nav → option_map hanging (place_of t nav) ≡ option_map hanging (place_of s nav)
form_hangs s t nav same = of_form (place_of t nav) ∙ ap (λ (o : Option Form). option_map hung_by o) (sym (form_of_place t.places nav) ∙ same ∙ form_of_place s.places nav) ∙ sym (of_form (place_of s nav))
  where
    hung_by : Form → List NavId × List StateId
    hung_by f = (f.above, f.owners)

    of_form : (o : Option Place) → option_map hanging o ≡ option_map hung_by (option_map form_of o)
    of_form None = refl
    of_form (Some place) = refl

-- where each has
pub forms_hang : (s t : Seen) → forms_of t.places ≡ forms_of s.places → HangAlike s t
forms_hang s t same = record { each = λ nav has. form_hangs s t nav (ap (λ (l : List Form). form_in l nav) same) }

-- of those that were shown at a step, each that has entries still has a target of the same document state at the other one
pub record TargetsAlike (s t : Seen) (from to : ℕ) : Type 0 where
  pub each : (nav : NavId) → has_row nav t.history.rows ≡ true → is_shown s.history.rows from nav ≡ true → (state : StateId) → targets_state s.history.rows from nav state ≡ true → targets_state t.history.rows to nav state ≡ true

record WasHung (s : Seen) (nav : NavId) (place : Place) : Type 0 where
  old : Place
  found : place_of s nav ≡ Some old
  above : old.above ≡ place.above
  owners : old.owners ≡ place.owners

was_hung : (s t : Seen) (nav : NavId) (place : Place) → option_map hanging (place_of t nav) ≡ option_map hanging (place_of s nav) → place_of t nav ≡ Some place → WasHung s nav place
was_hung s t nav place same found = by_old (place_of s nav) refl
  where
    by_old : (o : Option Place) → place_of s nav ≡ o → WasHung s nav place
    by_old None none =
        let never : Some (hanging place) ≡ None = sym (ap (option_map hanging) found) ∙ same ∙ ap (option_map hanging) none in absurd cc
    by_old (Some old) at =
        let two : Some (hanging place) ≡ Some (hanging old) = sym (ap (option_map hanging) found) ∙ same ∙ ap (option_map hanging) at in
        let one : hanging place ≡ hanging old = cc in
        record { old = old; found = at; above = sym (ap (λ (h : List NavId × List StateId). h.0) one); owners = sym (ap (λ (h : List NavId × List StateId). h.1) one) }

module _ (s t : Seen) (sound : IsSound s.history) (hangs : Hangs s) (then_sound : IsSound t.history) (then_hangs : Hangs t) (hung : HangAlike s t) (from to : ℕ) (alike : TargetsAlike s t from to) where
  -- who was shown is shown then
  pub shown_then : (nav : NavId) → has_row nav t.history.rows ≡ true → is_shown s.history.rows from nav ≡ true → is_shown t.history.rows to nav ≡ true
  shown_then nav has shown = leads_shown t then_sound then_hangs to nav now.old now.found some leads
    where
      was : HasPlace s sound hangs nav
      was = row_place s sound hangs nav (shown_row s sound hangs from nav shown)

      now : WasHung t nav was.place
      now = was_hung t s nav was.place (sym (hung.each nav (shown_row s sound hangs from nav shown))) was.found

      some : is_some (target_entry t.history.rows nav to) ≡ true
      some =
          let o = some_is (target_entry s.history.rows nav from) (has_begun s sound hangs from nav shown) in
          let its : IsTargetOf t.history.rows to nav o.0.state = target_of t.history.rows to nav o.0.state (alike.each nav has shown o.0.state (targets_own s.history.rows from nav o.0 o.1)) in
          ap is_some its.at

      leads : LeadsUp t to nav now.old
      leads x own parent others in_ found up =
          record {
            target = its.target;
            at = its.at;
            owner = ap (λ (l : List StateId). slice_get l 0) (sym old.owners) ∙ on.owner ∙ ap (λ (st : StateId). Some st) (sym its.its_state);
          }
        where
          on_way : has_nav (nav ∷ was.place.above) x ≡ true
          on_way = ap (λ (l : List NavId). has_nav (nav ∷ l) x) (sym now.above) ∙ in_

          x_shown : is_shown s.history.rows from x ≡ true
          x_shown = shown_on_way s sound hangs from nav was.place was.found shown x on_way

          old : WasHung s x own
          old = was_hung s t x own (hung.each x (shown_row s sound hangs from x x_shown)) found

          first : has_nav old.old.above parent ≡ true
          first =
              ap (λ (l : List NavId). has_nav l parent) (old.above ∙ up) ∙ ap (λ (b : Bool). b || has_nav others parent) (nat_eq_refl parent.0)

          parent_above : has_nav was.place.above parent ≡ true
          parent_above = way_more s sound hangs nav was.place was.found x old.old on_way old.found parent first

          parent_shown : is_shown s.history.rows from parent ≡ true
          parent_shown =
              shown_on_way s sound hangs from nav was.place was.found shown parent (either (nav.0 == parent.0) (has_nav was.place.above parent) parent_above)

          parent_has : has_row parent t.history.rows ≡ true
          parent_has =
              above_rows t then_sound then_hangs nav now.old now.found has parent (ap (λ (l : List NavId). has_nav l parent) now.above ∙ parent_above)

          on : IsOnTarget s.history.rows from old.old parent
          on = shown_leads s sound hangs from nav was.place was.found shown x old.old parent others on_way old.found (old.above ∙ up)

          its : IsTargetOf t.history.rows to parent on.target.state
          its =
              target_of t.history.rows to parent on.target.state (alike.each parent parent_has parent_shown on.target.state (targets_own s.history.rows from parent on.target on.at))

  -- so who stayed at the one step stays at the other
  pub stays_then : (nav : NavId) (state : StateId) → has_row nav t.history.rows ≡ true → stays_in s.history.rows from nav state ≡ true → stays_in t.history.rows to nav state ≡ true
  stays_then nav state has is =
      let parts = and_parts (is_shown s.history.rows from nav) (targets_state s.history.rows from nav state) is in
      and_from (is_shown t.history.rows to nav) (targets_state t.history.rows to nav state) (shown_then nav has parts.0) (alike.each nav has parts.0 state parts.1)

-- ---- each step

-- who has an entry still has a target of the same document state at each step
pub record EachAlike (s t : Seen) : Type 0 where
  pub targets : (step : ℕ) → TargetsAlike s t step step
  pub current : (nav : NavId) (state : StateId) → stays_in t.history.rows t.history.current nav state ≡ stays_in t.history.rows s.history.current nav state

-- so who stayed where it was, and where a traversal goes, does so then
pub steps_alike : (s t : Seen) → IsSound s.history → Hangs s → IsSound t.history → Hangs t → HangAlike s t → EachAlike s t → StepsStay s t
steps_alike s t sound hangs then_sound then_hangs hung alike =
    record {
      now = λ nav state had has is. alike.current nav state ∙ stays_then s t sound hangs then_sound then_hangs hung s.history.current s.history.current (alike.targets s.history.current) nav state has is;
      there = λ goal nav state had has now is.
          stays_used t.history.rows goal nav state ∙ stays_then s t sound hangs then_sound then_hangs hung goal goal (alike.targets goal) nav state has (sym (stays_used s.history.rows goal nav state) ∙ is);
    }
