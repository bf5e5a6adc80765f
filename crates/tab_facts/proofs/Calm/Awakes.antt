-- Where all stand, each awake navigable with an entry is shown, so that a tab where no traversal runs is calm then.
use Rattle.tab_facts.proofs.Calm.Calms.{IsGivenRow, given_row}
use Rattle.tab_facts.specs.Calm.Calm.{IsCalm, IsHere}
use Rattle.tab_facts.specs.FrameWhole.Tab.{AreAwakeWithRows}
use Rattle.seen_facts.proofs.Hang.Forms.{nav_is}
use Rattle.seen_facts.proofs.Hang.Hung.{hangs_as, own_form, place_chain}
use Rattle.seen_facts.proofs.Hang.Members.{Passing, any_has, find_has}
use Rattle.seen_facts.proofs.Hang.Targets.{IsTarget, target_has, target_there}
use Rattle.seen_facts.specs.Hang.AsPlaces.{IsChain}
use Rattle.seen_facts.specs.Hang.Forms.{Form, form_in, form_of, forms_of}
use Rattle.seen_facts.specs.Hang.Hanging.{BeginsBy, Hangs, IsPlaced}
use Rattle.seen_facts.specs.Home.Homes.{AreHomed, IsOnAwake}
use Rattle.log_model.specs.Equal.{holds}
use Rattle.log_model.specs.History.{has_nav, is_of, target_entry}
use Rattle.log_model.specs.Places.{all_stand, has_arrived, is_awake, is_given_target, is_lost_in, is_shown, is_standing, is_wanted}
use Rattle.log_model.specs.Seen.{Place, Seen, Status, asleep, awake, lost, place_in, place_of}
use Rattle.log_model.specs.Soundness.{IsSound, stands_at}
use Rattle.log_model.specs.declared.row.Row.{Row}
use Rattle.seen_facts.specs.Place.Standing.{AreStanding, IsStanding}
use Rattle.seen_facts.proofs.Rest.Seated.{all_has}
use Rattle.tab_facts.proofs.ShownWays.Ways.{leads_shown, shown_leads}
use Rattle.tab_facts.specs.ShownWays.Ways.{IsOnTarget, LeadsUp}
use Rattle.std.proofs.Common.{Bool, List, None, Option, Some, [], ap, arith, false, if◌then◌else◌, inr, not, refl, subst, sym, true, ℕ, ◌&&◌, ◌==◌, ◌||◌, ◌∙◌, ◌∷◌, ◌≡◌}
use Rattle.std.proofs.lemmas.Bool.{and_parts, eqb-true}
use Rattle.std.specs.List.{list_any}
use Rattle.std.specs.Prelude.{is_some, slice_get}
use Rattle.tab_ids.specs.declared.DocId.{DocId}
use Rattle.tab_ids.specs.declared.NavId.{NavId}
use Rattle.tab_ids.specs.declared.StateId.{StateId}
use Rattle.seen_facts.proofs.Walk.Placed.{found_nav}

-- nobody is known lost
pub lost_none : (s : Seen) → ((nav : NavId) (place : Place) → place_of s nav ≡ Some place → IsStanding s place) → (above : List NavId) → list_any (is_lost_in s.places) above ≡ false
lost_none s standing [] = refl
lost_none s standing (nav ∷ above) = rw (by_place (place_of s nav) refl) (lost_none s standing above)
  where
    by_place : (o : Option Place) → place_of s nav ≡ o → is_lost_in s.places nav ≡ false
    by_place None at = rw at refl
    by_place (Some place) at = by_status place.status refl
      where
        by_status : (status : Status) → place.status ≡ status → is_lost_in s.places nav ≡ false
        by_status (awake doc) is = rw at (rw is refl)
        by_status lost is = absurd ((standing nav place at).unlost is)
        by_status asleep is = rw at (rw is refl)

-- who is shown stands
pub stand_each : (s : Seen) → ((nav : NavId) (place : Place) → place_of s nav ≡ Some place → IsStanding s place) → (step : ℕ) → all_stand s step ≡ true → (nav : NavId) (place : Place) → place_of s nav ≡ Some place → is_shown s.history.rows step nav ≡ true → is_standing s.history.rows step place ≡ true
stand_each s standing step all nav place found shown =
    sym (ap (λ (o : Option Place). holds (is_standing s.history.rows step) o) own)
    ∙ sym (ap (λ (b : Bool). if b then holds (is_standing s.history.rows step) (place_in s.places place.nav) else true) wanted)
    ∙ all_has (λ (p : Place). if is_wanted s.history.rows s.places step p then holds (is_standing s.history.rows step) (place_in s.places p.nav) else true) s.places all place (find_has (λ (p : Place). p.nav.0 == nav.0) s.places place found).0
  where
    own : place_of s place.nav ≡ Some place
    own = ap (λ (n : NavId). place_of s n) (found_nav s.places nav place found) ∙ found

    wanted : is_wanted s.history.rows s.places step place ≡ true
    wanted =
        rw (ap (λ (n : NavId). is_shown s.history.rows step n) (found_nav s.places nav place found) ∙ shown) (rw (lost_none s standing place.above) refl)

-- the target that a standing place was given
pub given_standing : (s : Seen) (step : ℕ) (place : Place) → is_standing s.history.rows step place ≡ true → IsGivenRow s step place
given_standing s step place stand =
    given_row s step place (and_parts (is_given_target s.history.rows step place) (not place.is_unmet) (and_parts (is_given_target s.history.rows step place && not place.is_unmet) (has_arrived place) stand).0).0

module _ (s : Seen) (sound : IsSound s.history) (hangs : Hangs s) (homes : AreHomed s) (with_rows : AreAwakeWithRows s) (step : ℕ) where
  -- it has an entry by the step, where it hangs on the target of the one above it
  some_by : (nav : NavId) (place : Place) (doc : DocId) (holder : Row) → place_of s nav ≡ Some place → place.status ≡ awake doc → slice_get place.owners 0 ≡ Some holder.state → IsTarget s.history.rows holder.nav step holder → is_some (target_entry s.history.rows nav step) ≡ true
  some_by nav place doc holder found wakes owner target =
      let a : Passing (is_of place.nav) s.history.rows = any_has (is_of place.nav) s.history.rows (with_rows nav place doc found wakes) in
      let own : a.it.nav ≡ place.nav = nav_is a.it.nav place.nav a.passes in
      let p : IsPlaced (forms_of s.places) a.it = hangs.rows.placed a.it a.there in
      let forms : Some p.form ≡ Some (form_of place) = sym p.found ∙ ap (λ (n : NavId). form_in (forms_of s.places) n) own ∙ own_form s sound hangs nav place found in
      let one : p.form ≡ form_of place = cc in
      let owned : a.it.owner ≡ Some holder.state = p.owner ∙ ap (λ (f : Form). slice_get f.owners 0) one ∙ owner in
      let b : BeginsBy s.history.rows a.it.nav holder.step.0 = hangs.rows.begins a.it holder a.there target.there owned in
      target_there s.history.rows nav step b.row b.there (b.nav_is ∙ own ∙ found_nav s.places nav place found) (let low = b.by in let by = target.by in omega (arith, low, by))

  -- it is shown, where the one above it is, and was given its target
  pub child : (nav : NavId) (place : Place) (doc : DocId) (parent : NavId) (others : List NavId) → place_of s nav ≡ Some place → place.status ≡ awake doc → place.above ≡ parent ∷ others → (on : IsOnAwake s place parent) → on.above.above ≡ others → IsGivenRow s step on.above → is_shown s.history.rows step parent ≡ true → is_shown s.history.rows step nav ≡ true
  child nav place doc parent others found wakes is on rest up shown =
      leads_shown s sound hangs step nav place found (some_by nav place doc up.row found wakes owner_is target) leads
    where
      target_at : IsTarget s.history.rows on.above.nav step up.row
      target_at = target_has s.history.rows on.above.nav step up.row up.at

      target : IsTarget s.history.rows up.row.nav step up.row
      target = record { there = target_at.there; nav_is = refl; by = target_at.by }

      state_is : up.row.state ≡ on.document.state
      state_is =
          homes.state parent on.above on.doc on.there on.wakes up.row on.document target_at.there target_at.nav_is up.given on.found

      owner_is : slice_get place.owners 0 ≡ Some up.row.state
      owner_is = on.owner ∙ ap (λ (x : StateId). Some x) (sym state_is)

      its : IsOnTarget s.history.rows step place parent
      its =
          record { target = up.row; at = ap (λ (n : NavId). target_entry s.history.rows n step) (sym (found_nav s.places parent on.above on.there)) ∙ up.at; owner = owner_is }

      leads : LeadsUp s step nav place
      leads x own first more has at over =
          by_own (nav.0 == x.0) refl (ap (λ (l : List NavId). has_nav (nav ∷ l) x) (sym is) ∙ has)
        where
          by_own : (b : Bool) → (nav.0 == x.0) ≡ b → (b || has_nav (parent ∷ others) x) ≡ true → IsOnTarget s.history.rows step own first
          by_own true same h =
              let two : Some place ≡ Some own = sym found ∙ ap (λ (n : NavId). place_of s n) (nav_is nav x same) ∙ at in
              let one : place ≡ own = cc in
              let lists : parent ∷ others ≡ first ∷ more = sym is ∙ ap (λ (p : Place). p.above) one ∙ over in
              let heads : parent ≡ first = cc in
              subst (λ (p : Place). IsOnTarget s.history.rows step p first) one (subst (λ (n : NavId). IsOnTarget s.history.rows step place n) heads its)
          by_own false apart h =
              shown_leads s sound hangs step parent on.above on.there shown x own first more (ap (λ (l : List NavId). has_nav (parent ∷ l) x) rest ∙ h) at over

  -- the top is
  pub top_shown : (nav : NavId) (place : Place) → place_of s nav ≡ Some place → place.above ≡ [] → is_shown s.history.rows step nav ≡ true
  top_shown nav place found is =
      leads_shown s sound hangs step nav place found some (λ x own parent others has at up. absurd (none x own parent others has at up))
    where
      top : place.nav.0 ≡ 0
      top = (hangs_as s sound hangs nav place found).top is

      own_nav : place.nav ≡ nav
      own_nav = found_nav s.places nav place found

      some : is_some (target_entry s.history.rows nav step) ≡ true
      some =
          let a = any_has (stands_at nav 0) s.history.rows (sound.top_row nav (ap (λ (n : NavId). n.0) (sym own_nav) ∙ top)) in
          let both = and_parts (is_of nav a.it) (a.it.step.0 == 0) a.passes in
          let first : a.it.step.0 ≡ 0 = eqb-true a.it.step.0 0 both.1 in
          target_there s.history.rows nav step a.it a.there (nav_is a.it.nav nav both.0) (omega (arith, first))

      none : (x : NavId) (own : Place) (parent : NavId) (others : List NavId) → has_nav (nav ∷ place.above) x ≡ true → place_of s x ≡ Some own → own.above ≡ parent ∷ others → ⊥
      none x own parent others has at up =
          by_own (nav.0 == x.0) refl (ap (λ (l : List NavId). has_nav (nav ∷ l) x) (sym is) ∙ has)
        where
          by_own : (b : Bool) → (nav.0 == x.0) ≡ b → (b || false) ≡ true → ⊥
          by_own true same h =
              let two : Some place ≡ Some own = sym found ∙ ap (λ (n : NavId). place_of s n) (nav_is nav x same) ∙ at in
              let one : place ≡ own = cc in
              let never : [] ≡ parent ∷ others = sym is ∙ ap (λ (p : Place). p.above) one ∙ up in
              absurd cc
          by_own false apart h = absurd cc

module _ (s : Seen) (sound : IsSound s.history) (hangs : Hangs s) (homes : AreHomed s) (standing : AreStanding s) (with_rows : AreAwakeWithRows s) (step : ℕ) (all : all_stand s step ≡ true) where
  -- one that is awake and shown was given its target, which is of its document's state
  pub awake_given : (nav : NavId) (place : Place) → place_of s nav ≡ Some place → is_shown s.history.rows step nav ≡ true → IsGivenRow s step place
  awake_given nav place found shown =
      given_standing s step place (stand_each s standing step all nav place found shown)

  shown_up_to : (above : List NavId) (nav : NavId) (place : Place) (doc : DocId) → place_of s nav ≡ Some place → place.status ≡ awake doc → place.above ≡ above → IsChain s.places above → is_shown s.history.rows step nav ≡ true
  shown_up_to [] nav place doc found wakes is chain = top_shown s sound hangs homes with_rows step nav place found is
  shown_up_to (parent ∷ others) nav place doc found wakes is chain =
      let on = homes.hung nav place doc found wakes parent others is in
      let two : Some on.above ≡ Some chain.0.place = sym on.there ∙ chain.0.found in
      let one : on.above ≡ chain.0.place = cc in
      let rest : on.above.above ≡ others = ap (λ (p : Place). p.above) one ∙ chain.0.above_is in
      let up : is_shown s.history.rows step parent ≡ true = shown_up_to others parent on.above on.doc on.there on.wakes rest chain.1 in
      child s sound hangs homes with_rows step nav place doc parent others found wakes is on rest (awake_given parent on.above on.there up) up

  pub awake_shown : (nav : NavId) (place : Place) (doc : DocId) → place_of s nav ≡ Some place → place.status ≡ awake doc → is_shown s.history.rows step nav ≡ true
  awake_shown nav place doc found wakes =
      shown_up_to place.above nav place doc found wakes refl (place_chain s sound hangs nav place found)

-- so where all stand at the current step the tab is calm
pub calm_stood : (s : Seen) → IsSound s.history → Hangs s → AreHomed s → AreStanding s → AreAwakeWithRows s → all_stand s s.history.current ≡ true → IsCalm s
calm_stood s sound hangs homes standing with_rows all =
    record {
      here = λ nav place doc placed wakes. inr (here_of nav place doc placed wakes);
      wakes = λ nav place placed shown epoch. inr (up nav place placed (ap (λ (n : NavId). is_shown s.history.rows s.history.current n) (sym (found_nav s.places nav place placed)) ∙ shown));
    }
  where
    here_of : (nav : NavId) (place : Place) (doc : DocId) → place_of s nav ≡ Some place → place.status ≡ awake doc → IsHere s place
    here_of nav place doc placed wakes =
        let shown = awake_shown s sound hangs homes standing with_rows s.history.current all nav place doc placed wakes in
        let stand = stand_each s standing s.history.current all nav place placed shown in
        record {
          shown = ap (λ (n : NavId). is_shown s.history.rows s.history.current n) (found_nav s.places nav place placed) ∙ shown;
          target = (and_parts (is_given_target s.history.rows s.history.current place) (not place.is_unmet) (and_parts (is_given_target s.history.rows s.history.current place && not place.is_unmet) (has_arrived place) stand).0).0;
        }

    up : (nav : NavId) (place : Place) → place_of s nav ≡ Some place → is_shown s.history.rows s.history.current nav ≡ true → is_awake place ≡ true
    up nav place placed shown = by_status place.status refl
      where
        arrived : has_arrived place ≡ true
        arrived =
            (and_parts (is_given_target s.history.rows s.history.current place && not place.is_unmet) (has_arrived place) (stand_each s standing s.history.current all nav place placed shown)).1

        by_status : (status : Status) → place.status ≡ status → is_awake place ≡ true
        by_status (awake doc) is = rw is refl
        by_status lost is = absurd ((standing nav place placed).unlost is)
        by_status asleep is =
            let none : has_arrived place ≡ false = rw is refl in
            let never : false ≡ true = sym none ∙ arrived in absurd cc
