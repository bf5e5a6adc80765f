-- Who is above a navigable: those above an awake one are awake, so that nobody is awake below one that sleeps; and a parent that is awake on its target shows the document state on which a shown navigable hangs.
-- This project's own.
use Rattle.tab_facts.proofs.FrameWhole.Nobody.{IsUpNow}
use Rattle.seen_facts.proofs.Hang.Forms.{nav_is}
use Rattle.seen_facts.proofs.Hang.Hung.{IsUp, hangs_as, has_begun, is_up, place_chain}
use Rattle.seen_facts.proofs.Hang.Targets.{IsTarget, target_has}
use Rattle.seen_facts.specs.Hang.AsPlaces.{HangsAs, IsChain, IsHung}
use Rattle.history_laws.proofs.Joining.{entry_same}
use Rattle.seen_facts.specs.Home.Homes.{IsAtHome, IsOnAwake}
use Rattle.log_model.proofs.ShownLaws.{shown_from_test}
use Rattle.log_model.specs.Equal.{holds}
use Rattle.log_model.specs.History.{has_nav, owner_of, same_entry, target_entry}
use Rattle.log_model.specs.Places.{IsShown, holder_of, way_up, is_asleep, is_below, is_child, is_given_target, is_shown, is_top}
use Rattle.log_model.specs.Seen.{Place, Seen, Status, asleep, awake, lost, place_of}
use Rattle.log_model.specs.declared.job.Job.{Job}
use Rattle.log_model.specs.declared.made.Made.{Made}
use Rattle.log_model.specs.declared.row.Row.{Row}
use Rattle.seen_facts.proofs.Mover.Below.{shown_alone, shown_moves}
use Rattle.seen_facts.proofs.Mover.Orders.{MovesShown}
use Rattle.seen_facts.specs.Mover.Movers.{IsMovedBy}
use Rattle.std.proofs.Common.{Bool, List, None, Option, Some, [], ap, arith, false, refl, subst, sym, true, ℕ, ◌<◌, ◌==◌, ◌||◌, ◌∙◌, ◌∷◌, ◌≡◌, ◌≤◌}
use Rattle.std.proofs.lemmas.Bool.Decides.{nat_tests}
use Rattle.std.specs.Prelude.{is_some, nat_lt}
use Rattle.tab_ids.specs.declared.EntryId.{EntryId}
use Rattle.tab_ids.specs.declared.Epoch.{Epoch}
use Rattle.tab_ids.specs.declared.NavId.{NavId}
use Rattle.tab_ids.specs.declared.ReqId.{ReqId}
use Rattle.tab_ids.specs.declared.StateId.{StateId}
use Rattle.tab_facts.proofs.TabWhole.Sending.{nav_of_place, some_same}
use Rattle.tab_facts.specs.TabWhole.Tab.{IsTab}

-- the navigable is awake on its target at the step
pub record IsUpAt (s : Seen) (step : ℕ) (nav : NavId) : Type 0 where
  pub up : IsUpNow s nav
  pub stands : is_given_target s.history.rows step up.place ≡ true

module _ (run : Option ReqId) (loads : List ReqId) (hand : List Made) (s : Seen) (tab : IsTab run loads hand s) where
  -- those above an awake navigable are awake
  pub above_awake : (above : List NavId) (nav : NavId) (place : Place) → place_of s nav ≡ Some place → ((parent : NavId) (others : List NavId) → place.above ≡ parent ∷ others → IsOnAwake s place parent) → place.above ≡ above → IsChain s.places above → (x : NavId) → has_nav above x ≡ true → IsUpNow s x
  above_awake [] nav place placed hung is chain x never = absurd cc
  above_awake (parent ∷ others) nav place placed hung is chain x in_ =
      by_test (parent.0 == x.0) refl in_ (λ h. above_awake others parent up.above up.there (λ p os e. tab.homes.hung parent up.above up.doc up.there up.wakes p os e) (ap (λ (p : Place). p.above) same ∙ chain.0.above_is) chain.1 x h)
    where
      up : IsOnAwake s place parent
      up = hung parent others is

      same : up.above ≡ chain.0.place
      same = some_same (sym up.there ∙ chain.0.found)

      by_test : (b : Bool) → (parent.0 == x.0) ≡ b → (b || has_nav others x) ≡ true → (has_nav others x ≡ true → IsUpNow s x) → IsUpNow s x
      by_test true e h more = subst (λ (n : NavId). IsUpNow s n) (nav_is parent x e) (record { place = up.above; doc = up.doc; placed = up.there; wakes = up.wakes })
      by_test false e h more = more h

  -- so all are asleep below one that sleeps
  pub below_sleeps : (nav : NavId) (place : Place) → place_of s nav ≡ Some place → place.status ≡ asleep → (other : NavId) (p : Place) → place_of s other ≡ Some p → is_below nav p ≡ true → is_asleep p ≡ true
  below_sleeps nav place placed sleeps other p there below = by_status p.status refl
    where
      by_status : (st : Status) → p.status ≡ st → is_asleep p ≡ true
      by_status asleep e = rw e refl
      by_status lost e = absurd ((tab.standing other p there).unlost e)
      by_status (awake doc) e =
          let up : IsUpNow s nav = above_awake p.above other p there (λ parent others is. tab.homes.hung other p doc there e parent others is) refl (place_chain s tab.sound tab.hangs other p there) nav below in
          let same : up.place ≡ place = some_same (sym up.placed ∙ placed) in
          let never : awake up.doc ≡ asleep = sym up.wakes ∙ (ap (λ (x : Place). x.status) same ∙ sleeps) in absurd cc

  -- as a navigable is shown a document under a later epoch, those who fall asleep are moved where it is: nobody falls asleep as it is shown its first one
  pub moves_own : (job : Job) (nav : NavId) (place : Place) (epoch : Epoch) → place_of s nav ≡ Some place → place.epoch.0 < epoch.0 → (nat_lt 1 epoch.0 ≡ true → IsMovedBy s job.why nav) → MovesShown s job nav epoch
  moves_own job nav place epoch placed later own = by_status place.status refl
    where
      late : 1 ≤ place.epoch.0 → nat_lt 1 epoch.0 ≡ true
      late some = grind (arith, nat_tests, some, later)

      by_status : (st : Status) → place.status ≡ st → MovesShown s job nav epoch
      by_status asleep e = shown_alone s tab.sound tab.hangs job nav epoch own (below_sleeps nav place placed e)
      by_status lost e = absurd ((tab.standing nav place placed).unlost e)
      by_status (awake doc) e = shown_moves s tab.sound tab.hangs job nav epoch (own (late ((tab.standing nav place placed).shown doc e)))

  -- a shown navigable hangs on the document state of the document that its parent is awake on, where that is the parent's target
  pub on_parent : (step : ℕ) (nav : NavId) (place : Place) → place_of s nav ≡ Some place → is_shown s.history.rows step nav ≡ true → (parent : NavId) (others : List NavId) → place.above ≡ parent ∷ others → IsUpAt s step parent → IsOnAwake s place parent
  on_parent step nav place placed shown parent others is at = by_shown (shown_from_test s.history.rows step nav shown)
    where
      number : place.nav ≡ nav
      number = nav_of_place s nav place placed

      as_ : HangsAs s.history.rows place
      as_ = hangs_as s tab.sound tab.hangs nav place placed

      hung : IsHung s.history.rows place parent
      hung =
          as_.hung step parent others (ap (λ (n : NavId). is_some (target_entry s.history.rows n step)) number ∙ has_begun s tab.sound tab.hangs step nav shown) is

      home : IsAtHome s.documents at.up.place.nav at.up.doc
      home = (tab.homes.homed parent at.up.place at.up.doc at.up.placed at.up.wakes).home

      parent_nav : at.up.place.nav ≡ parent
      parent_nav = nav_of_place s parent at.up.place at.up.placed

      -- the parent was given its target
      given : (target : Row) → target_entry s.history.rows parent step ≡ Some target → at.up.place.given ≡ Some target.entry
      given target there = by_given at.up.place.given refl (sym ready ∙ at.stands)
        where
          ready : is_given_target s.history.rows step at.up.place ≡ holds (same_entry target.entry) at.up.place.given
          ready =
              ap (λ (n : NavId). holds (λ (row : Row). holds (same_entry row.entry) at.up.place.given) (target_entry s.history.rows n step)) parent_nav
              ∙ ap (λ (o : Option Row). holds (λ (row : Row). holds (same_entry row.entry) at.up.place.given) o) there

          by_given : (o : Option EntryId) → at.up.place.given ≡ o → holds (same_entry target.entry) at.up.place.given ≡ true → at.up.place.given ≡ Some target.entry
          by_given None e h = (let never : false ≡ true = sym (ap (holds (same_entry target.entry)) e) ∙ h in absurd cc)
          by_given (Some entry) e h =
              e ∙ ap (λ (x : EntryId). Some x) (sym (entry_same target.entry entry (sym (ap (holds (same_entry target.entry)) e) ∙ h)))

      by_up : (above : NavId) → IsUp s.history.rows step nav above → IsOnAwake s place parent
      by_up above up =
          record {
            above = at.up.place;
            there = at.up.placed;
            doc = at.up.doc;
            wakes = at.up.wakes;
            document = home.document;
            found = home.found;
            owner = hung.first ∙ ap (λ (x : StateId). Some x) (sym owners ∙ sym up.its_state ∙ state);
          }
        where
          owners : up.owner ≡ hung.owner
          owners = some_same (sym up.owner_at ∙ sym (ap (λ (n : NavId). owner_of n s.history.rows) number) ∙ hung.owner_is)

          one : above ≡ parent
          one = some_same (sym up.holder_at ∙ ap (λ (o : StateId). holder_of o s.history.rows) owners ∙ hung.holder_is)

          target_at : target_entry s.history.rows parent step ≡ Some up.target
          target_at = ap (λ (n : NavId). target_entry s.history.rows n step) (sym one) ∙ up.at

          its : IsTarget s.history.rows parent step up.target
          its = target_has s.history.rows parent step up.target target_at

          state : up.target.state ≡ home.document.state
          state =
              tab.homes.state parent at.up.place at.up.doc at.up.placed at.up.wakes up.target home.document its.there (its.nav_is ∙ sym parent_nav) (given up.target target_at) home.found

      by_shown : IsShown s.history.rows step nav → IsOnAwake s place parent
      by_shown i = by_case nav refl i
        where
          by_case : (n : NavId) → n ≡ nav → IsShown s.history.rows step n → IsOnAwake s place parent
          by_case _ same is_top = absurd (as_.child parent others is (ap (λ (x : NavId). x.0) number ∙ ap (λ (x : NavId). x.0) (sym same)))
          by_case n same (is_child _ above leads more) =
              by_up above (is_up s.history.rows step nav above (ap (λ (x : NavId). way_up s.history.rows step x) (sym same) ∙ leads))
