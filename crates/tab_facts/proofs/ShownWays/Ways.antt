-- A navigable is shown where each on the way to it hangs on its parent's target, and the other way round.
use Rattle.seen_facts.proofs.Hang.Forms.{nav_is}
use Rattle.seen_facts.proofs.Hang.Hung.{IsUp, IsUpTo, hangs_as, has_begun, place_chain, shown_up as up_to}
use Rattle.seen_facts.specs.Hang.AsPlaces.{HangsAs, IsChain, IsHung}
use Rattle.seen_facts.specs.Hang.Hanging.{Hangs}
use Rattle.log_model.proofs.Refl.{nat_eq_refl}
use Rattle.log_model.specs.Equal.{holds}
use Rattle.log_model.specs.History.{has_nav, owner_of, target_entry}
use Rattle.log_model.specs.Places.{holder_of, is_shown, is_shown_within, targets_state, way_up}
use Rattle.log_model.specs.Seen.{Place, Seen, place_of}
use Rattle.log_model.specs.Soundness.{IsSound}
use Rattle.log_model.specs.declared.row.Row.{Row}
use Rattle.tab_facts.specs.ShownWays.Ways.{IsOnTarget, LeadsUp}
use Rattle.std.proofs.Common.{Bool, List, None, Option, Some, [], ap, arith, false, inl, inr, length, refl, subst, suc, sym, true, zero, ℕ, ◌==◌, ◌||◌, ◌∙◌, ◌∷◌, ◌≡◌, ◌≤◌, ◌⊎◌}
use Rattle.std.proofs.lemmas.Bool.Decides.{nat_tests}
use Rattle.std.proofs.lemmas.Bool.{eqb-true}
use Rattle.std.specs.Prelude.{if◌then◌else◌, is_some}
use Rattle.tab_ids.specs.declared.NavId.{NavId}
use Rattle.tab_ids.specs.declared.StateId.{StateId}
use Rattle.seen_facts.proofs.Walk.Placed.{found_nav}
use Rattle.seen_facts.proofs.Walk.Upwards.{one_more, shown_up}

-- so many ways up are enough, where fewer are
enough : (n m : ℕ) (rows : List Row) (step : ℕ) (o : Option NavId) → n ≤ m → is_shown_within n rows step o ≡ true → is_shown_within m rows step o ≡ true
enough n zero rows step o low is =
    (let none : n ≡ zero = omega (arith, low) in subst (λ (k : ℕ). is_shown_within k rows step o ≡ true) none is)
enough zero (suc m) rows step o low is = one_more m rows step o (enough zero m rows step o (omega arith) is)
enough (suc n) (suc m) rows step o low is =
    by_last (suc n == suc m) refl (λ less. enough (suc n) m rows step o less is)
  where
    by_last : (b : Bool) → (suc n == suc m) ≡ b → (suc n ≤ m → is_shown_within m rows step o ≡ true) → is_shown_within (suc m) rows step o ≡ true
    by_last true same more =
        subst (λ (k : ℕ). is_shown_within k rows step o ≡ true) (eqb-true (suc n) (suc m) same) is
    by_last false apart more = one_more m rows step o (more (grind (arith, nat_tests, low, apart)))

-- a test of either
either : (a b : Bool) → b ≡ true → (a || b) ≡ true
either true b is = refl
either false b is = is

own_in : (nav : NavId) (navs : List NavId) → has_nav (nav ∷ navs) nav ≡ true
own_in nav navs = ap (λ (b : Bool). b || has_nav navs nav) (nat_eq_refl nav.0)

leads : (rows : List Row) (step : ℕ) (nav parent : NavId) (owner : StateId) (target : Row) → owner_of nav rows ≡ Some owner → holder_of owner rows ≡ Some parent → target_entry rows parent step ≡ Some target → target.state ≡ owner → way_up rows step nav ≡ Some parent
leads rows step nav parent owner target owns holds_it at same =
    rw owns (rw holds_it (ap (λ (b : Bool). let o : Option NavId = if b then Some parent else None in o) its))
  where
    its : targets_state rows step parent owner ≡ true
    its =
        ap (λ (o : Option Row). holds (λ (row : Row). row.state.0 == owner.0) o) at
        ∙ ap (λ (x : StateId). x.0 == owner.0) same
        ∙ nat_eq_refl owner.0

module _ (s : Seen) (sound : IsSound s.history) (hangs : Hangs s) (step : ℕ) where
  -- ---- from one that is shown

  -- it hangs on its parent's target
  pub on_target : (nav : NavId) (place : Place) (parent : NavId) (others : List NavId) → place_of s nav ≡ Some place → place.above ≡ parent ∷ others → is_shown s.history.rows step nav ≡ true → IsOnTarget s.history.rows step place parent
  on_target nav place parent others found is shown =
      by_case (up_to (length s.history.rows) s.history.rows step nav shown)
    where
      own : place.nav ≡ nav
      own = found_nav s.places nav place found

      hangs_so : HangsAs s.history.rows place
      hangs_so = hangs_as s sound hangs nav place found

      by_case : ((nav.0 == 0) ≡ true) ⊎ IsUpTo s.history.rows step nav → IsOnTarget s.history.rows step place parent
      by_case (inl top) =
          absurd (hangs_so.child parent others is (ap (λ (n : NavId). n.0) own ∙ eqb-true nav.0 0 top))
      by_case (inr to) =
          let up : IsUp s.history.rows step nav to.parent = to.up in
          let some : is_some (target_entry s.history.rows place.nav step) ≡ true = ap (λ (n : NavId). is_some (target_entry s.history.rows n step)) own ∙ has_begun s sound hangs step nav shown in
          let hung : IsHung s.history.rows place parent = hangs_so.hung step parent others some is in
          let owners : Some up.owner ≡ Some hung.owner = sym up.owner_at ∙ ap (λ (n : NavId). owner_of n s.history.rows) (sym own) ∙ hung.owner_is in
          let same : up.owner ≡ hung.owner = cc in
          let parents : Some to.parent ≡ Some parent = sym up.holder_at ∙ ap (λ (o : StateId). holder_of o s.history.rows) same ∙ hung.holder_is in
          let one : to.parent ≡ parent = cc in
          record {
            target = up.target;
            at = ap (λ (n : NavId). target_entry s.history.rows n step) (sym one) ∙ up.at;
            owner = hung.first ∙ ap (λ (o : StateId). Some o) (sym same ∙ sym up.its_state);
          }

  leads_from : (above : List NavId) (nav : NavId) (place : Place) → place_of s nav ≡ Some place → place.above ≡ above → IsChain s.places above → is_shown s.history.rows step nav ≡ true → (x : NavId) (own : Place) (parent : NavId) (others : List NavId) → has_nav (nav ∷ above) x ≡ true → place_of s x ≡ Some own → own.above ≡ parent ∷ others → IsOnTarget s.history.rows step own parent
  leads_from [] nav place found is chain shown x own parent others has at up = by_own (nav.0 == x.0) refl has
    where
      by_own : (b : Bool) → (nav.0 == x.0) ≡ b → (b || false) ≡ true → IsOnTarget s.history.rows step own parent
      by_own true same h =
          on_target x own parent others at up (ap (λ (n : NavId). is_shown s.history.rows step n) (sym (nav_is nav x same)) ∙ shown)
      by_own false apart h = absurd cc
  leads_from (first ∷ rest) nav place found is chain shown x own parent others has at up =
      by_own (nav.0 == x.0) refl has (leads_from rest first chain.0.place chain.0.found chain.0.above_is chain.1 (shown_up s sound hangs step nav place first rest found is (ap (λ (n : NavId). is_shown s.history.rows step n) (found_nav s.places nav place found) ∙ shown)) x own parent others)
    where
      by_own : (b : Bool) → (nav.0 == x.0) ≡ b → (b || has_nav (first ∷ rest) x) ≡ true → (has_nav (first ∷ rest) x ≡ true → place_of s x ≡ Some own → own.above ≡ parent ∷ others → IsOnTarget s.history.rows step own parent) → IsOnTarget s.history.rows step own parent
      by_own true same h more =
          on_target x own parent others at up (ap (λ (n : NavId). is_shown s.history.rows step n) (sym (nav_is nav x same)) ∙ shown)
      by_own false apart h more = more h at up

  -- so does each on the way to it
  pub shown_leads : (nav : NavId) (place : Place) → place_of s nav ≡ Some place → is_shown s.history.rows step nav ≡ true → LeadsUp s step nav place
  shown_leads nav place found shown =
      leads_from place.above nav place found refl (place_chain s sound hangs nav place found) shown

  -- ---- to one that is shown

  up : (nav : NavId) (place : Place) (parent : NavId) (others : List NavId) → place_of s nav ≡ Some place → place.above ≡ parent ∷ others → is_some (target_entry s.history.rows nav step) ≡ true → ((x : NavId) (own : Place) (first : NavId) (rest : List NavId) → has_nav (nav ∷ parent ∷ others) x ≡ true → place_of s x ≡ Some own → own.above ≡ first ∷ rest → IsOnTarget s.history.rows step own first) → (is_some (target_entry s.history.rows parent step) ≡ true → is_shown_within (length others) s.history.rows step (Some parent) ≡ true) → is_shown_within (length (parent ∷ others)) s.history.rows step (Some nav) ≡ true
  up nav place parent others found is some each more =
      either (nav.0 == 0) (is_shown_within (length others) s.history.rows step (way_up s.history.rows step nav)) (ap (λ (o : Option NavId). is_shown_within (length others) s.history.rows step o) leads_up ∙ more (ap (λ (o : Option Row). is_some o) its.at))
    where
      own : place.nav ≡ nav
      own = found_nav s.places nav place found

      its : IsOnTarget s.history.rows step place parent
      its = each nav place parent others (own_in nav (parent ∷ others)) found is

      hung : IsHung s.history.rows place parent
      hung =
          (hangs_as s sound hangs nav place found).hung step parent others (ap (λ (n : NavId). is_some (target_entry s.history.rows n step)) own ∙ some) is

      leads_up : way_up s.history.rows step nav ≡ Some parent
      leads_up =
          leads s.history.rows step nav parent hung.owner its.target (ap (λ (n : NavId). owner_of n s.history.rows) (sym own) ∙ hung.owner_is) hung.holder_is its.at (let two : Some its.target.state ≡ Some hung.owner = sym its.owner ∙ hung.first in cc)

  within : (above : List NavId) (nav : NavId) (place : Place) → place_of s nav ≡ Some place → place.above ≡ above → IsChain s.places above → is_some (target_entry s.history.rows nav step) ≡ true → ((x : NavId) (own : Place) (parent : NavId) (others : List NavId) → has_nav (nav ∷ above) x ≡ true → place_of s x ≡ Some own → own.above ≡ parent ∷ others → IsOnTarget s.history.rows step own parent) → is_shown_within (length above) s.history.rows step (Some nav) ≡ true
  within [] nav place found is chain some each =
      let top : place.nav.0 ≡ 0 = (hangs_as s sound hangs nav place found).top is in
      ap (λ (n : ℕ). n == 0) (ap (λ (n : NavId). n.0) (sym (found_nav s.places nav place found)) ∙ top)
  within (parent ∷ others) nav place found is chain some each =
      up nav place parent others found is some each (λ there. within others parent chain.0.place chain.0.found chain.0.above_is chain.1 there (λ x p q more has. each x p q more (either (nav.0 == x.0) (has_nav (parent ∷ others) x) has)))

  -- a navigable with a target, to which each on the way leads so, is shown
  pub leads_shown : (nav : NavId) (place : Place) → place_of s nav ≡ Some place → is_some (target_entry s.history.rows nav step) ≡ true → LeadsUp s step nav place → is_shown s.history.rows step nav ≡ true
  leads_shown nav place found some each =
      let reached : is_shown_within (length place.above) s.history.rows step (Some nav) ≡ true = within place.above nav place found refl (place_chain s sound hangs nav place found) some each in
      let deep : length place.above ≤ length s.history.rows = (hangs_as s sound hangs nav place found).rooted step (ap (λ (n : NavId). is_some (target_entry s.history.rows n step)) (found_nav s.places nav place found) ∙ some) in
      enough (length place.above) (length s.history.rows) s.history.rows step (Some nav) deep reached
