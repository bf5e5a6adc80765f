-- A navigable needs something in the tables exactly where its place in the log does.
use Rattle.std.proofs.Common.{◌≡◌, ℕ, Bool, true, false, not, ◌&&◌, ◌||◌, List, Option, Some, None, refl, sym, ap, ◌∙◌, subst}
use Rattle.std.specs.Prelude.{slice_get, is_some, if◌then◌else◌}
use Rattle.std.specs.List.{list_any}
use Rattle.std.proofs.Math.Bool.{and-false}
use Rattle.tab_ids.specs.declared.NavId.{NavId}
use Rattle.log_model.specs.declared.row.Row.{Row}
use Rattle.log_model.specs.Equal.{holds}
use Rattle.log_model.specs.History.{target_entry}
use Rattle.log_model.specs.Seen.{Place, place_in}
use Rattle.log_model.specs.Places as log
use Rattle.log_model.specs.Places.{is_shown}
use Rattle.nav_tree.specs.declared.status.NavStatus.{NavStatus}
use Rattle.nav_tree.specs.declared.status.NavStatus.TheVariants.{Awake, Lost, Asleep}
use Rattle.nav_tree.specs.Tree.{Tree}
use Rattle.apply_plan.specs.declared.need.Need.{Need}
use Rattle.apply_plan.specs.declared.reach.Reach.TheVariants.{Visited}
use Rattle.apply_plan.specs.Reaches.{is_awake, has_target, is_reached}
use Rattle.apply_plan.specs.Needs.{is_asleep, is_to_move, need_for, need_of}
use Rattle.plan_laws.specs.Held.{status_of, IsKept, StandFor}
use Rattle.plan_laws.proofs.Placed.{found_nav, each_found}
use Rattle.plan_laws.proofs.ReachLaws.{GoesOn, reach_is, unreached_is}

-- a place is awake on its target
abbrev pub is_in_place : List Row → ℕ → Place → Bool
is_in_place rows step place = log.is_awake place && log.is_given_target rows step place

-- a navigable stops the walk that isn't awake on its target
abbrev pub is_stopping : List Row → ℕ → List Place → NavId → Bool
is_stopping rows step places nav = not (holds (is_in_place rows step) (place_in places nav))

-- a place needs something: it is asleep, a reload of it is due, or it wasn't given its target
abbrev pub is_needing : List Row → ℕ → Place → Bool
is_needing rows step place = log.is_asleep place || place.is_unmet || not (log.is_given_target rows step place)

awake_as : (status : NavStatus) (place : Place) → status_of status ≡ place.status → is_awake status ≡ log.is_awake place
awake_as (Awake doc) place is = rw (sym is) refl
awake_as Lost place is = rw (sym is) refl
awake_as Asleep place is = rw (sym is) refl

asleep_as : (status : NavStatus) (place : Place) → status_of status ≡ place.status → is_asleep status ≡ log.is_asleep place
asleep_as (Awake doc) place is = rw (sym is) refl
asleep_as Lost place is = rw (sym is) refl
asleep_as Asleep place is = rw (sym is) refl

target_as : (rows : List Row) (step : ℕ) (tree : Tree) (place : Place) → (kept : IsKept tree place) → has_target rows step place.nav kept.fields ≡ log.is_given_target rows step place
target_as rows step tree place kept = rw kept.given refl

not_not : (b : Bool) → not (not b) ≡ b
not_not true = refl
not_not false = refl

module _ (rows : List Row) (step : ℕ) (places : List Place) (tree : Tree) (stand : StandFor rows places tree) where
  goes_on : GoesOn Visited (is_stopping rows step places) rows step places tree
  goes_on nav place found kept =
      let nav_is = found_nav places nav place found in
      let target = subst (λ (n : NavId). has_target rows step n kept.fields ≡ log.is_given_target rows step place) nav_is (target_as rows step tree place kept) in
      rw (found, awake_as kept.fields.status place kept.status, target, not_not (is_in_place rows step place)) refl

  -- whom the walk visits
  pub visited_is : (i : ℕ) (place : Place) → slice_get places i ≡ Some place → is_reached Visited rows step tree place.nav ≡ (is_shown rows step place.nav && not (list_any (is_stopping rows step places) place.above))
  visited_is i place there = reach_is Visited (is_stopping rows step places) rows step places tree stand goes_on i place there

  -- who needs something
  pub needs_is : (i : ℕ) (place : Place) → slice_get places i ≡ Some place → is_some (need_of rows step tree place.nav) ≡ (is_needing rows step place && (is_shown rows step place.nav && not (list_any (is_stopping rows step places) place.above)))
  needs_is i place there = by_target (target_entry rows place.nav step) refl
    where
      here : place_in places place.nav ≡ Some place
      here = each_found places stand.held.distinct i place there

      kept : IsKept tree place
      kept = stand.kept place.nav place here

      asks : is_to_move rows step place.nav kept.fields ≡ is_needing rows step place
      asks = rw (asleep_as kept.fields.status place kept.status, kept.unmet, target_as rows step tree place kept) refl

      chosen : (b : Bool) (need : Need) → is_some (if b then Some need else None) ≡ b
      chosen true need = refl
      chosen false need = refl

      by_target : (o : Option Row) → target_entry rows place.nav step ≡ o → is_some (need_of rows step tree place.nav) ≡ (is_needing rows step place && (is_shown rows step place.nav && not (list_any (is_stopping rows step places) place.above)))
      by_target (Some row) e =
          let value : need_of rows step tree place.nav ≡ (if is_to_move rows step place.nav kept.fields && is_reached Visited rows step tree place.nav then Some (need_for tree place.nav kept.fields row) else None) = rw kept.there (rw e refl) in
          let both : (is_to_move rows step place.nav kept.fields && is_reached Visited rows step tree place.nav) ≡ (is_needing rows step place && (is_shown rows step place.nav && not (list_any (is_stopping rows step places) place.above))) = rw (asks, visited_is i place there) refl in
          ap is_some value ∙ chosen (is_to_move rows step place.nav kept.fields && is_reached Visited rows step tree place.nav) (need_for tree place.nav kept.fields row) ∙ both
      by_target None e =
          let none : need_of rows step tree place.nav ≡ None = rw kept.there (rw e refl) in
          let hidden : is_shown rows step place.nav ≡ false = (unreached_is Visited (is_stopping rows step places) rows step places tree stand goes_on i place there (ap is_some e)).1 in
          let nothing : (is_needing rows step place && (is_shown rows step place.nav && not (list_any (is_stopping rows step places) place.above))) ≡ false = rw hidden (and-false (is_needing rows step place)) in
          ap is_some none ∙ sym nothing
