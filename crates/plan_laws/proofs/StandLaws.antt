-- All stand in the tables exactly where all stand in the log.
use Rattle.std.proofs.Common.{◌≡◌, ℕ, suc, true, not, List, [], ◌∷◌, map, Some, refl, sym, ap, ◌∙◌}
use Rattle.std.specs.Prelude.{slice_get, if◌then◌else◌}
use Rattle.std.specs.List.{list_all}
use Rattle.tab_ids.specs.declared.NavId.{NavId}
use Rattle.log_model.specs.declared.row.Row.{Row}
use Rattle.log_model.specs.Equal.{holds}
use Rattle.log_model.specs.Seen.{Place, place_in}
use Rattle.log_model.specs.Places as log
use Rattle.log_model.specs.Places.{holder_of, targets_state, is_shown_within, is_shown, is_lost_in, is_wanted}
use Rattle.nav_tree.specs.declared.nav.Nav.{Nav}
use Rattle.nav_tree.specs.declared.status.NavStatus.{NavStatus}
use Rattle.nav_tree.specs.declared.status.NavStatus.TheVariants.{Awake, Lost, Asleep}
use Rattle.nav_tree.specs.Tree.{Tree, nav_of}
use Rattle.apply_plan.specs.declared.reach.Reach.TheVariants.{Wanted}
use Rattle.apply_plan.specs.Reaches.{is_awake, is_lost, is_reached}
use Rattle.apply_plan.specs.Standing.{has_arrived, is_standing, stands_if_wanted, are_settled}
use Rattle.plan_laws.specs.Held.{status_of, IsKept, StandFor}
use Rattle.plan_laws.proofs.Placed.{each_found}
use Rattle.plan_laws.proofs.ReachLaws.{GoesOn, reach_is}

-- ---- one navigable

lost_as : (places : List Place) (nav : NavId) (place : Place) (status : NavStatus) → place_in places nav ≡ Some place → status_of status ≡ place.status → is_lost status ≡ is_lost_in places nav
lost_as places nav place (Awake doc) found is = rw found (rw (sym is) refl)
lost_as places nav place Lost found is = rw found (rw (sym is) refl)
lost_as places nav place Asleep found is = rw found (rw (sym is) refl)

arrived_as : (fields : Nav) (place : Place) → status_of fields.status ≡ place.status → (is_awake fields.status ≡ true → fields.stands ≡ place.is_delivered) → has_arrived fields ≡ log.has_arrived place
arrived_as fields place is stands = by_status fields.status refl
  where
    by_status : (status : NavStatus) → fields.status ≡ status → has_arrived fields ≡ log.has_arrived place
    by_status (Awake doc) e = let known = sym is ∙ ap status_of e in rw (e, known) (stands (ap is_awake e))
    by_status Lost e = let known = sym is ∙ ap status_of e in rw (e, known) refl
    by_status Asleep e = let known = sym is ∙ ap status_of e in rw (e, known) refl

standing_as : (rows : List Row) (step : ℕ) (tree : Tree) (place : Place) → IsKept tree place → holds (is_standing rows step place.nav) (nav_of place.nav tree) ≡ log.is_standing rows step place
standing_as rows step tree place kept =
    let arrived = arrived_as kept.fields place kept.status kept.stands in
    rw kept.there (rw (kept.given, kept.unmet, arrived) refl)

-- ---- all of them

module _ (rows : List Row) (step : ℕ) (places : List Place) (tree : Tree) (stand : StandFor rows places tree) where
  goes_on : GoesOn Wanted (is_lost_in places) rows step places tree
  goes_on nav place found kept = ap not (lost_as places nav place kept.fields.status found kept.status)

  -- who is to stand
  wanted_as : (i : ℕ) (place : Place) → slice_get places i ≡ Some place → is_reached Wanted rows step tree place.nav ≡ is_wanted rows places step place
  wanted_as i place there = reach_is Wanted (is_lost_in places) rows step places tree stand goes_on i place there

  stands_as : (i : ℕ) (place : Place) → slice_get places i ≡ Some place → stands_if_wanted rows step tree place.nav ≡ (if is_wanted rows places step place then holds (log.is_standing rows step) (place_in places place.nav) else true)
  stands_as i place there =
      let here : place_in places place.nav ≡ Some place = each_found places stand.held.distinct i place there in
      rw (wanted_as i place there) (rw (here, standing_as rows step tree place (stand.kept place.nav place here)) refl)

  each_stands : (l : List Place) → ((i : ℕ) (place : Place) → slice_get l i ≡ Some place → stands_if_wanted rows step tree place.nav ≡ (if is_wanted rows places step place then holds (log.is_standing rows step) (place_in places place.nav) else true)) → list_all (stands_if_wanted rows step tree) (map (λ (place : Place). place.nav) l) ≡ list_all (λ place. if is_wanted rows places step place then holds (log.is_standing rows step) (place_in places place.nav) else true) l
  each_stands [] each = refl
  each_stands (place ∷ l) each = rw (each 0 place refl, each_stands l (λ i q e. each (suc i) q e)) refl

  -- all stand in the tables exactly where all stand in the log
  pub settled_is : are_settled rows step tree ≡ log.all_stand_in rows places step
  settled_is = ap (list_all (stands_if_wanted rows step tree)) stand.held.order ∙ each_stands places stands_as
