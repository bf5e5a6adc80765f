-- Who is shown at a step, or stands there, in the tables is so in the log.
use Rattle.apply_plan.specs.Needs.{is_pending}
use Rattle.apply_plan.specs.Reaches.{is_awake, is_reached, is_reached_within, way_up}
use Rattle.apply_plan.specs.Standing.{has_arrived, is_standing}
use Rattle.apply_plan.specs.declared.reach.Reach.TheVariants.{Shown}
use Rattle.seen_facts.proofs.Coord.Held.{fun_ext}
use Rattle.seen_facts.proofs.Hang.Members.{find_has}
use Rattle.seen_facts.specs.Hang.Hanging.{Hangs}
use Rattle.log_model.specs.Equal.{holds}
use Rattle.log_model.specs.History.{same_entry, target_entry}
use Rattle.log_model.specs.Places.{is_placed, is_shown, stands as stands_at}
use Rattle.log_model.specs.Places as log
use Rattle.log_model.specs.Seen.{Place, Seen, place_of}
use Rattle.log_model.specs.Soundness.{IsSound}
use Rattle.log_model.specs.declared.row.Row.{Row}
use Rattle.nav_tree.specs.Tree.{Tree, nav_of}
use Rattle.nav_tree.specs.declared.nav.Nav.{Nav}
use Rattle.nav_tree.specs.declared.status.NavStatus.{NavStatus}
use Rattle.nav_tree.specs.declared.status.NavStatus.TheVariants.{Asleep, Awake, Lost}
use Rattle.plan_laws.proofs.ReachLaws.{GoesOn, reach_is}
use Rattle.plan_laws.specs.Held.{IsKept, StandFor, status_of}
use Rattle.seen_facts.proofs.Rest.Stands.{get_of}
use Rattle.std.proofs.Common.{Bool, List, None, Option, Some, [], ap, false, length, not, refl, subst, suc, sym, true, zero, ℕ, ◌&&◌, ◌==◌, ◌||◌, ◌∙◌, ◌∷◌, ◌≡◌}
use Rattle.std.specs.List.{list_any}
use Rattle.std.specs.Prelude.{if◌then◌else◌, is_some, option_and_then}
use Rattle.step_index.specs.Held.{history_held}
use Rattle.tab_doors.proofs.Histories.{held_target}
use Rattle.tab_doors.specs.Look.{look_of}
use Rattle.tab_doors.specs.Ties.{Holds}
use Rattle.tab_doors.specs.declared.tables.Tables.{Tables}
use Rattle.tab_ids.specs.declared.NavId.{NavId}
use Rattle.tab_ids.specs.declared.ReqId.{ReqId}
use Rattle.tab_ids.specs.declared.StateId.{StateId}
use Rattle.tab_loads.specs.Telling.{is_placed_at}
use Rattle.tab_passes.proofs.Stand.{stands}
use Rattle.seen_facts.proofs.Walk.Placed.{found_nav}

-- ---- the way up reads the targets alone

abbrev way_by : (NavId → Option Row) → Tree → NavId → Option NavId
way_by target tree nav =
    option_and_then
    (λ (fields : Nav). option_and_then
    (λ (parent : NavId). option_and_then
    (λ (owner : StateId). option_and_then
    (λ (above : Nav). if holds (λ (row : Row). row.state.0 == owner.0) (target parent) && true then Some parent else None)
    (nav_of parent tree))
    fields.owner)
    fields.parent)
    (nav_of nav tree)

module _ (one other : List Row) (step : ℕ) (tree : Tree) (same : (nav : NavId) → target_entry one nav step ≡ target_entry other nav step) where
  targets : (let f : NavId → Option Row = λ nav. target_entry one nav step in f) ≡ (λ nav. target_entry other nav step)
  targets = fun_ext same

  way_same : (nav : NavId) → way_up Shown one step tree nav ≡ way_up Shown other step tree nav
  way_same nav = ap (λ (f : NavId → Option Row). way_by f tree nav) targets

  within_same : (n : ℕ) (o : Option NavId) → is_reached_within n Shown one step tree o ≡ is_reached_within n Shown other step tree o
  within_same zero None = refl
  within_same zero (Some nav) = refl
  within_same (suc n) None = refl
  within_same (suc n) (Some nav) =
      ap (λ (o : Option NavId). nav.0 == 0 || is_reached_within n Shown one step tree o) (way_same nav)
      ∙ ap (λ (b : Bool). nav.0 == 0 || b) (within_same n (way_up Shown other step tree nav))

  reached_same : (nav : NavId) → is_reached Shown one step tree nav ≡ is_reached Shown other step tree nav
  reached_same nav =
      ap (λ (o : Option Row). is_some o && is_reached_within (length tree.navs) Shown one step tree (Some nav)) (same nav)
      ∙ ap (λ (b : Bool). is_some (target_entry other nav step) && b) (within_same (length tree.navs) (Some nav))

-- ---- in the log

nowhere : NavId → Bool
nowhere nav = false

none_nowhere : (navs : List NavId) → list_any nowhere navs ≡ false
unfolding nowhere
none_nowhere [] = refl
none_nowhere (nav ∷ navs) = none_nowhere navs

and_true : (b : Bool) → (b && true) ≡ b
and_true true = refl
and_true false = refl

arrived_as : (fields : Nav) (place : Place) → status_of fields.status ≡ place.status → (is_awake fields.status ≡ true → fields.stands ≡ place.is_delivered) → has_arrived fields ≡ log.has_arrived place
arrived_as fields place is on = by_status fields.status refl
  where
    by_status : (status : NavStatus) → fields.status ≡ status → has_arrived fields ≡ log.has_arrived place
    by_status (Awake doc) e = let known = sym is ∙ ap status_of e in rw (e, known) (on (ap is_awake e))
    by_status Lost e = let known = sym is ∙ ap status_of e in rw (e, known) refl
    by_status Asleep e = let known = sym is ∙ ap status_of e in rw (e, known) refl

module _ (s : Seen) (run : Option ReqId) (t : Tables) (holds_ : Holds (look_of s run) t) (sound : IsSound s.history) (hangs : Hangs s) (nav : NavId) (place : Place) (placed : place_of s nav ≡ Some place) (step : ℕ) where
  stand : StandFor s.history.rows s.places t.tree
  stand = stands s run t holds_ sound hangs

  named : place.nav ≡ nav
  named = found_nav s.places nav place placed

  same : (n : NavId) → target_entry (history_held t.store).rows n step ≡ target_entry s.history.rows n step
  same n = held_target t.store s.history holds_.history n step

  goes : GoesOn Shown nowhere s.history.rows step s.places t.tree
  unfolding nowhere
  goes n own found kept = refl

  pub shown_is : is_reached Shown (history_held t.store).rows step t.tree nav ≡ is_shown s.history.rows step nav
  shown_is =
      let index = get_of s.places place (find_has (λ (p : Place). p.nav.0 == nav.0) s.places place placed).0 in
      let law : is_reached Shown s.history.rows step t.tree place.nav ≡ (is_shown s.history.rows step place.nav && not (list_any nowhere place.above)) = reach_is Shown nowhere s.history.rows step s.places t.tree stand goes index.0 place index.1 in
      let all : is_reached Shown s.history.rows step t.tree place.nav ≡ is_shown s.history.rows step place.nav = law ∙ rw (none_nowhere place.above) (and_true (is_shown s.history.rows step place.nav)) in
      reached_same (history_held t.store).rows s.history.rows step t.tree same nav
      ∙ subst (λ (n : NavId). is_reached Shown s.history.rows step t.tree n ≡ is_shown s.history.rows step n) named all

  -- what is kept of it
  its : IsKept t.tree place
  its = stand.kept nav place placed

  there : nav_of nav t.tree ≡ Some its.fields
  there = subst (λ (n : NavId). nav_of n t.tree ≡ Some its.fields) named its.there

  standing_is : holds (is_standing (history_held t.store).rows step nav) (nav_of nav t.tree) ≡ stands_at s step nav
  standing_is =
      ap (λ (o : Option Nav). holds (is_standing (history_held t.store).rows step nav) o) there
      ∙ ap (λ (o : Option Row). holds (λ (row : Row). holds (same_entry row.entry) its.fields.given) o && not (is_pending its.fields.reload) && has_arrived its.fields) (same nav)
      ∙ rw (its.given, its.unmet, arrived_as its.fields place its.status its.stands) (subst (λ (n : NavId). (holds (λ (row : Row). holds (same_entry row.entry) place.given) (target_entry s.history.rows n step) && not place.is_unmet && log.has_arrived place) ≡ log.is_standing s.history.rows step place) named refl)
      ∙ sym (ap (λ (o : Option Place). holds (log.is_standing s.history.rows step) o) placed)

  pub placed_is : is_placed_at t step nav ≡ is_placed s step nav
  placed_is =
      ap (λ (b : Bool). b && holds (is_standing (history_held t.store).rows step nav) (nav_of nav t.tree)) shown_is
      ∙ ap (λ (b : Bool). is_shown s.history.rows step nav && b) standing_is
