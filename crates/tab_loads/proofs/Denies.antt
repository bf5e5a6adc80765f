-- The reason that the tables tell against a load is that of the log, as the event begins.
use Rattle.apply_plan.specs.Reaches.{is_reached}
use Rattle.apply_plan.specs.declared.reach.Reach.TheVariants.{Shown}
use Rattle.tab_facts.proofs.Calm.Awakes.{lost_none}
use Rattle.seen_facts.proofs.Hang.Forms.{IsPlaceOf, nav_is, place_there}
use Rattle.seen_facts.proofs.Hang.Members.{any_has, has_any as any_of}
use Rattle.seen_facts.proofs.Hang.Targets.{target_has, target_there}
use Rattle.seen_facts.specs.Hang.Hanging.{Hangs}
use Rattle.seen_facts.specs.Hang.Members.{Has}
use Rattle.log_model.proofs.Refl.{nat_eq_refl}
use Rattle.log_model.specs.Causes.{denial_at_acceptance, is_unreachable}
use Rattle.log_model.specs.Equal.{holds}
use Rattle.log_model.specs.History.{has_row, is_of, target_entry}
use Rattle.log_model.specs.Places.{is_below_known_lost, is_shown}
use Rattle.log_model.specs.Seen.{Place, Seen, place_of}
use Rattle.log_model.specs.Soundness.{IsSound}
use Rattle.log_model.specs.declared.outcome.Denial.{Denial}
use Rattle.log_model.specs.declared.request.Mode.{Mode}
use Rattle.log_model.specs.declared.row.Row.{Row}
use Rattle.seen_facts.specs.Place.Standing.{AreStanding}
use Rattle.std.proofs.Common.{Bool, List, None, Option, Some, ap, arith, false, length, not, refl, sym, true, ℕ, ◌&&◌, ◌<◌, ◌==◌, ◌∙◌, ◌≡◌, ◌≤◌}
use Rattle.std.specs.Prelude.{if◌then◌else◌, is_some}
use Rattle.step_index.specs.Held.{history_held}
use Rattle.tab_doors.proofs.Histories.{held_begins}
use Rattle.tab_doors.specs.Dues.{has_any, has_none}
use Rattle.tab_doors.specs.Look.{look_of}
use Rattle.tab_doors.specs.Ties.{Holds}
use Rattle.tab_doors.specs.declared.tables.Tables.{Tables}
use Rattle.tab_facts.proofs.TabGoing.Counts.{count_few}
use Rattle.tab_facts.specs.TabGoing.Going.{AreSteps, count_of, has_ended}
use Rattle.tab_ids.specs.declared.NavId.{NavId}
use Rattle.tab_ids.specs.declared.ReqId.{ReqId}
use Rattle.tab_loads.proofs.Reached.{shown_is}
use Rattle.tab_loads.specs.Telling.{denial_in}
use Rattle.log_model.specs.declared.outcome.Denial.TheVariants as denials
use Rattle.log_model.specs.declared.request.Request.TheVariants as requests

-- where each row's step is one that there may be, who has a row has one at the last step
any_is : (rows : List Row) → ((row : Row) → Has rows row → row.step.0 ≤ 4294967295) → (nav : NavId) → has_row nav rows ≡ has_any rows nav
any_is rows low nav = by_row (has_row nav rows) refl
  where
    never : (row : Row) → target_entry rows nav 4294967295 ≡ Some row → has_row nav rows ≡ true
    never row at =
        let t = target_has rows nav 4294967295 row at in
        any_of (is_of nav) rows row t.there (ap (λ (n : NavId). n.0 == nav.0) t.nav_is ∙ nat_eq_refl nav.0)

    by_target : has_row nav rows ≡ false → (o : Option Row) → target_entry rows nav 4294967295 ≡ o → is_some (target_entry rows nav 4294967295) ≡ false
    by_target none None at = ap is_some at
    by_target none (Some row) at = let no_ : false ≡ true = sym none ∙ never row at in absurd cc

    by_row : (b : Bool) → has_row nav rows ≡ b → has_row nav rows ≡ has_any rows nav
    by_row true is =
        let a = any_has (is_of nav) rows is in
        is ∙ sym (target_there rows nav 4294967295 a.it a.there (nav_is a.it.nav nav a.passes) (low a.it a.there))
    by_row false is = is ∙ sym (by_target is (target_entry rows nav 4294967295) refl)

-- who has an entry has a place
pub row_place : (s : Seen) → Hangs s → (nav : NavId) → has_row nav s.history.rows ≡ true → (place : Place) × (place_of s nav ≡ Some place)
row_place s hangs nav has =
    let a = any_has (is_of nav) s.history.rows has in
    let form = hangs.rows.placed a.it a.there in
    let there : IsPlaceOf s.places a.it.nav form.form = place_there s.places a.it.nav form.form form.found in
    (there.place, ap (λ (n : NavId). place_of s n) (sym (nav_is a.it.nav nav a.passes)) ∙ there.found)

-- a load against which there is no reason is of a navigable with an entry, which is shown
pub record IsUndenied (s : Seen) (nav : NavId) : Type 0 where
  pub has : has_row nav s.history.rows ≡ true
  pub shown : is_shown s.history.rows s.history.current nav ≡ true

pub undenied : (s : Seen) (nav : NavId) (mode : Mode) (address : List ℕ) → denial_at_acceptance s (requests.Load nav mode address) ≡ None → IsUndenied s nav
undenied s nav mode address none =
    by_tests (has_row nav s.history.rows) (is_shown s.history.rows s.history.current nav) refl refl none
  where
    by_tests : (b c : Bool) → has_row nav s.history.rows ≡ b → is_shown s.history.rows s.history.current nav ≡ c → (if not b then Some denials.NoNavigable else (if not c then Some denials.NotShown else (if true && is_unreachable s nav then Some denials.NoDocument else None))) ≡ None → IsUndenied s nav
    by_tests true true has shown is = record { has = has; shown = shown }
    by_tests true false has shown is = absurd cc
    by_tests false c has shown is = absurd cc

module _ (s : Seen) (run : Option ReqId) (t : Tables) (holds_ : Holds (look_of s run) t) (sound : IsSound s.history) (hangs : Hangs s) (standing : AreStanding s) (steps : AreSteps s) (room : length s.requests < 4294967295) (nav : NavId) (mode : Mode) (address : List ℕ) where
  low : (row : Row) → Has s.history.rows row → row.step.0 ≤ 4294967295
  low row there =
      let step : row.step.0 ≤ count_of has_ended s.requests = steps.rows_ row there in
      let few : count_of has_ended s.requests ≤ length s.requests = count_few has_ended s.requests in
      omega (arith, step, few, room)

  pub none_is : has_none (history_held t.store).rows nav ≡ not (has_row nav s.history.rows)
  none_is = ap not (held_begins t.store s.history holds_.history nav) ∙ ap not (sym (any_is s.history.rows low nav))

  -- nobody above is known lost
  reachable : is_unreachable s nav ≡ false
  reachable = by_place (place_of s nav)
    where
      by_place : (o : Option Place) → holds (is_below_known_lost s) o ≡ false
      by_place None = refl
      by_place (Some place) = lost_none s standing place.above

  shown_here : has_row nav s.history.rows ≡ true → is_reached Shown (history_held t.store).rows (history_held t.store).current t.tree nav ≡ is_shown s.history.rows s.history.current nav
  shown_here has =
      let at = row_place s hangs nav has in
      shown_is s run t holds_ sound hangs nav at.0 at.1 (history_held t.store).current
      ∙ ap (λ (k : ℕ). is_shown s.history.rows k nav) holds_.history.current

  pub denial_is : denial_in t nav ≡ denial_at_acceptance s (requests.Load nav mode address)
  denial_is = by_row (has_row nav s.history.rows) refl
    where
      by_shown : (b : Bool) → (if b then None else Some denials.NotShown) ≡ (if not b then Some denials.NotShown else (let o : Option Denial = None in o))
      by_shown true = refl
      by_shown false = refl

      by_row : (b : Bool) → has_row nav s.history.rows ≡ b → denial_in t nav ≡ denial_at_acceptance s (requests.Load nav mode address)
      by_row false none = rw (none_is, none) refl
      by_row true has = rw (none_is, has, shown_here has, reachable) (by_shown (is_shown s.history.rows s.history.current nav))
