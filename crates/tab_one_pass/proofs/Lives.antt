-- Each ongoing load lives on: its navigable is awake, since it stands after a pass, and it has its document.
use Rattle.tab_facts.proofs.Calm.Loads.{HasOne, IsLoads, loads_then}
use Rattle.seen_facts.specs.LoadEnds.Standing.{LoadsStand}
use Rattle.seen_facts.specs.Load.Loading.{Look, is_ongoing, look_of}
use Rattle.log_model.proofs.Refl.{nat_eq_refl}
use Rattle.log_model.specs.Equal.{holds}
use Rattle.log_model.specs.History.{has_nav}
use Rattle.log_model.specs.Places.{aim_of, has_arrived, is_given_target, is_placed, is_shown, is_standing}
use Rattle.log_model.specs.Seen.{Place, Seen, Status, asleep, awake, lost, place_of}
use Rattle.log_model.specs.declared.made.Made.{Made}
use Rattle.std.proofs.Common.{Bool, List, Option, Some, ap, false, not, refl, sym, true, ◌&&◌, ◌||◌, ◌∙◌, ◌≡◌}
use Rattle.std.proofs.lemmas.Bool.{and_parts}
use Rattle.tab_ids.specs.declared.DocId.{DocId}
use Rattle.tab_ids.specs.declared.NavId.{NavId}
use Rattle.tab_ids.specs.declared.ReqId.{ReqId}
use Rattle.tab_ids.specs.declared.StateId.{StateId}
use Rattle.tab_drops.proofs.ForCallers.{stand_reached}
use Rattle.tab_serves.proofs.Reached.{IsReachedAt, reached_at}
use Rattle.tab_one_pass.specs.Passing.{KeepsAwake, LoadsAwake, LoadsLive}
use Rattle.tab_serves.specs.PassedOn.{IsTab}

module _ (run : Option ReqId) (ids : List ReqId) (hand : List Made) (s : Seen) (tab : IsTab run ids hand s) where
  -- one that stands is awake
  pub placed_awake : (nav : NavId) (place : Place) → place_of s nav ≡ Some place → is_placed s (aim_of s) nav ≡ true → (doc : DocId) × (place.status ≡ awake doc)
  placed_awake nav place there placed = by_status place.status refl
    where
      stand : is_standing s.history.rows (aim_of s) place ≡ true
      stand =
          sym (ap (λ (o : Option Place). holds (is_standing s.history.rows (aim_of s)) o) there)
          ∙ (and_parts (is_shown s.history.rows (aim_of s) nav) (holds (is_standing s.history.rows (aim_of s)) (place_of s nav)) placed).1

      arrived : has_arrived place ≡ true
      arrived =
          (and_parts (is_given_target s.history.rows (aim_of s) place && not place.is_unmet) (has_arrived place) stand).1

      by_status : (st : Status) → place.status ≡ st → (doc : DocId) × (place.status ≡ awake doc)
      by_status (awake doc) is = (doc, is)
      by_status lost is = absurd ((tab.standing nav place there).unlost is)
      by_status asleep is =
          let off : has_arrived place ≡ false = rw is refl in
          let never : true ≡ false = sym arrived ∙ off in absurd cc

  -- so the navigable of each ongoing load is, where all of these stand
  pub stand_awake : LoadsStand s → LoadsAwake s
  stand_awake stands req nav its =
      let reached : IsReachedAt s nav = reached_at s nav (stand_reached s stands req nav its) in
      let wakes = placed_awake nav reached.place reached.placed (reached.each nav (ap (λ (b : Bool). b || has_nav reached.place.above nav) (nat_eq_refl nav.0))) in
      (wakes.0, record { place = reached.place; placed = reached.placed; wakes = wakes.1 })

-- ---- over rows

-- where each ongoing load was one, who is awake stays so, and of the load's state there is a document still
pub live_then : (s t : Seen) → ((req : ReqId) (l : Look) → look_of t req ≡ Some l → is_ongoing l ≡ true → look_of s req ≡ Some l) → KeepsAwake s t → ((state : StateId) → IsLoads s state → HasOne s state → HasOne t state) → LoadsLive s → LoadsLive t
live_then s t looks wakes docs live =
    record { awake = awake_then; loading = loads_then s t looks docs live.loading }
  where
    awake_then : LoadsAwake t
    awake_then req nav its =
        let was = live.awake req nav (record { look = its.look; at = looks req its.look its.at its.ongoing; ongoing = its.ongoing; loads_it = its.loads_it }) in
        (was.0, wakes nav was.0 was.1)
