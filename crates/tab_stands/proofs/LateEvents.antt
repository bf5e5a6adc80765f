-- Who is shown and late is so for the load that was applied last: so it is still once an event's own row was logged; and from it, what is known of why navigables don't stand.
use Rattle.tab_facts.proofs.Calm.Awakes.{stand_each}
use Rattle.tab_facts.specs.Calm.Calm.{IsCalm, IsHere}
use Rattle.log_model.specs.Equal.{holds}
use Rattle.log_model.specs.History.{History}
use Rattle.log_model.specs.Places.{all_stand, has_arrived, is_awake, is_given_target, is_shown, is_standing, stands, top}
use Rattle.log_model.specs.Seen.{Place, Seen, Status, asleep, awake, lost, place_in, place_of}
use Rattle.seen_facts.proofs.Mover.Places.{WasThere, was_there}
use Rattle.seen_facts.specs.Place.Standing.{AreStanding}
use Rattle.std.proofs.Common.{Bool, List, None, Option, Some, ap, arith, false, inl, inr, not, refl, subst, suc, sym, true, zero, ℕ, ◌&&◌, ◌∙◌, ◌≡◌, ◌≤◌, ◌⊎◌}
use Rattle.std.proofs.lemmas.Bool.{and_parts}
use Rattle.tab_ids.specs.declared.DocId.{DocId}
use Rattle.tab_ids.specs.declared.Epoch.{Epoch}
use Rattle.tab_ids.specs.declared.NavId.{NavId}
use Rattle.tab_ids.specs.declared.ReqId.{ReqId}
use Rattle.tab_ids.specs.declared.StateId.{StateId}
use Rattle.tab_settles.proofs.Lates.{KeepsStep, late_epoch, off_still}
use Rattle.tab_settles.specs.Offs.{IsLate, LateKnown}
use Rattle.tab_settles.specs.Settling.{IsCalmAfter}
use Rattle.tab_stands.proofs.Coming.{IsAlike, IsComing}
use Rattle.tab_stands.proofs.Epochs.{old_by}
use Rattle.tab_stands.specs.Offs.{AreOffKnown, AreShownOnce, IsOffSince, is_new_place}
use Rattle.seen_facts.proofs.Walk.Placed.{found_nav}

-- ---- who is late doesn't stand

and_false : (a b : Bool) → b ≡ false → (a && b) ≡ false
and_false true b is = is
and_false false b is = refl

late_arrived : (s : Seen) (nav : NavId) (place : Place) (doc : DocId) → IsLate s nav place doc → has_arrived place ≡ false
late_arrived s nav place doc late = (let w = late.wakes in let u = late.untold in rw w (rw u refl))

pub late_off : (s : Seen) (nav : NavId) (place : Place) (doc : DocId) → IsLate s nav place doc → stands s s.history.current nav ≡ false
late_off s nav place doc late =
    ap (λ (o : Option Place). holds (is_standing s.history.rows s.history.current) o) late.placed
    ∙ and_false (is_given_target s.history.rows s.history.current place && not place.is_unmet) (has_arrived place) (late_arrived s nav place doc late)

-- so not all stand
pub late_not_all : (s : Seen) → AreStanding s → (nav : NavId) (place : Place) (doc : DocId) → IsLate s nav place doc → is_shown s.history.rows s.history.current nav ≡ true → all_stand s s.history.current ≡ false
late_not_all s standing nav place doc late shown = by_all (all_stand s s.history.current) refl
  where
    by_all : (b : Bool) → all_stand s s.history.current ≡ b → b ≡ false
    by_all false is = refl
    by_all true is =
        let up : is_standing s.history.rows s.history.current place ≡ true = stand_each s standing s.history.current is nav place late.placed shown in
        let arrived : has_arrived place ≡ true = (and_parts (is_given_target s.history.rows s.history.current place && not place.is_unmet) (has_arrived place) up).1 in
        let never : true ≡ false = sym arrived ∙ late_arrived s nav place doc late in
        cc

-- ---- once an event's own row was logged

module _ (blame : List (StateId × ReqId)) (s n : Seen) (comes : IsComing blame s n) where
  pub step_coming : all_stand n n.history.current ≡ false → KeepsStep s n
  step_coming away =
      record {
        changes = λ req q change at changed. (let a : IsAlike n req q = comes.asked req q at in (a.now, a.at, a.changed change changed));
        last = comes.step;
        unstood = λ off. comes.unstood off away;
      }

  late_one : AreStanding n → AreOffKnown None s → (nav : NavId) (place : Place) (doc : DocId) → IsLate n nav place doc → is_shown n.history.rows n.history.current nav ≡ true → IsOffSince n nav place
  late_one standing known nav place doc late shown =
      off_still s n nav w.before place (step_coming (late_not_all n standing nav place doc late shown)) w.found late.placed above why
      (known.since refl nav w.before w.found (ap (λ (h : History). is_shown h.rows h.current nav) (sym comes.history) ∙ shown) (late_off s nav w.before doc was) was.old)
    where
      w : WasThere comes.g s.places nav place
      w =
          was_there comes.g s.places comes.arrives.nav nav place (ap (λ (l : List Place). place_in l nav) (sym comes.places) ∙ late.placed)

      above : place.above ≡ w.before.above
      above = ap (λ (p : Place). p.above) (sym w.is) ∙ ap (λ x. x.above) (comes.arrives.sight w.before)

      why : place.why ≡ w.before.why
      why = ap (λ (p : Place). p.why) (sym w.is) ∙ comes.arrives.why w.before

      wakes : w.before.status ≡ awake doc
      wakes =
          sym (ap (λ x. x.status) (comes.arrives.sight w.before)) ∙ ap (λ (p : Place). p.status) w.is ∙ late.wakes

      epoch : w.before.epoch ≡ place.epoch
      epoch = sym (ap (λ x. x.epoch) (comes.arrives.sight w.before)) ∙ ap (λ (p : Place). p.epoch) w.is

      untold : w.before.is_delivered ≡ false
      untold = by_told w.before.is_delivered refl
        where
          by_told : (b : Bool) → w.before.is_delivered ≡ b → b ≡ false
          by_told false is = refl
          by_told true is =
              let there : has_arrived w.before ≡ true = (let up = wakes in rw up (rw is refl)) in
              let then_ : has_arrived place ≡ true = ap (λ (p : Place). has_arrived p) (sym w.is) ∙ comes.arrives.arrived w.before there in
              let never : true ≡ false = sym then_ ∙ late_arrived n nav place doc late in
              cc

      was : IsLate s nav w.before doc
      was =
          record {
            placed = w.found;
            wakes = wakes;
            untold = untold;
            old = old_by w.before (subst (λ (x : Epoch). 2 ≤ x.0) (sym epoch) (late_epoch n nav place doc late));
          }

  pub late_first : (run : Option ReqId) → AreStanding n → AreOffKnown run s → LateKnown run n
  late_first (Some run) standing known = tt
  late_first None standing known = late_one standing known

-- ---- why navigables don't stand

awake_on : (place : Place) → is_awake place ≡ true → (doc : DocId) × (place.status ≡ awake doc)
awake_on place wakes = by_status place.status refl wakes
  where
    by_status : (status : Status) → place.status ≡ status → is_awake (record place { status = status }) ≡ true → (doc : DocId) × (place.status ≡ awake doc)
    by_status (awake doc) is up = (doc, is)
    by_status lost is never = absurd cc
    by_status asleep is never = absurd cc

module _ (s : Seen) (shows : AreShownOnce s.places) (standing : AreStanding s) where
  -- where no traversal runs
  since : IsCalm s → LateKnown None s → (nav : NavId) (place : Place) → place_of s nav ≡ Some place → is_shown s.history.rows s.history.current nav ≡ true → stands s s.history.current nav ≡ false → is_new_place place ≡ false → IsOffSince s nav place
  since calm known nav place at shown away old = by_awake (calm.wakes nav place at shown_own epoch)
    where
      shown_own : is_shown s.history.rows s.history.current place.nav ≡ true
      shown_own =
          ap (λ (n : NavId). is_shown s.history.rows s.history.current n) (found_nav s.places nav place at) ∙ shown

      epoch : 1 ≤ place.epoch.0
      epoch = by_epoch place.epoch.0 refl
        where
          by_epoch : (k : ℕ) → place.epoch.0 ≡ k → 1 ≤ place.epoch.0
          by_epoch zero is =
              let new : is_new_place place ≡ true = rw is refl in
              let never : true ≡ false = sym new ∙ old in absurd cc
          by_epoch (suc k) is = omega (arith, is)

      -- it isn't told yet that it is shown
      by_told : (doc : DocId) → place.status ≡ awake doc → is_given_target s.history.rows s.history.current place ≡ true → (b : Bool) → place.is_delivered ≡ b → b ≡ false
      by_told doc wakes target false is = refl
      by_told doc wakes target true is =
          let arrived : has_arrived place ≡ true = rw wakes (rw is refl) in
          let met : place.is_unmet ≡ false = (standing nav place at).met in
          let up : is_standing s.history.rows s.history.current place ≡ true = rw target (rw met arrived) in
          let never : true ≡ false = sym (ap (λ (o : Option Place). holds (is_standing s.history.rows s.history.current) o) at ∙ up) ∙ away in
          cc

      by_here : (doc : DocId) → place.status ≡ awake doc → ⊥ ⊎ IsHere s place → IsOffSince s nav place
      by_here doc wakes (inl never) = absurd never
      by_here doc wakes (inr here) =
          known nav place doc (record { placed = at; wakes = wakes; untold = by_told doc wakes here.target place.is_delivered refl; old = old }) shown

      by_awake : ⊥ ⊎ (is_awake place ≡ true) → IsOffSince s nav place
      by_awake (inl never) = absurd never
      by_awake (inr up) = (let on = awake_on place up in by_here on.0 on.1 (calm.here nav place on.0 at on.1))

  pub off_of : (run : Option ReqId) → IsCalmAfter run s → LateKnown run s → AreOffKnown run s
  off_of run calm known =
      record {
        unshown = shows.unshown;
        top_shown = top_shown;
        since = λ idle. since (subst (λ (r : Option ReqId). IsCalmAfter r s) idle calm) (subst (λ (r : Option ReqId). LateKnown r s) idle known);
      }
    where
      top_shown : (place : Place) → place_of s top ≡ Some place → is_new_place place ≡ false
      top_shown place at = by_new (is_new_place place) refl
        where
          one : shows.top_.place ≡ place
          one = let both : Some shows.top_.place ≡ Some place = sym shows.top_.placed ∙ at in cc

          by_new : (b : Bool) → is_new_place place ≡ b → b ≡ false
          by_new false is = refl
          by_new true is =
              let never : true ≡ false = sym shows.top_.shown ∙ ap (λ (p : Place). p.was_activated) one ∙ shows.unshown top place at is in
              absurd cc
