-- Where each navigable that the walk visits is served, each that is to stand does, or waits, or is held up by one above it.
use Rattle.std.proofs.Common.{◌≡◌, ◌⊎◌, inl, inr, ℕ, ◌<◌, Bool, true, false, not, ◌&&◌, ◌||◌, List, [], ◌∷◌, length, refl, sym, ap, ◌∙◌, subst, Option, Some, arith}
use Rattle.std.specs.List.{list_any}
use Rattle.std.proofs.lemmas.Bool.{and_parts}
use Rattle.tab_ids.specs.declared.NavId.{NavId}
use Rattle.log_model.specs.declared.row.Row.{Row}
use Rattle.log_model.specs.Equal.{holds}
use Rattle.log_model.specs.History.{target_entry}
use Rattle.log_model.specs.Places.{is_shown, is_asleep, is_given_target, is_lost_in, is_wanted, has_arrived}
use Rattle.log_model.specs.Seen.{Seen, Place, Status, awake, lost, asleep, place_of}
use Rattle.log_model.specs.Soundness.{IsSound}
use Rattle.seen_facts.specs.Coord.OnItsWay.{stands_in, IsHeldUp, EachOnItsWay}
use Rattle.seen_facts.specs.Hang.AsPlaces.{IsLink, IsChain}
use Rattle.seen_facts.specs.Hang.Hanging.{Hangs}
use Rattle.seen_facts.proofs.Hang.Hung.{has_begun, place_chain, places_distinct}
use Rattle.seen_facts.proofs.Hang.Targets.{some_is}
use Rattle.seen_facts.specs.Walk.Serving.{is_in_place, is_stopping, is_needing, IsServed, IsComing, Waits}
use Rattle.seen_facts.proofs.Walk.Upwards.{shown_up}
use Rattle.seen_facts.proofs.Walk.Placed.{found_nav, found_at, each_found}

pub or_none : (a b : Bool) → (a || b) ≡ false → (a ≡ false) × (b ≡ false)
or_none true b e = cc
or_none false b e = (refl, e)

not_true : (b : Bool) → not b ≡ true → b ≡ false
not_true true e = cc
not_true false e = refl

not_false : (b : Bool) → not b ≡ false → b ≡ true
not_false true e = refl
not_false false e = cc

-- neither asleep nor arrived: awake, and its document hasn't told yet
coming_of : (place : Place) → is_asleep place ≡ false → has_arrived place ≡ false → IsComing place
coming_of place wakes late = by_status place.status refl
  where
    by_status : (st : Status) → place.status ≡ st → IsComing place
    by_status (awake d) e = record { wakes = rw e refl; late = rw e at late }
    by_status lost e = let no_ : true ≡ false = rw e at late in cc
    by_status asleep e = let no_ : true ≡ false = rw e at wakes in cc

module _ (s : Seen) (sound : IsSound s.history) (hangs : Hangs s) (step : ℕ) where
  abbrev rows : List Row
  rows = s.history.rows

  -- not awake on its target, and not lost: it doesn't stand
  falls_of : (place : Place) → place_of s place.nav ≡ Some place → is_in_place rows step place ≡ false → is_lost_in s.places place.nav ≡ false → stands_in rows s.places step place ≡ false
  falls_of place found out kept = rw found (by_target (is_given_target rows step place) refl)
    where
      last : (u : Bool) → (not u && false) ≡ false
      last true = refl
      last false = refl

      by_status : is_given_target rows step place ≡ true → (st : Status) → place.status ≡ st → (not place.is_unmet && has_arrived place) ≡ false
      by_status e (awake d) f = let no_ : true ≡ false = (rw (f, e) at out) in cc
      by_status e lost f = let no_ : true ≡ false = (rw (found, f) at kept) in cc
      by_status e asleep f = rw f (last place.is_unmet)

      by_target : (b : Bool) → is_given_target rows step place ≡ b → (b && not place.is_unmet && has_arrived place) ≡ false
      by_target false e = refl
      by_target true e = by_status e place.status refl

  -- the nearest to the top of those above it that stop the walk
  record Stops (above : List NavId) : Type 0 where
    place : Place
    there : place_of s place.nav ≡ Some place
    shown : is_shown rows step place.nav ≡ true
    kept : list_any (is_lost_in s.places) place.above ≡ false
    falls : stands_in rows s.places step place ≡ false
    nearer : length place.above < length above

  stopping : (above : List NavId) → IsChain s.places above → ((nav : NavId) (rest : List NavId) → above ≡ nav ∷ rest → is_shown rows step nav ≡ true) → list_any (is_lost_in s.places) above ≡ false → list_any (is_stopping rows step s.places) above ≡ true → Stops above
  stopping [] chain shown kept out = let no_ : false ≡ true = out in cc
  stopping (nav ∷ above) chain shown kept out =
      by_test (is_stopping rows step s.places nav) refl out (stopping above chain.1 (λ next others is. shown_up s sound hangs step nav link.place next others link.found (link.above_is ∙ is) (subst (λ (m : NavId). is_shown rows step m ≡ true) (sym same) visible)) lost_.1)
    where
      link : IsLink s.places nav above
      link = chain.0

      same : link.place.nav ≡ nav
      same = found_nav s.places nav link.place link.found

      lost_ : (is_lost_in s.places nav ≡ false) × (list_any (is_lost_in s.places) above ≡ false)
      lost_ = or_none (is_lost_in s.places nav) (list_any (is_lost_in s.places) above) kept

      visible : is_shown rows step nav ≡ true
      visible = shown nav above refl

      by_test : (b : Bool) → is_stopping rows step s.places nav ≡ b → (b || list_any (is_stopping rows step s.places) above) ≡ true → (list_any (is_stopping rows step s.places) above ≡ true → Stops above) → Stops (nav ∷ above)
      by_test false e any on =
          let rest = on any in
          record { place = rest.place; there = rest.there; shown = rest.shown; kept = rest.kept; falls = rest.falls; nearer = let near = rest.nearer in omega (arith, near) }
      by_test true e any on =
          let out_ : is_in_place rows step link.place ≡ false = not_true (is_in_place rows step link.place) (ap (λ (o : Option Place). not (holds (is_in_place rows step) o)) (sym link.found) ∙ e) in
          let own : place_of s link.place.nav ≡ Some link.place = ap (place_of s) same ∙ link.found in
          record {
            place = link.place;
            there = own;
            shown = subst (λ (m : NavId). is_shown rows step m ≡ true) (sym same) visible;
            kept = ap (λ (l : List NavId). list_any (is_lost_in s.places) l) link.above_is ∙ lost_.1;
            falls = falls_of link.place own out_ (subst (λ (m : NavId). is_lost_in s.places m ≡ false) (sym same) lost_.0);
            nearer = let long : length link.place.above ≡ length above = ap (λ (l : List NavId). length l) link.above_is in omega (arith, long);
          }

  module _ (served : (nav : NavId) (place : Place) → place_of s nav ≡ Some place → IsServed rows s.places s.documents step place) where
    -- given its target, and not to be reloaded, but it doesn't stand: it hasn't arrived
    late : (place : Place) → place_of s place.nav ≡ Some place → place.is_unmet ≡ false → is_given_target rows step place ≡ true → stands_in rows s.places step place ≡ false → has_arrived place ≡ false
    late place found met has falls = rw (found, has, met) at falls

    waiting : (place : Place) → place_of s place.nav ≡ Some place → is_shown rows step place.nav ≡ true → list_any (is_stopping rows step s.places) place.above ≡ false → stands_in rows s.places step place ≡ false → (b : Bool) → is_needing rows step place ≡ b → Waits rows s.documents step place
    waiting place found shown reached falls true needs =
        let target = some_is (target_entry rows place.nav step) (has_begun s sound hangs step place.nav shown) in
        inr (record { target = target.0; at = target.1; making = served place.nav place found shown reached needs target.0 target.1 })
    waiting place found shown reached falls false fine =
        let one = or_none (is_asleep place || place.is_unmet) (not (is_given_target rows step place)) fine in
        let two = or_none (is_asleep place) place.is_unmet one.0 in
        inl (coming_of place two.0 (late place found two.1 (not_false (is_given_target rows step place) one.1) falls))

    on_its_way : (place : Place) → place_of s place.nav ≡ Some place → is_wanted rows s.places step place ≡ true → stands_in rows s.places step place ≡ false → Waits rows s.documents step place ⊎ IsHeldUp rows s.places step place
    on_its_way place found wanted falls = by_reached (list_any (is_stopping rows step s.places) place.above) refl
      where
        parts : (is_shown rows step place.nav ≡ true) × (not (list_any (is_lost_in s.places) place.above) ≡ true)
        parts = and_parts (is_shown rows step place.nav) (not (list_any (is_lost_in s.places) place.above)) wanted

        by_reached : (b : Bool) → list_any (is_stopping rows step s.places) place.above ≡ b → Waits rows s.documents step place ⊎ IsHeldUp rows s.places step place
        by_reached false e = inl (waiting place found parts.0 e falls (is_needing rows step place) refl)
        by_reached true e =
            let up = stopping place.above (place_chain s sound hangs place.nav place found) (λ nav rest is. shown_up s sound hangs step place.nav place nav rest found is parts.0) (not_true (list_any (is_lost_in s.places) place.above) parts.1) e in
            let at = found_at s.places up.place.nav up.place up.there in
            inr (record { index = at.0; above = up.place; there = at.1; wanted = rw (up.shown, up.kept) refl; falls = up.falls; nearer = up.nearer })

    pub each_on_its_way : EachOnItsWay rows s.places step (Waits rows s.documents step)
    each_on_its_way =
        record { each = λ i place there wanted falls. on_its_way place (each_found s.places (places_distinct s sound hangs) i place there) wanted falls }
