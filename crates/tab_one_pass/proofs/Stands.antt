-- As stray documents are discarded, the navigables of ongoing loads stand where they stood, and then each awake navigable has an entry.
use Rattle.tab_facts.specs.FrameWhole.Tab.{AreAwakeWithRows}
use Rattle.seen_facts.proofs.Hang.Forms.{nav_is}
use Rattle.seen_facts.proofs.Hang.Hung.{place_chain}
use Rattle.seen_facts.proofs.Hang.Members.{any_has, has_any}
use Rattle.seen_facts.proofs.Hang.Parts.{state_is}
use Rattle.seen_facts.specs.Home.Homes.{IsAtHome}
use Rattle.seen_facts.specs.LoadEnds.Standing.{is_reached}
use Rattle.log_model.proofs.Refl.{nat_eq_refl}
use Rattle.log_model.specs.Equal.{holds}
use Rattle.log_model.specs.History.{History, has_nav, has_row, has_state, is_of}
use Rattle.log_model.specs.Places.{aim_of, has_arrived, is_asleep, is_below, is_given_target, is_placed, is_shown, is_standing, stands}
use Rattle.log_model.specs.Seen.{Place, Seen, Status, awake, place_of}
use Rattle.log_model.specs.declared.made.Made.{Made}
use Rattle.log_model.specs.declared.row.Row.{Row}
use Rattle.std.proofs.Common.{Bool, List, Option, Some, ap, false, inl, inr, not, refl, sym, true, ◌&&◌, ◌==◌, ◌||◌, ◌∙◌, ◌∷◌, ◌≡◌, ◌⊎◌}
use Rattle.std.proofs.lemmas.Bool.{and_parts, or_parts}
use Rattle.tab_drops.specs.Dropping.{IsBare, StandOrBare}
use Rattle.tab_ids.specs.declared.DocId.{DocId}
use Rattle.tab_ids.specs.declared.NavId.{NavId}
use Rattle.tab_ids.specs.declared.ReqId.{ReqId}
use Rattle.tab_serves.proofs.Reached.{reached_where}
pub use Rattle.tab_serves.proofs.Reached.{IsReachedAt, reached_at}
use Rattle.tab_sweeps.proofs.ForCallers.{needed}
use Rattle.tab_sweeps.proofs.Loads.{awake_unloaded}
use Rattle.tab_sweeps.specs.Sweeping.{IsOnStray, IsSweptTurn, NoneStray}
use Rattle.tab_serves.specs.PassedOn.{IsTab}
use Rattle.seen_facts.specs.Walk.Serving.{is_needing}
use Rattle.seen_facts.specs.Walk.Walking.{IsApart}
use Rattle.row_facts.proofs.WalkRows.Walks.{above_apart}

-- a place that stands and is awake needs nothing
needs_not : (rows : List Row) (step : _) (place : Place) (doc : DocId) → place.status ≡ awake doc → is_standing rows step place ≡ true → is_needing rows step place ≡ false
needs_not rows step place doc wakes stand =
    let parts = and_parts (is_given_target rows step place && not place.is_unmet) (has_arrived place) stand in
    let more = and_parts (is_given_target rows step place) (not place.is_unmet) parts.0 in
    rw more.0 (by_test place.is_unmet more.1 (asleep_not place.status wakes))
  where
    asleep_not : (status : Status) → status ≡ awake doc → is_asleep (record place { status = status }) ≡ false
    asleep_not (awake d) is = refl
    asleep_not _ is = absurd cc

    by_test : (b : Bool) → not b ≡ true → is_asleep place ≡ false → (is_asleep place || b || false) ≡ false
    by_test false met up = rw up refl
    by_test true met up = absurd cc

module _ (run : Option ReqId) (loads : List ReqId) (hand : List Made) (s t : Seen) (tab : IsTab run loads hand s) (then_ : IsTab run loads hand t) (turn : IsSweptTurn s t) (swept : NoneStray t) where
  -- who is placed isn't on a stray document itself
  placed_off : (nav : NavId) → is_placed s (aim_of s) nav ≡ true → (on : IsOnStray s nav) → (nav.0 == on.over.0) ≡ true → ⊥
  placed_off nav is on same =
      needed run loads hand s t tab then_ turn swept nav on.own here (needs_not s.history.rows (aim_of s) on.own on.doc on.wakes standing) on same
    where
      here : place_of s nav ≡ Some on.own
      here = ap (λ (n : NavId). place_of s n) (nav_is nav on.over same) ∙ on.there

      standing : is_standing s.history.rows (aim_of s) on.own ≡ true
      standing =
          sym (ap (λ (o : Option Place). holds (is_standing s.history.rows (aim_of s)) o) here)
          ∙ (and_parts (is_shown s.history.rows (aim_of s) nav) (stands s (aim_of s) nav) is).1

  module _ (nav : NavId) (its : IsReachedAt s nav) where
    -- one that is on the way to it is on none, nor is one above
    way_has : (n : NavId) → has_nav (nav ∷ its.place.above) n ≡ true → (on : IsOnStray s n) → has_nav (nav ∷ its.place.above) on.over ≡ true
    way_has n has on = by_test (has_nav (nav ∷ its.place.above) on.over) refl
      where
        differs : (a b : NavId) → a ≡ b → (a.0 == b.0) ≡ true
        differs a b is = ap (λ (x : NavId). a.0 == x.0) (sym is) ∙ nat_eq_refl a.0

        by_test : (b : Bool) → has_nav (nav ∷ its.place.above) on.over ≡ b → has_nav (nav ∷ its.place.above) on.over ≡ true
        by_test true is = is
        by_test false is = absurd (by_under on.under (nav.0 == n.0) refl has)
          where
            parts : ((nav.0 == on.over.0) ≡ false) × (has_nav its.place.above on.over ≡ false)
            parts = or_parts (nav.0 == on.over.0) (has_nav its.place.above on.over) is

            by_under : ((n.0 == on.over.0) ≡ true) ⊎ (is_below on.over on.place ≡ true) → (b : Bool) → (nav.0 == n.0) ≡ b → (b || has_nav its.place.above n) ≡ true → ⊥
            by_under (inl same) true own h =
                let one : nav ≡ on.over = nav_is nav n own ∙ nav_is n on.over same in
                let never : true ≡ false = sym (differs nav on.over one) ∙ parts.0 in
                absurd cc
            by_under (inl same) false own h =
                let apart : IsApart s on.over n = above_apart s on.over its.place.above (place_chain s tab.sound tab.hangs nav its.place its.placed) parts.1 n h in
                let never : true ≡ false = sym same ∙ apart.differs in
                absurd cc
            by_under (inr below) true own h =
                let two : Some on.place ≡ Some its.place = sym on.placed ∙ ap (λ (m : NavId). place_of s m) (sym (nav_is nav n own)) ∙ its.placed in
                let one : on.place ≡ its.place = cc in
                let never : true ≡ false = sym below ∙ ap (λ (q : Place). has_nav q.above on.over) one ∙ parts.1 in
                absurd cc
            by_under (inr below) false own h =
                let apart : IsApart s on.over n = above_apart s on.over its.place.above (place_chain s tab.sound tab.hangs nav its.place its.placed) parts.1 n h in
                let never : true ≡ false = sym below ∙ apart.beside on.place on.placed in
                absurd cc

    off : (n : NavId) → has_nav (nav ∷ its.place.above) n ≡ true → IsOnStray s n → ⊥
    off n has on =
        placed_off on.over (its.each on.over (way_has n has on)) (record { over = on.over; own = on.own; there = on.there; doc = on.doc; wakes = on.wakes; state = on.state; stray = on.stray; place = on.own; placed = on.there; under = inl (nat_eq_refl on.over.0) }) (nat_eq_refl on.over.0)

    reached_swept : is_reached t nav ≡ true
    reached_swept = reached_where s t turn.history turn.aim nav its (λ n has. turn.stays n (off n has))

  -- each ongoing load's navigable stands still, or has no entry still
  pub stand_swept : StandOrBare s → StandOrBare t
  stand_swept stand req nav load =
      by_case (stand req nav (record { look = load.look; at = sym (turn.looks req) ∙ load.at; ongoing = load.ongoing; loads_it = load.loads_it }))
    where
      by_case : (is_reached s nav ≡ true) ⊎ IsBare s nav → (is_reached t nav ≡ true) ⊎ IsBare t nav
      by_case (inl is) = inl (reached_swept nav (reached_at s nav is))
      by_case (inr bare) = inr (ap (λ (h : History). has_row nav h.rows) turn.history ∙ bare)

  -- who is awake has an entry
  pub rows_swept : AreAwakeWithRows t
  rows_swept nav place doc at wakes =
      by_state (has_state home.document.state t.history.rows) refl
    where
      home : IsAtHome t.documents place.nav doc
      home = (then_.homes.homed nav place doc at wakes).home

      by_state : (b : Bool) → has_state home.document.state t.history.rows ≡ b → has_row place.nav t.history.rows ≡ true
      by_state true is =
          let a = any_has (λ (row : Row). row.state.0 == home.document.state.0) t.history.rows is in
          let own : a.it.nav ≡ place.nav = then_.whose.whose doc home.document a.it home.found a.there (state_is a.it.state home.document.state a.passes) ∙ home.nav_is in
          has_any (is_of place.nav) t.history.rows a.it a.there (ap (λ (n : NavId). n.0 == place.nav.0) own ∙ nat_eq_refl place.nav.0)
      by_state false is =
          absurd (swept doc home.document.state (record { document = home.document; found = home.found; its_state = refl; ready = home.ready; undiscarded = home.undiscarded; bare = is; unloaded = awake_unloaded t then_.loading then_.shown.ever nav place doc home.document at wakes home.found }))
