-- One navigable's turn: its load is dropped, it has none, or it isn't one to give way; and what is said of it as of an earlier row.
use Rattle.tab_doors.proofs.PassedOn.{dropped_now}
use Rattle.seen_facts.proofs.Hang.Forms.{nav_is}
use Rattle.seen_facts.proofs.Hang.Members.{find_has}
use Rattle.seen_facts.specs.LoadEnds.Standing.{LoadsStand, is_reached}
use Rattle.load_table.specs.Loads.{is_of, ongoing_load}
use Rattle.load_table.specs.declared.load.Load.{Load}
use Rattle.seen_facts.specs.LoadTies.Tying.{IsLoadTied, TiesLoads}
use Rattle.log_model.proofs.Refl.{nat_eq_refl}
use Rattle.log_model.specs.Equal.{holds}
use Rattle.log_model.specs.Once.{loads}
use Rattle.log_model.specs.Places.{aim_of, is_load, is_lost_in, is_ongoing_load, is_shown, is_standing, is_under_way, way_of}
use Rattle.log_model.specs.Points.{nav_of_request}
use Rattle.log_model.specs.Seen.{Asked, Place, Seen, place_in, request_of}
use Rattle.log_model.specs.History.{History, has_nav, has_row}
use Rattle.log_model.specs.declared.outcome.Cause.{Cause}
use Rattle.log_model.specs.declared.request.Request.{Request}
use Rattle.log_model.specs.declared.row_kind.RowKind.{RowKind}
use Rattle.seen_facts.specs.Mover.Movers.{AllChangeAsTheyEnd}
use Rattle.row_facts.proofs.Owed.Requests.{req_same}
use Rattle.seen_facts.proofs.Rest.Stands.{all_requests}
use Rattle.seen_laws.specs.InEvent.{now_of}
use Rattle.std.proofs.Common.{Bool, List, None, Option, Some, [], ap, false, inl, inr, not, refl, subst, sym, true, ℕ, ◌&&◌, ◌++◌, ◌==◌, ◌||◌, ◌∙◌, ◌∷◌, ◌≡◌, ◌⊎◌}
use Rattle.std.proofs.lemmas.Bool.{and_parts, or_right}
use Rattle.std.specs.List.{list_all, list_any}
use Rattle.std.specs.Option.{option_map_or}
use Rattle.std.specs.Prelude.{option_map}
use Rattle.tab_doors.specs.declared.tables.Tables.{Tables}
use Rattle.tab_drops.proofs.Drops.{ended_then, leaves_none, leaves_then_dropped, other_request, then_}
use Rattle.tab_drops.proofs.Loads.{load_back, load_held, load_now, open_of, sole_load, sole_nav}
use Rattle.tab_drops.proofs.Spans.{drops_none, drops_one}
use Rattle.tab_drops.specs.Dropping.{ArePlaced, Drop, EndsLoads, HaveEntries, IsBare, IsBelowNav, IsDestroyedLoad, IsDroppedFor, IsLoadApplied, IsLoadOf, IsUnsettled, LeavesAll, StandOrBare, StandOrMove}
use Rattle.tab_drops.specs.Listing.{AreOwn}
use Rattle.tab_drops.specs.Turns.{GivesWay, IsAnyNav, IsTurnAt}
use Rattle.tab_ids.specs.declared.NavId.{NavId}
use Rattle.tab_ids.specs.declared.ReqId.{ReqId}
use Rattle.tab_moves.specs.PassedOn.{IsPassingIn}
use Rattle.tab_moves.specs.Moving.{InPass}
use Rattle.seen_facts.specs.Walk.Serving.{is_needing, is_stopping}
use Rattle.row_facts.specs.WalkRows.Since.{IsVisitedInNeed}
use Rattle.log_model.specs.declared.request.Request.TheVariants as requests
use Rattle.log_model.specs.declared.row_kind.RowKind.TheVariants as rows

-- ---- the table's load is the log's

-- it is an ongoing load of that navigable
pub tied_load : (s : Seen) (table : List Load) (nav : NavId) (load : Load) → TiesLoads s table → ongoing_load nav table ≡ Some load → IsLoadOf s load.req nav
tied_load s table nav load ties at =
    let tied : IsLoadTied s load = ties.there nav load at in
    let same : nav ≡ load.nav = nav_is nav load.nav (find_has (is_of nav) table load at).1 in
    load_now s load.req nav tied.q tied.found tied.ongoing (ap (loads nav) tied.what ∙ ap (λ (n : NavId). n.0 == nav.0) (sym same) ∙ nat_eq_refl nav.0)

pub load_found : (s : Seen) (table : List Load) (nav : NavId) (req : ReqId) → TiesLoads s table → option_map (λ (load : Load). load.req) (ongoing_load nav table) ≡ Some req → IsLoadOf s req nav
load_found s table nav req ties is = by_load (ongoing_load nav table) refl is
  where
    by_load : (o : Option Load) → ongoing_load nav table ≡ o → option_map (λ (load : Load). load.req) o ≡ Some req → IsLoadOf s req nav
    by_load None at h = absurd cc
    by_load (Some load) at h =
        let same : load.req ≡ req = cc in
        subst (λ (r : ReqId). IsLoadOf s r nav) same (tied_load s table nav load ties at)

pub load_missing : (table : List Load) (nav : NavId) → option_map (λ (load : Load). load.req) (ongoing_load nav table) ≡ None → ongoing_load nav table ≡ None
load_missing table nav is = by_load (ongoing_load nav table) refl is
  where
    by_load : (o : Option Load) → ongoing_load nav table ≡ o → option_map (λ (load : Load). load.req) o ≡ None → ongoing_load nav table ≡ None
    by_load None at h = at
    by_load (Some load) at h = absurd cc

-- no request has two
pub loads_own : (s : Seen) (table : List Load) → TiesLoads s table → AreOwn table
loads_own s table ties a b l m at other same =
    let req : l.req ≡ m.req = ap (λ (n : ℕ). let x : ReqId = record { 0 = n } in x) same in
    sole_nav s m.req a b (subst (λ (r : ReqId). IsLoadOf s r a) req (tied_load s table a l ties at)) (tied_load s table b m ties other)

-- ---- whose turn it is for

-- such a one, whose load was dropped if it had one
pub turn_gone : (Is As : Drop → Type 0) (Gone : NavId → Type 0) (nav : NavId) (s t : Seen) (was out : List RowKind) → Gone nav → ((d : Drop) → IsLoadOf s d.req nav → Is d → As d) → IsTurnAt Is IsAnyNav nav s t was out → IsTurnAt As Gone nav s t was out
turn_gone Is As Gone nav s t was out gone as_ turn =
    record {
      left = turn.left;
      ended = λ req load its. turn.ended req load tt;
      others = λ req other load any. by_other req other load any;
      only = record { drops = turn.only.drops; is = turn.only.is; each = λ d there. (let both = turn.only.each d there in (as_ d both.1 both.0, both.1)); order = turn.only.order };
    }
  where
    by_other : (req : ReqId) (other : NavId) → IsLoadOf s req other → ((other.0 == nav.0) ≡ false) ⊎ (Gone other → ⊥) → request_of t req ≡ request_of s req
    by_other req other load (inl apart) = turn.others req other load (inl apart)
    by_other req other load (inr stays) = by_test (other.0 == nav.0) refl
      where
        by_test : (b : Bool) → (other.0 == nav.0) ≡ b → request_of t req ≡ request_of s req
        by_test false e = turn.others req other load (inl e)
        by_test true e = absurd (stays (subst Gone (sym (nav_is other nav e)) gone))

-- it isn't one, or has no load
pub turn_kept : (As : Drop → Type 0) (Gone : NavId → Type 0) (nav : NavId) (s : Seen) (out : List RowKind) → ((req : ReqId) → IsLoadOf s req nav → Gone nav → ⊥) → IsTurnAt As Gone nav s s out out
turn_kept As Gone nav s out none =
    record { left = leaves_none s; ended = none; others = λ req other load any. refl; only = drops_none _ out }

-- ---- it has no load

module _ {sweeps : Bool} (p : InPass) (out : List RowKind) (t : Tables) (pass : IsPassingIn sweeps p out t) (nav : NavId) where
  abbrev s : Seen
  s = now_of p.event out

  pub turn_none : (Is : Drop → Type 0) → ongoing_load nav t.loads ≡ None → IsTurnAt Is IsAnyNav nav s s out out
  turn_none Is none = turn_kept Is IsAnyNav nav s out (λ req load gone. no_load req load)
    where
      no_load : (req : ReqId) → IsLoadOf s req nav → ⊥
      no_load req load =
          let it = load_held s t.loads req nav pass.work.loads load in
          let never : None ≡ Some it.load = sym none ∙ it.at in
          absurd cc

  -- its load is dropped
  module _ (req : ReqId) (load : IsLoadOf (now_of p.event out) req nav) (cause : Cause) where
    one_left : (r : ReqId) → IsLoadOf (then_ p out t pass req nav load cause) r nav → ⊥
    one_left r ongoing =
        let was : IsLoadOf s r nav = load_back s (then_ p out t pass req nav load cause) r nav (leaves_then_dropped p out t pass req nav load cause) ongoing in
        let same : r ≡ req = sole_load s r req nav pass.going.tab.loading was load in
        let own : IsLoadOf (then_ p out t pass req nav load cause) req nav = subst (λ (x : ReqId). IsLoadOf (then_ p out t pass req nav load cause) x nav) same ongoing in
        ended_then p out t pass req nav load cause own.look own.at own.ongoing

    other_left : (r : ReqId) (other : NavId) → IsLoadOf s r other → (other.0 == nav.0) ≡ false → request_of (then_ p out t pass req nav load cause) r ≡ request_of s r
    other_left r other its apart = other_request p out t pass req nav load cause r (by_test (r.0 == req.0) refl)
      where
        by_test : (b : Bool) → (r.0 == req.0) ≡ b → (r.0 == req.0) ≡ false
        by_test false e = e
        by_test true e =
            let same : other ≡ nav = sole_nav s req other nav (subst (λ (x : ReqId). IsLoadOf s x other) (req_same r req e) its) load in
            let never : false ≡ true = sym apart ∙ ap (λ (n : NavId). n.0 == nav.0) same ∙ nat_eq_refl nav.0 in
            absurd cc

    pub turn_dropped : (Is : Drop → Type 0) (new : List RowKind) → new ≡ out ++ rows.Dropped req cause ∷ [] → Is (record { req = req; cause = cause }) → IsTurnAt Is IsAnyNav nav s (now_of p.event new) out new
    turn_dropped Is new is it =
        record {
          left = subst (λ (x : Seen). LeavesAll s x) now_is (leaves_then_dropped p out t pass req nav load cause);
          ended = λ r ongoing gone. one_left r (subst (λ (x : Seen). IsLoadOf x r nav) (sym now_is) ongoing);
          others = λ r other its any. ap (λ (x : Seen). request_of x r) (sym now_is) ∙ other_left r other its (apart_of other any);
          only = drops_one _ out new (record { req = req; cause = cause }) is (it, load);
        }
      where
        now_is : then_ p out t pass req nav load cause ≡ now_of p.event new
        now_is = sym (ap (λ (l : List RowKind). now_of p.event l) is ∙ dropped_now p.event out req cause)

        apart_of : (other : NavId) → ((other.0 == nav.0) ≡ false) ⊎ (IsAnyNav other → ⊥) → (other.0 == nav.0) ≡ false
        apart_of other (inl apart) = apart
        apart_of other (inr never) = absurd (never tt)

-- ---- as of an earlier row

pub visited_same : (s t : Seen) → t.places ≡ s.places → t.history ≡ s.history → aim_of t ≡ aim_of s → (place : Place) → IsVisitedInNeed s place → IsVisitedInNeed t place
visited_same s t places history aim place need =
    record {
      shown = ap (λ (h : History). is_shown h.rows (aim_of t) place.nav) history ∙ ap (λ (n : ℕ). is_shown s.history.rows n place.nav) aim ∙ need.shown;
      reached = ap (λ (h : History). list_any (is_stopping h.rows (aim_of t) t.places) place.above) history ∙ ap (λ (n : ℕ). list_any (is_stopping s.history.rows n t.places) place.above) aim ∙ ap (λ (l : List Place). list_any (is_stopping s.history.rows (aim_of s) l) place.above) places ∙ need.reached;
      needs = ap (λ (h : History). is_needing h.rows (aim_of t) place) history ∙ ap (λ (n : ℕ). is_needing s.history.rows n place) aim ∙ need.needs;
    }

unsettled_same : (s t : Seen) → t.places ≡ s.places → t.history ≡ s.history → aim_of t ≡ aim_of s → (nav : NavId) → IsUnsettled s nav → IsUnsettled t nav
unsettled_same s t places history aim nav away =
    record {
      place = away.place;
      placed = ap (λ (l : List Place). place_in l nav) places ∙ away.placed;
      mover = away.mover;
      on_way = away.on_way;
      own = away.own;
      there = ap (λ (l : List Place). place_in l away.mover) places ∙ away.there;
      need = visited_same s t places history aim away.own away.need;
    }

abbrev reached_in : History → List Place → ℕ → NavId → Bool
reached_in history places step nav =
    list_all (λ (n : NavId). is_shown history.rows step n && holds (is_standing history.rows step) (place_in places n)) (option_map_or way_of (place_in places nav) (nav ∷ []))
    && holds (λ (place : Place). not (list_any (is_lost_in places) place.above)) (place_in places nav)

pub reached_same : (s t : Seen) → t.places ≡ s.places → t.history ≡ s.history → aim_of t ≡ aim_of s → (nav : NavId) → is_reached s nav ≡ true → is_reached t nav ≡ true
reached_same s t places history aim nav is =
    ap (λ (h : History). reached_in h t.places (aim_of t) nav) history ∙ ap (λ (l : List Place). reached_in s.history l (aim_of t) nav) places ∙ ap (λ (n : ℕ). reached_in s.history s.places n nav) aim ∙ is

module _ (s t : Seen) (left : LeavesAll s t) where
  pub unsettled_on : (nav : NavId) → IsUnsettled s nav → IsUnsettled t nav
  unsettled_on = unsettled_same s t left.places left.history left.aim

  pub unsettled_back : (nav : NavId) → IsUnsettled t nav → IsUnsettled s nav
  unsettled_back = unsettled_same t s (sym left.places) (sym left.history) (sym left.aim)

  pub below_on : (top nav : NavId) → IsBelowNav s top nav → IsBelowNav t top nav
  below_on top nav is = record { place = is.place; placed = ap (λ (l : List Place). place_in l nav) left.places ∙ is.placed; below = is.below }

  pub below_back : (top nav : NavId) → IsBelowNav t top nav → IsBelowNav s top nav
  below_back top nav is = record { place = is.place; placed = ap (λ (l : List Place). place_in l nav) (sym left.places) ∙ is.placed; below = is.below }

  pub bare_on : (nav : NavId) → IsBare s nav → IsBare t nav
  bare_on nav is = ap (λ (h : History). has_row nav h.rows) left.history ∙ is

  pub bare_back : (nav : NavId) → IsBare t nav → IsBare s nav
  bare_back nav is = ap (λ (h : History). has_row nav h.rows) (sym left.history) ∙ is

  pub placed_on : ArePlaced s → ArePlaced t
  placed_on placed req nav load =
      let it = placed req nav (load_back s t req nav left load) in
      (it.0, ap (λ (l : List Place). place_in l nav) left.places ∙ it.1)

  -- what is said of a drop
  pub moved_drop_back : (by : ReqId) (d : Drop) → IsDroppedFor t by (IsUnsettled t) d → IsDroppedFor s by (IsUnsettled s) d
  moved_drop_back by d it = record { nav = it.nav; load = load_back s t d.req it.nav left it.load; gone = unsettled_back it.nav it.gone; cause_is = it.cause_is }

  pub below_drop_back : (top : NavId) (by : ReqId) (d : Drop) → IsDroppedFor t by (IsBelowNav t top) d → IsDroppedFor s by (IsBelowNav s top) d
  below_drop_back top by d it = record { nav = it.nav; load = load_back s t d.req it.nav left it.load; gone = below_back top it.nav it.gone; cause_is = it.cause_is }

  pub destroyed_back : (d : Drop) → IsDestroyedLoad t d → IsDestroyedLoad s d
  destroyed_back d it =
      record {
        nav = it.nav;
        load = load_back s t d.req it.nav left it.load;
        bare = bare_back it.nav it.bare;
        place = it.place;
        placed = ap (λ (l : List Place). place_in l it.nav) (sym left.places) ∙ it.placed;
        by = it.by;
        taken = it.taken;
        cause_is = it.cause_is;
      }

  -- the load that was applied is so still
  pub applied_on : (nav : NavId) (by : ReqId) → AllChangeAsTheyEnd s.requests → IsLoadApplied s nav by → IsLoadApplied t nav by
  applied_on nav by unasked it =
      record {
        mover = it.mover;
        found = left.others by it.mover it.found (no_load (is_ongoing_load it.mover) refl);
        change = it.change;
        changed = it.changed;
        its = it.its;
        last = left.last ∙ it.last;
        unstood = left.stood it.unstood;
        place = it.place;
        placed = ap (λ (l : List Place). place_in l nav) left.places ∙ it.placed;
        need = visited_same s t left.places left.history left.aim it.place it.need;
      }
    where
      no_load : (b : Bool) → is_ongoing_load it.mover ≡ b → is_ongoing_load it.mover ≡ false
      no_load false e = e
      no_load true e =
          let none : it.mover.change ≡ None = (unasked by it.mover it.found).unchanged (open_of it.mover e) in
          let never : None ≡ Some it.change = sym none ∙ it.changed in
          absurd cc

  -- where the navigables of loads are reached, they are so still
  pub reached_on : (nav : NavId) → is_reached s nav ≡ true → is_reached t nav ≡ true
  reached_on = reached_same s t left.places left.history left.aim

-- ---- in the end

-- a test that each navigable of an ongoing load passes
pub each_stands : (t : Seen) → ((req : ReqId) (nav : NavId) → IsLoadOf t req nav → is_reached t nav ≡ true) → LoadsStand t
each_stands t each =
    all_requests t.requests (λ (q : Asked). not (is_ongoing_load q) || holds (λ (nav : NavId). is_reached t nav) (nav_of_request q.what)) (λ req q at. by_test req q at (is_ongoing_load q) refl)
  where
    by_what : (req : ReqId) (q : Asked) → request_of t req ≡ Some q → is_ongoing_load q ≡ true → (what : Request) → q.what ≡ what → is_load what ≡ true → holds (λ (nav : NavId). is_reached t nav) (nav_of_request what) ≡ true
    by_what req q at ongoing (requests.Load nav mode address) is load =
        each req nav (load_now t req nav q at ongoing (ap (loads nav) is ∙ nat_eq_refl nav.0))
    by_what req q at ongoing (requests.Go delta) is load = absurd cc
    by_what req q at ongoing (requests.Reload nav) is load = absurd cc
    by_what req q at ongoing (requests.Poke nav action) is load = absurd cc

    by_test : (req : ReqId) (q : Asked) → request_of t req ≡ Some q → (b : Bool) → is_ongoing_load q ≡ b → (not b || holds (λ (nav : NavId). is_reached t nav) (nav_of_request q.what)) ≡ true
    by_test req q at false ongoing = refl
    by_test req q at true ongoing = by_what req q at ongoing q.what refl (and_parts (is_under_way q) (is_load q.what) ongoing).1

-- after those that are away have ended
pub stand_then : (s t : Seen) → LeavesAll s t → StandOrMove s → EndsLoads (IsUnsettled s) s t → StandOrBare t
stand_then s t left stands ends req nav load = by_case (stands req nav (load_back s t req nav left load))
  where
    by_case : (is_reached s nav ≡ true) ⊎ (IsUnsettled s nav ⊎ IsBare s nav) → (is_reached t nav ≡ true) ⊎ IsBare t nav
    by_case (inl reached) = inl (reached_on s t left nav reached)
    by_case (inr (inl away)) = absurd (ends.ended req nav load away)
    by_case (inr (inr bare)) = inr (bare_on s t left nav bare)

-- and those of navigables without an entry
pub all_stand_then : (s t : Seen) → LeavesAll s t → StandOrBare s → EndsLoads (IsBare s) s t → LoadsStand t
all_stand_then s t left stands ends =
    each_stands t (λ req nav load. by_case req nav load (stands req nav (load_back s t req nav left load)))
  where
    by_case : (req : ReqId) (nav : NavId) → IsLoadOf t req nav → (is_reached s nav ≡ true) ⊎ IsBare s nav → is_reached t nav ≡ true
    by_case req nav load (inl reached) = reached_on s t left nav reached
    by_case req nav load (inr bare) = absurd (ends.ended req nav load bare)

-- each navigable of a load has an entry, where none without one has a load
pub entries_then : (s t : Seen) → LeavesAll s t → EndsLoads (IsBare s) s t → HaveEntries t
entries_then s t left ends req nav load = by_test (has_row nav t.history.rows) refl
  where
    by_test : (b : Bool) → has_row nav t.history.rows ≡ b → has_row nav t.history.rows ≡ true
    by_test true is = is
    by_test false is = absurd (ends.ended req nav load (bare_back s t left nav is))

-- ---- a load that was applied

-- those below its navigable give way to it
pub below_gives : (s : Seen) (run : Option ReqId) (top nav : NavId) (by : ReqId) → run ≡ None → IsLoadApplied s top by → IsBelowNav s top nav → GivesWay s run by nav
below_gives s run top nav by none it below =
    record {
      away = record { place = below.place; placed = below.placed; mover = top; on_way = on_way; own = it.place; there = it.placed; need = it.need };
      cause = inr (
        none,
        record {
          mover = it.mover;
          found = it.found;
          change = it.change;
          changed = it.changed;
          top = top;
          its = it.its;
          on_way = ap (λ (o : Option Place). has_nav (option_map_or way_of o (nav ∷ [])) top) below.placed ∙ on_way;
          last = it.last;
          unstood = it.unstood;
        },
      );
    }
  where
    on_way : has_nav (way_of below.place) top ≡ true
    on_way = or_right (below.place.nav.0 == top.0) (has_nav below.place.above top) below.below
