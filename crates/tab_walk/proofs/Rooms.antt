-- A navigable that has set off is shown its target, once there is room for all documents that are kept then.
use Rattle.seen_facts.proofs.Hang.Members.{has_filter}
use Rattle.seen_facts.proofs.Hang.Parts.{state_is}
use Rattle.seen_facts.specs.Hang.Members.{Has}
use Rattle.seen_facts.proofs.Kept.States.{AreOfOwnStates, sole_states}
use Rattle.seen_facts.specs.Kept.Keeping.{kept_states}
use Rattle.log_model.proofs.Refl.{nat_eq_refl}
use Rattle.log_model.specs.AfterPlaces.{kept_leaving, sleepers_below, without_doc, woken_below}
use Rattle.log_model.specs.Equal.{holds}
use Rattle.log_model.specs.History.{History, target_entry}
use Rattle.log_model.specs.Places.{aim_of, is_asleep, is_below, is_gone, is_shown}
use Rattle.log_model.specs.Seen.{Document, Place, Seen, asleep, awake, place_in, place_of}
use Rattle.log_model.specs.declared.job.Why.{Why}
use Rattle.log_model.specs.declared.row_kind.RowKind.{RowKind}
use Rattle.page_cache.specs.Kept.{is_state, left_first, without}
use Rattle.seen_laws.specs.InEvent.{now_of}
use Rattle.std.proofs.Common.{Bool, List, None, Option, Some, [], ap, arith, cond, drop, false, inl, inr, length, map, not, refl, subst, suc, sym, true, zero, ℕ, ◌&&◌, ◌==◌, ◌||◌, ◌∙◌, ◌∷◌, ◌≡◌, ◌≤◌}
use Rattle.std.specs.List.{list_any}
use Rattle.std.specs.Prelude.{filter, option_and_then}
use Rattle.tab_doors.specs.Keeping.{HasRoom, LeavesOne}
use Rattle.tab_doors.specs.declared.tables.Tables.{Tables}
use Rattle.tab_evicts.proofs.Cuts.{fitting_room, over_room}
use Rattle.tab_evicts.proofs.Quiets.{one_of_state}
use Rattle.tab_evicts.specs.Evicting.{InEvicting, IsBeside, IsEvicting, IsToEvict, StaysPlaced}
use Rattle.tab_ids.specs.declared.DocId.{DocId}
use Rattle.tab_ids.specs.declared.NavId.{NavId}
use Rattle.tab_ids.specs.declared.ReqId.{ReqId}
use Rattle.tab_ids.specs.declared.StateId.{StateId}
use Rattle.tab_moves.proofs.Ups.{up_at}
use Rattle.tab_moves.specs.Moving.{AllAsleep, MayCause}
use Rattle.tab_moves.specs.Showing.{IsToShow}
use Rattle.tab_moves.proofs.Makings.{show_causes}
use Rattle.tab_moves.specs.Making.{show_why}
use Rattle.tab_moves.specs.PassedOn.{HasOnly, IsLeaving}
use Rattle.row_facts.specs.Left.Left.{WereShown}
use Rattle.log_model.specs.Checks.{may_go_on}
use Rattle.log_model.specs.Seen.{Asked, request_of}
use Rattle.tab_doors.specs.Working.{KeepsStore, MayDiscardIn}
use Rattle.tab_evicts.specs.Evicting.{HasOnlyDiscarded}
use Rattle.tab_moves.proofs.Frees.{goes_on}
use Rattle.tab_moves.proofs.Lasts.{live_parts}
use Rattle.tab_walk.proofs.Overs.{IsQuietRow, causes_over, discarded_quiet, moved_over, parked_over}
use Rattle.tab_walk.specs.Moving.{InMove, IsBound, IsPart, MayMakeRoom, NoLoadBelowKept, document_or, evicting_in, move_of}
use Rattle.seen_facts.specs.Walk.Serving.{is_needing, is_stopping}
use Rattle.seen_facts.specs.Walk.Walking.{LeavesOthers}
use Rattle.row_facts.proofs.WalkRows.Walks.{stopping_same}
use Rattle.row_facts.specs.WalkRows.Since.{IsVisitedInNeed}
use Rattle.std.proofs.lemmas.Bool.Decides.{nat_tests}
use Rattle.tab_moves.proofs.Showings.{on_parent}
use Rattle.seen_facts.proofs.Rest.Stands.{get_of}
use Rattle.seen_facts.proofs.Walk.Placed.{each_found, found_nav}
use Rattle.seen_facts.proofs.Hang.Hung.{places_distinct}

-- ---- lists

pub filter_none : {A : Type 0} (test : A → Bool) (l : List A) → ((x : A) → Has l x → test x ≡ false) → filter test l ≡ []
filter_none test [] none = refl
filter_none test (x ∷ l) none = rw (none x (inl refl)) (filter_none test l (λ y there. none y (inr there)))

-- where nothing is beyond a bound, no more are there
none_over : (keep : ℕ) (l : List StateId) → [] ≡ drop keep l → length l ≤ keep
none_over zero [] is = omega arith
none_over zero (x ∷ l) is = absurd cc
none_over (suc keep) [] is = omega arith
none_over (suc keep) (x ∷ l) is = let low = none_over keep l is in omega (arith, low)

drop_has : (keep : ℕ) (l : List StateId) (x : StateId) → drop keep l ≡ x ∷ [] → Has l x
drop_has zero l x is = subst (λ (m : List StateId). Has m x) (sym is) (inl refl)
drop_has (suc keep) [] x is = absurd cc
drop_has (suc keep) (y ∷ l) x is = inr (drop_has keep l x is)

-- what is beyond it is none that was left, and was kept
over_kept : (keep : ℕ) (left gone : StateId) (states : List StateId) → 1 ≤ keep → drop keep (left_first left states) ≡ gone ∷ [] → Has states gone × ((gone.0 == left.0) ≡ false)
over_kept zero left gone states some is = absurd (omega (arith, some))
over_kept (suc keep) left gone states some is =
    let parts = has_filter (λ (other : StateId). not (is_state left other)) states gone (drop_has keep (without left states) gone is) in
    (parts.0, (let other = parts.1 in turned (left.0 == gone.0) refl other))
  where
    turned : (b : Bool) → (left.0 == gone.0) ≡ b → not (left.0 == gone.0) ≡ true → (gone.0 == left.0) ≡ false
    turned false at h = grind (arith, nat_tests, at)
    turned true at h = let never : not (left.0 == gone.0) ≡ false = ap not at in absurd cc

-- ---- shown

module _ (m : InMove) (out : List RowKind) (t : Tables) (leaving : IsLeaving m.pass (Some (move_of m)) [] out t) (bound : IsBound m t.running (now_of m.pass.event out)) (sleeps : AllAsleep (now_of m.pass.event out) m.nav) where
  abbrev s : Seen
  s = now_of m.pass.event out

  its_asleep : bound.place.status ≡ asleep
  its_asleep = sleeps m.nav bound.place (inl (nat_eq_refl m.nav.0)) bound.placed

  own : bound.place.nav ≡ m.nav
  own = found_nav s.places m.nav bound.place bound.placed

  nobody : sleepers_below s m.doc bound.place ≡ []
  nobody = rw bound.last (rw bound.apart none)
    where
      each : (q : Place) → Has s.places q → (is_below bound.place.nav q && not (is_asleep q)) ≡ false
      each q there = by_test (is_below bound.place.nav q) refl
        where
          found : place_of s q.nav ≡ Some q
          found = let at = get_of s.places q there in each_found s.places (places_distinct s leaving.going.tab.sound leaving.going.tab.hangs) at.0 q at.1

          by_test : (b : Bool) → is_below bound.place.nav q ≡ b → (b && not (is_asleep q)) ≡ false
          by_test false apart = refl
          by_test true below = rw (sleeps q.nav q (inr (ap (λ (n : NavId). is_below n q) (sym own) ∙ below)) found) refl

      none : woken_below s bound.place.nav ≡ []
      none = ap (λ (l : List Place). map (λ (q : Place). q.nav) l) (filter_none (λ (q : Place). is_below bound.place.nav q && not (is_asleep q)) s.places each)

  old_alive : is_gone s m.left ≡ false
  old_alive = ap (λ (o : Option Document). holds (λ (d : Document). d.is_discarded || d.is_known_dead) o) bound.old_found ∙ either bound.old.is_discarded bound.old.is_known_dead bound.undiscarded bound.unknown
    where
      either : (a b : Bool) → a ≡ false → b ≡ false → (a || b) ≡ false
      either false false e f = refl
      either true b e f = absurd cc
      either false true e f = absurd cc

  own_states : AreOfOwnStates s.documents s.kept m.left m.state
  own_states =
      subst (λ (x : StateId). AreOfOwnStates s.documents s.kept m.left x) bound.old_state
      (sole_states s m.left bound.old leaving.going.tab.kept (record {
        found = bound.old_found;
        only = λ other o there same undiscarded.
            ap (λ (n : DocId). n.0) (leaving.going.tab.docs.sole other m.left o bound.old there bound.old_found (ap (λ (n : ℕ). let x : StateId = record { 0 = n } in x) same) undiscarded bound.undiscarded);
      }))

  leaves_one : LeavesOne s m.doc m.state
  leaves_one =
      record {
        left = m.left;
        is =
            ap (λ (o : Option Document). kept_leaving s m.doc (option_and_then (λ (d : Document). option_and_then (λ (place : Place). place.last) (place_of s d.nav)) o)) bound.new_found
            ∙ ap (λ (n : NavId). kept_leaving s m.doc (option_and_then (λ (place : Place). place.last) (place_of s n))) bound.new_nav
            ∙ ap (λ (o : Option Place). kept_leaving s m.doc (option_and_then (λ (place : Place). place.last) o)) bound.placed
            ∙ ap (λ (o : Option DocId). kept_leaving s m.doc o) bound.last
            ∙ ap (λ (b : Bool). let l : List DocId = cond b s.kept (without_doc m.doc (cond (is_gone s m.left) s.kept (m.left ∷ without_doc m.left s.kept))) in l) bound.apart
            ∙ ap (λ (b : Bool). without_doc m.doc (let l : List DocId = cond b s.kept (m.left ∷ without_doc m.left s.kept) in l)) old_alive;
        apart = bound.apart;
        own = own_states;
      }

  pub to_show : HasRoom (Some m.state) t.kept.keep (kept_states s) bound.target.state → IsToShow (Some (move_of m)) t.running t.kept.keep s m.nav m.doc m.entry m.cause
  to_show room =
      record {
        wanted = record {
          place = bound.place;
          placed = bound.placed;
          visited = bound.visited;
          target = bound.target;
          at = bound.at;
          entry_is = bound.entry_is;
          document = bound.new;
          found = bound.new_found;
          nav_is = bound.new_nav;
          usable = bound.usable;
        };
        may = bound.may;
        moved = bound.moved;
        own = λ other wakes. (let never : awake other ≡ asleep = sym wakes ∙ its_asleep in absurd cc);
        nobody = nobody;
        leaves = (refl, leaves_one, room);
        few = tt;
      }

  -- ---- there is room

  new_state : bound.new.state ≡ bound.target.state
  new_state = (live_parts bound.target.state bound.new bound.usable).0

  new_there : bound.new.is_discarded ≡ false
  new_there = (live_parts bound.target.state bound.new bound.usable).2

  -- the states of the two documents differ
  states_apart : (bound.target.state.0 == m.state.0) ≡ false
  states_apart = by_test (bound.target.state.0 == m.state.0) refl
    where
      by_test : (b : Bool) → (bound.target.state.0 == m.state.0) ≡ b → (bound.target.state.0 == m.state.0) ≡ false
      by_test false is = is
      by_test true is =
          let states : bound.old.state ≡ bound.new.state = bound.old_state ∙ sym (state_is bound.target.state m.state is) ∙ sym new_state in
          let one : m.left ≡ m.doc = one_of_state s leaving.going.tab.docs m.left m.doc bound.old bound.new bound.old_found bound.new_found states bound.undiscarded new_there in
          let never : true ≡ false = sym (ap (λ (d : DocId). d.0 == m.doc.0) one ∙ nat_eq_refl m.doc.0) ∙ bound.apart in
          absurd cc

  -- no more would be kept than may be
  pub room_fits : length (left_first m.state (kept_states s)) ≤ t.kept.keep → HasRoom (Some m.state) t.kept.keep (kept_states s) bound.target.state
  room_fits low = fitting_room t.kept.keep m.state bound.target.state (kept_states s) low states_apart

  -- the new one is the only one beyond the bound
  pub room_over : drop t.kept.keep (left_first m.state (kept_states s)) ≡ bound.target.state ∷ [] → HasRoom (Some m.state) t.kept.keep (kept_states s) bound.target.state
  room_over over = over_room t.kept.keep m.state bound.target.state (kept_states s) over states_apart

  -- ---- another one is, which is to be evicted

  abbrev pub evicting : InEvicting
  evicting = record { pass = m.pass; move = move_of m; left = m.left; state = m.state; new = bound.new }

  pub to_evict : (gone : StateId) (why : Why) → why ≡ show_why t.running m.cause → WereShown s → NoLoadBelowKept s → t.kept.keep ≡ m.pass.event.header.keep → MayDiscardIn false m.pass.event → 1 ≤ t.kept.keep → drop t.kept.keep (left_first m.state (kept_states s)) ≡ gone ∷ [] → (gone.0 == bound.target.state.0) ≡ false → IsToEvict evicting gone why s t.kept.keep
  to_evict gone why for_run were loads header free some over differs =
      record {
        noted = refl;
        may = subst (λ (w : Why). MayCause s w) (sym for_run) (show_causes s t.running leaving.going.tab.asked m.cause bound.may);
        were = were;
        loads = loads gone (over_kept t.kept.keep m.state gone (kept_states s) some over).0;
        header = header;
        free = free;
        over = over;
        kept = (over_kept t.kept.keep m.state gone (kept_states s) some over).1;
        nav = m.nav;
        place = bound.place;
        placed = bound.placed;
        on = λ parent others is. on_parent t.running m.pass.loads m.pass.hand s leaving.going.tab (aim_of s) m.nav bound.place bound.placed (ap (λ (n : NavId). is_shown s.history.rows (aim_of s) n) (sym own) ∙ bound.visited.shown) parent others is (up_at s parent others bound.place is bound.visited.reached);
        last = bound.last;
        apart = bound.apart;
        old = bound.old;
        found = bound.old_found;
        its_nav = bound.old_nav;
        its_state = bound.old_state;
        undiscarded = bound.undiscarded;
        unknown = bound.unknown;
        new_found = bound.new_found;
        new_nav = bound.new_nav;
        another = ap (λ (x : StateId). gone.0 == x.0) new_state ∙ differs;
      }

-- ---- once it is evicted

module _ (m : InMove) (out : List RowKind) (t : Tables) (leaving : IsLeaving m.pass (Some (move_of m)) [] out t) (bound : IsBound m t.running (now_of m.pass.event out)) (sleeps : AllAsleep (now_of m.pass.event out) m.nav) (gone : StateId) (why : Why) (new_out : List RowKind) (u : Tables) (keeps : KeepsStore t u) (then_ : IsEvicting (evicting m out t leaving bound sleeps) gone why new_out u) (only : HasOnlyDiscarded why out new_out) (stays : StaysPlaced (now_of m.pass.event out) (now_of m.pass.event new_out)) where
  abbrev was : Seen
  was = now_of m.pass.event out

  abbrev now : Seen
  now = now_of m.pass.event new_out

  quiet : HasOnly IsQuietRow out new_out
  quiet = discarded_quiet why out new_out only

  each : (req : ReqId) (q : Asked) → request_of now req ≡ Some q → may_go_on now req ≡ true
  each = goes_on now u.running then_.leaving.going.tab.asked

  placed_then : (nav : NavId) → place_of now nav ≡ place_of was nav
  placed_then nav = ap (λ (l : List Place). place_in l nav) stays.places

  abbrev leaves : LeavesOthers was now m.nav
  leaves = stays.leaves m.nav

  visited_then : IsVisitedInNeed now bound.place
  visited_then =
      record {
        shown = ap (λ (h : History). is_shown h.rows (aim_of now) bound.place.nav) leaves.history ∙ ap (λ (step : ℕ). is_shown was.history.rows step bound.place.nav) leaves.aim ∙ bound.visited.shown;
        reached = ap (λ (step : ℕ). list_any (is_stopping now.history.rows step now.places) bound.place.above) leaves.aim ∙ stopping_same was now (aim_of was) bound.place.above leaves.history (λ nav has. placed_then nav) ∙ bound.visited.reached;
        needs = ap (λ (h : History). is_needing h.rows (aim_of now) bound.place) leaves.history ∙ ap (λ (step : ℕ). is_needing was.history.rows step bound.place) leaves.aim ∙ bound.visited.needs;
      }

  abbrev beside : IsBeside now gone (evicting m out t leaving bound sleeps)
  beside = (then_.moving (evicting m out t leaving bound sleeps) refl).beside

  nav_same : beside.nav ≡ m.nav
  nav_same = sym beside.new_nav ∙ bound.new_nav

  pub bound_evicted : IsBound m u.running now
  bound_evicted =
      subst (λ (r : Option ReqId). IsBound m r now) (sym keeps.running) (record {
        place = bound.place;
        placed = placed_then m.nav ∙ bound.placed;
        visited = visited_then;
        target = bound.target;
        at = ap (λ (h : History). target_entry h.rows m.nav (aim_of now)) leaves.history ∙ ap (λ (step : ℕ). target_entry was.history.rows m.nav step) leaves.aim ∙ bound.at;
        entry_is = bound.entry_is;
        last = bound.last;
        apart = bound.apart;
        old = beside.old;
        old_found = beside.found;
        old_nav = beside.its_nav ∙ nav_same;
        old_state = beside.its_state;
        undiscarded = beside.undiscarded;
        unknown = (then_.leaving.going.tab.docs.each m.left beside.old beside.found).live.unknown;
        new = bound.new;
        new_found = beside.new_found;
        new_nav = bound.new_nav;
        usable = bound.usable;
        may = causes_over m.pass.event out new_out quiet each m.cause bound.may;
        moved = λ low. moved_over m.pass.event out new_out quiet (show_why t.running m.cause) m.nav (bound.moved low);
      })

  pub sleeps_evicted : AllAsleep now m.nav
  sleeps_evicted other place at_or placed = sleeps other place at_or (sym (placed_then other) ∙ placed)

  pub part_evicted : IsPart was now m.nav
  part_evicted = record { others = leaves; parked = parked_over m.pass.event out new_out quiet; causes = causes_over m.pass.event out new_out quiet each; loading = stays.loading }

-- ---- in the words of the call

module _ (m : InMove) (out : List RowKind) (t : Tables) (leaving : IsLeaving m.pass (Some (move_of m)) [] out t) (state : StateId) (why : Why) where
  abbrev at_hand : Seen
  at_hand = now_of m.pass.event out

  -- none is beyond the bound
  pub none_beyond : MayMakeRoom m t.running t.kept.keep at_hand None state why → IsToShow (Some (move_of m)) t.running t.kept.keep at_hand m.nav m.doc m.entry m.cause
  none_beyond may =
      to_show m out t leaving may.off.bound may.off.sleeps (room_fits m out t leaving may.off.bound may.off.sleeps (none_over t.kept.keep (left_first m.state (kept_states at_hand)) may.over))

  module _ (gone : StateId) (may : MayMakeRoom m t.running t.kept.keep at_hand (Some gone) state why) where
    abbrev bound_ : IsBound m t.running at_hand
    bound_ = may.off.bound

    -- the new one is
    pub same_beyond : (gone.0 == state.0) ≡ true → IsToShow (Some (move_of m)) t.running t.kept.keep at_hand m.nav m.doc m.entry m.cause
    same_beyond same =
        let states : gone ≡ bound_.target.state = state_is gone state same ∙ sym may.is_state in
        to_show m out t leaving bound_ may.off.sleeps (room_over m out t leaving bound_ may.off.sleeps (sym may.over ∙ ap (λ (x : StateId). x ∷ []) states))

    new_is : evicting_in m at_hand ≡ evicting m out t leaving bound_ may.off.sleeps
    new_is = ap (λ (o : Option Document). let e : InEvicting = record { pass = m.pass; move = move_of m; left = m.left; state = m.state; new = document_or o } in e) bound_.new_found

    -- another one is
    pub other_beyond : (gone.0 == state.0) ≡ false → IsToEvict (evicting_in m at_hand) gone why at_hand t.kept.keep
    other_beyond differs =
        subst (λ (e : InEvicting). IsToEvict e gone why at_hand t.kept.keep) (sym new_is)
        (to_evict m out t leaving bound_ may.off.sleeps gone why may.for_run may.off.were may.off.loads may.header may.free may.some (sym may.over) (ap (λ (x : StateId). gone.0 == x.0) may.is_state ∙ differs))

    -- and was evicted
    pub evicted : (new_out : List RowKind) (u : Tables) → KeepsStore t u → IsEvicting (evicting_in m at_hand) gone why new_out u → HasOnlyDiscarded why out new_out → StaysPlaced at_hand (now_of m.pass.event new_out) → IsLeaving m.pass (Some (move_of m)) [] new_out u × IsToShow (Some (move_of m)) u.running u.kept.keep (now_of m.pass.event new_out) m.nav m.doc m.entry m.cause × IsPart at_hand (now_of m.pass.event new_out) m.nav
    evicted new_out u keeps so only stays =
        (then_.leaving, to_show m new_out u then_.leaving now_bound now_sleeps (room_fits m new_out u then_.leaving now_bound now_sleeps (then_.moving (evicting m out t leaving bound_ may.off.sleeps) refl).room), part_evicted m out t leaving bound_ may.off.sleeps gone why new_out u keeps then_ only stays)
      where
        then_ : IsEvicting (evicting m out t leaving bound_ may.off.sleeps) gone why new_out u
        then_ = subst (λ (e : InEvicting). IsEvicting e gone why new_out u) new_is so

        now_bound : IsBound m u.running (now_of m.pass.event new_out)
        now_bound = bound_evicted m out t leaving bound_ may.off.sleeps gone why new_out u keeps then_ only stays

        now_sleeps : AllAsleep (now_of m.pass.event new_out) m.nav
        now_sleeps = sleeps_evicted m out t leaving bound_ may.off.sleeps gone why new_out u keeps then_ only stays
