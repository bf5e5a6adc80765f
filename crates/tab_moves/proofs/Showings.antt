-- A navigable that is to be shown its target may be, and all goes on then.
use Rattle.tab_doors.proofs.PassedOn.{sent_now}
use Rattle.seen_facts.proofs.Coord.Unread.{next}
use Rattle.tab_passes.proofs.Goings.{ServesNoneToBegin, for_passed, goes_on, is_passed_for, none_to_begin, show_causes}
use Rattle.seen_facts.proofs.Hang.Hung.{not_above_itself, place_chain, places_distinct}
use Rattle.seen_facts.proofs.Hang.Parts.{state_is}
use Rattle.seen_facts.proofs.Hang.Targets.{IsTarget, target_has}
use Rattle.seen_facts.specs.Hang.AsPlaces.{AreDistinct}
use Rattle.seen_facts.proofs.Kept.States.{AreOfOwnStates, sole_states}
use Rattle.log_model.proofs.Refl.{nat_eq_refl}
use Rattle.log_model.specs.AfterPlaces.{activated, sleepers_below}
use Rattle.log_model.specs.Checks.{may_go_on}
use Rattle.log_model.specs.Equal.{holds}
use Rattle.log_model.specs.History.{has_nav, row_of, same_entry, target_entry}
use Rattle.log_model.specs.Orders.{needs_activation}
use Rattle.log_model.specs.Places.{aim_of, all_stand, is_asleep, is_given_target, is_shown, is_standing, pair_at, pair_in, stands}
use Rattle.log_model.specs.Seen.{Asked, Document, Place, Seen, asleep, place_of, request_of}
use Rattle.log_model.specs.declared.job.Job.{Job}
use Rattle.log_model.specs.declared.job.Why.{Why}
use Rattle.log_model.specs.declared.row.Row.{Row}
use Rattle.log_model.specs.declared.row_kind.RowKind.{RowKind}
use Rattle.seen_facts.specs.Mover.Movers.{IsMovedBy}
use Rattle.nav_tree.specs.Tree.{nav_of, node_of}
use Rattle.nav_tree.specs.declared.nav.Nav.{Nav}
use Rattle.nav_tree.specs.declared.node.Node.{Node}
use Rattle.row_facts.proofs.RestRows.Orders.{shown_alone}
use Rattle.row_facts.specs.RestRows.Moving.{RestBut}
use Rattle.seen_laws.specs.InEvent.{now_of}
use Rattle.std.proofs.Common.{Bool, List, None, Option, Some, [], ap, arith, cond, false, length, map, not, refl, subst, sym, true, ℕ, ◌&&◌, ◌++◌, ◌+◌, ◌<◌, ◌==◌, ◌||◌, ◌∙◌, ◌∷◌, ◌≡◌, ◌≤◌}
use Rattle.std.proofs.lemmas.Bool.Decides.{nat_tests}
use Rattle.std.specs.List.{list_any}
use Rattle.std.specs.Option.{option_map_or}
use Rattle.std.specs.Prelude.{IfSome, is_some, option_map}
use Rattle.step_index.specs.Held.{history_held}
use Rattle.tab_doors.proofs.Holding.{its_node}
use Rattle.tab_doors.proofs.Whose.{proc_found}
use Rattle.tab_doors.specs.Keeping.{LeavesFor, Move}
use Rattle.tab_doors.specs.Look.{look_of, moved_by, sight}
use Rattle.tab_doors.specs.Orders.{MayShow, order_to, proc_at}
use Rattle.tab_doors.specs.Ties.{IsTied}
use Rattle.tab_doors.specs.Working.{IsAtWork, KeepsStore}
use Rattle.tab_doors.specs.declared.tables.Tables.{Tables}
use Rattle.tab_ids.specs.declared.DocId.{DocId}
use Rattle.tab_ids.specs.declared.EntryId.{EntryId}
use Rattle.tab_ids.specs.declared.Epoch.{Epoch}
use Rattle.tab_ids.specs.declared.NavId.{NavId}
use Rattle.tab_ids.specs.declared.ReqId.{ReqId}
use Rattle.tab_ids.specs.declared.StateId.{StateId}
use Rattle.tab_moves.proofs.Fews.{few_shown}
use Rattle.tab_moves.proofs.Ups.{held_row, up_at}
use Rattle.tab_moves.specs.Showing.{IsShownBy, IsToShow, IsTurn}
use Rattle.tab_passes.proofs.Aims.{aim_is, held_aim, held_pair}
use Rattle.tab_passes.proofs.Leavings.{IsShowOf, IsToMade, passing_again, sent_home, shown_leaving}
use Rattle.tab_doors.specs.Orders.{IsForOther}
use Rattle.tab_passes.proofs.Others.{cause_off}
use Rattle.tab_passes.proofs.Serveds.{served_causes}
use Rattle.tab_passes.specs.Causes.{MayCause, show_why}
use Rattle.tab_passes.specs.Leaving.{IsLeaving}
use Rattle.tab_passes.specs.Passing.{InPass, IsPassing, aim_in}
pub use Rattle.tab_passes.proofs.PassedOn.{on_parent}
use Rattle.seen_facts.proofs.Walk.Placed.{found_nav}
use Rattle.seen_facts.proofs.Walk.Sleepers.{becomes, place_becomes, sleepers_of, slept}
use Rattle.seen_facts.proofs.Walk.Turns.{show_leaves, show_serves}
use Rattle.seen_facts.specs.Walk.Serving.{is_stopping}
use Rattle.seen_facts.specs.Walk.Walking.{IsApart, LeavesOthers}
use Rattle.row_facts.proofs.WalkRows.Needs.{visited_not_all_stand}
use Rattle.row_facts.proofs.WalkRows.Walks.{above_apart, stopping_same}
use Rattle.log_model.specs.declared.job.Task.TheVariants as tasks
use Rattle.log_model.specs.declared.job.Why.TheVariants as whys
use Rattle.log_model.specs.declared.row_kind.RowKind.TheVariants as rows

both_false : (a b : Bool) → a ≡ false → b ≡ false → (a || b) ≡ false
both_false a b one other = rw (one, other) refl

module _ (p : InPass) (move : Option Move) (out : List RowKind) (t : Tables) (leaving : IsLeaving p move [] out t) (nav : NavId) (doc : DocId) (entry : EntryId) (cause : Why) (to : IsToShow move t.running t.kept.keep (now_of p.event out) nav doc entry cause) where
  abbrev s : Seen
  s = now_of p.event out

  abbrev place : Place
  place = to.wanted.place

  abbrev target : Row
  target = to.wanted.target

  abbrev d : Document
  d = to.wanted.document

  abbrev why : Why
  why = show_why t.running cause

  its : IsTarget s.history.rows nav (aim_of s) target
  its = target_has s.history.rows nav (aim_of s) target to.wanted.at

  own : place.nav ≡ nav
  own = found_nav s.places nav place to.wanted.placed

  distinct : AreDistinct s.places
  distinct = places_distinct s leaving.going.tab.sound leaving.going.tab.hangs

  usable_parts : (d.state ≡ target.state) × (d.is_ready ≡ true) × (d.is_discarded ≡ false) × (d.is_known_dead ≡ false)
  usable_parts = by_parts (d.state.0 == target.state.0) d.is_ready d.is_discarded d.is_known_dead refl to.wanted.usable
    where
      by_parts : (a b c x : Bool) → (d.state.0 == target.state.0) ≡ a → (a && b && not c && not x) ≡ true → (d.state ≡ target.state) × (b ≡ true) × (c ≡ false) × (x ≡ false)
      by_parts true true false false is h = (state_is d.state target.state is, refl, refl, refl)
      by_parts true true false true is h = absurd cc
      by_parts true true true x is h = absurd cc
      by_parts true false c x is h = absurd cc
      by_parts false b c x is h = absurd cc

  -- what the table keeps of the navigable
  pub record IsKeptAs : Type 0 where
    pub node : Node
    pub there : node_of nav t.tree ≡ Some node
    pub tied : IsTied (map sight s.documents) (moved_by s.requests t.running) node place

  pub kept_as : IsKeptAs
  kept_as = let h = its_node (look_of s t.running) t.tree nav place leaving.work.holds.navs to.wanted.placed in record { node = h.node; there = h.there; tied = h.tied }

  pub nav_there : is_some (nav_of nav t.tree) ≡ true
  nav_there = ap (λ (o : Option Node). is_some (option_map (λ (n : Node). n.nav) o)) kept_as.there

  pub epoch_room : IfSome (nav_of nav t.tree) (λ (n : Nav). n.epoch.0 + 1 < 18446744073709551616)
  epoch_room =
      let low = leaving.going.counted.epochs nav place to.wanted.placed in
      let same : kept_as.node.nav.epoch.0 ≡ place.epoch.0 = ap (λ (x : Epoch). x.0) kept_as.tied.epoch in
      let sent = leaving.work.holds.sent in
      let room_ = t.sent.ok in
      let small_ = t.sent.small in
      rw kept_as.there (omega (arith, low, same, sent, room_.0, room_.1, small_))

  -- the aim of the tables is the log's
  aims : aim_in (history_held t.store) t.running t.goal ≡ aim_of s
  aims = held_aim t.store s.history t.running t.goal leaving.work.holds.history ∙ sym (aim_is s t.running leaving.going.tab.asked t.goal leaving.work.goal)

  pair_same : pair_in (history_held t.store).rows (aim_in (history_held t.store) t.running t.goal) ≡ pair_at s (aim_of s)
  pair_same =
      let both = held_pair t.store s.history leaving.work.holds.history (aim_of s) in
      ap (λ (step : ℕ). pair_in (history_held t.store).rows step) aims ∙ (let r : pair_in (history_held t.store).rows (aim_of s) ≡ pair_in s.history.rows (aim_of s) = rw (both.0, both.1) refl in r)

  -- the entry's row is its target
  pub row_found : row_of entry (history_held t.store).rows ≡ Some target
  row_found = ap (λ (x : EntryId). row_of x (history_held t.store).rows) (sym to.wanted.entry_is) ∙ held_row t.store s.history leaving.work.holds.history leaving.going.tab.sound target its.there

  pub row_there : is_some (row_of entry (history_held t.store).rows) ≡ true
  row_there = ap (λ (o : Option Row). is_some o) row_found

  -- ---- the order

  placed : place_of s d.nav ≡ Some place
  placed = ap (λ (n : NavId). place_of s n) to.wanted.nav_is ∙ to.wanted.placed

  shown_here : is_shown s.history.rows (aim_of s) nav ≡ true
  shown_here = ap (λ (n : NavId). is_shown s.history.rows (aim_of s) n) (sym own) ∙ to.wanted.visited.shown

  met : place.is_unmet ≡ false
  met = (leaving.going.tab.standing nav place to.wanted.placed).met

  activates : needs_activation place target.entry ≡ true
  activates = by_tests (is_asleep place) place.is_unmet (is_given_target s.history.rows (aim_of s) place) place.is_pending met gave to.wanted.visited.needs
    where
      gave : is_given_target s.history.rows (aim_of s) place ≡ holds (same_entry target.entry) place.given
      gave = ap (λ (o : Option Row). holds (λ (row : Row). holds (same_entry row.entry) place.given) o) (ap (λ (n : NavId). target_entry s.history.rows n (aim_of s)) own ∙ to.wanted.at)

      by_tests : (a b c q : Bool) → b ≡ false → c ≡ holds (same_entry target.entry) place.given → (a || b || not c) ≡ true → (a || not (holds (same_entry target.entry) place.given) || q) ≡ true
      by_tests true b c q none is h = refl
      by_tests false true c q none is h = absurd cc
      by_tests false false true q none is h = absurd cc
      by_tests false false false q none is h = rw (sym is) refl

  own_state : AreOfOwnStates s.documents s.kept doc target.state
  own_state =
      subst (λ (x : StateId). AreOfOwnStates s.documents s.kept doc x) usable_parts.0 (sole_states s doc d leaving.going.tab.kept (record {
        found = to.wanted.found;
        only = λ other o found same there.
            ap (λ (n : DocId). n.0) (leaving.going.tab.docs.sole other doc o d found to.wanted.found (ap (λ (n : ℕ). let x : StateId = record { 0 = n } in x) same) there usable_parts.2);
      }))

  module _ (epoch : Epoch) (next_ : epoch.0 ≡ kept_as.node.nav.epoch.0 + 1) (pair : ℕ × ℕ) (pair_is : pair ≡ pair_at s (aim_of s)) where
    abbrev job : Job
    job = order_to s doc why (tasks.Activate target.entry epoch pair.0 pair.1 target.memo target.address)

    abbrev then_out : List RowKind
    then_out = out ++ rows.Sent job ∷ []

    abbrev then_ : Seen
    then_ = next s p.event.event p.event.actor (rows.Sent job)

    epoch_place : epoch.0 ≡ place.epoch.0 + 1
    epoch_place = next_ ∙ ap (λ (x : Epoch). x.0 + 1) kept_as.tied.epoch

    its_proc : d.proc ≡ job.proc
    its_proc = sym (proc_found s doc d to.wanted.found)

    may_show : MayShow s t.tree nav job target.entry epoch pair target.memo target.address
    may_show =
        record {
          document = d;
          goes = record { found = to.wanted.found; proc = its_proc; alive = both_false d.is_discarded d.is_known_dead usable_parts.2 usable_parts.3 };
          nav_is = to.wanted.nav_is;
          known = sym (leaving.going.tab.asked.died (proc_at s doc)).0;
          due = record {
            place = place;
            placed = placed;
            needs = activates;
            greater = omega (arith, epoch_place);
            target = target;
            at = ap (λ (n : NavId). target_entry s.history.rows n (aim_of s)) to.wanted.nav_is ∙ to.wanted.at;
            entry_is = refl;
            memo_is = refl;
            address_is = refl;
            usable = to.wanted.usable;
            pair_is = pair_is;
            shown = ap (λ (n : NavId). is_shown s.history.rows (aim_of s) n) to.wanted.nav_is ∙ shown_here;
            for_passed = for_passed s t.running leaving.going.tab.asked job cause refl;
          };
          passed = is_passed_for s t.running leaving.going.tab.asked job.task job.why (show_causes s t.running leaving.going.tab.asked cause to.may);
          nobody = ap (λ (o : Option Place). option_map_or (sleepers_below s doc) o []) placed ∙ to.nobody;
          unreloaded = met;
          node = kept_as.node;
          there = kept_as.there;
          next = ap (λ (n : ℕ). let x : Epoch = record { 0 = n } in x) next_;
        }

    fits : epoch.0 < 18446744073709551616
    fits =
        let low = leaving.going.counted.epochs nav place to.wanted.placed in
        let sent = leaving.work.holds.sent in
        let room_ = t.sent.ok in
        let small_ = t.sent.small in
        omega (arith, low, epoch_place, sent, room_.0, room_.1, small_)

    show_of : IsShowOf s job d place target epoch
    show_of =
        record {
          found = to.wanted.found;
          home = its_proc;
          first = refl;
          placed = placed;
          later = omega (arith, epoch_place);
          there = its.there;
          usable = to.wanted.usable;
          moved = λ some. subst (λ (n : NavId). IsMovedBy s why n) (sym to.wanted.nav_is) (to.moved (let r : 1 ≤ place.epoch.0 = grind (arith, nat_tests, some, epoch_place) in r));
          up = λ sleeps parent others is. on_parent t.running p.loads p.hand s leaving.going.tab (aim_of s) nav place to.wanted.placed shown_here parent others is (up_at s parent others place is to.wanted.visited.reached);
        }

    -- ---- what it leaves

    others_then : LeavesOthers s then_ d.nav
    others_then =
        show_leaves s p.event.event p.event.actor job d target.entry epoch pair.0 pair.1 target.memo target.address refl to.wanted.found distinct place placed

    begun : ServesNoneToBegin s why
    begun = none_to_begin s why (show_causes s t.running leaving.going.tab.asked cause to.may)

    fits_jobs : epoch.0 ≤ s.jobs + 2
    fits_jobs = let low = leaving.going.counted.epochs nav place to.wanted.placed in omega (arith, low, epoch_place)

    -- nobody falls asleep for it
    nobody : (n : NavId) → has_nav (sleepers_of s doc d.nav) n ≡ false
    nobody n = ap (λ (o : Option Place). has_nav (option_map_or (sleepers_below s doc) o []) n) placed ∙ ap (λ (l : List NavId). has_nav l n) to.nobody

    to_made : IsToMade s job d
    to_made = record { found = to.wanted.found; ready = usable_parts.1; home = its_proc; first = refl }

    rests_then : RestBut [] then_
    rests_then =
        shown_alone s p.event.event p.event.actor [] leaving.rests job (sent_home t.running p.loads p.hand s leaving.going.tab job d to_made) d to.wanted.found target.entry epoch pair.0 pair.1 target.memo target.address refl place placed nobody to.own

    -- where it is then
    abbrev new_place : Place
    new_place = becomes s p.event.event p.event.actor job d target.entry epoch pair.0 pair.1 target.memo target.address refl to.wanted.found place

    place_then : place_of then_ d.nav ≡ Some new_place
    place_then =
        place_becomes s p.event.event p.event.actor job d target.entry epoch pair.0 pair.1 target.memo target.address refl to.wanted.found d.nav
        ∙ ap (λ (o : Option Place). option_map (becomes s p.event.event p.event.actor job d target.entry epoch pair.0 pair.1 target.memo target.address refl to.wanted.found) o) placed

    new_is : new_place ≡ activated job target.entry epoch d place
    new_is =
        ap (λ (q : Place). let r : Place = cond (q.nav.0 == d.nav.0) (activated job target.entry epoch d q) q in r) stays
        ∙ ap (λ (b : Bool). let r : Place = cond b (activated job target.entry epoch d place) place in r) mine
      where
        stays : slept (sleepers_of s doc d.nav) why place ≡ place
        stays = ap (λ (b : Bool). let r : Place = cond b (record place { status = asleep; why = why }) place in r) (nobody place.nav)

        mine : (place.nav.0 == d.nav.0) ≡ true
        mine = ap (λ (n : NavId). place.nav.0 == n.0) (to.wanted.nav_is ∙ sym own) ∙ nat_eq_refl place.nav.0

    above_same : new_place.above ≡ place.above
    above_same = ap (λ (q : Place). q.above) new_is

    -- it doesn't stand until its document tells that it is shown
    stands_not : stands then_ (aim_of then_) d.nav ≡ false
    stands_not =
        ap (λ (o : Option Place). holds (is_standing then_.history.rows (aim_of then_)) o) (place_then ∙ ap (λ (q : Place). Some q) new_is)
        ∙ by_tests (is_given_target then_.history.rows (aim_of then_) (activated job target.entry epoch d place)) (activated job target.entry epoch d place).is_unmet
      where
        by_tests : (a b : Bool) → (a && not b && false) ≡ false
        by_tests true true = refl
        by_tests true false = refl
        by_tests false b = refl

    late : all_stand then_ (aim_of then_) ≡ false
    late =
        visited_not_all_stand then_ d.nav new_place place_then
        (ap (λ (n : NavId). is_shown s.history.rows (aim_of then_) n) (ap (λ (q : Place). q.nav) new_is) ∙ ap (λ (step : ℕ). is_shown s.history.rows step place.nav) others_then.aim ∙ to.wanted.visited.shown)
        (ap (λ (l : List NavId). list_any (is_stopping then_.history.rows (aim_of then_) then_.places) l) above_same
        ∙ ap (λ (step : ℕ). list_any (is_stopping then_.history.rows step then_.places) place.above) others_then.aim
        ∙ stopping_same s then_ (aim_of s) place.above refl above_stays
        ∙ to.wanted.visited.reached)
        stands_not
      where
        above_stays : (up : NavId) → has_nav place.above up ≡ true → place_of then_ up ≡ place_of s up
        above_stays up has =
            others_then.others up (subst (λ (n : NavId). IsApart s n up) (sym to.wanted.nav_is) (above_apart s nav place.above (place_chain s leaving.going.tab.sound leaving.going.tab.hangs nav place to.wanted.placed) (ap (λ (n : NavId). has_nav place.above n) (sym own) ∙ not_above_itself s leaving.going.tab.sound leaving.going.tab.hangs nav place to.wanted.placed) up has))

    now_is : then_ ≡ now_of p.event then_out
    now_is = sym (sent_now p.event out job refl)

    -- a request is there as before, but for whom it has moved
    causes_then : (u : Tables) → IsLeaving p None [] then_out u → (x : Why) → MayCause s x → MayCause then_ x
    causes_then u so x may = served_causes s p.event job x (subst (λ (y : Seen). (req : ReqId) (q : Asked) → request_of y req ≡ Some q → may_go_on y req ≡ true) (sym now_is) (goes_on (now_of p.event then_out) u.running so.going.tab.asked)) may

    module _ (u : Tables) (keeps : KeepsStore t u) (work : IsAtWork p.event then_out u) where
      left_then : IsLeaving p None [] then_out u
      left_then =
          shown_leaving p move [] out t leaving doc why d place target epoch pair.0 pair.1 show_of begun fits_jobs [] rests_then u then_out refl keeps work

      few_then : length (now_of p.event then_out).kept ≤ u.kept.keep
      few_then =
          subst (λ (n : ℕ). length (now_of p.event then_out).kept ≤ n) (sym keeps.keep)
          (subst (λ (x : Seen). length x.kept ≤ t.kept.keep) now_is (few_shown s doc target.state move t.kept.keep own_state to.leaves to.few))

      passing_then : IsPassing p then_out u
      passing_then =
          passing_again p then_out u left_then
          (λ all. let never : false ≡ true = sym (subst (λ (x : Seen). all_stand x (aim_of x) ≡ false) now_is late) ∙ all in absurd cc)
          few_then

      turn_then : IsTurn s (now_of p.event then_out) nav
      turn_then =
          subst (λ (x : Seen). IsTurn s x nav) now_is
          (subst (λ (n : NavId). IsTurn s then_ n) to.wanted.nav_is (record {
            own = show_serves s p.event.event p.event.actor job d target.entry epoch pair.0 pair.1 target.memo target.address refl to.wanted.found distinct place placed target (ap (λ (n : NavId). target_entry s.history.rows n (aim_of s)) to.wanted.nav_is ∙ to.wanted.at) refl (ap (λ (b : Bool). b && not d.is_fresh) met);
            others = others_then;
            parked = refl;
            causes = causes_then u left_then;
          }))

  -- ---- in the words of the call

  -- it may be shown this, and then is
  pub record IsReady (epoch : Epoch) (long at : ℕ) (state : StateId) (memo : Option (List ℕ)) (address : List ℕ) (x : Why) : Type 0 where
    pub may : MayShow s t.tree nav (order_to s doc x (tasks.Activate entry epoch long at memo address)) entry epoch (long, at) memo address
    pub for_run : (r : ReqId) → t.running ≡ Some r → x ≡ whys.Req r
    pub other : IsForOther p.event.checking x
    pub fits : epoch.0 < 18446744073709551616
    pub own_state : AreOfOwnStates s.documents s.kept doc state
    pub leaves : LeavesFor move s doc state t.kept.keep
    pub done : (u : Tables) (new : List RowKind) → KeepsStore t u → new ≡ out ++ rows.Sent (order_to s doc x (tasks.Activate entry epoch long at memo address)) ∷ [] → IsAtWork p.event new u → IsPassing p new u × IsTurn s (now_of p.event new) nav

  pub ready : (row : Row) → row_of entry (history_held t.store).rows ≡ Some row → (epoch : Epoch) → option_map (λ (n : Nav). n.epoch.0 + 1) (nav_of nav t.tree) ≡ Some epoch.0 → (long at : ℕ) → (long, at) ≡ pair_in (history_held t.store).rows (aim_in (history_held t.store) t.running t.goal) → (memo : Option (List ℕ)) → memo ≡ row.memo → (address : List ℕ) → address ≡ row.address → (x : Why) → x ≡ why → IsReady epoch long at row.state memo address x
  ready row there epoch next_ long at pair_is memo memo_is address address_is x why_is =
      subst (λ (z : Why). IsReady epoch long at row.state memo address z) (sym why_is)
      (subst (λ (z : Option (List ℕ)). IsReady epoch long at row.state z address why) (sym (memo_is ∙ ap (λ (r : Row). r.memo) same))
      (subst (λ (z : List ℕ). IsReady epoch long at row.state target.memo z why) (sym (address_is ∙ ap (λ (r : Row). r.address) same))
      (subst (λ (z : StateId). IsReady epoch long at z target.memo target.address why) (sym (ap (λ (r : Row). r.state) same)) its_ready)))
    where
      same : row ≡ target
      same = let both : Some row ≡ Some target = sym there ∙ row_found in cc

      next_here : epoch.0 ≡ kept_as.node.nav.epoch.0 + 1
      next_here =
          let both : Some epoch.0 ≡ Some (kept_as.node.nav.epoch.0 + 1) = sym next_ ∙ ap (λ (o : Option Node). option_map (λ (n : Nav). n.epoch.0 + 1) (option_map (λ (n : Node). n.nav) o)) kept_as.there in
          cc

      pair_here : (long, at) ≡ pair_at s (aim_of s)
      pair_here = pair_is ∙ pair_same

      its_ready : IsReady epoch long at target.state target.memo target.address why
      its_ready =
          record {
            may = subst (λ (z : EntryId). MayShow s t.tree nav (order_to s doc why (tasks.Activate z epoch long at target.memo target.address)) z epoch (long, at) target.memo target.address) to.wanted.entry_is (may_show epoch next_here (long, at) pair_here);
            for_run = λ r is. ap (λ (o : Option ReqId). show_why o cause) is;
            other = cause_off p.event out t leaving.work leaving.going.tab.asked.each why (show_causes s t.running leaving.going.tab.asked cause to.may);
            fits = fits epoch next_here (long, at) pair_here;
            own_state = own_state;
            leaves = to.leaves;
            done = λ u new keeps is work. done u new keeps (is ∙ ap (λ (z : EntryId). out ++ rows.Sent (order_to s doc why (tasks.Activate z epoch long at target.memo target.address)) ∷ []) (sym to.wanted.entry_is)) work;
          }
        where
          done : (u : Tables) (new : List RowKind) → KeepsStore t u → new ≡ then_out epoch next_here (long, at) pair_here → IsAtWork p.event new u → IsPassing p new u × IsTurn s (now_of p.event new) nav
          done u new keeps is work =
              subst (λ (l : List RowKind). IsPassing p l u × IsTurn s (now_of p.event l) nav) (sym is)
              (passing_then epoch next_here (long, at) pair_here u keeps work_, turn_then epoch next_here (long, at) pair_here u keeps work_)
            where
              work_ : IsAtWork p.event (then_out epoch next_here (long, at) pair_here) u
              work_ = subst (λ (l : List RowKind). IsAtWork p.event l u) is work

-- the one order that was put out
pub shown_by : (s : Seen) (t : Tables) (nav : NavId) (doc : DocId) (entry : EntryId) (row : Row) → row_of entry (history_held t.store).rows ≡ Some row → (epoch : Epoch) → option_map (λ (n : Nav). n.epoch.0 + 1) (nav_of nav t.tree) ≡ Some epoch.0 → (long at : ℕ) → (long, at) ≡ pair_in (history_held t.store).rows (aim_in (history_held t.store) t.running t.goal) → (memo : Option (List ℕ)) → memo ≡ row.memo → (address : List ℕ) → address ≡ row.address → (x w : Why) (was out : List RowKind) → x ≡ w → out ≡ was ++ rows.Sent (order_to s doc x (tasks.Activate entry epoch long at memo address)) ∷ [] → IsShownBy s t nav doc entry w was out
shown_by s t nav doc entry row there epoch raised long at pair memo memo_is address address_is x w was out same is =
    record {
      target = row;
      at_row = there;
      epoch = epoch;
      raised = raised;
      long = long;
      at = at;
      pair = pair;
      is =
          is
          ∙ ap (λ (z : Why). was ++ rows.Sent (order_to s doc z (tasks.Activate entry epoch long at memo address)) ∷ []) same
          ∙ ap (λ (z : Option (List ℕ)). was ++ rows.Sent (order_to s doc w (tasks.Activate entry epoch long at z address)) ∷ []) memo_is
          ∙ ap (λ (z : List ℕ). was ++ rows.Sent (order_to s doc w (tasks.Activate entry epoch long at row.memo z)) ∷ []) address_is;
    }
