-- A load is dropped, since its navigable, or one above it, isn't shown at the aim or doesn't stand there: for which request, and that the event's end pays it.
use Rattle.tab_doors.proofs.PassedOn.{dropped_goes}
use Rattle.seen_facts.specs.Asked.Asking.{IsAskedPlainly}
use Rattle.apply_plan.specs.Reaches as tables
use Rattle.tab_facts.proofs.Calm.Awakes.{stand_each}
use Rattle.tab_facts.proofs.Calm.Sames.{way_at}
use Rattle.seen_facts.proofs.Coord.Unread.{next}
use Rattle.seen_facts.specs.Each.Runs.{is_run, is_this}
use Rattle.seen_facts.proofs.Hang.Forms.{nav_is}
use Rattle.row_facts.proofs.LoadRows.Drops.{displaced_at, off_at}
use Rattle.row_facts.specs.LoadRows.Dropping.{IsLoadBy, IsMovedBy, IsStillMovedBy, IsUnderAdder}
use Rattle.log_model.proofs.Refl.{nat_eq_refl}
use Rattle.log_model.specs.Causes.{changed_one_of, nav_of_change}
use Rattle.log_model.specs.Equal.{holds}
use Rattle.log_model.specs.History.{has_nav}
use Rattle.log_model.specs.Places.{aim_of, all_stand, has_passed, is_awake, is_placed, is_shown, is_standing, is_traversal, is_under_way, stands, top, way_to}
use Rattle.log_model.specs.Points.{had_ended}
use Rattle.log_model.specs.Seen.{Asked, Place, Seen, asleep, awake, lost, place_of, request_of}
use Rattle.log_model.specs.declared.change.Change.{Change}
use Rattle.log_model.specs.declared.job.Why.{Why}
use Rattle.log_model.specs.declared.outcome.Ending.{Ending}
use Rattle.log_model.specs.declared.request.Mode.{Mode}
use Rattle.log_model.specs.declared.row_kind.RowKind.{RowKind}
use Rattle.nav_tree.specs.declared.nav.Nav.{Nav}
use Rattle.nav_tree.specs.declared.node.Node.{Node}
use Rattle.nav_tree.specs.declared.status.NavStatus.{NavStatus}
use Rattle.nav_tree.specs.declared.status.NavStatus.TheVariants as kept
use Rattle.row_facts.proofs.Owed.Drops.{adder_owes, moved_owes, still_moved_owes}
use Rattle.row_facts.proofs.Owed.Ends.{loose_more, loose_owed, owed_more}
use Rattle.row_facts.proofs.Owed.Rows.{dropped_lasts, dropped_stays, reckoned_now}
use Rattle.row_facts.specs.Owed.Owed.{IsLoose, IsOwed}
use Rattle.seen_facts.specs.Place.Standing.{IsAskedBy}
use Rattle.seen_laws.specs.Blocks.{point_at}
use Rattle.seen_laws.specs.InEvent.{InEvent, now_of, seen_here}
use Rattle.tab_facts.proofs.ShownWays.Keeps.{shown_on_way, way_more}
use Rattle.std.proofs.Common.{Bool, List, None, Option, Some, [], ap, false, inl, inr, not, refl, subst, sym, true, ℕ, ◌&&◌, ◌==◌, ◌||◌, ◌∙◌, ◌∷◌, ◌≡◌, ◌⊎◌}
use Rattle.std.proofs.lemmas.Bool.{and_parts, or_right}
use Rattle.std.specs.Prelude.{if◌then◌else◌, is_none, is_some, option_and_then, option_map}
use Rattle.tab_doors.proofs.Holding.{HasNode, its_node}
use Rattle.tab_doors.specs.Look.{look_of}
use Rattle.tab_doors.specs.Ties.{status_of}
use Rattle.tab_doors.specs.declared.tables.Tables.{Tables}
use Rattle.tab_drops.proofs.Endings.{open_before}
use Rattle.tab_drops.specs.Turns.{IsByLoad}
use Rattle.tab_ids.specs.declared.NavId.{NavId}
use Rattle.tab_ids.specs.declared.ReqId.{ReqId}
use Rattle.tab_loads.proofs.Firsts.{accepted_seen, found, idle, q}
use Rattle.tab_loads.specs.Loading.{IsLoadAsk}
use Rattle.tab_loads.specs.Telling.{cut_by, cut_by_in, is_new_nav, mover_of}
use Rattle.tab_passes.proofs.Aims.{aim_is}
use Rattle.tab_passes.specs.Passing.{InPass, IsPassing, aim_in}
use Rattle.row_facts.proofs.WalkRows.Needs.{dropped_stood}
use Rattle.tab_stands.specs.Offs.{AreOffKnown, IsOffSince, is_new_place}
use Rattle.log_model.specs.declared.outcome.Cause.TheVariants as drops
use Rattle.log_model.specs.declared.row_kind.RowKind.TheVariants as rows

-- the pass with the load at hand, and with those behind it that are in their check
abbrev pub first_pass : InEvent → ReqId → List ReqId → InPass
first_pass e req behind = record { event = e; loads = req ∷ behind; hand = [] }

none_of : (o : Option Ending) → is_none o ≡ true → o ≡ None
none_of None is = refl
none_of (Some ending) is = absurd cc

-- whether one is new, the tables tell as the log does
new_as : (fields : Nav) (place : Place) → fields.epoch ≡ place.epoch → status_of fields.status ≡ place.status → (tables.is_awake fields.status ≡ true → fields.stands ≡ place.is_delivered) → is_new_nav fields ≡ is_new_place place
new_as fields place epoch status on =
    rw epoch (ap (λ (b : Bool). place.epoch.0 == 0 || (place.epoch.0 == 1 && b)) (by_status fields.status refl))
  where
    by_status : (st : NavStatus) → fields.status ≡ st → (tables.is_awake fields.status && not fields.stands) ≡ (is_awake place && not place.is_delivered)
    by_status (kept.Awake doc) is =
        let known : awake doc ≡ place.status = sym (ap status_of is) ∙ status in
        let stood : fields.stands ≡ place.is_delivered = on (ap tables.is_awake is) in
        rw is (rw (sym known) (ap not stood))
    by_status kept.Lost is = let known : lost ≡ place.status = sym (ap status_of is) ∙ status in rw is (rw (sym known) refl)
    by_status kept.Asleep is = let known : asleep ≡ place.status = sym (ap status_of is) ∙ status in rw is (rw (sym known) refl)

module _ (e : InEvent) (req : ReqId) (nav : NavId) (mode : Mode) (address : List ℕ) (asks : IsLoadAsk e req nav mode address) (t : Tables) {behind : List ReqId} (pass : IsPassing (first_pass e req behind) [] t) (off : AreOffKnown t.running (now_of e [])) (busy : is_some t.running ≡ true → all_stand (now_of e []) (aim_of (now_of e [])) ≡ false) (place : Place) (placed : place_of (now_of e []) nav ≡ Some place) (shown : is_shown (now_of e []).history.rows (now_of e []).history.current nav ≡ true) (x : NavId) (on_way : has_nav (way_to (now_of e []) nav) x ≡ true) (own : Place) (there : place_of (now_of e []) x ≡ Some own) (away : is_placed (now_of e []) (aim_of (now_of e [])) x ≡ false) where
  abbrev s : Seen
  s = now_of e []

  has_way : has_nav (nav ∷ place.above) x ≡ true
  has_way = ap (λ (l : List NavId). has_nav l x) (sym (way_at s nav place placed)) ∙ on_way

  node : HasNode (look_of s t.running) t.tree x own
  node = its_node (look_of s t.running) t.tree x own pass.work.holds.navs there

  new_is : is_new_nav node.node.nav ≡ is_new_place own
  new_is = new_as node.node.nav own node.tied.epoch node.tied.status node.tied.stands

  cut_is : cut_by_in t x ≡ cut_by t.running node.node.nav
  cut_is = ap (λ (o : Option Node). option_and_then (cut_by t.running) (option_map (λ (n : Node). n.nav) o)) node.there

  -- ---- where no traversal runs it is shown, and doesn't stand

  aim_here : t.running ≡ None → aim_of s ≡ s.history.current
  aim_here none =
      aim_is s t.running pass.going.tab.asked t.goal pass.work.goal ∙ ap (λ (o : Option ReqId). aim_in s.history o t.goal) none

  shown_here : is_shown s.history.rows s.history.current x ≡ true
  shown_here =
      shown_on_way s pass.going.tab.sound pass.going.tab.hangs s.history.current nav place placed shown x has_way

  off_here : t.running ≡ None → stands s s.history.current x ≡ false
  off_here none =
      sym (ap (λ (b : Bool). b && stands s s.history.current x) shown_here)
      ∙ ap (λ (k : ℕ). is_placed s k x) (sym (aim_here none))
      ∙ away

  unstood_here : t.running ≡ None → all_stand s s.history.current ≡ false
  unstood_here none = by_all (all_stand s s.history.current) refl
    where
      by_all : (b : Bool) → all_stand s s.history.current ≡ b → b ≡ false
      by_all false is = refl
      by_all true is =
          let stand : is_standing s.history.rows s.history.current own ≡ true = stand_each s pass.going.tab.standing s.history.current is x own there shown_here in
          let never : false ≡ true = sym (off_here none) ∙ ap (λ (o : Option Place). holds (is_standing s.history.rows s.history.current) o) there ∙ stand in
          absurd cc

  -- in either case not all stand
  unstood : all_stand s (aim_of s) ≡ false
  unstood = by_run t.running refl
    where
      by_run : (o : Option ReqId) → t.running ≡ o → all_stand s (aim_of s) ≡ false
      by_run None none = ap (λ (k : ℕ). all_stand s k) (aim_here none) ∙ unstood_here none
      by_run (Some run) is = busy (ap (λ (o : Option ReqId). is_some o) is)

  -- ---- for whom it is dropped

  -- who added the one that is away, in which no document was ever shown
  record IsByAdder (by : ReqId) : Type 0 where
    unshown : own.was_activated ≡ false
    added : own.added_by ≡ Some by
    r : Asked
    at : request_of s by ≡ Some r

  -- or the last load that was applied, where no traversal runs
  record IsByLast (by : ReqId) : Type 0 where
    none : t.running ≡ None
    last : IsByLoad s by x

  record IsCut : Type 0 where
    by : ReqId
    is : cut_by_in t x ≡ Some by
    cause : IsByAdder by ⊎ ((t.running ≡ Some by) ⊎ IsByLast by)

  not_top : is_new_place own ≡ true → x ≡ top → ⊥
  not_top new same =
      let never : true ≡ false = sym new ∙ off.top_shown own (ap (λ (n : NavId). place_of s n) (sym same) ∙ there) in absurd cc

  named : own.nav ≡ x
  named = node.nav_is

  by_new : is_new_place own ≡ true → IsCut
  by_new new =
      let asked : IsAskedBy s.requests own.added_by = (pass.going.tab.standing x own there).added (λ is. not_top new (sym named ∙ is)) in
      record {
        by = asked.req;
        is = cut_is ∙ ap (λ (b : Bool). if b then node.node.nav.added_by else mover_of t.running node.node.nav.why) (new_is ∙ new) ∙ node.tied.added_by ∙ asked.is;
        cause = inl (record { unshown = off.unshown x own there new; added = asked.is; r = asked.q; at = asked.there });
      }

  by_mover : is_new_place own ≡ false → (o : Option ReqId) → t.running ≡ o → IsCut
  by_mover old (Some run) is =
      record {
        by = run;
        is = cut_is ∙ ap (λ (b : Bool). if b then node.node.nav.added_by else mover_of t.running node.node.nav.why) (new_is ∙ old) ∙ ap (λ (o : Option ReqId). mover_of o node.node.nav.why) is;
        cause = inr (inl is);
      }
  by_mover old None is =
      let since : IsOffSince s x own = off.since is x own there shown_here (off_here is) old in
      record {
        by = since.req;
        is = cut_is
            ∙ ap (λ (b : Bool). if b then node.node.nav.added_by else mover_of t.running node.node.nav.why) (new_is ∙ old)
            ∙ ap (λ (o : Option ReqId). mover_of o node.node.nav.why) is
            ∙ ap (λ (w : Why). mover_of None w) (node.tied.why ∙ since.why);
        cause = inr (inr (record { none = is; last = since.by }));
      }

  its : IsCut
  its = by_test (is_new_place own) refl
    where
      by_test : (b : Bool) → is_new_place own ≡ b → IsCut
      by_test true new = by_new new
      by_test false old = by_mover old t.running refl

  pub cut_some : is_some (cut_by_in t x) ≡ true
  cut_some = ap (λ (o : Option ReqId). is_some o) its.is

  -- ---- that one pays

  module _ (by : ReqId) (cut : cut_by_in t x ≡ Some by) where
    one : its.by ≡ by
    one = let two : Some its.by ≡ Some by = sym its.is ∙ cut in cc

    causes : IsByAdder by ⊎ ((t.running ≡ Some by) ⊎ IsByLast by)
    causes = subst (λ (r : ReqId). IsByAdder r ⊎ ((t.running ≡ Some r) ⊎ IsByLast r)) one its.cause

    abbrev row : RowKind
    row = rows.Dropped req (drops.By by)

    abbrev n : Seen
    n = next s e.event e.actor (rows.Dropped req (drops.By by))

    load_by : (r : Asked) → request_of s by ≡ Some r → IsLoadBy (seen_here e []) (now_of e []) req by nav (q e req nav mode address asks) r
    unfolding now_of
    load_by r at = record { at = found e req nav mode address asks; mode = mode; address = address; what = refl; other = at }

    plain : (r : Asked) → request_of s by ≡ Some r → IsAskedPlainly by r
    plain r at = pass.going.tab.asked.each by r at

    -- it isn't loose where all stand, since not all do
    late : all_stand n (aim_of n) ≡ true → IsLoose e (row ∷ [])
    late all =
        let stood : all_stand s (aim_of s) ≡ true = dropped_stood s e.event e.actor req (drops.By by) (idle e req nav mode address asks) all in
        let never : false ≡ true = sym unstood ∙ stood in
        absurd cc

    -- what the drop owes, and what it owes where all stand
    pub record IsPaidFor : Type 0 where
      pub owed : IsOwed e (row ∷ [])
      pub loose : all_stand n (aim_of n) ≡ true → IsLoose e (row ∷ [])

    adder_paid : IsLoose e [] → IsByAdder by → IsPaidFor
    adder_paid loose it =
        let under : IsUnderAdder (seen_here e []) (now_of e []) nav (q e req nav mode address asks) it.r = record {
          accepted = accepted_seen e req nav mode address asks;
          above = x;
          on_way = on_way;
          place = own;
          placed = there;
          unshown = it.unshown;
          added = it.added ∙ ap (λ (r : ReqId). let o : Option ReqId = Some r in o) (sym (plain it.r it.at).nr);
        } in
        let more : IsLoose e (row ∷ []) = loose_more e [] row (dropped_goes e [] req (drops.By by)).read loose (dropped_lasts s e.event e.actor req (drops.By by)) (adder_owes e [] req by nav (q e req nav mode address asks) it.r (load_by it.r it.at) under) in
        record { owed = loose_owed e (row ∷ []) more; loose = λ all. more }

    record IsRunningThere : Type 0 where
      r : Asked
      at : request_of s by ≡ Some r
      traverses : is_traversal r.what ≡ true
      began : r.is_started ≡ true
      unended : r.ending ≡ None
      passed : has_passed s r ≡ true

    running_there : t.running ≡ Some by → IsRunningThere
    running_there runs =
        let it = pass.going.tab.asked.runs by runs in
        let run : is_run it.q ≡ true = pass.going.tab.asked.only by it.q it.found ∙ ap (λ (o : Option ReqId). is_this o by) runs ∙ nat_eq_refl by.0 in
        let under : is_under_way it.q ≡ true = (and_parts (is_under_way it.q) (is_traversal it.q.what) run).0 in
        let parts = and_parts it.q.is_started (is_none it.q.ending) under in
        record { r = it.q; at = it.found; traverses = it.traverses; began = parts.0; unended = none_of it.q.ending parts.1; passed = pass.going.tab.asked.passed by it.q it.found }

    moved_by : t.running ≡ Some by → (it : IsRunningThere) → IsMovedBy (seen_here e []) (now_of e []) nav it.r
    moved_by runs it =
        record {
          traverses = it.traverses;
          began = it.began;
          passed = it.passed;
          unended = ap (had_ended (point_at (seen_here e []) [])) (plain it.r it.at).nr ∙ open_before e [] by it.r it.at it.unended;
          displaced = displaced_at s (aim_of s) (way_to s nav) x on_way away;
        }

    run_paid : t.running ≡ Some by → IsPaidFor
    run_paid runs =
        let it = running_there runs in
        record {
          owed = owed_more e [] row (dropped_goes e [] req (drops.By by)).read pass.owed (dropped_stays s e.event e.actor req (reckoned_now e []) (idle e req nav mode address asks) (drops.By by)) (moved_owes e [] req by nav (q e req nav mode address asks) it.r (load_by it.r it.at) (moved_by runs it));
          loose = late;
        }

    -- a change of one on its way is of one on the way of the load's navigable
    way_has : (n : NavId) → has_nav (way_to s x) n ≡ true → has_nav (way_to s nav) n ≡ true
    way_has n on =
        ap (λ (l : List NavId). has_nav l n) (way_at s nav place placed)
        ∙ by_own (x.0 == n.0) refl (ap (λ (l : List NavId). has_nav l n) (sym (way_at s x own there)) ∙ on)
      where
        by_own : (b : Bool) → (x.0 == n.0) ≡ b → (b || has_nav own.above n) ≡ true → has_nav (nav ∷ place.above) n ≡ true
        by_own true same h = subst (λ (m : NavId). has_nav (nav ∷ place.above) m ≡ true) (nav_is x n same) has_way
        by_own false apart h =
            or_right (nav.0 == n.0) (has_nav place.above n) (way_more s pass.going.tab.sound pass.going.tab.hangs nav place placed x own has_way there n h)

    changed_there : (r : Asked) (change : Change) (at : NavId) → r.change ≡ Some change → nav_of_change change ≡ Some at → has_nav (way_to s nav) at ≡ true → changed_one_of r (way_to s nav) ≡ true
    changed_there r change at is of_it on =
        ap (λ (o : Option Change). holds (has_nav (way_to s nav)) (option_and_then nav_of_change o)) is ∙ ap (λ (o : Option NavId). holds (has_nav (way_to s nav)) o) of_it ∙ on

    last_paid : IsByLast by → IsPaidFor
    last_paid it =
        let still : IsStillMovedBy (now_of e []) nav it.last.mover = record {
          last = it.last.last ∙ ap (λ (r : ReqId). let o : Option ReqId = Some r in o) (sym (plain it.last.mover it.last.found).nr);
          unsettled = it.last.unstood;
          changed = changed_there it.last.mover it.last.change it.last.top it.last.changed it.last.its (way_has it.last.top it.last.on_way);
          off = off_at s s.history.current (way_to s nav) x on_way (off_here it.none);
        } in
        record {
          owed = owed_more e [] row (dropped_goes e [] req (drops.By by)).read pass.owed (dropped_stays s e.event e.actor req (reckoned_now e []) (idle e req nav mode address asks) (drops.By by)) (still_moved_owes e [] req by nav (q e req nav mode address asks) it.last.mover (load_by it.last.mover it.last.found) still);
          loose = late;
        }

    pub cut_paid : IsLoose e [] → IsPaidFor
    cut_paid loose = by_case causes
      where
        by_case : IsByAdder by ⊎ ((t.running ≡ Some by) ⊎ IsByLast by) → IsPaidFor
        by_case (inl it) = adder_paid loose it
        by_case (inr (inl runs)) = run_paid runs
        by_case (inr (inr it)) = last_paid it
