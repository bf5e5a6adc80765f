-- A load passes its check by an event's own row: what stood as the event began, with it in its check, is what its document may be made from.
use Rattle.load_passed.proofs.Taking.{live_before, taking}
use Rattle.tab_stands.proofs.LateEvents.{late_off}
use Rattle.row_facts.specs.FrameRows.Lawful.{held_at_first}
use Rattle.tab_stands.proofs.Ready.{frees_open}
use Rattle.tab_settles.specs.Offs.{LateKnown}
use Rattle.tab_stands.specs.PassedOn.{IsTaking}
use Rattle.tab_stands.specs.Offs.{AreOffKnown}
use Rattle.load_doors.proofs.Starts.{requests_start}
use Rattle.load_doors.specs.Tied.{AreTied}
use Rattle.load_passed.proofs.Begun as begun
use Rattle.load_passed.proofs.Fresh.{fresh_state}
use Rattle.load_passed.proofs.Queues.{left_then}
use Rattle.load_passed.specs.Passing.{InLoadPass, IsLoadToPass, IsToMake, GoesOnBeside, IsUnbegun, WasSettled, WasTaken, load_tables, passed_load}
use Rattle.load_table.specs.Loads.{cancelled, ongoing_load}
use Rattle.load_table.specs.declared.phase.Phase.TheVariants as phases
use Rattle.log_model.specs.Causes.{denial_at_acceptance}
use Rattle.log_model.specs.Equal.{has_req}
use Rattle.log_model.specs.Places.{aim_of, all_stand, is_load, is_under_way}
use Rattle.log_model.specs.Queue.{is_step_under_way}
use Rattle.log_model.specs.Seen.{Asked, Seen, request_of}
use Rattle.log_model.specs.declared.request.Mode.{Mode}
use Rattle.move_queue.specs.Queue.{Queue}
use Rattle.row_facts.proofs.Owed.Ends.{loose_first, loose_owed}
use Rattle.row_facts.specs.Owed.Owed.{IsLoose}
use Rattle.row_facts.specs.RestRows.Moving.{AllRest}
use Rattle.seen_facts.proofs.Coord.Held.{held_alike}
use Rattle.seen_facts.proofs.Request.Readers.{SameReads}
use Rattle.seen_facts.specs.Coord.Leading.{held_back}
use Rattle.seen_facts.specs.LoadEnds.Standing.{is_reached}
use Rattle.seen_facts.specs.Request.Knowns.{AreKnown}
use Rattle.seen_laws.specs.InEvent.{InEvent, log_of, now_of}
use Rattle.seen_laws.specs.Unasked.{unasked, unbegun}
use Rattle.std.proofs.Common.{Bool, List, None, Option, Some, [], ap, arith, false, inr, length, refl, subst, sym, true, ℕ, ◌+◌, ◌<◌, ◌∙◌, ◌∷◌, ◌≡◌, ◌≤◌, ◌⊎◌}
use Rattle.std.proofs.lemmas.Bool.Decides.{nat_tests}
use Rattle.std.proofs.lemmas.Bool.{and_parts}
use Rattle.std.specs.Prelude.{is_none, nat_lt}
use Rattle.tab_doors.specs.Working.{IsAtWork, MayDiscardIn}
use Rattle.tab_doors.specs.declared.tables.Tables.{Tables}
use Rattle.tab_facts.proofs.TabGoing.Counts.{as_many}
use Rattle.tab_facts.specs.TabGoing.Going.{IsGoing}
use Rattle.tab_ids.specs.declared.NavId.{NavId}
use Rattle.tab_ids.specs.declared.ReqId.{ReqId}
use Rattle.tab_ids.specs.declared.StateId.{StateId}
use Rattle.tab_passed.proofs.Free.{still_none}
use Rattle.tab_passed.proofs.Ready.{IsBefore, work_passed}
use Rattle.tab_passed.proofs.Start.{at_start, now_begun, quiet, quiet_then, unbegun_there}
use Rattle.tab_passed.specs.Passing.{HasPassedBy}
use Rattle.tab_settles.specs.PassedOn.{AreUnheld, HasQueue, IsPassing}
use Rattle.tab_settles.specs.Settling.{IsQueueing}
use Rattle.tab_stands.proofs.Accepting.{number_low}
use Rattle.tab_stands.proofs.Applied.{none_applied}
use Rattle.tab_stands.proofs.PassedOn.{mades_same, queue_over, unheld_first, waiting_first}
use Rattle.tab_stands.proofs.Waiting.{off_where_runs}
use Rattle.tab_stands.specs.Standing.{HasRoomFor, InCheck, LastsInLog, StandsFor}
use Rattle.unasked.proofs.Passings.{begun_as}
use Rattle.unasked_dues.specs.Checking.{NoStepChecks}
use Rattle.unasked_tab.proofs.Begun.{with_begun}
use Rattle.unasked_tab.proofs.Reordered.{AreAsOften}
use Rattle.unasked_tab.specs.Passing.{IsFreshState}
use Rattle.unload_check.specs.Checks.{OpenCheck}

-- a load that is ongoing has begun, and is open
going_parts : (q : Asked) → is_under_way q ≡ true → (q.is_started ≡ true) × (q.ending ≡ None)
going_parts q under =
    let parts = and_parts q.is_started (is_none q.ending) under in
    (parts.0, none_is q.ending parts.1)
  where
    none_is : {A : Type 0} (o : Option A) → is_none o ≡ true → o ≡ None
    none_is None is = refl
    none_is (Some x) is = absurd cc

module _ (was : ReqId → Bool) (e : InEvent) (t : Tables) (queue : Queue) (blame : List (StateId × ReqId)) {check : InCheck} (stands : StandsFor check (unasked was e.start) t queue blame) (lasts : LastsInLog was t.asking e.start) (room : HasRoomFor e.start) (header : t.kept.keep ≡ e.header.keep) (free : check.holds ≡ false → NoStepChecks was e.start) (req : ReqId) (q : Asked) (nav : NavId) (mode : Mode) (address : List ℕ) (replace : Bool) (state : StateId) (pass : IsLoadToPass was e req q nav mode address replace state) (rest : List ReqId) (hand : AreAsOften check.loads (req ∷ rest)) (reached : is_reached (unasked was e.start) nav ≡ true) (alone : ongoing_load nav t.loads ≡ None) (checks : List (ReqId × OpenCheck)) (own : HasPassedBy e checks (cancelled nav t.asking)) (steps : SameReads is_step_under_way e.start.requests (log_of e []).requests) where
  -- the load, and its event
  abbrev l : InLoadPass
  l =
      record { event = e; before = quiet was e; loads = rest; req = req; nav = nav; mode = mode; address = address; replace = replace; state = state; queue = queue; noted = blame }

  -- the log without questions but for that it hasn't begun
  abbrev s : Seen
  s = quiet was e

  abbrev p : Asked
  p = unbegun q

  abbrev u : Tables
  u = load_tables t (passed_load l) checks

  begins : (q.is_started ≡ true) × (q.ending ≡ None)
  begins = going_parts q (and_parts (is_under_way q) (is_load q.what) pass.ongoing).0

  stands_s : StandsFor check s t queue blame
  stands_s = quiet_then was e t queue blame stands

  fresh : IsFreshState (unasked was e.start) state
  fresh = fresh_state was e.start lasts.checks req q pass.passes.at pass.passes.on pass.ongoing state pass.state_is

  same_many : length s.requests ≡ length e.start.requests
  same_many = requests_start (record e { checking = was })

  un : IsUnbegun l check.loads s t p
  un =
      record {
        going = record {
          tab = stands_s.between.tab;
          lasting = stands_s.lasts.lasting;
          counted = stands_s.lasts.counted;
          steps = stands_s.lasts.steps;
          held = stands_s.lasts.held;
          room = (let few : length e.start.requests + 3 < 4294967296 = room in let same = same_many in omega (arith, few, same));
        };
        tied = stands_s.tied;
        hand = hand;
        there = unbegun_there was e req q pass.passes (own.numbered req q pass.passes.at);
        what = pass.what;
        open_ = begins.1;
        unstarted = refl;
        unsent = (lasts.checks.checks req q pass.passes.at pass.passes.on).unsent;
        fresh = record { numbered = fresh.numbered; unheld = fresh.unheld; undocumented = fresh.undocumented; free = fresh.free };
        reached = reached;
        alone = alone;
      }

  beside : GoesOnBeside l t
  beside =
      record {
        rests = stands_s.between.rests;
        few = stands_s.between.few;
        queued = stands_s.queue;
        live = live_before e check s t queue blame stands_s;
        theirs = stands_s.lasts.made;
        makes = stands_s.lasts.makes;
        sound = stands_s.lasts.sound;
        moved = stands_s.lasts.moved;
        late = late_of t.running stands_s.lasts.off;
      }
    where
      late_of : (r : Option ReqId) → AreOffKnown r s → LateKnown r s
      late_of (Some run) known = tt
      late_of None known = λ nav place doc late shown. known.since refl nav place late.placed shown (late_off s nav place doc late) late.old

  -- ---- the row leaves it begun

  abbrev n : Seen
  n = with_begun s req q

  now : now_of e [] ≡ with_begun s req q
  now = now_begun was e req q pass.passes checks own

  over : (P : Seen → Type 0) → P (with_begun s req q) → P (now_of e [])
  over P is = subst P (sym now) is

  work : IsAtWork e [] u
  work =
      work_passed e u own (over (λ (x : Seen). AreTied x u) (begun.tied_then l check.loads s t p un q begins.0 pass.state_is pass.replaces checks))

  loose : IsLoose e []
  loose = loose_first e own.undue

  going : IsGoing t.running rest [] n
  going = begun.going_then l check.loads s t p un q begins.0 pass.state_is pass.replaces

  passing : IsPassing (record { event = e; loads = rest; hand = [] }) [] u
  passing =
      record {
        work = work;
        going = over (λ (x : Seen). IsGoing t.running rest [] x) going;
        owed = loose_owed e [] loose;
        loose = λ all. loose;
        rests = over (λ (x : Seen). AllRest x) stands_s.between.rests;
        few = over (λ (x : Seen). length x.kept ≤ t.kept.keep) stands_s.between.few;
        duly = own.lasts.duly;
      }

  -- ---- no ongoing load was held back

  unheld_now : AreUnheld e (now_of e [])
  unheld_now = unheld_first (record { event = e; loads = rest; hand = [] }) u own.uncut passing

  unheld_n : AreUnheld e n
  unheld_n = subst (λ (x : Seen). AreUnheld e x) now unheld_now

  before : IsBefore e s
  before =
      at_start was e t queue blame stands (λ r x its. unheld_n r x (begun.load_on l check.loads s t p un q begins.0 pass.state_is pass.replaces r x its))

  unheld : has_req (held_at_first e) req ≡ false
  unheld =
      unheld_n req nav (begun.load_own l check.loads s t p un q begins.0 pass.state_is pass.replaces)

  -- ---- how the tab was

  -- at rest
  pub start_settled : WasSettled (record { event = e; before = quiet was e; loads = rest; req = req; nav = nav; mode = mode; address = address; replace = replace; state = state; queue = queue; noted = blame }) t.running
  start_settled =
      record {
        passed = before.passed;
        strays = stands_s.strays;
        served = stands_s.between.served;
        told = stands_s.between.told;
        calm = stands_s.lasts.calm;
      }

  -- and a pass might follow, as nobody was woken
  pub start_taken : WasTaken (record { event = e; before = quiet was e; loads = rest; req = req; nav = nav; mode = mode; address = address; replace = replace; state = state; queue = queue; noted = blame }) t.running
  start_taken = record { taken = taken; frees = frees_open e check.holds t.running s stands_s.alone free_then taken.open_ }
    where
      taken : IsTaking e t.running blame s
      taken = taking e check s t queue blame stands_s before.passed before.unwoken before.still

      free_then : check.holds ≡ false → MayDiscardIn false e
      free_then none =
          still_none was e.checking e.start (log_of e []) req pass.passes.off pass.passes.same steps (free none)

  -- ---- what waits, and what is held back

  early : (r : ReqId) (x : Asked) → has_req (now_of e []).joined r ≡ true → request_of (now_of e []) r ≡ Some x → denial_at_acceptance e.start x.what ≡ None ⊎ (nat_lt (length e.start.requests) r.0 ≡ false)
  early r x has at =
      let low : r.0 ≤ length n.requests = number_low n.requests r x (ap (λ (y : Seen). request_of y r) (sym now) ∙ at) in
      let long : length n.requests ≡ length s.requests = as_many s.requests req (begun_as q) in
      let same = same_many in
      inr (grind (arith, nat_tests, low, long, same))

  -- where a report is held back a traversal runs, and not all stand
  stands_not : ((now_of e []).parked ≡ [] → ⊥) → all_stand (now_of e []) (aim_of (now_of e [])) ≡ true → ⊥
  stands_not some all = by_run t.running refl
    where
      all_n : all_stand n (aim_of n) ≡ true
      all_n = ap (λ (x : Seen). all_stand x (aim_of x)) (sym now) ∙ all

      all_s : all_stand s (aim_of s) ≡ true
      all_s =
          ap (λ (k : ℕ). all_stand s k) (sym (begun.aim_then l check.loads s t p un q begins.0 pass.state_is pass.replaces)) ∙ all_n

      by_run : (o : Option ReqId) → t.running ≡ o → ⊥
      by_run None is = some (ap (λ (x : Seen). x.parked) now ∙ stands_s.between.held is)
      by_run (Some run) is =
          let off : all_stand s (aim_of s) ≡ false = off_where_runs t.kept.keep t.running s stands_s.between stands_s.alone run is in
          let never : true ≡ false = sym all_s ∙ off in
          cc

  queueing : IsQueueing (record { event = e; loads = rest; hand = [] }) [] u queue
  queueing =
      record {
        waits = waiting_first e own.uncut (over (λ (x : Seen). AreKnown x) going.tab.known) early;
        queued = over (λ (x : Seen). HasQueue x t.running queue.waiting) (queue_over s n (left_then l check.loads s t p un q begins.0 pass.state_is pass.replaces) t.running queue.waiting stands_s.queue);
        parked = stands_s.parked ∙ sym (held_alike s.requests n.requests s.parked (mades_same s n (begun.wishes l check.loads s t p un q begins.0 pass.state_is pass.replaces))) ∙ ap (λ (x : Seen). held_back x.requests x.parked) (sym now);
        held = λ none. ap (λ (x : Seen). x.parked) now ∙ stands_s.between.held none;
        over = λ has. absurd (none_applied e own.uncut has);
        releasing = λ some all. absurd (stands_not some all);
      }

  -- ---- all of it

  pub start_make : IsToMake (record { event = e; before = quiet was e; loads = rest; req = req; nav = nav; mode = mode; address = address; replace = replace; state = state; queue = queue; noted = blame }) (load_tables t (record { req = req; nav = nav; address = address; replace = replace; state = state; phase = phases.Asking }) checks)
  start_make =
      record {
        loads = check.loads;
        t = t;
        p = p;
        unbegun = un;
        beside = beside;
        unheld = unheld;
        q = q;
        starts = begins.0;
        state_is = pass.state_is;
        replaces = pass.replaces;
        tables = refl;
        now = now;
        work = work;
        owed = loose_owed e [] loose;
        loose = λ all. loose;
        duly = own.lasts.duly;
        queueing = queueing;
        header = header;
      }
