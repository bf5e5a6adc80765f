-- A traversal passes its check by an event's own row: as in the log without questions it has begun then, the tables go on with it running, and a pass may follow for it.
use Rattle.load_doors.specs.Tied.{AreTied}
use Rattle.log_model.specs.Causes.{denial_at_acceptance}
use Rattle.log_model.specs.Equal.{has_req}
use Rattle.log_model.specs.Seen.{Asked, Seen, request_of}
use Rattle.log_model.specs.declared.job.Why.{Why}
use Rattle.log_model.specs.declared.job.Why.TheVariants as whys
use Rattle.move_queue.specs.Queue.{Queue}
use Rattle.move_queue.specs.declared.queue_step.QueueStep.{QueueStep}
use Rattle.move_queue.specs.declared.queue_step.QueueStep.TheVariants.{Traverse}
use Rattle.row_facts.proofs.Owed.Ends.{loose_first, loose_owed}
use Rattle.row_facts.specs.Owed.Owed.{IsLoose}
use Rattle.row_facts.specs.RestRows.Moving.{AllRest}
use Rattle.seen_facts.specs.Coord.Leading.{held_back}
use Rattle.seen_facts.specs.Request.Knowns.{AreKnown}
use Rattle.seen_laws.proofs.InEvents.{none_goes}
use Rattle.seen_laws.specs.InEvent.{InEvent, log_of, now_of}
use Rattle.std.proofs.Common.{List, None, Option, Some, [], ap, arith, false, inr, length, refl, subst, sym, true, ℤ, ◌+◌, ◌<◌, ◌==◌, ◌∙◌, ◌∷◌, ◌≡◌, ◌≤◌, ◌⊎◌}
use Rattle.std.proofs.lemmas.Bool.Decides.{nat_tests}
use Rattle.std.specs.Prelude.{nat_lt, slice_get}
use Rattle.tab_begins.proofs.Begins.{loads_move, open_then, strays_on}
use Rattle.tab_begins.proofs.Stood.{calm_begun}
use Rattle.tab_doors.proofs.PassedOn.{debts_own, read_own, sole_own}
use Rattle.tab_doors.specs.Working.{IsAtWork}
use Rattle.tab_doors.specs.declared.tables.Tables.{Tables}
use Rattle.tab_facts.proofs.TabGoing.Counts.{as_many}
use Rattle.tab_facts.proofs.TabWhole.Beginning.{IsToGo}
use Rattle.tab_facts.specs.Calm.Calm.{AreRooted, IsCalm, UnmovedAreHere}
use Rattle.tab_facts.specs.TabGoing.Going.{IsGoing}
use Rattle.tab_facts.specs.TabWhole.Tab.{IsTab}
use Rattle.tab_ids.specs.declared.ReqId.{ReqId}
use Rattle.tab_ids.specs.declared.StateId.{StateId}
use Rattle.tab_ids.specs.declared.Step.{Step}
use Rattle.tab_one_pass.proofs.Passes.{left_blamed}
use Rattle.tab_one_pass.specs.Passing.{HasPassed, LoadsLive, MayCause, StandOrMove, StillAwake}
use Rattle.tab_passed.proofs.Begun as begun
use Rattle.tab_passed.proofs.Going as going
use Rattle.tab_passed.proofs.Opens as opens
use Rattle.tab_passed.specs.Passing.{HasPassedBy, IsInFront, IsPastCheck, passed_tables}
use Rattle.tab_settles.proofs.MovedRows.{shown_unmoved}
use Rattle.tab_settles.proofs.PassedOn.{live_then, own_document, stand_awake, waiting_first}
use Rattle.tab_stands.proofs.PassedOn.{KeepsWhat, sound_on, theirs_over}
use Rattle.tab_settles.specs.PassedOn.{AreBlamed, AreLeftStrays, HasQueue, InPass, IsOpen, IsPassing, LoadsMadeOwn}
use Rattle.tab_settles.specs.Settling.{IsCalmAfter, IsQueueing, IsReady, MovedAreShown, OrdersAreSound}
use Rattle.tab_stands.specs.Standing.{HasRoomFor, InCheck, StandsFor}
use Rattle.unasked.proofs.Passings.{begun_as}
use Rattle.unasked_tab.proofs.Begun.{with_begun}
use Rattle.unload_check.specs.Checks.{OpenCheck}
use Rattle.log_model.proofs.Refl.{nat_eq_refl}
use Rattle.tab_stands.proofs.Accepting.{number_low}
use Rattle.unasked_dues.specs.Checking.{NoStepChecks}
use Rattle.seen_facts.proofs.Each.Courses.{is_asked}
use Rattle.log_model.specs.declared.job.Job.{Job}
use Rattle.seen_facts.proofs.Request.Readers.{on_read}
use Rattle.tab_facts.proofs.Order.Rows.{orders_on}
use Rattle.tab_stands.specs.PassedOn.{IsMake, MakesServe}
use Rattle.row_facts.specs.WalkRows.Since.{AwakeSince}
use Rattle.tab_turns.specs.Turning.{LeavesAlone}
use Rattle.log_model.specs.Places.{is_traversal}

-- a coordinator is at work once such a row was logged, whose tables tell of what the log would have come to
pub work_passed : (e : InEvent) (u : Tables) → HasPassedBy e u.checks u.asking → AreTied (now_of e []) u → IsAtWork e [] u
work_passed e u at tied =
    record {
      own = at.led;
      worker = at.worker;
      goes = none_goes e [];
      numbered = at.numbered;
      read = read_own e (record { numbered = at.lasts.checks.numbered; others = at.lasts.checks.others });
      sole = sole_own e (log_of e []) at.uncut;
      debts = debts_own e at.uncut;
      checks = at.lasts.checks;
      asking = at.lasts.asking;
      calm = at.calm;
      unheld = λ free. free;
      off = λ row has. absurd has;
      holds = tied.holds;
      runs = tied.runs;
      goal = tied.goal;
      few = tied.few;
      initial = tied.initial;
      loads = tied.loads;
      kept = tied.kept;
      asked = at.asked;
      lawful = at.lawful;
    }

-- who is first is among them
first_has : (reqs : List ReqId) (req : ReqId) → slice_get reqs 0 ≡ Some req → has_req reqs req ≡ true
first_has [] req first = absurd cc
first_has (r ∷ reqs) req first =
    let one : r ≡ req = cc in
    (let same : (r.0 == req.0) ≡ true = ap (λ (x : ReqId). r.0 == x.0) (sym one) ∙ nat_eq_refl r.0 in rw same refl)

-- the log without questions as the own row leaves it, but for that the request hasn't begun: there are as many requests as the event began with, all is as after a pass, whoever is awake was so as the event began, and the other way round
pub record IsBefore (e : InEvent) (s : Seen) : Type 0 where
  pub many : length s.requests ≡ length e.start.requests
  pub passed : HasPassed e s
  pub unwoken : AwakeSince e.start [] s
  pub still : StillAwake e.start s

module _ (e : InEvent) (t : Tables) (queue : Queue) (blame : List (StateId × ReqId)) {check : InCheck} (s : Seen) (stands_s : StandsFor check s t queue blame) (at_start : IsBefore e s) (holds : check.holds ≡ true) (room : HasRoomFor e.start) (header : t.kept.keep ≡ e.header.keep) (req : ReqId) (p q : Asked) (goal : Step) (there : request_of s req ≡ Some p) (goes : is_traversal p.what ≡ true) (open_ : p.ending ≡ None) (unstarted : p.is_started ≡ false) (starts : q.is_started ≡ true) (to : q.goal ≡ Some goal) (delta : ℤ) (rest : List QueueStep) (front : IsInFront queue req delta rest) (checks : List (ReqId × OpenCheck)) (own : HasPassedBy e checks t.asking) (free : NoStepChecks e.checking (log_of e [])) (now : now_of e [] ≡ with_begun s req q) where
  idle : t.running ≡ None
  idle = stands_s.alone holds

  tab_s : IsTab None check.loads [] s
  tab_s = subst (λ (r : Option ReqId). IsTab r check.loads [] s) idle stands_s.between.tab

  none_parked : s.parked ≡ []
  none_parked = stands_s.between.held idle

  calm_s : IsCalm s
  calm_s = subst (λ (r : Option ReqId). IsCalmAfter r s) idle stands_s.lasts.calm

  queue_s : HasQueue s None (Traverse req delta ∷ rest)
  queue_s =
      subst (λ (l : List QueueStep). HasQueue s None l) front (subst (λ (r : Option ReqId). HasQueue s r queue.waiting) idle stands_s.queue)

  is : IsToGo s req p
  is =
      record {
        there = there;
        goes = goes;
        open_ = open_;
        queued = first_has s.joined req (opens.in_queue s req delta rest queue_s).first;
      }

  -- ---- what the row leaves

  abbrev n : Seen
  n = with_begun s req q

  abbrev u : Tables
  u = passed_tables t req goal checks

  abbrev left : Queue
  left = record queue { waiting = rest }

  abbrev ip : InPass
  ip = record { event = e; loads = check.loads; hand = [] }

  tab_n : IsTab (Some req) check.loads [] n
  tab_n = going.tab_then s req p is q starts goal to check.loads tab_s stands_s.lasts.lasting

  unmoved : p.moved ≡ []
  unmoved = going.unmoved s req p is q starts goal to check.loads tab_s stands_s.lasts.lasting unstarted

  tied_n : AreTied n u
  tied_n = going.tied_then s req p is q starts goal to check.loads tab_s stands_s.lasts.lasting t idle stands_s.tied unmoved checks

  going_n : IsGoing (Some req) check.loads [] n
  going_n =
      (let few : length e.start.requests + 3 < 4294967296 = room in let same : length s.requests ≡ length e.start.requests = at_start.many in going.going_then s req p is q starts goal to check.loads tab_s stands_s.lasts.lasting stands_s.lasts.counted stands_s.lasts.steps (omega (arith, few, same)) none_parked)

  pub loose : IsLoose e []
  loose = loose_first e own.undue

  rests_n : AllRest n
  rests_n = stands_s.between.rests

  pub passing : IsPassing (record { event = e; loads = check.loads; hand = [] }) [] (passed_tables t req goal checks)
  passing =
      record {
        work = work_passed e u own (subst (λ (x : Seen). AreTied x u) (sym now) tied_n);
        going = subst (λ (x : Seen). IsGoing (Some req) check.loads [] x) (sym now) going_n;
        owed = loose_owed e [] loose;
        loose = λ all. loose;
        rests = subst (λ (x : Seen). AllRest x) (sym now) rests_n;
        few = subst (λ (x : Seen). length x.kept ≤ t.kept.keep) (sym now) stands_s.between.few;
        duly = own.lasts.duly;
      }

  -- ---- what a pass asks

  causes : (why : Why) → MayCause s why → MayCause n why
  causes = begun.causes s req p is q starts (Some req) tab_n.asked

  alone : LeavesAlone s n
  alone = begun.alone s req p is q starts (Some req) tab_n.asked

  open_n : IsOpen e (Some req) (whys.Req req) n
  open_n =
      open_then ip s n alone (begun.looks_were s req p is q starts) (begun.looks_stay s req p is q starts) at_start.passed tab_s req tab_n at_start.unwoken at_start.still (whys.Req req) (opens.may_then s req p is q starts check.loads tab_n)

  moves_n : StandOrMove n
  moves_n = loads_move ip s n alone (begun.looks_were s req p is q starts) (begun.looks_stay s req p is q starts) at_start.passed tab_s req tab_n

  strays_n : AreLeftStrays n blame
  strays_n =
      strays_on ip s n alone (begun.looks_were s req p is q starts) (begun.looks_stay s req p is q starts) at_start.passed blame stands_s.strays

  blamed_n : AreBlamed n blame
  blamed_n = left_blamed n blame stands_s.between.rows_ (own_document (Some req) check.loads [] n tab_n) strays_n

  live_s : LoadsLive s
  live_s = record { awake = stand_awake None check.loads [] s tab_s stands_s.between.stands; loading = stands_s.between.loading }

  live_n : LoadsLive n
  live_n =
      live_then s n (begun.looks_were s req p is q starts) (λ nav doc at. record { place = at.place; placed = at.placed; wakes = at.wakes }) (λ state its one. record { doc = one.doc; d = one.d; found = one.found; of_state = one.of_state; there = one.there }) live_s

  theirs_n : LoadsMadeOwn n
  theirs_n = theirs_over s n (begun.wishes s req p is q starts) refl stands_s.lasts.made

  -- ---- what waits, and what is held back

  early : (r : ReqId) (x : Asked) → has_req (now_of e []).joined r ≡ true → request_of (now_of e []) r ≡ Some x → denial_at_acceptance e.start x.what ≡ None ⊎ (nat_lt (length e.start.requests) r.0 ≡ false)
  early r x has at =
      let low : r.0 ≤ length n.requests = number_low n.requests r x (ap (λ (y : Seen). request_of y r) (sym now) ∙ at) in
      let long : length n.requests ≡ length s.requests = as_many s.requests req (begun_as q) in
      let same : length s.requests ≡ length e.start.requests = at_start.many in
      inr (grind (arith, nat_tests, low, long, same))

  none_now : (now_of e []).parked ≡ []
  none_now = ap (λ (x : Seen). x.parked) now ∙ none_parked

  pub queueing : IsQueueing (record { event = e; loads = check.loads; hand = [] }) [] (passed_tables t req goal checks) (record queue { waiting = rest })
  queueing =
      record {
        waits = waiting_first e own.uncut (subst (λ (x : Seen). AreKnown x) (sym now) tab_n.known) early;
        queued = subst (λ (x : Seen). HasQueue x (Some req) rest) (sym now) (opens.queue_then s req p is q starts delta rest queue_s);
        parked = stands_s.parked ∙ ap (λ (l : List ReqId). held_back s.requests l) none_parked ∙ ap (λ (l : List ReqId). held_back (now_of e []).requests l) (sym none_now);
        held = λ runs. none_now;
        over = λ has. none_now;
        releasing = λ some all. absurd (some none_now);
      }

  -- ---- a pass may follow

  pub passed_ready : IsReady (record { event = e; loads = check.loads; hand = [] }) [] (passed_tables t req goal checks) (record queue { waiting = rest }) blame (whys.Req req)
  passed_ready =
      record {
        passing = passing;
        empty = refl;
        header = header;
        open_ = subst (λ (x : Seen). IsOpen e (Some req) (whys.Req req) x) (sym now) open_n;
        loads = subst (λ (x : Seen). StandOrMove x) (sym now) moves_n;
        frees = λ nav place placed need epoch. free;
        blamed = subst (λ (x : Seen). AreBlamed x blame) (sym now) blamed_n;
        calm = subst (λ (x : Seen). UnmovedAreHere x × AreRooted x) (sym now) (calm_begun s n refl refl calm_s);
        late = tt;
        moved = subst (λ (x : Seen). MovedAreShown (Some req) x) (sym now) (shown_unmoved req n (begun_as q p) (begun.there s req p is q starts) unmoved);
        live = subst (λ (x : Seen). LoadsLive x) (sym now) live_n;
        theirs = subst (λ (x : Seen). LoadsMadeOwn x) (sym now) theirs_n;
        queueing = queueing;
      }

  -- ---- orders on their way

  makes_n : MakesServe n
  makes_n =
      orders_on (λ (job : Job). IsMake job.task → MayCause s job.why) (λ (job : Job). IsMake job.task → MayCause n job.why) s (λ job its made. causes job.why (its made)) stands_s.lasts.makes

  sound_n : OrdersAreSound n
  sound_n = sound_on s n keeps stands_s.lasts.sound
    where
      keeps : KeepsWhat s n
      keeps =
          record {
            asked = λ r x at. (let then = is_asked (λ (y : Asked). y.what) s.requests n.requests (on_read (λ (y : Asked). y.what) s.requests req (begun_as q) (λ y. refl)) r x at in (then.0, then.1, then.2));
            homes = λ doc d found. (d, found, refl);
          }

  pub past_check : IsPastCheck e check.loads (passed_tables t req goal checks) (record queue { waiting = rest }) blame req
  past_check =
      record {
        own = own;
        free = free;
        ready = passed_ready;
        loose = loose;
        makes = subst (λ (x : Seen). MakesServe x) (sym now) makes_n;
        sound = subst (λ (x : Seen). OrdersAreSound x) (sym now) sound_n;
      }
