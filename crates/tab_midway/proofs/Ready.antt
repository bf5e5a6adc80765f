-- A traversal passes its check in the midst of an event: as in the log without questions it has begun then, the tables go on with it running, the event is cut there, and a pass may follow for it.
use Rattle.asking_facts.proofs.Standing.{gone_stands, stands_wanting}
use Rattle.tab_doors.specs.AskingLoads.{TiesAsking}
use Rattle.tab_doors.proofs.Keeping.{no_load_at, traversal_no_load}
use Rattle.tab_doors.proofs.AskingLoads.{asking_passed}
use Rattle.asking_facts.specs.Prompting.{NoneAnsweredEarly}
use Rattle.asking_facts.specs.Standing.{StandsAsked}
use Rattle.check_facts.proofs.Tables.{check_ended}
use Rattle.checking_facts.proofs.Grown.{req_same}
use Rattle.checking_facts.specs.Checks.{SameBut, just}
use Rattle.leave_facts.proofs.Carried.{AreLeftDuly}
use Rattle.load_doors.specs.Tied.{AreTied}
use Rattle.log_model.specs.Causes.{denial_at_acceptance}
use Rattle.log_model.specs.Equal.{has_req}
use Rattle.log_model.specs.Checks.{due_prompt}
use Rattle.log_model.specs.Places.{has_passed, is_traversal, is_under_way}
use Rattle.log_model.specs.Seen.{Asked, Seen, request_of}
use Rattle.log_model.specs.declared.job.Job.{Job}
use Rattle.log_model.specs.declared.job.Why.{Why}
use Rattle.log_model.specs.declared.job.Why.TheVariants as whys
use Rattle.log_model.specs.declared.row_kind.LogRow.{LogRow}
use Rattle.log_model.proofs.Refl.{nat_eq_refl}
use Rattle.move_queue.specs.Queue.{Queue}
use Rattle.move_queue.specs.declared.queue_step.QueueStep.{QueueStep}
use Rattle.move_queue.specs.declared.queue_step.QueueStep.TheVariants.{Traverse}
use Rattle.row_facts.proofs.Owed.Ends.{loose_owed}
use Rattle.row_facts.specs.FrameRows.Lawful.{held_at_first}
use Rattle.row_facts.specs.Owed.Owed.{IsLoose}
use Rattle.row_facts.specs.RestRows.Moving.{AllRest}
use Rattle.seen_facts.proofs.Each.Courses.{is_asked, was_asked}
use Rattle.seen_facts.proofs.Request.Readers.{on_read}
use Rattle.seen_facts.specs.Asked.Asking.{IsAskedPlainly}
use Rattle.seen_facts.specs.Coord.Leading.{held_back}
use Rattle.seen_facts.specs.Each.Runs.{EachAsked}
use Rattle.seen_laws.proofs.Cuts.{log_cut}
use Rattle.seen_laws.proofs.InEvents.{now_is}
use Rattle.seen_laws.specs.InEvent.{InEvent, cut, log_of, now_of}
use Rattle.seen_laws.specs.Unasked.{unasked, unasked_request, unbegun, without_asks}
use Rattle.std.proofs.Common.{Bool, List, None, Option, Some, [], ap, cond, false, inr, length, refl, subst, sym, true, ℤ, ◌==◌, ◌∙◌, ◌∷◌, ◌≡◌, ◌≤◌, ◌⊎◌}
use Rattle.std.proofs.lemmas.Bool.{and_parts}
use Rattle.std.specs.Option.{option_map_or}
use Rattle.std.specs.Prelude.{is_none, nat_lt, option_map, slice_get}
use Rattle.tab_begins.proofs.Begins.{loads_move, open_then}
use Rattle.tab_begins.proofs.Stood.{calm_begun}
use Rattle.tab_begins.specs.Queueing.{HasPassed}
use Rattle.tab_cuts.proofs.Owed.{loose_wanting}
use Rattle.tab_cuts.proofs.Works.{calm_beside, work_wanting}
use Rattle.tab_cuts.specs.Cut.{TiesCut}
use Rattle.tab_doors.specs.Working.{IsAtWork, IsToCome, MayDiscardIn}
use Rattle.tab_doors.specs.declared.tables.Tables.{Tables}
use Rattle.tab_facts.proofs.Order.Rows.{orders_on}
use Rattle.tab_facts.proofs.TabWhole.Beginning.{IsToGo}
use Rattle.tab_facts.specs.Calm.Calm.{AreRooted, UnmovedAreHere}
use Rattle.tab_facts.specs.Frame.Lasting.{Wish, wish}
use Rattle.tab_facts.specs.TabGoing.Going.{IsGoing}
use Rattle.tab_facts.specs.TabWhole.Tab.{IsTab}
use Rattle.tab_ids.specs.declared.ReqId.{ReqId}
use Rattle.tab_ids.specs.declared.StateId.{StateId}
use Rattle.tab_ids.specs.declared.Step.{Step}
use Rattle.tab_midway.proofs.Blamed.{blamed_then}
use Rattle.tab_midway.proofs.Debts.{debts_gone, loose_gone}
use Rattle.tab_midway.specs.Midway.{HasGoneOn, IsCutFor, IsToGoOn, gone_on}
use Rattle.tab_midway.specs.Owing.{due_without}
use Rattle.tab_passed.proofs.Begun as begun
use Rattle.tab_passed.proofs.Free.{no_steps}
use Rattle.tab_passed.proofs.Going as going
use Rattle.tab_passed.proofs.Opens as opens
use Rattle.tab_passed.proofs.Who.{without_off, without_same}
use Rattle.tab_passed.specs.Passing.{IsInFront, passed_tables, without}
use Rattle.tab_prompts.specs.Asking.{BeginsAsked, WasOpen, are_unheard}
use Rattle.tab_prompts.specs.Prompts.{is_open, is_waiting}
use Rattle.tab_settles.proofs.MovedRows.{shown_unmoved}
use Rattle.tab_settles.proofs.PassedOn.{live_then}
use Rattle.tab_settles.proofs.Sounds.{KeepsWhat, sound_on}
use Rattle.tab_settles.proofs.Stood.{theirs_over}
use Rattle.tab_settles.specs.PassedOn.{AreBlamed, HasQueue, InPass, IsOpen, IsPassing, LoadsLive, LoadsMadeOwn, MayCause, StandOrMove}
use Rattle.tab_settles.specs.Settling.{IsMake, IsQueueing, IsReady, IsReadyIn, IsWaiting, MakesServe, MovedAreShown, OrdersAreSound}
use Rattle.tab_turns.specs.Turning.{LeavesAlone}
use Rattle.unasked.proofs.Passings.{begun_as, passed_unasked}
use Rattle.unasked.proofs.Readings.{request_read}
use Rattle.unasked_dues.specs.Checking.{AreNumbered, NoStepChecks, NonePasses}
use Rattle.unasked_tab.proofs.Begun.{with_begun}
use Rattle.unload_check.proofs.Stays.{others_ended}
use Rattle.unload_check.specs.Checks.{OpenCheck, check_of, ended, outcome_of}

-- one that is under way has begun, and is open
under_parts : (q : Asked) → is_under_way q ≡ true → (q.is_started ≡ true) × (q.ending ≡ None)
under_parts q under =
    let parts = and_parts q.is_started (is_none q.ending) under in
    (parts.0, none_is q.ending parts.1)
  where
    none_is : {A : Type 0} (o : Option A) → is_none o ≡ true → o ≡ None
    none_is None is = refl
    none_is (Some x) is = absurd cc

-- whether a check waits
abbrev waits_by : Option OpenCheck → Bool
waits_by o = option_map_or is_open (option_map outcome_of o) false

-- who is first is among them
first_has : (reqs : List ReqId) (req : ReqId) → slice_get reqs 0 ≡ Some req → has_req reqs req ≡ true
first_has [] req first = absurd cc
first_has (r ∷ reqs) req first =
    let one : r ≡ req = cc in
    (let same : (r.0 == req.0) ≡ true = ap (λ (x : ReqId). r.0 == x.0) (sym one) ∙ nat_eq_refl r.0 in rw same refl)

module _ (e : InEvent) (loads : List ReqId) (t : Tables) (queue : Queue) (blame : List (StateId × ReqId)) (cause : Why) (req : ReqId) (cut_for : IsCutFor (record { event = e; loads = loads; hand = [] }) t queue blame cause req) (q : Asked) (goal : Step) (to_go : IsToGoOn e t.checks req q goal) (delta : ℤ) (rest : List QueueStep) (front : IsInFront queue req delta rest) where
  abbrev log : Seen
  log = log_of e []

  abbrev s : Seen
  s = now_of e []

  abbrev at : InEvent
  at = gone_on e req

  abbrev passed : ReqId → Bool
  passed = without e.checking req

  same : SameBut req e.checking passed
  same = without_same e.checking req

  off : passed req ≡ false
  off = without_off e.checking req

  idle : t.running ≡ None
  idle = cut_for.idle

  ready : IsReadyIn true (record { event = e; loads = loads; hand = [] }) [] t queue blame cause
  ready = cut_for.ready

  numbered : AreNumbered log
  numbered = cut_for.stands.checks.numbered

  -- ---- before

  going_s : IsGoing None loads [] s
  going_s = subst (λ (r : Option ReqId). IsGoing r loads [] s) idle ready.passing.going

  tab_s : IsTab None loads [] s
  tab_s = going_s.tab

  none_parked : s.parked ≡ []
  none_parked = ready.queueing.held idle

  queue_s : HasQueue s None (Traverse req delta ∷ rest)
  queue_s =
      subst (λ (l : List QueueStep). HasQueue s None l) front (subst (λ (r : Option ReqId). HasQueue s r queue.waiting) idle ready.queueing.queued)

  tied_s : AreTied s t
  tied_s =
      record {
        holds = ready.passing.work.holds;
        runs = ready.passing.work.runs;
        goal = ready.passing.work.goal;
        few = ready.passing.work.few;
        initial = ready.passing.work.initial;
        loads = ready.passing.work.loads;
        kept = ready.passing.work.kept;
      }

  passed_s : HasPassed at s
  passed_s =
      record {
        walked = record {
          since = ready.open_.since;
          unwoken = λ all. ready.open_.unwoken;
          still = λ all. ready.open_.still;
          were = ready.open_.were;
          parents = ready.open_.parents;
          loads = cut_for.stand;
        };
        held = ready.open_.held;
        takers = ready.open_.takers;
        rows_ = cut_for.rows_;
      }

  -- ---- the traversal

  parts : (q.is_started ≡ true) × (q.ending ≡ None)
  parts = under_parts q to_go.under

  starts : q.is_started ≡ true
  starts = parts.0

  -- in the log without questions it hasn't begun before
  abbrev before : Asked
  before = unbegun q

  found : request_of s req ≡ Some before
  found =
      ap (λ (x : Seen). request_of x req) (now_is e [])
      ∙ request_read e.checking log req
      ∙ ap (λ (o : Option Asked). option_map (unasked_request e.checking) o) to_go.at
      ∙ ap (λ (b : Bool). let o : Option Asked = Some (cond b (unbegun q) (without_asks q)) in o) (ap e.checking (numbered req q to_go.at) ∙ to_go.on)

  is : IsToGo s req before
  is =
      record {
        there = found;
        goes = to_go.goes;
        open_ = parts.1;
        queued = first_has s.joined req (opens.in_queue s req delta rest queue_s).first;
      }

  -- ---- then

  -- it has
  abbrev n : Seen
  n = with_begun s req q

  now : now_of at [] ≡ n
  now =
      now_is at []
      ∙ ap (unasked passed) (log_cut e [] passed (due_without e req))
      ∙ passed_unasked e.checking passed log req q to_go.at numbered off same
      ∙ ap (λ (x : Seen). with_begun x req q) (sym (now_is e []))

  -- what holds of it holds of what the event has come to then
  over : (P : Seen → Type 0) → P n → P (now_of at [])
  over P holds = subst P (sym now) holds

  -- and the log is as it was
  log_same : (P : Seen → Type 0) → P log → P (log_of at [])
  log_same P holds = subst P (sym (log_cut e [] passed (due_without e req))) holds

  abbrev u : Tables
  u = passed_tables t req goal (ended req t.checks)

  abbrev left : Queue
  left = record queue { waiting = rest }

  abbrev ip : InPass
  ip = record { event = at; loads = loads; hand = [] }

  tab_n : IsTab (Some req) loads [] n
  tab_n = going.tab_then s req before is q starts goal to_go.to loads tab_s going_s.lasting

  unmoved : before.moved ≡ []
  unmoved = going.unmoved s req before is q starts goal to_go.to loads tab_s going_s.lasting refl

  tied_n : AreTied n u
  tied_n =
      going.tied_then s req before is q starts goal to_go.to loads tab_s going_s.lasting t idle tied_s unmoved (ended req t.checks)

  going_n : IsGoing (Some req) loads [] n
  going_n =
      going.going_then s req before is q starts goal to_go.to loads tab_s going_s.lasting going_s.counted going_s.steps going_s.room none_parked

  -- ---- its check ends

  -- what the rows before the cut wanted of those behind
  abbrev wants : List LogRow → Bool
  wants = (cut e [] passed (due_without e req)).wants

  stands : StandsAsked (IsToCome None at []) (λ (r : ReqId). false) at [] (record { checks = ended req t.checks; run = e.ran })
  stands =
      stands_wanting (IsToCome None e []) (λ (r : ReqId). false) (cut e [] passed (due_without e req)) [] (record { checks = ended req t.checks; run = e.ran }) wants e.ran
      (gone_stands (IsToCome None e []) (just req) (λ (r : ReqId). false) e [] (record { checks = t.checks; run = e.ran }) cut_for.stands req (λ r apart none. apart) passed (due_without e req) same off has undue to_go.unnoted)
    where
      undue : (x : Asked) → request_of log req ≡ Some x → due_prompt log x ≡ None
      undue x found_ =
          let both : Some q ≡ Some x = sym to_go.at ∙ found_ in
          let one : q ≡ x = cc in
          subst (λ (y : Asked). due_prompt log y ≡ None) one to_go.undue

      has : (x : Asked) → request_of log req ≡ Some x → has_passed log x ≡ true
      has x found_ =
          let both : Some q ≡ Some x = sym to_go.at ∙ found_ in
          let one : q ≡ x = cc in
          subst (λ (y : Asked). has_passed log y ≡ true) one to_go.passed

  calm : NonePasses passed (log_of at [])
  calm = calm_beside (IsToCome None at []) at [] (record { checks = ended req t.checks; run = e.ran }) stands

  ties : TiesCut None (unasked passed log) u
  ties =
      subst (λ (x : Seen). TiesCut None x u) (sym was) (record {
        holds = tied_n.holds;
        runs = tied_n.runs;
        goal = tied_n.goal;
        few = tied_n.few;
        initial = tied_n.initial;
        loads = tied_n.loads;
        kept = tied_n.kept;
      })
    where
      was : unasked passed log ≡ n
      was =
          passed_unasked e.checking passed log req q to_go.at numbered off same ∙ ap (λ (x : Seen). with_begun x req q) (sym (now_is e []))

  -- the loads in their checks are those of before, since it is none
  asking : TiesAsking passed log u.asking
  asking =
      asking_passed e.checking log t.asking ready.passing.work.asking req passed same off (no_load_at log req q to_go.at (traversal_no_load q.what to_go.goes))

  -- the coordinator goes on working
  work : IsAtWork at [] u
  work =
      let w = ready.passing.work in
      work_wanting None e [] passed (due_without e req) u (λ (r : ReqId). false) wants e.ran w.own w.worker w.numbered w.sole (debts_gone e req passed same off to_go.on w.debts) stands ties asking calm

  pub loose_then : IsLoose (gone_on e req) []
  loose_then =
      loose_wanting (cut e [] passed (due_without e req)) wants e.ran (loose_gone e req passed same off to_go.on cut_for.loose)

  passing : IsPassing ip [] u
  passing =
      record {
        work = work;
        going = over (λ (x : Seen). IsGoing (Some req) loads [] x) going_n;
        owed = loose_owed at [] loose_then;
        loose = λ all. loose_then;
        rests = over AllRest ready.passing.rests;
        few = over (λ (x : Seen). length x.kept ≤ t.kept.keep) ready.passing.few;
        duly = log_same AreLeftDuly ready.passing.duly;
      }

  -- ---- what a pass asks

  causes : (why : Why) → MayCause s why → MayCause n why
  causes = begun.causes s req before is q starts (Some req) tab_n.asked

  alone : LeavesAlone s n
  alone = begun.alone s req before is q starts (Some req) tab_n.asked

  open_n : IsOpen at (Some req) (whys.Req req) n
  open_n =
      open_then ip s n alone (begun.looks_were s req before is q starts) (begun.looks_stay s req before is q starts) passed_s tab_s req tab_n ready.open_.unwoken ready.open_.still (whys.Req req) (opens.may_then s req before is q starts loads tab_n)

  moves_n : StandOrMove n
  moves_n =
      loads_move ip s n alone (begun.looks_were s req before is q starts) (begun.looks_stay s req before is q starts) passed_s tab_s req tab_n

  blamed_n : AreBlamed n blame
  blamed_n = blamed_then s req before is refl q starts (Some req) tab_n.asked blame ready.blamed

  live_n : LoadsLive n
  live_n =
      live_then s n (begun.looks_were s req before is q starts) (λ nav doc woke. record { place = woke.place; placed = woke.placed; wakes = woke.wakes }) (λ state its one. record { doc = one.doc; d = one.d; found = one.found; of_state = one.of_state; there = one.there }) ready.live

  theirs_n : LoadsMadeOwn n
  theirs_n = theirs_over s n (begun.wishes s req before is q starts) refl ready.theirs

  -- no step is in its check any more
  pub free_then : MayDiscardIn false (gone_on e req)
  free_then =
      log_same (λ (x : Seen). NoStepChecks passed x) (no_steps e.checking passed log cut_for.stands.checks plain req q to_go.at to_go.under to_go.goes to_go.on off same log (λ r. refl))
    where
      plain : EachAsked IsAskedPlainly (unasked e.checking log).requests
      plain = subst (λ (x : Seen). EachAsked IsAskedPlainly x.requests) (now_is e []) tab_s.asked.each

  -- ---- what waits, and what is held back

  was : (r : ReqId) (x : Asked) → request_of n r ≡ Some x → (y : Asked) × (request_of s r ≡ Some y) × (wish y ≡ wish x)
  was r x found_ = was_asked wish s.requests n.requests (begun.wishes s req before is q starts) r x found_

  waits : IsWaiting at []
  waits =
      record {
        parked = over (λ (x : Seen). (x.parked ≡ held_at_first e) ⊎ (x.parked ≡ [])) (inr none_parked);
        apart = λ r x has found_. (let w = was r x (ap (λ (y : Seen). request_of y r) (sym now) ∙ found_) in ap (λ (y : Wish). is_traversal y.what) (sym w.2) ∙ ready.queueing.waits.apart r w.0 has w.1);
        early = λ r x joined found_. (let w = was r x (ap (λ (y : Seen). request_of y r) (sym now) ∙ found_) in
            subst (λ (y : Wish). denial_at_acceptance e.start y.what ≡ None ⊎ (nat_lt (length e.start.requests) r.0 ≡ false)) w.2
            (ready.queueing.waits.early r w.0 (ap (λ (y : Seen). has_req y.joined r) (sym now) ∙ joined) w.1));
      }

  none_now : (now_of at []).parked ≡ []
  none_now = ap (λ (x : Seen). x.parked) now ∙ none_parked

  queueing : IsQueueing ip [] u left
  queueing =
      record {
        waits = waits;
        queued = over (λ (x : Seen). HasQueue x (Some req) rest) (opens.queue_then s req before is q starts delta rest queue_s);
        parked = ready.queueing.parked ∙ ap (λ (l : List ReqId). held_back s.requests l) none_parked ∙ ap (λ (l : List ReqId). held_back (now_of at []).requests l) (sym none_now);
        held = λ runs. none_now;
        over = λ has. none_now;
        releasing = λ some all. absurd (some none_now);
      }

  -- ---- a pass may follow

  pub ready_then : IsReady (record { event = gone_on e req; loads = loads; hand = [] }) [] (passed_tables t req goal (ended req t.checks)) (record queue { waiting = rest }) blame (whys.Req req)
  ready_then =
      record {
        passing = passing;
        empty = refl;
        header = ready.header;
        open_ = over (λ (x : Seen). IsOpen at (Some req) (whys.Req req) x) open_n;
        loads = over StandOrMove moves_n;
        frees = λ nav place placed need epoch. free_then;
        blamed = over (λ (x : Seen). AreBlamed x blame) blamed_n;
        calm = over (λ (x : Seen). UnmovedAreHere x × AreRooted x) (calm_begun s n refl refl cut_for.calm);
        late = tt;
        moved = over (λ (x : Seen). MovedAreShown (Some req) x) (shown_unmoved req n (begun_as q before) (begun.there s req before is q starts) unmoved);
        live = over LoadsLive live_n;
        theirs = over LoadsMadeOwn theirs_n;
        queueing = queueing;
      }

  -- ---- what is known of its checks

  nobody : (r : ReqId) → request_of log r ≡ None → check_of r (ended req t.checks) ≡ None
  nobody r none = by_number (r.0 == req.0) refl
    where
      by_number : (b : Bool) → (r.0 == req.0) ≡ b → check_of r (ended req t.checks) ≡ None
      by_number true one = ap (λ (x : ReqId). check_of x (ended req t.checks)) (req_same r req one) ∙ check_ended req t.checks
      by_number false apart = others_ended req t.checks r apart ∙ cut_for.there r none

  -- whose check waits still had one that waited
  waits_before : (r : ReqId) → is_waiting (ended req t.checks) r ≡ true → is_waiting t.checks r ≡ true
  waits_before r waits_ = by_number (r.0 == req.0) refl
    where
      by_number : (b : Bool) → (r.0 == req.0) ≡ b → is_waiting t.checks r ≡ true
      by_number true one =
          let none : is_waiting (ended req t.checks) r ≡ false = ap (λ (x : ReqId). is_waiting (ended req t.checks) x) (req_same r req one) ∙ ap waits_by (check_ended req t.checks) in
          let never : true ≡ false = sym waits_ ∙ none in
          absurd cc
      by_number false apart = sym (ap waits_by (others_ended req t.checks r apart)) ∙ waits_

  pub begins_then : BeginsAsked (gone_on e req) (ended req t.checks)
  begins_then =
      record {
        asked = stands.asked;
        calm = calm;
        notes = stands.notes;
        unanswered = log_same NoneAnsweredEarly cut_for.unanswered;
        opens = log_same (λ (x : Seen). (r : ReqId) (y : Asked) → request_of x r ≡ Some y → is_waiting (ended req t.checks) r ≡ true → WasOpen e.start r ⊎ (are_unheard y.asks ≡ true)) (λ r y found_ waits_. cut_for.opens r y found_ (waits_before r waits_));
        there = log_same (λ (x : Seen). (r : ReqId) → request_of x r ≡ None → check_of r (ended req t.checks) ≡ None) nobody;
        finished = log_same (λ (x : Seen). x.just_finished ≡ None) cut_for.finished;
      }

  -- ---- orders on their way

  makes_n : MakesServe n
  makes_n =
      orders_on (λ (job : Job). IsMake job.task → MayCause s job.why) (λ (job : Job). IsMake job.task → MayCause n job.why) s (λ job its made. causes job.why (its made)) cut_for.makes

  sound_n : OrdersAreSound n
  sound_n = sound_on s n keeps cut_for.sound
    where
      keeps : KeepsWhat s n
      keeps =
          record {
            asked = λ r x found_. (let then = is_asked (λ (y : Asked). y.what) s.requests n.requests (on_read (λ (y : Asked). y.what) s.requests req (begun_as q) (λ y. refl)) r x found_ in (then.0, then.1, then.2));
            homes = λ doc d found_. (d, found_, refl);
          }

  -- ---- all of it

  pub gone : HasGoneOn (record { event = e; loads = loads; hand = [] }) (passed_tables t req goal (ended req t.checks)) (record queue { waiting = rest }) blame req
  gone =
      record {
        ready = ready_then;
        begins = begins_then;
        free = free_then;
        loose = loose_then;
        makes = over MakesServe makes_n;
        sound = over OrdersAreSound sound_n;
      }
