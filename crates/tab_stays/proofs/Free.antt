-- The user stays, and the traversal is dropped: its step leaves the queue, no step is in its check any more, and a pass may follow.
use Rattle.tab_doors.specs.AskingLoads.{TiesAsking}
use Rattle.load_doors.proofs.Starts.{requests_start}
use Rattle.load_doors.specs.Tied.{AreTied}
use Rattle.log_model.specs.After.{after}
use Rattle.log_model.specs.AfterRequests.{without_req}
use Rattle.log_model.specs.Equal.{has_req}
use Rattle.log_model.proofs.Refl.{nat_eq_refl}
use Rattle.log_model.specs.After.{has_stood_now}
use Rattle.log_model.specs.Places.{is_ongoing_load, is_reload, is_traversal, is_under_way}
use Rattle.log_model.specs.declared.job.Why.TheVariants as whys
use Rattle.log_model.specs.Queue.{is_step_under_way}
use Rattle.log_model.specs.Seen.{Asked, Seen, request_of}
use Rattle.log_model.specs.declared.outcome.Cause.TheVariants as drops
use Rattle.log_model.specs.declared.outcome.Ending.TheVariants as endings
use Rattle.log_model.specs.declared.row_kind.Actor.TheVariants as actors
use Rattle.log_model.specs.declared.row_kind.LogRow.{LogRow}
use Rattle.log_model.specs.declared.row_kind.RowKind.TheVariants as rows
use Rattle.move_queue.specs.Queue.{Queue}
use Rattle.move_queue.specs.declared.queue_step.QueueStep.TheVariants.{Traverse}
use Rattle.move_queue.specs.declared.queue_step.QueueStep.{QueueStep}
use Rattle.row_facts.proofs.RestRows.Rows.{dropped_rests}
use Rattle.row_facts.specs.Owed.Owed.{IsLoose}
use Rattle.row_facts.specs.RestRows.Moving.{AllRest}
use Rattle.seen_facts.proofs.Coord.Held.{on_else}
use Rattle.seen_facts.proofs.Coord.Unread.{dropped_held}
use Rattle.seen_facts.proofs.Load.Rows.{req_same}
use Rattle.seen_facts.proofs.Request.LookUps.{on_itself}
use Rattle.seen_facts.proofs.Request.Readers.{on_read}
use Rattle.seen_facts.specs.Each.Runs.{OnlyRuns, is_this}
use Rattle.seen_facts.specs.Load.Loading.{Look, is_ongoing, look_of}
use Rattle.seen_laws.proofs.InEvents.{now_is}
use Rattle.seen_laws.specs.InEvent.{InEvent, log_of, now_of, row_of}
use Rattle.seen_laws.specs.Unasked.{unasked, unasked_request}
use Rattle.std.proofs.Common.{Bool, List, None, Option, Some, [], ap, arith, false, filter, inr, length, refl, subst, sym, true, ℤ, ◌&&◌, ◌+◌, ◌<◌, ◌==◌, ◌||◌, ◌∙◌, ◌∷◌, ◌≡◌, ◌≤◌}
use Rattle.std.proofs.lemmas.Bool.Decides.{nat_tests}
use Rattle.std.specs.Prelude.{nat_lt, option_map}
use Rattle.tab_answers.proofs.Events.{plain, plain_is, quiet, stands_quiet}
use Rattle.tab_answers.proofs.Leaves as leaving
use Rattle.tab_answers.proofs.Stays as stays
use Rattle.tab_answers.proofs.Stood.{answered_quiet}
use Rattle.tab_answers.proofs.TiedLeft.{tied_left}
use Rattle.tab_begins.proofs.Queues.{ahead, await_on, await_traversed, deltas_same, rest_left, steps_on}
use Rattle.tab_begins.specs.Queueing.{IsAheadOf}
use Rattle.tab_cuts.proofs.Owed.{now_cut}
use Rattle.tab_cuts.proofs.Works.{work_behind}
use Rattle.tab_cuts.specs.Cut.{TiesCut}
use Rattle.tab_doors.specs.Working.{IsAtWork, MayDiscardIn}
use Rattle.tab_doors.specs.declared.tables.Tables.{Tables}
use Rattle.tab_facts.proofs.Calm.Loads.{loads_same}
use Rattle.tab_facts.specs.Frame.Lasting.{wish}
use Rattle.tab_facts.proofs.Last.Rows.{dropped_lasting}
use Rattle.tab_facts.proofs.TabGoing.Rows.{dropped_going}
use Rattle.tab_facts.proofs.TabGoing.Counts.{as_many}
use Rattle.tab_facts.proofs.TabWhole.Beginning.{no_load}
use Rattle.tab_facts.proofs.TabWhole.Refusing.{queued_dropped_tab}
use Rattle.tab_facts.specs.TabGoing.Going.{IsGoing}
use Rattle.tab_facts.specs.TabWhole.Tab.{IsTab}
use Rattle.tab_ids.specs.declared.ReqId.{ReqId}
use Rattle.tab_ids.specs.declared.StateId.{StateId}
use Rattle.tab_passed.proofs.Free.{no_steps}
use Rattle.tab_passed.specs.Passing.{without}
use Rattle.tab_settles.specs.PassedOn.{AreStepsOf, AreUnheld, HasQueue, InPass, is_traverse}
use Rattle.tab_settles.specs.Settling.{HoldsParked, IsQueueing, MakesServe, OrdersAreSound}
use Rattle.tab_stands.proofs.Accepting.{number_low}
use Rattle.tab_stands.proofs.Begun.{begun_there}
use Rattle.tab_stands.proofs.Coming.{IsComing}
use Rattle.tab_stands.proofs.Orders.{keeps_coming, makes_after, sound_after}
use Rattle.tab_stands.proofs.Ready.{ready}
use Rattle.tab_stands.specs.Checked.{ChecksStand}
use Rattle.tab_stands.specs.Standing.{HasBegun, HasRoomFor, InCheck, LastsInLog, StandsFor, seen_start}
use Rattle.tab_stays.proofs.Log as log
use Rattle.tab_stays.specs.Staying.{HasStayed, IsToStay, cut_stayed, pass_stayed, stayed}
use Rattle.tab_turns.specs.Beginning.{IsFirst}
use Rattle.unasked.proofs.Nows.{dropped_now}
use Rattle.unasked.proofs.Readings.{request_read}
use Rattle.unasked_dues.specs.Checking.{NoStepChecks}
use Rattle.unload_check.specs.Checks.{OpenCheck, ended}

and_false : (b : Bool) → (b && false) ≡ false
and_false true = refl
and_false false = refl

-- a request, dropped
abbrev stayed_one : Asked → Asked
stayed_one z = record z { ending = Some (endings.Dropped drops.Stay) }

-- it is under way no more
ended_step : (z : Asked) → is_step_under_way (stayed_one z) ≡ false
ended_step z = by_start z.is_started
  where
    by_start : (b : Bool) → ((b && false) && (is_traversal z.what || is_reload z.what)) ≡ false
    by_start true = refl
    by_start false = refl

module _ (e : InEvent) (t : Tables) (queue : Queue) (blame : List (StateId × ReqId)) {check : InCheck} (stands : StandsFor check (seen_start e) t queue blame) (lasts : LastsInLog e.checking t.asking e.start) (asks : ChecksStand e.checking e.start t.checks) (holds : check.holds ≡ true) (room : HasRoomFor e.start) (header : t.kept.keep ≡ e.header.keep) (uncut : e.before ≡ []) (req : ReqId) (q : Asked) (stay : IsToStay e req q) (delta : ℤ) (rest : List QueueStep) (front : queue.waiting ≡ Traverse req delta ∷ rest) where
  abbrev x : InEvent
  x = plain e actors.Ui (rows.Answered req true)

  idle : t.running ≡ None
  idle = stands.alone holds

  -- the log without questions once the user has answered
  abbrev s : Seen
  s = quiet e t queue blame stands

  stands_s : StandsFor check s t queue blame
  stands_s = stands_quiet e t queue blame stands

  none_parked : s.parked ≡ []
  none_parked = stands.between.held idle

  abbrev es : List (ReqId × OpenCheck)
  es = ended req t.checks

  -- ---- the traversal there

  numbered : q.nr ≡ req
  numbered = asks.has.numbered req q stay.at

  abbrev seen : Asked
  seen = unasked_request e.checking q

  seen_at : request_of s req ≡ Some seen
  seen_at =
      request_read e.checking e.start req ∙ ap (λ (o : Option Asked). option_map (unasked_request e.checking) o) stay.at

  seen_goes : is_traversal seen.what ≡ true
  seen_goes = by_test (e.checking q.nr)
    where
      by_test : (b : Bool) → is_traversal (unasked_request (λ (r : ReqId). b) q).what ≡ true
      by_test true = stay.goes
      by_test false = stay.goes

  unparked_log : has_req e.start.parked req ≡ false
  unparked_log = ap (λ (l : List ReqId). has_req l req) none_parked

  open_log : q.ending ≡ None
  open_log = stays.open_ e.header e.start e.event e.checking req t.checks asks lasts.known q stay.at (log.checked e t.checks asks lasts req q stay unparked_log) stay.awaits

  seen_open : seen.ending ≡ None
  seen_open = by_test (e.checking q.nr)
    where
      by_test : (b : Bool) → (unasked_request (λ (r : ReqId). b) q).ending ≡ None
      by_test true = open_log
      by_test false = open_log

  idle_load : is_ongoing_load seen ≡ false
  idle_load = ap (λ (b : Bool). is_under_way seen && b) (no_load seen.what seen_goes) ∙ and_false (is_under_way seen)

  other : is_this t.running req ≡ false
  other = ap (λ (r : Option ReqId). is_this r req) idle

  -- ---- the queue

  queue_s : HasQueue s None (Traverse req delta ∷ rest)
  queue_s =
      subst (λ (l : List QueueStep). HasQueue s None l) front (subst (λ (r : Option ReqId). HasQueue s r queue.waiting) idle stands_s.queue)

  in_front : IsFirst s req delta × IsAheadOf s req (filter is_traverse rest)
  in_front = ahead s req delta (filter is_traverse rest) queue_s.traversals

  joined : has_req s.joined req ≡ true
  joined = rw in_front.1.joined (let same : (req.0 == req.0) ≡ true = nat_eq_refl req.0 in rw same refl)

  -- ---- what is left of it

  abbrev row : LogRow
  row = record { event = e.event; actor = actors.Ui; row = rows.Dropped req drops.Stay }

  abbrev n : Seen
  n = after s row

  tab_s : IsTab None check.loads [] s
  tab_s = subst (λ (r : Option ReqId). IsTab r check.loads [] s) idle stands_s.between.tab

  tab_n : IsTab None check.loads [] n
  tab_n = queued_dropped_tab None check.loads [] s e.event tab_s req refl joined actors.Ui drops.Stay

  going_s : IsGoing None check.loads [] s
  going_s =
      record {
        tab = tab_s;
        lasting = stands_s.lasts.lasting;
        counted = stands_s.lasts.counted;
        steps = stands_s.lasts.steps;
        held = tt;
        room = (let few : length e.start.requests + 3 < 4294967296 = room in let same : length s.requests ≡ length e.start.requests = requests_start e in omega (arith, few, same));
      }

  going_n : IsGoing None check.loads [] n
  going_n =
      dropped_going None check.loads [] s e.event actors.Ui going_s req seen seen_at seen_open drops.Stay check.loads [] tab_n (dropped_lasting s e.event actors.Ui stands_s.lasts.lasting req drops.Stay)

  only_n : OnlyRuns t.running n
  only_n = subst (λ (r : Option ReqId). OnlyRuns r n) (sym idle) tab_n.asked.only

  loads_were : (r : ReqId) (l : Look) → look_of n r ≡ Some l → is_ongoing l ≡ true → look_of s r ≡ Some l
  loads_were = leaving.loads_were s t queue blame stands_s req seen seen_at idle_load other e.event actors.Ui drops.Stay

  comes_s : IsComing blame s n
  comes_s =
      leaving.comes s t queue blame stands_s req seen seen_at idle_load other e.event actors.Ui drops.Stay only_n (loads_same s n loads_were (λ doc. refl) stands_s.between.loading)

  -- and so it is of the log as the event began
  comes : IsComing blame (seen_start e) n
  comes =
      record {
        g = comes_s.g;
        arrives = comes_s.arrives;
        places = comes_s.places;
        history = comes_s.history;
        kept = comes_s.kept;
        asked = comes_s.asked;
        loads = comes_s.loads;
        loading = comes_s.loading;
        serves = λ r may. comes_s.serves r (record { goes = may.goes; begun = may.begun });
        moved = comes_s.moved;
        states = comes_s.states;
        homes = comes_s.homes;
        strays = comes_s.strays;
        were = comes_s.were;
        theirs = comes_s.theirs;
        step = comes_s.step;
        unstood = λ off away. comes_s.unstood (ap (λ (b : Bool). has_stood_now b (seen_start e)) off ∙ away) away;
      }

  -- ---- the event, cut there

  abbrev then_ : InEvent
  then_ = cut_stayed x req

  abbrev u : Tables
  u = record t { checks = ended req t.checks }

  abbrev left : Queue
  left = record queue { waiting = rest }

  abbrev p : InPass
  p = pass_stayed x check.loads req

  now_stayed : unasked e.checking (log_of x (stayed req)) ≡ n
  now_stayed =
      sym (now_is x (stayed req))
      ∙ dropped_now x [] req drops.Stay
      ∙ ap (λ (y : Seen). after y row) (now_is x [] ∙ answered_quiet e.checking e.start e.event actors.Ui req true)

  now_there : now_of (cut_stayed x req) [] ≡ n
  now_there = now_cut x (stayed req) e.checking (λ end. true) ∙ now_stayed

  over : (P : Seen → Type 0) → P n → P (now_of (cut_stayed x req) [])
  over P is = subst P (sym now_there) is

  tied_n : AreTied n t
  tied_n =
      tied_left s t e.event actors.Ui req drops.Stay other (λ y at. (let both : Some seen ≡ Some y = sym seen_at ∙ at in let same : seen ≡ y = cc in subst (λ (z : Asked). is_ongoing_load z ≡ false) same idle_load)) stands_s.tied

  ties : TiesCut None (unasked e.checking (log_of x (stayed req))) u
  ties =
      subst (λ (y : Seen). TiesCut None y u) (sym now_stayed) (record {
        holds = record {
          navs = tied_n.holds.navs;
          documents = tied_n.holds.documents;
          whose = tied_n.holds.whose;
          shown = tied_n.holds.shown;
          last = tied_n.holds.last;
          history = tied_n.holds.history;
          numbered = tied_n.holds.numbered;
          states = tied_n.holds.states;
          entries = tied_n.holds.entries;
          sent = tied_n.holds.sent;
        };
        runs = tied_n.runs;
        goal = tied_n.goal;
        few = tied_n.few;
        initial = tied_n.initial;
        loads = tied_n.loads;
        kept = tied_n.kept;
      })

  -- the loads in their checks are those of before
  asking_there : TiesAsking e.checking (log_of x (stayed req)) u.asking
  asking_there = (log.stays_lasts e t.checks asks lasts req q stay unparked_log).asking

  work : IsAtWork (cut_stayed x req) [] u
  work =
      work_behind None x (stayed req) e.checking (λ end. true) u log.nobody refl tt lasts.checks.numbered (log.sole_there e t.checks asks lasts req q stay unparked_log) (log.debts_there e t.checks asks lasts req q stay unparked_log) (log.stands_there e t.checks asks lasts req q stay unparked_log) ties asking_there (log.begins_there e t.checks asks lasts req q stay unparked_log).calm

  loose : IsLoose (cut_stayed x req) []
  loose end lasts_ = refl

  -- ---- no step is in its check

  under : is_under_way q ≡ true
  under = rw (stays.began e.header e.start e.event e.checking req t.checks asks lasts.known q stay.at (log.checked e t.checks asks lasts req q stay unparked_log) stay.awaits, open_log) refl

  free_log : NoStepChecks e.checking (log.dropped e t.checks asks lasts req q stay unparked_log)
  free_log r y found on = by_number (r.0 == req.0) refl
    where
      answered_then : Seen
      answered_then = after e.start (row_of x (rows.Answered req true))

      none_else : NoStepChecks (without e.checking req) e.start
      none_else =
          no_steps e.checking (without e.checking req) e.start lasts.checks stands.between.tab.asked.each req q stay.at under stay.goes stay.on (rw (nat_eq_refl req.0) refl) (λ m apart. rw apart refl) e.start (λ m. refl)

      by_number : (b : Bool) → (r.0 == req.0) ≡ b → is_step_under_way y ≡ false
      by_number false apart =
          none_else r y (sym (on_else answered_then.requests req (λ z. record z { ending = Some (endings.Dropped drops.Stay) }) r apart ∙ on_else e.start.requests req (λ z. record z { answered = Some true }) r apart) ∙ found) (rw (apart, on) refl)
      by_number true is =
          let it : r ≡ req = req_same r req is in
          let own : request_of (after answered_then (row_of x (rows.Dropped req drops.Stay))) req ≡ option_map stayed_one (request_of answered_then req) = on_itself answered_then.requests req (λ z. record z { ending = Some (endings.Dropped drops.Stay) }) in
          by_said (request_of answered_then req) (sym own ∙ ap (λ (m : ReqId). request_of (after answered_then (row_of x (rows.Dropped req drops.Stay))) m) (sym it) ∙ found)
        where
          by_said : (o : Option Asked) → option_map stayed_one o ≡ Some y → is_step_under_way y ≡ false
          by_said None never = absurd cc
          by_said (Some z) same =
              let one : stayed_one z ≡ y = cc in
              ap is_step_under_way (sym one) ∙ ended_step z

  free : MayDiscardIn false (cut_stayed x req)
  free = subst (λ (y : Seen). NoStepChecks e.checking y) (sym (log.log_there e t.checks asks lasts req q stay unparked_log)) free_log

  -- ---- what waits, and what is held back

  parked_n : n.parked ≡ []
  parked_n = ap (without_req req) none_parked

  queued : HasQueue n None rest
  queued =
      record {
        traversals = subst (λ (l : List ReqId). AreStepsOf n.requests l (filter is_traverse rest)) (sym (rest_left None check.loads [] s tab_s req in_front.1.rest seen seen_at seen_goes in_front.1.joined)) (steps_on s.requests n.requests in_front.1.rest (filter is_traverse rest) (deltas_same s n (on_read wish s.requests req (λ z. record z { ending = Some (endings.Dropped drops.Stay) }) (λ z. refl))) in_front.1.steps_);
        ready = await_on s n (λ state some. some) loads_were rest (await_traversed s req delta rest queue_s.ready);
        steps = λ step has. queue_s.steps step (inr has);
      }

  queueing : IsQueueing p [] u left
  queueing =
      record {
        waits = record {
          parked = inr (ap (λ (y : Seen). y.parked) now_there ∙ parked_n);
          apart = λ r y has found. (let never : true ≡ false = sym has ∙ ap (λ (l : List ReqId). has_req l r) none_parked in absurd cc);
          early = λ r y has found. inr (late r y (ap (λ (z : Seen). request_of z r) (sym now_there) ∙ found));
        };
        queued = over (λ (y : Seen). HasQueue y t.running rest) (subst (λ (r : Option ReqId). HasQueue n r rest) (sym idle) queued);
        parked = subst (λ (y : Seen). HoldsParked y queue.parked) (sym now_there) (stands_s.parked ∙ sym (dropped_held s e.event actors.Ui req drops.Stay unparked_log));
        held = λ runs. ap (λ (y : Seen). y.parked) now_there ∙ parked_n;
        over = λ has. ap (λ (y : Seen). y.parked) now_there ∙ parked_n;
        releasing = λ some all. absurd (some (ap (λ (y : Seen). y.parked) now_there ∙ parked_n));
      }
    where
      late : (r : ReqId) (y : Asked) → request_of n r ≡ Some y → nat_lt (length e.start.requests) r.0 ≡ false
      late r y found =
          let low : r.0 ≤ length n.requests = number_low n.requests r y found in
          let long : length n.requests ≡ length s.requests = as_many s.requests req (λ z. record z { ending = Some (endings.Dropped drops.Stay) }) in
          let same : length s.requests ≡ length e.start.requests = requests_start e in
          grind (arith, nat_tests, low, long, same)

  -- ---- all goes on

  unheld : AreUnheld (cut_stayed x req) (now_of (cut_stayed x req) [])
  unheld r nav load = ap (λ (l : List ReqId). has_req l r) none_parked

  makes_n : MakesServe n
  makes_n = makes_after s n e.event actors.Ui (rows.Dropped req drops.Stay) tt (λ job is. cc) comes_s.serves refl stands_s.lasts.makes

  sound_n : OrdersAreSound n
  sound_n = sound_after s n e.event actors.Ui (rows.Dropped req drops.Stay) tt (λ job is. cc) (keeps_coming blame s n comes_s) refl stands_s.lasts.sound

  begun : HasBegun p u left blame
  begun =
      begun_there p u left blame stands.between stands.lasts stands.tied.goal header work loose (log.lasts_there e t.checks asks lasts req q stay unparked_log).duly (subst (λ (r : Option ReqId). IsGoing r check.loads [] (now_of then_ [])) (sym idle) (over (λ (y : Seen). IsGoing None check.loads [] y) going_n)) (over AllRest (dropped_rests s e.event actors.Ui [] stands_s.between.rests req drops.Stay)) (over (λ (y : Seen). IsComing blame (seen_start e) y) comes) unheld (log.lasts_there e t.checks asks lasts req q stay unparked_log).shows (over MakesServe makes_n) (over OrdersAreSound sound_n) queueing

  plainly : HasStayed x check.loads u left blame req
  plainly =
      record {
        goes = record { header = refl; start = refl; event = refl; actor = refl; own = refl; before = refl };
        ready = ready p u left blame begun refl (λ nav place placed need since. free) whys.Start (λ r never. absurd cc);
        begins = log.begins_there e t.checks asks lasts req q stay unparked_log;
        free = free;
        loose = loose;
        shows = begun.shows;
        known = (log.lasts_there e t.checks asks lasts req q stay unparked_log).known;
        makes = begun.makes;
        sound = begun.sound;
      }

  -- the user stays, and the traversal is dropped: the event goes on as one that begins
  pub stayed_free : HasStayed e check.loads (record t { checks = ended req t.checks }) (record queue { waiting = rest }) blame req
  stayed_free = subst (λ (y : InEvent). HasStayed y check.loads u left blame req) (plain_is e actors.Ui (rows.Answered req true) stay.by_user stay.own uncut) plainly
