-- The event is cut where the load has begun and asked, and a pass may follow there, with the load at hand still.
use Rattle.asking_facts.proofs.Begun.{block_log}
use Rattle.asking_facts.proofs.Sent.{when_asked}
use Rattle.asking_facts.specs.Asking.{AreQuestions, AreQuestionsFrom, begun_asking, questions_sent}
use Rattle.checking_facts.proofs.Grown.{req_same}
use Rattle.leave_facts.proofs.Awakes.{AsksDue, asks_due}
use Rattle.leave_facts.proofs.Bares.{hangs_log, homes_log}
use Rattle.leave_facts.proofs.Begins.{AreQuestions as AreQuestionsFor, sent_row}
use Rattle.leave_facts.proofs.Carried.{AreLeftDuly, load_duly}
use Rattle.load_asked.proofs.Begins as may
use Rattle.load_asked.proofs.Silent as still
use Rattle.load_asked.proofs.Works as works
use Rattle.load_asked.specs.Beginning.{IsToBegin, due_of, pass_then, then_begun, what_of}
use Rattle.log_model.specs.After.{after}
use Rattle.log_model.specs.AfterRequests.{on_request, request_begun}
use Rattle.log_model.specs.Equal.{has_req}
use Rattle.log_model.specs.Orders.{Question}
use Rattle.log_model.specs.Places.{aim_of, all_stand}
use Rattle.log_model.specs.Queue.{is_step_under_way, is_traverse}
use Rattle.log_model.specs.Seen.{Asked, Seen, request_of}
use Rattle.log_model.specs.Soundness.{IsSound}
use Rattle.log_model.specs.declared.job.Job.{Job}
use Rattle.log_model.specs.declared.job.Why.TheVariants as whys
use Rattle.log_model.specs.declared.row_kind.Actor.TheVariants as actors
use Rattle.log_model.specs.declared.row_kind.LogRow.{LogRow}
use Rattle.log_model.specs.declared.row_kind.RowKind.TheVariants as rows
use Rattle.log_model.specs.declared.row_kind.RowKind.{RowKind}
use Rattle.row_facts.specs.FrameRows.Lawful.{has_traversed, held_at_first}
use Rattle.row_facts.specs.RestRows.Moving.{AllRest}
use Rattle.seen_facts.proofs.Coord.Held.{on_else}
use Rattle.seen_facts.proofs.Each.Courses.{was_asked}
use Rattle.seen_facts.proofs.Request.LookUps.{on_itself}
use Rattle.seen_facts.proofs.Request.Readers.{sent_reads}
use Rattle.seen_facts.specs.Hang.Hanging.{Hangs}
use Rattle.seen_facts.specs.Home.Homes.{AreHomed}
use Rattle.seen_laws.proofs.Cuts.{later_cut, log_cut}
use Rattle.seen_laws.proofs.InEvents.{later_more}
use Rattle.seen_laws.specs.InEvent.{InEvent, later_of, log_of, now_of, row_of}
use Rattle.std.proofs.Common.{Bool, List, None, Option, Some, [], ap, append-nil, arith, false, length, map, refl, subst, sym, true, ℕ, ◌+◌, ◌++◌, ◌==◌, ◌||◌, ◌∙◌, ◌∷◌, ◌≡◌, ◌≤◌, ◌⊎◌}
use Rattle.std.specs.List.{list_any}
use Rattle.std.specs.Prelude.{fold, option_map}
use Rattle.tab_asked.proofs.Works.{entered_same}
use Rattle.tab_asked.specs.Asked.{entered_by}
use Rattle.tab_asks.specs.Asks.{HasBegunCheck}
use Rattle.tab_doors.specs.Working.{MayDiscardIn}
use Rattle.tab_doors.specs.declared.tables.Tables.{Tables}
use Rattle.tab_ids.specs.declared.DocId.{DocId}
use Rattle.tab_ids.specs.declared.ReqId.{ReqId}
use Rattle.tab_loads.specs.Asking.{InLoad}
use Rattle.tab_facts.specs.FrameTab.Asking.{NoneHeld}
use Rattle.tab_facts.specs.TabGoing.Going.{IsGoing}
use Rattle.tab_facts.specs.TabWhole.Tab.{IsTab}
use Rattle.tab_settles.specs.Offs.{LateKnown}
use Rattle.tab_settles.specs.PassedOn.{AreBlamed, HasQueue, IsOpen, IsPassing, LoadsLive, LoadsMadeOwn, MayStand}
use Rattle.tab_settles.specs.Settling.{FreesVisited, HoldsParked, IsCalmBefore, IsQueueing, IsReady, IsWaiting, MayRelease, MovedAreShown}
use Rattle.unasked_dues.specs.Checking.{NoStepChecks}

some_same : {A : Type 0} {a b : A} → (let o : Option A = Some a in o) ≡ Some b → a ≡ b
some_same is = cc

-- ---- the orders

-- each asks for the request
for_request : (base : Seen) (req : ReqId) (number : ℕ) (questions : List Question) (jobs : List Job) → AreQuestionsFrom base req number questions jobs → AreQuestionsFor req jobs
for_request base req number [] [] are = tt
for_request base req number (question ∷ questions) (job ∷ jobs) are = (
  record { why = are.0.why; slot = question.1; cause = question.2; task = are.0.task },
  for_request base req (number + 1) questions jobs are.1,
)
for_request base req number [] (job ∷ jobs) are = absurd are
for_request base req number (question ∷ questions) [] are = absurd are

-- the document of its question
same_docs : (base : Seen) (req : ReqId) (number : ℕ) (questions : List Question) (jobs : List Job) → AreQuestionsFrom base req number questions jobs → map (λ (job : Job). job.doc) jobs ≡ map (λ (question : Question). question.0) questions
same_docs base req number [] [] are = refl
same_docs base req number (question ∷ questions) (job ∷ jobs) are =
    ap (λ (doc : DocId). doc ∷ map (λ (x : Job). x.doc) jobs) are.0.doc
    ∙ ap (λ (docs : List DocId). question.0 ∷ docs) (same_docs base req (number + 1) questions jobs are.1)
same_docs base req number [] (job ∷ jobs) are = absurd are
same_docs base req number (question ∷ questions) [] are = absurd are

same_rows : (e : InEvent) (jobs : List Job) → map (row_of e) (questions_sent jobs) ≡ map (sent_row e.event e.actor) jobs
same_rows e [] = refl
same_rows e (job ∷ jobs) = ap (λ (l : List LogRow). row_of e (rows.Sent job) ∷ l) (same_rows e jobs)

-- none of the rows ends a traversal
none_sent : (e : InEvent) (jobs : List Job) → list_any is_traverse (map (row_of e) (questions_sent jobs)) ≡ false
none_sent e [] = refl
none_sent e (job ∷ jobs) = none_sent e jobs

any_on : (rows_ more : List LogRow) → list_any is_traverse more ≡ false → list_any is_traverse (rows_ ++ more) ≡ list_any is_traverse rows_
any_on [] more none = none
any_on (row ∷ rows_) more none = ap (λ (b : Bool). is_traverse row || b) (any_on rows_ more none)

module _ (l : InLoad) (t : Tables) (due : IsToBegin l t) (jobs : List Job) (are : AreQuestions (log_of l.event []) l.req (due_of l) jobs) (mid : Tables) (is : HasBegunCheck l.event.ran [] l.req (due_of l) t mid) where
  abbrev e : InEvent
  e = l.event

  abbrev s : Seen
  s = now_of e []

  abbrev log : Seen
  log = log_of e []

  abbrev block : List RowKind
  block = begun_asking l.req None jobs

  abbrev then_ : InEvent
  then_ = then_begun l jobs

  abbrev behind : Seen
  behind = log_of e block

  abbrev entered : ReqId → Bool
  entered = entered_by e.checking l.req

  abbrev n : Seen
  n = now_of then_ []

  abbrev quiet : Seen
  quiet = still.n s e.event behind.jobs behind.states

  abbrev pub u : Tables
  u = works.tables_then l t due jobs are mid is

  seen : n ≡ quiet
  seen = works.seen l t due jobs are mid is

  -- what holds of it holds there
  over : (P : Seen → Type 0) → P quiet → P n
  over P holds_ = subst P (sym seen) holds_

  more_jobs : s.jobs ≤ behind.jobs
  more_jobs = let more : behind.jobs ≡ s.jobs + length jobs = works.jobs_more l t due jobs are mid is in omega (arith, more)

  more_states : s.states ≤ behind.states
  more_states =
      let more : behind.states ≡ log.states + 1 = works.states_more l t due jobs are mid is in
      let same : s.states ≡ log.states = works.states_now l t due jobs are mid is in
      omega (arith, more, same)

  -- ---- whom requests leave was asked

  tab : IsTab t.running (l.req ∷ l.loads) [] s
  tab = due.ready.passing.going.tab

  duly : AreLeftDuly behind
  duly =
      subst AreLeftDuly (sym rows_are)
      (load_duly log e.event e.actor due.ready.passing.duly (may.at_bare l t due (λ (x : Seen). IsSound x.history) tab.sound) (hangs_log e.checking log (may.at_bare l t due Hangs tab.hangs)) (homes_log e.checking log (may.at_bare l t due AreHomed tab.homes)) l.req (may.own l t due) (may.there l t due) jobs (for_request log l.req (log.jobs + 1) (due_of l) jobs are) l.nav l.mode l.address refl asks)
    where
      asks : AsksDue log (what_of l) None jobs
      asks = asks_due log (what_of l) None jobs (same_docs log l.req (log.jobs + 1) (due_of l) jobs are)

      rows_are : behind ≡ fold after (after log (row_of e (rows.Started l.req None))) (map (sent_row e.event e.actor) jobs)
      rows_are =
          block_log e [] l.req None jobs ∙ ap (λ (x : List LogRow). fold after (after log (row_of e (rows.Started l.req None))) x) (same_rows e jobs)

  -- ---- no step is in its check, if none was

  abbrev begin : Asked → Asked
  begin x = record x { is_started = true; goal = None }

  abbrev mid_log : Seen
  mid_log = after log (row_of e (rows.Started l.req None))

  free_mid : NoStepChecks e.checking log → NoStepChecks entered mid_log
  free_mid none r q at on = by_number (r.0 == l.req.0) refl
    where
      own : request_of mid_log l.req ≡ Some (request_begun log (begin (may.own l t due)))
      own =
          on_itself (on_request l.req begin log.requests) l.req (request_begun log)
          ∙ ap (λ (o : Option Asked). option_map (request_begun log) o) (on_itself log.requests l.req begin ∙ ap (λ (o : Option Asked). option_map begin o) (may.there l t due))

      by_number : (b : Bool) → (r.0 == l.req.0) ≡ b → is_step_under_way q ≡ false
      by_number true same =
          let one : request_begun log (begin (may.own l t due)) ≡ q = some_same (sym own ∙ ap (λ (x : ReqId). request_of mid_log x) (sym (req_same r l.req same)) ∙ at) in
          ap is_step_under_way (sym one)
      by_number false apart =
          none r q (sym (on_else (on_request l.req begin log.requests) l.req (request_begun log) r apart ∙ on_else log.requests l.req begin r apart) ∙ at) (sym (entered_same e.checking l.req r apart) ∙ on)

  free_sent : (x : Seen) (jobs_ : List Job) → NoStepChecks entered x → NoStepChecks entered (when_asked e x jobs_)
  free_sent x [] none = none
  free_sent x (job ∷ jobs_) none = free_sent (after x (row_of e (rows.Sent job))) jobs_ next
    where
      next : NoStepChecks entered (after x (row_of e (rows.Sent job)))
      next r q at on =
          let was = was_asked is_step_under_way x.requests (after x (row_of e (rows.Sent job))).requests (sent_reads is_step_under_way (record { moves = λ q activated moved. refl; asks = λ q asks. refl; fragments = λ q doc. refl; misses = λ q is. refl }) x job job.task x.requests) r q at in
          sym was.2 ∙ none r was.0 was.1 on

  free_then : MayDiscardIn false e → MayDiscardIn false then_
  free_then none =
      subst (λ (x : Seen). NoStepChecks entered x) (sym (log_cut e block entered then_.due ∙ block_log e [] l.req None jobs)) (free_sent mid_log jobs (free_mid none))

  frees_then : FreesVisited then_ n
  frees_then =
      over (λ (x : Seen). FreesVisited then_ x) (λ nav place placed need since. free_then (due.ready.frees nav place placed (still.need_back s e.event behind.jobs behind.states place need) since))

  -- ---- the queue

  traversed : has_traversed then_ [] ≡ has_traversed e []
  traversed =
      ap (λ (rows_ : List LogRow). list_any is_traverse rows_) (later_cut e block entered then_.due [] ∙ ap (λ (x : List RowKind). later_of e x) (append-nil block) ∙ later_more e [] block)
      ∙ any_on (later_of e []) (map (row_of e) block) (none_sent e jobs)

  waits_then : IsWaiting then_ []
  waits_then =
      record {
        parked = over (λ (x : Seen). (x.parked ≡ held_at_first e) ⊎ (x.parked ≡ [])) due.ready.queueing.waits.parked;
        apart = λ req q has found. due.ready.queueing.waits.apart req q has (ap (λ (x : Seen). request_of x req) (sym seen) ∙ found);
        early = λ req q joined found. due.ready.queueing.waits.early req q (ap (λ (x : Seen). has_req x.joined req) (sym seen) ∙ joined) (ap (λ (x : Seen). request_of x req) (sym seen) ∙ found);
      }

  queueing_then : IsQueueing (pass_then l jobs) [] u l.queue
  queueing_then =
      record {
        waits = waits_then;
        queued = over (λ (x : Seen). HasQueue x t.running l.queue.waiting) (still.queue_stays s e.event behind.jobs behind.states t.running l.queue.waiting due.ready.queueing.queued);
        parked = over (λ (x : Seen). HoldsParked x l.queue.parked) due.ready.queueing.parked;
        held = over (λ (x : Seen). NoneHeld t.running x) due.ready.queueing.held;
        over = λ has. ap (λ (x : Seen). x.parked) seen ∙ due.ready.queueing.over (sym traversed ∙ has);
        releasing = λ some all. release (due.ready.queueing.releasing (λ none. some (ap (λ (x : Seen). x.parked) seen ∙ none)) (ap (λ (x : Seen). all_stand x (aim_of x)) (sym seen) ∙ all));
      }
    where
      -- the user asks for the load, so nothing that was held back is taken up
      release : MayRelease e [] → MayRelease then_ []
      release may_ = let never : actors.Ui ≡ actors.Coord = sym due.asks.by_user ∙ may_.by_coord in absurd cc

  -- ---- a pass may follow

  passing_then : IsPassing (pass_then l jobs) [] u
  passing_then =
      record {
        work = works.work_then l t due jobs are mid is;
        going = over (λ (x : Seen). IsGoing t.running (l.req ∷ l.loads) [] x) (still.going_stays s e.event behind.jobs behind.states more_jobs more_states t.running (l.req ∷ l.loads) due.ready.passing.going);
        owed = works.owed_then l t due jobs are mid is;
        loose = λ all. works.loose_then l t due jobs are mid is (due.ready.passing.loose (ap (λ (x : Seen). all_stand x (aim_of x)) (sym seen) ∙ all));
        rests = over AllRest (rests_quiet due.ready.passing.rests);
        few = subst (λ (x : Seen). length x.kept ≤ t.kept.keep) (sym seen) due.ready.passing.few;
        duly = subst AreLeftDuly (sym (log_cut e block entered then_.due)) duly;
      }
    where
      rests_quiet : AllRest s → AllRest quiet
      rests_quiet rests doc d found un has =
          rests doc d found un has

  pub ready_then : IsReady (pass_then l jobs) [] u l.queue l.noted whys.Start
  ready_then =
      record {
        passing = passing_then;
        empty = refl;
        header = due.ready.header;
        open_ = over (λ (x : Seen). IsOpen then_ t.running whys.Start x) (still.open_stays s e.event behind.jobs behind.states e block entered then_.due t.running whys.Start due.ready.open_);
        loads = over (λ (x : Seen). MayStand t.running x) (still.stand_stays s e.event behind.jobs behind.states t.running due.ready.loads);
        frees = frees_then;
        blamed = over (λ (x : Seen). AreBlamed x l.noted) (still.blamed_stay s e.event behind.jobs behind.states l.noted due.ready.blamed);
        calm = over (λ (x : Seen). IsCalmBefore t.running whys.Start x) (still.calm_stays s e.event behind.jobs behind.states t.running due.ready.calm);
        late = over (λ (x : Seen). LateKnown t.running x) (still.late_stays s e.event behind.jobs behind.states t.running due.ready.late);
        moved = over (λ (x : Seen). MovedAreShown t.running x) due.ready.moved;
        live = over LoadsLive (still.live_stays s e.event behind.jobs behind.states due.ready.live);
        theirs = over LoadsMadeOwn (still.made_stays s e.event behind.jobs behind.states due.ready.theirs);
        queueing = queueing_then;
      }
