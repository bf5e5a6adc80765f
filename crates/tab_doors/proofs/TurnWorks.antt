-- A traversal begins, or a request is refused or dropped, and the coordinator goes on working.
use Rattle.checking_facts.proofs.Spent.{unspent_at}
use Rattle.tab_doors.proofs.Ahead.{IsStep, step_more, step_plain}
use Rattle.tab_doors.proofs.Works.{open_undropped, unchecked_off}
use Rattle.checking_facts.specs.Prompts.{GoesBeside, discarded_by}
use Rattle.unasked_dues.specs.Checking.{NoStepChecks}
use Rattle.tab_ids.specs.declared.NavId.{NavId}
use Rattle.log_model.specs.declared.action.Action.{Action}
use Rattle.unasked.proofs.Nows.{dropped_goes, refused_goes, started_goes}
use Rattle.tab_doors.proofs.ReadOff.{begin_due}
use Rattle.tab_doors.proofs.LogDues.{deny_due, destroy_due, drop_due, nowhere, turn_off}
use Rattle.checking_facts.specs.States.{LeavesStates}
use Rattle.checking_facts.specs.Checks.{GoesDuly}
use Rattle.tab_doors.specs.Working as working  -- keep
use Rattle.seen_laws.proofs.Startings.{IsWorker}  -- keep
use Rattle.tab_doors.proofs.EndLaws.{left_holds}
use Rattle.tab_doors.proofs.Keeping.{no_load_at}
use Rattle.tab_doors.proofs.Requests.{ended_moved, moved_same, runs_ended_apart}
use Rattle.unasked.proofs.Readings.{found_from}
use Rattle.unasked_dues.proofs.Dues.{part_of}
use Rattle.seen_laws.specs.Unasked.{unasked_request}
use Rattle.tab_doors.proofs.Works.{at_seen, done_here, goal_read, goal_same, off_runs, start_here, started_held, work_more, BeginsSole, traversal_sole}
use Rattle.tab_doors.specs.Dues.{AsksNone, IsBeginDue, IsDenyDue, IsDenyDueIn, IsDestroyDue, IsDestroyDueIn, IsDropDue, IsDropDueIn, IsNowhere, IsNowhereIn}
use Rattle.tab_doors.specs.Keeping.{IsNoLoad}
use Rattle.tab_doors.specs.Look.{look_of, moved_by, sight}
use Rattle.tab_doors.specs.Ties.{AreInitial, Holds, IsRunning}
use Rattle.tab_doors.specs.Working.{HasGoal, IsAtWork, IsAtWorkIn, look_now}
use Rattle.tab_doors.specs.declared.tables.Tables.{Tables}
use Rattle.row_facts.proofs.FrameRows.Takes.{denied_may, destroyed_may, moved_may}
use Rattle.row_facts.proofs.FrameRows.Turns.{IsTraversalBy, begin_may, nowhere_may, traversal_by}
use Rattle.seen_facts.specs.Kept.Keeping.{kept_states}
use Rattle.seen_facts.proofs.LoadTies.Ends.{HasEnded, dropped_ended, other_ends, refused_ended}
use Rattle.seen_facts.proofs.LoadTies.Rows.{begun_tied}
use Rattle.log_model.proofs.Refl.{nat_eq_refl}
use Rattle.log_model.specs.After.{after, ended, states_after}
use Rattle.log_model.specs.AfterRequests.{on_request, request_begun}
use Rattle.log_model.specs.Causes.{denial_at_acceptance, takes_report}
use Rattle.log_model.specs.Places.{goes, is_reload, is_load, is_traversal}
use Rattle.log_model.specs.Points.{own_row}
use Rattle.log_model.specs.Seen.{Asked, Document, Seen, request_in, request_of}
use Rattle.log_model.specs.declared.outcome.Denial.{Denial}
use Rattle.log_model.specs.declared.outcome.Ending.{Ending}
use Rattle.log_model.specs.declared.request.Request.{Request}
use Rattle.log_model.specs.declared.row_kind.Actor.{Actor}
use Rattle.log_model.specs.declared.row_kind.LogRow.{LogRow}
use Rattle.log_model.specs.declared.row_kind.RowKind.{RowKind}
use Rattle.seen_facts.proofs.Each.Courses.{runs_begun}
use Rattle.seen_facts.specs.Each.Runs.{EachAsked, is_run, is_this}
use Rattle.seen_facts.proofs.Request.LookUps.{on_itself}
use Rattle.seen_facts.proofs.Request.Readers.{on_read}
use Rattle.seen_laws.proofs.InEvents.{led_here, now_is}
use Rattle.seen_laws.specs.Blocks.{point_at}
use Rattle.seen_laws.specs.InEvent.{InEvent, here_of, log_of, now_of, row_of, GoesThere}
use Rattle.std.proofs.Common.{Bool, ◌||◌, List, None, Option, Some, [], ap, false, inl, inr, length, map, refl, subst, sym, true, ℕ, ℤ, ◌++◌, ◌+◌, ◌∙◌, ◌∷◌, ◌≡◌, ◌≤◌, ◌⊎◌}
use Rattle.std.specs.Prelude.{nat_lt, option_map}
use Rattle.tab_ids.specs.declared.ReqId.{ReqId}
use Rattle.tab_ids.specs.declared.StateId.{StateId}
use Rattle.tab_ids.specs.declared.Step.{Step}
use Rattle.log_model.specs.declared.action.Action.TheVariants as actions
use Rattle.log_model.specs.declared.outcome.Cause.TheVariants as drops
use Rattle.log_model.specs.declared.outcome.Denial.TheVariants as denials
use Rattle.log_model.specs.declared.outcome.Ending.TheVariants as endings
use Rattle.log_model.specs.declared.request.Request.TheVariants as requests
use Rattle.log_model.specs.declared.row_kind.Actor.TheVariants as actors
use Rattle.log_model.specs.declared.row_kind.RowKind.TheVariants as rows

-- ---- a request ends of which the tables tell nothing

module _ (e : InEvent) (out : List RowKind) (t : Tables) (req : ReqId) (kind : RowKind) (ending : Ending) {sweeps : Bool} (work : IsAtWorkIn sweeps None e out t) (apart : is_this t.running req ≡ false) where
  abbrev then_ : Seen
  then_ = after (now_of e out) (row_of e kind)

  pub ended_work : GoesThere e out kind → BeginsSole e out kind → GoesDuly e.checking (log_of e out) kind → LeavesStates e.checking (log_of e out) kind → then_.requests ≡ ended (now_of e out).requests req ending → then_.documents ≡ (now_of e out).documents → then_.places ≡ (now_of e out).places → then_.history ≡ (now_of e out).history → then_.jobs ≡ (now_of e out).jobs → then_.states ≡ (now_of e out).states → then_.entries ≡ (now_of e out).entries → then_.initial_states ≡ (now_of e out).initial_states → kept_states then_ ≡ kept_states (now_of e out) → HasEnded (now_of e out) then_ req → IsNoLoad (now_of e out) req → GoesBeside e.checking (log_of e out) kind → IsStep None None e out kind → discarded_by kind ≡ None → IsAtWorkIn sweeps None e (out ++ kind ∷ []) t
  ended_work it begins duly leaves requests_ documents places history jobs states entries initial kept ended_ no_load beside step none =
      work_more e out kind None t t work it begins duly leaves
      (left_holds (look_now e out t.running) (look_of then_ t.running) t (ap (λ (l : List Document). map sight l) documents) places history moved jobs states entries work.holds)
      (subst (λ (l : List Asked). IsRunning l t.running) (sym requests_) (runs_ended_apart (now_of e out).requests t.running req ending apart work.runs))
      (subst (λ (l : List Asked). HasGoal l t.running t.goal) (sym requests_) (goal_same (now_of e out).requests (ended (now_of e out).requests req ending) t.running t.goal (on_read goal_read (now_of e out).requests req (λ q. record q { ending = Some ending }) (λ q. refl)) work.goal))
      (subst (λ (l : List Document). length l ≤ then_.jobs + 1) (sym documents) (subst (λ (n : ℕ). length (now_of e out).documents ≤ n + 1) (sym jobs) work.few))
      (subst (λ (l : List StateId). AreInitial l t.initial.entries) (sym initial) work.initial)
      (other_ends (now_of e out) then_ req ended_ t.loads work.loads no_load)
      (work.kept ∙ sym kept)
      beside
      step
      refl
      refl
      (inl none)
    where
      moved : moved_by then_.requests t.running ≡ moved_by (now_of e out).requests t.running
      moved = ap (λ (l : List Asked). moved_by l t.running) requests_ ∙ moved_same (now_of e out).requests (ended (now_of e out).requests req ending) t.running (ended_moved (now_of e out) e.event e.actor req ending)

-- ---- a traversal that leads nowhere

module _ {sweeps : Bool} (e : InEvent) (out : List RowKind) (t : Tables) (req : ReqId) (work : IsAtWorkIn sweeps None e out t) (apart : is_this t.running req ≡ false) where
  worker_as : (actor : Actor) → working.IsWorker actor → IsWorker actor
  worker_as actors.Ui is = tt
  worker_as actors.Coord is = tt
  worker_as _ is = elim is [ ]

  nowhere_step : NoStepChecks e.checking (log_of e []) → IsNowhere e out req → IsStep None None e out (rows.Refused req denials.NoStep)
  nowhere_step free due = by_log (nowhere e out (now_is e out) work.checks.numbered (work.unheld free) req due)
    where
      by_log : IsNowhereIn (log_of e out) e out req → IsStep None None e out (rows.Refused req denials.NoStep)
      by_log d =
          step_plain e out (rows.Refused req denials.NoStep) (λ r. refl) d.held (nowhere_may (here_of e out) e.event e.actor req d.delta d.asked (worker_as e.actor work.worker) (led_here e out work.own) d.at d.asks d.open_ early d.nowhere d.turn d.unparked)
        where
          early : denial_at_acceptance (here_of e out).start d.asked.what ≡ None ⊎ (nat_lt (length (here_of e out).start.requests) d.asked.nr.0 ≡ false)
          early = subst (λ (s : Seen). denial_at_acceptance s d.asked.what ≡ None ⊎ (nat_lt (length s.requests) d.asked.nr.0 ≡ false)) (sym (start_here e out)) d.early

  goes_no_load : (what : Request) {delta : ℤ} → IsTraversalBy delta what → is_load what ≡ false
  goes_no_load what (inl is) = rw is refl
  goes_no_load what {delta} (inr poke) = let is : what ≡ requests.Poke poke.0 (actions.Go delta) = poke.1 in rw is refl

  -- as the log has it
  in_log : NoStepChecks e.checking (log_of e []) → IsNowhere e out req → IsNowhereIn (log_of e out) e out req
  in_log free due = nowhere e out (now_is e out) work.checks.numbered (work.unheld free) req due

  goes_step : (what : Request) {delta : ℤ} → IsTraversalBy delta what → is_traversal what ≡ true
  goes_step what (inl is) = rw is refl
  goes_step what {delta} (inr poke) = let is : what ≡ requests.Poke poke.0 (actions.Go delta) = poke.1 in rw is refl

  -- it isn't in its check
  nowhere_off : NoStepChecks e.checking (log_of e []) → IsNowhere e out req → e.checking req ≡ false
  nowhere_off free due = turn_off e out (now_is e out) work.checks.begun (work.unheld free) req due.asked due.at due.open_ (goes_step due.asked.what (traversal_by due.asked.what due.delta due.asks))

  pub nowhere_work : NoStepChecks e.checking (log_of e []) → IsNowhere e out req → IsAtWorkIn sweeps None e (out ++ rows.Refused req denials.NoStep ∷ []) t
  nowhere_work free due =
      ended_work e out t req (rows.Refused req denials.NoStep) (endings.Refused denials.NoStep) work apart (refused_goes e out req denials.NoStep) tt tt tt refl refl refl refl refl refl refl refl refl (refused_ended (now_of e out) e.event e.actor req denials.NoStep) (no_load_at (now_of e out) req due.asked due.at (goes_no_load due.asked.what (traversal_by due.asked.what due.delta due.asks))) (nowhere_off free due, open_undropped (log_of e out) req (in_log free due).asked (in_log free due).at (in_log free due).open_) (nowhere_step free due) refl

  -- ---- what is refused as its report is taken

  deny_step : (reason : Denial) → IsDenyDue e out req reason → IsStep None None e out (rows.Refused req reason)
  deny_step reason due = by_log (deny_due e out (now_is e out) work.checks.numbered work.checks.checks req reason due)
    where
      own_takes : (later : List LogRow) → takes_report (own_row (point_at (here_of e out) later) (record { event = e.event; actor = e.actor; row = rows.Refused req reason })) ≡ true
      own_takes later = subst (λ (l : List LogRow). takes_report (own_row (record { start = (here_of e out).start; now = (here_of e out).now; done = l; later = later }) (record { event = e.event; actor = e.actor; row = rows.Refused req reason })) ≡ true) (sym (done_here e out)) due.takes

      by_log : IsDenyDueIn (log_of e out) e out req reason → IsStep None None e out (rows.Refused req reason)
      by_log d =
          step_plain e out (rows.Refused req reason) (λ r. refl) d.held (denied_may (here_of e out) e.event e.actor (led_here e out work.own) d.by_coord req reason d.asked d.made d.poked d.unstarted (λ later. own_takes later) (subst (λ (s : Seen). nat_lt (length s.requests) d.asked.nr.0 ≡ false) (sym (start_here e out)) d.before) d.is d.free)

  -- as the log has it, it is a poke, so it isn't in its check
  denied_log : (reason : Denial) → IsDenyDue e out req reason → IsDenyDueIn (log_of e out) e out req reason
  denied_log reason due = deny_due e out (now_is e out) work.checks.numbered work.checks.checks req reason due

  deny_off : (reason : Denial) → IsDenyDue e out req reason → e.checking req ≡ false
  deny_off reason due =
      let d = denied_log reason due in
      unchecked_off e.checking (log_of e out) work.checks req d.asked d.poked.at (ap (λ (w : Request). is_load w || is_traversal w || is_reload w) d.poked.what ∙ by_action d.poked.nav d.poked.action d.poked.no_step)
    where
      by_action : (nav : NavId) (action : Action) → goes action ≡ false → (is_load (requests.Poke nav action) || is_traversal (requests.Poke nav action) || is_reload (requests.Poke nav action)) ≡ false
      by_action nav action none = rw none refl

  pub deny_work : (reason : Denial) → IsDenyDue e out req reason → IsAtWorkIn sweeps None e (out ++ rows.Refused req reason ∷ []) t
  deny_work reason due =
      ended_work e out t req (rows.Refused req reason) (endings.Refused reason) work apart (refused_goes e out req reason) tt tt tt refl refl refl refl refl refl refl refl refl (refused_ended (now_of e out) e.event e.actor req reason) (no_load_at (now_of e out) req due.asked due.poked.at (ap is_load due.poked.what)) (deny_off reason due, open_undropped (log_of e out) req (denied_log reason due).asked (denied_log reason due).poked.at (denied_log reason due).poked.open_) (deny_step reason due) refl

  -- ---- what is dropped

  pub destroy_step : (by : ReqId) → IsDestroyDue e out req by → IsStep None None e out (rows.Dropped req (drops.Destroyed by))
  destroy_step by due = by_log (destroy_due e out (now_is e out) req by due)
    where
      by_log : IsDestroyDueIn (log_of e out) e out req by → IsStep None None e out (rows.Dropped req (drops.Destroyed by))
      by_log d =
          step_plain e out (rows.Dropped req (drops.Destroyed by)) (λ r. refl) d.held (destroyed_may (here_of e out) e.event e.actor (led_here e out work.own) req by d.asked d.at d.open_ d.is d.free)

  pub destroy_work : (by : ReqId) → IsDestroyDue e out req by → IsNoLoad (now_of e out) req → e.checking req ≡ false → IsAtWorkIn sweeps None e (out ++ rows.Dropped req (drops.Destroyed by) ∷ []) t
  destroy_work by due no_load off =
      ended_work e out t req (rows.Dropped req (drops.Destroyed by)) (endings.Dropped (drops.Destroyed by)) work apart (dropped_goes e out req (drops.Destroyed by)) tt tt tt refl refl refl refl refl refl refl refl refl (dropped_ended (now_of e out) e.event e.actor req (drops.Destroyed by)) no_load off (destroy_step by due) refl

  pub drop_step : (by : ReqId) → IsDropDue e out req by → IsStep None None e out (rows.Dropped req (drops.By by))
  drop_step by due = by_log (drop_due e out (now_is e out) work.checks.numbered work.checks.others req by due)
    where
      by_log : IsDropDueIn (log_of e out) e out req by → IsStep None None e out (rows.Dropped req (drops.By by))
      by_log d =
          step_plain e out (rows.Dropped req (drops.By by)) (λ r. refl) d.held (moved_may (here_of e out) e.event e.actor (led_here e out work.own) req by d.asked d.mover d.at d.open_ d.found d.moved d.free)

  pub drop_work : (by : ReqId) → IsDropDue e out req by → IsNoLoad (now_of e out) req → e.checking req ≡ false → IsAtWorkIn sweeps None e (out ++ rows.Dropped req (drops.By by) ∷ []) t
  drop_work by due no_load off =
      ended_work e out t req (rows.Dropped req (drops.By by)) (endings.Dropped (drops.By by)) work apart (dropped_goes e out req (drops.By by)) tt tt tt refl refl refl refl refl refl refl refl refl (dropped_ended (now_of e out) e.event e.actor req (drops.By by)) no_load off (drop_step by due) refl

-- ---- a traversal begins

module _ (e : InEvent) (out : List RowKind) (t : Tables) (req : ReqId) (goal : Step) (work : IsAtWork e out t) (none : t.running ≡ None) (due : IsBeginDue (now_of e out) req goal) (none_asked : AsksNone (log_of e out) req (Some goal)) (free : NoStepChecks e.checking (log_of e [])) where
  abbrev begun_ : Seen
  begun_ = after (now_of e out) (row_of e (rows.Started req (Some goal)))

  abbrev u : Tables
  u = record t { running = Some req; goal = goal }

  abbrev begin_ : Asked → Asked
  begin_ q = record q { is_started = true; goal = Some goal }

  found : request_in begun_.requests req ≡ Some (request_begun (now_of e out) (begin_ due.asked))
  found =
      on_itself (on_request req begin_ (now_of e out).requests) req (request_begun (now_of e out))
      ∙ ap (λ (o : Option Asked). option_map (request_begun (now_of e out)) o) (on_itself (now_of e out).requests req begin_ ∙ ap (λ (o : Option Asked). option_map begin_ o) due.at)

  moved : moved_by begun_.requests (Some req) ≡ moved_by (now_of e out).requests t.running
  moved = rw found (due.unmoved ∙ sym (ap (λ (r : Option ReqId). moved_by (now_of e out).requests r) none))

  no_load : (what : Request) → IsTraversalBy due.delta what → is_load what ≡ false
  no_load what (inl is) = rw is refl
  no_load what (inr poke) = let is : what ≡ requests.Poke poke.0 (actions.Go due.delta) = poke.1 in rw is refl

  is_step : (what : Request) → IsTraversalBy due.delta what → is_traversal what ≡ true
  is_step what (inl is) = rw is refl
  is_step what (inr poke) = let is : what ≡ requests.Poke poke.0 (actions.Go due.delta) = poke.1 in rw is refl

  its : IsTraversalBy due.delta due.asked.what
  its = traversal_by due.asked.what due.delta due.asks

  states_same : states_after (now_of e out) (rows.Started req (Some goal)) ≡ (now_of e out).states
  states_same = rw due.at (rw (no_load due.asked.what its) refl)

  it_is : (q : Asked) → request_in (now_of e out).requests req ≡ Some q → due.asked ≡ q
  it_is q at = let both_ : Some due.asked ≡ Some q = sym due.at ∙ at in cc

  runs : IsRunning begun_.requests (Some req)
  runs =
      record {
        only = runs_begun (now_of e out) req (Some goal) (λ q at. subst (λ (x : Asked). is_traversal x.what ≡ true) (it_is q at) (is_step due.asked.what its)) (λ q at. subst (λ (x : Asked). x.ending ≡ None) (it_is q at) due.open_) (subst (λ (r : Option ReqId). EachAsked (λ x q. is_run q ≡ is_this r x) (now_of e out).requests) none work.runs.only);
        there = λ r is. let same : req ≡ r = cc in (request_begun (now_of e out) (begin_ due.asked), ap (λ (x : ReqId). request_in begun_.requests x) (sym same) ∙ found);
      }

  goal_then : HasGoal begun_.requests (Some req) goal
  goal_then r q is at =
      let same : req ≡ r = cc in
      let both_ : Some (request_begun (now_of e out) (begin_ due.asked)) ≡ Some q = sym found ∙ ap (λ (x : ReqId). request_in begun_.requests x) same ∙ at in
      let one : request_begun (now_of e out) (begin_ due.asked) ≡ q = cc in
      ap (λ (x : Asked). x.goal) (sym one)

  -- it isn't in its check
  off : e.checking req ≡ false
  off = turn_off e out (now_is e out) work.checks.begun (work.unheld free) req due.asked due.at due.open_ (is_step due.asked.what its)

  -- as the log has it
  begin_log : IsBeginDue (log_of e out) req goal
  begin_log =
      begin_due e.checking (log_of e out) work.checks.numbered (work.unheld free) req goal off none_asked (at_seen e out t work (λ (s : Seen). IsBeginDue s req goal) due)

  begin_step : IsStep None None e out (rows.Started req (Some goal))
  begin_step = by_log begin_log
    where
      by_log : IsBeginDue (log_of e out) req goal → IsStep None None e out (rows.Started req (Some goal))
      by_log d =
          step_more e out (rows.Started req (Some goal)) (λ r. refl) (started_held e out req (Some goal)) (λ later asks. begin_may (here_of e out) e.event e.actor req goal.0 d.delta d.asked (led_here e out work.own) d.at d.asks d.unstarted d.open_ d.there d.turn d.unasked later (asks.0 req (nat_eq_refl req.0)))

  from : (q : Asked) × (request_of (log_of e out) req ≡ Some q) × (due.asked ≡ unasked_request e.checking q)
  from = found_from e.checking (log_of e out) req due.asked (at_seen e out t work (λ (s : Seen). request_of s req ≡ Some due.asked) due.at)

  what_same : due.asked.what ≡ from.0.what
  what_same = part_of e.checking (λ (x : Asked). x.what) (λ x. refl) (λ x. refl) from.0 due.asked from.2

  pub begin_work : IsAtWork e (out ++ rows.Started req (Some goal) ∷ []) u
  begin_work =
      work_more e out (rows.Started req (Some goal)) None t u work (started_goes e out req (Some goal) (work.checks.numbered req) off) (traversal_sole e out req (Some goal) from.0 from.1 (ap is_load (sym what_same) ∙ no_load due.asked.what its)) (λ by q r at there other traverses on runs. rw off (off_runs e.checking (log_of e out) (work.unheld free) by r there on runs)) (inl off, unspent_at (log_of e out) req begin_log.asked begin_log.at begin_log.open_ begin_log.unstarted)
      (on_tables (left_holds (look_now e out t.running) (look_of begun_ (Some req)) t refl refl refl moved refl states_same refl work.holds))
      runs
      goal_then
      work.few
      work.initial
      (begun_tied (now_of e out) e.event e.actor t.loads work.loads req (Some goal) (λ q at. subst (λ (x : Asked). is_load x.what ≡ false) (it_is q at) (no_load due.asked.what its)))
      work.kept
      off
      begin_step
      refl
      refl
      (inl refl)
    where
      on_tables : Holds (look_of begun_ (Some req)) t → Holds (look_of begun_ (Some req)) u
      on_tables holds =
          record {
            navs = holds.navs;
            documents = holds.documents;
            whose = holds.whose;
            shown = holds.shown;
            last = holds.last;
            history = holds.history;
            numbered = holds.numbered;
            states = holds.states;
            entries = holds.entries;
            sent = holds.sent;
          }
