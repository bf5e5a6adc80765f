-- A load in its check passes where the event was cut, and the event is cut once more: what the two calls ask, and what is so behind them.
use Rattle.asking_facts.proofs.Ones.{told_none}
use Rattle.check_facts.proofs.Keeping.{sent_gone_same}
use Rattle.check_facts.proofs.Tables.{check_ended}
use Rattle.check_facts.proofs.Notings.{ran_more}
use Rattle.check_facts.specs.Prompting.{none_ran, prompt_of, todo_of}
use Rattle.check_facts.specs.Rows.{IsServing}
use Rattle.checking_facts.proofs.Grown.{req_same}
use Rattle.checking_facts.specs.Prompts.{Told, discarded_by, tell_for, told_all, told_by}
use Rattle.load_checks.proofs.Times.{times_out}
use Rattle.load_checks.proofs.Words.{goes_same}
use Rattle.load_checks.specs.Stages.{AreAskingHere, HasLetPass, InStage, IsAskingHere, IsCutAt, NoneWaits, StandsIn, mode_in, mode_of, pass_in, passed_cut, reqs_of, stage_on}
use Rattle.load_midway.proofs.Cut.{cut_cleared, cut_settled}
use Rattle.load_midway.proofs.Ready.{load_gone}
use Rattle.load_midway.specs.Midway.{HasGoneOn, IsCutFor, IsToGoOn, gone_on, load_on}
use Rattle.load_midway.specs.Owing.{due_beside}
use Rattle.load_passed.specs.Passing.{InLoadPass, IsPastLoad, IsToMake, WasCleared, WasSettled, load_tables, passed_load}
use Rattle.load_prompts.specs.Prompting.{AreToAskAbout, HasAskedAbout, MayGoOn, prompted_cut}
use Rattle.load_table.proofs.Others.{others_cancelled}
use Rattle.load_table.specs.Loads.{HasOneEach, KeepsOthers, cancelled, is_nav, ongoing_load}
use Rattle.load_table.specs.declared.load.Load.{Load}
use Rattle.log_model.proofs.Refl.{nat_eq_refl}
use Rattle.log_model.specs.After.{after}
use Rattle.log_model.specs.AfterPlaces.{places_sent}
use Rattle.log_model.specs.AfterRequests.{requests_sent}
use Rattle.log_model.specs.History.{History}
use Rattle.log_model.specs.Places.{aim_of, is_gone, is_traversal}
use Rattle.log_model.specs.Seen.{Asked, Seen, request_in, request_of}
use Rattle.log_model.specs.declared.job.Job.{Job}
use Rattle.log_model.specs.declared.job.Task.{Task}
use Rattle.log_model.specs.declared.job.Why.{Why}
use Rattle.log_model.specs.declared.request.Mode.TheVariants as modes
use Rattle.log_model.specs.declared.request.Mode.{Mode}
use Rattle.log_model.specs.declared.request.Request.TheVariants as requests
use Rattle.log_model.specs.declared.row_kind.RowKind.TheVariants as rows
use Rattle.log_model.specs.declared.row_kind.RowKind.{RowKind}
use Rattle.move_queue.specs.Queue.{Queue}
use Rattle.row_facts.specs.Owed.Owed.{owes_seen}
use Rattle.seen_facts.proofs.LoadTies.Begins.{found_nav}
use Rattle.seen_facts.proofs.LoadTies.Ends.{cancelled_none}
use Rattle.seen_facts.specs.LoadEnds.Standing.{is_reached}
use Rattle.seen_laws.proofs.Cuts.{log_cut}
use Rattle.seen_laws.proofs.InEvents.{log_more, now_is}
use Rattle.seen_laws.specs.InEvent.{InEvent, log_of, now_of, row_of}
use Rattle.std.proofs.Common.{Bool, List, None, Option, Some, [], ap, append-nil, eqb-true, false, map, refl, subst, sym, true, ℕ, ◌++◌, ◌==◌, ◌∙◌, ◌∷◌, ◌≡◌}
use Rattle.std.specs.Option.{option_map_or}
use Rattle.std.specs.Prelude.{option_and_then, option_map}
use Rattle.tab_doors.specs.AskingLoads.{IsAskingTied}
use Rattle.tab_doors.specs.declared.tables.Tables.{Tables}
use Rattle.tab_ids.specs.declared.DocId.{DocId}
use Rattle.tab_ids.specs.declared.NavId.{NavId}
use Rattle.tab_ids.specs.declared.ReqId.{ReqId}
use Rattle.tab_ids.specs.declared.StateId.{StateId}
use Rattle.tab_ids.specs.declared.Step.{Step}
use Rattle.tab_passed.specs.Passing.{without}
use Rattle.tab_prompts.proofs.Sparing.{new_none, spares_any}
use Rattle.tab_prompts.specs.Asking.{BeginsAsked}
use Rattle.tab_prompts.specs.Prompts.{is_open, is_waiting}
use Rattle.tab_prompts.specs.Sparing.{new_notes, spares}
use Rattle.tab_settles.proofs.PassedOn.{aim_is}
use Rattle.tab_settles.specs.PassedOn.{InPass, IsPassing, aim_in}
use Rattle.tab_settles.specs.Settling.{MakesServe, OrdersAreSound}
use Rattle.tab_stands.proofs.PassedOn.{reached_same}
use Rattle.tab_stands.specs.GoingOn.{GoesOn}
use Rattle.unasked_tab.proofs.Reordered.{AreAsOften}
use Rattle.unload_check.proofs.Stays.{others_ended}
use Rattle.unload_check.specs.Checks.{OpenCheck, after_all_deaths, ended, outcome_at, outcome_of}
use Rattle.unload_check.specs.declared.check.Check.TheVariants as checks
use Rattle.unload_check.specs.declared.check.Check.{Check}

-- the pass, at either stage
passing_of : (b : Bool) (p : InPass) (out : List RowKind) (t : Tables) (queue : Queue) (noted : List (StateId × ReqId)) (cause : Why) → StandsIn b p out t queue noted cause → IsPassing p out t
passing_of true p out t queue noted cause at = at.ready.passing
passing_of false p out t queue noted cause at = at.passing

module _ (w : InStage) (t : Tables) (at : IsCutAt w t) (nav : NavId) (load : Load) (its : ongoing_load nav t.asking ≡ Some load) (goes : outcome_at load.req t.checks ≡ Some checks.Go) (each : HasOneEach t.asking) where
  abbrev e : InEvent
  e = w.event

  passing : IsPassing (pass_in w) [] t
  passing = passing_of w.cleared (pass_in w) [] t w.queue w.noted w.cause at.stands

  tie : IsAskingTied e.checking (log_of e []) load
  tie = passing.work.asking.there nav load its

  here : IsAskingHere e t load
  here = at.loads nav load its

  may : MayGoOn (log_of e []) t.checks load.req tie.q
  may = here.goes tie.q tie.found goes

  abbrev mode : Mode
  mode = mode_in (log_of e []) load.req

  mode_is : mode_in (log_of e []) load.req ≡ tie.mode
  mode_is =
      ap (λ (o : Option Asked). option_map_or (λ (x : Asked). mode_of x.what) o modes.Auto) tie.found ∙ ap mode_of tie.what

  to_go : IsToGoOn e t load.req tie.q load.nav mode load.address load.replace load.state
  to_go =
      record {
        at = tie.found;
        what = tie.what ∙ ap (λ (m : Mode). requests.Load load.nav m load.address) (sym mode_is);
        ongoing = tie.ongoing;
        state_is = tie.state;
        replaces = tie.replace;
        on = tie.on;
        passed = may.passed;
        undue = may.undue;
        unnoted = may.unnoted;
        unheld = here.unheld;
        reached = here.reached;
        alone = here.apart;
      }

  cut_for : IsCutFor (pass_in w) t w.queue
  cut_for = by_stage w.cleared at.stands
    where
      by_stage : (b : Bool) → StandsIn b (pass_in w) [] t w.queue w.noted w.cause → IsCutFor (pass_in w) t w.queue
      by_stage true stands = cut_cleared (pass_in w) t w.queue w.noted w.cause at.begins at.makes at.sound stands
      by_stage false stands = cut_settled (pass_in w) t w.queue w.noted w.cause at.begins at.makes at.sound stands

  -- the load, in the event where it goes on
  abbrev pub lp : InLoadPass
  lp =
      load_on w.event (reqs_of (cancelled load.nav t.asking)) w.queue w.noted load.req load.nav (mode_in (log_of w.event []) load.req) load.address load.replace load.state

  nav_is : load.nav ≡ nav
  nav_is = found_nav nav t.asking load its

  own : ongoing_load load.nav t.asking ≡ Some load
  own = ap (λ (n : NavId). ongoing_load n t.asking) nav_is ∙ its

  rest_often : AreAsOften w.loads (load.req ∷ reqs_of (cancelled load.nav t.asking))
  rest_often r = times_out load.nav t.asking each load own r ∙ at.hand r

  gone : HasGoneOn lp (pass_in w) t
  gone =
      load_gone e w.loads t w.queue w.noted cut_for load.req tie.q load.nav mode load.address load.replace load.state to_go (reqs_of (cancelled load.nav t.asking)) rest_often

  -- what the first call asks
  pub asks_make : IsToMake (load_on w.event (reqs_of (cancelled load.nav t.asking)) w.queue w.noted load.req load.nav (mode_in (log_of w.event []) load.req) load.address load.replace load.state) (load_tables t (passed_load (load_on w.event (reqs_of (cancelled load.nav t.asking)) w.queue w.noted load.req load.nav (mode_in (log_of w.event []) load.req) load.address load.replace load.state)) (ended load.req t.checks))
  asks_make = gone.make

  -- ---- behind it

  module _ (u : Tables) (out : List RowKind) (past : IsPastLoad lp u out) (checks_is : u.checks ≡ ended load.req t.checks) (asking_is : u.asking ≡ cancelled load.nav t.asking) (others : KeepsOthers load.nav t.loads u.loads) (runs_is : u.running ≡ t.running) (goal_is : u.goal ≡ t.goal) where
    abbrev le : InEvent
    le = gone_on e load.req

    abbrev lpass : InPass
    lpass = record { event = le; loads = reqs_of (cancelled load.nav t.asking); hand = [] }

    stands_then : StandsIn w.cleared lpass out u w.queue w.noted w.cause
    stands_then = by_stage w.cleared at.stands
      where
        by_stage : (b : Bool) → StandsIn b (pass_in w) [] t w.queue w.noted w.cause → StandsIn b lpass out u w.queue w.noted w.cause
        by_stage true stands = past.cleared w.cause (subst (λ (r : Option ReqId). WasCleared lp r w.cause) (sym runs_is) (gone.cleared w.cause stands))
        by_stage false stands = past.settled w.cause (past.causes w.cause stands.may) (subst (λ (r : Option ReqId). WasSettled lp r) (sym runs_is) (gone.settled w.cause stands))

    begins_then : BeginsAsked le u.checks
    begins_then = subst (λ (l : List (ReqId × OpenCheck)). BeginsAsked le l) (sym checks_is) gone.begins

    -- the order leaves requests as they were
    abbrev job : Job
    job = past.makes_it.job

    log_then : log_of le out ≡ after (log_of e []) (row_of e (rows.Sent job))
    log_then =
        ap (λ (o : List RowKind). log_of le o) past.makes_it.is
        ∙ log_more le [] (rows.Sent job)
        ∙ ap (λ (s : Seen). after s (row_of e (rows.Sent job))) (log_cut e [] (without e.checking load.req) (due_beside e load.req))

    requests_then : (log_of le out).requests ≡ (log_of e []).requests
    requests_then =
        ap (λ (s : Seen). s.requests) log_then
        ∙ ap (λ (k : Task). requests_sent (log_of e []) job k (log_of e []).requests) past.makes_it.task

    request_then : (r : ReqId) → request_of (log_of le out) r ≡ request_of (log_of e []) r
    request_then r = ap (λ (l : List Asked). request_in l r) requests_then

    gone_then : (doc : DocId) → is_gone (log_of le out) doc ≡ is_gone (log_of e []) doc
    gone_then doc =
        ap (λ (s : Seen). is_gone s doc) log_then
        ∙ sent_gone_same (log_of e []) e.event e.actor job (subst IsServing (sym past.makes_it.task) tt) doc

    -- whose check waits still had one that waited
    waits_before : (r : ReqId) → is_waiting u.checks r ≡ true → is_waiting t.checks r ≡ true
    waits_before r waits = by_number (r.0 == load.req.0) refl
      where
        waits_ended : is_waiting (ended load.req t.checks) r ≡ true
        waits_ended = ap (λ (l : List (ReqId × OpenCheck)). is_waiting l r) (sym checks_is) ∙ waits

        by_number : (b : Bool) → (r.0 == load.req.0) ≡ b → is_waiting t.checks r ≡ true
        by_number true one =
            let none : is_waiting (ended load.req t.checks) r ≡ false = ap (λ (x : ReqId). is_waiting (ended load.req t.checks) x) (req_same r load.req one) ∙ ap (λ (o : Option OpenCheck). option_map_or is_open (option_map outcome_of o) false) (check_ended load.req t.checks) in
            let never : true ≡ false = sym waits_ended ∙ none in
            absurd cc
        by_number false apart =
            sym (ap (λ (o : Option OpenCheck). option_map_or is_open (option_map outcome_of o) false) (others_ended load.req t.checks r apart)) ∙ waits_ended

    -- no traversal's check waits
    none_waits : (r : ReqId) (x : Asked) → request_of (log_of le out) r ≡ Some x → is_traversal x.what ≡ true → is_waiting u.checks r ≡ true → ⊥
    none_waits r x found goes_ waits =
        let off : is_waiting t.checks r ≡ false = at.quiet r x (sym (request_then r) ∙ found) goes_ in
        let never : true ≡ false = sym (waits_before r waits) ∙ off in
        cc

    about : AreToAskAbout le out u.checks []
    about =
        record {
          apart = tt;
          under = λ r has. absurd has;
          all = λ r x found goes_ waits. absurd (none_waits r x found goes_ waits);
          waits = λ r x found goes_ waits. absurd (none_waits r x found goes_ waits);
        }

    -- what the second call asks
    pub asks_cut : IsPassing (record { event = gone_on w.event load.req; loads = reqs_of (cancelled load.nav t.asking); hand = [] }) out u × (BeginsAsked (gone_on w.event load.req) u.checks × AreToAskAbout (gone_on w.event load.req) out u.checks [])
    asks_cut = (passing_of w.cleared lpass out u w.queue w.noted w.cause stands_then, (begins_then, about))

    -- ---- behind that

    module _ (v : Tables) (new : List RowKind) (asked : HasAskedAbout (record { event = gone_on w.event load.req; loads = reqs_of (cancelled load.nav t.asking); hand = [] }) [] out new u v) where
      abbrev last : InEvent
      last = prompted_cut le out u.checks []

      -- the event goes on as that
      goes_on : GoesOn e new last
      goes_on =
          record {
            header = refl;
            start = refl;
            event = refl;
            actor = refl;
            own = refl;
            before = asked.goes.before ∙ ap (λ (l : List RowKind). l ++ (out ++ [])) (append-nil e.before) ∙ ap (λ (l : List RowKind). e.before ++ l) (sym asked.is);
          }

      -- the order discards nothing, so the table is as it was
      undiscarded : discarded_by (rows.Sent job) ≡ None
      undiscarded =
          subst (λ (k : Task). discarded_by (rows.Sent (record job { task = k })) ≡ None) (sym past.makes_it.task) refl

      abbrev first_told : Told
      first_told = record { checks = u.checks; run = [] }

      told_is : told_by le.ran u.checks out ≡ first_told
      told_is =
          ap (λ (ran : List DocId). told_by ran u.checks out) at.ran
          ∙ ap (λ (o : List RowKind). told_by [] u.checks o) past.makes_it.is
          ∙ ap (λ (o : Option DocId). tell_for first_told o) undiscarded
          ∙ ap (λ (l : List (ReqId × OpenCheck)). let x : Told = record { checks = l; run = [] } in x) (told_none u.checks)

      told_same : told_all le.ran u.checks out ≡ u.checks
      told_same = ap (λ (x : Told). after_all_deaths x.run x.checks) told_is ∙ told_none u.checks

      checks_same : v.checks ≡ u.checks
      checks_same = ap (λ (x : Tables). x.checks) asked.tables ∙ told_same

      asking_last : v.asking ≡ cancelled load.nav t.asking
      asking_last = ap (λ (x : Tables). x.asking) asked.tables ∙ asking_is

      loads_same : v.loads ≡ u.loads
      loads_same = ap (λ (x : Tables). x.loads) asked.tables

      reqs_last : reqs_of (cancelled load.nav t.asking) ≡ reqs_of v.asking
      reqs_last = ap reqs_of (sym asking_last)

      log_last : log_of last [] ≡ log_of le out
      log_last =
          log_cut le (out ++ []) le.checking (owes_seen le out) ∙ ap (λ (o : List RowKind). log_of le o) (append-nil out)

      stands_last : StandsIn w.cleared (record { event = last; loads = reqs_of v.asking; hand = [] }) [] v w.queue w.noted w.cause
      stands_last =
          subst (λ (l : List ReqId). StandsIn w.cleared (record { event = last; loads = l; hand = [] }) [] v w.queue w.noted w.cause) reqs_last (by_stage w.cleared stands_then)
        where
          by_stage : (b : Bool) → StandsIn b lpass out u w.queue w.noted w.cause → StandsIn b (record { event = last; loads = reqs_of (cancelled load.nav t.asking); hand = [] }) [] v w.queue w.noted w.cause
          by_stage true stands = asked.cleared w.queue w.noted w.cause stands
          by_stage false stands = asked.settled w.queue w.noted w.cause stands

      quiet_last : NoneWaits last v
      quiet_last r x found goes_ = by_waits (is_waiting v.checks r) refl
        where
          by_waits : (b : Bool) → is_waiting v.checks r ≡ b → b ≡ false
          by_waits false is = refl
          by_waits true is =
              absurd (none_waits r x (ap (λ (s : Seen). request_of s r) (sym log_last) ∙ found) goes_ (ap (λ (l : List (ReqId × OpenCheck)). is_waiting l r) (sym checks_same) ∙ is))

      -- ---- the other loads in their checks

      places_last : (now_of le out).places ≡ (now_of e []).places
      places_last =
          ap (λ (s : Seen). s.places) (now_is le out)
          ∙ ap (λ (s : Seen). s.places) log_then
          ∙ ap (λ (k : Task). places_sent (log_of e []) job k) past.makes_it.task
          ∙ sym (ap (λ (s : Seen). s.places) (now_is e []))

      history_last : (now_of le out).history ≡ (now_of e []).history
      history_last =
          ap (λ (s : Seen). s.history) (now_is le out) ∙ ap (λ (s : Seen). s.history) log_then ∙ sym (ap (λ (s : Seen). s.history) (now_is e []))

      aim_last : aim_of (now_of le out) ≡ aim_of (now_of e [])
      aim_last =
          let p = passing_of w.cleared lpass out u w.queue w.noted w.cause stands_then in
          aim_is (now_of le out) u.running p.going.tab.asked u.goal p.work.goal
          ∙ ap (λ (h : History). aim_in h u.running u.goal) history_last
          ∙ ap (λ (r : Option ReqId). aim_in (now_of e []).history r u.goal) runs_is
          ∙ ap (λ (k : Step). aim_in (now_of e []).history t.running k) goal_is
          ∙ sym (aim_is (now_of e []) t.running passing.going.tab.asked t.goal passing.work.goal)

      loads_last : AreAskingHere last v
      loads_last nav2 load2 its2 = by_nav (is_nav nav2 load.nav) refl
        where
          at_before : ongoing_load nav2 (cancelled load.nav t.asking) ≡ Some load2
          at_before = ap (λ (l : List Load). ongoing_load nav2 l) (sym asking_last) ∙ its2

          others_too : (n : NavId) → is_nav nav2 load.nav ≡ false → n ≡ nav2 → is_nav n load.nav ≡ false
          others_too n apart is = ap (λ (k : NavId). is_nav k load.nav) is ∙ apart

          here_of : is_nav nav2 load.nav ≡ false → ongoing_load nav2 t.asking ≡ Some load2 → IsAskingHere last v load2
          here_of apart was =
              let old = at.loads nav2 load2 was in
              let tie2 = passing.work.asking.there nav2 load2 was in
              let navs : load2.nav ≡ nav2 = found_nav nav2 t.asking load2 was in
              record {
                reached = subst (λ (s : Seen). is_reached s load2.nav ≡ true) (sym asked.seen) (reached_same (now_of e []) (now_of le out) places_last history_last aim_last load2.nav old.reached);
                apart = ap (λ (l : List Load). ongoing_load load2.nav l) loads_same ∙ others load2.nav (others_too load2.nav apart navs) ∙ old.apart;
                unheld = old.unheld;
                goes = λ q found goes_. (let other = apart_req tie2 apart navs in
                    subst (λ (s : Seen). MayGoOn s v.checks load2.req q) (sym log_last)
                    (with_checks (goes_same (log_of e []) (log_of le out) gone_then t.checks load2.req q
                    (old.goes q (sym (request_then load2.req) ∙ ap (λ (s : Seen). request_of s load2.req) (sym log_last) ∙ found) (sym (outcome_last load2.req other) ∙ goes_))) goes_));
              }
            where
              apart_req : IsAskingTied e.checking (log_of e []) load2 → is_nav nav2 load.nav ≡ false → load2.nav ≡ nav2 → (load2.req.0 == load.req.0) ≡ false
              apart_req tie2 apart navs = by_number (load2.req.0 == load.req.0) refl
                where
                  by_number : (b : Bool) → (load2.req.0 == load.req.0) ≡ b → b ≡ false
                  by_number false is = refl
                  by_number true is =
                      let both : Some tie2.q ≡ Some tie.q = sym tie2.found ∙ ap (request_of (log_of e [])) (req_same load2.req load.req is) ∙ tie.found in
                      let one : tie2.q ≡ tie.q = cc in
                      let whats : requests.Load load2.nav tie2.mode load2.address ≡ requests.Load load.nav tie.mode load.address = sym tie2.what ∙ ap (λ (x : Asked). x.what) one ∙ tie.what in
                      let same : load2.nav ≡ load.nav = cc in
                      let never : true ≡ false = sym (nat_eq_refl load.nav.0) ∙ ap (λ (x : NavId). x.0 == load.nav.0) (sym (sym navs ∙ same)) ∙ apart in
                      absurd cc

              outcome_last : (r : ReqId) → (r.0 == load.req.0) ≡ false → outcome_at r v.checks ≡ outcome_at r t.checks
              outcome_last r other =
                  ap (λ (l : List (ReqId × OpenCheck)). outcome_at r l) (checks_same ∙ checks_is) ∙ ap (λ (o : Option OpenCheck). option_map outcome_of o) (others_ended load.req t.checks r other)

              with_checks : {s : Seen} {q : Asked} → MayGoOn s t.checks load2.req q → outcome_at load2.req v.checks ≡ Some checks.Go → MayGoOn s v.checks load2.req q
              with_checks old goes_ =
                  record { passed = old.passed; undue = old.undue; unnoted = ap (λ (o : Option Check). option_and_then prompt_of o) goes_ }

          by_nav : (b : Bool) → is_nav nav2 load.nav ≡ b → IsAskingHere last v load2
          by_nav false apart = here_of apart (sym (others_cancelled load.nav t.asking nav2 apart) ∙ at_before)
          by_nav true is =
              let number : nav2.0 ≡ load.nav.0 = eqb-true nav2.0 load.nav.0 is in
              let one : nav2 ≡ load.nav = ap (λ (k : ℕ). let x : NavId = record { 0 = k } in x) number in
              let never : None ≡ Some load2 = sym (cancelled_none load.nav t.asking) ∙ ap (λ (x : NavId). ongoing_load x (cancelled load.nav t.asking)) (sym one) ∙ at_before in
              absurd cc

      -- ---- all of it

      cut_last : IsCutAt (stage_on w last (reqs_of v.asking)) v
      cut_last =
          record {
            stands = stands_last;
            begins = asked.begins;
            ran = refl;
            makes = subst MakesServe (sym asked.seen) past.makes;
            sound = subst OrdersAreSound (sym asked.seen) past.sound;
            quiet = quiet_last;
            hand = λ r. refl;
            loads = loads_last;
          }

      -- the table noted nothing more, so nothing is to be spared
      spared : (more : List RowKind) → spares (new_notes (told_by le.ran u.checks out).checks (told_all le.ran u.checks out)) (map (row_of le) more) ≡ true
      spared more =
          ap (λ (docs : List DocId). spares docs (map (row_of le) more)) none_new ∙ spares_any (map (row_of le) more)
        where
          quiet : (r : ReqId) → ran_more none_ran (todo_of u.checks) (todo_of u.checks) r ≡ false
          quiet r = by_todo (todo_of u.checks r) refl
            where
              by_todo : (o : Option DocId) → todo_of u.checks r ≡ o → ran_more none_ran (todo_of u.checks) (todo_of u.checks) r ≡ false
              by_todo None is = rw is refl
              by_todo (Some doc) is = rw is refl

          none_new : new_notes (told_by le.ran u.checks out).checks (told_all le.ran u.checks out) ≡ []
          none_new =
              ap (λ (l : List (ReqId × OpenCheck)). new_notes l (told_all le.ran u.checks out)) (ap (λ (x : Told). x.checks) told_is)
              ∙ ap (λ (l : List (ReqId × OpenCheck)). new_notes u.checks l) told_same
              ∙ new_none u.checks u.checks quiet

      last_is : last ≡ passed_cut w.event load.req new t.checks
      last_is =
          ap (λ (o : List RowKind). prompted_cut le o u.checks []) (sym (asked.is ∙ append-nil out))
          ∙ ap (λ (c : List (ReqId × OpenCheck)). prompted_cut le new c []) checks_is

      pub let_pass : HasLetPass w nav t v new
      let_pass =
          record {
            load = load;
            its = its;
            at = last;
            is = last_is;
            checks = checks_same ∙ checks_is;
            goes = goes_on;
            cut = cut_last;
            asking = asking_last ∙ ap (λ (n : NavId). cancelled n t.asking) nav_is;
            loose = λ loose. asked.loose (past.loose (gone.loose loose));
            wanted = λ more ends. asked.wanted more (spared more) ends;
          }
