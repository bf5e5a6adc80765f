-- A load passes its check in the midst of an event: as in the log without questions it has begun then, the tables go on with it, the event is cut there, and its document is to be made.
use Rattle.asking_facts.proofs.Standing.{gone_stands, stands_wanting}
use Rattle.asking_facts.specs.Prompting.{NoneAnsweredEarly}
use Rattle.asking_facts.specs.Standing.{StandsAsked}
use Rattle.check_facts.proofs.Tables.{check_ended}
use Rattle.checking_facts.proofs.Grown.{req_same}
use Rattle.checking_facts.specs.Checks.{SameBut}
use Rattle.leave_facts.proofs.Carried.{AreLeftDuly}
use Rattle.load_doors.specs.Tied.{AreTied}
use Rattle.load_midway.proofs.Debts.{debts_beside, loose_beside, owed_beside}
use Rattle.load_midway.specs.Midway.{HasGoneOn, IsCutFor, IsToGoOn, gone_on, load_on}
use Rattle.load_midway.specs.Owing.{due_beside}
use Rattle.load_passed.proofs.Asking.{asking_leaves}
use Rattle.load_passed.proofs.Begun as begun
use Rattle.load_passed.proofs.Fresh.{fresh_state}
use Rattle.load_passed.proofs.Queues.{left_then}
use Rattle.load_passed.specs.Passing.{GoesOnBeside, InLoadPass, IsToMake, IsUnbegun, WasCleared, WasSettled, load_tables, passed_load}
use Rattle.log_model.proofs.Refl.{nat_eq_refl}
use Rattle.log_model.specs.Causes.{denial_at_acceptance}
use Rattle.log_model.specs.Checks.{due_prompt}
use Rattle.log_model.specs.Equal.{has_req}
use Rattle.log_model.specs.Once.{loads}
use Rattle.log_model.specs.Places.{aim_of, all_stand, has_passed, is_load, is_traversal, is_under_way}
use Rattle.log_model.specs.Seen.{Asked, Seen, request_of}
use Rattle.log_model.specs.declared.job.Why.{Why}
use Rattle.log_model.specs.declared.request.Mode.{Mode}
use Rattle.log_model.specs.declared.request.Request.{Request}
use Rattle.log_model.specs.declared.row_kind.LogRow.{LogRow}
use Rattle.log_model.specs.declared.row_kind.RowKind.{RowKind}
use Rattle.move_queue.specs.Queue.{Queue}
use Rattle.row_facts.specs.FrameRows.Lawful.{has_traversed, held_at_first}
use Rattle.row_facts.specs.Owed.Owed.{IsLoose, IsOwed}
use Rattle.seen_facts.proofs.Coord.Held.{held_alike}
use Rattle.seen_facts.proofs.Each.Courses.{was_asked}
use Rattle.seen_facts.specs.Coord.Leading.{held_back}
use Rattle.seen_facts.specs.LoadTies.Tying.{HasLoad}
use Rattle.seen_laws.proofs.Cuts.{log_cut}
use Rattle.seen_laws.proofs.InEvents.{now_is}
use Rattle.seen_laws.specs.InEvent.{InEvent, cut, log_of, now_of, row_of}
use Rattle.seen_laws.specs.Unasked.{unasked, unasked_request, unbegun, without_asks}
use Rattle.std.proofs.Common.{Bool, List, None, Option, Some, [], ap, append-nil, cond, false, length, map, refl, subst, sym, true, ℕ, ◌&&◌, ◌++◌, ◌==◌, ◌∙◌, ◌∷◌, ◌≡◌, ◌⊎◌}
use Rattle.std.proofs.lemmas.Bool.{and_parts}
use Rattle.std.specs.Option.{option_map_or}
use Rattle.std.specs.Prelude.{is_none, nat_lt, option_map}
use Rattle.tab_cuts.proofs.Owed.{loose_wanting, owed_wanting}
use Rattle.tab_cuts.proofs.Works.{calm_beside, work_wanting}
use Rattle.tab_cuts.specs.Cut.{TiesCut}
use Rattle.tab_doors.specs.AskingLoads.{TiesAsking}
use Rattle.tab_doors.specs.Working.{IsAtWork, IsToCome}
use Rattle.tab_doors.specs.declared.tables.Tables.{Tables}
use Rattle.tab_facts.proofs.TabGoing.Counts.{as_many}
use Rattle.tab_facts.specs.Frame.Lasting.{Wish, wish}
use Rattle.tab_ids.specs.declared.NavId.{NavId}
use Rattle.tab_ids.specs.declared.ReqId.{ReqId}
use Rattle.tab_ids.specs.declared.StateId.{StateId}
use Rattle.tab_passed.proofs.Who.{without_off, without_same}
use Rattle.tab_passed.specs.Passing.{without}
use Rattle.tab_prompts.specs.Asking.{BeginsAsked, WasOpen, are_unheard}
use Rattle.tab_prompts.specs.Prompts.{is_open, is_waiting}
use Rattle.tab_settles.specs.Held.{HasCleared}
use Rattle.tab_settles.specs.PassedOn.{HasPassed, HasQueue}
use Rattle.tab_settles.specs.Settling.{HasSettled, IsQueueing, IsWaiting, MayRelease}
use Rattle.tab_stands.proofs.PassedOn.{mades_same, queue_over}
use Rattle.unasked.proofs.Passings.{begun_as, passed_unasked}
use Rattle.unasked.proofs.Readings.{request_read}
use Rattle.unasked_dues.specs.Checking.{AreNumbered, NoStepChecks, NonePasses}
use Rattle.log_model.specs.Queue.{is_step_under_way, is_traverse}
use Rattle.std.specs.List.{list_any}
use Rattle.unasked_tab.proofs.Begun.{with_begun}
use Rattle.unasked_tab.proofs.Reordered.{AreAsOften}
use Rattle.unasked_tab.specs.Passing.{IsFreshState}
use Rattle.unload_check.proofs.Stays.{others_ended}
use Rattle.unload_check.specs.Checks.{OpenCheck, check_of, ended, outcome_of}

-- one that is ongoing has begun, and is open
going_parts : (q : Asked) → (is_under_way q && is_load q.what) ≡ true → (q.is_started ≡ true) × (q.ending ≡ None)
going_parts q ongoing =
    let parts = and_parts q.is_started (is_none q.ending) (and_parts (is_under_way q) (is_load q.what) ongoing).0 in
    (parts.0, none_is q.ending parts.1)
  where
    none_is : {A : Type 0} (o : Option A) → is_none o ≡ true → o ≡ None
    none_is None is = refl
    none_is (Some x) is = absurd cc

-- whether a check waits
abbrev waits_by : Option OpenCheck → Bool
waits_by o = option_map_or is_open (option_map outcome_of o) false

module _ (e : InEvent) (hand : List ReqId) (t : Tables) (queue : Queue) (blame : List (StateId × ReqId)) (cut_for : IsCutFor (record { event = e; loads = hand; hand = [] }) t queue) (req : ReqId) (q : Asked) (nav : NavId) (mode : Mode) (address : List ℕ) (replace : Bool) (state : StateId) (to_go : IsToGoOn e t req q nav mode address replace state) (rest : List ReqId) (as_often : AreAsOften hand (req ∷ rest)) where
  abbrev log : Seen
  log = log_of e []

  abbrev s : Seen
  s = now_of e []

  abbrev at : InEvent
  at = gone_on e req

  abbrev passed : ReqId → Bool
  passed = without e.checking req

  same : SameBut req e.checking passed
  same = without_same e.checking req

  off : passed req ≡ false
  off = without_off e.checking req

  -- its pass, before it goes on and after
  abbrev lp : InLoadPass
  lp = load_on e rest queue blame req nav mode address replace state

  w : IsAtWork e [] t
  w = cut_for.passing.work

  -- what is known where the event stands
  stands_before : StandsAsked (IsToCome None e []) (λ (r : ReqId). false) e [] (record { checks = t.checks; run = e.ran })
  stands_before =
      record {
        pass = w.lawful;
        asked = cut_for.begins.asked;
        checks = w.checks;
        none = λ r x at_ runs goes on out. cut_for.begins.calm r x at_ runs goes on;
        notes = cut_for.begins.notes;
      }

  numbered : AreNumbered log
  numbered = w.checks.numbered

  tied_s : AreTied s t
  tied_s =
      record { holds = w.holds; runs = w.runs; goal = w.goal; few = w.few; initial = w.initial; loads = w.loads; kept = w.kept }

  -- ---- the load

  parts : (q.is_started ≡ true) × (q.ending ≡ None)
  parts = going_parts q to_go.ongoing

  starts : q.is_started ≡ true
  starts = parts.0

  -- in the log without questions it hasn't begun before
  abbrev before : Asked
  before = unbegun q

  found : request_of s req ≡ Some before
  found =
      ap (λ (x : Seen). request_of x req) (now_is e [])
      ∙ request_read e.checking log req
      ∙ ap (λ (o : Option Asked). option_map (unasked_request e.checking) o) to_go.at
      ∙ ap (λ (b : Bool). let o : Option Asked = Some (cond b (unbegun q) (without_asks q)) in o) (ap e.checking (numbered req q to_go.at) ∙ to_go.on)

  fresh : IsFreshState s state
  fresh =
      subst (λ (x : Seen). IsFreshState x state) (sym (now_is e [])) (fresh_state e.checking log w.checks req q to_go.at to_go.on to_go.ongoing state to_go.state_is)

  un : IsUnbegun lp hand s t before
  un =
      record {
        going = cut_for.passing.going;
        tied = tied_s;
        hand = as_often;
        there = found;
        what = to_go.what;
        open_ = parts.1;
        unstarted = refl;
        unsent = (w.checks.checks req q to_go.at to_go.on).unsent;
        fresh = record { numbered = fresh.numbered; unheld = fresh.unheld; undocumented = fresh.undocumented; free = fresh.free };
        reached = to_go.reached;
        alone = to_go.alone;
      }

  beside : GoesOnBeside lp t
  beside =
      record {
        rests = cut_for.passing.rests;
        few = cut_for.passing.few;
        queued = cut_for.queueing.queued;
        live = cut_for.live;
        theirs = cut_for.theirs;
        makes = cut_for.makes;
        sound = cut_for.sound;
        moved = cut_for.moved;
        late = cut_for.late;
      }

  -- ---- then

  -- it has
  abbrev n : Seen
  n = with_begun s req q

  was : unasked passed log ≡ n
  was =
      passed_unasked e.checking passed log req q to_go.at numbered off same ∙ ap (λ (x : Seen). with_begun x req q) (sym (now_is e []))

  now : now_of at [] ≡ n
  now = now_is at [] ∙ ap (unasked passed) (log_cut e [] passed (due_beside e req)) ∙ was

  -- what holds of it holds of what the event has come to then
  over : (P : Seen → Type 0) → P n → P (now_of at [])
  over P holds = subst P (sym now) holds

  -- and the log is as it was
  log_same : (P : Seen → Type 0) → P log → P (log_of at [])
  log_same P holds = subst P (sym (log_cut e [] passed (due_beside e req))) holds

  abbrev u : Tables
  u = load_tables t (passed_load lp) (ended req t.checks)

  -- ---- its check ends

  -- what the rows before the cut wanted of those behind
  abbrev wants : List LogRow → Bool
  wants = (cut e [] passed (due_beside e req)).wants

  stands : StandsAsked (IsToCome None at []) (λ (r : ReqId). false) at [] (record { checks = ended req t.checks; run = e.ran })
  stands =
      stands_wanting (IsToCome None e []) (λ (r : ReqId). false) (cut e [] passed (due_beside e req)) [] (record { checks = ended req t.checks; run = e.ran }) wants e.ran
      (gone_stands (IsToCome None e []) (λ (r : ReqId). false) (λ (r : ReqId). false) e [] (record { checks = t.checks; run = e.ran }) stands_before req (λ r apart none. refl) passed (due_beside e req) same off has undue to_go.unnoted)
    where
      undue : (x : Asked) → request_of log req ≡ Some x → due_prompt log x ≡ None
      undue x found_ =
          let both : Some q ≡ Some x = sym to_go.at ∙ found_ in
          let one : q ≡ x = cc in
          subst (λ (y : Asked). due_prompt log y ≡ None) one to_go.undue

      has : (x : Asked) → request_of log req ≡ Some x → has_passed log x ≡ true
      has x found_ =
          let both : Some q ≡ Some x = sym to_go.at ∙ found_ in
          let one : q ≡ x = cc in
          subst (λ (y : Asked). has_passed log y ≡ true) one to_go.passed

  calm : NonePasses passed (log_of at [])
  calm = calm_beside (IsToCome None at []) at [] (record { checks = ended req t.checks; run = e.ran }) stands

  tied_n : AreTied n u
  tied_n = begun.tied_then lp hand s t before un q starts to_go.state_is to_go.replaces (ended req t.checks)

  ties : TiesCut None (unasked passed log) u
  ties =
      subst (λ (x : Seen). TiesCut None x u) (sym was) (record {
        holds = tied_n.holds;
        runs = tied_n.runs;
        goal = tied_n.goal;
        few = tied_n.few;
        initial = tied_n.initial;
        loads = tied_n.loads;
        kept = tied_n.kept;
      })

  -- the load is none of those in their checks any more
  asking : TiesAsking passed log u.asking
  asking = asking_leaves e.checking passed req off same t.asking nav its log w.asking
    where
      of_nav : loads nav q.what ≡ true
      of_nav = ap (λ (x : Request). loads nav x) to_go.what ∙ nat_eq_refl nav.0

      its : HasLoad t.asking nav req
      its = w.asking.all req q nav to_go.at to_go.on to_go.ongoing of_nav

  -- the coordinator goes on working
  work : IsAtWork at [] u
  work =
      work_wanting None e [] passed (due_beside e req) u (λ (r : ReqId). false) wants e.ran w.own w.worker w.numbered w.sole (debts_beside e req passed same off to_go.on w.debts) stands ties asking calm

  load : is_load q.what ≡ true
  load = ap is_load to_go.what

  owed : IsOwed (gone_on e req) []
  owed =
      owed_wanting (cut e [] passed (due_beside e req)) wants e.ran (owed_beside e req passed same off to_go.on numbered q to_go.at load cut_for.passing.owed)

  loose : IsLoose e [] → IsLoose (gone_on e req) []
  loose is =
      loose_wanting (cut e [] passed (due_beside e req)) wants e.ran (loose_beside e req passed same off to_go.on numbered q to_go.at load is)

  -- ---- what waits, and what is held back

  wishes_back : (r : ReqId) (x : Asked) → request_of n r ≡ Some x → (y : Asked) × (request_of s r ≡ Some y) × (wish y ≡ wish x)
  wishes_back r x found_ =
      was_asked wish s.requests n.requests (begun.wishes lp hand s t before un q starts to_go.state_is to_go.replaces) r x found_

  waits : IsWaiting at []
  waits =
      record {
        parked = over (λ (x : Seen). (x.parked ≡ held_at_first e) ⊎ (x.parked ≡ [])) cut_for.queueing.waits.parked;
        apart = λ r x has found_. (let y = wishes_back r x (ap (λ (k : Seen). request_of k r) (sym now) ∙ found_) in ap (λ (k : Wish). is_traversal k.what) (sym y.2) ∙ cut_for.queueing.waits.apart r y.0 has y.1);
        early = λ r x joined found_. (let y = wishes_back r x (ap (λ (k : Seen). request_of k r) (sym now) ∙ found_) in
            subst (λ (k : Wish). denial_at_acceptance e.start k.what ≡ None ⊎ (nat_lt (length e.start.requests) r.0 ≡ false)) y.2
            (cut_for.queueing.waits.early r y.0 (ap (λ (k : Seen). has_req k.joined r) (sym now) ∙ joined) y.1));
      }

  parked_same : (now_of at []).parked ≡ s.parked
  parked_same = ap (λ (x : Seen). x.parked) now

  traversed : has_traversed at [] ≡ has_traversed e []
  traversed =
      ap (λ (l : List RowKind). list_any is_traverse (map (row_of e) l ++ [])) (append-nil e.before)

  stood : all_stand (now_of at []) (aim_of (now_of at [])) ≡ all_stand s (aim_of s)
  stood =
      ap (λ (x : Seen). all_stand x (aim_of x)) now
      ∙ ap (λ (k : ℕ). all_stand s k) (begun.aim_then lp hand s t before un q starts to_go.state_is to_go.replaces)

  releases : MayRelease e [] → MayRelease at []
  releases may =
      record {
        by_coord = may.by_coord;
        takes = may.takes;
        many = ap (λ (x : Seen). length x.requests) now ∙ as_many s.requests req (begun_as q) ∙ may.many;
        old = λ r has. may.old r (ap (λ (x : List ReqId). has_req x r) (sym parked_same) ∙ has);
      }

  queueing : IsQueueing (record { event = at; loads = rest; hand = [] }) [] u queue
  queueing =
      record {
        waits = waits;
        queued = over (λ (x : Seen). HasQueue x t.running queue.waiting) (queue_over s n (left_then lp hand s t before un q starts to_go.state_is to_go.replaces) t.running queue.waiting cut_for.queueing.queued);
        parked = cut_for.queueing.parked ∙ sym (held_alike s.requests n.requests s.parked (mades_same s n (begun.wishes lp hand s t before un q starts to_go.state_is to_go.replaces))) ∙ ap (λ (x : Seen). held_back x.requests x.parked) (sym now);
        held = λ none. parked_same ∙ cut_for.queueing.held none;
        over = λ has. parked_same ∙ cut_for.queueing.over (sym traversed ∙ has);
        releasing = λ some all. releases (cut_for.queueing.releasing (λ none. some (parked_same ∙ none)) (sym stood ∙ all));
      }

  -- ---- its document is to be made

  make : IsToMake lp u
  make =
      record {
        loads = hand;
        t = t;
        p = before;
        unbegun = un;
        beside = beside;
        unheld = to_go.unheld;
        q = q;
        starts = starts;
        state_is = to_go.state_is;
        replaces = to_go.replaces;
        tables = refl;
        now = now;
        work = work;
        owed = owed;
        loose = λ all. loose (cut_for.passing.loose (sym stood ∙ all));
        duly = log_same AreLeftDuly cut_for.passing.duly;
        queueing = queueing;
        header = cut_for.header;
      }

  -- ---- what is known of its checks

  nobody : (r : ReqId) → request_of log r ≡ None → check_of r (ended req t.checks) ≡ None
  nobody r none = by_number (r.0 == req.0) refl
    where
      by_number : (b : Bool) → (r.0 == req.0) ≡ b → check_of r (ended req t.checks) ≡ None
      by_number true one = ap (λ (x : ReqId). check_of x (ended req t.checks)) (req_same r req one) ∙ check_ended req t.checks
      by_number false apart = others_ended req t.checks r apart ∙ cut_for.begins.there r none

  -- whose check waits still had one that waited
  waits_before : (r : ReqId) → is_waiting (ended req t.checks) r ≡ true → is_waiting t.checks r ≡ true
  waits_before r waits_ = by_number (r.0 == req.0) refl
    where
      by_number : (b : Bool) → (r.0 == req.0) ≡ b → is_waiting t.checks r ≡ true
      by_number true one =
          let none : is_waiting (ended req t.checks) r ≡ false = ap (λ (x : ReqId). is_waiting (ended req t.checks) x) (req_same r req one) ∙ ap waits_by (check_ended req t.checks) in
          let never : true ≡ false = sym waits_ ∙ none in
          absurd cc
      by_number false apart = sym (ap waits_by (others_ended req t.checks r apart)) ∙ waits_

  begins_then : BeginsAsked (gone_on e req) (ended req t.checks)
  begins_then =
      record {
        asked = stands.asked;
        calm = calm;
        notes = stands.notes;
        unanswered = log_same NoneAnsweredEarly cut_for.begins.unanswered;
        opens = log_same (λ (x : Seen). (r : ReqId) (y : Asked) → request_of x r ≡ Some y → is_waiting (ended req t.checks) r ≡ true → WasOpen e.start r ⊎ (are_unheard y.asks ≡ true)) (λ r y at_ waits_. cut_for.begins.opens r y at_ (waits_before r waits_));
        there = log_same (λ (x : Seen). (r : ReqId) → request_of x r ≡ None → check_of r (ended req t.checks) ≡ None) nobody;
        finished = log_same (λ (x : Seen). x.just_finished ≡ None) cut_for.begins.finished;
      }

  -- ---- how the tab was

  was_settled : (cause : Why) → HasSettled (record { event = e; loads = hand; hand = [] }) [] t queue blame cause → WasSettled lp t.running
  was_settled cause at_ =
      record { passed = passed_on at_.passed; strays = at_.strays; served = at_.served; told = at_.told; calm = at_.calm }
    where
      passed_on : HasPassed e s → HasPassed at s
      passed_on p_ =
          record {
            walked = record {
              since = p_.walked.since;
              unwoken = p_.walked.unwoken;
              still = p_.walked.still;
              were = p_.walked.were;
              parents = p_.walked.parents;
              loads = p_.walked.loads;
            };
            held = p_.held;
            takers = p_.takers;
            rows_ = p_.rows_;
          }

  -- a document may be discarded still
  free_on : NoStepChecks e.checking log → NoStepChecks passed (log_of at [])
  free_on free = log_same (λ (x : Seen). NoStepChecks passed x) (λ r x found_ in_. by_number r x found_ in_ (r.0 == req.0) refl)
    where
      by_number : (r : ReqId) (x : Asked) → request_of log r ≡ Some x → passed r ≡ true → (b : Bool) → (r.0 == req.0) ≡ b → is_step_under_way x ≡ false
      by_number r x found_ in_ true is =
          let never : true ≡ false = sym in_ ∙ ap passed (req_same r req is) ∙ off in
          absurd cc
      by_number r x found_ in_ false apart = free r x found_ (sym (same r apart) ∙ in_)

  was_cleared : (cause : Why) → HasCleared false (record { event = e; loads = hand; hand = [] }) [] t queue blame cause → WasCleared lp t.running cause
  was_cleared cause at_ =
      record {
        ready = record {
          open_ = record {
            may = at_.ready.open_.may;
            since = at_.ready.open_.since;
            unwoken = at_.ready.open_.unwoken;
            still = at_.ready.open_.still;
            moves = at_.ready.open_.moves;
            leavers = at_.ready.open_.leavers;
            were = at_.ready.open_.were;
            parents = at_.ready.open_.parents;
            held = at_.ready.open_.held;
            takers = at_.ready.open_.takers;
          };
          loads = at_.ready.loads;
          frees = λ nav place placed need epoch. free_on (at_.ready.frees nav place placed need epoch);
          blamed = at_.ready.blamed;
          calm = at_.ready.calm;
        };
        stand = at_.stand;
        rows_ = at_.rows_;
        strays = at_.strays;
      }

  -- ---- all of it

  pub load_gone : HasGoneOn (load_on e rest queue blame req nav mode address replace state) (record { event = e; loads = hand; hand = [] }) t
  load_gone = record { make = make; begins = begins_then; loose = loose; settled = was_settled; cleared = was_cleared }
