-- A document was made and discarded at once: a pass may follow.
use Rattle.row_facts.proofs.Owed.Ends.{loose_first, loose_more}
use Rattle.row_facts.proofs.Owed.Rows.{sent_lasts}
use Rattle.row_facts.specs.Owed.Owed.{IsLoose}
use Rattle.load_doors.proofs.Starts.{requests_start}
use Rattle.log_model.specs.Queue.{is_traverse}
use Rattle.seen_facts.specs.Asked.Asking.{ArePlain}
use Rattle.seen_facts.specs.Coord.Leading.{held_back}
use Rattle.tab_facts.specs.Frame.Lasting.{wish}
use Rattle.row_facts.specs.FrameRows.Lawful.{has_traversed}
use Rattle.tab_facts.specs.Calm.Calm.{CalmUnless, HasUsable, IsCalmYet}
use Rattle.seen_facts.specs.Load.Loading.{look}
use Rattle.log_model.specs.ActsAtOnce.{is_ready_load}
use Rattle.log_model.specs.Causes.{takes_report}
use Rattle.log_model.specs.Equal.{has_req, holds}
use Rattle.log_model.specs.Orders.{is_usable}
use Rattle.log_model.specs.Places.{is_ongoing_load}
use Rattle.log_model.specs.Seen.{Asked, Document, Seen, request_in}
use Rattle.log_model.specs.declared.job.Job.{Job}
use Rattle.log_model.specs.declared.job.Why.{Why}
use Rattle.log_model.specs.declared.outcome.Outcome.{Outcome}
use Rattle.log_model.specs.declared.row_kind.RowKind.{RowKind}
use Rattle.move_queue.specs.Queue.{Queue}
use Rattle.seen_laws.proofs.Sendings.{both}
use Rattle.seen_laws.specs.InEvent.{InEvent, OwesNothing, now_of, row_of}
use Rattle.std.proofs.Common.{Bool, List, None, Option, Some, [], ap, false, inl, length, refl, subst, sym, true, ℕ, ◌∙◌, ◌∷◌, ◌≡◌, map, ◌++◌, ◌≤◌}
use Rattle.std.proofs.lemmas.Bool.{and_parts}
use Rattle.std.specs.List.{list_any}
use Rattle.std.specs.Prelude.{option_map}
use Rattle.tab_doors.specs.Orders.{order_to}
use Rattle.tab_doors.specs.Working.{KeepsRun, KeepsStore, MayDiscardIn}
use Rattle.tab_doors.specs.declared.tables.Tables.{Tables}
use Rattle.tab_ids.specs.declared.DocId.{DocId}
use Rattle.tab_ids.specs.declared.NavId.{NavId}
use Rattle.tab_ids.specs.declared.ProcId.{ProcId}
use Rattle.tab_ids.specs.declared.ReqId.{ReqId}
use Rattle.tab_ids.specs.declared.StateId.{StateId}
use Rattle.tab_doors.proofs.PassedOn.{sent_goes}
use Rattle.tab_passes.proofs.Leavings.{passing_again}
use Rattle.tab_passes.specs.Leaving.{IsLeavingIn}
use Rattle.tab_passes.specs.Passing.{IsPassingIn}
use Rattle.tab_stands.proofs.Coming.{IsComing, taking_then}
use Rattle.tab_stands.proofs.Dones.{AsksNone, did, did_joined, did_now, did_parked, did_requests, did_tab, held_first}
use Rattle.tab_stands.proofs.LateEvents.{late_first}
use Rattle.tab_stands.proofs.MovedEvents.{moved_coming}
use Rattle.tab_stands.proofs.PassedOn.{queue_over, waiting_on, unheld_first}
use Rattle.tab_stands.proofs.Placed.{made_asks}
use Rattle.tab_stands.proofs.Ready.{calm_before, frees_open}
use Rattle.tab_stands.proofs.Reports.{between_as, goal_as, lasts_as, told_waiting}
use Rattle.tab_stands.specs.Delivering.{IsSeenDelivery}
use Rattle.tab_stands.specs.PassedOn.{AreUnheld, HasQueue, IsPassing, IsQueueing, IsStray, IsTaking, LateKnown, LeavesQueue, MayRelease, MovedAreShown, NoneRunsWhileHeld, IsReadyIn}
use Rattle.tab_stands.specs.Standing.{InCheck, IsOwnRead, StandsFor, seen_start}
use Rattle.tab_unneeded.proofs.Comes.{discarded_comes, discarded_usable, requests_same, then_is}
use Rattle.log_model.specs.declared.job.Task.TheVariants as tasks
use Rattle.log_model.specs.declared.job.Why.TheVariants as whys
use Rattle.log_model.specs.declared.made.Report.TheVariants as reports
use Rattle.log_model.specs.declared.row_kind.RowKind.TheVariants as rows

module _ (e : InEvent) (proc : ProcId) (job : Job) (outcome : Outcome) (del : IsSeenDelivery e proc (reports.Done job outcome None)) (t : Tables) (queue : Queue) (blame : List (StateId × ReqId)) {check : InCheck} (stands : StandsFor check (seen_start e) t queue blame) (aside : IsOwnRead e) (nav : NavId) (state : StateId) (address : List ℕ) (initial : Bool) (task : job.task ≡ tasks.Populate nav state address initial) (why : Why) (unasked : (req : ReqId) → why ≡ whys.Req req → ⊥) (stray : IsStray (now_of e []) job.doc state) (u : Tables) (noted : KeepsRun t u) (first : IsPassing (record { event = e; loads = check.loads; hand = [] }) [] u) (out : List RowKind) (v : Tables) (is : out ≡ rows.Sent (order_to (now_of e []) job.doc why tasks.Discard) ∷ []) (keeps : KeepsStore u v) (leaving : IsLeavingIn check.holds (record { event = e; loads = check.loads; hand = [] }) None [] out v) (header : t.kept.keep ≡ e.header.keep) (uncut : e.before ≡ []) (undue : OwesNothing e) where
  abbrev s : Seen
  s = seen_start e

  abbrev n : Seen
  n = now_of e out

  abbrev told : Seen
  told = did e proc job outcome del t queue blame stands aside

  -- the traversal that runs is as it was
  pub kept_run : KeepsRun t v
  kept_run =
      record { running = keeps.running ∙ noted.running; goal = keeps.goal ∙ noted.goal; keep = keeps.keep ∙ noted.keep; checks = keeps.checks ∙ noted.checks }

  plain : ArePlain t.running n
  plain = subst (λ (r : Option ReqId). ArePlain r n) kept_run.running leaving.going.tab.asked

  comes : IsComing blame s n
  comes = discarded_comes e proc job outcome del t queue blame stands aside nav state address initial task why unasked stray out is plain

  requests : n.requests ≡ s.requests
  requests =
      ap (λ (x : Seen). x.requests) (sym (then_is e proc job outcome del t queue blame stands aside nav state address initial task why unasked stray out is))
      ∙ requests_same e proc job outcome del t queue blame stands aside nav state address initial task why unasked stray

  asks : AsksNone job.task
  asks = made_asks e proc job outcome del t queue blame stands aside nav state address initial task

  same : told.requests ≡ s.requests
  same = did_requests e proc job outcome del t queue blame stands aside asks

  taking : IsTaking e v.running blame n
  taking =
      taking_then (seen_start e) v.running v.kept.keep v.goal blame n (between_as t v kept_run s stands.between) (lasts_as t v kept_run s stands.lasts) (goal_as t v kept_run s.requests stands.tied.goal) check.loads [] leaving.going.tab leaving.work.goal comes e refl unheld
    where
      before : (now_of e []).requests ≡ s.requests
      before = ap (λ (x : Seen). x.requests) (did_now e proc job outcome del t queue blame stands aside) ∙ same

      unheld : AreUnheld e n
      unheld req x its =
          unheld_first (record { event = e; loads = check.loads; hand = [] }) u uncut first req x (record { look = its.look; at = ap (λ (l : List Asked). option_map look (request_in l req)) (before ∙ sym requests) ∙ its.at; ongoing = its.ongoing; loads_it = its.loads_it })

  -- where no traversal runs the tab is calm
  pub calm_idle : t.running ≡ None → IsCalmYet n
  calm_idle is = subst (λ (r : Option ReqId). CalmUnless IsCalmYet r n) (kept_run.running ∙ is) taking.calm

  -- nothing is owed that a later row doesn't pay, and passes may follow
  pub discarded_loose : IsLoose e out
  discarded_loose =
      subst (λ (l : List RowKind). IsLoose e l) (sym is)
      (loose_more e [] (rows.Sent (order_to (now_of e []) job.doc why tasks.Discard)) (sent_goes e [] (order_to (now_of e []) job.doc why tasks.Discard) refl).read (loose_first e undue) (sent_lasts (now_of e []) e.event e.actor (order_to (now_of e []) job.doc why tasks.Discard)) (λ end lasts. refl))

  few : length n.kept ≤ v.kept.keep
  few =
      subst (λ (l : List DocId). length l ≤ v.kept.keep) (sym comes.kept) (subst (λ (k : ℕ). length s.kept ≤ k) (sym kept_run.keep) stands.between.few)

  passing : IsPassingIn check.holds (record { event = e; loads = check.loads; hand = [] }) out v
  passing = passing_again (record { event = e; loads = check.loads; hand = [] }) out v leaving (λ all. discarded_loose) few

  -- ---- what waits, and what is held back

  parked : n.parked ≡ s.parked
  parked =
      ap (λ (x : Seen). x.parked) (sym (then_is e proc job outcome del t queue blame stands aside nav state address initial task why unasked stray out is))
      ∙ ap (λ (x : Seen). x.parked) (did_now e proc job outcome del t queue blame stands aside)
      ∙ did_parked e proc job outcome del t queue blame stands aside

  joined : n.joined ≡ s.joined
  joined =
      ap (λ (x : Seen). x.joined) (sym (then_is e proc job outcome del t queue blame stands aside nav state address initial task why unasked stray out is))
      ∙ ap (λ (x : Seen). x.joined) (did_now e proc job outcome del t queue blame stands aside)
      ∙ did_joined e proc job outcome del t queue blame stands aside

  parked_first : n.parked ≡ (now_of e []).parked
  parked_first =
      parked
      ∙ sym (ap (λ (x : Seen). x.parked) (did_now e proc job outcome del t queue blame stands aside) ∙ did_parked e proc job outcome del t queue blame stands aside)

  joined_first : n.joined ≡ (now_of e []).joined
  joined_first =
      joined
      ∙ sym (ap (λ (x : Seen). x.joined) (did_now e proc job outcome del t queue blame stands aside) ∙ did_joined e proc job outcome del t queue blame stands aside)

  requests_first : n.requests ≡ (now_of e []).requests
  requests_first = requests ∙ sym (ap (λ (x : Seen). x.requests) (did_now e proc job outcome del t queue blame stands aside) ∙ same)

  leaves : LeavesQueue s n
  leaves =
      record {
        joined = joined;
        whats = λ req. ap (λ (l : List Asked). option_map (λ (q : Asked). q.what) (request_in l req)) requests;
        ready = λ req x it. record { q = it.q; at = ap (λ (l : List Asked). request_in l req) (sym requests) ∙ it.at; ready = ready_was it.q it.ready; its = it.its };
      }
    where
      usable : (own : StateId) → HasUsable n own → HasUsable s own
      usable =
          discarded_usable e proc job outcome del t queue blame stands aside nav state address initial task why unasked stray out is leaving.going.tab.whose.numbered

      ready_was : (q : Asked) → is_ready_load n q ≡ true → is_ready_load s q ≡ true
      ready_was q ready = by_state q.state refl (and_parts (is_ongoing_load q) (holds (λ (own : StateId). list_any (λ (x : Document). is_usable x own) n.documents) q.state) ready)
        where
          by_state : (o : Option StateId) → q.state ≡ o → (is_ongoing_load q ≡ true) × (holds (λ (own : StateId). list_any (λ (x : Document). is_usable x own) n.documents) q.state ≡ true) → is_ready_load s q ≡ true
          by_state None none parts =
              let never : false ≡ true = ap (λ (o : Option StateId). holds (λ (own : StateId). list_any (λ (x : Document). is_usable x own) n.documents) o) (sym none) ∙ parts.1 in absurd cc
          by_state (Some own) is_own parts =
              both parts.0
              (ap (λ (o : Option StateId). holds (λ (x : StateId). list_any (λ (y : Document). is_usable y x) s.documents) o) is_own
              ∙ usable own (ap (λ (o : Option StateId). holds (λ (x : StateId). list_any (λ (y : Document). is_usable y x) n.documents) o) (sym is_own) ∙ parts.1))

  release : MayRelease e out
  release =
      record {
        by_coord = del.by_coord;
        takes = ap takes_report del.own;
        many = ap length requests ∙ requests_start e;
        old = λ req has. (
          ap (λ (l : List ReqId). has_req l req) (sym (held_first e uncut)) ∙ (ap (λ (l : List ReqId). has_req l req) (sym parked_first) ∙ has),
          ap (λ (l : List ReqId). has_req l req) (sym parked) ∙ has,
        );
      }

  queueing : IsQueueing (record { event = e; loads = check.loads; hand = [] }) out v queue
  queueing =
      record {
        waits = waiting_on e [] out (inl parked_first) (λ req. ap (λ (l : List Asked). option_map wish (request_in l req)) requests_first) (λ req has. ap (λ (l : List ReqId). has_req l req) (sym joined_first) ∙ has) (told_waiting e proc del.by_coord del.own t queue blame stands aside (reports.Done job outcome None) del.first same (did_tab e proc job outcome del t queue blame stands aside).known uncut);
        queued = subst (λ (r : Option ReqId). HasQueue n r queue.waiting) (sym kept_run.running) (queue_over s n leaves t.running queue.waiting stands.queue);
        parked = stands.parked ∙ ap (λ (l : List Asked). held_back l s.parked) (sym requests) ∙ ap (λ (l : List ReqId). held_back n.requests l) (sym parked);
        held = λ idle. parked ∙ stands.between.held (sym kept_run.running ∙ idle);
        over = λ has. absurd (let never : false ≡ true = sym (ap (λ (l : List RowKind). has_traversed e l) is ∙ ap (λ (l : List RowKind). list_any is_traverse (map (row_of e) l ++ row_of e (rows.Sent (order_to (now_of e []) job.doc why tasks.Discard)) ∷ [])) uncut) ∙ has in cc);
        releasing = λ some all. release;
      }

  -- ---- all of it

  pub discarded_ready : MayDiscardIn check.holds e → IsReadyIn check.holds (record { event = e; loads = check.loads; hand = [] }) out v queue blame whys.Start
  discarded_ready free =
      record {
        passing = passing;
        empty = refl;
        header = kept_run.keep ∙ header;
        open_ = taking.open_ whys.Start (λ req never. absurd cc);
        loads = taking.loads;
        frees = frees_open e check.holds v.running n (subst (λ (r : Option ReqId). NoneRunsWhileHeld check.holds r) (sym kept_run.running) stands.alone) (λ open_. subst (λ (b : Bool). MayDiscardIn b e) open_ free) taking.open_;
        blamed = taking.blamed;
        calm = calm_before v.running whys.Start n taking.calm taking.unmoved taking.rooted;
        live = taking.live;
        late = subst (λ (r : Option ReqId). LateKnown r n) (sym kept_run.running) (late_first blame s n comes t.running leaving.going.tab.standing stands.lasts.off);
        moved = subst (λ (r : Option ReqId). MovedAreShown r n) (sym kept_run.running) (moved_coming blame s n comes t.running stands.between.tab.asked stands.lasts.moved);
        theirs = comes.theirs;
        queueing = queueing;
      }
