-- A report tells that a document was made: it is noted, the step of the load that waited for it joins the queue, and all goes on.
use Rattle.unload_check.specs.Checks.{OpenCheck}
use Rattle.seen_facts.proofs.Hang.Members.{IsOf, Passing, any_has, find_has, has_any, has_found, has_map}
use Rattle.seen_facts.specs.Hang.Members.{Has}
use Rattle.seen_facts.specs.Kept.Keeping.{state_in}
use Rattle.load_doors.specs.Tied.{AreTied}
use Rattle.load_table.specs.Loads.{HasOneEach, is_populating, makes, ongoing_load}
use Rattle.load_table.specs.declared.load.Load.{Load}
use Rattle.load_table.specs.declared.phase.Phase.{Phase}
use Rattle.seen_facts.proofs.LoadTies.Begins.{found_nav}
use Rattle.seen_facts.proofs.LoadTies.Waits.{waits_once}
use Rattle.seen_facts.specs.LoadTies.Tying.{HasLoad, IsLoadTied, TiesLoads, is_for_state, made_for, phase_with}
use Rattle.log_model.proofs.Refl.{nat_eq_refl}
use Rattle.log_model.specs.ActsAtOnce.{has_document, is_ready_load}
use Rattle.log_model.specs.Equal.{holds}
use Rattle.log_model.specs.Once.{loads}
use Rattle.log_model.specs.Orders.{is_usable}
use Rattle.log_model.specs.Places.{is_ongoing_load}
use Rattle.log_model.specs.Seen.{Asked, Document, Seen, document_of, request_in, request_of}
use Rattle.log_model.specs.declared.job.Job.{Job}
use Rattle.log_model.specs.declared.made.Report.{Report}
use Rattle.log_model.specs.declared.outcome.Outcome.{Outcome}
use Rattle.log_model.specs.declared.row_kind.Actor.{Actor}
use Rattle.log_model.specs.declared.row_kind.RowKind.{RowKind}
use Rattle.move_queue.specs.Queue.{Queue}
use Rattle.move_queue.specs.declared.queue_step.QueueStep.{QueueStep}
use Rattle.move_queue.specs.declared.queue_step.QueueStep.TheVariants.{Ready}
use Rattle.page_cache.specs.Kept.{Kept}
use Rattle.seen_facts.proofs.Rest.Still.{found_itself}
use Rattle.seen_laws.proofs.Sendings.{both}
use Rattle.seen_laws.specs.InEvent.{InEvent, now_of}
use Rattle.seen_laws.specs.Sending.{leads}
use Rattle.std.proofs.Common.{Bool, List, None, Option, Some, [], ap, append-nil, cond, eqb-true, false, filter, inl, inr, length, map, not, refl, subst, sym, true, ℕ, ◌&&◌, ◌++◌, ◌+◌, ◌==◌, ◌||◌, ◌∙◌, ◌∷◌, ◌≡◌, ◌≤◌, ◌⊎◌}
use Rattle.std.proofs.lemmas.Bool.{and_parts}
use Rattle.std.proofs.lemmas.List.Elements.{filter-append}
use Rattle.std.proofs.lemmas.List.{length-map}
use Rattle.std.specs.List.{filter_map, list_any}
use Rattle.std.specs.Option.{option_map_or}
use Rattle.std.specs.Prelude.{find}
use Rattle.tab_settles.specs.PassedOn.{AreStepsOf, AwaitTurns, HasQueue, HaveJoined, InPass, IsGoing, IsOfTab, is_traverse}
use Rattle.tab_doors.proofs.Making.{made_ready, placed_holds}
use Rattle.tab_doors.proofs.Noted.{noted_loads}
use Rattle.tab_doors.proofs.Sights.{sights_document}
use Rattle.tab_doors.specs.Look.{look_of as sights_of, sight}
use Rattle.tab_doors.specs.Noting.{PlacesOne}
use Rattle.tab_doors.specs.Ties.{Holds}
use Rattle.tab_doors.specs.Working.{IsWorker, KeepsRun}
use Rattle.tab_doors.specs.declared.tables.Tables.{Tables}
use Rattle.tab_ids.specs.declared.DocId.{DocId}
use Rattle.tab_ids.specs.declared.NavId.{NavId}
use Rattle.tab_ids.specs.declared.ProcId.{ProcId}
use Rattle.tab_ids.specs.declared.ReqId.{ReqId}
use Rattle.tab_ids.specs.declared.StateId.{StateId}
use Rattle.tab_stands.proofs.Begun.{begun}
use Rattle.tab_stands.proofs.Dones.{did, did_now, did_parked, did_joined, did_queueing, did_requests, did_tab}
use Rattle.tab_stands.proofs.Placed.{documents_are, made_asks, made_comes, made_state, states_alike, states_kept}
use Rattle.tab_stands.proofs.Reports.{between_as, goal_as, lasts_as, told_going, told_held, told_kept, told_moved, told_rests, told_tied}
use Rattle.tab_stands.proofs.Unmade.{being, d, documents_now, its_found, its_number, its_outcome, its_own, its_state, made_at, made_of, not_ready, places_now, seen_found, sole_one, the_one, undiscarded, unknown, unplaced}
use Rattle.tab_stands.specs.Delivering.{IsSeenDelivery, IsMadeNoted, step_ready}
use Rattle.tab_stands.specs.Standing.{HasBegun, HasLogged, HasRoomFor, InCheck, IsOwnRead, StandsFor, seen_start}
use Rattle.load_table.specs.declared.phase.Phase.TheVariants as phases
use Rattle.log_model.specs.declared.job.Task.TheVariants as tasks
use Rattle.log_model.specs.declared.made.Report.TheVariants as reports
use Rattle.log_model.specs.declared.row_kind.Actor.TheVariants as actors

-- among the first of two lists, and the second
in_front : {A : Type 0} (xs ys : List A) (x : A) → Has xs x → Has (xs ++ ys) x
in_front [] ys x there = absurd there
in_front (y ∷ xs) ys x (inl same) = inl same
in_front (y ∷ xs) ys x (inr there) = inr (in_front xs ys x there)

behind : {A : Type 0} (xs ys : List A) (x : A) → Has ys x → Has (xs ++ ys) x
behind [] ys x there = there
behind (y ∷ xs) ys x there = inr (behind xs ys x there)

pub either_of : {A : Type 0} (xs ys : List A) (x : A) → Has (xs ++ ys) x → Has xs x ⊎ Has ys x
either_of [] ys x there = inr there
either_of (y ∷ xs) ys x (inl same) = inl (inl same)
either_of (y ∷ xs) ys x (inr there) = by_rest (either_of xs ys x there)
  where
    by_rest : Has xs x ⊎ Has ys x → Has (y ∷ xs) x ⊎ Has ys x
    by_rest (inl first) = inl (inr first)
    by_rest (inr second) = inr second

-- the step of a load that waits is no traversal's, and no reload's
none_traverse : (table : List Load) (doc : DocId) → filter is_traverse (step_ready table doc) ≡ []
none_traverse table doc = by_found (find (is_populating doc) table)
  where
    by_found : (o : Option Load) → filter is_traverse (option_map_or (λ (load : Load). Ready load.req load.nav ∷ []) o []) ≡ []
    by_found None = refl
    by_found (Some load) = refl

ready_of_tab : (table : List Load) (doc : DocId) (step : QueueStep) → Has (step_ready table doc) step → IsOfTab step
ready_of_tab table doc step has = by_found (find (is_populating doc) table) has
  where
    by_found : (o : Option Load) → Has (option_map_or (λ (load : Load). Ready load.req load.nav ∷ []) o []) step → IsOfTab step
    by_found None never = absurd never
    by_found (Some load) (inl same) = subst (λ (x : QueueStep). IsOfTab x) same tt
    by_found (Some load) (inr never) = absurd never

module _ (e : InEvent) (proc : ProcId) (job : Job) (outcome : Outcome) (del : IsSeenDelivery e proc (reports.Done job outcome None)) (t : Tables) (queue : Queue) (blame : List (StateId × ReqId)) {check : InCheck} (stands : StandsFor check (seen_start e) t queue blame) (aside : IsOwnRead e) (nav : NavId) (state : StateId) (address : List ℕ) (initial : Bool) (task : job.task ≡ tasks.Populate nav state address initial) (one_each : HasOneEach t.loads) where
  abbrev report : Report
  report = reports.Done job outcome None

  abbrev s : Seen
  s = seen_start e

  abbrev n : Seen
  n = did e proc job outcome del t queue blame stands aside

  abbrev own : Document
  own = d e proc job outcome del t queue blame stands aside nav state address initial task

  abbrev same : n.requests ≡ (seen_start e).requests
  same = did_requests e proc job outcome del t queue blame stands aside (made_asks e proc job outcome del t queue blame stands aside nav state address initial task)

  abbrev made_if : Document → Document
  made_if x = made_at job.doc x

  -- the load that waits for the document is the only one
  once : (nav_ : NavId) (a : Load) → ongoing_load nav_ t.loads ≡ Some a → is_populating job.doc a ≡ true → find (is_populating job.doc) t.loads ≡ Some a
  once nav_ a at waits =
      waits_once s t.loads stands.between.tab.loading stands.tied.loads one_each stands.between.tab.whose.numbered job.doc nav_ a at waits

  -- ---- a load that is ready then was so, or waited for the document

  for_own : (of : StateId) → own.state ≡ of → is_for_state of own ≡ true
  for_own of is =
      let eq : (own.state.0 == of.0) ≡ true = ap (λ (x : StateId). x.0 == of.0) is ∙ nat_eq_refl of.0 in
      rw (eq, undiscarded e proc job outcome del t queue blame stands aside nav state address initial task, unknown e proc job outcome del t queue blame stands aside nav state address initial task) refl

  -- it is the document that the log has for its state
  made_is : (of : StateId) → own.state ≡ of → made_for s.documents of ≡ Some own
  made_is of is = by_found (made_for s.documents of) refl
    where
      own_has : Has s.documents own
      own_has =
          (find_has (λ (x : Document). x.nr.0 == job.doc.0) s.documents own (its_found e proc job outcome del t queue blame stands aside nav state address initial task)).0

      three : (a b c : Bool) → (a && not (b || c)) ≡ true → (a ≡ true) × (b ≡ false)
      three true false c h = (refl, refl)
      three false b c h = absurd cc
      three true true c h = absurd cc

      by_found : (o : Option Document) → made_for s.documents of ≡ o → made_for s.documents of ≡ Some own
      by_found None none =
          let some = has_found (is_for_state of) s.documents own own_has (for_own of is) in
          let never : None ≡ Some some.0 = sym none ∙ some.1 in absurd cc
      by_found (Some x) found =
          let parts = find_has (is_for_state of) s.documents x found in
          let both = three (x.state.0 == of.0) x.is_discarded x.is_known_dead parts.1 in
          let at : document_of s x.nr ≡ Some x = found_itself s.documents x stands.between.tab.whose.numbered parts.0 in
          let states : x.state ≡ state = ap (λ (i : ℕ). let y : StateId = record { 0 = i } in y) (eqb-true x.state.0 of.0 both.0) ∙ sym is ∙ its_state e proc job outcome del t queue blame stands aside nav state address initial task in
          let it : x ≡ own = sole_one e proc job outcome del t queue blame stands aside nav state address initial task x x.nr at states both.1 in
          found ∙ ap (λ (y : Document). let o : Option Document = Some y in o) it

  joins : (r : ReqId) (q : Asked) (of : NavId) → request_of s r ≡ Some q → is_ongoing_load q ≡ true → loads of q.what ≡ true → q.state ≡ Some own.state → Has (step_ready t.loads job.doc) (Ready r of)
  joins r q of at on its is =
      let has : HasLoad t.loads of r = stands.tied.loads.all r q of at on its in
      let tied : IsLoadTied s has.load = stands.tied.loads.there of has.load has.at in
      let found : request_of s r ≡ Some tied.q = ap (λ (x : ReqId). request_of s x) (sym has.req_is) ∙ tied.found in
      let two : Some q ≡ Some tied.q = sym at ∙ found in
      let asked : q ≡ tied.q = cc in
      let states : Some own.state ≡ Some has.load.state = sym is ∙ ap (λ (x : Asked). x.state) asked ∙ tied.state in
      let state_is : own.state ≡ has.load.state = cc in
      let phase : has.load.phase ≡ phases.Populating own.nr = tied.phase ∙ ap (λ (o : Option Document). phase_with o) (made_is has.load.state state_is) ∙ new_phase own (not_ready e proc job outcome del t queue blame stands aside nav state address initial task) in
      let waits : is_populating job.doc has.load ≡ true = ap (λ (p : Phase). makes job.doc p) phase ∙ ap (λ (i : ℕ). i == job.doc.0) (its_number e proc job outcome del t queue blame stands aside nav state address initial task) ∙ nat_eq_refl job.doc.0 in
      let first : find (is_populating job.doc) t.loads ≡ Some has.load = once of has.load has.at waits in
      subst (λ (o : Option Load). Has (option_map_or (λ (load : Load). Ready load.req load.nav ∷ []) o []) (Ready r of)) (sym first)
      (inl (ap (λ (x : ReqId). Ready x has.load.nav) has.req_is ∙ ap (λ (x : NavId). Ready r x) (found_nav of t.loads has.load has.at)))
    where
      new_phase : (x : Document) → x.is_ready ≡ false → phase_with (Some x) ≡ phases.Populating x.nr
      new_phase x is_ = rw is_ refl

  await_then : AwaitTurns n (queue.waiting ++ step_ready t.loads job.doc)
  await_then r q of at ready its = by_old (is_ready_load s q) refl
    where
      old : request_of s r ≡ Some q
      old = ap (λ (l : List Asked). request_in l r) (sym same) ∙ at

      parts : (is_ongoing_load q ≡ true) × (has_document n q ≡ true)
      parts = and_parts (is_ongoing_load q) (has_document n q) ready

      usable_was : (x : StateId) → q.state ≡ Some x → list_any (λ (y : Document). is_usable y x) n.documents ≡ true → (is_ready_load s q ≡ true) ⊎ (own.state ≡ x)
      usable_was x is some = by_test (was.it.nr.0 == job.doc.0) refl
        where
          usable : Passing (λ (y : Document). is_usable y x) n.documents
          usable = any_has (λ (y : Document). is_usable y x) n.documents some

          was : IsOf made_if s.documents usable.it
          was =
              has_map made_if s.documents usable.it (subst (λ (l : List Document). Has l usable.it) (documents_are e proc job outcome del t queue blame stands aside nav state address initial task) usable.there)

          passes : is_usable (made_if was.it) x ≡ true
          passes = ap (λ (y : Document). is_usable y x) was.is ∙ usable.passes

          first : (a b c f : Bool) → (a && b && not c && not f) ≡ true → a ≡ true
          first true b c f h = refl
          first false b c f h = absurd cc

          by_test : (b : Bool) → (was.it.nr.0 == job.doc.0) ≡ b → (is_ready_load s q ≡ true) ⊎ (own.state ≡ x)
          by_test true at_ =
              let it : was.it ≡ own = the_one e proc job outcome del t queue blame stands aside nav state address initial task was.it was.there at_ in
              let state_is : ((made_if was.it).state.0 == x.0) ≡ true = first ((made_if was.it).state.0 == x.0) (made_if was.it).is_ready (made_if was.it).is_discarded (made_if was.it).is_known_dead passes in
              let states : (made_if was.it).state ≡ x = ap (λ (i : ℕ). let y : StateId = record { 0 = i } in y) (eqb-true (made_if was.it).state.0 x.0 state_is) in
              inr (ap (λ (y : Document). y.state) (sym it) ∙ sym (made_state e proc job outcome del t queue blame stands aside nav state address initial task was.it) ∙ states)
          by_test false at_ =
              let unchanged : made_if was.it ≡ was.it = ap (λ (b : Bool). let y : Document = cond b (record was.it { is_ready = true; is_fresh = true }) was.it in y) at_ in
              let had : list_any (λ (y : Document). is_usable y x) s.documents ≡ true = has_any (λ (y : Document). is_usable y x) s.documents was.it was.there (ap (λ (y : Document). is_usable y x) (sym unchanged) ∙ passes) in
              inl (both parts.0 (ap (λ (o : Option StateId). holds (λ (y : StateId). list_any (λ (z : Document). is_usable z y) s.documents) o) is ∙ had))

      by_state : (o : Option StateId) → q.state ≡ o → holds (λ (x : StateId). list_any (λ (y : Document). is_usable y x) n.documents) o ≡ true → (is_ready_load s q ≡ true) ⊎ (q.state ≡ Some own.state)
      by_state None is never = absurd cc
      by_state (Some x) is some = by_case (usable_was x is some)
        where
          by_case : (is_ready_load s q ≡ true) ⊎ (own.state ≡ x) → (is_ready_load s q ≡ true) ⊎ (q.state ≡ Some own.state)
          by_case (inl was) = inl was
          by_case (inr here) = inr (is ∙ ap (λ (y : StateId). let o : Option StateId = Some y in o) (sym here))

      by_old : (b : Bool) → is_ready_load s q ≡ b → Has (queue.waiting ++ step_ready t.loads job.doc) (Ready r of)
      by_old true was = in_front queue.waiting (step_ready t.loads job.doc) (Ready r of) (stands.queue.ready r q of old was its)
      by_old false was = by_case (by_state q.state refl parts.1)
        where
          by_case : (is_ready_load s q ≡ true) ⊎ (q.state ≡ Some own.state) → Has (queue.waiting ++ step_ready t.loads job.doc) (Ready r of)
          by_case (inl yes_) = let never : true ≡ false = sym yes_ ∙ was in absurd cc
          by_case (inr is) = behind queue.waiting (step_ready t.loads job.doc) (Ready r of) (joins r q of old parts.0 its is)

  abbrev waiting : List QueueStep
  waiting = queue.waiting ++ step_ready t.loads job.doc

  traverses : filter is_traverse waiting ≡ filter is_traverse queue.waiting
  traverses =
      filter-append is_traverse queue.waiting (step_ready t.loads job.doc)
      ∙ ap (λ (l : List QueueStep). filter is_traverse queue.waiting ++ l) (none_traverse t.loads job.doc)
      ∙ append-nil (filter is_traverse queue.waiting)

  joined_then : (run : Option ReqId) (steps : List QueueStep) → HaveJoined s run steps → HaveJoined n run steps
  joined_then None steps have =
      subst (λ (l : List ReqId). AreStepsOf n.requests l steps) (sym (did_joined e proc job outcome del t queue blame stands aside)) (subst (λ (l : List Asked). AreStepsOf l s.joined steps) (sym same) have)
  joined_then (Some run) steps have =
      record { rest = have.rest; joined = did_joined e proc job outcome del t queue blame stands aside ∙ have.joined; steps_ = subst (λ (l : List Asked). AreStepsOf l have.rest steps) (sym same) have.steps_ }

  queue_then : HasQueue n t.running waiting
  queue_then =
      record {
        traversals = subst (λ (l : List QueueStep). HaveJoined n t.running l) (sym traverses) (joined_then t.running (filter is_traverse queue.waiting) stands.queue.traversals);
        ready = await_then;
        steps = λ step has. of_tab step (either_of queue.waiting (step_ready t.loads job.doc) step has);
      }
    where
      of_tab : (step : QueueStep) → Has queue.waiting step ⊎ Has (step_ready t.loads job.doc) step → IsOfTab step
      of_tab step (inl has) = stands.queue.steps step has
      of_tab step (inr has) = ready_of_tab t.loads job.doc step has

  -- ---- the tables

  module _ (u : Tables) (one : PlacesOne state job.doc t u) (kept : KeepsRun t u) where
    holds_then : Holds (sights_of n t.running) u
    holds_then =
        placed_holds (sights_of s t.running) (sights_of n t.running) t job.doc state (sight own) stands.tied.holds
        (ap (λ (l : List Document). map sight l) (documents_now e proc job outcome del t queue blame stands aside nav state address initial task) ∙ sights_document job.doc made_of made_ready (λ x. refl) s.documents)
        (places_now e proc job outcome del t queue blame stands aside nav state address initial task) refl (told_moved e proc del.by_coord del.own t queue blame stands aside report del.first same) refl refl refl
        (seen_found e proc job outcome del t queue blame stands aside nav state address initial task)
        (its_own e proc job outcome del t queue blame stands aside nav state address initial task)
        (undiscarded e proc job outcome del t queue blame stands aside nav state address initial task)
        (unknown e proc job outcome del t queue blame stands aside nav state address initial task)
        (being e proc job outcome del t queue blame stands aside nav state address initial task)
        (unplaced e proc job outcome del t queue blame stands aside nav state address initial task) u one

    loads_then_ : TiesLoads n u.loads
    loads_then_ =
        let slot = its_outcome e proc job outcome del t queue blame stands aside nav state address initial task in
        noted_loads s e.event actors.Coord proc job slot.0 (del.first ∙ ap (λ (o : Outcome). let r : Option Report = Some (reports.Done job o None) in r) slot.1) state t u once one stands.tied.loads

    tied : AreTied (now_of e []) u
    tied =
        told_tied e proc del.by_coord del.own t queue blame stands aside report del.first same u kept holds_then loads_then_ one.initial
        (ap (λ (k : Kept). k.states) one.kept ∙ stands.tied.kept ∙ sym (states_alike s.documents n.documents (states_kept e proc job outcome del t queue blame stands aside nav state address initial task) s.kept) ∙ ap (λ (l : List DocId). filter_map (state_in n.documents) l) (sym (told_kept e proc del.by_coord del.own t queue blame stands aside report del.first)))
        (subst (λ (i : ℕ). i ≤ s.jobs + 1) (sym (ap (λ (l : List Document). length l) (documents_are e proc job outcome del t queue blame stands aside nav state address initial task) ∙ length-map s.documents made_if)) stands.tied.few)

    abbrev p : InPass
    p = record { event = e; loads = check.loads; hand = [] }

    pub placed_begun : HasLogged e t.checks t.asking → HasRoomFor (seen_start e) → t.kept.keep ≡ e.header.keep → (left : Queue) → left ≡ record queue { waiting = queue.waiting ++ step_ready t.loads job.doc } → (noted : List (StateId × ReqId)) → IsMadeNoted (now_of e []) blame noted job.doc state → HasBegun (record { event = e; loads = check.loads; hand = [] }) u left noted
    placed_begun logged room header left pushed noted notes =
        begun p u left noted (between_as t u kept s stands.between) (lasts_as t u kept s stands.lasts) (goal_as t u kept s.requests stands.tied.goal) (kept.keep ∙ header) (subst (λ (es : List (ReqId × OpenCheck)). HasLogged e es u.asking) (sym kept.checks) (subst (λ (l : List Load). HasLogged e t.checks l) (sym one.asking) logged)) (ap (λ (k : RowKind). leads k) del.own) (subst (λ (a : Actor). IsWorker a) (sym del.by_coord) tt)
        tied
        (subst (λ (r : Option ReqId). IsGoing r check.loads [] (now_of e [])) (sym kept.running) (told_going e proc del.by_coord del.own t queue blame stands aside report del.first same room check.loads [] (did_tab e proc job outcome del t queue blame stands aside) (told_held e proc del.by_coord del.own t queue blame stands aside report del.first same (did_parked e proc job outcome del t queue blame stands aside)) (rw (places_now e proc job outcome del t queue blame stands aside nav state address initial task) stands.lasts.counted.epochs)))
        (told_rests e proc del.by_coord del.own t queue blame stands aside report del.first)
        (made_comes e proc job outcome del t queue blame stands aside nav state address initial task noted (subst (λ (x : Seen). IsMadeNoted x blame noted job.doc state) (did_now e proc job outcome del t queue blame stands aside) notes))
        (did_queueing e proc job outcome del t queue blame stands aside (made_asks e proc job outcome del t queue blame stands aside nav state address initial task) u kept logged.logged.uncut left (subst (λ (l : List QueueStep). HasQueue n t.running l) (sym (ap (λ (q : Queue). q.waiting) pushed)) queue_then) (ap (λ (q : Queue). q.parked) pushed))
