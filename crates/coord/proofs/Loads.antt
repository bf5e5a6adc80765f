-- A load was refused, dropped, sent to a fragment or has begun: the tab may be brought to rest.
use Rattle.load_doors.specs.Logged.{IsLogged}
use Rattle.load_doors.proofs.Starts.{next_start}
use Rattle.unasked.proofs.Nows.{sent_now, sent_goes, dropped_goes, refused_goes}
use Rattle.seen_laws.specs.Unasked.{is_question}
use Rattle.coord.proofs.Asides.{accepted_plain, off, one_goes, seen_stands}
use Rattle.coord.proofs.Fines.{IsFine, fine_fragment, fine_moves, fine_populate, makes_over, more_fine, no_job, one_fine, sound_over}
use Rattle.coord.specs.Standing.{IsAsk, IsOpenTo, IsToSettle, MoveNobody}
use Rattle.coord.proofs.Slots.{own_slots}
use Rattle.coord.specs.declared.ask.Ask.TheVariants as asks
use Rattle.coord.specs.declared.coordinator.Coordinator.{Coordinator}
use Rattle.seen_facts.specs.Doc.Docs.{AreDocs}
use Rattle.seen_facts.specs.Hang.Members.{Has}
use Rattle.seen_facts.specs.Home.Homes.{IsHomed}
use Rattle.log_model.specs.Orders.{Question, due_questions}
use Rattle.log_model.specs.Points.{ends_in, nav_of_request}
use Rattle.log_model.specs.Seen.{Seen, document_of, place_of, request_of}
use Rattle.log_model.specs.declared.job.Job.{Job}
use Rattle.log_model.specs.declared.job.Why.{Why}
use Rattle.log_model.specs.declared.made.Made.{Made}
use Rattle.log_model.specs.declared.request.Mode.{Mode}
use Rattle.log_model.specs.declared.request.Request.{Request}
use Rattle.log_model.specs.declared.row_kind.RowKind.{RowKind}
use Rattle.move_queue.specs.Queue.{Queue}
use Rattle.tab_facts.proofs.Order.Stills.{still_over}
use Rattle.tab_facts.specs.Order.Orders.{IsOfCoord}
use Rattle.seen_laws.specs.InEvent.{InEvent, log_of, now_of, row_of, EachGoes, later_of}
use Rattle.seen_laws.specs.Sending.{leads}
use Rattle.std.proofs.Common.{List, None, Option, Some, [], ap, inl, inr, refl, subst, sym, ℕ, ◌++◌, ◌∙◌, ◌∷◌, ◌≡◌, false, true}
use Rattle.std.specs.Prelude.{is_some, slice_get}
use Rattle.slot_facts.specs.Slots.{AreSlots}
use Rattle.tab_doors.proofs.Works.{none_steps}
use Rattle.tab_doors.specs.Working.{MayDiscardIn}
use Rattle.tab_doors.specs.declared.tables.Tables.{Tables}
use Rattle.tab_ids.specs.declared.DocId.{DocId}
use Rattle.tab_ids.specs.declared.NavId.{NavId}
use Rattle.tab_ids.specs.declared.ReqId.{ReqId}
use Rattle.tab_ids.specs.declared.StateId.{StateId}
use Rattle.tab_loads.specs.Loading.{CameTo, HasGivenWay, HasLoadBegun, IsLoadAsk, IsToAsk, WasSent, cause_of, hand_of, pass_of}
use Rattle.tab_loads.specs.declared.loaded.Loaded.{Loaded}
use Rattle.tab_loads.specs.declared.loaded.Loaded.TheVariants.{Asks, Begun, CutOff, Refused, ToFragment}
use Rattle.tab_stands.proofs.Accepting.{comes_now, new, now, takes_none, there_now}
use Rattle.tab_stands.proofs.Coming.{IsComing}
use Rattle.tab_stands.proofs.Orders.{keeps_coming, makes_first, sound_first}
use Rattle.tab_stands.proofs.PassedOn.{KeepsWhat, none_asked, sent_homes, rows_slots}
use Rattle.tab_stands.specs.Offs.{AreShownUnder}
use Rattle.tab_stands.specs.PassedOn.{Ends, EndsAlone, HasPut, IsOfItsLoad, IsReady, IsTab, MakesServe, OrdersAreSound}
use Rattle.tab_stands.specs.Standing.{IsTakenUp, LastsInLog, StandsFor, none_in_check, seen_start}
use Rattle.log_model.specs.declared.outcome.Cause.TheVariants as drops
use Rattle.log_model.specs.declared.request.Request.TheVariants as requests
use Rattle.log_model.specs.declared.row_kind.RowKind.TheVariants as rows
use Rattle.seen_facts.proofs.Walk.Placed.{found_nav}
use Rattle.coord.proofs.Fragments.{accepted_found, accepted_log, accepted_logged, accepted_telling, plain_found}
use Rattle.seen_facts.proofs.Coord.Unread.{accepted_held, accepted_left, left_leads, next}
use Rattle.seen_facts.specs.Coord.Leading.{held_back}
use Rattle.seen_facts.proofs.Desk.Rows.{unpoked}
use Rattle.seen_facts.specs.Desk.Own.{AreDesksIn, IsFragmentTask}
use Rattle.tab_facts.proofs.Running.Over.{running_over}
use Rattle.tab_facts.proofs.Running.Runs.{awake_run, awake_will_run}
use Rattle.tab_facts.proofs.Running.Tells.{telling_over}
use Rattle.tab_facts.specs.Running.Fitting.{IsFittingOrder}
use Rattle.tab_facts.specs.Running.Running.{AreFoundRunning, AwakeRun}
use Rattle.tab_facts.specs.Running.Telling.{AreTelling}
use Rattle.log_model.specs.declared.job.Task.{Task}
use Rattle.log_model.specs.declared.row_kind.Actor.TheVariants as actors

-- ---- a load

module _ (e : InEvent) (t : Tables) (queue : Queue) (blame : List (StateId × ReqId)) (stands : StandsFor none_in_check (seen_start e) t queue blame) (req : ReqId) (nav : NavId) (mode : Mode) (address : List ℕ) (its : IsLoadAsk e req nav mode address) (lasts : LastsInLog e.checking t.asking (log_of e [])) where
  abbrev load : Request
  load = requests.Load nav mode address

  comes : IsComing blame (seen_start e) (now_of e [])
  comes = comes_now e req None load its.by_user its.own (next_start e req.0 its.next) its.read t queue blame stands

  -- each document shown was shown under its navigable's epoch as the event began
  pub load_shows : AreShownUnder (log_of e [])
  load_shows = lasts.shows

  pub load_taken : (out : List RowKind) → IsTakenUp e out
  load_taken out later = takes_none e req None load its.by_user its.own (next_start e req.0 its.next) its.read (later_of e out ++ later)

  -- its request is there
  there : request_of (now_of e []) req ≡ Some (new e req None load its.by_user its.own (next_start e req.0 its.next) its.read)
  there = ap (λ (x : Seen). request_of x req) (now e req None load its.by_user its.own (next_start e req.0 its.next) its.read) ∙ there_now e req None load its.by_user its.own (next_start e req.0 its.next) its.read

  -- what each process has is of its documents, and who is awake runs once all orders are done that come to its document
  desks_now : AreDesksIn (now_of e [])
  desks_now =
      subst AreDesksIn (sym (now e req None load its.by_user its.own (next_start e req.0 its.next) its.read)) (unpoked (seen_start e) e.event actors.Ui stands.between.tab.desks req load)

  awake_now : AwakeRun (now_of e [])
  awake_now =
      subst AwakeRun (sym (now e req None load its.by_user its.own (next_start e req.0 its.next) its.read))
      (awake_run went_.history.rows (held_back went_.requests went_.parked) went_ (left_leads (seen_start e) went_ (accepted_left (seen_start e) e.event actors.Ui req None load) refl refl refl (accepted_held (seen_start e) e.event actors.Ui req None load) stands.between.flows.leads))
    where
      went_ : Seen
      went_ = next (seen_start e) e.event actors.Ui (rows.Accepted req None load)

  module _ (out : List RowKind) (u : Tables) (noted : List (StateId × ReqId)) where
    abbrev n : Seen
    n = now_of e out

    abbrev Fine : Loaded → List RowKind → Type 0
    Fine loaded l = (row : RowKind) → Has l row → IsFine (now_of e out) (cause_of req loaded) row

    fine_begun : HasLoadBegun (now_of e []) req nav address out → Fine Begun out
    fine_begun its = subst (λ (l : List RowKind). Fine Begun l) (sym its.is) (by_gives its.gives)
      where
        own : Fine Begun (rows.Started req None ∷ rows.Sent its.job ∷ [])
        own =
            more_fine n (cause_of req Begun) (rows.Started req None) (rows.Sent its.job ∷ []) (no_job n (cause_of req Begun) (rows.Started req None) tt tt (λ job is. cc))
            (one_fine n (cause_of req Begun) (rows.Sent its.job) (fine_populate n (cause_of req Begun) its.job nav _ address its.task its.why))

        by_gives : HasGivenWay (now_of e []) req nav its.gave → Fine Begun (its.gave ++ rows.Started req None ∷ rows.Sent its.job ∷ [])
        by_gives (inl none) = subst (λ (l : List RowKind). Fine Begun (l ++ rows.Started req None ∷ rows.Sent its.job ∷ [])) (sym none.0) own
        by_gives (inr old) =
            subst (λ (l : List RowKind). Fine Begun (l ++ rows.Started req None ∷ rows.Sent its.job ∷ [])) (sym old.2)
            (more_fine n (cause_of req Begun) (rows.Dropped old.0 (drops.By req)) (rows.Started req None ∷ rows.Sent its.job ∷ []) (no_job n (cause_of req Begun) (rows.Dropped old.0 (drops.By req)) tt tt (λ job is. cc)) own)

    -- one order goes in the log without questions
    sent_one : (job : Job) → is_question job.task ≡ false → EachGoes e [] (rows.Sent job ∷ [])
    sent_one job none = one_goes e (rows.Sent job) (sent_goes e [] job none)

    -- the document that is sent to a fragment is its navigable's
    fragment_own : (sent : WasSent (now_of e []) req nav mode address out) → IsOfItsLoad (now_of e out) sent.job.doc req
    fragment_own sent =
        let placed : place_of (seen_start e) nav ≡ Some sent.fragment.place = ap (λ (x : Seen). place_of x nav) (sym (now e req None load its.by_user its.own (next_start e req.0 its.next) its.read)) ∙ sent.fragment.there in
        let home : IsHomed (seen_start e).documents sent.fragment.place sent.job.doc = stands.between.tab.homes.homed nav sent.fragment.place sent.job.doc placed sent.doc in
        let first = (keeps_coming blame (seen_start e) (now_of e []) comes).homes sent.job.doc home.home.document home.home.found in
        let d = over.homes sent.job.doc first.0 first.1 in
        let q = over.asked req (new e req None load its.by_user its.own (next_start e req.0 its.next) its.read) there in
        let navs : d.0.nav ≡ nav = d.2 ∙ first.2 ∙ home.home.nav_is ∙ found_nav (seen_start e).places nav sent.fragment.place placed in
        record {
          q = q.0;
          found = q.1;
          d = d.0;
          there = d.1;
          its = ap nav_of_request q.2 ∙ ap (λ (x : NavId). let o : Option NavId = Some x in o) (sym navs);
        }
      where
        one : (row : RowKind) → Has (rows.Sent sent.job ∷ []) row → IsOfCoord row
        one row (inl is) = subst (λ (r : RowKind). IsOfCoord r) is tt
        one row (inr never) = absurd never

        over : KeepsWhat (now_of e []) (now_of e out)
        over =
            subst (λ (l : List RowKind). KeepsWhat (now_of e []) (now_of e l)) (sym sent.is) (record {
              asked = λ r q at. (let still = still_over e (rows.Sent sent.job ∷ []) [] (sent_one sent.job (ap is_question sent.task)) one r q at in (still.r, still.at, still.what));
              homes = λ doc d found. (let h = sent_homes (now_of e []) sent.job sent.job.task doc d found in (h.0, ap (λ (x : Seen). document_of x doc) (sent_now e [] sent.job (ap is_question sent.task)) ∙ h.1, h.2));
            })

    -- it will run
    fragment_fits : (sent : WasSent (now_of e []) req nav mode address out) → IsFittingOrder (now_of e []) sent.job sent.job.task
    fragment_fits sent =
        subst (λ (t : Task). IsFittingOrder (now_of e []) sent.job t) (sym sent.task)
        (awake_will_run (now_of e []) sent.job nav sent.fragment.place awake_now sent.fragment.there sent.doc)

    -- as a load begins no document is sent to a fragment
    begun_sends : (begun : HasLoadBegun (now_of e []) req nav address out) → (job : Job) → Has out (rows.Sent job) → IsFragmentTask job.task → ⊥
    begun_sends begun job has = by_gives begun.gives (subst (λ (l : List RowKind). Has l (rows.Sent job)) begun.is has)
      where
        the_job : (a b : Job) → rows.Sent a ≡ rows.Sent b → a ≡ b
        the_job a b is = cc

        own : Has (rows.Started req None ∷ rows.Sent begun.job ∷ []) (rows.Sent job) → IsFragmentTask job.task → ⊥
        own (inl is) fragment = absurd cc
        own (inr (inl is)) fragment =
            subst (λ (t : Task). IsFragmentTask t) begun.task (subst (λ (j : Job). IsFragmentTask j.task) (sym (the_job begun.job job is)) fragment)
        own (inr (inr never)) fragment = never

        by_gives : HasGivenWay (now_of e []) req nav begun.gave → Has (begun.gave ++ rows.Started req None ∷ rows.Sent begun.job ∷ []) (rows.Sent job) → IsFragmentTask job.task → ⊥
        by_gives (inl none) there =
            own (subst (λ (l : List RowKind). Has (l ++ rows.Started req None ∷ rows.Sent begun.job ∷ []) (rows.Sent job)) none.0 there)
        by_gives (inr old) there =
            behind (subst (λ (l : List RowKind). Has (l ++ rows.Started req None ∷ rows.Sent begun.job ∷ []) (rows.Sent job)) old.2 there)
          where
            behind : Has (rows.Dropped old.0 (drops.By req) ∷ rows.Started req None ∷ rows.Sent begun.job ∷ []) (rows.Sent job) → IsFragmentTask job.task → ⊥
            behind (inl is) = absurd cc
            behind (inr rest) = own rest

    fine_came : (loaded : Loaded) → CameTo e req nav mode address out loaded → Fine loaded out
    fine_came Refused came =
        subst (λ (l : List RowKind). Fine Refused l) (sym came.is) (one_fine n (cause_of req Refused) (rows.Refused req came.reason) (no_job n (cause_of req Refused) (rows.Refused req came.reason) tt tt (λ job is. cc)))
    fine_came CutOff came =
        subst (λ (l : List RowKind). Fine CutOff l) (sym came.1.is) (one_fine n (cause_of req CutOff) (rows.Dropped req (drops.By came.1.by)) (no_job n (cause_of req CutOff) (rows.Dropped req (drops.By came.1.by)) tt tt (λ job is. cc)))
    fine_came ToFragment came =
        subst (λ (l : List RowKind). Fine ToFragment l) (sym came.1.is) (one_fine n (cause_of req ToFragment) (rows.Sent came.1.job) (fine_fragment n (cause_of req ToFragment) came.1.job req mode address came.1.task (fragment_own came.1)))
    fine_came Asks came = subst (λ (l : List RowKind). Fine Asks l) (sym came.1.is) (λ row has. absurd has)
    fine_came Begun came = fine_begun came.1

    module _ (loaded : Loaded) (came : CameTo e req nav mode address out loaded) (moves : Queue) (ready : IsReady (pass_of e []) out u moves noted (cause_of req loaded)) where
      abbrev tab : IsTab u.running [] [] (now_of e out)
      tab = ready.passing.going.tab

      pub load_makes : MakesServe (now_of e out)
      load_makes =
          makes_over e u.running out ready.passing.work.goes (cause_of req loaded) tab.asked ready.open_.may (fine_came loaded came) (makes_first e its.read (ap (λ (k : RowKind). leads k) its.own) comes.serves stands.lasts.makes)

      pub load_coord : (row : RowKind) → Has out row → IsOfCoord row
      load_coord row has = (fine_came loaded came row has).coord

      pub load_moves : MoveNobody (now_of e out) out
      load_moves = fine_moves n n (cause_of req loaded) out (fine_came loaded came)

      pub load_sound : OrdersAreSound (now_of e out)
      load_sound =
          sound_over e u.running out ready.passing.work.goes (cause_of req loaded) tab.asked ready.open_.may (fine_came loaded came) (sound_first e its.read (ap (λ (k : RowKind). leads k) its.own) (keeps_coming blame (seen_start e) (now_of e []) comes) stands.lasts.sound)

      -- ---- fragment orders, and reports of them

      pub load_found : AreFoundRunning (now_of e []) → AreFoundRunning (now_of e out)
      load_found found = by_loaded loaded came
        where
          by_loaded : (l : Loaded) → CameTo e req nav mode address out l → AreFoundRunning (now_of e out)
          by_loaded Refused its_ =
              subst (λ (l : List RowKind). AreFoundRunning (now_of e l)) (sym its_.is) (running_over e (rows.Refused req its_.reason ∷ []) [] (tt, tt) (one_goes e (rows.Refused req its_.reason) (refused_goes e [] req its_.reason)) found)
          by_loaded CutOff its_ =
              subst (λ (l : List RowKind). AreFoundRunning (now_of e l)) (sym its_.1.is) (running_over e (rows.Dropped req (drops.By its_.1.by) ∷ []) [] (tt, tt) (one_goes e (rows.Dropped req (drops.By its_.1.by)) (dropped_goes e [] req (drops.By its_.1.by))) found)
          by_loaded ToFragment its_ =
              subst (λ (l : List RowKind). AreFoundRunning (now_of e l)) (sym its_.1.is) (running_over e (rows.Sent its_.1.job ∷ []) [] (fragment_fits its_.1, tt) (sent_one its_.1.job (ap is_question its_.1.task)) found)
          by_loaded Asks its_ = subst (λ (l : List RowKind). AreFoundRunning (now_of e l)) (sym its_.1.is) found
          by_loaded Begun its_ =
              plain_found e out [] ready.passing.work.goes load_coord (begun_sends its_.1) tab.whose.numbered desks_now found

      pub load_telling : AreTelling (now_of e []) → AreTelling (now_of e out)
      load_telling telling = telling_over e out [] ready.passing.work.goes load_coord telling

-- the tab may be brought to rest then
module _ (e : InEvent) (c : Coordinator) (open_ : IsOpenTo e c) (req : ReqId) (nav : NavId) (mode : Mode) (address : List ℕ) (asked : IsAsk e req (asks.Load nav mode address)) where
  pub load_logged : IsLogged e c.tables.checks
  load_logged = accepted_logged e c open_.in_ req None (requests.Load nav mode address) asked.own asked.next

  pub load_lasts : LastsInLog e.checking c.tables.asking (log_of e [])
  load_lasts = accepted_log e c open_.in_ req None (requests.Load nav mode address) asked.own asked.next

  pub load_asks : IsLoadAsk e req nav mode address
  load_asks =
      record {
        by_user = asked.by_user;
        own = asked.own;
        next = asked.next;
        outside = off e c open_.in_ req;
        apart = λ other q at on. absurd (let never : true ≡ false = sym on ∙ off e c open_.in_ other in cc);
        uncut = open_.in_.uncut;
        undue = open_.in_.undue;
        read = load_logged.read;
      }

  -- a walk may leave documents
  pub load_free : MayDiscardIn false e
  load_free = none_steps e.checking (off e c open_.in_) (log_of e [])

  pub load_slots : AreSlots (log_of e []) c.slots.entries
  load_slots =
      own_slots e c.slots.entries open_.in_.uncut (rows.Accepted req None (requests.Load nav mode address)) asked.own tt open_.slots

  -- nobody has a handler, so it asks nobody
  asks_none : (out : List RowKind) → IsToAsk e nav mode address out → AreDocs (now_of e []) → ⊥
  asks_none out its docs =
      let nobody : due_questions (log_of e []) (requests.Load nav mode address) None ≡ [] = subst (λ (x : Seen). due_questions x (requests.Load nav mode address) None ≡ []) (sym (accepted_plain e c open_.in_ req None (requests.Load nav mode address) asked.own).same) (none_asked (now_of e []) docs (requests.Load nav mode address) None) in
      let never : false ≡ true = sym (ap (λ (l : List Question). is_some (slice_get l 0)) nobody) ∙ its.asks in
      absurd cc

  -- so nothing is at hand any more
  by_hand : (loaded : Loaded) (out : List RowKind) (u : Tables) (moves : Queue) (noted : List (StateId × ReqId)) → CameTo e req nav mode address out loaded → IsReady (pass_of e (hand_of req loaded [])) out u moves noted (cause_of req loaded) → IsReady (pass_of e []) out u moves noted (cause_of req loaded)
  by_hand Refused out u moves noted came ready = ready
  by_hand CutOff out u moves noted came ready = ready
  by_hand ToFragment out u moves noted came ready = ready
  by_hand Asks out u moves noted came ready =
      absurd (asks_none out came.1 (subst (λ (l : List RowKind). AreDocs (now_of e l)) came.1.is ready.passing.going.tab.docs))
  by_hand Begun out u moves noted came ready = ready

  pub load_settles : (loaded : Loaded) (out : List RowKind) (after : Coordinator) → after.header ≡ c.header → after.slots.entries ≡ c.slots.entries → CameTo e req nav mode address out loaded → IsReady (pass_of e (hand_of req loaded [])) out after.tables after.queue after.blame.entries (cause_of req loaded) → (cause : Why) → cause ≡ cause_of req loaded → IsToSettle e out after cause
  load_settles loaded out after header slots came ready_ cause is =
      record {
        header = header ∙ open_.in_.header;
        unchecked = open_.in_.unchecked;
        unwanted = open_.in_.unwanted;
        starts = (accepted_plain e c open_.in_ req None (requests.Load nav mode address) asked.own).same;
        ready = subst (λ (w : Why). IsReady (pass_of e []) out after.tables after.queue after.blame.entries w) (sym is) ready;
        makes = load_makes e c.tables c.queue c.blame.entries stands req nav mode address load_asks load_lasts out after.tables after.blame.entries loaded came after.queue ready;
        sound = load_sound e c.tables c.queue c.blame.entries stands req nav mode address load_asks load_lasts out after.tables after.blame.entries loaded came after.queue ready;
        coord = load_coord e c.tables c.queue c.blame.entries stands req nav mode address load_asks load_lasts out after.tables after.blame.entries loaded came after.queue ready;
        unmoved = load_moves e c.tables c.queue c.blame.entries stands req nav mode address load_asks load_lasts out after.tables after.blame.entries loaded came after.queue ready;
        shows = load_shows e c.tables c.queue c.blame.entries stands req nav mode address load_asks load_lasts;
        known = load_lasts.known;
        taken = load_taken e c.tables c.queue c.blame.entries stands req nav mode address load_asks load_lasts out;
        found = load_found e c.tables c.queue c.blame.entries stands req nav mode address load_asks load_lasts out after.tables after.blame.entries loaded came after.queue ready (accepted_found e c open_.in_ req None (requests.Load nav mode address) asked.own);
        telling = load_telling e c.tables c.queue c.blame.entries stands req nav mode address load_asks load_lasts out after.tables after.blame.entries loaded came after.queue ready (accepted_telling e c open_.in_ req None (requests.Load nav mode address) asked.own);
        slots =
            subst (λ (l : List (DocId × ℕ)). AreSlots (log_of e out) l) (sym slots)
            (rows_slots e c.slots.entries out [] (load_coord e c.tables c.queue c.blame.entries stands req nav mode address load_asks load_lasts out after.tables after.blame.entries loaded came after.queue ready) load_slots);
      }
    where
      stands : StandsFor none_in_check (seen_start e) c.tables c.queue c.blame.entries
      stands = seen_stands e c open_.in_

      ready : IsReady (pass_of e []) out after.tables after.queue after.blame.entries (cause_of req loaded)
      ready = by_hand loaded out after.tables after.queue after.blame.entries came ready_

-- ---- what was put out for what a document made: one row, which ends its request

ends_coord : (e : InEvent) (kind : RowKind) (req : ReqId) → Ends e kind req → IsOfCoord kind
ends_coord e (rows.Applied r change) req ends = tt
ends_coord e (rows.Refused r reason) req ends = tt
ends_coord e (rows.Dropped r cause) req ends = tt
ends_coord e _ req ends = absurd cc

ends_no_order : (e : InEvent) (kind : RowKind) (req : ReqId) → Ends e kind req → (job : Job) → kind ≡ rows.Sent job → ⊥
ends_no_order e kind req ends job is =
    let never : None ≡ Some req = sym (ap (λ (k : RowKind). ends_in (row_of e k)) is) ∙ ends in cc

pub ended_put : (e : InEvent) (out : List RowKind) (made : Made) → EndsAlone e [] out made → HasPut e [] out
ended_put e out made ended =
    record {
      more = ended.kind ∷ [];
      is = ended.out;
      each = coord;
      plain = λ job has. absurd (none job has);
      makes = λ job has make. absurd (none job has);
    }
  where
    coord : (row : RowKind) → Has (ended.kind ∷ []) row → IsOfCoord row
    coord row (inl is) = subst (λ (r : RowKind). IsOfCoord r) is (ends_coord e ended.kind made.req ended.ends)
    coord row (inr never) = absurd never

    none : (job : Job) → Has (ended.kind ∷ []) (rows.Sent job) → ⊥
    none job (inl is) = ends_no_order e ended.kind made.req ended.ends job is
    none job (inr never) = never
