-- A report tells what a document made, and that is at hand, held back for the traversal that runs, or a traversal that joins the queue: all goes on.
use Rattle.load_doors.proofs.Starts.{requests_start}
use Rattle.tab_stands.proofs.Applied.{none_applied}
use Rattle.seen_facts.specs.Asked.Asking.{IsTabRequest}
use Rattle.seen_facts.specs.Coord.Leading.{held_back}
use Rattle.seen_facts.proofs.Fragment.Delivered.{held_then, unheld_then}
use Rattle.log_model.specs.ActsAtOnce.{is_ready_load}
use Rattle.log_model.specs.AfterRequests.{changes_history, is_held_back, is_held_up, is_in_place, joined_delivered, made_of_report}
use Rattle.log_model.specs.Causes.{takes_report}
use Rattle.log_model.specs.Equal.{has_req, holds}
use Rattle.log_model.specs.History.{has_nav}
use Rattle.log_model.specs.Once.{delta_of, has_to_begin}
use Rattle.log_model.specs.Places.{aim_of, all_stand, all_stand_in, goes, running_traversal}
use Rattle.log_model.specs.Points.{nav_of_request}
use Rattle.log_model.specs.Seen.{Asked, Document, Place, Seen, request_in}
use Rattle.log_model.specs.declared.action.Action.{Action}
use Rattle.log_model.specs.declared.made.Made.{Made}
use Rattle.log_model.specs.declared.made.Report.{Report}
use Rattle.log_model.specs.declared.request.Request.{Request}
use Rattle.move_queue.specs.Queue.{Queue}
use Rattle.move_queue.specs.declared.queue_step.QueueStep.{QueueStep}
use Rattle.move_queue.specs.declared.queue_step.QueueStep.TheVariants.{Traverse}
use Rattle.seen_facts.proofs.Request.Placings.{IsNoGo, unqueued}
use Rattle.seen_facts.specs.Request.Cores.{Core}
use Rattle.seen_facts.specs.Request.Knowns.{is_go}
use Rattle.seen_laws.specs.InEvent.{InEvent, now_of}
use Rattle.std.proofs.Common.{Bool, List, None, Option, Some, [], ap, eqb-true, false, filter, inl, inr, length, refl, subst, sym, true, ℕ, ℤ, ◌&&◌, ◌++◌, ◌==◌, ◌||◌, ◌∙◌, ◌∷◌, ◌≡◌, ◌⊎◌}
use Rattle.std.proofs.lemmas.Bool.{and_parts}
use Rattle.std.specs.Prelude.{option_and_then}
use Rattle.tab_settles.specs.PassedOn.{AreHeldUp, AreStepsOf, AwaitTurns, HasQueue, HaveJoined, IsByItsOwn, IsTab, delta_in, is_traverse}
use Rattle.tab_doors.specs.declared.tables.Tables.{Tables}
use Rattle.tab_ids.specs.declared.NavId.{NavId}
use Rattle.tab_ids.specs.declared.ProcId.{ProcId}
use Rattle.tab_ids.specs.declared.ReqId.{ReqId}
use Rattle.tab_ids.specs.declared.StateId.{StateId}
use Rattle.tab_settles.proofs.PassedOn.{hand_tab, held_tab, joined_tab, running_is}
use Rattle.tab_settles.specs.Settling.{IsQueueing, MayRelease}
use Rattle.tab_stands.proofs.Coming.{aim_same}
use Rattle.tab_stands.proofs.Dones.{held_first}
use Rattle.tab_stands.proofs.Goes.{await_more, steps_more, tab_more, traverses_more}
use Rattle.tab_stands.proofs.Mades.{IsMadeFor, heard, heard_begun, heard_comes, heard_documents, heard_first, heard_now, heard_parked, heard_places, heard_requests, heard_tied, its_asked, its_nav, its_plain}
use Rattle.tab_stands.proofs.Reports.{told_held, told_waiting}
use Rattle.tab_stands.proofs.Waiting.{off_where_runs}
use Rattle.tab_stands.specs.Delivering.{IsSeenDelivery, IsToldOf}
use Rattle.tab_stands.specs.Standing.{HasBegun, HasLogged, HasRoomFor, InCheck, IsOwnRead, StandsFor, seen_start}
use Rattle.log_model.specs.declared.action.Action.TheVariants as acts
use Rattle.log_model.specs.declared.made.What.TheVariants as whats
use Rattle.log_model.specs.declared.request.Request.TheVariants as requests
use Rattle.log_model.specs.declared.row_kind.Actor.TheVariants as actors

-- among some and one more are the last, or some
among : (reqs : List ReqId) (last req : ReqId) → has_req (reqs ++ last ∷ []) req ≡ true → (has_req reqs req ≡ true) ⊎ (req ≡ last)
among [] last req has = by_test (last.0 == req.0) refl has
  where
    by_test : (b : Bool) → (last.0 == req.0) ≡ b → (b || false) ≡ true → (has_req [] req ≡ true) ⊎ (req ≡ last)
    by_test true is h = inr (ap (λ (n : ℕ). let x : ReqId = record { 0 = n } in x) (sym (eqb-true last.0 req.0 is)))
    by_test false is h = absurd cc
among (r ∷ reqs) last req has = by_test (r.0 == req.0) has (among reqs last req)
  where
    by_test : (b : Bool) → (b || has_req (reqs ++ last ∷ []) req) ≡ true → (has_req (reqs ++ last ∷ []) req ≡ true → (has_req reqs req ≡ true) ⊎ (req ≡ last)) → ((b || has_req reqs req) ≡ true) ⊎ (req ≡ last)
    by_test true h more = inl refl
    by_test false h more = more h

-- a poke that goes does so by a delta
going_delta : (nav : NavId) (action : Action) → goes action ≡ true → (delta : ℤ) × (delta_of (requests.Poke nav action) ≡ Some delta)
going_delta nav (acts.Go delta) e = (delta, refl)
going_delta nav (acts.Push memo reference) e = absurd cc
going_delta nav (acts.Replace memo reference) e = absurd cc
going_delta nav (acts.Fragment text) e = absurd cc
going_delta nav (acts.AddFrame child) e = absurd cc
going_delta nav (acts.RemoveFrame child) e = absurd cc
going_delta nav acts.Edit e = absurd cc

module _ (e : InEvent) (proc : ProcId) (report : Report) (made : Made) (del : IsSeenDelivery e proc report) (tells : IsToldOf report made) (t : Tables) (queue : Queue) (blame : List (StateId × ReqId)) {check : InCheck} (stands : StandsFor check (seen_start e) t queue blame) (aside : IsOwnRead e) where
  abbrev s : Seen
  s = seen_start e

  abbrev n : Seen
  n = heard e proc report made del tells t queue blame stands aside

  abbrev same : n.requests ≡ (seen_start e).requests
  same = heard_requests e proc report made del tells t queue blame stands aside

  documents_same : n.documents ≡ s.documents
  documents_same = heard_documents e proc report made del tells t queue blame stands aside

  abbrev asked : IsMadeFor s made
  asked = its_asked e proc report made del tells t queue blame stands aside

  now : now_of e [] ≡ n
  now = heard_now e proc report made del tells t queue blame stands aside

  joined_is : n.joined ≡ joined_delivered s.joined (Some made)
  joined_is =
      ap (λ (o : Option Made). joined_delivered s.joined o) (ap (λ (o : Option Report). option_and_then made_of_report o) del.first ∙ tells)

  -- ---- what waits

  -- each ready load was so
  await_still : AwaitTurns n queue.waiting
  await_still r q nav at ready its =
      stands.queue.ready r q nav (ap (λ (l : List Asked). request_in l r) (sym same) ∙ at) (ap (λ (l : List Document). let x : Seen = record s { documents = l } in is_ready_load x q) (sym documents_same) ∙ ready) its

  joined_still : n.joined ≡ s.joined → (run : Option ReqId) (steps : List QueueStep) → HaveJoined s run steps → HaveJoined n run steps
  joined_still joined None steps have =
      subst (λ (l : List ReqId). AreStepsOf n.requests l steps) (sym joined) (subst (λ (l : List Asked). AreStepsOf l s.joined steps) (sym same) have)
  joined_still joined (Some run) steps have =
      record { rest = have.rest; joined = joined ∙ have.joined; steps_ = subst (λ (l : List Asked). AreStepsOf l have.rest steps) (sym same) have.steps_ }

  queue_still : n.joined ≡ s.joined → HasQueue n t.running queue.waiting
  queue_still joined =
      record { traversals = joined_still joined t.running (filter is_traverse queue.waiting) stands.queue.traversals; ready = await_still; steps = stands.queue.steps }

  -- ---- nothing more is held back

  module _ (free : is_held_back (seen_start e) made ≡ false) where
    parked_same : n.parked ≡ s.parked
    parked_same = heard_parked e proc report made del tells t queue blame stands aside false free

    held_free : AreHeldUp t.running n
    held_free = told_held e proc del.by_coord del.own t queue blame stands aside report del.first same parked_same

    pub hand_release : e.before ≡ [] → MayRelease e []
    hand_release uncut =
        record {
          by_coord = del.by_coord;
          takes = ap takes_report del.own;
          many = ap (λ (x : Seen). length x.requests) now ∙ ap (λ (l : List Asked). length l) same ∙ requests_start e;
          old = λ req has. (
            ap (λ (l : List ReqId). has_req l req) (sym (held_first e uncut)) ∙ has,
            ap (λ (l : List ReqId). has_req l req) (sym parked_same) ∙ (ap (λ (x : Seen). has_req x.parked req) (sym now) ∙ has),
          );
        }

    queueing_free : e.before ≡ [] → (ids : List Made) → IsTab t.running check.loads ids n → (left : Queue) → HasQueue n t.running left.waiting → left.parked ≡ queue.parked → IsQueueing (record { event = e; loads = check.loads; hand = ids }) [] t left
    queueing_free uncut ids tab left queued parked =
        record {
          waits = told_waiting e proc del.by_coord del.own t queue blame stands aside report del.first same tab.known uncut;
          queued = subst (λ (x : Seen). HasQueue x t.running left.waiting) (sym now) queued;
          parked = parked ∙ stands.parked ∙ sym (unheld_then s e.event proc made (heard_first e proc report made del tells t queue blame stands aside) free) ∙ ap (λ (x : Seen). held_back x.requests x.parked) (sym now);
          held = λ idle. ap (λ (x : Seen). x.parked) now ∙ parked_same ∙ stands.between.held idle;
          over = λ has. absurd (none_applied e uncut has);
          releasing = λ some all. hand_release uncut;
        }

  -- ---- it is at hand

  pub hand_begun : IsNoGo made.what → is_held_back (seen_start e) made ≡ false → HasLogged e t.checks t.asking → HasRoomFor (seen_start e) → t.kept.keep ≡ e.header.keep → HasBegun (record { event = e; loads = check.loads; hand = made ∷ [] }) t queue blame
  hand_begun no_go free logged room header =
      heard_begun e proc report made del tells t queue blame stands aside logged room header (made ∷ []) tab (held_free free) queue (queueing_free free logged.logged.uncut (made ∷ []) tab queue (queue_still (unqueued s [] e.event actors.Coord proc report made del.first tells no_go)) refl)
    where
      tab : IsTab t.running check.loads (made ∷ []) n
      tab = hand_tab t.running s e.event proc stands.between.tab stands.between.flows report made del.first tells no_go free

  -- ---- it is held back

  module _ (no_go : IsNoGo made.what) (held : is_held_back (seen_start e) made ≡ true) where
    tab_held : IsTab t.running check.loads [] n
    tab_held = held_tab t.running s e.event proc stands.between.tab stands.between.flows report made del.first tells no_go held

    parked_more : n.parked ≡ s.parked ++ made.req ∷ []
    parked_more = heard_parked e proc report made del tells t queue blame stands aside true held

    abbrev its_own : IsByItsOwn s asked.q made
    its_own = its_nav e proc report made del tells t queue blame stands aside

    -- the traversal that runs has shown its navigable a document
    up : holds (λ (q : Asked). has_nav q.activated its_own.d.nav) (running_traversal s) ≡ true
    up =
        sym (ap (λ (o : Option Document). holds (λ (x : Document). holds (λ (q : Asked). has_nav q.activated x.nav) (running_traversal s)) o) its_own.found)
        ∙ (and_parts (changes_history made.what && is_in_place s made) (is_held_up s made) held).1

    up_by : (o : Option ReqId) → t.running ≡ o → holds (λ (q : Asked). has_nav q.activated its_own.d.nav) (option_and_then (λ (req : ReqId). request_in s.requests req) o) ≡ true
    up_by o is =
        sym (ap (λ (x : Option Asked). holds (λ (q : Asked). has_nav q.activated its_own.d.nav) x) (running_is s t.running stands.between.tab.asked ∙ ap (λ (x : Option ReqId). option_and_then (λ (req : ReqId). request_in s.requests req) x) is)) ∙ up

    -- so one runs
    busy : t.running ≡ None → ⊥
    busy idle = let never : false ≡ true = up_by None idle in cc

    held_more : AreHeldUp t.running n
    held_more = by_run t.running refl stands.lasts.held
      where
        by_run : (o : Option ReqId) → t.running ≡ o → AreHeldUp o s → AreHeldUp o n
        by_run None is old = tt
        by_run (Some run) is old =
            λ x q r nav has at its ran. by_place x q r nav (ap (λ (l : List Asked). request_in l x) (sym same) ∙ at) its (ap (λ (l : List Asked). request_in l run) (sym same) ∙ ran) (among s.parked made.req x (ap (λ (l : List ReqId). has_req l x) (sym parked_more) ∙ has))
          where
            by_place : (x : ReqId) (q r : Asked) (nav : NavId) → request_in s.requests x ≡ Some q → nav_of_request q.what ≡ Some nav → request_in s.requests run ≡ Some r → (has_req s.parked x ≡ true) ⊎ (x ≡ made.req) → has_nav r.moved nav ≡ true
            by_place x q r nav at its ran (inl has) = old x q r nav has at its ran
            by_place x q r nav at its ran (inr this) =
                let two : Some q ≡ Some asked.q = sym at ∙ ap (λ (y : ReqId). request_in s.requests y) this ∙ asked.there in
                let one : q ≡ asked.q = cc in
                let navs : Some nav ≡ Some its_own.d.nav = sym its ∙ ap (λ (y : Asked). nav_of_request y.what) one ∙ its_own.nav_is in
                let nav_is : nav ≡ its_own.d.nav = cc in
                let shown : has_nav r.activated its_own.d.nav ≡ true = sym (ap (λ (o : Option Asked). holds (λ (y : Asked). has_nav y.activated its_own.d.nav) o) ran) ∙ up_by (Some run) is in
                ap (λ (y : NavId). has_nav r.moved y) nav_is ∙ (stands.between.tab.asked.each run r ran).moved its_own.d.nav shown

    aim : aim_of (now_of e []) ≡ aim_of s
    aim =
        aim_same (seen_start e) t.running t.kept.keep t.goal blame (now_of e []) stands.between stands.lasts stands.tied.goal check.loads [] (subst (λ (x : Seen). IsTab t.running check.loads [] x) (sym now) tab_held) (heard_tied e proc report made del tells t queue blame stands aside).goal (heard_comes e proc report made del tells t queue blame stands aside)

    -- not all stand where the traversal leads to
    stands_not : all_stand (now_of e []) (aim_of (now_of e [])) ≡ true → ⊥
    stands_not all = by_run t.running refl
      where
        stood : all_stand (now_of e []) (aim_of (now_of e [])) ≡ all_stand s (aim_of s)
        stood =
            ap (λ (k : ℕ). all_stand (now_of e []) k) aim
            ∙ ap (λ (x : Seen). all_stand_in x.history.rows x.places (aim_of s)) now
            ∙ ap (λ (l : List Place). all_stand_in s.history.rows l (aim_of s)) (heard_places e proc report made del tells t queue blame stands aside)

        by_run : (o : Option ReqId) → t.running ≡ o → ⊥
        by_run None is = busy is
        by_run (Some run) is =
            let off : all_stand s (aim_of s) ≡ false = off_where_runs t.kept.keep t.running s stands.between stands.alone run is in
            let never : true ≡ false = sym all ∙ stood ∙ off in
            cc

    pub parked_begun : HasLogged e t.checks t.asking → HasRoomFor (seen_start e) → t.kept.keep ≡ e.header.keep → (left : Queue) → left ≡ record queue { parked = queue.parked ++ made ∷ [] } → HasBegun (record { event = e; loads = check.loads; hand = [] }) t left blame
    parked_begun logged room header left pushed =
        heard_begun e proc report made del tells t queue blame stands aside logged room header [] tab_held held_more left (record {
          waits = told_waiting e proc del.by_coord del.own t queue blame stands aside report del.first same tab_held.known logged.logged.uncut;
          queued = subst (λ (x : Seen). HasQueue x t.running left.waiting) (sym now) (subst (λ (l : List QueueStep). HasQueue n t.running l) (sym (ap (λ (q : Queue). q.waiting) pushed)) (queue_still (unqueued s [] e.event actors.Coord proc report made del.first tells no_go)));
          parked = ap (λ (q : Queue). q.parked) pushed ∙ ap (λ (l : List Made). l ++ made ∷ []) stands.parked ∙ sym (held_then s e.event proc made (heard_first e proc report made del tells t queue blame stands aside) asked.q asked.there asked.makes held) ∙ ap (λ (x : Seen). held_back x.requests x.parked) (sym now);
          held = λ idle. absurd (busy idle);
          over = λ has. absurd (none_applied e logged.logged.uncut has);
          releasing = λ some all. absurd (stands_not all);
        })

  -- ---- it is a traversal, and joins the queue

  module _ (delta : ℤ) (going : made.what ≡ whats.Go delta) where
    free_go : is_held_back (seen_start e) made ≡ false
    free_go = rw going refl

    tab_joined : IsTab t.running check.loads [] n
    tab_joined = joined_tab t.running s e.event proc stands.between.tab stands.between.flows report made del.first tells delta going

    joined_more : n.joined ≡ s.joined ++ made.req ∷ []
    joined_more = joined_is ∙ (rw going refl)

    -- its delta is the one that the request asks for
    delta_there : delta_in n.requests made.req ≡ Some delta
    delta_there = by_what asked.q.what refl (its_plain e proc report made del tells t queue blame stands aside).what begins
      where
        what_is : asked.known.what ≡ asked.q.what
        what_is = sym (ap (λ (c : Core). c.what) asked.is)

        begins : has_to_begin asked.q.what ≡ true
        begins = ap has_to_begin (sym what_is) ∙ asked.known.begins ∙ ap is_go going

        either : (b : Bool) → (b || false) ≡ true → b ≡ true
        either true h = refl
        either false h = absurd cc

        by_what : (what : Request) → asked.q.what ≡ what → IsTabRequest what → has_to_begin asked.q.what ≡ true → delta_in n.requests made.req ≡ Some delta
        by_what (requests.Go step) is plain begins_ = absurd (asked.known.no_user step (what_is ∙ is))
        by_what (requests.Poke nav action) is plain begins_ =
            let turns : goes action ≡ true = either (goes action) (ap has_to_begin (sym is) ∙ begins_) in
            let d : (step : ℤ) × (delta_of (requests.Poke nav action) ≡ Some step) = going_delta nav action turns in
            let asks : delta_of asked.q.what ≡ Some d.0 = ap delta_of is ∙ d.1 in
            let both : whats.Go delta ≡ whats.Go d.0 = sym going ∙ stands.lasts.lasting.moves.goes made.req asked.q asked.there made d.0 asked.makes asks in
            let one : delta ≡ d.0 = cc in
            ap (λ (l : List Asked). delta_in l made.req) same
            ∙ ap (λ (o : Option Asked). option_and_then (λ (q : Asked). delta_of q.what) o) asked.there
            ∙ asks
            ∙ ap (λ (x : ℤ). let o : Option ℤ = Some x in o) (sym one)
        by_what (requests.Load nav mode address) is plain begins_ =
            let never : false ≡ true = ap has_to_begin (sym is) ∙ begins_ in absurd cc
        by_what (requests.Reload nav) is never begins_ = absurd never

    behind : (reqs : List ReqId) (steps : List QueueStep) → AreStepsOf s.requests reqs steps → AreStepsOf n.requests (reqs ++ made.req ∷ []) (steps ++ Traverse made.req delta ∷ [])
    behind reqs steps are =
        steps_more n.requests reqs steps made.req delta delta_there (subst (λ (l : List Asked). AreStepsOf l reqs steps) (sym same) are)

    joined_then : (run : Option ReqId) (steps : List QueueStep) → HaveJoined s run steps → HaveJoined n run (steps ++ Traverse made.req delta ∷ [])
    joined_then None steps have =
        subst (λ (l : List ReqId). AreStepsOf n.requests l (steps ++ Traverse made.req delta ∷ [])) (sym joined_more) (behind s.joined steps have)
    joined_then (Some run) steps have =
        record { rest = have.rest ++ made.req ∷ []; joined = joined_more ∙ ap (λ (l : List ReqId). l ++ made.req ∷ []) have.joined; steps_ = behind have.rest steps have.steps_ }

    queue_more : HasQueue n t.running (queue.waiting ++ Traverse made.req delta ∷ [])
    queue_more =
        record {
          traversals = subst (λ (l : List QueueStep). HaveJoined n t.running l) (sym (traverses_more queue.waiting made.req delta)) (joined_then t.running (filter is_traverse queue.waiting) stands.queue.traversals);
          ready = await_more n queue.waiting (Traverse made.req delta) await_still;
          steps = tab_more queue.waiting (Traverse made.req delta) tt stands.queue.steps;
        }

    pub joined_begun : HasLogged e t.checks t.asking → HasRoomFor (seen_start e) → t.kept.keep ≡ e.header.keep → (left : Queue) → left ≡ record queue { waiting = queue.waiting ++ Traverse made.req delta ∷ [] } → HasBegun (record { event = e; loads = check.loads; hand = [] }) t left blame
    joined_begun logged room header left pushed =
        heard_begun e proc report made del tells t queue blame stands aside logged room header [] tab_joined (held_free free_go) left (queueing_free free_go logged.logged.uncut [] tab_joined left (subst (λ (l : List QueueStep). HasQueue n t.running l) (sym (ap (λ (q : Queue). q.waiting) pushed)) queue_more) (ap (λ (q : Queue). q.parked) pushed))
