-- Whom requests leave was asked, from row to row, where what is known is of the log as it would be had nobody been asked.
use Rattle.std.proofs.Common.{◌≡◌, ℕ, Bool, cond, true, false, List, [], Option, Some, None, inl, inr, ap, length, refl, subst, sym, ◌+◌, ◌==◌, ◌∙◌, ◌⊎◌}
use Rattle.std.proofs.lemmas.List.{length-map}
use Rattle.std.specs.Prelude.{option_map}
use Rattle.tab_ids.specs.declared.DocId.{DocId}
use Rattle.tab_ids.specs.declared.NavId.{NavId}
use Rattle.tab_ids.specs.declared.ReqId.{ReqId}
use Rattle.tab_ids.specs.declared.Step.{Step}
use Rattle.log_model.specs.After.{after}
use Rattle.log_model.specs.Checks.{may_be_left}
use Rattle.log_model.specs.Events.{Point}
use Rattle.log_model.specs.History.{fits, has_nav, has_row}
use Rattle.log_model.specs.Orders.{Question, due_questions}
use Rattle.log_model.specs.Places.{is_traversal, way_of}
use Rattle.log_model.specs.Queue.{is_step_under_way}
use Rattle.log_model.specs.Seen.{Asked, Document, Place, Seen, desk_of, document_of, place_of, request_of}
use Rattle.log_model.specs.Soundness.{IsSound}
use Rattle.log_model.specs.declared.change.Change.TheVariants as changes
use Rattle.log_model.specs.declared.change.Change.{Change}
use Rattle.log_model.specs.declared.job.Job.{Job}
use Rattle.log_model.specs.declared.job.Task.TheVariants as tasks
use Rattle.log_model.specs.declared.job.Task.{Task}
use Rattle.log_model.specs.declared.request.Mode.{Mode}
use Rattle.log_model.specs.declared.request.Request.TheVariants as requests
use Rattle.log_model.specs.declared.request.Request.{Request}
use Rattle.log_model.specs.declared.row_kind.Actor.{Actor}
use Rattle.log_model.specs.declared.row_kind.RowKind.TheVariants as rows
use Rattle.log_model.specs.declared.job.Order.{Order}
use Rattle.log_model.specs.declared.outcome.Outcome.TheVariants as outcomes
use Rattle.log_model.specs.declared.outcome.Outcome.{Outcome}
use Rattle.seen_facts.specs.Desk.Own.{AreDesksIn}
use Rattle.seen_facts.specs.Doc.Docs.{AreDocs, makes_by}
use Rattle.seen_facts.specs.Transit.Orders.{IsOutcomeOf}
use Rattle.slot_facts.proofs.Finished.{IsUnmade, unmade}
use Rattle.tab_ids.specs.declared.ProcId.{ProcId}
use Rattle.leave_facts.proofs.Applied.{FitsWell, GoesAlone, changed}
use Rattle.leave_facts.proofs.Awakes.{AsksDue}
use Rattle.leave_facts.proofs.Carried.{AreLeftDuly, FillsUnmade, MakesNew, alone_duly, change_duly, load_duly, row_duly, traversal_duly}
use Rattle.leave_facts.proofs.Changes.{KeepsTo}
use Rattle.leave_facts.proofs.Frames.{IsNobodys}
use Rattle.leave_facts.proofs.Leaves.{left_below}
use Rattle.leave_facts.proofs.Unbegun.{left_late}
use Rattle.seen_facts.proofs.Hang.Frames.{IsNoFrame}
use Rattle.leave_facts.specs.Leaving.{IsBelow, IsGoing, leaves_nav}
use Rattle.seen_facts.specs.Each.Runs.{OnlyRuns, is_run, is_this}
use Rattle.seen_facts.specs.Hang.Hanging.{Hangs}
use Rattle.seen_facts.specs.Hang.Members.{Has}
use Rattle.seen_facts.specs.Home.Homes.{AreHomed, IsAtHome, IsOnAwake}
use Rattle.seen_laws.specs.Unasked.{unasked, unasked_request, unbegun, unhandled, without_asks}
use Rattle.tab_facts.specs.Calm.Calm.{IsCalmYet, IsHere}
use Rattle.unasked.proofs.Readings.{checked_off, document_read, found_from, request_read}
use Rattle.unasked_dues.proofs.Base.{document_from}
use Rattle.unasked_dues.specs.Checking.{AreNumbered, NoStepChecks}

-- a document's change keeps to its navigable's document state, a frame that is added is of no document yet, and a traversal goes alone
abbrev pub BareKeeps : (ReqId → Bool) → Seen → ReqId → Change → Type 0
BareKeeps checking s req (changes.Traverse goal) = GoesAlone s req
BareKeeps checking s req change = KeepsTo (unasked checking s) req change

module _ (checking : ReqId → Bool) (s : Seen) where
  -- the log without questions
  abbrev pub bare : Seen
  bare = unasked checking s

  -- ---- documents and places

  -- a document of the log is there without its handler
  document_bare : (doc : DocId) (d : Document) → document_of s doc ≡ Some d → document_of (unasked checking s) doc ≡ Some (unhandled d)
  document_bare doc d found = document_read checking s doc ∙ ap (λ (o : Option Document). option_map unhandled o) found

  -- and none that is there is none of the log
  none_bare : (doc : DocId) → document_of (unasked checking s) doc ≡ None → document_of s doc ≡ None
  none_bare doc none = by_found (document_of s doc) refl (sym (document_read checking s doc) ∙ none)
    where
      by_found : (o : Option Document) → document_of s doc ≡ o → option_map unhandled o ≡ None → document_of s doc ≡ None
      by_found None e is = e
      by_found (Some d) e is = absurd cc

  pub hangs_log : Hangs (unasked checking s) → Hangs s
  hangs_log hangs = record { woven = hangs.woven; rows = hangs.rows }

  home_log : (nav : NavId) (doc : DocId) → IsAtHome (unasked checking s).documents nav doc → IsAtHome s.documents nav doc
  home_log nav doc home =
      let from = document_from checking s doc home.document home.found in
      record {
        document = from.0;
        found = from.1;
        nav_is = ap (λ (d : Document). d.nav) (sym from.2) ∙ home.nav_is;
        ready = ap (λ (d : Document). d.is_ready) (sym from.2) ∙ home.ready;
        undiscarded = ap (λ (d : Document). d.is_discarded) (sym from.2) ∙ home.undiscarded;
        unknown = ap (λ (d : Document). d.is_known_dead) (sym from.2) ∙ home.unknown;
      }

  on_log : (place : Place) (parent : NavId) → IsOnAwake (unasked checking s) place parent → IsOnAwake s place parent
  on_log place parent on =
      let from = document_from checking s on.doc on.document on.found in
      record {
        above = on.above;
        there = on.there;
        doc = on.doc;
        wakes = on.wakes;
        document = from.0;
        found = from.1;
        owner = on.owner ∙ ap (λ (d : Document). let o : Option _ = Some d.state in o) from.2;
      }

  -- who is awake is at home
  pub homes_log : AreHomed (unasked checking s) → AreHomed s
  homes_log homes =
      record {
        homed = λ nav place doc at wakes. (let h = homes.homed nav place doc at wakes in record { home = home_log place.nav doc h.home; last = h.last });
        state = λ nav place doc at wakes row d has navs given found. homes.state nav place doc at wakes row (unhandled d) has navs given (document_bare doc d found);
        hung = λ nav place doc at wakes parent others above. on_log place parent (homes.hung nav place doc at wakes parent others above);
      }

  here_log : (place : Place) → IsHere (unasked checking s) place → IsHere s place
  here_log place here = record { shown = here.shown; target = here.target }

  -- the tab is calm
  pub calm_log : IsCalmYet (unasked checking s) → IsCalmYet s
  calm_log calm =
      record {
        here = λ nav place doc at wakes. by_here nav place (calm.here nav place doc at wakes);
        wakes = λ nav place at shown ever. calm.wakes nav place at shown ever;
      }
    where
      by_here : (nav : NavId) (place : Place) → (has_row nav s.history.rows ≡ false) ⊎ IsHere (unasked checking s) place → (has_row nav s.history.rows ≡ false) ⊎ IsHere s place
      by_here nav place (inl none) = inl none
      by_here nav place (inr here) = inr (here_log place here)

  -- ---- rows that begin no request and change no history

  -- an order to make a document makes a new one
  pub makes_log : (job : Job) (task : Task) → MakesNew (unasked checking s) job task → MakesNew s job task
  makes_log job (tasks.Populate nav state address initial) new = none_bare job.doc new
  makes_log job (tasks.Activate entry epoch length index memo address) new = tt
  makes_log job (tasks.Update length index) new = tt
  makes_log job tasks.Freeze new = tt
  makes_log job tasks.Discard new = tt
  makes_log job (tasks.Ask slot cause) new = tt
  makes_log job (tasks.DoFragment req mode address) new = tt

  module _ (event : ℕ) (actor : Actor) (duly : AreLeftDuly s) where
    pub bare_sent_duly : (job : Job) → MakesNew (unasked checking s) job job.task → AreLeftDuly (after s (record { event = event; actor = actor; row = rows.Sent job }))
    bare_sent_duly job new = row_duly s event actor duly (rows.Sent job) (makes_log job job.task new)

    pub bare_accepted_duly : (req : ReqId) (doc : Option DocId) (what : Request) → req.0 ≡ length (unasked checking s).requests + 1 → AreLeftDuly (after s (record { event = event; actor = actor; row = rows.Accepted req doc what }))
    bare_accepted_duly req doc what next =
        row_duly s event actor duly (rows.Accepted req doc what) (next ∙ ap (λ (n : ℕ). n + 1) (length-map s.requests (unasked_request checking)))

    -- an order is finished: a document that it makes isn't made yet
    pub bare_finished_duly : (proc : ProcId) (order : Order) (outcome : Outcome) → (desk_of s proc).in_hand ≡ Some order → IsOutcomeOf order.job.task outcome → AreDocs (unasked checking s) → AreDesksIn (unasked checking s) → AreLeftDuly (after s (record { event = event; actor = actor; row = rows.Finished proc order.job.nr outcome }))
    bare_finished_duly proc order outcome hand its docs desks =
        row_duly s event actor duly (rows.Finished proc order.job.nr outcome)
        (subst (λ (o : Option Job). FillsUnmade s o outcome) (sym (ap (λ (o : Option Order). option_map (λ (x : Order). x.job) o) hand)) (fills outcome its))
      where
        makes_one : (task : Task) (slot : Option ℕ) → IsOutcomeOf task (outcomes.Populated slot) → makes_by true task ≡ 1
        makes_one (tasks.Populate nav state address initial) slot is = refl
        makes_one _ slot is = elim is [ ]

        fills : (o : Outcome) → IsOutcomeOf order.job.task o → FillsUnmade s (Some order.job) o
        fills (outcomes.Populated slot) is =
            let it : IsUnmade s.documents order.job.doc = unmade s checking docs desks proc order hand (makes_one order.job.task slot is) in rw (it.found) (it.unready)
        fills outcomes.Activated is = tt
        fills outcomes.Updated is = tt
        fills outcomes.Frozen is = tt
        fills outcomes.Discarded is = tt
        fills (outcomes.Asked verdict) is = tt
        fills outcomes.Fragmented is = tt

    -- ---- changes

    fits_log : (change : Change) → FitsWell (unasked checking s) change → FitsWell s change
    fits_log change well =
        record {
          sound = well.sound;
          hangs = hangs_log well.hangs;
          fit = well.fit;
          brings = well.brings;
          then_sound = well.then_sound;
        }

    nobodys_log : (nav : NavId) → IsNobodys (unasked checking s) nav → IsNobodys s nav
    nobodys_log nav nobodys = record { each = λ doc d found. nobodys.each doc (unhandled d) (document_bare doc d found) }

    -- a document's change
    pub bare_change_duly : (req : ReqId) (change : Change) → FitsWell (unasked checking s) change → BareKeeps checking s req change → AreLeftDuly (changed s event actor req change)
    bare_change_duly req change well keeps = change_duly s event actor duly req change (fits_log change well) (keeps_log change keeps)
      where
        keeps_log : (c : Change) → BareKeeps checking s req c → KeepsTo s req c
        keeps_log (changes.Push nav entry state address memo) is = is
        keeps_log (changes.Replace nav over entry state address memo) is = is
        keeps_log (changes.AddFrame owner nav entry state) is = nobodys_log nav is
        keeps_log (changes.RemoveFrame nav) is = tt
        keeps_log (changes.Traverse goal) is = is
        keeps_log (changes.Reload nav) is = tt
        keeps_log changes.Edit is = tt

    -- a change that adds no frame, where no other traversal is under way
    pub bare_alone_duly : (req : ReqId) (change : Change) → IsNoFrame change → fits s.history change ≡ true → GoesAlone s req → AreLeftDuly (changed s event actor req change)
    bare_alone_duly req change no_frame fit alone = alone_duly s event actor duly req change no_frame fit alone

    -- ---- a request begins that asks nobody

    module _ (sound : IsSound s.history) (hangs : Hangs (unasked checking s)) (homes : AreHomed (unasked checking s)) (req : ReqId) (q : Asked) (found : request_of s req ≡ Some q) where
      -- nobody is due to be asked
      asks_none : (what : Request) (goal : Option Step) → due_questions s what goal ≡ [] → AsksDue s what goal []
      asks_none what goal none =
          record { each = λ question due. absurd (subst (λ (l : List Question). Has l question) none due) }

      pub bare_traversal_duly : (goal : Step) → is_traversal q.what ≡ true → IsCalmYet (unasked checking s) → due_questions s q.what (Some goal) ≡ [] → AreLeftDuly (after s (record { event = event; actor = actor; row = rows.Started req (Some goal) }))
      bare_traversal_duly goal traverses calm none =
          traversal_duly s event actor duly sound (hangs_log hangs) (homes_log homes) req q found [] tt goal traverses (calm_log calm) (asks_none q.what (Some goal) none)

      pub bare_load_duly : (nav : NavId) (mode : Mode) (address : List ℕ) → q.what ≡ requests.Load nav mode address → due_questions s q.what None ≡ [] → AreLeftDuly (after s (record { event = event; actor = actor; row = rows.Started req None }))
      bare_load_duly nav mode address loads none =
          load_duly s event actor duly sound (hangs_log hangs) (homes_log homes) req q found [] tt nav mode address loads (asks_none q.what None none)

  -- ---- no other traversal is under way

  -- the traversal that runs alone in the log without questions runs alone in the log, where no step is in its check
  pub alone_log : NoStepChecks checking s → AreNumbered s → (req : ReqId) (run : Option ReqId) → OnlyRuns run (unasked checking s) → ((r : ReqId) → is_this run r ≡ true → (r.0 == req.0) ≡ true) → GoesAlone s req
  alone_log unheld numbered req run only its = record { none = none }
    where
      none : (r : ReqId) (q : Asked) (goal : Step) → IsGoing s r q goal → (r.0 == req.0) ≡ true
      none r q goal is = by_check (checking r) refl
        where
          by_check : (b : Bool) → checking r ≡ b → (r.0 == req.0) ≡ true
          by_check true on =
              let never : is_step_under_way q ≡ true = rw (is.going, is.traverses) refl in
              let no_ : false ≡ true = sym (unheld r q is.found on) ∙ never in
              absurd cc
          by_check false off =
              let there : request_of (unasked checking s) r ≡ Some (without_asks q) = request_read checking s r ∙ ap (λ (o : Option Asked). option_map (unasked_request checking) o) is.found ∙ ap (λ (x : Asked). let o : Option Asked = Some x in o) (checked_off checking q (ap checking (numbered r q is.found) ∙ off)) in
              let runs : is_run (without_asks q) ≡ true = rw (is.going, is.traverses) refl in
              its r (sym (only r (without_asks q) there) ∙ runs)

-- ---- whom a request may leave

module _ (p : Point) (checking : ReqId → Bool) (duly : AreLeftDuly p.now) where
  -- one that hasn't begun there hasn't begun in the log, or is in its check; where it isn't, it may leave any
  pub late_left_bare : (doc : DocId) (req : ReqId) (q : Asked) → request_of (unasked checking p.now) req ≡ Some q → q.is_started ≡ false → checking req ≡ false → AreNumbered p.now → may_be_left p doc req ≡ true
  late_left_bare doc req q at unbegun off numbered =
      let from = found_from checking p.now req q at in
      let same : q ≡ without_asks from.0 = from.2 ∙ checked_off checking from.0 (ap checking (numbered req from.0 from.1) ∙ off) in
      left_late p duly.late doc req from.0 from.1 (ap (λ (x : Asked). x.is_started) (sym same) ∙ unbegun)

  -- a load or reload that has begun may leave whoever is at or below its navigable
  pub below_left_bare : (doc : DocId) (d : Document) → document_of (unasked checking p.now) doc ≡ Some d → (req : ReqId) (q : Asked) (nav : NavId) → IsBelow (unasked checking p.now) req q nav → (place : Place) → place_of p.now d.nav ≡ Some place → has_nav (way_of place) nav ≡ true → may_be_left p doc req ≡ true
  below_left_bare doc d there req q nav is place at below =
      let from = document_from checking p.now doc d there in
      let asked = found_from checking p.now req q is.found in
      let off : checking asked.0.nr ≡ false = begun_off asked.0 (ap (λ (x : Asked). x.is_started) (sym asked.2) ∙ is.started) in
      let same : q ≡ without_asks asked.0 = asked.2 ∙ checked_off checking asked.0 off in
      left_below p duly.below doc from.0 from.1 req asked.0 nav (record {
        found = asked.1;
        started = ap (λ (x : Asked). x.is_started) (sym same) ∙ is.started;
        leaves = ap (λ (x : Asked). leaves_nav x.what) (sym same) ∙ is.leaves;
      }) place (ap (λ (x : Document). place_of p.now x.nav) (sym from.2) ∙ at) below
    where
      begun_off : (x : Asked) → (unasked_request checking x).is_started ≡ true → checking x.nr ≡ false
      begun_off x = by_check (checking x.nr)
        where
          by_check : (b : Bool) → (let y : Asked = cond b (unbegun x) (without_asks x) in y).is_started ≡ true → b ≡ false
          by_check false is_ = refl
          by_check true never = absurd cc
