-- What lasts is there as a tab opens, and is kept by each row that neither sends an order nor applies a change.
use Rattle.seen_facts.proofs.Coord.Unread.{accepted_left, answered_left, dropped_left, evicted_left, next, prompted_left, refused_left, started_left}
use Rattle.seen_facts.specs.Coord.Leading.{orders_of_desk}
use Rattle.seen_facts.proofs.Desk.Stays.{NoDeath}
use Rattle.seen_facts.specs.Desk.Own.{AreDesksIn, IsOrderIn, IsTaskOf}
use Rattle.seen_facts.proofs.Doc.Leaves.{KeepsDoc}
use Rattle.seen_facts.proofs.Each.Runs.{each_asked_more, each_asked_on}
use Rattle.seen_facts.specs.Each.Items.{Each}
use Rattle.tab_facts.proofs.Frame.Events as frames
use Rattle.tab_facts.proofs.Frame.Moves.{accepted_moves, acted_moves, delivered_moves, dropped_moves, finished_moves, moves_again, opened_moves, refused_moves, started_moves, taken_moves}
use Rattle.tab_facts.proofs.Frame.Naming.{acted_names, delivered_names, finished_names, left_names, taken_names}
use Rattle.tab_facts.proofs.Frame.Orders.{on_takers, or_takers, run_shown, wish_blind}
use Rattle.tab_facts.proofs.Frame.Parts.{TakersWere, some_same, takers_same}
use Rattle.tab_facts.proofs.Frame.Placed.{places_keep}
use Rattle.tab_facts.specs.Frame.Lasting.{IsMadeShown, IsOfItsNav, PokesItsNav, wish}
use Rattle.tab_facts.specs.Frame.Moving.{course}
use Rattle.tab_facts.proofs.Last.Parts.{LeavesRuns, StayDocs, again, docs_if, docs_same, docs_then, left_lasting, quietly, taken_again}
use Rattle.tab_facts.specs.Last.Lasting.{AreLasting}
use Rattle.log_model.specs.After.{new_request}
use Rattle.log_model.specs.AfterDocuments.{documents_delivered, documents_finished, on_document, slot_finished, view_finished}
use Rattle.log_model.specs.AfterPlaces.{on_place, place_arrived, places_delivered}
use Rattle.log_model.specs.AfterRequests.{on_request, request_begun}
use Rattle.log_model.specs.Once.{delta_of}
use Rattle.log_model.specs.Seen.{Asked, Document, Seen, desk_of, document_of, nothing, request_of}
use Rattle.log_model.specs.Views.{View, after_made, after_task}
use Rattle.log_model.specs.declared.job.Job.{Job}
use Rattle.log_model.specs.declared.job.Order.{Order}
use Rattle.log_model.specs.declared.job.Task.{Task}
use Rattle.log_model.specs.declared.made.Made.{Made}
use Rattle.log_model.specs.declared.made.Report.{Report}
use Rattle.log_model.specs.declared.made.What.{What}
use Rattle.log_model.specs.declared.outcome.Cause.{Cause}
use Rattle.log_model.specs.declared.outcome.Denial.{Denial}
use Rattle.log_model.specs.declared.outcome.Outcome.{Outcome}
use Rattle.log_model.specs.declared.request.Request.{Request}
use Rattle.log_model.specs.declared.row_kind.Actor.{Actor}
use Rattle.seen_facts.proofs.Request.Readers.{SameReads, delivered_reads, finished_reads, on_read, reads_then}
use Rattle.std.proofs.Common.{Bool, List, None, Option, Some, ap, false, length, refl, subst, sym, true, ℕ, ℤ, ◌++◌, ◌+◌, ◌==◌, ◌∙◌, ◌≡◌, ◌≤◌}
use Rattle.std.specs.Prelude.{option_map, option_to_list, slice_get}
use Rattle.tab_ids.specs.declared.DocId.{DocId}
use Rattle.tab_ids.specs.declared.EntryId.{EntryId}
use Rattle.tab_ids.specs.declared.Epoch.{Epoch}
use Rattle.tab_ids.specs.declared.ProcId.{ProcId}
use Rattle.tab_ids.specs.declared.ReqId.{ReqId}
use Rattle.tab_ids.specs.declared.StateId.{StateId}
use Rattle.tab_ids.specs.declared.Step.{Step}
use Rattle.log_model.specs.declared.job.Task.TheVariants as tasks
use Rattle.log_model.specs.declared.made.Report.TheVariants as reports
use Rattle.log_model.specs.declared.made.What.TheVariants as whats
use Rattle.log_model.specs.declared.outcome.Ending.TheVariants as endings
use Rattle.log_model.specs.declared.outcome.Outcome.TheVariants as outcomes
use Rattle.log_model.specs.declared.row_kind.RowKind.TheVariants as rows

-- ---- the tab opens

pub opened_lasting : (event : ℕ) (actor : Actor) (entry : EntryId) (state : StateId) (doc : DocId) (proc : ProcId) (slot : Option ℕ) (address : List ℕ) → AreLasting (next nothing event actor (rows.Opened entry state doc proc slot address))
opened_lasting event actor entry state doc proc slot address =
    let is = frames.opened_lasting event actor entry state doc proc slot address in
    record {
      shown = is.shown;
      made = is.made;
      poked = is.poked;
      taken = is.taken;
      populates = is.populates;
      moves = opened_moves event actor entry state doc proc slot address;
    }

-- ---- what a document shows

-- of a view there is another; that runs only under an epoch
mapped_shown : (f : View → View) (o : Option View) → ((view : View) → o ≡ Some view → (f view).running ≡ true → 1 ≤ (f view).epoch.0) → (view : View) → option_map f o ≡ Some view → view.running ≡ true → 1 ≤ view.epoch.0
mapped_shown f None each view has runs = absurd cc
mapped_shown f (Some old) each view has runs =
    let same : f old ≡ view = some_same has in
    subst (λ (v : View). 1 ≤ v.epoch.0) same (each old refl (ap (λ (v : View). v.running) same ∙ runs))

-- the order shows a document under an epoch, if it shows one
abbrev IsShownUnder : Task → Type 0
IsShownUnder (tasks.Activate entry epoch long at memo address) = 1 ≤ epoch.0
IsShownUnder _ = Unit {0}

finished_runs : (task : Task) → IsShownUnder task → LeavesRuns (λ (d : Document). record d { view = view_finished d task })
finished_runs (tasks.Populate nav state address initial) under d shown view has runs =
    (let never : false ≡ true = ap (λ (v : View). v.running) (some_same has) ∙ runs in absurd cc)
finished_runs tasks.Discard under d shown view has runs = absurd cc
finished_runs (tasks.DoFragment req mode address) under d shown view has runs = shown view has runs
finished_runs (tasks.Activate entry epoch long at memo address) under d shown view has runs =
    mapped_shown (λ (v : View). after_task v (tasks.Activate entry epoch long at memo address)) d.view (λ v at_ runs_. under) view has runs
finished_runs (tasks.Update long at) under d shown view has runs =
    mapped_shown (λ (v : View). after_task v (tasks.Update long at)) d.view shown view has runs
finished_runs tasks.Freeze under d shown view has runs =
    mapped_shown (λ (v : View). after_task v tasks.Freeze) d.view (λ v at_ runs_. absurd cc) view has runs
finished_runs (tasks.Ask slot cause) under d shown view has runs =
    mapped_shown (λ (v : View). after_task v (tasks.Ask slot cause)) d.view shown view has runs

after_made_runs : (what : What) (v : View) → (v.running ≡ true → 1 ≤ v.epoch.0) → (after_made v what).running ≡ true → 1 ≤ (after_made v what).epoch.0
after_made_runs (whats.Push entry memo address) v under runs = under runs
after_made_runs (whats.Replace over entry memo address) v under runs = under runs
after_made_runs (whats.AddFrame nav) v under runs = under runs
after_made_runs (whats.RemoveFrame nav) v under runs = under runs
after_made_runs (whats.Go delta) v under runs = under runs
after_made_runs whats.Edit v under runs = under runs

made_runs : (what : What) → LeavesRuns (λ (d : Document). record d { view = option_map (λ (v : View). after_made v what) d.view })
made_runs what d shown view has runs =
    mapped_shown (λ (v : View). after_made v what) d.view (λ v at runs_. after_made_runs what v (shown v at) runs_) view has runs

-- ---- documents over a report and a finished order

plain_if : (documents : List Document) (doc : DocId) (f : Document → Document) → KeepsDoc f → ((d : Document) → (f d).view ≡ d.view) → StayDocs documents (on_document doc f documents)
plain_if documents doc f keeps view =
    docs_if documents (λ (d : Document). d.nr.0 == doc.0) f keeps (λ d shown. run_shown f d (view d) shown)

delivered_stay : (documents : List Document) (report : Option Report) → NoDeath report → StayDocs documents (documents_delivered documents report)
delivered_stay documents None fine = docs_same documents documents refl
delivered_stay documents (Some (reports.Died death)) never = absurd never
delivered_stay documents (Some (reports.Made made)) fine = docs_same documents documents refl
delivered_stay documents (Some (reports.Done job (outcomes.Populated slot) made)) fine =
    plain_if documents job.doc (λ (d : Document). record d { is_ready = true; is_fresh = true }) (record { nr = λ d. refl; nav = λ d. refl; state = λ d. refl; proc = λ d. refl; discarded = λ d kept. kept }) (λ d. refl)
delivered_stay documents (Some (reports.Done job outcomes.Activated made)) fine = docs_same documents documents refl
delivered_stay documents (Some (reports.Done job outcomes.Updated made)) fine = docs_same documents documents refl
delivered_stay documents (Some (reports.Done job outcomes.Frozen made)) fine = docs_same documents documents refl
delivered_stay documents (Some (reports.Done job outcomes.Discarded made)) fine = docs_same documents documents refl
delivered_stay documents (Some (reports.Done job (outcomes.Asked verdict) made)) fine = docs_same documents documents refl
delivered_stay documents (Some (reports.Done job outcomes.Fragmented made)) fine = docs_same documents documents refl

slot_stays : (documents : List Document) (job : Job) (outcome : Outcome) → StayDocs documents (slot_finished documents (Some job) outcome)
slot_stays documents job (outcomes.Populated slot) =
    plain_if documents job.doc (λ (d : Document). record d { slot = slot }) (record { nr = λ d. refl; nav = λ d. refl; state = λ d. refl; proc = λ d. refl; discarded = λ d kept. kept }) (λ d. refl)
slot_stays documents job outcomes.Activated = docs_same documents documents refl
slot_stays documents job outcomes.Updated = docs_same documents documents refl
slot_stays documents job outcomes.Frozen = docs_same documents documents refl
slot_stays documents job outcomes.Discarded = docs_same documents documents refl
slot_stays documents job (outcomes.Asked verdict) = docs_same documents documents refl
slot_stays documents job outcomes.Fragmented = docs_same documents documents refl

finished_stay : (documents : List Document) (job : Job) (outcome : Outcome) → IsShownUnder job.task → StayDocs documents (slot_finished (documents_finished documents (Some job)) (Some job) outcome)
finished_stay documents job outcome under =
    let mid : List Document = documents_finished documents (Some job) in
    docs_then documents mid (slot_finished mid (Some job) outcome)
    (docs_if documents (λ (d : Document). d.nr.0 == job.doc.0) (λ (d : Document). record d { view = view_finished d job.task }) (record { nr = λ d. refl; nav = λ d. refl; state = λ d. refl; proc = λ d. refl; discarded = λ d kept. kept }) (finished_runs job.task under))
    (slot_stays mid job outcome)

-- ---- who took a navigable's last entries, over a report

done_takers : (s : Seen) (job : Job) (outcome : Outcome) (made : Option Made) (task : Task) → job.task ≡ task → TakersWere s.places (places_delivered s (Some (reports.Done job outcome made)))
done_takers s job outcome made (tasks.Activate entry epoch long at memo address) e =
    rw e (or_takers (λ (d : Document). on_place d.nav (place_arrived job) s.places) (document_of s job.doc) s.places (λ d. on_takers d.nav (place_arrived job) s.places (λ p. refl) (λ p. refl)))
done_takers s job outcome made tasks.Freeze e = rw e (takers_same s.places s.places refl)
done_takers s job outcome made tasks.Discard e = rw e (takers_same s.places s.places refl)
done_takers s job outcome made (tasks.Populate nav state address initial) e = rw e (takers_same s.places s.places refl)
done_takers s job outcome made (tasks.Update long at) e = rw e (takers_same s.places s.places refl)
done_takers s job outcome made (tasks.Ask slot cause) e = rw e (takers_same s.places s.places refl)
done_takers s job outcome made (tasks.DoFragment req mode address) e = rw e (takers_same s.places s.places refl)

delivered_takers : (s : Seen) (report : Option Report) → NoDeath report → TakersWere s.places (places_delivered s report)
delivered_takers s None fine = takers_same s.places s.places refl
delivered_takers s (Some (reports.Made made)) fine = takers_same s.places s.places refl
delivered_takers s (Some (reports.Done job outcome made)) fine = done_takers s job outcome made job.task refl
delivered_takers s (Some (reports.Died death)) never = absurd never

-- ---- the rows

module _ (s : Seen) (event : ℕ) (actor : Actor) (is : AreLasting s) where
  -- a request is accepted under the next number; where it pokes a document, that is there, and of its navigable
  pub accepted_lasting : (req : ReqId) (doc : Option DocId) (what : Request) → req.0 ≡ length s.requests + 1 → ((x : DocId) → doc ≡ Some x → IsOfItsNav s.documents (wish (new_request req doc what)) x) → AreLasting (next s event actor (rows.Accepted req doc what))
  accepted_lasting req doc what nr pokes =
      left_lasting s (next s event actor (rows.Accepted req doc what)) (record {
        docs = docs_same s.documents s.documents refl;
        made = each_asked_more (λ (r : ReqId) (q : Asked). IsMadeShown (wish q)) s.requests (new_request req doc what) req nr (λ made same. absurd cc) is.made;
        poked = each_asked_more (λ (r : ReqId) (q : Asked). PokesItsNav s.documents (wish q)) s.requests (new_request req doc what) req nr pokes is.poked;
        taken = is.taken;
        names = left_names s (next s event actor (rows.Accepted req doc what)) (accepted_left s event actor req doc what) s.documents;
        moves = accepted_moves s event actor is.moves req doc what nr;
      }) is

  -- a traversal or a load begins
  pub started_lasting : (req : ReqId) (goal : Option Step) → AreLasting (next s event actor (rows.Started req goal))
  started_lasting req goal =
      quietly s (next s event actor (rows.Started req goal)) refl refl refl
      (reads_then wish s.requests (on_request req (λ q. record q { is_started = true; goal = goal }) s.requests) (next s event actor (rows.Started req goal)).requests (on_read wish s.requests req (λ q. record q { is_started = true; goal = goal }) (λ q. refl)) (on_read wish (on_request req (λ q. record q { is_started = true; goal = goal }) s.requests) req (request_begun s) (λ q. refl)))
      (left_names s (next s event actor (rows.Started req goal)) (started_left s event actor req goal)) (started_moves s event actor is.moves req goal) is

  pub refused_lasting : (req : ReqId) (reason : Denial) → AreLasting (next s event actor (rows.Refused req reason))
  refused_lasting req reason =
      quietly s (next s event actor (rows.Refused req reason)) refl refl refl (on_read wish s.requests req (λ q. record q { ending = Some (endings.Refused reason) }) (λ q. refl))
      (left_names s (next s event actor (rows.Refused req reason)) (refused_left s event actor req reason)) (refused_moves s event actor is.moves req reason) is

  pub dropped_lasting : (req : ReqId) (cause : Cause) → AreLasting (next s event actor (rows.Dropped req cause))
  dropped_lasting req cause =
      quietly s (next s event actor (rows.Dropped req cause)) refl refl refl (on_read wish s.requests req (λ q. record q { ending = Some (endings.Dropped cause) }) (λ q. refl))
      (left_names s (next s event actor (rows.Dropped req cause)) (dropped_left s event actor req cause)) (dropped_moves s event actor is.moves req cause) is

  -- the user is asked about a request, and answers
  pub prompted_lasting : (req : ReqId) (doc : DocId) → AreLasting (next s event actor (rows.Prompted req doc))
  prompted_lasting req doc =
      quietly s (next s event actor (rows.Prompted req doc)) refl refl refl wishes (left_names s (next s event actor (rows.Prompted req doc)) (prompted_left s event actor req doc))
      (moves_again s (next s event actor (rows.Prompted req doc)) (on_read course s.requests req (λ q. record q { prompted = Some doc }) (λ q. refl)) wishes (places_keep s event actor (rows.Prompted req doc) tt) is.moves) is
    where
      wishes : SameReads wish s.requests (next s event actor (rows.Prompted req doc)).requests
      wishes = on_read wish s.requests req (λ q. record q { prompted = Some doc }) (λ q. refl)

  pub answered_lasting : (req : ReqId) (stay : Bool) → AreLasting (next s event actor (rows.Answered req stay))
  answered_lasting req stay =
      quietly s (next s event actor (rows.Answered req stay)) refl refl refl wishes (left_names s (next s event actor (rows.Answered req stay)) (answered_left s event actor req stay))
      (moves_again s (next s event actor (rows.Answered req stay)) (on_read course s.requests req (λ q. record q { answered = Some stay }) (λ q. refl)) wishes (places_keep s event actor (rows.Answered req stay) tt) is.moves) is
    where
      wishes : SameReads wish s.requests (next s event actor (rows.Answered req stay)).requests
      wishes = on_read wish s.requests req (λ q. record q { answered = Some stay }) (λ q. refl)

  pub evicted_lasting : (state : StateId) → AreLasting (next s event actor (rows.Evicted state))
  evicted_lasting state =
      quietly s (next s event actor (rows.Evicted state)) refl refl refl (λ r. refl) (left_names s (next s event actor (rows.Evicted state)) (evicted_left s event actor state))
      (moves_again s (next s event actor (rows.Evicted state)) (λ r. refl) (λ r. refl) (places_keep s event actor (rows.Evicted state) tt) is.moves) is

  -- ---- processes

  pub taken_lasting : (proc : ProcId) (job : Job) (dirty : Bool) → AreLasting (next s event actor (rows.Taken proc job.nr true dirty))
  taken_lasting proc job dirty =
      quietly s (next s event actor (rows.Taken proc job.nr true dirty)) refl refl refl (λ r. refl) (taken_names s event actor proc job true dirty) (taken_moves s event actor is.moves proc job dirty) is

  -- no death is reported
  pub delivered_lasting : (proc : ProcId) → NoDeath (slice_get (desk_of s proc).reports 0) → AreLasting (next s event actor (rows.Delivered proc))
  delivered_lasting proc fine =
      let t : Seen = next s event actor (rows.Delivered proc) in
      again s t (delivered_stay s.documents (slice_get (desk_of s proc).reports 0) fine) (delivered_reads wish wish_blind (slice_get (desk_of s proc).reports 0) s.requests)
      (taken_again s t (delivered_takers s (slice_get (desk_of s proc).reports 0) fine) refl is.taken) (delivered_names s event actor proc t.documents) (delivered_moves s event actor is.moves proc) is

  -- an order that shows a document does so under an epoch, as each order that a process has in hand
  module _ (desks : AreDesksIn s) (proc : ProcId) (order : Order) (outcome : Outcome) where
    under : (hand : Order) → (desk_of s proc).in_hand ≡ Some hand → IsShownUnder hand.job.task
    under hand in_hand = by_task hand.job.task its.task
      where
        orders_ : Each (IsOrderIn s.documents s.places proc) (orders_of_desk (desk_of s proc))
        orders_ = (desks proc).orders

        its : IsOrderIn s.documents s.places proc hand.job
        its = (subst (λ (o : Option Order). Each (IsOrderIn s.documents s.places proc) (option_to_list (option_map (λ (x : Order). x.job) o) ++ (desk_of s proc).mail)) in_hand orders_).0

        by_task : (task : Task) → IsTaskOf its.lives.d its.place task → IsShownUnder task
        by_task (tasks.Activate entry epoch long at memo address) is_ = is_.1
        by_task (tasks.Populate nav state address initial) is_ = tt
        by_task (tasks.Update long at) is_ = tt
        by_task tasks.Freeze is_ = tt
        by_task tasks.Discard is_ = tt
        by_task (tasks.Ask slot cause) is_ = tt
        by_task (tasks.DoFragment req mode address) is_ = tt

    pub finished_lasting : AreLasting (next s event actor (rows.Finished proc order.job.nr outcome))
    finished_lasting =
        again s t (by_hand (desk_of s proc).in_hand refl) (finished_reads wish wish_blind s (desk_of s proc).in_hand outcome s.requests) is.taken (finished_names s event actor proc order outcome t.documents) (finished_moves s event actor is.moves proc order outcome) is
      where
        t : Seen
        t = next s event actor (rows.Finished proc order.job.nr outcome)

        by_hand : (hand : Option Order) → (desk_of s proc).in_hand ≡ hand → StayDocs s.documents t.documents
        by_hand None e = rw e (docs_same s.documents s.documents refl)
        by_hand (Some hand) e = rw e (finished_stay s.documents hand.job outcome (under hand e))

  -- a document that runs makes something, under its epoch: of a poke, or of the order that was finished just before; of a traversal that it goes by its delta
  module _ (proc : ProcId) (made : Made) (d : Document) (view : View) (found : document_of s made.doc ≡ Some d) (has : d.view ≡ Some view) (runs : view.running ≡ true) (epoch : made.epoch ≡ view.epoch) where
    its_epoch : 1 ≤ made.epoch.0
    its_epoch = subst (λ (e : Epoch). 1 ≤ e.0) (sym epoch) (is.shown made.doc d found view has runs)

    pokes_still : (q : Asked) → PokesItsNav s.documents (wish q) → PokesItsNav s.documents (wish (record q { made = Some made }))
    pokes_still q pokes doc is_doc =
        (let its = pokes doc is_doc in record { d = its.d; found = its.found; nav_is = its.nav_is })

    pub made_lasting : ((q : Asked) (delta : ℤ) → request_of s made.req ≡ Some q → delta_of q.what ≡ Some delta → made.what ≡ whats.Go delta) → AreLasting (next s event actor (rows.Made proc made))
    made_lasting goes =
        left_lasting s t (record {
          docs = docs_if s.documents (λ (x : Document). x.nr.0 == made.doc.0) (λ (x : Document). record x { view = option_map (λ (v : View). after_made v made.what) x.view }) (record { nr = λ x. refl; nav = λ x. refl; state = λ x. refl; proc = λ x. refl; discarded = λ x kept. kept }) (made_runs made.what);
          made = each_asked_on (λ (r : ReqId) (q : Asked). IsMadeShown (wish q)) (λ (r : ReqId) (q : Asked). IsMadeShown (wish q)) s.requests made.req with_made (λ r q apart was. was) (λ q at was m same. subst (λ (x : Made). 1 ≤ x.epoch.0) (some_same same) its_epoch) is.made;
          poked = each_asked_on (λ (r : ReqId) (q : Asked). PokesItsNav s.documents (wish q)) (λ (r : ReqId) (q : Asked). PokesItsNav s.documents (wish q)) s.requests made.req with_made (λ r q apart was. was) (λ q at was. pokes_still q was) is.poked;
          taken = is.taken;
          names = acted_names s event actor proc made t.documents;
          moves = acted_moves s event actor is.moves proc made goes;
        }) is
      where
        t : Seen
        t = next s event actor (rows.Made proc made)

        with_made : Asked → Asked
        with_made q = record q { made = Some made }
