-- The fragment orders of loads stay as they are over the rows that send none, finish none, and end no load that waits.
use Rattle.std.proofs.Common.{◌≡◌, ℕ, ◌+◌, Bool, true, false, cond, ◌==◌, List, [], ◌∷◌, ◌++◌, length, Option, Some, None, refl, ap, ◌∙◌, arith}
use Rattle.std.specs.Prelude.{drop, option_map, slice_get}
use Rattle.std.proofs.lemmas.Bool.Decides.{nat_tests}
use Rattle.tab_ids.specs.declared.DocId.{DocId}
use Rattle.tab_ids.specs.declared.EntryId.{EntryId}
use Rattle.tab_ids.specs.declared.JobId.{JobId}
use Rattle.tab_ids.specs.declared.ProcId.{ProcId}
use Rattle.tab_ids.specs.declared.ReqId.{ReqId}
use Rattle.tab_ids.specs.declared.StateId.{StateId}
use Rattle.tab_ids.specs.declared.Step.{Step}
use Rattle.log_model.specs.declared.change.Change.{Change}
use Rattle.log_model.specs.declared.job.Job.{Job}
use Rattle.log_model.specs.declared.job.Order.{Order}
use Rattle.log_model.specs.declared.outcome.Cause.{Cause}
use Rattle.log_model.specs.declared.outcome.Denial.{Denial}
use Rattle.log_model.specs.declared.outcome.Ending.TheVariants as endings
use Rattle.log_model.specs.declared.outcome.Outcome.{Outcome}
use Rattle.log_model.specs.declared.request.Request.{Request}
use Rattle.log_model.specs.declared.request.Request.TheVariants as requests
use Rattle.log_model.specs.declared.row_kind.Actor.{Actor}
use Rattle.log_model.specs.declared.row_kind.Actor.TheVariants as actors
use Rattle.log_model.specs.declared.row_kind.RowKind.{RowKind}
use Rattle.log_model.specs.declared.row_kind.RowKind.TheVariants as rows
use Rattle.log_model.specs.Seen.{nothing, Seen, Document, Desk, Asked, desk_of, document_of}
use Rattle.log_model.specs.After.{desk_delivered, desk_dropped, desk_finished, desk_taken, desks_accepted, desks_refused, ended, new_request}
use Rattle.log_model.specs.AfterRequests.{on_request, request_begun, entries_taken}
use Rattle.seen_laws.proofs.Sums.{over}
use Rattle.seen_facts.proofs.Coord.OneDocument.{mailed}
use Rattle.seen_facts.proofs.Coord.Unread.{next}
use Rattle.seen_facts.proofs.Request.LookUps.{one_more, none_before, others_before}
use Rattle.seen_facts.proofs.Request.Readers.{reads_then, on_read}
use Rattle.seen_facts.proofs.LoadWhereabouts.Trips.{IsNoFragment, sent_trips, finished_trips, delivered_trips}
use Rattle.tab_facts.specs.FragmentOrders.Waiting.{fragments_at, fragments_due, AreFragments}
use Rattle.tab_facts.proofs.FragmentOrders.Counts.{SameOrders, mailed_orders, none_by, taken_orders, finished_orders, desk_same, each_same}
use Rattle.tab_facts.proofs.FragmentOrders.Fates.{fate, trip_fates, right_so, same_fragments, but_one}
use Rattle.tab_facts.proofs.FragmentOrders.Ends.{WaitsNot, ended_fragments}

module _ (s : Seen) (event : ℕ) (actor : Actor) (are : AreFragments s) where
  abbrev then_ : RowKind → Seen
  then_ kind = next s event actor kind

  -- a load for which a document was sent to a fragment may begin as well
  pub started_fragments : (req : ReqId) (goal : Option Step) → AreFragments (then_ (rows.Started req goal))
  started_fragments req goal =
      same_fragments s (then_ (rows.Started req goal)) (reads_then fate s.requests begun (then_ (rows.Started req goal)).requests (on_read fate s.requests req begin (λ q. refl)) (on_read fate begun req (request_begun s) (λ q. refl))) (λ r. refl) are
    where
      begin : Asked → Asked
      begin q = record q { is_started = true; goal = goal }

      begun : List Asked
      begun = on_request req begin s.requests

  pub prompted_fragments : (req : ReqId) (doc : DocId) → AreFragments (then_ (rows.Prompted req doc))
  prompted_fragments req doc =
      same_fragments s (then_ (rows.Prompted req doc)) (on_read fate s.requests req _ (λ q. refl)) (λ r. refl) are

  pub answered_fragments : (req : ReqId) (stay : Bool) → AreFragments (then_ (rows.Answered req stay))
  answered_fragments req stay =
      same_fragments s (then_ (rows.Answered req stay)) (on_read fate s.requests req _ (λ q. refl)) (λ r. refl) are

  pub evicted_fragments : (state : StateId) → AreFragments (then_ (rows.Evicted state))
  evicted_fragments state =
      same_fragments s (then_ (rows.Evicted state)) (λ r. refl) (λ r. refl) are

  -- ---- a request ends that doesn't wait

  pub refused_fragments : (req : ReqId) (reason : Denial) → WaitsNot s.requests req → AreFragments (then_ (rows.Refused req reason))
  refused_fragments req reason waits_not =
      ended_fragments s (then_ (rows.Refused req reason)) req (endings.Refused reason) waits_not (λ r. refl) (by_actor actor) are
    where
      by_actor : (by : Actor) (r : ReqId) → over (fragments_at r) (desks_refused s.desks by) ≡ over (fragments_at r) s.desks
      by_actor actors.Start r = refl
      by_actor actors.Ui r = refl
      by_actor actors.Coord r = refl
      by_actor (actors.Proc proc) r =
          desk_same r (λ (desk : Desk). record desk { input = drop 1 desk.input }) s.desks proc refl

  pub dropped_fragments : (req : ReqId) (cause : Cause) → WaitsNot s.requests req → AreFragments (then_ (rows.Dropped req cause))
  dropped_fragments req cause waits_not =
      ended_fragments s (then_ (rows.Dropped req cause)) req (endings.Dropped cause) waits_not (λ r. refl) (λ r. each_same r (desk_dropped req) s.desks (λ desk. refl)) are

  pub applied_fragments : (req : ReqId) (change : Change) → WaitsNot s.requests req → AreFragments (then_ (rows.Applied req change))
  applied_fragments req change waits_not =
      ended_fragments s (then_ (rows.Applied req change)) req endings.Applied waits_not (reads_then fate over_ noted (then_ (rows.Applied req change)).requests (on_read fate over_ req note (λ q. refl)) (on_read fate noted req took_all (λ q. refl))) (λ r. refl) are
    where
      over_ : List Asked
      over_ = ended s.requests req endings.Applied

      note : Asked → Asked
      note q = record q { change = Some change }

      noted : List Asked
      noted = on_request req note over_

      took_all : Asked → Asked
      took_all q = record q { took = entries_taken s.history change }

  -- ---- a request is accepted

  pub accepted_fragments : (req : ReqId) (doc : Option DocId) (what : Request) → req.0 ≡ length s.requests + 1 → AreFragments (then_ (rows.Accepted req doc what))
  accepted_fragments req doc what nr =
      but_one s (then_ (rows.Accepted req doc what)) req (record {
        others = λ r apart. ap (λ (o : Option Asked). option_map fate o) (others_before s.requests new req nr r (let other : (req.0 == r.0) ≡ false = grind (arith, nat_tests, apart) in other));
        elsewhere = λ r apart. by_request doc what r;
        one = right_so (then_ (rows.Accepted req doc what)) req (fate new) (record {
          read = ap (λ (o : Option Asked). option_map fate o) (one_more s.requests new req nr);
          once = by_request doc what req ∙ are.once req ∙ ap fragments_due (none_before s.requests new req nr);
          unsent = λ load none. refl;
          loads = λ never. absurd cc;
        });
      }) are
    where
      new : Asked
      new = new_request req doc what

      by_found : (x : DocId) (nav : _) (action : _) (o : Option Document) → document_of s x ≡ o → (r : ReqId) → over (fragments_at r) (desks_accepted s req (Some x) (requests.Poke nav action)) ≡ over (fragments_at r) s.desks
      by_found x nav action None e r = rw e refl
      by_found x nav action (Some d) e r =
          rw e (desk_same r (λ (desk : Desk). record desk { input = desk.input ++ record { req = req; doc = x; action = action } ∷ [] }) s.desks d.proc refl)

      by_request : (o : Option DocId) (w : Request) (r : ReqId) → over (fragments_at r) (desks_accepted s req o w) ≡ over (fragments_at r) s.desks
      by_request None w r = refl
      by_request (Some x) (requests.Poke nav action) r = by_found x nav action (document_of s x) refl r
      by_request (Some x) (requests.Go delta) r = refl
      by_request (Some x) (requests.Load nav mode address) r = refl
      by_request (Some x) (requests.Reload nav) r = refl

  -- ---- orders

  -- any order but a fragment order
  pub sent_other_fragments : (job : Job) → IsNoFragment job.task → AreFragments (then_ (rows.Sent job))
  sent_other_fragments job other =
      same_fragments s (then_ (rows.Sent job)) (trip_fates s.requests (then_ (rows.Sent job)).requests (sent_trips s job job.task s.requests other)) orders are
    where
      orders : SameOrders s (then_ (rows.Sent job))
      orders r =
          desk_same r (mailed job) s.desks job.proc (omega (arith, mailed_orders r job (desk_of s job.proc), none_by r job.task other))

  -- a live order is taken up
  pub taken_fragments : (proc : ProcId) (job : Job) (dirty : Bool) → (desk_of s proc).in_hand ≡ None → slice_get (desk_of s proc).mail 0 ≡ Some job → AreFragments (then_ (rows.Taken proc job.nr true dirty))
  taken_fragments proc job dirty free first =
      same_fragments s (then_ (rows.Taken proc job.nr true dirty)) (λ r. refl) (λ r. desk_same r (desk_taken true dirty) s.desks proc (taken_orders r (desk_of s proc) job dirty free first)) are

  -- the order in hand is finished, which is no fragment order
  pub finished_other_fragments : (proc : ProcId) (job : JobId) (outcome : Outcome) (order : Order) → (desk_of s proc).in_hand ≡ Some order → IsNoFragment order.job.task → AreFragments (then_ (rows.Finished proc job outcome))
  finished_other_fragments proc job outcome order in_hand other =
      same_fragments s (then_ (rows.Finished proc job outcome)) (trip_fates s.requests (then_ (rows.Finished proc job outcome)).requests (finished_trips s (desk_of s proc).in_hand outcome s.requests)) orders are
    where
      orders : SameOrders s (then_ (rows.Finished proc job outcome))
      orders r =
          desk_same r (desk_finished outcome) s.desks proc (omega (arith, finished_orders r outcome (desk_of s proc) order in_hand, none_by r order.job.task other))

  -- any report is delivered
  pub delivered_fragments : (proc : ProcId) → AreFragments (then_ (rows.Delivered proc))
  delivered_fragments proc =
      same_fragments s (then_ (rows.Delivered proc)) (trip_fates s.requests (then_ (rows.Delivered proc)).requests (delivered_trips (slice_get (desk_of s proc).reports 0) s.requests)) (λ r. desk_same r desk_delivered s.desks proc refl) are

-- ---- a tab is opened: there is no request, and no order

pub opened_fragments : (event : ℕ) (actor : Actor) (entry : EntryId) (state : StateId) (doc : DocId) (proc : ProcId) (slot : Option ℕ) (address : List ℕ) → AreFragments (next nothing event actor (rows.Opened entry state doc proc slot address))
opened_fragments event actor entry state doc proc slot address =
    record {
      once = λ req. none_due (req.0 == 0);
      unsent = λ req q found load none. by_number (req.0 == 0) q found;
      loads = λ req q found waits. by_number (req.0 == 0) q found;
    }
  where
    none_due : (b : Bool) → 0 ≡ fragments_due (let o : Option Asked = cond b None None in o)
    none_due true = refl
    none_due false = refl

    by_number : {A : Type 0} (b : Bool) (q : Asked) → (let o : Option Asked = cond b None None in o) ≡ Some q → A
    by_number true q never = absurd cc
    by_number false q never = absurd cc
