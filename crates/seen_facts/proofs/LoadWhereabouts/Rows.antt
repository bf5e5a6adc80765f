-- Where each load is, over the rows that change nothing of it: what users are asked, orders but fragment orders, processes, and the rows of other requests.
use Rattle.std.proofs.Common.{◌≡◌, ℕ, ◌+◌, Bool, true, false, cond, ◌==◌, List, [], ◌∷◌, ◌++◌, drop, Option, Some, None, refl, ap, arith}
use Rattle.std.specs.Prelude.{filter_map, slice_get}
use Rattle.tab_ids.specs.declared.Death.{Death}
use Rattle.tab_ids.specs.declared.DocId.{DocId}
use Rattle.tab_ids.specs.declared.EntryId.{EntryId}
use Rattle.tab_ids.specs.declared.JobId.{JobId}
use Rattle.tab_ids.specs.declared.ProcId.{ProcId}
use Rattle.tab_ids.specs.declared.ReqId.{ReqId}
use Rattle.tab_ids.specs.declared.StateId.{StateId}
use Rattle.log_model.specs.declared.job.Job.{Job}
use Rattle.log_model.specs.declared.job.Order.{Order}
use Rattle.log_model.specs.declared.made.Made.{Made}
use Rattle.log_model.specs.declared.made.Report.{Report}
use Rattle.log_model.specs.declared.made.Report.TheVariants as reports
use Rattle.log_model.specs.declared.made.What.TheVariants as whats
use Rattle.log_model.specs.declared.outcome.Outcome.{Outcome}
use Rattle.log_model.specs.declared.row_kind.Actor.{Actor}
use Rattle.log_model.specs.declared.row_kind.RowKind.{RowKind}
use Rattle.log_model.specs.declared.row_kind.RowKind.TheVariants as rows
use Rattle.log_model.specs.Seen.{nothing, Seen, Asked, Desk, desk_of}
use Rattle.log_model.specs.After.{on_desk, desk_taken, desk_finished, desk_killed, desk_delivered}
use Rattle.log_model.specs.AfterRequests.{made_of_report, is_held_back}
use Rattle.seen_laws.proofs.Sums.{over, over_on}
use Rattle.seen_facts.proofs.Coord.Unread.{next}
use Rattle.seen_facts.specs.Request.Whereabouts.{times, poked, answered_by, times_at, is_of_load}
use Rattle.seen_facts.proofs.Request.Onces.{SameTimes, one_desk, untold}
use Rattle.seen_facts.proofs.Request.Placings.{one_if, IsNoGo, unqueued}
use Rattle.seen_facts.proofs.Request.Readers.{on_read}
use Rattle.seen_facts.proofs.Request.Times.{times_append}
use Rattle.seen_facts.specs.LoadWhereabouts.Whereabouts.{AreLoadsOnce}
use Rattle.seen_facts.proofs.LoadWhereabouts.Trips.{trip, IsNoFragment, sent_trips, finished_trips, delivered_trips}
use Rattle.seen_facts.proofs.LoadWhereabouts.Counts.{loads_again}

module _ (s : Seen) (hand : List ReqId) (event : ℕ) (actor : Actor) (each : AreLoadsOnce s hand) where
  abbrev then_ : RowKind → Seen
  then_ kind = next s event actor kind

  pub prompted_loads : (req : ReqId) (doc : DocId) → AreLoadsOnce (then_ (rows.Prompted req doc)) hand
  prompted_loads req doc =
      loads_again s (then_ (rows.Prompted req doc)) hand hand (on_read trip s.requests req _ (λ q. refl)) (λ r. refl) each

  pub answered_loads : (req : ReqId) (stay : Bool) → AreLoadsOnce (then_ (rows.Answered req stay)) hand
  answered_loads req stay =
      loads_again s (then_ (rows.Answered req stay)) hand hand (on_read trip s.requests req _ (λ q. refl)) (λ r. refl) each

  pub evicted_loads : (state : StateId) → AreLoadsOnce (then_ (rows.Evicted state)) hand
  evicted_loads state = each

  -- any order but a fragment order
  pub sent_loads : (job : Job) → IsNoFragment job.task → AreLoadsOnce (then_ (rows.Sent job)) hand
  sent_loads job is =
      loads_again s (then_ (rows.Sent job)) hand hand (sent_trips s job job.task s.requests is)
      (one_desk s (then_ (rows.Sent job)) hand job.proc (λ desk. record desk { mail = desk.mail ++ job ∷ [] }) refl (λ r. refl) refl refl) each

  pub taken_loads : (proc : ProcId) (job : JobId) (live dirty : Bool) → AreLoadsOnce (then_ (rows.Taken proc job live dirty)) hand
  taken_loads proc job live dirty =
      loads_again s (then_ (rows.Taken proc job live dirty)) hand hand (λ r. refl)
      (one_desk s (then_ (rows.Taken proc job live dirty)) hand proc (desk_taken live dirty) refl (λ r. refl) refl refl) each

  -- the report of an order tells of nothing made as yet
  pub finished_loads : (proc : ProcId) (job : JobId) (outcome : Outcome) → AreLoadsOnce (then_ (rows.Finished proc job outcome)) hand
  finished_loads proc job outcome =
      loads_again s (then_ (rows.Finished proc job outcome)) hand hand (finished_trips s (desk_of s proc).in_hand outcome s.requests)
      (one_desk s (then_ (rows.Finished proc job outcome)) hand proc (desk_finished outcome) refl (λ r. by_hand r (desk_of s proc) (desk_of s proc).in_hand refl) refl refl) each
    where
      by_hand : (r : ReqId) (desk : Desk) (in_hand : Option Order) → desk.in_hand ≡ in_hand → times_at r (desk_finished outcome desk) ≡ times_at r desk
      by_hand r desk None is = rw is refl
      by_hand r desk (Some order) is =
          rw is (let same : times r (answered_by (filter_map made_of_report (desk.reports ++ reports.Done order.job outcome None ∷ []))) ≡ times r (answered_by (filter_map made_of_report desk.reports)) = untold s hand event actor r desk.reports (reports.Done order.job outcome None) refl in omega (arith, same))

  -- a fragment order is counted at its request, so a death takes no load from where it is
  pub killed_loads : (proc : ProcId) (death : Death) → AreLoadsOnce (then_ (rows.Killed proc death)) hand
  killed_loads proc death =
      loads_again s (then_ (rows.Killed proc death)) hand hand (λ r. refl)
      (one_desk s (then_ (rows.Killed proc death)) hand proc (desk_killed death) refl (λ r. let same : times r (answered_by (filter_map made_of_report ((desk_of s proc).reports ++ reports.Died death ∷ []))) ≡ times r (answered_by (filter_map made_of_report (desk_of s proc).reports)) = untold s hand event actor r (desk_of s proc).reports (reports.Died death) refl in omega (arith, same)) refl refl) each

-- ---- a tab is opened: there is no request

pub opened_loads : (event : ℕ) (actor : Actor) (entry : EntryId) (state : StateId) (doc : DocId) (proc : ProcId) (slot : Option ℕ) (address : List ℕ) → AreLoadsOnce (next nothing event actor (rows.Opened entry state doc proc slot address)) []
opened_loads event actor entry state doc proc slot address req load = by_number (req.0 == 0) load
  where
    by_number : {A : Type 0} (b : Bool) → is_of_load (let o : Option Asked = cond b None None in o) ≡ true → A
    by_number true never = absurd cc
    by_number false never = absurd cc

-- ---- a report is delivered

-- one that tells of nothing made
pub untold_loads : (s : Seen) (hand : List ReqId) (event : ℕ) (actor : Actor) (proc : ProcId) (report : Report) → slice_get (desk_of s proc).reports 0 ≡ Some report → made_of_report report ≡ None → AreLoadsOnce s hand → AreLoadsOnce (next s event actor (rows.Delivered proc)) hand
untold_loads s hand event actor proc report first none each =
    loads_again s (next s event actor (rows.Delivered proc)) hand hand (delivered_trips (slice_get (desk_of s proc).reports 0) s.requests)
    (one_desk s (next s event actor (rows.Delivered proc)) hand proc desk_delivered refl (λ r. ap (λ (n : ℕ). times r (poked (desk_of s proc).input) + n) (ap (λ (l : List Made). times r (answered_by l)) (less (desk_of s proc).reports first))) (rw first (rw none refl)) (rw first (rw none refl))) each
  where
    less : (waiting : List Report) → slice_get waiting 0 ≡ Some report → filter_map made_of_report (drop 1 waiting) ≡ filter_map made_of_report waiting
    less [] is = cc
    less (x ∷ waiting) is = let same : x ≡ report = cc in rw same (rw none refl)

-- one that tells of what was made of a request, a load or another
module _ (s : Seen) (hand : List ReqId) (event : ℕ) (actor : Actor) (proc : ProcId) (report : Report) (made : Made) (first : slice_get (desk_of s proc).reports 0 ≡ Some report) (tells : made_of_report report ≡ Some made) (each : AreLoadsOnce s hand) where
  abbrev pub loads_delivered : Seen
  loads_delivered = next s event actor (rows.Delivered proc)

  -- the report is gone from its desk
  less_told : (r : ReqId) → over (times_at r) (on_desk proc desk_delivered s.desks) + one_if made.req r ≡ over (times_at r) s.desks
  less_told r =
      let more : over (times_at r) (on_desk proc desk_delivered s.desks) + times_at r (desk_of s proc) ≡ over (times_at r) s.desks + times_at r (desk_delivered (desk_of s proc)) = over_on (times_at r) desk_delivered s.desks proc refl in
      let told : times r (answered_by (filter_map made_of_report (desk_of s proc).reports)) ≡ one_if made.req r + times r (answered_by (filter_map made_of_report (drop 1 (desk_of s proc).reports))) = one_less (desk_of s proc).reports first in
      omega (arith, more, told)
    where
      one_less : (waiting : List Report) → slice_get waiting 0 ≡ Some report → times r (answered_by (filter_map made_of_report waiting)) ≡ one_if made.req r + times r (answered_by (filter_map made_of_report (drop 1 waiting)))
      one_less [] is = cc
      one_less (x ∷ waiting) is = let same : x ≡ report = cc in rw same (rw tells refl)

  -- it joins the queue, as a traversal that a document asks for
  pub go_delivered_loads : (delta : _) → made.what ≡ whats.Go delta → AreLoadsOnce loads_delivered hand
  go_delivered_loads delta is =
      loads_again s loads_delivered hand hand (delivered_trips (slice_get (desk_of s proc).reports 0) s.requests) counted each
    where
      queued : loads_delivered.joined ≡ s.joined ++ made.req ∷ []
      queued = rw first (rw tells (rw is refl))

      unheld : loads_delivered.parked ≡ s.parked
      unheld = rw first (rw tells (rw is refl))

      counted : SameTimes s hand loads_delivered hand
      counted r =
          let one : times r (s.joined ++ made.req ∷ []) ≡ times r s.joined + (one_if made.req r + 0) = times_append r s.joined (made.req ∷ []) in
          rw queued (rw unheld (omega (arith, less_told r, one)))

  -- it is held back
  pub held_loads : IsNoGo made.what → is_held_back s made ≡ true → AreLoadsOnce loads_delivered hand
  held_loads is held =
      loads_again s loads_delivered hand hand (delivered_trips (slice_get (desk_of s proc).reports 0) s.requests) counted each
    where
      parked_ : loads_delivered.parked ≡ s.parked ++ made.req ∷ []
      parked_ = rw first (rw tells (rw held refl))

      counted : SameTimes s hand loads_delivered hand
      counted r =
          let one : times r (s.parked ++ made.req ∷ []) ≡ times r s.parked + (one_if made.req r + 0) = times_append r s.parked (made.req ∷ []) in
          rw (unqueued s hand event actor proc report made first tells is) (rw parked_ (omega (arith, less_told r, one)))

  -- and else it is at hand
  pub at_hand_loads : IsNoGo made.what → is_held_back s made ≡ false → AreLoadsOnce loads_delivered (made.req ∷ hand)
  at_hand_loads is held =
      loads_again s loads_delivered hand (made.req ∷ hand) (delivered_trips (slice_get (desk_of s proc).reports 0) s.requests) counted each
    where
      parked_ : loads_delivered.parked ≡ s.parked
      parked_ = rw first (rw tells (rw held refl))

      counted : SameTimes s hand loads_delivered (made.req ∷ hand)
      counted r =
          rw (unqueued s hand event actor proc report made first tells is) (rw parked_ (omega (arith, less_told r)))
