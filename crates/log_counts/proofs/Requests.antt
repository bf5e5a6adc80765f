-- What each row leaves of the requests: one is there more where it is accepted, one has ended more where its change is applied, and none is open again.
use Rattle.std.proofs.Common.{◌≡◌, ℕ, ◌+◌, ◌≤◌, true, List, ◌∷◌, length, Option, Some, None, [], refl, arith, length-append}
use Rattle.std.specs.Prelude.{slice_get}
use Rattle.tab_ids.specs.declared.DocId.{DocId}
use Rattle.tab_ids.specs.declared.ReqId.{ReqId}
use Rattle.log_model.specs.declared.change.Change.{Change}
use Rattle.log_model.specs.declared.job.Job.{Job}
use Rattle.log_model.specs.declared.job.Order.{Order}
use Rattle.log_model.specs.declared.job.Task.{Task}
use Rattle.log_model.specs.declared.job.Task.TheVariants as tasks
use Rattle.log_model.specs.declared.job.Why.{Why}
use Rattle.log_model.specs.declared.job.Why.TheVariants as whys
use Rattle.log_model.specs.declared.made.Made.{Made}
use Rattle.log_model.specs.declared.made.Report.{Report}
use Rattle.log_model.specs.declared.made.Report.TheVariants as reports
use Rattle.log_model.specs.declared.outcome.Ending.{Ending}
use Rattle.log_model.specs.declared.outcome.Ending.TheVariants as endings
use Rattle.log_model.specs.declared.outcome.Outcome.{Outcome}
use Rattle.log_model.specs.declared.outcome.Outcome.TheVariants as outcomes
use Rattle.log_model.specs.declared.request.Request.{Request}
use Rattle.log_model.specs.declared.row_kind.RowKind.{RowKind}
use Rattle.log_model.specs.declared.row_kind.RowKind.TheVariants as rows
use Rattle.log_model.specs.Equal.{holds}
use Rattle.log_model.specs.Seen.{Seen, Document, Asked, document_of, desk_of, request_in}
use Rattle.log_model.specs.After.{new_request, ended, requests_after}
use Rattle.log_model.specs.AfterRequests.{on_request, request_begun, on_served, request_served, requests_sent, requests_finished, requests_delivered, requests_told}
use Rattle.log_model.specs.Once.{is_open}
use Rattle.log_counts.proofs.Endings.{ended_in, IsLater, at_most_one, same_later, later_then, ended_more, on_later, on_ends}

-- ---- what orders, and documents' answers, leave

-- what an order adds to its request doesn't end it
served_same : (s : Seen) (job : Job) (task : Task) (q : Asked) → (request_served s job task q).ending ≡ q.ending
served_same s job (tasks.Activate entry epoch length index memo address) q = by_document (document_of s job.doc) refl
  where
    by_document : (o : Option Document) → document_of s job.doc ≡ o → (request_served s job (tasks.Activate entry epoch length index memo address) q).ending ≡ q.ending
    by_document None e = rw e refl
    by_document (Some d) e = rw e refl
served_same s job tasks.Freeze q = refl
served_same s job tasks.Discard q = refl
served_same s job (tasks.Ask slot cause) q = refl
served_same s job (tasks.Populate nav state address initial) q = refl
served_same s job (tasks.Update length index) q = refl
served_same s job (tasks.DoFragment req mode address) q = refl

on_served_later : (why : Why) (f : Asked → Asked) (asked : List Asked) → ((q : Asked) → (f q).ending ≡ q.ending) → IsLater asked (on_served why f asked)
on_served_later (whys.Req req) f asked same = on_later asked req f (λ q. rw (same q) (omega arith))
on_served_later (whys.Death death) f asked same = same_later asked
on_served_later whys.Evict f asked same = same_later asked
on_served_later whys.Start f asked same = same_later asked

served_later : (s : Seen) (job : Job) (task : Task) (asked : List Asked) → IsLater asked (on_served job.why (request_served s job task) asked)
served_later s job task asked = on_served_later job.why (request_served s job task) asked (served_same s job task)

sent_later : (s : Seen) (job : Job) (task : Task) (asked : List Asked) → IsLater asked (requests_sent s job task asked)
sent_later s job (tasks.DoFragment req mode address) asked = on_later asked req _ (λ q. omega arith)
sent_later s job (tasks.Populate nav state address initial) asked = same_later asked
sent_later s job (tasks.Update length index) asked = same_later asked
sent_later s job (tasks.Activate entry epoch length index memo address) asked =
    served_later s job (tasks.Activate entry epoch length index memo address) asked
sent_later s job tasks.Freeze asked = served_later s job tasks.Freeze asked
sent_later s job tasks.Discard asked = served_later s job tasks.Discard asked
sent_later s job (tasks.Ask slot cause) asked = served_later s job (tasks.Ask slot cause) asked

fragment_later : (s : Seen) (order : Order) (task : Task) (asked : List Asked) → order.job.task ≡ task → IsLater asked (requests_finished s (Some order) outcomes.Fragmented asked)
fragment_later s order (tasks.DoFragment req mode address) asked is = rw is (on_later asked req _ (λ q. omega arith))
fragment_later s order (tasks.Populate nav state address initial) asked is = rw is (same_later asked)
fragment_later s order (tasks.Activate entry epoch length index memo address) asked is = rw is (same_later asked)
fragment_later s order (tasks.Update length index) asked is = rw is (same_later asked)
fragment_later s order tasks.Freeze asked is = rw is (same_later asked)
fragment_later s order tasks.Discard asked is = rw is (same_later asked)
fragment_later s order (tasks.Ask slot cause) asked is = rw is (same_later asked)

finished_later : (s : Seen) (in_hand : Option Order) (outcome : Outcome) (asked : List Asked) → IsLater asked (requests_finished s in_hand outcome asked)
finished_later s None outcome asked = same_later asked
finished_later s (Some order) (outcomes.Asked verdict) asked = on_served_later order.job.why _ asked (λ q. refl)
finished_later s (Some order) outcomes.Fragmented asked = fragment_later s order order.job.task asked refl
finished_later s (Some order) (outcomes.Populated slot) asked = same_later asked
finished_later s (Some order) outcomes.Activated asked = same_later asked
finished_later s (Some order) outcomes.Updated asked = same_later asked
finished_later s (Some order) outcomes.Frozen asked = same_later asked
finished_later s (Some order) outcomes.Discarded asked = same_later asked

done_later : (job : Job) (outcome : Outcome) (made : Option Made) (asked : List Asked) → IsLater asked (requests_delivered (Some (reports.Done job outcome made)) asked)
done_later job (outcomes.Asked verdict) made asked = on_served_later job.why _ asked (λ q. refl)
done_later job outcomes.Fragmented made asked = same_later asked
done_later job (outcomes.Populated slot) made asked = same_later asked
done_later job outcomes.Activated made asked = same_later asked
done_later job outcomes.Updated made asked = same_later asked
done_later job outcomes.Frozen made asked = same_later asked
done_later job outcomes.Discarded made asked = same_later asked

delivered_later : (report : Option Report) (asked : List Asked) → IsLater asked (requests_delivered report asked)
delivered_later None asked = same_later asked
delivered_later (Some (reports.Done job outcome made)) asked = done_later job outcome made asked
delivered_later (Some (reports.Made made)) asked = same_later asked
delivered_later (Some (reports.Died death)) asked = same_later asked

-- ---- what each row leaves

ended_later : (asked : List Asked) (req : ReqId) (ending : Ending) → IsLater asked (ended asked req ending)
ended_later asked req ending = on_later asked req _ (λ q. at_most_one q.ending)

-- what the requests are after a row
abbrev pub requests_then : Seen → RowKind → List Asked
requests_then s kind = requests_told s kind (requests_after s.requests kind)

-- a request that is accepted is one more
accepted_more : (s : Seen) (req : ReqId) (doc : Option DocId) (what : Request) → length (requests_then s (rows.Accepted req doc what)) ≡ length s.requests + 1
accepted_more s req doc what = length-append s.requests (new_request req doc what ∷ [])

accepted_ended : (s : Seen) (req : ReqId) (doc : Option DocId) (what : Request) → ended_in (requests_then s (rows.Accepted req doc what)) ≡ ended_in s.requests
accepted_ended s req doc what = omega (arith, ended_more s.requests (new_request req doc what))

-- a change and what it took are noted
applied_later : (s : Seen) (req : ReqId) (change : Change) → IsLater (ended s.requests req endings.Applied) (requests_then s (rows.Applied req change))
applied_later s req change =
    later_then _ _ _ (on_later (ended s.requests req endings.Applied) req (λ q. record q { change = Some change }) (λ q. omega arith)) (on_later (on_request req (λ q. record q { change = Some change }) (ended s.requests req endings.Applied)) req _ (λ q. omega arith))

-- one has ended more where a change is applied
pub applied_ends : (s : Seen) (req : ReqId) (change : Change) → holds is_open (request_in s.requests req) ≡ true → ended_in s.requests + 1 ≤ ended_in (requests_then s (rows.Applied req change))
applied_ends s req change open_ =
    let one = on_ends s.requests req (λ q. record q { ending = Some endings.Applied }) (λ q. refl) open_ in
    let later = applied_later s req change in
    omega (arith, one, later.ended)

-- how many requests a row accepts
abbrev pub accepts : RowKind → ℕ
accepts (rows.Accepted req doc what) = 1
accepts _ = 0

-- so many requests as before, and those that the row accepts, of which none is open again
pub record Comes (n : ℕ) (asked next : List Asked) : Type 0 where
  pub long : length next ≡ length asked + n
  pub ended : ended_in asked ≤ ended_in next

none_comes : (asked next : List Asked) → IsLater asked next → Comes 0 asked next
none_comes asked next later = record { long = omega (arith, later.long); ended = later.ended }

-- each row
pub requests_come : (s : Seen) (kind : RowKind) → Comes (accepts kind) s.requests (requests_then s kind)
requests_come s (rows.Opened entry state doc proc slot address) = none_comes _ _ (same_later s.requests)
requests_come s (rows.Accepted req doc what) =
    record { long = accepted_more s req doc what; ended = omega (arith, accepted_ended s req doc what) }
requests_come s (rows.Started req goal) =
    none_comes _ _ (later_then _ _ _ (on_later s.requests req (λ q. record q { is_started = true; goal = goal }) (λ q. omega arith)) (on_later _ req (request_begun s) (λ q. omega arith)))
requests_come s (rows.Applied req change) =
    none_comes _ _ (later_then _ _ _ (ended_later s.requests req endings.Applied) (applied_later s req change))
requests_come s (rows.Refused req reason) = none_comes _ _ (ended_later s.requests req (endings.Refused reason))
requests_come s (rows.Dropped req cause) = none_comes _ _ (ended_later s.requests req (endings.Dropped cause))
requests_come s (rows.Prompted req doc) = none_comes _ _ (on_later s.requests req _ (λ q. omega arith))
requests_come s (rows.Answered req stay) = none_comes _ _ (on_later s.requests req _ (λ q. omega arith))
requests_come s (rows.Made proc made) = none_comes _ _ (on_later s.requests made.req _ (λ q. omega arith))
requests_come s (rows.Sent job) = none_comes _ _ (sent_later s job job.task s.requests)
requests_come s (rows.Taken proc job live dirty) = none_comes _ _ (same_later s.requests)
requests_come s (rows.Finished proc job outcome) =
    none_comes _ _ (finished_later s (desk_of s proc).in_hand outcome s.requests)
requests_come s (rows.Delivered proc) =
    none_comes _ _ (delivered_later (slice_get (desk_of s proc).reports 0) s.requests)
requests_come s (rows.Killed proc death) = none_comes _ _ (same_later s.requests)
requests_come s (rows.Evicted state) = none_comes _ _ (same_later s.requests)
