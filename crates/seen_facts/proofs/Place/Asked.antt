-- Requests stay from row to row, so who was asked by one still was.
use Rattle.std.proofs.Common.{◌≡◌, ◌+◌, true, List, [], ◌∷◌, ◌++◌, length, Option, Some, refl}
use Rattle.std.specs.Prelude.{slice_get}
use Rattle.tab_ids.specs.declared.DocId.{DocId}
use Rattle.tab_ids.specs.declared.ReqId.{ReqId}
use Rattle.log_model.specs.declared.change.Change.{Change}
use Rattle.log_model.specs.declared.outcome.Ending.{Ending}
use Rattle.log_model.specs.declared.outcome.Ending.TheVariants as endings
use Rattle.log_model.specs.declared.request.Request.{Request}
use Rattle.log_model.specs.declared.row_kind.RowKind.{RowKind}
use Rattle.log_model.specs.declared.row_kind.RowKind.TheVariants as rows
use Rattle.log_model.specs.After.{ended, new_request, requests_after}
use Rattle.log_model.specs.AfterRequests.{entries_taken, on_request, request_begun, requests_told}
use Rattle.log_model.specs.Seen.{Seen, Asked, desk_of, request_in}
use Rattle.seen_facts.proofs.Request.Readers.{IsBlind, SameReads, delivered_reads, finished_reads, on_read, reads_then, sent_reads}
use Rattle.seen_facts.proofs.Each.Courses.{is_asked}
use Rattle.seen_facts.proofs.Each.Earlier.{still_there}
use Rattle.seen_facts.specs.Place.Standing.{IsAskedBy}

-- a request that was there is there
abbrev pub StayAsked : List Asked → List Asked → Type 0
StayAsked asked next = (req : ReqId) (q : Asked) → request_in asked req ≡ Some q → (new : Asked) × (request_in next req ≡ Some new)

-- so who asked is there
pub asked_by_stays : (asked next : List Asked) (by : Option ReqId) → StayAsked asked next → IsAskedBy asked by → IsAskedBy next by
asked_by_stays asked next by stay is =
    let now = stay is.req is.q is.there in
    record { req = is.req; is = is.is; q = now.0; there = now.1 }

-- no request changes
pub asked_same : (asked : List Asked) → StayAsked asked asked
asked_same asked req q at = (q, at)

-- one more has the next number
pub asked_more : (asked : List Asked) (req : ReqId) (doc : Option DocId) (what : Request) → req.0 ≡ length asked + 1 → StayAsked asked (asked ++ new_request req doc what ∷ [])
asked_more asked req doc what next old q at = (q, still_there asked (new_request req doc what) q req old next at)

-- its number, at which no row looks
abbrev nr_of : Asked → ReqId
nr_of q = q.nr

blind : IsBlind nr_of
blind =
    record {
      moves = λ q activated moved. refl;
      asks = λ q asks. refl;
      fragments = λ q doc. refl;
      misses = λ q is. refl;
    }

asked_read : (asked next : List Asked) → SameReads nr_of asked next → StayAsked asked next
asked_read asked next same req q at = let now = is_asked nr_of asked next same req q at in (now.0, now.1)

-- the row accepts no request
abbrev pub IsNotAccepted : RowKind → Type 0
IsNotAccepted (rows.Accepted req doc what) = ⊥
IsNotAccepted _ = Unit {0}

ended_reads : (asked : List Asked) (req : ReqId) (ending : Ending) → SameReads nr_of asked (ended asked req ending)
ended_reads asked req ending = on_read nr_of asked req (λ q. record q { ending = Some ending }) (λ q. refl)

applied_reads : (s : Seen) (asked : List Asked) (req : ReqId) (change : Change) → SameReads nr_of asked (requests_told s (rows.Applied req change) (requests_after asked (rows.Applied req change)))
applied_reads s asked req change =
    reads_then nr_of asked (ended asked req endings.Applied) (on_request req take (on_request req say (ended asked req endings.Applied))) (ended_reads asked req endings.Applied)
    (reads_then nr_of (ended asked req endings.Applied) (on_request req say (ended asked req endings.Applied)) (on_request req take (on_request req say (ended asked req endings.Applied))) (on_read nr_of (ended asked req endings.Applied) req say (λ q. refl)) (on_read nr_of (on_request req say (ended asked req endings.Applied)) req take (λ q. refl)))
  where
    say : Asked → Asked
    say q = record q { change = Some change }

    take : Asked → Asked
    take q = record q { took = entries_taken s.history change }

kind_reads : (s : Seen) (asked : List Asked) (kind : RowKind) → IsNotAccepted kind → SameReads nr_of asked (requests_told s kind (requests_after asked kind))
kind_reads s asked (rows.Accepted req doc what) never = absurd never
kind_reads s asked (rows.Opened entry state doc proc slot address) not_ = λ r. refl
kind_reads s asked (rows.Started req goal) not_ =
    reads_then nr_of asked (on_request req (λ q. record q { is_started = true; goal = goal }) asked) (on_request req (request_begun s) (on_request req (λ q. record q { is_started = true; goal = goal }) asked)) (on_read nr_of asked req (λ q. record q { is_started = true; goal = goal }) (λ q. refl)) (on_read nr_of (on_request req (λ q. record q { is_started = true; goal = goal }) asked) req (request_begun s) (λ q. refl))
kind_reads s asked (rows.Applied req change) not_ = applied_reads s asked req change
kind_reads s asked (rows.Refused req reason) not_ = ended_reads asked req (endings.Refused reason)
kind_reads s asked (rows.Dropped req cause) not_ = ended_reads asked req (endings.Dropped cause)
kind_reads s asked (rows.Sent job) not_ = sent_reads nr_of blind s job job.task asked
kind_reads s asked (rows.Taken proc job live dirty) not_ = λ r. refl
kind_reads s asked (rows.Finished proc job outcome) not_ = finished_reads nr_of blind s (desk_of s proc).in_hand outcome asked
kind_reads s asked (rows.Made proc made) not_ = on_read nr_of asked made.req (λ q. record q { made = Some made }) (λ q. refl)
kind_reads s asked (rows.Delivered proc) not_ = delivered_reads nr_of blind (slice_get (desk_of s proc).reports 0) asked
kind_reads s asked (rows.Prompted req doc) not_ = on_read nr_of asked req (λ q. record q { prompted = Some doc }) (λ q. refl)
kind_reads s asked (rows.Answered req stay) not_ = on_read nr_of asked req (λ q. record q { answered = Some stay }) (λ q. refl)
kind_reads s asked (rows.Killed proc death) not_ = λ r. refl
kind_reads s asked (rows.Evicted state) not_ = λ r. refl

-- but for one that is accepted, a row leaves the requests there
pub asked_stay : (s : Seen) (kind : RowKind) → IsNotAccepted kind → StayAsked s.requests (requests_told s kind (requests_after s.requests kind))
asked_stay s kind not_ = asked_read s.requests (requests_told s kind (requests_after s.requests kind)) (kind_reads s s.requests kind not_)
