-- A request that had its outcome before an event has it still: so one that runs hadn't.
use Rattle.seen_facts.proofs.Coord.Held.{on_else}
use Rattle.log_model.specs.After.{after, ended}
use Rattle.log_model.specs.AfterRequests.{entries_taken, request_begun}
use Rattle.log_model.specs.Equal.{holds}
use Rattle.log_model.specs.Points.{had_ended}
use Rattle.log_model.specs.Seen.{Asked, Seen, desk_of, request_in, request_of}
use Rattle.log_model.specs.declared.outcome.Ending.{Ending}
use Rattle.log_model.specs.declared.row_kind.LogRow.{LogRow}
use Rattle.log_model.specs.declared.row_kind.RowKind.{RowKind}
use Rattle.row_facts.proofs.Owed.Requests.{req_same}
use Rattle.seen_facts.proofs.Request.LookUps.{on_itself}
use Rattle.seen_facts.proofs.Request.Readers.{IsBlind, SameReads, delivered_reads, finished_reads, on_read, reads_then, sent_reads}
use Rattle.seen_laws.specs.Blocks.{Here, on_row, on_rows, point_at}
use Rattle.seen_laws.specs.InEvent.{InEvent, first_of, now_of, own_of, row_of, seen_here, log_of}
use Rattle.seen_laws.specs.Unasked.{unasked_request, unbegun, without_asks}
use Rattle.std.proofs.Common.{Bool, List, None, Option, Some, [], ap, cond, false, map, refl, subst, sym, true, zero, suc, ℕ, ◌++◌, ◌-◌, ◌==◌, ◌∙◌, ◌∷◌, ◌≡◌}
use Rattle.std.specs.Prelude.{if◌then◌else◌, is_some, option_map, slice_get}
use Rattle.tab_ids.specs.declared.ReqId.{ReqId}
use Rattle.log_model.specs.declared.outcome.Ending.TheVariants as endings
use Rattle.log_model.specs.declared.row_kind.RowKind.TheVariants as rows

-- it has its outcome
abbrev pub has_outcome : Asked → Bool
has_outcome q = is_some q.ending

-- so has the request of a number
abbrev pub HasOutcome : List Asked → ReqId → Type 0
HasOutcome asked req = holds has_outcome (request_in asked req) ≡ true

outcome_blind : IsBlind has_outcome
outcome_blind = record { moves = λ q activated moved. refl; asks = λ q asks. refl; fragments = λ q doc. refl; misses = λ q is. refl }

-- where each is read as before
as_read : (asked next : List Asked) (req : ReqId) → SameReads has_outcome asked next → HasOutcome asked req → HasOutcome next req
as_read asked next req same has = by_found (request_in asked req) (request_in next req) (same req) has
  where
    by_found : (o p : Option Asked) → option_map has_outcome p ≡ option_map has_outcome o → holds has_outcome o ≡ true → holds has_outcome p ≡ true
    by_found None p is has = absurd cc
    by_found (Some q) None is has = absurd cc
    by_found (Some q) (Some r) is has = (let one : has_outcome r ≡ has_outcome q = cc in one ∙ has)

-- where one ends
on_ended : (asked : List Asked) (own req : ReqId) (ending : Ending) → HasOutcome asked req → HasOutcome (ended asked own ending) req
on_ended asked own req ending has = by_number (req.0 == own.0) refl
  where
    end_it : Asked → Asked
    end_it q = record q { ending = Some ending }

    by_found : (o : Option Asked) → holds has_outcome o ≡ true → holds has_outcome (option_map end_it o) ≡ true
    by_found None has_ = absurd cc
    by_found (Some q) has_ = refl

    by_number : (b : Bool) → (req.0 == own.0) ≡ b → HasOutcome (ended asked own ending) req
    by_number true is =
        let same : req ≡ own = req_same req own is in
        subst (λ (r : ReqId). HasOutcome (ended asked own ending) r) (sym same)
        (ap (holds has_outcome) (on_itself asked own end_it) ∙ by_found (request_in asked own) (subst (λ (r : ReqId). HasOutcome asked r) same has))
    by_number false is = ap (holds has_outcome) (on_else asked own end_it req is) ∙ has

-- where one more is accepted
one_more : (asked : List Asked) (q : Asked) (n : ℕ) → holds has_outcome (slice_get asked n) ≡ true → holds has_outcome (slice_get (asked ++ q ∷ []) n) ≡ true
one_more [] q zero has = absurd cc
one_more [] q (suc n) has = absurd cc
one_more (x ∷ asked) q zero has = has
one_more (x ∷ asked) q (suc n) has = one_more asked q n has

more_outcome : (asked : List Asked) (q : Asked) (req : ReqId) → HasOutcome asked req → HasOutcome (asked ++ q ∷ []) req
more_outcome asked q req has = by_number (req.0 == 0) (one_more asked q (req.0 - 1)) has
  where
    by_number : (b : Bool) → (holds has_outcome (slice_get asked (req.0 - 1)) ≡ true → holds has_outcome (slice_get (asked ++ q ∷ []) (req.0 - 1)) ≡ true) → holds has_outcome (cond b None (slice_get asked (req.0 - 1))) ≡ true → holds has_outcome (cond b None (slice_get (asked ++ q ∷ []) (req.0 - 1))) ≡ true
    by_number true more is = is
    by_number false more is = more is

-- after any row
outcome_stays : (s : Seen) (row : LogRow) (req : ReqId) → HasOutcome s.requests req → HasOutcome (after s row).requests req
outcome_stays s row req has = by_kind row.row refl
  where
    then_ : RowKind → List Asked
    then_ kind = (after s (record row { row = kind })).requests

    same : (kind : RowKind) → SameReads has_outcome s.requests (then_ kind) → HasOutcome (then_ kind) req
    same kind reads = as_read s.requests (then_ kind) req reads has

    by_kind : (kind : RowKind) → row.row ≡ kind → HasOutcome (then_ kind) req
    by_kind (rows.Accepted r doc what) is = more_outcome s.requests _ req has
    by_kind (rows.Started r goal) is =
        same (rows.Started r goal) (reads_then has_outcome s.requests _ (then_ (rows.Started r goal)) (on_read has_outcome s.requests r (λ q. record q { is_started = true; goal = goal }) (λ q. refl)) (on_read has_outcome _ r (request_begun s) (λ q. refl)))
    by_kind (rows.Applied r change) is =
        as_read (ended s.requests r endings.Applied) (then_ (rows.Applied r change)) req
        (reads_then has_outcome (ended s.requests r endings.Applied) _ (then_ (rows.Applied r change)) (on_read has_outcome (ended s.requests r endings.Applied) r (λ q. record q { change = Some change }) (λ q. refl)) (on_read has_outcome _ r (λ q. record q { took = entries_taken s.history change }) (λ q. refl)))
        (on_ended s.requests r req endings.Applied has)
    by_kind (rows.Refused r reason) is = on_ended s.requests r req (endings.Refused reason) has
    by_kind (rows.Dropped r cause) is = on_ended s.requests r req (endings.Dropped cause) has
    by_kind (rows.Prompted r doc) is = same (rows.Prompted r doc) (on_read has_outcome s.requests r (λ q. record q { prompted = Some doc }) (λ q. refl))
    by_kind (rows.Answered r stay) is = same (rows.Answered r stay) (on_read has_outcome s.requests r (λ q. record q { answered = Some stay }) (λ q. refl))
    by_kind (rows.Made proc made) is = same (rows.Made proc made) (on_read has_outcome s.requests made.req (λ q. record q { made = Some made }) (λ q. refl))
    by_kind (rows.Sent job) is = same (rows.Sent job) (sent_reads has_outcome outcome_blind s job job.task s.requests)
    by_kind (rows.Finished proc job outcome) is = same (rows.Finished proc job outcome) (finished_reads has_outcome outcome_blind s (desk_of s proc).in_hand outcome s.requests)
    by_kind (rows.Delivered proc) is = same (rows.Delivered proc) (delivered_reads has_outcome outcome_blind (slice_get (desk_of s proc).reports 0) s.requests)
    by_kind (rows.Opened entry state doc proc slot address) is = has
    by_kind (rows.Evicted state) is = has
    by_kind (rows.Taken proc job live dirty) is = has
    by_kind (rows.Killed proc death) is = has

-- after any rows
outcome_on : (h : Here) (more : List LogRow) (req : ReqId) → HasOutcome h.now.requests req → HasOutcome (on_rows h more).now.requests req
outcome_on h [] req has = has
outcome_on h (row ∷ more) req has = outcome_on (on_row h row) more req (outcome_stays h.now row req has)

-- who has it has it in the log without questions too
as_seen : (checking : ReqId → Bool) (asked : List Asked) (req : ReqId) → holds has_outcome (request_in (map (unasked_request checking) asked) req) ≡ holds has_outcome (request_in asked req)
as_seen checking asked req = by_number (req.0 == 0) (at asked (req.0 - 1))
  where
    as_masked : (b : Bool) (q : Asked) → has_outcome (if b then unbegun q else without_asks q) ≡ has_outcome q
    as_masked true q = refl
    as_masked false q = refl

    at : (list : List Asked) (n : ℕ) → holds has_outcome (slice_get (map (unasked_request checking) list) n) ≡ holds has_outcome (slice_get list n)
    at [] n = refl
    at (q ∷ list) zero = as_masked (checking q.nr) q
    at (q ∷ list) (suc n) = at list n

    by_number : (b : Bool) → holds has_outcome (slice_get (map (unasked_request checking) asked) (req.0 - 1)) ≡ holds has_outcome (slice_get asked (req.0 - 1)) → holds has_outcome (cond b None (slice_get (map (unasked_request checking) asked) (req.0 - 1))) ≡ holds has_outcome (cond b None (slice_get asked (req.0 - 1)))
    by_number true same = refl
    by_number false same = same

-- so it is wherever the event stands
outcome_now : (e : InEvent) (out : List RowKind) (req : ReqId) → HasOutcome e.start.requests req → HasOutcome (now_of e out).requests req
unfolding now_of
outcome_now e out req has =
    as_seen e.checking (log_of e out).requests req
    ∙ outcome_on (first_of e) (map (row_of e) out) req (outcome_on (own_of e) (map (row_of e) e.before) req (outcome_stays e.start (row_of e e.own) req has))

-- a request that is open had no outcome before the event
pub open_before : (e : InEvent) (out : List RowKind) (req : ReqId) (q : Asked) → request_of (now_of e out) req ≡ Some q → q.ending ≡ None → had_ended (point_at (seen_here e out) []) req ≡ false
open_before e out req q at open_ = by_test (holds has_outcome (request_of e.start req)) refl
  where
    by_test : (b : Bool) → holds has_outcome (request_of e.start req) ≡ b → had_ended (point_at (seen_here e out) []) req ≡ false
    by_test false is = as_seen e.checking e.start.requests req ∙ is
    by_test true is =
        let now_ : holds has_outcome (request_of (now_of e out) req) ≡ true = outcome_now e out req is in
        let own : holds has_outcome (request_of (now_of e out) req) ≡ false = ap (holds has_outcome) at ∙ ap (λ (o : Option Ending). is_some o) open_ in
        let never : true ≡ false = sym now_ ∙ own in absurd cc
