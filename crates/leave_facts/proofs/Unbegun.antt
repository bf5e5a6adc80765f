-- A request that hasn't begun has no navigable noted as awake for it: so it may leave any document.
use Rattle.std.proofs.Common.{◌≡◌, ℕ, ◌+◌, Bool, true, false, cond, ◌==◌, List, [], length, Option, Some, None, refl, sym, ap, ◌∙◌}
use Rattle.std.specs.Prelude.{slice_get}
use Rattle.tab_ids.specs.declared.DocId.{DocId}
use Rattle.tab_ids.specs.declared.EntryId.{EntryId}
use Rattle.tab_ids.specs.declared.ReqId.{ReqId}
use Rattle.tab_ids.specs.declared.StateId.{StateId}
use Rattle.tab_ids.specs.declared.ProcId.{ProcId}
use Rattle.log_model.specs.declared.change.Change.{Change}
use Rattle.log_model.specs.declared.outcome.Ending.{Ending}
use Rattle.log_model.specs.declared.outcome.Ending.TheVariants as endings
use Rattle.log_model.specs.declared.row_kind.Actor.{Actor}
use Rattle.log_model.specs.declared.row_kind.RowKind.{RowKind}
use Rattle.log_model.specs.declared.row_kind.RowKind.TheVariants as rows
use Rattle.log_model.proofs.Refl.{nat_eq_refl}
use Rattle.log_model.specs.After.{after, ended, new_request}
use Rattle.log_model.specs.AfterRequests.{entries_taken, on_request, request_begun}
use Rattle.log_model.specs.Checks.{may_be_left}
use Rattle.log_model.specs.Events.{Point}
use Rattle.log_model.specs.Seen.{Asked, Seen, desk_of, nothing, request_in, request_of}
use Rattle.seen_facts.proofs.Each.Courses.{was_asked}
use Rattle.seen_facts.proofs.Each.Runs.{each_asked_more, each_asked_on}
use Rattle.seen_facts.proofs.Request.Readers.{IsBlind, SameReads, delivered_reads, finished_reads, on_read, reads_then, sent_reads}
use Rattle.seen_facts.specs.Each.Runs.{EachAsked}
use Rattle.leave_facts.specs.Leaving.{AreAsked, BelowAsked}
use Rattle.leave_facts.proofs.Leaves.{left_unbegun}
use Rattle.leave_facts.proofs.Readies.{AwakeMade}

-- the request has begun, or no navigable is noted as awake for it
abbrev pub IsNotedLate : Asked → Type 0
IsNotedLate q = q.is_started ≡ false → q.awake_then ≡ []

-- each request
pub record AreNotedLate (s : Seen) : Type 0 where
  pub each : EachAsked (λ req q. IsNotedLate q) s.requests

-- what is read of a request
record Noted : Type 0 where
  is_started : Bool
  awake_then : List DocId

abbrev noted : Asked → Noted
noted q = record { is_started = q.is_started; awake_then = q.awake_then }

noted_blind : IsBlind noted
noted_blind =
    record { moves = λ q activated moved. refl; asks = λ q asks. refl; fragments = λ q doc. refl; misses = λ q is. refl }

-- where the same is read
late_again : (asked next_ : List Asked) → SameReads noted asked next_ → EachAsked (λ req q. IsNotedLate q) asked → EachAsked (λ req q. IsNotedLate q) next_
late_again asked next_ same each req q at unbegun =
    let was : (p : Asked) × (request_in asked req ≡ Some p) × (noted p ≡ noted q) = was_asked noted asked next_ same req q at in
    sym (ap (λ (n : Noted). n.awake_then) was.2) ∙ each req was.0 was.1 (ap (λ (n : Noted). n.is_started) was.2 ∙ unbegun)

ended_noted : (asked : List Asked) (req : ReqId) (ending : Ending) → SameReads noted asked (ended asked req ending)
ended_noted asked req ending = on_read noted asked req (λ q. record q { ending = Some ending }) (λ q. refl)

applied_noted : (asked : List Asked) (req : ReqId) (change : Change) (took : List EntryId) → SameReads noted asked (on_request req (λ q. record q { took = took }) (on_request req (λ q. record q { change = Some change }) (ended asked req endings.Applied)))
applied_noted asked req change took =
    let one : List Asked = ended asked req endings.Applied in
    let two : List Asked = on_request req (λ q. record q { change = Some change }) one in
    reads_then noted asked one (on_request req (λ q. record q { took = took }) two) (ended_noted asked req endings.Applied)
    (reads_then noted one two (on_request req (λ q. record q { took = took }) two) (on_read noted one req (λ q. record q { change = Some change }) (λ q. refl)) (on_read noted two req (λ q. record q { took = took }) (λ q. refl)))

-- the row opens no tab; a request that is accepted has the next number
abbrev pub IsNext : Seen → RowKind → Type 0
IsNext s (rows.Opened entry state doc proc slot address) = ⊥
IsNext s (rows.Accepted req doc what) = req.0 ≡ length s.requests + 1
IsNext s _ = Unit {0}

module _ (s : Seen) (event : ℕ) (actor : Actor) where
  abbrev then : RowKind → Seen
  then kind = after s (record { event = event; actor = actor; row = kind })

  same_late : (kind : RowKind) → SameReads noted s.requests (then kind).requests → AreNotedLate s → AreNotedLate (then kind)
  same_late kind same late = record { each = late_again s.requests (then kind).requests same late.each }

  -- over each such row it is so still
  pub late_row : (kind : RowKind) → IsNext s kind → AreNotedLate s → AreNotedLate (then kind)
  late_row (rows.Opened entry state doc proc slot address) never late = absurd never
  late_row (rows.Accepted req doc what) next late =
      record { each = each_asked_more (λ r q. IsNotedLate q) s.requests (new_request req doc what) req next (λ unbegun. refl) late.each }
  late_row (rows.Started req goal) next late = record { each = each }
    where
      begin : Asked → Asked
      begin q = record q { is_started = true; goal = goal }

      -- the request has begun; another one is as it was
      begins : EachAsked (λ r q. ((r.0 == req.0) ≡ true → q.is_started ≡ true) × ((r.0 == req.0) ≡ false → IsNotedLate q)) (on_request req begin s.requests)
      begins =
          each_asked_on (λ r q. IsNotedLate q) (λ r q. ((r.0 == req.0) ≡ true → q.is_started ≡ true) × ((r.0 == req.0) ≡ false → IsNotedLate q)) s.requests req begin (λ r q apart is. (λ same. (let never : true ≡ false = sym same ∙ apart in absurd cc), λ other. is)) (λ q at is. (λ same. refl, λ other unbegun. (let never : true ≡ false = unbegun in absurd cc))) late.each

      each : EachAsked (λ r q. IsNotedLate q) (then (rows.Started req goal)).requests
      each =
          each_asked_on (λ r q. ((r.0 == req.0) ≡ true → q.is_started ≡ true) × ((r.0 == req.0) ≡ false → IsNotedLate q)) (λ r q. IsNotedLate q) (on_request req begin s.requests) req (request_begun s) (λ r q apart is. is.1 apart) (λ q at is unbegun. (let never : true ≡ false = sym (is.0 (nat_eq_refl req.0)) ∙ unbegun in absurd cc)) begins
  late_row (rows.Applied req change) next late =
      same_late (rows.Applied req change) (applied_noted s.requests req change (entries_taken s.history change)) late
  late_row (rows.Refused req reason) next late =
      same_late (rows.Refused req reason) (ended_noted s.requests req (endings.Refused reason)) late
  late_row (rows.Dropped req cause) next late =
      same_late (rows.Dropped req cause) (ended_noted s.requests req (endings.Dropped cause)) late
  late_row (rows.Prompted req doc) next late =
      same_late (rows.Prompted req doc) (on_read noted s.requests req (λ q. record q { prompted = Some doc }) (λ q. refl)) late
  late_row (rows.Answered req stay) next late =
      same_late (rows.Answered req stay) (on_read noted s.requests req (λ q. record q { answered = Some stay }) (λ q. refl)) late
  late_row (rows.Sent job) next late =
      same_late (rows.Sent job) (sent_reads noted noted_blind s job job.task s.requests) late
  late_row (rows.Taken proc job live dirty) next late = same_late (rows.Taken proc job live dirty) (λ r. refl) late
  late_row (rows.Finished proc job outcome) next late =
      same_late (rows.Finished proc job outcome) (finished_reads noted noted_blind s (desk_of s proc).in_hand outcome s.requests) late
  late_row (rows.Made proc made) next late =
      same_late (rows.Made proc made) (on_read noted s.requests made.req (λ q. record q { made = Some made }) (λ q. refl)) late
  late_row (rows.Delivered proc) next late =
      same_late (rows.Delivered proc) (delivered_reads noted noted_blind (slice_get (desk_of s proc).reports 0) s.requests) late
  late_row (rows.Killed proc death) next late = same_late (rows.Killed proc death) (λ r. refl) late
  late_row (rows.Evicted state) next late = same_late (rows.Evicted state) (λ r. refl) late

-- ---- the tab opens

module _ (event : ℕ) (actor : Actor) (entry : EntryId) (state : StateId) (doc : DocId) (proc : ProcId) (slot : Option ℕ) (address : List ℕ) where
  -- what the log has come to then
  abbrev pub opened : Seen
  opened = after nothing (record { event = event; actor = actor; row = rows.Opened entry state doc proc slot address })

  none : {A : Type 0} (req : ReqId) (q : Asked) → request_of opened req ≡ Some q → A
  none {A} req q found = by_number (req.0 == 0) found
    where
      by_number : (b : Bool) → (let o : Option Asked = cond b None None in o) ≡ Some q → A
      by_number true e = absurd cc
      by_number false e = absurd cc

  -- there is no request, so all that is said of requests is so
  pub late_opened : AreNotedLate opened
  late_opened = record { each = λ req q found. none req q found }

  -- none has anybody awake for it
  pub made_opened : AwakeMade opened
  made_opened = record { each = λ doc for. none for.req for.q for.found }

  -- none is a load or reload
  pub below_opened : BelowAsked opened
  below_opened = record { each = λ req q nav is. none req q is.found }

  -- none leaves a document
  pub asked_opened : AreAsked opened
  asked_opened =
      record {
        stay = λ req q goal is. none req q is.found;
        leavers = λ req q goal is. none req q is.found;
        loads = λ req q nav is. none req q is.found;
      }

-- a request that hasn't begun may leave any
pub left_late : (p : Point) → AreNotedLate p.now → (doc : DocId) (req : ReqId) (q : Asked) → request_of p.now req ≡ Some q → q.is_started ≡ false → may_be_left p doc req ≡ true
left_late p late doc req q found unbegun = left_unbegun p doc req q found (late.each req q found unbegun)
