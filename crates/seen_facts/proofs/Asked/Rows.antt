-- Requests stay plain over each row that sends no order: the tab's opening, requests that are accepted and end, what processes do, and reports but of a death.
use Rattle.std.proofs.Common.{◌≡◌, ℕ, ◌+◌, Bool, true, false, cond, ◌==◌, List, [], length, Option, Some, None, refl}
use Rattle.std.specs.Prelude.{slice_get}
use Rattle.tab_ids.specs.declared.DocId.{DocId}
use Rattle.tab_ids.specs.declared.EntryId.{EntryId}
use Rattle.tab_ids.specs.declared.JobId.{JobId}
use Rattle.tab_ids.specs.declared.ProcId.{ProcId}
use Rattle.tab_ids.specs.declared.ReqId.{ReqId}
use Rattle.tab_ids.specs.declared.StateId.{StateId}
use Rattle.log_model.specs.declared.change.Change.{Change}
use Rattle.log_model.specs.declared.job.Order.{Order}
use Rattle.log_model.specs.declared.job.Task.{Task}
use Rattle.log_model.specs.declared.job.Task.TheVariants as tasks
use Rattle.log_model.specs.declared.made.Made.{Made}
use Rattle.log_model.specs.declared.made.Report.{Report}
use Rattle.log_model.specs.declared.made.Report.TheVariants as reports
use Rattle.log_model.specs.declared.outcome.Cause.{Cause}
use Rattle.log_model.specs.declared.outcome.Denial.{Denial}
use Rattle.log_model.specs.declared.outcome.Ending.{Ending}
use Rattle.log_model.specs.declared.outcome.Ending.TheVariants as endings
use Rattle.log_model.specs.declared.outcome.Outcome.{Outcome}
use Rattle.log_model.specs.declared.outcome.Outcome.TheVariants as outcomes
use Rattle.log_model.specs.declared.request.Request.{Request}
use Rattle.log_model.specs.declared.row_kind.Actor.{Actor}
use Rattle.log_model.specs.declared.row_kind.RowKind.{RowKind}
use Rattle.log_model.specs.declared.row_kind.RowKind.TheVariants as rows
use Rattle.log_model.specs.After.{after, desk_delivered, desk_finished, desk_taken, desks_made, ended, follows_finished, known_after, new_request}
use Rattle.log_model.specs.AfterRequests.{entries_taken, on_request, requests_delivered, requests_finished}
use Rattle.log_model.specs.Seen.{Seen, Asked, Desk, desk_of, empty_desk, nothing, request_in}
use Rattle.seen_facts.proofs.Coord.Unread.{accepted_left, dropped_left, refused_left}
use Rattle.seen_facts.proofs.Request.Readers.{SameReads, delivered_reads, finished_reads, on_read, reads_then}
use Rattle.seen_facts.specs.Each.Items.{NoneDied}
use Rattle.seen_facts.specs.Each.Runs.{EachAsked, is_run, is_this}
use Rattle.seen_facts.proofs.Each.Courses.{runs_again, runs_applied, runs_ended, runs_ended_other, runs_more}
use Rattle.seen_facts.proofs.Each.Died.{died_on}
use Rattle.seen_facts.specs.Asked.Asking.{ArePlain, HavePassed, IsAskedPlainly, IsTabRequest}
use Rattle.seen_facts.proofs.Asked.Plainly.{asks_apart, plain_again, plain_more, plain_served, plainness}
use Rattle.seen_facts.proofs.Asked.Passed.{IsNext, IsNoQuestion, have_passed}
use Rattle.seen_facts.proofs.Asked.Stays.{left_died, left_plain, other_runs, quiet_plain, runs_still, run_blind, what_blind}

-- no death is reported
abbrev pub NoDeath : Option Report → Type 0
NoDeath (Some (reports.Died death)) = ⊥
NoDeath _ = Unit {0}

-- ---- a request ends, or its change is applied

ended_same : (asked : List Asked) (req : ReqId) (ending : Ending) → SameReads plainness asked (ended asked req ending)
ended_same asked req ending = on_read plainness asked req (λ q. record q { ending = Some ending }) (λ q. refl)

applied_same : (asked : List Asked) (req : ReqId) (change : Change) (took : List EntryId) → SameReads plainness asked (on_request req (λ q. record q { took = took }) (on_request req (λ q. record q { change = Some change }) (ended asked req endings.Applied)))
applied_same asked req change took =
    let one : List Asked = ended asked req endings.Applied in
    let two : List Asked = on_request req (λ q. record q { change = Some change }) one in
    reads_then plainness asked one (on_request req (λ q. record q { took = took }) two) (ended_same asked req endings.Applied)
    (reads_then plainness one two (on_request req (λ q. record q { took = took }) two) (on_read plainness one req (λ q. record q { change = Some change }) (λ q. refl)) (on_read plainness two req (λ q. record q { took = took }) (λ q. refl)))

-- ---- documents answer

finished_each : (s : Seen) (in_hand : Option Order) (outcome : Outcome) (asked : List Asked) → EachAsked IsAskedPlainly asked → EachAsked IsAskedPlainly (requests_finished s in_hand outcome asked)
finished_each s None outcome asked each = each
finished_each s (Some order) (outcomes.Asked verdict) asked each =
    plain_served order.job.why _ asked (asks_apart order.job.nr _) each
finished_each s (Some order) outcomes.Fragmented asked each = by_task order.job.task refl
  where
    by_task : (task : Task) → order.job.task ≡ task → EachAsked IsAskedPlainly (requests_finished s (Some order) outcomes.Fragmented asked)
    by_task (tasks.DoFragment req mode address) is =
        rw is (plain_again asked (on_request req _ asked) (on_read plainness asked req _ (λ q. refl)) each)
    by_task (tasks.Populate nav state address initial) is = rw is each
    by_task (tasks.Activate entry epoch length index memo address) is = rw is each
    by_task (tasks.Update length index) is = rw is each
    by_task tasks.Freeze is = rw is each
    by_task tasks.Discard is = rw is each
    by_task (tasks.Ask slot cause) is = rw is each
finished_each s (Some order) (outcomes.Populated slot) asked each = each
finished_each s (Some order) outcomes.Activated asked each = each
finished_each s (Some order) outcomes.Updated asked each = each
finished_each s (Some order) outcomes.Frozen asked each = each
finished_each s (Some order) outcomes.Discarded asked each = each

delivered_each : (report : Option Report) (asked : List Asked) → EachAsked IsAskedPlainly asked → EachAsked IsAskedPlainly (requests_delivered report asked)
delivered_each None asked each = each
delivered_each (Some (reports.Made made)) asked each = each
delivered_each (Some (reports.Died death)) asked each = each
delivered_each (Some (reports.Done job outcome made)) asked each = by_outcome outcome
  where
    by_outcome : (o : Outcome) → EachAsked IsAskedPlainly (requests_delivered (Some (reports.Done job o made)) asked)
    by_outcome (outcomes.Asked verdict) = plain_served job.why _ asked (asks_apart job.nr _) each
    by_outcome outcomes.Fragmented = each
    by_outcome (outcomes.Populated slot) = each
    by_outcome outcomes.Activated = each
    by_outcome outcomes.Updated = each
    by_outcome outcomes.Frozen = each
    by_outcome outcomes.Discarded = each

none_known : (known : ℕ) (o : Option Report) → NoDeath o → known_after known o ≡ known
none_known known None no_death = refl
none_known known (Some (reports.Made made)) no_death = refl
none_known known (Some (reports.Done job outcome made)) no_death = refl
none_known known (Some (reports.Died death)) never = absurd never

-- ---- the rows

module _ (run : Option ReqId) (s : Seen) (event : ℕ) (actor : Actor) (are : ArePlain run s) where
  abbrev then_ : RowKind → Seen
  then_ kind = after s (record { event = event; actor = actor; row = kind })

  passed_then : (kind : RowKind) → IsNoQuestion kind → IsNext s kind → HavePassed (then_ kind)
  passed_then kind quiet next =
      have_passed s (record { event = event; actor = actor; row = kind }) quiet next are.passed

  -- a request has the next number, and is one of a tab; a poke may join an input
  pub accepted_plain : (req : ReqId) (doc : Option DocId) (what : Request) → req.0 ≡ length s.requests + 1 → IsTabRequest what → ArePlain run (then_ (rows.Accepted req doc what))
  accepted_plain req doc what next is =
      let new : Asked = new_request req doc what in
      record {
        each = plain_more s.requests req doc what next is are.each;
        passed = passed_then (rows.Accepted req doc what) tt next;
        only = runs_more run s.requests req doc what next (other_runs run s new req next are.runs) are.only;
        runs = runs_still run s new req next are.runs (then_ (rows.Accepted req doc what)) refl;
        died = left_died s (then_ (rows.Accepted req doc what)) (accepted_left s event actor req doc what) are.died;
      }

  -- a request is refused that doesn't run
  pub refused_plain : (req : ReqId) (reason : Denial) → is_this run req ≡ false → ArePlain run (then_ (rows.Refused req reason))
  refused_plain req reason other =
      quiet_plain run s (then_ (rows.Refused req reason)) are (ended_same s.requests req (endings.Refused reason)) (runs_ended_other run s.requests req (endings.Refused reason) other are.only) (left_died s (then_ (rows.Refused req reason)) (refused_left s event actor req reason) are.died) (passed_then (rows.Refused req reason) tt tt)

  -- a request is dropped that doesn't run
  pub dropped_plain : (req : ReqId) (cause : Cause) → is_this run req ≡ false → ArePlain run (then_ (rows.Dropped req cause))
  dropped_plain req cause other =
      quiet_plain run s (then_ (rows.Dropped req cause)) are (ended_same s.requests req (endings.Dropped cause)) (runs_ended_other run s.requests req (endings.Dropped cause) other are.only) (left_died s (then_ (rows.Dropped req cause)) (dropped_left s event actor req cause) are.died) (passed_then (rows.Dropped req cause) tt tt)

  -- a change is applied of a request that doesn't run
  pub applied_plain : (req : ReqId) (change : Change) → is_this run req ≡ false → ArePlain run (then_ (rows.Applied req change))
  applied_plain req change other =
      quiet_plain run s (then_ (rows.Applied req change)) are (applied_same s.requests req change (entries_taken s.history change)) (runs_applied run (ended s.requests req endings.Applied) req change (entries_taken s.history change) (runs_ended_other run s.requests req endings.Applied other are.only)) are.died (passed_then (rows.Applied req change) tt tt)

  -- a document state is evicted
  pub evicted_plain : (state : StateId) → ArePlain run (then_ (rows.Evicted state))
  evicted_plain state =
      quiet_plain run s (then_ (rows.Evicted state)) are (λ r. refl) are.only are.died (passed_then (rows.Evicted state) tt tt)

  -- a process takes up an order
  pub taken_plain : (proc : ProcId) (job : JobId) (live dirty : Bool) → ArePlain run (then_ (rows.Taken proc job live dirty))
  taken_plain proc job live dirty =
      quiet_plain run s (then_ (rows.Taken proc job live dirty)) are (λ r. refl) are.only (died_on s (then_ (rows.Taken proc job live dirty)) proc (desk_taken live dirty) refl (λ desk. refl) refl refl are.died) (passed_then (rows.Taken proc job live dirty) tt tt)

  -- a process finishes its order
  pub finished_plain : (proc : ProcId) (job : JobId) (outcome : Outcome) → ArePlain run (then_ (rows.Finished proc job outcome))
  finished_plain proc job outcome =
      left_plain run s (then_ (rows.Finished proc job outcome)) are (record {
        whats = finished_reads (λ (q : Asked). q.what) what_blind s (desk_of s proc).in_hand outcome s.requests;
        each = finished_each s (desk_of s proc).in_hand outcome s.requests are.each;
        passed = passed_then (rows.Finished proc job outcome) tt tt;
        only = runs_again run s.requests (then_ (rows.Finished proc job outcome)).requests (finished_reads is_run run_blind s (desk_of s proc).in_hand outcome s.requests) are.only;
        died = died_on s (then_ (rows.Finished proc job outcome)) proc (desk_finished outcome) refl (λ desk. refl) refl refl are.died;
      })

  -- a document makes something of a request
  pub made_plain : (proc : ProcId) (made : Made) → ArePlain run (then_ (rows.Made proc made))
  made_plain proc made =
      quiet_plain run s (then_ (rows.Made proc made)) are (on_read plainness s.requests made.req (λ q. record q { made = Some made }) (λ q. refl)) (runs_again run s.requests (then_ (rows.Made proc made)).requests (on_read is_run s.requests made.req (λ q. record q { made = Some made }) (λ q. refl)) are.only) died (passed_then (rows.Made proc made) tt tt)
    where
      f : Desk → Desk
      f = desks_made (follows_finished s (record { event = event; actor = actor; row = rows.Made proc made })) made

      alike : (b : Bool) (desk : Desk) → ((desks_made b made desk).proc ≡ desk.proc) × ((desks_made b made desk).known ≡ desk.known) × ((desks_made b made desk).killed ≡ desk.killed)
      alike true desk = (refl, refl, refl)
      alike false desk = (refl, refl, refl)

      same : (desk : Desk) → ((f desk).proc ≡ desk.proc) × ((f desk).known ≡ desk.known) × ((f desk).killed ≡ desk.killed)
      same = alike (follows_finished s (record { event = event; actor = actor; row = rows.Made proc made }))

      died : NoneDied (then_ (rows.Made proc made))
      died =
          died_on s (then_ (rows.Made proc made)) proc f refl (λ desk. (same desk).0) (same (desk_of s proc)).1 (same (desk_of s proc)).2 are.died

  -- a report is delivered that tells of no death
  pub delivered_plain : (proc : ProcId) → NoDeath (slice_get (desk_of s proc).reports 0) → ArePlain run (then_ (rows.Delivered proc))
  delivered_plain proc no_death =
      let report = slice_get (desk_of s proc).reports 0 in
      left_plain run s (then_ (rows.Delivered proc)) are (record {
        whats = delivered_reads (λ (q : Asked). q.what) what_blind report s.requests;
        each = delivered_each report s.requests are.each;
        passed = passed_then (rows.Delivered proc) tt tt;
        only = runs_again run s.requests (then_ (rows.Delivered proc)).requests (delivered_reads is_run run_blind report s.requests) are.only;
        died = died_on s (then_ (rows.Delivered proc)) proc desk_delivered refl (λ desk. refl) (none_known (desk_of s proc).known report no_death) refl are.died;
      })

-- ---- the traversal that runs ends

module _ (req : ReqId) (s : Seen) (event : ℕ) (actor : Actor) (are : ArePlain (Some req) s) where
  -- its change is applied, and none runs
  pub ended_plain : (change : Change) → ArePlain None (after s (record { event = event; actor = actor; row = rows.Applied req change }))
  ended_plain change =
      record {
        each = plain_again s.requests (after s (record { event = event; actor = actor; row = rows.Applied req change })).requests (applied_same s.requests req change (entries_taken s.history change)) are.each;
        passed = have_passed s (record { event = event; actor = actor; row = rows.Applied req change }) tt tt are.passed;
        only = runs_applied None (ended s.requests req endings.Applied) req change (entries_taken s.history change) (runs_ended s.requests req endings.Applied are.only);
        runs = λ r e. (let never : None ≡ Some r = e in absurd cc);
        died = are.died;
      }

-- ---- the tab opens

-- as it opens nothing is asked
pub opened_plain : (event : ℕ) (actor : Actor) (entry : EntryId) (state : StateId) (doc : DocId) (proc : ProcId) (slot : Option ℕ) (address : List ℕ) → ArePlain None (after nothing (record { event = event; actor = actor; row = rows.Opened entry state doc proc slot address }))
opened_plain event actor entry state doc proc slot address =
    record {
      each = λ req q at. none (IsAskedPlainly req q) req q at;
      passed = λ req q at. none _ req q at;
      only = λ req q at. none (is_run q ≡ is_this None req) req q at;
      runs = λ req e. (let never : None ≡ Some req = e in absurd cc);
      died = alive;
    }
  where
    none : (P : Type 0) (req : ReqId) (q : Asked) → request_in [] req ≡ Some q → P
    none P req q at = by_number (req.0 == 0) at
      where
        by_number : (b : Bool) → (let o : Option Asked = cond b None None in o) ≡ Some q → P
        by_number true e = absurd cc
        by_number false e = absurd cc

    alive : NoneDied (after nothing (record { event = event; actor = actor; row = rows.Opened entry state doc proc slot address }))
    alive p = by_number (proc.0 == p.0)
      where
        by_number : (b : Bool) → ((let desk : Desk = cond b (empty_desk proc) (empty_desk p) in desk).known ≡ 0) × ((let desk : Desk = cond b (empty_desk proc) (empty_desk p) in desk).killed ≡ [])
        by_number true = (refl, refl)
        by_number false = (refl, refl)
