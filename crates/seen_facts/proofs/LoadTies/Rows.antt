-- The table of loads stays over each row that begins or ends no load, and makes no document of one.
use Rattle.std.proofs.Common.{◌≡◌, ℕ, ◌+◌, Bool, true, false, cond, not, ◌&&◌, ◌||◌, ◌==◌, List, [], ◌∷◌, length, Option, Some, None, refl, sym, ap, ◌∙◌, subst, eqb-true}
use Rattle.std.specs.Prelude.{is_none, option_map, slice_get}
use Rattle.tab_ids.specs.declared.DocId.{DocId}
use Rattle.tab_ids.specs.declared.JobId.{JobId}
use Rattle.tab_ids.specs.declared.NavId.{NavId}
use Rattle.tab_ids.specs.declared.ProcId.{ProcId}
use Rattle.tab_ids.specs.declared.ReqId.{ReqId}
use Rattle.tab_ids.specs.declared.StateId.{StateId}
use Rattle.tab_ids.specs.declared.Step.{Step}
use Rattle.log_model.specs.declared.job.Job.{Job}
use Rattle.log_model.specs.declared.job.Task.{Task}
use Rattle.log_model.specs.declared.job.Task.TheVariants as tasks
use Rattle.log_model.specs.declared.made.Made.{Made}
use Rattle.log_model.specs.declared.made.Report.{Report}
use Rattle.log_model.specs.declared.made.Report.TheVariants as reports
use Rattle.log_model.specs.declared.outcome.Outcome.{Outcome}
use Rattle.log_model.specs.declared.outcome.Outcome.TheVariants as outcomes
use Rattle.log_model.specs.declared.request.Request.{Request}
use Rattle.log_model.specs.declared.row_kind.Actor.{Actor}
use Rattle.log_model.specs.declared.row_kind.RowKind.{RowKind}
use Rattle.log_model.specs.declared.row_kind.RowKind.TheVariants as rows
use Rattle.log_model.specs.After.{after, new_request}
use Rattle.log_model.specs.AfterDocuments.{addressed, documents_delivered, documents_finished, documents_sent, on_document, slot_finished, task_in_hand, view_finished}
use Rattle.log_model.specs.AfterRequests.{on_request, request_begun}
use Rattle.log_model.specs.Places.{is_load, is_ongoing_load}
use Rattle.log_model.specs.Seen.{Seen, Asked, Document, desk_of, request_in, request_of}
use Rattle.log_model.specs.Views.{View, after_made}
use Rattle.seen_facts.proofs.Coord.Held.{on_else}
use Rattle.seen_facts.proofs.Request.LookUps.{on_itself, none_before, one_more, others_before}
use Rattle.seen_facts.proofs.Request.Readers.{SameReads, delivered_reads, finished_reads, on_read, sent_reads}
use Rattle.load_table.specs.declared.load.Load.{Load}
use Rattle.load_table.specs.Loads.{ongoing_load}
use Rattle.seen_facts.specs.LoadTies.Tying.{TiesLoads, is_for_state, made_for, phase_with}
use Rattle.seen_facts.proofs.LoadTies.Leaves.{has_again, left_ties, tied_again, traced, traced_blind, traced_of}
use Rattle.seen_facts.proofs.LoadTies.Phases.{LeavesPhase, made_map, phase_map}

-- ---- documents

at_leaves : (doc : DocId) (f : Document → Document) → LeavesPhase f → LeavesPhase (λ (d : Document). cond (d.nr.0 == doc.0) (f d) d)
at_leaves doc f leaves =
    record {
      nr = λ d. elim (d.nr.0 == doc.0) as (λ b. (let x : Document = cond b (f d) d in x).nr ≡ d.nr) [ true ↦ leaves.nr d | false ↦ refl ];
      state = λ d. elim (d.nr.0 == doc.0) as (λ b. (let x : Document = cond b (f d) d in x).state ≡ d.state) [ true ↦ leaves.state d | false ↦ refl ];
      ready = λ d. elim (d.nr.0 == doc.0) as (λ b. (let x : Document = cond b (f d) d in x).is_ready ≡ d.is_ready) [ true ↦ leaves.ready d | false ↦ refl ];
      discarded = λ d. elim (d.nr.0 == doc.0) as (λ b. (let x : Document = cond b (f d) d in x).is_discarded ≡ d.is_discarded) [ true ↦ leaves.discarded d | false ↦ refl ];
      known = λ d. elim (d.nr.0 == doc.0) as (λ b. (let x : Document = cond b (f d) d in x).is_known_dead ≡ d.is_known_dead) [ true ↦ leaves.known d | false ↦ refl ];
    }

on_phase : (doc : DocId) (f : Document → Document) (documents : List Document) (state : StateId) → LeavesPhase f → phase_with (made_for (on_document doc f documents) state) ≡ phase_with (made_for documents state)
on_phase doc f documents state leaves = phase_map (λ (d : Document). cond (d.nr.0 == doc.0) (f d) d) state documents (at_leaves doc f leaves)

finished_phase : (documents : List Document) (hand : Option Job) (outcome : Outcome) (state : StateId) → phase_with (made_for (slot_finished (documents_finished documents hand) hand outcome) state) ≡ phase_with (made_for documents state)
finished_phase documents None (outcomes.Populated slot) state = refl
finished_phase documents None outcomes.Activated state = refl
finished_phase documents None outcomes.Updated state = refl
finished_phase documents None outcomes.Frozen state = refl
finished_phase documents None outcomes.Discarded state = refl
finished_phase documents None (outcomes.Asked verdict) state = refl
finished_phase documents None outcomes.Fragmented state = refl
finished_phase documents (Some job) outcome state = by_outcome outcome
  where
    viewed : phase_with (made_for (documents_finished documents (Some job)) state) ≡ phase_with (made_for documents state)
    viewed = on_phase job.doc (λ (d : Document). record d { view = view_finished d job.task }) documents state (record { nr = λ d. refl; state = λ d. refl; ready = λ d. refl; discarded = λ d. refl; known = λ d. refl })

    by_outcome : (u : Outcome) → phase_with (made_for (slot_finished (documents_finished documents (Some job)) (Some job) u) state) ≡ phase_with (made_for documents state)
    by_outcome (outcomes.Populated slot) =
        on_phase job.doc (λ (d : Document). record d { slot = slot }) (documents_finished documents (Some job)) state (record { nr = λ d. refl; state = λ d. refl; ready = λ d. refl; discarded = λ d. refl; known = λ d. refl }) ∙ viewed
    by_outcome outcomes.Activated = viewed
    by_outcome outcomes.Updated = viewed
    by_outcome outcomes.Frozen = viewed
    by_outcome outcomes.Discarded = viewed
    by_outcome (outcomes.Asked verdict) = viewed
    by_outcome outcomes.Fragmented = viewed

-- the order makes no document and discards none
abbrev pub KeepsThem : Task → Type 0
KeepsThem (tasks.Populate nav state address initial) = ⊥
KeepsThem tasks.Discard = ⊥
KeepsThem _ = Unit {0}

addressed_phase : (doc : DocId) (task : Task) (documents : List Document) (state : StateId) → phase_with (made_for (on_document doc (addressed task) documents) state) ≡ phase_with (made_for documents state)
addressed_phase doc task documents state =
    on_phase doc (addressed task) documents state (record { nr = λ d. refl; state = λ d. refl; ready = λ d. refl; discarded = λ d. refl; known = λ d. refl })

sent_phase : (s : Seen) (job : Job) (task : Task) (state : StateId) → KeepsThem task → phase_with (made_for (documents_sent s job task) state) ≡ phase_with (made_for s.documents state)
sent_phase s job (tasks.Populate nav own address initial) state never = absurd never
sent_phase s job tasks.Discard state never = absurd never
sent_phase s job (tasks.Activate entry epoch length index memo address) state keeps = addressed_phase job.doc (tasks.Activate entry epoch length index memo address) s.documents state
sent_phase s job (tasks.Update length index) state keeps = addressed_phase job.doc (tasks.Update length index) s.documents state
sent_phase s job tasks.Freeze state keeps = addressed_phase job.doc tasks.Freeze s.documents state
sent_phase s job (tasks.Ask slot cause) state keeps = addressed_phase job.doc (tasks.Ask slot cause) s.documents state
sent_phase s job (tasks.DoFragment req mode address) state keeps = addressed_phase job.doc (tasks.DoFragment req mode address) s.documents state

-- the report tells of no made document, and of no death
abbrev pub TellsNone : Option Report → Type 0
TellsNone (Some (reports.Done job (outcomes.Populated slot) made)) = ⊥
TellsNone (Some (reports.Died death)) = ⊥
TellsNone _ = Unit {0}

delivered_documents : (documents : List Document) (report : Option Report) → TellsNone report → documents_delivered documents report ≡ documents
delivered_documents documents None none = refl
delivered_documents documents (Some (reports.Made made)) none = refl
delivered_documents documents (Some (reports.Died death)) never = absurd never
delivered_documents documents (Some (reports.Done job (outcomes.Populated slot) made)) never = absurd never
delivered_documents documents (Some (reports.Done job outcomes.Activated made)) none = refl
delivered_documents documents (Some (reports.Done job outcomes.Updated made)) none = refl
delivered_documents documents (Some (reports.Done job outcomes.Frozen made)) none = refl
delivered_documents documents (Some (reports.Done job outcomes.Discarded made)) none = refl
delivered_documents documents (Some (reports.Done job (outcomes.Asked verdict) made)) none = refl
delivered_documents documents (Some (reports.Done job outcomes.Fragmented made)) none = refl

-- ---- the rows

module _ (s : Seen) (event : ℕ) (actor : Actor) (table : List Load) (ties : TiesLoads s table) where
  abbrev then_ : RowKind → Seen
  then_ kind = after s (record { event = event; actor = actor; row = kind })

  pub taken_tied : (proc : ProcId) (job : JobId) (live dirty : Bool) → TiesLoads (then_ (rows.Taken proc job live dirty)) table
  taken_tied proc job live dirty = left_ties s (then_ (rows.Taken proc job live dirty)) table (λ r. refl) (λ state. refl) ties

  pub evicted_tied : (state : StateId) → TiesLoads (then_ (rows.Evicted state)) table
  evicted_tied own = left_ties s (then_ (rows.Evicted own)) table (λ r. refl) (λ state. refl) ties

  pub finished_tied : (proc : ProcId) (job : JobId) (outcome : Outcome) → TiesLoads (then_ (rows.Finished proc job outcome)) table
  finished_tied proc job outcome =
      left_ties s (then_ (rows.Finished proc job outcome)) table (finished_reads traced traced_blind s (desk_of s proc).in_hand outcome s.requests) (λ state. finished_phase s.documents (task_in_hand s proc) outcome state) ties

  pub made_tied : (proc : ProcId) (made : Made) → TiesLoads (then_ (rows.Made proc made)) table
  made_tied proc made =
      left_ties s (then_ (rows.Made proc made)) table (on_read traced s.requests made.req (λ q. record q { made = Some made }) (λ q. refl)) (λ state. on_phase made.doc (λ d. record d { view = option_map (λ (view : View). after_made view made.what) d.view }) s.documents state (record { nr = λ d. refl; state = λ d. refl; ready = λ d. refl; discarded = λ d. refl; known = λ d. refl })) ties

  pub sent_tied : (job : Job) → KeepsThem job.task → TiesLoads (then_ (rows.Sent job)) table
  sent_tied job keeps =
      left_ties s (then_ (rows.Sent job)) table (sent_reads traced traced_blind s job job.task s.requests) (λ state. sent_phase s job job.task state keeps) ties

  pub delivered_tied : (proc : ProcId) → TellsNone (slice_get (desk_of s proc).reports 0) → TiesLoads (then_ (rows.Delivered proc)) table
  delivered_tied proc none =
      left_ties s (then_ (rows.Delivered proc)) table (delivered_reads traced traced_blind (slice_get (desk_of s proc).reports 0) s.requests) (λ state. ap (λ (l : List Document). phase_with (made_for l state)) (delivered_documents s.documents (slice_get (desk_of s proc).reports 0) none)) ties

  -- a document of no load is discarded
  pub discarded_tied : (job : Job) → job.task ≡ tasks.Discard → ((d : Document) (nav : NavId) (load : Load) → (d.nr.0 == job.doc.0) ≡ true → ongoing_load nav table ≡ Some load → (d.state.0 == load.state.0) ≡ false) → TiesLoads (then_ (rows.Sent job)) table
  discarded_tied job task apart =
      record {
        there = λ nav load at. tied_again s (then_ (rows.Sent job)) load (same load.req) (phase nav load at) (ties.there nav load at);
        all = λ req q nav at on loads_it. has_again s (then_ (rows.Sent job)) table ties req q nav at on loads_it (same req);
      }
    where
      same : SameReads traced s.requests (then_ (rows.Sent job)).requests
      same = sent_reads traced traced_blind s job job.task s.requests

      gone : Document → Document
      gone d = cond (d.nr.0 == job.doc.0) (record d { is_discarded = true }) d

      phase : (nav : NavId) (load : Load) → ongoing_load nav table ≡ Some load → phase_with (made_for (then_ (rows.Sent job)).documents load.state) ≡ phase_with (made_for s.documents load.state)
      phase nav load at =
          ap (λ (k : Task). phase_with (made_for (documents_sent s job k) load.state)) task
          ∙ ap (λ (o : Option Document). phase_with o) (made_map gone load.state s.documents (λ d. passes d (d.nr.0 == job.doc.0) refl))
          ∙ by_found (made_for s.documents load.state) refl
        where
          passes : (d : Document) (b : Bool) → (d.nr.0 == job.doc.0) ≡ b → is_for_state load.state (cond b (record d { is_discarded = true }) d) ≡ is_for_state load.state d
          passes d false e = refl
          passes d true e =
              ap (λ (b : Bool). b && false) (apart d nav load e at) ∙ sym (ap (λ (b : Bool). b && not (d.is_discarded || d.is_known_dead)) (apart d nav load e at))

          own : (l : List Document) (d : Document) → made_for l load.state ≡ Some d → (d.state.0 == load.state.0) ≡ true
          own [] d e = absurd cc
          own (x ∷ l) d e = by_test (is_for_state load.state x) refl e (own l d)
            where
              first : (a b : Bool) → (a && b) ≡ true → a ≡ true
              first true b e = refl
              first false b e = e

              by_test : (c : Bool) → is_for_state load.state x ≡ c → cond c (Some x) (made_for l load.state) ≡ Some d → (made_for l load.state ≡ Some d → (d.state.0 == load.state.0) ≡ true) → (d.state.0 == load.state.0) ≡ true
              by_test true is f more = let one : x ≡ d = cc in subst (λ (y : Document). (y.state.0 == load.state.0) ≡ true) one (first (x.state.0 == load.state.0) (not (x.is_discarded || x.is_known_dead)) is)
              by_test false is f more = more f

          by_nr : (d : Document) → (d.state.0 == load.state.0) ≡ true → (b : Bool) → (d.nr.0 == job.doc.0) ≡ b → phase_with (Some (cond b (record d { is_discarded = true }) d)) ≡ phase_with (Some d)
          by_nr d is true e = refl
          by_nr d is false e = refl

          by_found : (o : Option Document) → made_for s.documents load.state ≡ o → phase_with (option_map gone o) ≡ phase_with o
          by_found None e = refl
          by_found (Some d) e = by_nr d (own s.documents d e) (d.nr.0 == job.doc.0) refl

  -- ---- requests

  -- the ongoing loads are read as they were, and no other request is one then
  module _ (t : Seen) (documents : t.documents ≡ s.documents) (on : (r : ReqId) (q : Asked) → request_of s r ≡ Some q → is_ongoing_load q ≡ true → traced_of t r ≡ traced_of s r) (back : (r : ReqId) (q : Asked) → request_of t r ≡ Some q → is_ongoing_load q ≡ true → traced_of t r ≡ traced_of s r) where
    asked_tied : TiesLoads t table
    asked_tied =
        record {
          there = λ nav load at. (let tied = ties.there nav load at in tied_again s t load (on load.req tied.q tied.found tied.ongoing) (ap (λ (l : List Document). phase_with (made_for l load.state)) documents) tied);
          all = λ req q nav at going loads_it. has_again s t table ties req q nav at going loads_it (back req q at going);
        }

  pub accepted_tied : (req : ReqId) (doc : Option DocId) (what : Request) → req.0 ≡ length s.requests + 1 → TiesLoads (then_ (rows.Accepted req doc what)) table
  accepted_tied req doc what next =
      asked_tied (then_ (rows.Accepted req doc what)) refl on back
    where
      new : Asked
      new = new_request req doc what

      same_req : (a b : ReqId) → (a.0 == b.0) ≡ true → a ≡ b
      same_req a b e = let n : a.0 ≡ b.0 = eqb-true a.0 b.0 e in ap (λ (i : ℕ). let x : ReqId = record { 0 = i } in x) n

      on : (r : ReqId) (q : Asked) → request_of s r ≡ Some q → is_ongoing_load q ≡ true → traced_of (then_ (rows.Accepted req doc what)) r ≡ traced_of s r
      on r q at going = by_number (req.0 == r.0) refl
        where
          by_number : (b : Bool) → (req.0 == r.0) ≡ b → traced_of (then_ (rows.Accepted req doc what)) r ≡ traced_of s r
          by_number false e = ap (λ (o : Option Asked). option_map traced o) (others_before s.requests new req next r e)
          by_number true e =
              let no_ : None ≡ Some q = sym (none_before s.requests new req next) ∙ ap (request_of s) (same_req req r e) ∙ at in
              absurd cc

      back : (r : ReqId) (q : Asked) → request_of (then_ (rows.Accepted req doc what)) r ≡ Some q → is_ongoing_load q ≡ true → traced_of (then_ (rows.Accepted req doc what)) r ≡ traced_of s r
      back r q at going = by_number (req.0 == r.0) refl
        where
          by_number : (b : Bool) → (req.0 == r.0) ≡ b → traced_of (then_ (rows.Accepted req doc what)) r ≡ traced_of s r
          by_number false e = ap (λ (o : Option Asked). option_map traced o) (others_before s.requests new req next r e)
          by_number true e =
              let both : Some new ≡ Some q = sym (one_more s.requests new req next) ∙ ap (request_of (then_ (rows.Accepted req doc what))) (same_req req r e) ∙ at in
              let one : new ≡ q = cc in
              let no_ : false ≡ true = ap is_ongoing_load one ∙ going in
              absurd cc

  -- a traversal begins, or a reload
  pub begun_tied : (req : ReqId) (goal : Option Step) → ((q : Asked) → request_of s req ≡ Some q → is_load q.what ≡ false) → TiesLoads (then_ (rows.Started req goal)) table
  begun_tied req goal other =
      asked_tied (then_ (rows.Started req goal)) refl on back
    where
      begin : Asked → Asked
      begin q = record q { is_started = true; goal = goal }

      none : (a b c : Bool) → c ≡ false → ((a && b) && c) ≡ false
      none true true c e = e
      none true false c e = refl
      none false b c e = refl

      apart : (r : ReqId) → (r.0 == req.0) ≡ false → traced_of (then_ (rows.Started req goal)) r ≡ traced_of s r
      apart r e =
          ap (λ (o : Option Asked). option_map traced o) (on_else (on_request req begin s.requests) req (request_begun s) r e ∙ on_else s.requests req begin r e)

      same_req : (a b : ReqId) → (a.0 == b.0) ≡ true → a ≡ b
      same_req a b e = let n : a.0 ≡ b.0 = eqb-true a.0 b.0 e in ap (λ (i : ℕ). let x : ReqId = record { 0 = i } in x) n

      on : (r : ReqId) (q : Asked) → request_of s r ≡ Some q → is_ongoing_load q ≡ true → traced_of (then_ (rows.Started req goal)) r ≡ traced_of s r
      on r q at going = by_number (r.0 == req.0) refl
        where
          by_number : (b : Bool) → (r.0 == req.0) ≡ b → traced_of (then_ (rows.Started req goal)) r ≡ traced_of s r
          by_number false e = apart r e
          by_number true e =
              let no_ : false ≡ true = sym (none q.is_started (is_none q.ending) (is_load q.what) (other q (ap (request_of s) (sym (same_req r req e)) ∙ at))) ∙ going in
              absurd cc

      itself : request_of (then_ (rows.Started req goal)) req ≡ option_map (request_begun s) (option_map begin (request_of s req))
      itself = on_itself (on_request req begin s.requests) req (request_begun s) ∙ ap (λ (o : Option Asked). option_map (request_begun s) o) (on_itself s.requests req begin)

      own : (q : Asked) → request_of (then_ (rows.Started req goal)) req ≡ Some q → is_ongoing_load q ≡ true → ⊥
      own q at going = by_found (request_of s req) refl
        where
          by_found : (o : Option Asked) → request_of s req ≡ o → ⊥
          by_found None e = let no_ : None ≡ Some q = sym (itself ∙ ap (λ (o : Option Asked). option_map (request_begun s) (option_map begin o)) e) ∙ at in cc
          by_found (Some p) e =
              let both : Some (request_begun s (begin p)) ≡ Some q = sym (itself ∙ ap (λ (o : Option Asked). option_map (request_begun s) (option_map begin o)) e) ∙ at in
              let one : request_begun s (begin p) ≡ q = cc in
              let no_ : false ≡ true = sym (none true (is_none p.ending) (is_load p.what) (other p e)) ∙ ap is_ongoing_load one ∙ going in
              cc

      back : (r : ReqId) (q : Asked) → request_of (then_ (rows.Started req goal)) r ≡ Some q → is_ongoing_load q ≡ true → traced_of (then_ (rows.Started req goal)) r ≡ traced_of s r
      back r q at going = by_number (r.0 == req.0) refl
        where
          by_number : (b : Bool) → (r.0 == req.0) ≡ b → traced_of (then_ (rows.Started req goal)) r ≡ traced_of s r
          by_number false e = apart r e
          by_number true e = absurd (own q (ap (request_of (then_ (rows.Started req goal))) (sym (same_req r req e)) ∙ at) going)

-- a tab without a request has no load
pub opened_tied : (s : Seen) → s.requests ≡ [] → TiesLoads s []
opened_tied s none =
    record {
      there = λ nav load at. absurd cc;
      all = λ req q nav at going loads_it. absurd (nobody req q (ap (λ (l : List Asked). request_in l req) (sym none) ∙ at));
    }
  where
    nobody : (req : ReqId) (q : Asked) → request_in [] req ≡ Some q → ⊥
    nobody req q at = by_zero (req.0 == 0) at
      where
        by_zero : (b : Bool) → (let o : Option Asked = cond b None None in o) ≡ Some q → ⊥
        by_zero true e = cc
        by_zero false e = cc
