-- Which rows settle the last question of no request.
use Rattle.std.proofs.Common.{◌≡◌, ℕ, ◌+◌, Bool, true, false, not, cond, ◌&&◌, ◌==◌, List, [], ◌∷◌, length, map, Option, Some, None, refl, sym, ap, ◌∙◌, arith}
use Rattle.std.specs.Prelude.{slice_get}
use Rattle.std.specs.List.{list_all}
use Rattle.std.proofs.lemmas.Bool.Decides.{nat_tests}
use Rattle.tab_ids.specs.declared.DocId.{DocId}
use Rattle.tab_ids.specs.declared.ReqId.{ReqId}
use Rattle.log_model.specs.declared.job.Job.{Job}
use Rattle.log_model.specs.declared.job.Order.{Order}
use Rattle.log_model.specs.declared.job.Task.{Task}
use Rattle.log_model.specs.declared.job.Task.TheVariants as tasks
use Rattle.log_model.specs.declared.job.Why.{Why}
use Rattle.log_model.specs.declared.job.Why.TheVariants as whys
use Rattle.log_model.specs.declared.made.Report.{Report}
use Rattle.log_model.specs.declared.made.Report.TheVariants as reports
use Rattle.log_model.specs.declared.outcome.Ending.TheVariants as endings
use Rattle.log_model.specs.declared.outcome.Outcome.{Outcome}
use Rattle.log_model.specs.declared.outcome.Outcome.TheVariants as outcomes
use Rattle.log_model.specs.declared.request.Request.{Request}
use Rattle.log_model.specs.declared.row_kind.Actor.{Actor}
use Rattle.log_model.specs.declared.row_kind.LogRow.{LogRow}
use Rattle.log_model.specs.declared.row_kind.RowKind.{RowKind}
use Rattle.log_model.specs.declared.row_kind.RowKind.TheVariants as rows
use Rattle.log_model.specs.Equal.{holds}
use Rattle.log_model.specs.After.{after, ended, new_request}
use Rattle.log_model.specs.AfterDocuments.{applied_to, documents_delivered, documents_finished, slot_finished, task_in_hand, told_after_change}
use Rattle.log_model.specs.AfterRequests.{entries_taken, is_running, on_asking, on_request, on_served, request_begun, request_served, requests_delivered, requests_finished}
use Rattle.log_model.specs.Places.{all_asked, is_gone, is_settled_asking}
use Rattle.log_model.specs.Seen.{Asked, Asking, Document, Seen, desk_of, request_of}
use Rattle.check_facts.proofs.Gones.{applied_one}
use Rattle.check_facts.proofs.Keeping.{checked_moves, mapped_same, sent_gone_same}
use Rattle.check_facts.proofs.Rows.{sent_same}
use Rattle.check_facts.specs.Checking.{Checked, as_heard}
use Rattle.check_facts.specs.Rows.{IsNoAnswerOf, IsNoQuestion, IsServing}
use Rattle.seen_facts.proofs.Each.Courses.{was_asked}
use Rattle.seen_facts.proofs.Request.LookUps.{none_before, others_before}
use Rattle.seen_facts.proofs.Request.Readers.{SameReads, on_read, reads_then}
use Rattle.seen_facts.proofs.Walk.Aims.{is_away}
use Rattle.seen_facts.specs.Home.Homes.{document_in}
use Rattle.unasked.proofs.Lists.{map_still}
use Rattle.checking_facts.proofs.Waits.{calm_waits}
use Rattle.checking_facts.specs.Checks.{IsCalm, IsPlainReport, IsSilent, NonePassesBut, NumbersNext, SettlesNoneBut}

-- ---- what is read of questions

-- a question but for its answer
abbrev unsaid : Asking → Asking
unsaid asking = record asking { verdict = None }

-- the questions of a request, so read
abbrev questions_of : Asked → List Asking
questions_of q = map unsaid q.asks

-- they are read off what a table of checks reads
unsaid_heard : (asks : List Asking) → map unsaid (map as_heard asks) ≡ map unsaid asks
unsaid_heard [] = refl
unsaid_heard (asking ∷ asks) = ap (λ (l : List Asking). unsaid asking ∷ l) (unsaid_heard asks)

-- what is settled is read off them
unsaid_settled : (gone : DocId → Bool) (asks : List Asking) → list_all (is_settled_asking gone) (map unsaid asks) ≡ list_all (is_settled_asking gone) asks
unsaid_settled gone [] = refl
unsaid_settled gone (asking ∷ asks) = ap (λ b. is_settled_asking gone asking && b) (unsaid_settled gone asks)

-- what is found is one
some_same : {A : Type 0} {a b : A} → (let o : Option A = Some a in o) ≡ Some b → a ≡ b
some_same e = cc

-- the same questions, and the same documents gone
alike_settles : (checking but : ReqId → Bool) (s t : Seen) → ((doc : DocId) → is_gone t doc ≡ is_gone s doc) → SameReads questions_of s.requests t.requests → SettlesNoneBut checking but s t
alike_settles checking but s t gone same req p q at there runs goes on off open_ =
    let r = was_asked questions_of s.requests t.requests same req q there in
    let it : r.0 ≡ p = some_same (sym r.1 ∙ at) in
    let alike : questions_of q ≡ questions_of p = sym r.2 ∙ ap questions_of it in
    let all_gone : is_gone t ≡ is_gone s = (λ i doc. gone doc i) in
    ap (λ (g : DocId → Bool). list_all (is_settled_asking g) q.asks) all_gone
    ∙ sym (unsaid_settled (is_gone s) q.asks)
    ∙ ap (λ (l : List Asking). list_all (is_settled_asking (is_gone s)) l) alike
    ∙ unsaid_settled (is_gone s) p.asks
    ∙ open_

-- ---- who is gone

-- a change of some documents, which leaves who is gone
tested_same : (test : Document → Bool) (f : Document → Document) (documents : List Document) (doc : DocId) → ((d : Document) → (f d).nr.0 ≡ d.nr.0) → ((d : Document) → is_away (f d) ≡ is_away d) → holds is_away (document_in (map (λ (d : Document). cond (test d) (f d) d) documents) doc) ≡ holds is_away (document_in documents doc)
tested_same test f documents doc number away =
    mapped_same (λ (d : Document). cond (test d) (f d) d) documents doc (λ d. nr d (test d)) (λ d. stays d (test d))
  where
    nr : (d : Document) (b : Bool) → (let x : Document = cond b (f d) d in x).nr.0 ≡ d.nr.0
    nr d true = number d
    nr d false = refl

    stays : (d : Document) (b : Bool) → is_away (cond b (f d) d) ≡ is_away d
    stays d true = away d
    stays d false = refl

-- a finished order
viewed_gone : (documents : List Document) (hand : Option Job) (doc : DocId) → holds is_away (document_in (documents_finished documents hand) doc) ≡ holds is_away (document_in documents doc)
viewed_gone documents None doc = refl
viewed_gone documents (Some job) doc =
    tested_same (λ (d : Document). d.nr.0 == job.doc.0) _ documents doc (λ d. refl) (λ d. refl)

-- and its outcome
finished_gone : (documents : List Document) (hand : Option Job) (outcome : Outcome) (doc : DocId) → holds is_away (document_in (slot_finished documents hand outcome) doc) ≡ holds is_away (document_in documents doc)
finished_gone documents None outcome doc = refl
finished_gone documents (Some job) (outcomes.Populated slot) doc =
    tested_same (λ (d : Document). d.nr.0 == job.doc.0) (λ (d : Document). record d { slot = slot }) documents doc (λ d. refl) (λ d. refl)
finished_gone documents (Some job) outcomes.Activated doc = refl
finished_gone documents (Some job) outcomes.Updated doc = refl
finished_gone documents (Some job) outcomes.Frozen doc = refl
finished_gone documents (Some job) outcomes.Discarded doc = refl
finished_gone documents (Some job) (outcomes.Asked verdict) doc = refl
finished_gone documents (Some job) outcomes.Fragmented doc = refl

-- a report that tells no death
delivered_gone : (documents : List Document) (report : Option Report) (doc : DocId) → IsPlainReport report → holds is_away (document_in (documents_delivered documents report) doc) ≡ holds is_away (document_in documents doc)
delivered_gone documents None doc is = refl
delivered_gone documents (Some (reports.Made made)) doc is = refl
delivered_gone documents (Some (reports.Died death)) doc never = absurd never
delivered_gone documents (Some (reports.Done job outcome made)) doc is = by_outcome outcome
  where
    by_outcome : (o : Outcome) → holds is_away (document_in (documents_delivered documents (Some (reports.Done job o made))) doc) ≡ holds is_away (document_in documents doc)
    by_outcome (outcomes.Populated slot) =
        tested_same (λ (d : Document). d.nr.0 == job.doc.0) (λ (d : Document). record d { is_ready = true; is_fresh = true }) documents doc (λ d. refl) (λ d. refl)
    by_outcome outcomes.Activated = refl
    by_outcome outcomes.Updated = refl
    by_outcome outcomes.Frozen = refl
    by_outcome outcomes.Discarded = refl
    by_outcome (outcomes.Asked verdict) = refl
    by_outcome outcomes.Fragmented = refl

-- ---- the questions of requests

-- an order that is no question
moves_same : (s : Seen) (job : Job) (task : Task) (q : Asked) → IsNoQuestion task → questions_of (request_served s job task q) ≡ questions_of q
moves_same s job task q none =
    sym (unsaid_heard (request_served s job task q).asks) ∙ ap (λ (c : Checked). map unsaid c.asks) (checked_moves s job task q none) ∙ unsaid_heard q.asks

-- an order that settles nothing is no question
no_question : (task : Task) → IsServing task → IsNoQuestion task
no_question (tasks.Ask slot cause) serves = absurd serves
no_question tasks.Discard serves = absurd serves
no_question (tasks.Populate nav state address initial) serves = tt
no_question (tasks.Activate entry epoch length index memo address) serves = tt
no_question (tasks.Update length index) serves = tt
no_question tasks.Freeze serves = tt
no_question (tasks.DoFragment req mode address) serves = tt

-- one that is finished
finished_same : (s : Seen) (hand : Option Order) (outcome : Outcome) → SameReads questions_of s.requests (requests_finished s hand outcome s.requests)
finished_same s None outcome = λ r. refl
finished_same s (Some order) (outcomes.Asked verdict) = by_why order.job.why
  where
    answered : Asked → Asked
    answered q = on_asking order.job.nr (λ asking. record asking { verdict = Some verdict }) q

    silent : (asking : Asking) (b : Bool) → unsaid (cond b (record asking { verdict = Some verdict }) asking) ≡ unsaid asking
    silent asking true = refl
    silent asking false = refl

    by_why : (why : Why) → SameReads questions_of s.requests (on_served why (on_asking order.job.nr (λ asking. record asking { verdict = Some verdict })) s.requests)
    by_why (whys.Req req) =
        on_read questions_of s.requests req (on_asking order.job.nr (λ asking. record asking { verdict = Some verdict })) (λ q. map_still unsaid (λ (asking : Asking). cond (asking.job.0 == order.job.nr.0) (record asking { verdict = Some verdict }) asking) q.asks (λ asking. silent asking (asking.job.0 == order.job.nr.0)))
    by_why (whys.Death death) = λ r. refl
    by_why whys.Evict = λ r. refl
    by_why whys.Start = λ r. refl
finished_same s (Some order) outcomes.Fragmented = by_task order.job.task refl
  where
    by_task : (task : Task) → order.job.task ≡ task → SameReads questions_of s.requests (requests_finished s (Some order) outcomes.Fragmented s.requests)
    by_task (tasks.DoFragment req mode address) e =
        rw e (on_read questions_of s.requests req (λ q. record q { is_not_found = not (is_running s order.job.doc) }) (λ q. refl))
    by_task (tasks.Populate nav state address initial) e = rw e (λ r. refl)
    by_task (tasks.Activate entry epoch length index memo address) e = rw e (λ r. refl)
    by_task (tasks.Update length index) e = rw e (λ r. refl)
    by_task tasks.Freeze e = rw e (λ r. refl)
    by_task tasks.Discard e = rw e (λ r. refl)
    by_task (tasks.Ask slot cause) e = rw e (λ r. refl)
finished_same s (Some order) (outcomes.Populated slot) = λ r. refl
finished_same s (Some order) outcomes.Activated = λ r. refl
finished_same s (Some order) outcomes.Updated = λ r. refl
finished_same s (Some order) outcomes.Frozen = λ r. refl
finished_same s (Some order) outcomes.Discarded = λ r. refl

-- a report that tells no answer
delivered_same : (report : Option Report) (asked : List Asked) → IsPlainReport report → SameReads questions_of asked (requests_delivered report asked)
delivered_same None asked is = λ r. refl
delivered_same (Some (reports.Made made)) asked is = λ r. refl
delivered_same (Some (reports.Died death)) asked is = λ r. refl
delivered_same (Some (reports.Done job outcome made)) asked is = by_outcome outcome is
  where
    by_outcome : (o : Outcome) → IsNoAnswerOf o → SameReads questions_of asked (requests_delivered (Some (reports.Done job o made)) asked)
    by_outcome (outcomes.Asked verdict) never = absurd never
    by_outcome (outcomes.Populated slot) is = λ r. refl
    by_outcome outcomes.Activated is = λ r. refl
    by_outcome outcomes.Updated is = λ r. refl
    by_outcome outcomes.Frozen is = λ r. refl
    by_outcome outcomes.Discarded is = λ r. refl
    by_outcome outcomes.Fragmented is = λ r. refl

-- ---- rows

module _ (checking but : ReqId → Bool) (s : Seen) (event : ℕ) (actor : Actor) where
  abbrev pub next : RowKind → Seen
  next kind = after s (record { event = event; actor = actor; row = kind })

  -- a request is accepted
  accepted_settles : (req : ReqId) (doc : Option DocId) (what : Request) → req.0 ≡ length s.requests + 1 → SettlesNoneBut checking but s (next (rows.Accepted req doc what))
  accepted_settles req doc what n r p q at there runs goes on off open_ = by_number (req.0 == r.0) refl
    where
      by_number : (b : Bool) → (req.0 == r.0) ≡ b → all_asked s q ≡ false
      by_number true e =
          let same : req.0 ≡ r.0 = grind (arith, nat_tests, e) in
          let it : req ≡ r = ap (λ (i : ℕ). let x : ReqId = record { 0 = i } in x) same in
          let none : None ≡ Some p = sym (none_before s.requests (new_request req doc what) req n) ∙ ap (λ (x : ReqId). request_of s x) it ∙ at in
          absurd cc
      by_number false e =
          let it : p ≡ q = some_same (sym at ∙ sym (others_before s.requests (new_request req doc what) req n r e) ∙ there) in
          ap (all_asked s) (sym it) ∙ open_

  -- a row that leaves the questions, and who is gone
  alike : (kind : RowKind) → ((doc : DocId) → is_gone (next kind) doc ≡ is_gone s doc) → SameReads questions_of s.requests (next kind).requests → SettlesNoneBut checking but s (next kind)
  alike kind gone same = alike_settles checking but s (next kind) gone same

  -- each kind of silent row
  silent_kinds : (kind : RowKind) → IsSilent s kind → NumbersNext s kind → SettlesNoneBut checking but s (next kind)
  silent_kinds (rows.Opened entry state doc proc slot address) never n = absurd never
  silent_kinds (rows.Accepted req doc what) is n = accepted_settles req doc what n
  silent_kinds (rows.Started req goal) is n =
      alike (rows.Started req goal) (λ doc. refl) (reads_then questions_of s.requests (on_request req (λ q. record q { is_started = true; goal = goal }) s.requests) _ (on_read questions_of s.requests req (λ q. record q { is_started = true; goal = goal }) (λ q. refl)) (on_read questions_of (on_request req (λ q. record q { is_started = true; goal = goal }) s.requests) req (request_begun s) (λ q. refl)))
  silent_kinds (rows.Applied req change) is n =
      alike (rows.Applied req change) (λ doc. mapped_same (λ d. applied_to change (told_after_change d change)) s.documents doc (λ d. (applied_one change d).0) (λ d. (applied_one change d).1))
      (reads_then questions_of s.requests (ended s.requests req endings.Applied) _ (on_read questions_of s.requests req (λ q. record q { ending = Some endings.Applied }) (λ q. refl))
      (reads_then questions_of (ended s.requests req endings.Applied) (on_request req (λ q. record q { change = Some change }) (ended s.requests req endings.Applied)) _ (on_read questions_of (ended s.requests req endings.Applied) req (λ q. record q { change = Some change }) (λ q. refl))
      (on_read questions_of (on_request req (λ q. record q { change = Some change }) (ended s.requests req endings.Applied)) req (λ q. record q { took = entries_taken s.history change }) (λ q. refl))))
  silent_kinds (rows.Refused req reason) is n =
      alike (rows.Refused req reason) (λ doc. refl) (on_read questions_of s.requests req (λ q. record q { ending = Some (endings.Refused reason) }) (λ q. refl))
  silent_kinds (rows.Dropped req cause) is n =
      alike (rows.Dropped req cause) (λ doc. refl) (on_read questions_of s.requests req (λ q. record q { ending = Some (endings.Dropped cause) }) (λ q. refl))
  silent_kinds (rows.Prompted req of_) is n =
      alike (rows.Prompted req of_) (λ doc. refl) (on_read questions_of s.requests req (λ q. record q { prompted = Some of_ }) (λ q. refl))
  silent_kinds (rows.Answered req stay) is n =
      alike (rows.Answered req stay) (λ doc. refl) (on_read questions_of s.requests req (λ q. record q { answered = Some stay }) (λ q. refl))
  silent_kinds (rows.Sent job) is n =
      alike (rows.Sent job) (sent_gone_same s event actor job is) (sent_same questions_of (record { moves = moves_same; fragments = λ q doc. refl }) s job job.task s.requests (no_question job.task is))
  silent_kinds (rows.Taken proc job live dirty) is n =
      alike (rows.Taken proc job live dirty) (λ doc. refl) (λ r. refl)
  silent_kinds (rows.Finished proc job outcome) is n =
      alike (rows.Finished proc job outcome) (λ doc. finished_gone (documents_finished s.documents (task_in_hand s proc)) (task_in_hand s proc) outcome doc ∙ viewed_gone s.documents (task_in_hand s proc) doc) (finished_same s (desk_of s proc).in_hand outcome)
  silent_kinds (rows.Made proc made) is n =
      alike (rows.Made proc made) (λ doc. tested_same (λ (d : Document). d.nr.0 == made.doc.0) _ s.documents doc (λ d. refl) (λ d. refl)) (on_read questions_of s.requests made.req (λ q. record q { made = Some made }) (λ q. refl))
  silent_kinds (rows.Delivered proc) is n =
      alike (rows.Delivered proc) (λ doc. delivered_gone s.documents (slice_get (desk_of s proc).reports 0) doc is) (delivered_same (slice_get (desk_of s proc).reports 0) s.requests is)
  silent_kinds (rows.Killed proc death) is n =
      alike (rows.Killed proc death) (λ doc. tested_same _ (λ (d : Document). record d { dead_by = Some death; view = None }) s.documents doc (λ d. refl) (λ d. refl)) (λ r. refl)
  silent_kinds (rows.Evicted state) is n = alike (rows.Evicted state) (λ doc. refl) (λ r. refl)

-- a silent row settles the last question of none
pub silent_settles : (checking but : ReqId → Bool) (s : Seen) (row : LogRow) → IsSilent s row.row → NumbersNext s row.row → SettlesNoneBut checking but s (after s row)
silent_settles checking but s row silent next =
    silent_kinds checking but s row.event row.actor row.row silent next

-- over a silent row that is calm a traversal in its check still hasn't passed
pub silent_waits : (checking but : ReqId → Bool) (s : Seen) (row : LogRow) → IsCalm row.row → IsSilent s row.row → NumbersNext s row.row → NonePassesBut checking but s → NonePassesBut checking but (after s row)
silent_waits checking but s row calm silent next none =
    calm_waits checking but s row calm next (silent_settles checking but s row silent next) none
