-- What holds of checks, questions and prompts as an event begins stays so over rows that ask, answer and settle nothing.
use Rattle.std.proofs.Common.{◌≡◌, ℕ, Bool, true, false, cond, not, ◌&&◌, ◌||◌, ◌==◌, List, [], ◌∷◌, ◌++◌, map, length, Option, Some, None, refl, sym, ap, ◌∙◌, subst, arith, ◌+◌}
use Rattle.std.specs.Prelude.{is_none, is_some, option_map}
use Rattle.std.specs.List.{list_all}
use Rattle.std.proofs.lemmas.Bool.{and_parts}
use Rattle.std.proofs.lemmas.Bool.Decides.{nat_tests}
use Rattle.tab_ids.specs.declared.Death.{Death}
use Rattle.tab_ids.specs.declared.DocId.{DocId}
use Rattle.tab_ids.specs.declared.JobId.{JobId}
use Rattle.tab_ids.specs.declared.ProcId.{ProcId}
use Rattle.tab_ids.specs.declared.ReqId.{ReqId}
use Rattle.tab_ids.specs.declared.StateId.{StateId}
use Rattle.log_model.specs.declared.handler.Verdict.{Verdict}
use Rattle.log_model.specs.declared.job.Job.{Job}
use Rattle.log_model.specs.declared.job.Order.{Order}
use Rattle.log_model.specs.declared.job.Task.{Task}
use Rattle.log_model.specs.declared.job.Task.TheVariants as tasks
use Rattle.log_model.specs.declared.job.Why.{Why}
use Rattle.log_model.specs.declared.job.Why.TheVariants as whys
use Rattle.log_model.specs.declared.made.Made.{Made}
use Rattle.log_model.specs.declared.outcome.Outcome.{Outcome}
use Rattle.log_model.specs.declared.outcome.Outcome.TheVariants as outcomes
use Rattle.log_model.specs.declared.request.Request.{Request}
use Rattle.log_model.specs.declared.row_kind.Actor.{Actor}
use Rattle.log_model.specs.declared.row_kind.RowKind.{RowKind}
use Rattle.log_model.specs.declared.row_kind.RowKind.TheVariants as rows
use Rattle.log_model.specs.Equal.{holds}
use Rattle.log_model.specs.Seen.{Seen, Document, Asked, Asking, desk_of, document_of, request_in, request_of}
use Rattle.log_model.specs.After.{after, new_request}
use Rattle.log_model.specs.AfterDocuments.{addressed, documents_finished, documents_sent, new_document, slot_finished, task_in_hand}
use Rattle.log_model.specs.AfterRequests.{requests_sent, on_asking, on_served, request_served, requests_finished}
use Rattle.log_model.specs.Places.{all_asked, is_gone}
use Rattle.log_model.specs.Checks.{is_checked}
use Rattle.unload_check.specs.Checks.{OpenCheck, check_of}
use Rattle.seen_laws.proofs.Keyed.{find_map}
use Rattle.seen_facts.specs.Home.Homes.{document_in}
use Rattle.seen_facts.proofs.Coord.Held.{fun_ext}
use Rattle.seen_facts.proofs.Each.Courses.{was_asked}
use Rattle.seen_facts.proofs.Request.LookUps.{none_before, one_more, others_before}
use Rattle.seen_facts.proofs.Request.Readers.{SameReads, on_read}
use Rattle.seen_facts.proofs.Walk.Aims.{gone_more, is_away}
use Rattle.check_facts.specs.Checking.{AreSaid, AreTiedAt, Checked, as_heard, checked_of, is_said}
use Rattle.check_facts.specs.Having.{HasChecks}
use Rattle.check_facts.specs.Prompting.{HaveNumbers, PromptedSettled, has_settled, is_asked}
use Rattle.check_facts.specs.Rows.{IsNoQuestion, IsServing, IsUndelivered}
use Rattle.check_facts.proofs.Rows.{on_read_at, sent_same}
use Rattle.check_facts.proofs.Ties.{all_same, tied_same, ties_stay}

-- ---- in general

heard_said : (asks : List Asking) → list_all is_said (map as_heard asks) ≡ list_all is_said asks
heard_said [] = refl
heard_said (asking ∷ asks) = rw (heard_said asks) (by_test asking.is_delivered asking.verdict)
  where
    by_test : (b : Bool) (v : Option Verdict) → ((not b || is_some (cond b v None)) && list_all is_said asks) ≡ ((not b || is_some v) && list_all is_said asks)
    by_test true v = refl
    by_test false v = refl

heard_asked : (asks : List Asking) → is_asked (map as_heard asks) ≡ is_asked asks
heard_asked [] = refl
heard_asked (asking ∷ asks) = refl

-- where what the table reads of requests is the same, and who is gone
pub has_stays : (s t : Seen) (es : List (ReqId × OpenCheck)) → ((doc : DocId) → is_gone t doc ≡ is_gone s doc) → SameReads checked_of s.requests t.requests → HasChecks s es → HasChecks t es
has_stays s t es gone reads has =
    record { tied = ties_stay s t es gone reads has.tied; said = said; numbered = numbered; prompted = prompted }
  where
    said : AreSaid t
    said req r found =
        let q = was_asked checked_of s.requests t.requests reads req r found in
        sym (heard_said r.asks) ∙ sym (ap (λ (x : Checked). list_all is_said x.asks) q.2) ∙ heard_said q.0.asks ∙ has.said req q.0 q.1

    numbered : HaveNumbers t
    numbered req r found =
        let q = was_asked checked_of s.requests t.requests reads req r found in
        sym (ap (λ (x : Checked). x.nr) q.2) ∙ has.numbered req q.0 q.1

    prompted : PromptedSettled t
    prompted req r found is =
        let q = was_asked checked_of s.requests t.requests reads req r found in
        let was : has_settled s q.0 ≡ true = has.prompted req q.0 q.1 (ap (λ (x : Checked). is_some x.prompted) q.2 ∙ is) in
        let parts = and_parts (is_asked q.0.asks) (all_asked s q.0) was in
        let asked : is_asked r.asks ≡ true = sym (heard_asked r.asks) ∙ sym (ap (λ (x : Checked). is_asked x.asks) q.2) ∙ heard_asked q.0.asks ∙ parts.0 in
        let all : all_asked t r ≡ true = all_same s t q.0 r (fun_ext gone) (sym q.2) ∙ parts.1 in
        rw (asked, all) refl

-- before any request
pub has_none : (s : Seen) → s.requests ≡ [] → HasChecks s []
has_none s none =
    record {
      tied = record { each = λ req. subst (λ (o : Option Asked). AreTiedAt s o None) (sym (nobody req)) refl };
      said = λ req q found. never (sym found ∙ nobody req);
      numbered = λ req q found. never (sym found ∙ nobody req);
      prompted = λ req q found is. never (sym found ∙ nobody req);
    }
  where
    by_number : (b : Bool) → (let o : Option Asked = cond b None None in o) ≡ None
    by_number true = refl
    by_number false = refl

    nobody : (req : ReqId) → request_of s req ≡ None
    nobody req = ap (λ (l : List Asked). request_in l req) none ∙ by_number (req.0 == 0)

    never : {q : Asked} {A : Type 0} → (let o : Option Asked = Some q in o) ≡ None → A
    never e = absurd cc

-- ---- who is gone

pub mapped_same : (f : Document → Document) (documents : List Document) (doc : DocId) → ((d : Document) → (f d).nr.0 ≡ d.nr.0) → ((d : Document) → is_away (f d) ≡ is_away d) → holds is_away (document_in (map f documents) doc) ≡ holds is_away (document_in documents doc)
mapped_same f documents doc number away =
    ap (holds is_away) (find_map (λ (d : Document). d.nr.0) f doc.0 documents number) ∙ by_found (document_in documents doc)
  where
    by_found : (o : Option Document) → holds is_away (option_map f o) ≡ holds is_away o
    by_found None = refl
    by_found (Some d) = away d

tested_same : (test : Document → Bool) (f : Document → Document) (documents : List Document) (doc : DocId) → ((d : Document) → (f d).nr.0 ≡ d.nr.0) → ((d : Document) → is_away (f d) ≡ is_away d) → holds is_away (document_in (map (λ (d : Document). cond (test d) (f d) d) documents) doc) ≡ holds is_away (document_in documents doc)
tested_same test f documents doc number away =
    mapped_same (λ (d : Document). cond (test d) (f d) d) documents doc (λ d. nr d (test d)) (λ d. stays d (test d))
  where
    nr : (d : Document) (b : Bool) → (let x : Document = cond b (f d) d in x).nr.0 ≡ d.nr.0
    nr d true = number d
    nr d false = refl

    stays : (d : Document) (b : Bool) → is_away (cond b (f d) d) ≡ is_away d
    stays d true = away d
    stays d false = refl

-- what is done with a finished order leaves who is gone
finished_gone : (documents : List Document) (o : Option Job) (outcome : Outcome) (doc : DocId) → holds is_away (document_in (slot_finished (documents_finished documents o) o outcome) doc) ≡ holds is_away (document_in documents doc)
finished_gone documents None outcome doc = refl
finished_gone documents (Some job) outcome doc = by_outcome outcome ∙ viewed
  where
    viewed : holds is_away (document_in (documents_finished documents (Some job)) doc) ≡ holds is_away (document_in documents doc)
    viewed = tested_same (λ (d : Document). d.nr.0 == job.doc.0) _ documents doc (λ d. refl) (λ d. refl)

    by_outcome : (k : Outcome) → holds is_away (document_in (slot_finished (documents_finished documents (Some job)) (Some job) k) doc) ≡ holds is_away (document_in (documents_finished documents (Some job)) doc)
    by_outcome (outcomes.Populated slot) =
        tested_same (λ (d : Document). d.nr.0 == job.doc.0) (λ (d : Document). record d { slot = slot }) (documents_finished documents (Some job)) doc (λ d. refl) (λ d. refl)
    by_outcome outcomes.Activated = refl
    by_outcome outcomes.Updated = refl
    by_outcome outcomes.Frozen = refl
    by_outcome outcomes.Discarded = refl
    by_outcome (outcomes.Asked verdict) = refl
    by_outcome outcomes.Fragmented = refl

-- an answer isn't read before its delivery
answer_unheard : (job : JobId) (verdict : Verdict) (asks : List Asking) → IsUndelivered job asks → map as_heard (map (λ (asking : Asking). cond (asking.job.0 == job.0) (record asking { verdict = Some verdict }) asking) asks) ≡ map as_heard asks
answer_unheard job verdict [] un = refl
answer_unheard job verdict (asking ∷ asks) un =
    rw (answer_unheard job verdict asks un.1) (ap (λ (a : Asking). a ∷ map as_heard asks) (one (asking.job.0 == job.0) refl))
  where
    one : (b : Bool) → (asking.job.0 == job.0) ≡ b → as_heard (cond b (record asking { verdict = Some verdict }) asking) ≡ as_heard asking
    one false e = refl
    one true e = rw (un.0 e) refl

-- the order in hand, if it is a question, wasn't answered before
abbrev pub IsUnheard : Seen → Option Order → Type 0
IsUnheard s in_hand =
    (order : Order) (req : ReqId) (q : Asked) → in_hand ≡ Some order → order.job.why ≡ whys.Req req → request_of s req ≡ Some q → IsUndelivered order.job.nr q.asks

finished_reads : (s : Seen) (in_hand : Option Order) (outcome : Outcome) → IsUnheard s in_hand → SameReads checked_of s.requests (requests_finished s in_hand outcome s.requests)
finished_reads s None outcome un = λ r. refl
finished_reads s (Some order) (outcomes.Asked verdict) un = by_why order.job.why refl
  where
    by_why : (why : Why) → order.job.why ≡ why → SameReads checked_of s.requests (on_served why (on_asking order.job.nr (λ asking. record asking { verdict = Some verdict })) s.requests)
    by_why (whys.Req req) is =
        on_read_at checked_of s.requests req (on_asking order.job.nr (λ asking. record asking { verdict = Some verdict })) (λ q found. ap (λ (l : List Asking). let c : Checked = record (checked_of q) { asks = l } in c) (answer_unheard order.job.nr verdict q.asks (un order req q refl is found)))
    by_why (whys.Death death) is = λ r. refl
    by_why whys.Evict is = λ r. refl
    by_why whys.Start is = λ r. refl
finished_reads s (Some order) outcomes.Fragmented un = by_task order.job.task refl
  where
    by_task : (task : Task) → order.job.task ≡ task → SameReads checked_of s.requests (requests_finished s (Some order) outcomes.Fragmented s.requests)
    by_task (tasks.DoFragment req mode address) is = rw is (on_read checked_of s.requests req _ (λ q. refl))
    by_task (tasks.Populate nav state address initial) is = rw is (λ r. refl)
    by_task (tasks.Activate entry epoch length index memo address) is = rw is (λ r. refl)
    by_task (tasks.Update length index) is = rw is (λ r. refl)
    by_task tasks.Freeze is = rw is (λ r. refl)
    by_task tasks.Discard is = rw is (λ r. refl)
    by_task (tasks.Ask slot cause) is = rw is (λ r. refl)
finished_reads s (Some order) (outcomes.Populated slot) un = λ r. refl
finished_reads s (Some order) outcomes.Activated un = λ r. refl
finished_reads s (Some order) outcomes.Updated un = λ r. refl
finished_reads s (Some order) outcomes.Frozen un = λ r. refl
finished_reads s (Some order) outcomes.Discarded un = λ r. refl

-- ---- orders of the coordinator

pub checked_moves : (s : Seen) (job : Job) (task : Task) (q : Asked) → IsNoQuestion task → checked_of (request_served s job task q) ≡ checked_of q
checked_moves s job (tasks.Activate entry epoch length index memo address) q none =
    by_document (document_of s job.doc) refl
  where
    by_document : (o : Option Document) → document_of s job.doc ≡ o → checked_of (request_served s job (tasks.Activate entry epoch length index memo address) q) ≡ checked_of q
    by_document None e = rw e refl
    by_document (Some d) e = rw e refl
checked_moves s job tasks.Freeze q none = refl
checked_moves s job tasks.Discard q none = refl
checked_moves s job (tasks.Ask slot cause) q none = absurd none
checked_moves s job (tasks.Populate nav state address initial) q none = refl
checked_moves s job (tasks.Update length index) q none = refl
checked_moves s job (tasks.DoFragment req mode address) q none = refl

-- an order that is no question leaves what the table reads of requests
pub sent_reads : (s : Seen) (job : Job) → IsNoQuestion job.task → SameReads checked_of s.requests (requests_sent s job job.task s.requests)
sent_reads s job none =
    sent_same checked_of (record { moves = checked_moves; fragments = λ q doc. refl }) s job job.task s.requests none

-- and if it discards nothing, who is gone
pub sent_gone_same : (s : Seen) (event : ℕ) (actor : Actor) (job : Job) → IsServing job.task → (doc : DocId) → is_gone (after s (record { event = event; actor = actor; row = rows.Sent job })) doc ≡ is_gone s doc
sent_gone_same s event actor job serves doc = by_task job.task serves
  where
    on : (task : Task) → holds is_away (document_in (map (λ (d : Document). cond (d.nr.0 == job.doc.0) (addressed task d) d) s.documents) doc) ≡ is_gone s doc
    on task = tested_same (λ (d : Document). d.nr.0 == job.doc.0) (addressed task) s.documents doc (λ d. refl) (λ d. refl)

    by_task : (task : Task) → IsServing task → holds is_away (document_in (documents_sent s job task) doc) ≡ is_gone s doc
    by_task (tasks.Populate nav state address initial) serves =
        gone_more s.documents (new_document s job nav state) doc refl
    by_task tasks.Freeze serves = on tasks.Freeze
    by_task (tasks.Activate entry epoch length index memo address) serves =
        on (tasks.Activate entry epoch length index memo address)
    by_task (tasks.Update length index) serves = on (tasks.Update length index)
    by_task (tasks.DoFragment req mode address) serves = on (tasks.DoFragment req mode address)
    by_task (tasks.Ask slot cause) serves = absurd serves
    by_task tasks.Discard serves = absurd serves

-- ---- rows of processes

module _ (s : Seen) (event : ℕ) (actor : Actor) (es : List (ReqId × OpenCheck)) where
  abbrev then : RowKind → Seen
  then kind = after s (record { event = event; actor = actor; row = kind })

  -- an order is taken
  pub taken_has : (proc : ProcId) (job : JobId) (live dirty : Bool) → HasChecks s es → HasChecks (then (rows.Taken proc job live dirty)) es
  taken_has proc job live dirty has =
      has_stays s (then (rows.Taken proc job live dirty)) es (λ doc. refl) (λ r. refl) has

  -- a death that isn't reported yet
  pub killed_has : (proc : ProcId) (death : Death) → HasChecks s es → HasChecks (then (rows.Killed proc death)) es
  killed_has proc death has =
      has_stays s (then (rows.Killed proc death)) es (λ doc. tested_same (λ (d : Document). d.proc.0 == proc.0 && is_none d.dead_by) (λ (d : Document). record d { dead_by = Some death; view = None }) s.documents doc (λ d. refl) (λ d. refl)) (λ r. refl) has

  -- a document acts
  pub made_has : (proc : ProcId) (made : Made) → HasChecks s es → HasChecks (then (rows.Made proc made)) es
  made_has proc made has =
      has_stays s (then (rows.Made proc made)) es (λ doc. tested_same (λ (d : Document). d.nr.0 == made.doc.0) _ s.documents doc (λ d. refl) (λ d. refl)) (on_read checked_of s.requests made.req (λ q. record q { made = Some made }) (λ q. refl)) has

  -- the user evicts a document
  pub evicted_has : (state : StateId) → HasChecks s es → HasChecks (then (rows.Evicted state)) es
  evicted_has state has = has_stays s (then (rows.Evicted state)) es (λ doc. refl) (λ r. refl) has

  -- a process finishes the order in hand
  pub finished_has : (proc : ProcId) (job : JobId) (outcome : Outcome) → IsUnheard s (desk_of s proc).in_hand → HasChecks s es → HasChecks (then (rows.Finished proc job outcome)) es
  finished_has proc job outcome un has =
      has_stays s (then (rows.Finished proc job outcome)) es (λ doc. finished_gone s.documents (task_in_hand s proc) outcome doc) (finished_reads s (desk_of s proc).in_hand outcome un) has

  -- an order that is no question, and discards nothing
  pub sent_has : (job : Job) → IsServing job.task → HasChecks s es → HasChecks (then (rows.Sent job)) es
  sent_has job serves has =
      has_stays s (then (rows.Sent job)) es (sent_gone_same s event actor job serves) (sent_reads s job (no_question job.task serves)) has
    where
      no_question : (task : Task) → IsServing task → IsNoQuestion task
      no_question (tasks.Ask slot cause) serves = absurd serves
      no_question tasks.Discard serves = absurd serves
      no_question (tasks.Populate nav state address initial) serves = tt
      no_question (tasks.Activate entry epoch length index memo address) serves = tt
      no_question (tasks.Update length index) serves = tt
      no_question tasks.Freeze serves = tt
      no_question (tasks.DoFragment req mode address) serves = tt

  -- a request is accepted
  pub accepted_has : (req : ReqId) (doc : Option DocId) (what : Request) → req.0 ≡ length s.requests + 1 → HasChecks s es → HasChecks (then (rows.Accepted req doc what)) es
  accepted_has req doc what nr has =
      record {
        tied = record { each = λ r. by_number (λ o. AreTiedAt (then (rows.Accepted req doc what)) o (check_of r es)) r (λ it. unbegun r it) (as_before r (request_of s r) (has.tied.each r)) };
        said = λ r q found. by_number (λ o. o ≡ Some q → list_all is_said q.asks ≡ true) r (λ it is. subst (λ (x : Asked). list_all is_said x.asks ≡ true) (some_same is) refl) (λ was. has.said r q was) found;
        numbered = λ r q found. by_number (λ o. o ≡ Some q → q.nr ≡ r) r (λ it is. subst (λ (x : Asked). x.nr ≡ r) (some_same is) it) (λ was. has.numbered r q was) found;
        prompted = λ r q found is. by_number (λ o. o ≡ Some q → has_settled (then (rows.Accepted req doc what)) q ≡ true) r (λ it new. never (subst (λ (x : Asked). is_some x.prompted ≡ true) (sym (some_same new)) is)) (λ was. has.prompted r q was is) found;
      }
    where
      some_same : {a b : Asked} → (let o : Option Asked = Some a in o) ≡ Some b → a ≡ b
      some_same e = cc

      never : {A : Type 0} → false ≡ true → A
      never e = absurd cc

      -- a request is the new one, or as it was
      by_number : (P : Option Asked → Type 0) (r : ReqId) → (req ≡ r → P (Some (new_request req doc what))) → P (request_of s r) → P (request_of (then (rows.Accepted req doc what)) r)
      by_number P r new old = cases (req.0 == r.0) refl
        where
          cases : (b : Bool) → (req.0 == r.0) ≡ b → P (request_of (then (rows.Accepted req doc what)) r)
          cases false e = subst P (sym (others_before s.requests (new_request req doc what) req nr r e)) old
          cases true e =
              let it : req ≡ r = ap (λ (n : ℕ). let y : ReqId = record { 0 = n } in y) (let n : req.0 ≡ r.0 = grind (arith, nat_tests, e) in n) in
              subst P (sym (ap (λ (x : ReqId). request_in (s.requests ++ new_request req doc what ∷ []) x) (sym it) ∙ one_more s.requests (new_request req doc what) req nr)) (new it)

      as_before : (r : ReqId) (o : Option Asked) → AreTiedAt s o (check_of r es) → AreTiedAt (then (rows.Accepted req doc what)) o (check_of r es)
      as_before r None is = is
      as_before r (Some q) is = tied_same s (then (rows.Accepted req doc what)) q q refl refl (check_of r es) is

      unchecked : (a c : Bool) → (a && false && c) ≡ false
      unchecked true c = refl
      unchecked false c = refl

      -- which has no check, and wants none
      unbegun : (r : ReqId) → req ≡ r → AreTiedAt (then (rows.Accepted req doc what)) (Some (new_request req doc what)) (check_of r es)
      unbegun r it =
          let nobody : request_of s r ≡ None = ap (λ (x : ReqId). request_of s x) (sym it) ∙ none_before s.requests (new_request req doc what) req nr in
          let none : check_of r es ≡ None = subst (λ (o : Option Asked). AreTiedAt s o (check_of r es)) nobody (has.tied.each r) in
          rw none (unchecked (is_checked (new_request req doc what)) _)
