-- Each document on which a navigable was awake as a request began is made: so it is none that is to be made, or is being made.
use Rattle.std.proofs.Common.{◌≡◌, ℕ, ◌+◌, Bool, true, false, cond, ◌==◌, List, [], ◌∷◌, ◌++◌, length, map, Option, Some, None, refl, sym, ap, ◌∙◌, arith}
use Rattle.std.specs.Prelude.{find, option_map, slice_get}
use Rattle.std.proofs.lemmas.Bool.Decides.{nat_tests}
use Rattle.tab_ids.specs.declared.DocId.{DocId}
use Rattle.tab_ids.specs.declared.EntryId.{EntryId}
use Rattle.tab_ids.specs.declared.ReqId.{ReqId}
use Rattle.tab_ids.specs.declared.Step.{Step}
use Rattle.log_model.specs.declared.change.Change.{Change}
use Rattle.log_model.specs.declared.change.Change.TheVariants as changes
use Rattle.log_model.specs.declared.job.Job.{Job}
use Rattle.log_model.specs.declared.job.Task.{Task}
use Rattle.log_model.specs.declared.job.Task.TheVariants as tasks
use Rattle.log_model.specs.declared.made.Report.{Report}
use Rattle.log_model.specs.declared.made.Report.TheVariants as reports
use Rattle.log_model.specs.declared.outcome.Ending.TheVariants as endings
use Rattle.log_model.specs.declared.outcome.Outcome.{Outcome}
use Rattle.log_model.specs.declared.outcome.Outcome.TheVariants as outcomes
use Rattle.log_model.specs.declared.row_kind.Actor.{Actor}
use Rattle.log_model.specs.declared.row_kind.RowKind.{RowKind}
use Rattle.log_model.specs.declared.row_kind.RowKind.TheVariants as rows
use Rattle.log_model.specs.After.{after}
use Rattle.log_model.specs.AfterDocuments.{addressed, applied_to, documents_delivered, documents_finished, documents_sent, new_document, on_document, slot_finished, task_in_hand, told_after_change, with_applied}
use Rattle.log_model.specs.AfterRequests.{awake_documents, on_request, request_begun}
use Rattle.log_model.specs.Equal.{has_doc, holds}
use Rattle.log_model.specs.Seen.{Asked, Document, Seen, desk_of, document_of, request_in, request_of}
use Rattle.seen_facts.proofs.Coord.Held.{on_else}
use Rattle.seen_facts.proofs.Request.LookUps.{on_itself}
use Rattle.seen_laws.proofs.Keyed.{find_map}
use Rattle.leave_facts.proofs.Applied.{requests_then}
use Rattle.leave_facts.proofs.Requests.{as_read, requests_stay, there_delivered, there_ended, there_finished, there_more, there_on, there_sent, were_there}
use Rattle.leave_facts.proofs.Stays.{IsAwakeFor, IsUnawake, RequestsStay, WasThere}

-- the document is there, and is made
abbrev pub is_made : List Document → DocId → Bool
is_made documents doc = holds (λ (d : Document). d.is_ready) (find (λ (d : Document). d.nr.0 == doc.0) documents)

-- each document on which a navigable was awake as a request began is made
pub record AwakeMade (s : Seen) : Type 0 where
  pub each : (doc : DocId) → IsAwakeFor s doc → is_made s.documents doc ≡ true

-- ---- what it says of a document that isn't

for_of : (s : Seen) (doc : DocId) (req : ReqId) (q : Asked) → request_of s req ≡ Some q → q.is_started ≡ true → has_doc q.awake_then doc ≡ true → IsAwakeFor s doc
for_of s doc req q found started awake = record { req = req; q = q; found = found; started = started; awake = awake }

-- one that isn't made
pub unmade : (s : Seen) → AwakeMade s → (doc : DocId) → is_made s.documents doc ≡ false → IsUnawake s doc
unmade s made doc none =
    record { none = λ req q found started. by_test req q found started (has_doc q.awake_then doc) refl }
  where
    by_test : (req : ReqId) (q : Asked) → request_of s req ≡ Some q → q.is_started ≡ true → (b : Bool) → has_doc q.awake_then doc ≡ b → has_doc q.awake_then doc ≡ false
    by_test req q found started false e = e
    by_test req q found started true e =
        let never : true ≡ false = sym (made.each doc (for_of s doc req q found started e)) ∙ none in
        absurd cc

-- one that isn't there
pub unawake_new : (s : Seen) → AwakeMade s → (doc : DocId) → document_of s doc ≡ None → IsUnawake s doc
unawake_new s made doc none = unmade s made doc (ap (λ (o : Option Document). holds (λ (d : Document). d.is_ready) o) none)

-- one that is being made
pub unawake_unready : (s : Seen) → AwakeMade s → (doc : DocId) (d : Document) → document_of s doc ≡ Some d → d.is_ready ≡ false → IsUnawake s doc
unawake_unready s made doc d found unready =
    unmade s made doc (ap (λ (o : Option Document). holds (λ (x : Document). x.is_ready) o) found ∙ unready)

-- ---- what is made stays so

abbrev MadeStay : List Document → List Document → Type 0
MadeStay old new = (doc : DocId) → is_made old doc ≡ true → is_made new doc ≡ true

-- a change of documents that keeps their numbers, and who is made
record KeepsMade (f : Document → Document) : Type 0 where
  nr : (d : Document) → (f d).nr.0 ≡ d.nr.0
  made : (d : Document) → d.is_ready ≡ true → (f d).is_ready ≡ true

map_stays : (f : Document → Document) → KeepsMade f → (documents : List Document) → MadeStay documents (map f documents)
map_stays f keeps documents doc is =
    ap (λ (o : Option Document). holds (λ (d : Document). d.is_ready) o) (find_map (λ (d : Document). d.nr.0) f doc.0 documents keeps.nr)
    ∙ by_found (find (λ (d : Document). d.nr.0 == doc.0) documents) is
  where
    by_found : (o : Option Document) → holds (λ (d : Document). d.is_ready) o ≡ true → holds (λ (d : Document). d.is_ready) (option_map f o) ≡ true
    by_found None never = absurd cc
    by_found (Some d) it = keeps.made d it

more_stay : (documents : List Document) (new : Document) → MadeStay documents (documents ++ new ∷ [])
more_stay [] new doc never = absurd cc
more_stay (d ∷ documents) new doc is = by_test (d.nr.0 == doc.0) (more_stay documents new doc) is
  where
    by_test : (b : Bool) → (is_made documents doc ≡ true → is_made (documents ++ new ∷ []) doc ≡ true) → holds (λ (x : Document). x.is_ready) (cond b (Some d) (find (λ (x : Document). x.nr.0 == doc.0) documents)) ≡ true → holds (λ (x : Document). x.is_ready) (cond b (Some d) (find (λ (x : Document). x.nr.0 == doc.0) (documents ++ new ∷ []))) ≡ true
    by_test true more it = it
    by_test false more it = more it

keeps_if : (test : Document → Bool) (f : Document → Document) → KeepsMade f → KeepsMade (λ d. cond (test d) (f d) d)
keeps_if test f keeps = record { nr = λ d. number d (test d); made = λ d is. made d is (test d) }
  where
    number : (d : Document) (b : Bool) → (let x : Document = cond b (f d) d in x.nr.0) ≡ d.nr.0
    number d true = keeps.nr d
    number d false = refl

    made : (d : Document) → d.is_ready ≡ true → (b : Bool) → (let x : Document = cond b (f d) d in x.is_ready) ≡ true
    made d is true = keeps.made d is
    made d is false = is

keeps_then : (f g : Document → Document) → KeepsMade f → KeepsMade g → KeepsMade (λ d. g (f d))
keeps_then f g one two =
    record { nr = λ d. two.nr (f d) ∙ one.nr d; made = λ d is. two.made (f d) (one.made d is) }

on_stays : (doc : DocId) (f : Document → Document) → KeepsMade f → (documents : List Document) → MadeStay documents (on_document doc f documents)
on_stays doc f keeps documents = map_stays _ (keeps_if (λ d. d.nr.0 == doc.0) f keeps) documents

told_keeps : (change : Change) → KeepsMade (λ d. told_after_change d change)
told_keeps (changes.Push nav entry state address memo) =
    keeps_if (λ d. d.nr.0 == entry.maker) (λ d. record d { told = None }) (record { nr = λ d. refl; made = λ d is. is })
told_keeps (changes.Replace nav over entry state address memo) = record { nr = λ d. refl; made = λ d is. is }
told_keeps (changes.AddFrame owner nav entry state) = record { nr = λ d. refl; made = λ d is. is }
told_keeps (changes.RemoveFrame nav) = record { nr = λ d. refl; made = λ d is. is }
told_keeps (changes.Traverse goal) = record { nr = λ d. refl; made = λ d is. is }
told_keeps (changes.Reload nav) = record { nr = λ d. refl; made = λ d is. is }
told_keeps changes.Edit = record { nr = λ d. refl; made = λ d is. is }

with_keeps : (entry : EntryId) → KeepsMade (with_applied entry)
with_keeps entry =
    keeps_if (λ d. d.nr.0 == entry.maker) (λ d. record d { last_applied = entry.nr }) (record { nr = λ d. refl; made = λ d is. is })

applied_keeps : (change : Change) → KeepsMade (applied_to change)
applied_keeps (changes.Push nav entry state address memo) = with_keeps entry
applied_keeps (changes.Replace nav over entry state address memo) = with_keeps entry
applied_keeps (changes.Reload nav) =
    keeps_if (λ d. d.nav.0 == nav.0) (λ d. record d { is_fresh = false }) (record { nr = λ d. refl; made = λ d is. is })
applied_keeps (changes.AddFrame owner nav entry state) = record { nr = λ d. refl; made = λ d is. is }
applied_keeps (changes.RemoveFrame nav) = record { nr = λ d. refl; made = λ d is. is }
applied_keeps (changes.Traverse goal) = record { nr = λ d. refl; made = λ d is. is }
applied_keeps changes.Edit = record { nr = λ d. refl; made = λ d is. is }

addressed_stay : (s : Seen) (job : Job) (task : Task) → MadeStay s.documents (on_document job.doc (addressed task) s.documents)
addressed_stay s job task = on_stays job.doc (addressed task) (record { nr = λ d. refl; made = λ d is. is }) s.documents

sent_stay : (s : Seen) (job : Job) (task : Task) → MadeStay s.documents (documents_sent s job task)
sent_stay s job (tasks.Populate nav state address initial) = more_stay s.documents (new_document s job nav state)
sent_stay s job tasks.Discard = on_stays job.doc _ (record { nr = λ d. refl; made = λ d is. is }) s.documents
sent_stay s job (tasks.Activate entry epoch length index memo address) = addressed_stay s job (tasks.Activate entry epoch length index memo address)
sent_stay s job (tasks.Update length index) = addressed_stay s job (tasks.Update length index)
sent_stay s job tasks.Freeze = addressed_stay s job tasks.Freeze
sent_stay s job (tasks.Ask slot cause) = addressed_stay s job (tasks.Ask slot cause)
sent_stay s job (tasks.DoFragment req mode address) = addressed_stay s job (tasks.DoFragment req mode address)

finished_stay : (documents : List Document) (hand : Option Job) (outcome : Outcome) → MadeStay documents (slot_finished (documents_finished documents hand) hand outcome)
finished_stay documents None outcome doc is = is
finished_stay documents (Some job) outcome doc is = by_outcome outcome
  where
    viewed : is_made (documents_finished documents (Some job)) doc ≡ true
    viewed = on_stays job.doc _ (record { nr = λ d. refl; made = λ d it. it }) documents doc is

    by_outcome : (o : Outcome) → is_made (slot_finished (documents_finished documents (Some job)) (Some job) o) doc ≡ true
    by_outcome (outcomes.Populated slot) =
        on_stays job.doc (λ d. record d { slot = slot }) (record { nr = λ d. refl; made = λ d it. it }) (documents_finished documents (Some job)) doc viewed
    by_outcome outcomes.Activated = viewed
    by_outcome outcomes.Updated = viewed
    by_outcome outcomes.Frozen = viewed
    by_outcome outcomes.Discarded = viewed
    by_outcome (outcomes.Asked verdict) = viewed
    by_outcome outcomes.Fragmented = viewed

delivered_stay : (documents : List Document) (report : Option Report) → MadeStay documents (documents_delivered documents report)
delivered_stay documents None doc is = is
delivered_stay documents (Some (reports.Made made)) doc is = is
delivered_stay documents (Some (reports.Died death)) doc is =
    map_stays _ (keeps_if _ (λ d. record d { is_known_dead = true }) (record { nr = λ d. refl; made = λ d it. it })) documents doc is
delivered_stay documents (Some (reports.Done job outcome made)) doc is = by_outcome outcome
  where
    by_outcome : (o : Outcome) → is_made (documents_delivered documents (Some (reports.Done job o made))) doc ≡ true
    by_outcome (outcomes.Populated slot) =
        on_stays job.doc (λ d. record d { is_ready = true; is_fresh = true }) (record { nr = λ d. refl; made = λ d it. refl }) documents doc is
    by_outcome outcomes.Activated = is
    by_outcome outcomes.Updated = is
    by_outcome outcomes.Frozen = is
    by_outcome outcomes.Discarded = is
    by_outcome (outcomes.Asked verdict) = is
    by_outcome outcomes.Fragmented = is

-- ---- the rows

-- where requests stay, and who is made
made_stays : (s t : Seen) → RequestsStay s t → MadeStay s.documents t.documents → AwakeMade s → AwakeMade t
made_stays s t requests stay made = record { each = each }
  where
    each : (doc : DocId) → IsAwakeFor t doc → is_made t.documents doc ≡ true
    each doc for =
        let was : WasThere s for.req for.q = requests.each for.req for.q for.found for.started in
        stay doc (made.each doc (for_of s doc for.req was.old was.found (was.same.started for.started) (ap (λ (docs : List DocId). has_doc docs doc) was.same.awake_then ∙ for.awake)))

-- the row opens no tab and begins no request; one that is accepted has the next number
abbrev pub IsMadeKeeping : Seen → RowKind → Type 0
IsMadeKeeping s (rows.Opened entry state doc proc slot address) = ⊥
IsMadeKeeping s (rows.Started req goal) = ⊥
IsMadeKeeping s (rows.Accepted req doc what) = req.0 ≡ length s.requests + 1
IsMadeKeeping s _ = Unit {0}

module _ (s : Seen) (event : ℕ) (actor : Actor) where
  abbrev then : RowKind → Seen
  then kind = after s (record { event = event; actor = actor; row = kind })

  -- over each such row they are made still
  pub made_row : (kind : RowKind) → IsMadeKeeping s kind → AwakeMade s → AwakeMade (then kind)
  made_row (rows.Opened entry state doc proc slot address) never made = absurd never
  made_row (rows.Started req goal) never made = absurd never
  made_row (rows.Applied req change) keeps made =
      made_stays s (then (rows.Applied req change)) (requests_then s event actor req change) (map_stays _ (keeps_then (λ d. told_after_change d change) (applied_to change) (told_keeps change) (applied_keeps change)) s.documents) made
  made_row (rows.Accepted req doc what) next made =
      made_stays s (then (rows.Accepted req doc what)) (requests_stay s (then (rows.Accepted req doc what)) (there_more s s.requests req doc what next (were_there s))) (λ d is. is) made
  made_row (rows.Refused req reason) keeps made =
      made_stays s (then (rows.Refused req reason)) (requests_stay s (then (rows.Refused req reason)) (there_ended s s.requests req (endings.Refused reason) (were_there s))) (λ d is. is) made
  made_row (rows.Dropped req cause) keeps made =
      made_stays s (then (rows.Dropped req cause)) (requests_stay s (then (rows.Dropped req cause)) (there_ended s s.requests req (endings.Dropped cause) (were_there s))) (λ d is. is) made
  made_row (rows.Prompted req doc) keeps made =
      made_stays s (then (rows.Prompted req doc)) (requests_stay s (then (rows.Prompted req doc)) (there_on s s.requests req _ (λ q. as_read q _ refl) (were_there s))) (λ d is. is) made
  made_row (rows.Answered req stay) keeps made =
      made_stays s (then (rows.Answered req stay)) (requests_stay s (then (rows.Answered req stay)) (there_on s s.requests req _ (λ q. as_read q _ refl) (were_there s))) (λ d is. is) made
  made_row (rows.Sent job) keeps made =
      made_stays s (then (rows.Sent job)) (requests_stay s (then (rows.Sent job)) (there_sent s job job.task s.requests (were_there s))) (sent_stay s job job.task) made
  made_row (rows.Taken proc job live dirty) keeps made =
      made_stays s (then (rows.Taken proc job live dirty)) (requests_stay s (then (rows.Taken proc job live dirty)) (were_there s)) (λ d is. is) made
  made_row (rows.Finished proc job outcome) keeps made =
      made_stays s (then (rows.Finished proc job outcome)) (requests_stay s (then (rows.Finished proc job outcome)) (there_finished s (desk_of s proc).in_hand outcome s.requests (were_there s))) (finished_stay s.documents (task_in_hand s proc) outcome) made
  made_row (rows.Made proc by) keeps made =
      made_stays s (then (rows.Made proc by)) (requests_stay s (then (rows.Made proc by)) (there_on s s.requests by.req _ (λ q. as_read q _ refl) (were_there s))) (on_stays by.doc _ (record { nr = λ d. refl; made = λ d is. is }) s.documents) made
  made_row (rows.Delivered proc) keeps made =
      made_stays s (then (rows.Delivered proc)) (requests_stay s (then (rows.Delivered proc)) (there_delivered s (slice_get (desk_of s proc).reports 0) s.requests (were_there s))) (delivered_stay s.documents (slice_get (desk_of s proc).reports 0)) made
  made_row (rows.Killed proc death) keeps made =
      made_stays s (then (rows.Killed proc death)) (requests_stay s (then (rows.Killed proc death)) (were_there s)) (map_stays _ (keeps_if _ (λ d. record d { dead_by = Some death; view = None }) (record { nr = λ d. refl; made = λ d is. is })) s.documents) made
  made_row (rows.Evicted state) keeps made =
      made_stays s (then (rows.Evicted state)) (requests_stay s (then (rows.Evicted state)) (were_there s)) (λ d is. is) made

  -- a request begins, where each document on which a navigable is awake is made
  pub made_begun : (req : ReqId) (goal : Option Step) → ((doc : DocId) → has_doc (awake_documents s) doc ≡ true → is_made s.documents doc ≡ true) → AwakeMade s → AwakeMade (then (rows.Started req goal))
  made_begun req goal awake made = record { each = λ doc for. each doc for (for.req.0 == req.0) refl }
    where
      begin : Asked → Asked
      begin q = record q { is_started = true; goal = goal }

      each : (doc : DocId) → (for : IsAwakeFor (then (rows.Started req goal)) doc) → (b : Bool) → (for.req.0 == req.0) ≡ b → is_made s.documents doc ≡ true
      each doc for false apart =
          made.each doc (for_of s doc for.req for.q (sym (on_else s.requests req begin for.req apart) ∙ (sym (on_else (on_request req begin s.requests) req (request_begun s) for.req apart) ∙ for.found)) for.started for.awake)
      each doc for true e = awake doc (by_found (request_in (on_request req begin s.requests) req) (sym (on_itself (on_request req begin s.requests) req (request_begun s)) ∙ own))
        where
          its : for.req ≡ req
          its =
              let number : for.req.0 ≡ req.0 = grind (arith, nat_tests, e) in
              ap (λ (n : ℕ). let x : ReqId = record { 0 = n } in x) number

          own : request_in (on_request req (request_begun s) (on_request req begin s.requests)) req ≡ Some for.q
          own =
              ap (λ (r : ReqId). request_in (on_request req (request_begun s) (on_request req begin s.requests)) r) (sym its) ∙ for.found

          by_found : (o : Option Asked) → option_map (request_begun s) o ≡ Some for.q → has_doc (awake_documents s) doc ≡ true
          by_found None never = absurd cc
          by_found (Some x) is =
              let same : request_begun s x ≡ for.q = cc in
              ap (λ (q : Asked). has_doc q.awake_then doc) same ∙ for.awake
