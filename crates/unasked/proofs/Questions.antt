-- Questions aren't seen: that one is sent, taken, finished, delivered, and what the user is asked and answers; nor that a request begins which is in its check.
use Rattle.std.proofs.Common.{◌≡◌, ℕ, ◌+◌, Bool, true, false, cond, List, [], ◌∷◌, ◌++◌, map, Option, Some, None, refl, sym, ap, ◌∙◌}
use Rattle.std.specs.Prelude.{filter_map, option_map, option_and_then, is_some, slice_get, if◌then◌else◌}
use Rattle.std.specs.Option.{option_map_or}
use Rattle.tab_ids.specs.declared.DocId.{DocId}
use Rattle.tab_ids.specs.declared.JobId.{JobId}
use Rattle.tab_ids.specs.declared.ProcId.{ProcId}
use Rattle.tab_ids.specs.declared.ReqId.{ReqId}
use Rattle.tab_ids.specs.declared.Step.{Step}
use Rattle.log_model.specs.declared.handler.LeaveCause.{LeaveCause}
use Rattle.log_model.specs.declared.handler.Verdict.{Verdict}
use Rattle.log_model.specs.declared.job.Job.{Job}
use Rattle.log_model.specs.declared.job.Order.{Order}
use Rattle.log_model.specs.declared.job.Task.{Task}
use Rattle.log_model.specs.declared.job.Task.TheVariants as tasks
use Rattle.log_model.specs.declared.made.Made.{Made}
use Rattle.log_model.specs.declared.made.Report.{Report}
use Rattle.log_model.specs.declared.made.Report.TheVariants as reports
use Rattle.log_model.specs.declared.outcome.Outcome.{Outcome}
use Rattle.log_model.specs.declared.outcome.Outcome.TheVariants as outcomes
use Rattle.log_model.specs.declared.row_kind.Actor.{Actor}
use Rattle.log_model.specs.declared.row_kind.RowKind.TheVariants as rows
use Rattle.log_model.specs.Views.{View}
use Rattle.log_model.specs.Seen.{Asked, Asking, Desk, Document, Seen, desk_of}
use Rattle.log_model.specs.After.{after, desk_delivered, desk_finished, desk_taken, has_stood_now, is_load_request, known_after}
use Rattle.log_model.specs.AfterDocuments.{addressed, documents_delivered, documents_finished, documents_sent, slot_finished, task_in_hand, view_finished}
use Rattle.log_model.specs.AfterPlaces.{kept_delivered, kept_sent, places_delivered, places_sent}
use Rattle.log_model.specs.AfterRequests.{is_held_back, joined_delivered, made_of_report, on_asking, request_begun, requests_delivered, requests_finished, requests_sent, with_asking}
use Rattle.unasked.specs.Premises.{IsNumbered, has_desk}
use Rattle.seen_laws.specs.Unasked.{is_question, no_answer, no_question, no_question_in_hand, without_slot, quiet_desk, unasked, unasked_request, unhandled}
use Rattle.unasked.proofs.Lists.{desk_still, desk_there, on_still, on_twice}
use Rattle.unasked.proofs.Rows.{IsAside, document_still, mail_behind, mail_same, reports_behind, reports_same, request_still, served_still}
use Rattle.unasked.proofs.Whole.{row_of, silent, still, unseen}

-- a request is changed in what only its check reads
pub prompted_aside : (doc : DocId) → IsAside (λ q. record q { prompted = Some doc }) (λ q. q)
prompted_aside doc = record { nr = λ q. refl; off = λ q. refl; on = λ q. refl }

-- so is the answer
pub answered_aside : (stay : Bool) → IsAside (λ q. record q { answered = Some stay }) (λ q. q)
answered_aside stay = record { nr = λ q. refl; off = λ q. refl; on = λ q. refl }

-- and a question
pub asking_aside : (job : Job) → IsAside (with_asking job) (λ q. q)
asking_aside job = record { nr = λ q. refl; off = λ q. refl; on = λ q. refl }

-- and a document's answer
pub heard_aside : (job : JobId) (f : Asking → Asking) → IsAside (on_asking job f) (λ q. q)
heard_aside job f = record { nr = λ q. refl; off = λ q. refl; on = λ q. refl }

-- ---- one order

-- an order that asks is a question
pub asks_so : (P : Task → Type 0) (task : Task) → is_question task ≡ true → ((slot : ℕ) (cause : LeaveCause) → P (tasks.Ask slot cause)) → P task
asks_so P (tasks.Ask slot cause) is so = so slot cause
asks_so P (tasks.Populate nav state address initial) is so = absurd cc
asks_so P (tasks.Activate entry epoch length index memo address) is so = absurd cc
asks_so P (tasks.Update length index) is so = absurd cc
asks_so P tasks.Freeze is so = absurd cc
asks_so P tasks.Discard is so = absurd cc
asks_so P (tasks.DoFragment req mode address) is so = absurd cc

-- what one leaves of the view of a document
pub view_still : (d : Document) (task : Task) → is_question task ≡ true → view_finished d task ≡ d.view
view_still d task asks = asks_so (λ task. view_finished d task ≡ d.view) task asks (λ slot cause. by_view d.view)
  where
    by_view : (o : Option View) → option_map (λ view. view) o ≡ o
    by_view None = refl
    by_view (Some view) = refl

-- and of the documents
pub slot_still : (documents : List Document) (job : Job) (outcome : Outcome) → map unhandled (slot_finished documents (Some job) outcome) ≡ map unhandled documents
slot_still documents job (outcomes.Populated slot) = document_still job.doc (λ d. record d { slot = slot }) documents (λ d. refl)
slot_still documents job outcomes.Activated = refl
slot_still documents job outcomes.Updated = refl
slot_still documents job outcomes.Frozen = refl
slot_still documents job outcomes.Discarded = refl
slot_still documents job (outcomes.Asked verdict) = refl
slot_still documents job outcomes.Fragmented = refl

-- ---- one desk

-- it takes a question
pub taken_quiet : (live dirty : Bool) (desk : Desk) (first : Job) → slice_get desk.mail 0 ≡ Some first → is_question first.task ≡ true → desk.in_hand ≡ None → quiet_desk (desk_taken live dirty desk) ≡ quiet_desk desk
taken_quiet live dirty desk first at asks empty =
    λ i. record (quiet_desk desk) {
      mail = mail_behind desk.mail first at asks i;
      in_hand = (hand live ∙ sym (ap (option_and_then no_question_in_hand) empty)) i;
    }
  where
    hand : (b : Bool) → option_and_then no_question_in_hand (if b then option_map (λ job. let order : Order = record { job = job; dirty = dirty } in order) (slice_get desk.mail 0) else None) ≡ None
    hand true =
        ap (λ o. option_and_then no_question_in_hand (option_map (λ job. let order : Order = record { job = job; dirty = dirty } in order) o)) at
        ∙ ap (λ b. let o : Option Order = cond b None (Some (record { job = first; dirty = dirty })) in o) asks
    hand false = refl

-- it finishes one
pub finished_quiet : (outcome : Outcome) (desk : Desk) (order : Order) → desk.in_hand ≡ Some order → is_question order.job.task ≡ true → quiet_desk (desk_finished outcome desk) ≡ quiet_desk desk
finished_quiet outcome desk order is asks =
    λ i. record (quiet_desk desk) {
      in_hand = sym (ap (option_and_then no_question_in_hand) is ∙ ap (λ b. cond b None (Some order)) asks) i;
      reports = (ap (λ (o : Option Order). filter_map no_answer (option_map_or (λ (x : Order). desk.reports ++ reports.Done x.job outcome None ∷ []) o desk.reports)) is ∙ reports_same desk.reports (reports.Done order.job outcome None) (ap (λ b. cond b None (Some (reports.Done order.job (without_slot outcome) None))) asks)) i;
    }

-- its first report is of an answer
pub delivered_quiet : (desk : Desk) (job : Job) (outcome : Outcome) (made : Option Made) → slice_get desk.reports 0 ≡ Some (reports.Done job outcome made) → is_question job.task ≡ true → quiet_desk (desk_delivered desk) ≡ quiet_desk desk
delivered_quiet desk job outcome made at asks =
    λ i. record (quiet_desk desk) {
      reports = reports_behind desk.reports (reports.Done job outcome made) at (ap (λ b. cond b None (Some (reports.Done job (without_slot outcome) made))) asks) i;
      known = ap (known_after desk.known) at i;
    }

module _ (checking : ReqId → Bool) (s : Seen) (event : ℕ) (actor : Actor) (noted : has_stood_now s.has_stood s ≡ s.has_stood) where
  -- the user is asked
  pub prompted_unseen : (req : ReqId) (doc : DocId) → unasked checking (after s (row_of event actor (rows.Prompted req doc))) ≡ silent (unasked checking s) event s.jobs s.states
  prompted_unseen req doc =
      unseen checking s (row_of event actor (rows.Prompted req doc)) (record {
        still = refl;
        documents = refl;
        desks = refl;
        requests = request_still checking _ req s.requests (prompted_aside doc);
        finished = refl;
        stood = refl;
        noted = noted;
      })

  -- the user answers
  pub answered_unseen : (req : ReqId) (stay : Bool) → unasked checking (after s (row_of event actor (rows.Answered req stay))) ≡ silent (unasked checking s) event s.jobs s.states
  answered_unseen req stay =
      unseen checking s (row_of event actor (rows.Answered req stay)) (record {
        still = refl;
        documents = refl;
        desks = refl;
        requests = request_still checking _ req s.requests (answered_aside stay);
        finished = refl;
        stood = refl;
        noted = noted;
      })

  -- a request begins that is in its check
  pub started_unseen : (req : ReqId) (goal : Option Step) → checking req ≡ true → IsNumbered s req → unasked checking (after s (row_of event actor (rows.Started req goal))) ≡ silent (unasked checking s) event s.jobs (if is_load_request s req then s.states + 1 else s.states)
  started_unseen req goal on numbered =
      unseen checking s (row_of event actor (rows.Started req goal)) (record {
        still = refl;
        documents = refl;
        desks = refl;
        requests =
            ap (λ l. map (unasked_request checking) l) (on_twice (λ q. record q { is_started = true; goal = goal }) (request_begun s) req s.requests)
            ∙ on_still (unasked_request checking) _ req s.requests (λ q found. begun q (ap checking (numbered q found) ∙ on));
        finished = refl;
        stood = refl;
        noted = noted;
      })
    where
      begun : (q : Asked) → checking q.nr ≡ true → unasked_request checking (request_begun s (record q { is_started = true; goal = goal })) ≡ unasked_request checking q
      begun q e = rw e refl

  -- ---- a question

  -- one is sent
  pub ask_unseen : (job : Job) → is_question job.task ≡ true → has_desk s.desks job.proc ≡ true → unasked checking (after s (row_of event actor (rows.Sent job))) ≡ silent (unasked checking s) event (s.jobs + 1) s.states
  ask_unseen job asks there =
      unseen checking s (row_of event actor (rows.Sent job)) (record {
        still = asks_so (λ task. record (still s) { places = places_sent s job task; kept = kept_sent s job.doc task } ≡ still s) job.task asks (λ slot cause. refl);
        documents = asks_so (λ task. map unhandled (documents_sent s job task) ≡ map unhandled s.documents) job.task asks (λ slot cause. document_still job.doc (addressed (tasks.Ask slot cause)) s.documents (λ d. refl));
        desks = desk_still (λ desk. record desk { mail = desk.mail ++ job ∷ [] }) job.proc s.desks there (ap (λ mail. record (quiet_desk (desk_of s job.proc)) { mail = mail }) (mail_same (desk_of s job.proc).mail job asks));
        requests = asks_so (λ task. map (unasked_request checking) (requests_sent s job task s.requests) ≡ map (unasked_request checking) s.requests) job.task asks (λ slot cause. served_still checking job.why (with_asking job) s.requests (asking_aside job));
        finished = refl;
        stood = refl;
        noted = noted;
      })

  -- one is taken
  pub taken_unseen : (proc : ProcId) (nr : JobId) (live dirty : Bool) (job : Job) → slice_get (desk_of s proc).mail 0 ≡ Some job → is_question job.task ≡ true → (desk_of s proc).in_hand ≡ None → unasked checking (after s (row_of event actor (rows.Taken proc nr live dirty))) ≡ silent (unasked checking s) event s.jobs s.states
  taken_unseen proc nr live dirty job at asks empty =
      unseen checking s (row_of event actor (rows.Taken proc nr live dirty)) (record {
        still = refl;
        documents = refl;
        desks = desk_still (desk_taken live dirty) proc s.desks (desk_there (λ desk. is_some (slice_get desk.mail 0)) s.desks proc refl (ap is_some at)) (taken_quiet live dirty (desk_of s proc) job at asks empty);
        requests = refl;
        finished = refl;
        stood = refl;
        noted = noted;
      })

  -- what one that is finished leaves of the documents
  pub finished_documents : (job : Job) (outcome : Outcome) → is_question job.task ≡ true → map unhandled (slot_finished (documents_finished s.documents (Some job)) (Some job) outcome) ≡ map unhandled s.documents
  finished_documents job outcome asks =
      slot_still (documents_finished s.documents (Some job)) job outcome
      ∙ document_still job.doc (λ d. record d { view = view_finished d job.task }) s.documents (λ d. ap (λ view. record (unhandled d) { view = view }) (view_still d job.task asks))

  -- and of the requests
  pub finished_requests : (order : Order) (outcome : Outcome) → is_question order.job.task ≡ true → map (unasked_request checking) (requests_finished s (Some order) outcome s.requests) ≡ map (unasked_request checking) s.requests
  finished_requests order (outcomes.Asked verdict) asks =
      served_still checking order.job.why _ s.requests (heard_aside order.job.nr (λ asking. record asking { verdict = Some verdict }))
  finished_requests order outcomes.Fragmented asks =
      asks_so (λ task. order.job.task ≡ task → map (unasked_request checking) (requests_finished s (Some order) outcomes.Fragmented s.requests) ≡ map (unasked_request checking) s.requests) order.job.task asks (λ slot cause e. rw e refl) refl
  finished_requests order (outcomes.Populated slot) asks = refl
  finished_requests order outcomes.Activated asks = refl
  finished_requests order outcomes.Updated asks = refl
  finished_requests order outcomes.Frozen asks = refl
  finished_requests order outcomes.Discarded asks = refl

  -- one is finished
  pub finished_unseen : (proc : ProcId) (nr : JobId) (outcome : Outcome) (order : Order) → (desk_of s proc).in_hand ≡ Some order → is_question order.job.task ≡ true → unasked checking (after s (row_of event actor (rows.Finished proc nr outcome))) ≡ silent (unasked checking s) event s.jobs s.states
  finished_unseen proc nr outcome order is asks =
      let hand : task_in_hand s proc ≡ Some order.job = ap (λ o. option_map (λ (x : Order). x.job) o) is in
      unseen checking s (row_of event actor (rows.Finished proc nr outcome)) (record {
        still = refl;
        documents = ap (λ o. map unhandled (slot_finished (documents_finished s.documents o) o outcome)) hand ∙ finished_documents order.job outcome asks;
        desks = desk_still (desk_finished outcome) proc s.desks (desk_there (λ desk. is_some desk.in_hand) s.desks proc refl (ap is_some is)) (finished_quiet outcome (desk_of s proc) order is asks);
        requests = ap (λ o. map (unasked_request checking) (requests_finished s o outcome s.requests)) is ∙ finished_requests order outcome asks;
        finished = ap (λ o. option_and_then no_question o) hand ∙ ap (λ b. cond b None (Some order.job)) asks;
        stood = refl;
        noted = noted;
      })

  -- a report of an answer moves nothing
  pub answer_still : (job : Job) (verdict : Verdict) → is_question job.task ≡ true → (let report = Some (reports.Done job (outcomes.Asked verdict) None) in record (still s) { places = places_delivered s report; kept = kept_delivered s report } ≡ still s)
  answer_still job verdict asks =
      asks_so (λ task. job.task ≡ task → (let report = Some (reports.Done job (outcomes.Asked verdict) None) in record (still s) { places = places_delivered s report; kept = kept_delivered s report } ≡ still s)) job.task asks (λ slot cause e. rw e refl) refl

  -- the report of an answer is delivered
  pub delivered_unseen : (proc : ProcId) (job : Job) (verdict : Verdict) → slice_get (desk_of s proc).reports 0 ≡ Some (reports.Done job (outcomes.Asked verdict) None) → is_question job.task ≡ true → unasked checking (after s (row_of event actor (rows.Delivered proc))) ≡ silent (unasked checking s) event s.jobs s.states
  delivered_unseen proc job verdict at asks =
      unseen checking s (row_of event actor (rows.Delivered proc)) (record {
        still = ap as_moved at ∙ answer_still job verdict asks;
        documents = ap (λ o. map unhandled (documents_delivered s.documents o)) at;
        desks = desk_still desk_delivered proc s.desks (desk_there (λ desk. is_some (slice_get desk.reports 0)) s.desks proc refl (ap is_some at)) (delivered_quiet (desk_of s proc) job (outcomes.Asked verdict) None at asks);
        requests =
            ap (λ o. map (unasked_request checking) (requests_delivered o s.requests)) at
            ∙ served_still checking job.why _ s.requests (heard_aside job.nr (λ asking. record asking { is_delivered = true }));
        finished = refl;
        stood = refl;
        noted = noted;
      })
    where
      as_moved : Option Report → Seen
      as_moved o =
          record (still s) {
            places = places_delivered s o;
            kept = kept_delivered s o;
            joined = joined_delivered s.joined (option_and_then made_of_report o);
            parked = option_map_or (λ (made : Made). if is_held_back s made then s.parked ++ made.req ∷ [] else s.parked) (option_and_then made_of_report o) s.parked;
          }
