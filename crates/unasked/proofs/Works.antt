-- What a process does is seen: an order that asks nobody is finished, a document makes something.
use Rattle.std.proofs.Common.{◌≡◌, ℕ, ◌+◌, Bool, true, false, cond, not, ◌&&◌, ◌==◌, List, [], ◌∷◌, ◌++◌, map, Option, Some, None, refl, sym, ap, ◌∙◌, arith}
use Rattle.std.specs.Prelude.{filter_map, is_some, option_map, option_and_then}
use Rattle.std.specs.Option.{option_map_or}
use Rattle.std.proofs.lemmas.Bool.Decides.{nat_tests}
use Rattle.tab_ids.specs.declared.DocId.{DocId}
use Rattle.tab_ids.specs.declared.JobId.{JobId}
use Rattle.tab_ids.specs.declared.ProcId.{ProcId}
use Rattle.tab_ids.specs.declared.ReqId.{ReqId}
use Rattle.log_model.specs.declared.job.Job.{Job}
use Rattle.log_model.specs.declared.job.Order.{Order}
use Rattle.log_model.specs.declared.job.Task.{Task}
use Rattle.log_model.specs.declared.job.Task.TheVariants as tasks
use Rattle.log_model.specs.declared.made.Made.{Made}
use Rattle.log_model.specs.declared.made.Report.{Report}
use Rattle.log_model.specs.declared.made.Report.TheVariants as reports
use Rattle.log_model.specs.declared.made.What.{What}
use Rattle.log_model.specs.declared.made.What.TheVariants as whats
use Rattle.log_model.specs.declared.outcome.Outcome.{Outcome}
use Rattle.log_model.specs.declared.outcome.Outcome.TheVariants as outcomes
use Rattle.log_model.specs.declared.row_kind.Actor.{Actor}
use Rattle.log_model.specs.declared.row_kind.RowKind.TheVariants as rows
use Rattle.log_model.specs.Equal.{holds}
use Rattle.log_model.specs.Seen.{Asking, Desk, Document, Seen, desk_of}
use Rattle.log_model.specs.Views.{View, after_made}
use Rattle.log_model.specs.After.{after, desk_finished, desk_made, desks_made, follows_finished, on_desk, reports_joined, reports_made}
use Rattle.log_model.specs.AfterDocuments.{documents_finished, slot_finished, task_in_hand, view_finished}
use Rattle.log_model.specs.AfterRequests.{is_running, on_asking, requests_finished}
use Rattle.seen_laws.specs.Unasked.{is_question, no_answer, no_question, no_question_in_hand, quiet_desk, unasked, unasked_request, unhandled, without_slot}
use Rattle.unasked.proofs.Lists.{desk_past}
use Rattle.unasked.proofs.Readings.{desk_read, tested_read}
use Rattle.unasked.proofs.Rows.{IsAside, document_past, reports_more, request_past, served_past}
use Rattle.unasked.proofs.Whole.{row_of, seen}

-- ---- an order is finished

-- the view of a document after an order doesn't read its handler
pub view_same : (d : Document) (task : Task) → view_finished d task ≡ view_finished (unhandled d) task
view_same d (tasks.Populate nav state address initial) = refl
view_same d tasks.Discard = refl
view_same d (tasks.DoFragment req mode address) = refl
view_same d (tasks.Activate entry epoch length index memo address) = refl
view_same d (tasks.Update length index) = refl
view_same d tasks.Freeze = refl
view_same d (tasks.Ask slot cause) = refl

-- the views, as an order is finished
pub views_past : (job : Job) (documents : List Document) → map unhandled (documents_finished documents (Some job)) ≡ documents_finished (map unhandled documents) (Some job)
views_past job documents =
    document_past job.doc (λ d. record d { view = view_finished d job.task }) (λ d. record d { view = view_finished d job.task }) documents (λ d. ap (λ view. record (unhandled d) { view = view }) (view_same d job.task))

-- the handler of a document that is made is left out
pub slot_past : (job : Job) (outcome : Outcome) (documents : List Document) → map unhandled (slot_finished documents (Some job) outcome) ≡ slot_finished (map unhandled documents) (Some job) (without_slot outcome)
slot_past job (outcomes.Populated slot) documents =
    document_past job.doc (λ d. record d { slot = slot }) (λ d. record d { slot = None }) documents (λ d. refl)
slot_past job outcomes.Activated documents = refl
slot_past job outcomes.Updated documents = refl
slot_past job outcomes.Frozen documents = refl
slot_past job outcomes.Discarded documents = refl
slot_past job (outcomes.Asked verdict) documents = refl
slot_past job outcomes.Fragmented documents = refl

-- an order in hand that asks nobody
pub hand_same : (order : Order) → is_question order.job.task ≡ false → option_and_then no_question_in_hand (Some order) ≡ Some order
hand_same order none = ap (λ b. let o : Option Order = cond b None (Some order) in o) none

-- a desk that finishes an order that asks nobody
pub finished_past : (outcome : Outcome) (desk : Desk) (order : Order) → desk.in_hand ≡ Some order → is_question order.job.task ≡ false → quiet_desk (desk_finished outcome desk) ≡ desk_finished (without_slot outcome) (quiet_desk desk)
finished_past outcome desk order is none =
    λ i. record (quiet_desk desk) {
      in_hand = None;
      reports = (ap (λ (o : Option Order). filter_map no_answer (option_map_or (λ (x : Order). desk.reports ++ reports.Done x.job outcome None ∷ []) o desk.reports)) is ∙ reports_more desk.reports (reports.Done order.job outcome None) (reports.Done order.job (without_slot outcome) None) (ap (λ b. let o : Option Report = cond b None (Some (reports.Done order.job (without_slot outcome) None)) in o) none) ∙ ap (λ (o : Option Order). option_map_or (λ (x : Order). filter_map no_answer desk.reports ++ reports.Done x.job (without_slot outcome) None ∷ []) o (filter_map no_answer desk.reports)) (sym (ap (option_and_then no_question_in_hand) is ∙ hand_same order none))) i;
    }

-- a question that is answered is none of a request that asks nobody
pub heard_past : (job : JobId) (f : Asking → Asking) → IsAside (on_asking job f) (on_asking job f)
heard_past job f = record { nr = λ q. refl; off = λ q. refl; on = λ q. refl }

-- nor is a fragment order that found its document not running
pub missed_past : (is : Bool) → IsAside (λ q. record q { is_not_found = is }) (λ q. record q { is_not_found = is })
missed_past is = record { nr = λ q. refl; off = λ q. refl; on = λ q. refl }

module _ (checking : ReqId → Bool) (s : Seen) where
  -- who runs
  pub running_same : (doc : DocId) → is_running (unasked checking s) doc ≡ is_running s doc
  running_same doc =
      tested_read checking s (λ (d : Document). holds (λ (view : View). view.running) d.view) (λ d. refl) doc

  -- the requests as an order is finished
  pub finished_requests : (order : Order) (outcome : Outcome) → map (unasked_request checking) (requests_finished s (Some order) outcome s.requests) ≡ requests_finished (unasked checking s) (Some order) (without_slot outcome) (map (unasked_request checking) s.requests)
  finished_requests order (outcomes.Asked verdict) =
      served_past checking order.job.why _ _ s.requests (heard_past order.job.nr (λ asking. record asking { verdict = Some verdict }))
  finished_requests order outcomes.Fragmented = by_task order.job.task refl
    where
      by_task : (task : Task) → order.job.task ≡ task → map (unasked_request checking) (requests_finished s (Some order) outcomes.Fragmented s.requests) ≡ requests_finished (unasked checking s) (Some order) outcomes.Fragmented (map (unasked_request checking) s.requests)
      by_task (tasks.DoFragment req mode address) e =
          rw e (rw (running_same order.job.doc) (request_past checking _ _ req s.requests (missed_past (not (is_running s order.job.doc)))))
      by_task (tasks.Populate nav state address initial) e = rw e refl
      by_task (tasks.Activate entry epoch length index memo address) e = rw e refl
      by_task (tasks.Update length index) e = rw e refl
      by_task tasks.Freeze e = rw e refl
      by_task tasks.Discard e = rw e refl
      by_task (tasks.Ask slot cause) e = rw e refl
  finished_requests order (outcomes.Populated slot) = refl
  finished_requests order outcomes.Activated = refl
  finished_requests order outcomes.Updated = refl
  finished_requests order outcomes.Frozen = refl
  finished_requests order outcomes.Discarded = refl

  -- an order that asks nobody is finished, of a document without a handler
  pub finished_seen : (event : ℕ) (actor : Actor) (proc : ProcId) (nr : JobId) (outcome : Outcome) (order : Order) → (desk_of s proc).in_hand ≡ Some order → is_question order.job.task ≡ false → unasked checking (after s (row_of event actor (rows.Finished proc nr outcome))) ≡ after (unasked checking s) (row_of event actor (rows.Finished proc nr (without_slot outcome)))
  finished_seen event actor proc nr outcome order is none =
      let held : (desk_of (unasked checking s) proc).in_hand ≡ Some order = ap (λ (desk : Desk). desk.in_hand) (desk_read checking s proc) ∙ ap (option_and_then no_question_in_hand) is ∙ hand_same order none in
      let old : task_in_hand s proc ≡ Some order.job = ap (λ o. option_map (λ (x : Order). x.job) o) is in
      let new : task_in_hand (unasked checking s) proc ≡ Some order.job = ap (λ o. option_map (λ (x : Order). x.job) o) held in
      seen checking s (row_of event actor (rows.Finished proc nr outcome)) (row_of event actor (rows.Finished proc nr (without_slot outcome))) (record {
        fixed = refl;
        documents =
            ap (λ o. map unhandled (slot_finished (documents_finished s.documents o) o outcome)) old
            ∙ slot_past order.job outcome (documents_finished s.documents (Some order.job))
            ∙ ap (λ l. slot_finished l (Some order.job) (without_slot outcome)) (views_past order.job s.documents)
            ∙ ap (λ o. slot_finished (documents_finished (map unhandled s.documents) o) o (without_slot outcome)) (sym new);
        desks = desk_past (desk_finished outcome) (desk_finished (without_slot outcome)) proc s.desks (finished_past outcome (desk_of s proc) order is none);
        requests =
            ap (λ o. map (unasked_request checking) (requests_finished s o outcome s.requests)) is
            ∙ finished_requests order outcome
            ∙ ap (λ o. requests_finished (unasked checking s) o (without_slot outcome) (map (unasked_request checking) s.requests)) (sym held);
        places = refl;
        kept = refl;
        joined = refl;
        parked = refl;
        states = refl;
        finished =
            ap (option_and_then no_question) old
            ∙ ap (λ b. let o : Option Job = cond b None (Some order.job) in o) none
            ∙ sym new;
        step = refl;
        stood = refl;
      })

-- ---- a document makes something

-- a report of what was made of a poke
pub made_reports : (waiting : List Report) (made : Made) (what : What) → filter_map no_answer (reports_made waiting made what) ≡ reports_made (filter_map no_answer waiting) made what
made_reports waiting made whats.Edit = refl
made_reports waiting made (whats.Push entry memo address) = reports_more waiting (reports.Made made) (reports.Made made) refl
made_reports waiting made (whats.Replace over entry memo address) =
    reports_more waiting (reports.Made made) (reports.Made made) refl
made_reports waiting made (whats.AddFrame nav) = reports_more waiting (reports.Made made) (reports.Made made) refl
made_reports waiting made (whats.RemoveFrame nav) = reports_more waiting (reports.Made made) (reports.Made made) refl
made_reports waiting made (whats.Go delta) = reports_more waiting (reports.Made made) (reports.Made made) refl

-- what was made joins the last report
pub joined_last : (made : Made) (front : List Report) (job : Job) (outcome : Outcome) (joined : Option Made) → reports_joined made (front ++ reports.Done job outcome joined ∷ []) ≡ front ++ reports.Done job outcome (Some made) ∷ []
joined_last made [] job outcome joined = refl
joined_last made (reports.Done j o m ∷ []) job outcome joined = refl
joined_last made (reports.Done j o m ∷ r ∷ front) job outcome joined =
    ap (λ (l : List Report). reports.Done j o m ∷ l) (joined_last made (r ∷ front) job outcome joined)
joined_last made (reports.Made m ∷ front) job outcome joined =
    ap (λ (l : List Report). reports.Made m ∷ l) (joined_last made front job outcome joined)
joined_last made (reports.Died death ∷ front) job outcome joined =
    ap (λ (l : List Report). reports.Died death ∷ l) (joined_last made front job outcome joined)

-- which is of no question
pub joined_reports : (made : Made) (waiting front : List Report) (job : Job) (outcome : Outcome) (joined : Option Made) → waiting ≡ front ++ reports.Done job outcome joined ∷ [] → is_question job.task ≡ false → filter_map no_answer (reports_joined made waiting) ≡ reports_joined made (filter_map no_answer waiting)
joined_reports made waiting front job outcome joined is none =
    ap (λ l. filter_map no_answer (reports_joined made l)) is
    ∙ ap (filter_map no_answer) (joined_last made front job outcome joined)
    ∙ reports_more front (reports.Done job outcome (Some made)) (reports.Done job (without_slot outcome) (Some made)) (told (Some made))
    ∙ sym (joined_last made (filter_map no_answer front) job (without_slot outcome) joined)
    ∙ ap (reports_joined made) (sym (reports_more front (reports.Done job outcome joined) (reports.Done job (without_slot outcome) joined) (told joined)))
    ∙ ap (λ l. reports_joined made (filter_map no_answer l)) (sym is)
  where
    told : (m : Option Made) → no_answer (reports.Done job outcome m) ≡ Some (reports.Done job (without_slot outcome) m)
    told m = ap (λ b. let o : Option Report = cond b None (Some (reports.Done job (without_slot outcome) m)) in o) none

-- what was made of a request is read by no check
pub made_aside : (made : Made) → IsAside (λ q. record q { made = Some made }) (λ q. record q { made = Some made })
made_aside made = record { nr = λ q. refl; off = λ q. refl; on = λ q. refl }

module _ (checking : ReqId → Bool) (s : Seen) (event : ℕ) (actor : Actor) (proc : ProcId) (made : Made) where
  -- it follows the same, or doesn't
  pub follows_not : follows_finished s (row_of event actor (rows.Made proc made)) ≡ false → follows_finished (unasked checking s) (row_of event actor (rows.Made proc made)) ≡ false
  follows_not = by_event (s.events == (event + 1)) s.just_finished
    where
      by_event : (b : Bool) (o : Option Job) → (b && is_some o) ≡ false → (b && is_some (option_and_then no_question o)) ≡ false
      by_event true None e = refl
      by_event true (Some job) e = absurd cc
      by_event false o e = refl

  -- where the desk changes the same, so does the whole
  pub made_so : (joins : Bool) → follows_finished s (row_of event actor (rows.Made proc made)) ≡ joins → follows_finished (unasked checking s) (row_of event actor (rows.Made proc made)) ≡ joins → quiet_desk (desks_made joins made (desk_of s proc)) ≡ desks_made joins made (quiet_desk (desk_of s proc)) → unasked checking (after s (row_of event actor (rows.Made proc made))) ≡ after (unasked checking s) (row_of event actor (rows.Made proc made))
  made_so joins old new desk =
      let row = row_of event actor (rows.Made proc made) in
      seen checking s row row (record {
        fixed = refl;
        documents = document_past made.doc (λ d. record d { view = option_map (λ view. after_made view made.what) d.view }) (λ d. record d { view = option_map (λ view. after_made view made.what) d.view }) s.documents (λ d. refl);
        desks =
            ap (λ b. map quiet_desk (on_desk proc (desks_made b made) s.desks)) old
            ∙ desk_past (desks_made joins made) (desks_made joins made) proc s.desks desk
            ∙ ap (λ b. on_desk proc (desks_made b made) (map quiet_desk s.desks)) (sym new);
        requests = request_past checking _ _ made.req s.requests (made_aside made);
        places = refl;
        kept = refl;
        joined = refl;
        parked = refl;
        states = refl;
        finished = refl;
        step = refl;
        stood = refl;
      })

  -- a document makes something of a poke
  pub made_seen : follows_finished s (row_of event actor (rows.Made proc made)) ≡ false → unasked checking (after s (row_of event actor (rows.Made proc made))) ≡ after (unasked checking s) (row_of event actor (rows.Made proc made))
  made_seen apart =
      made_so false apart (follows_not apart) (ap (λ waiting. record (quiet_desk (desk_made made (desk_of s proc))) { reports = waiting }) (made_reports (desk_of s proc).reports made made.what))

  -- or of the order that was just finished, which asks nobody
  pub joined_seen : (front : List Report) (job : Job) (outcome : Outcome) (joined : Option Made) → s.events ≡ event + 1 → s.just_finished ≡ Some job → (desk_of s proc).reports ≡ front ++ reports.Done job outcome joined ∷ [] → is_question job.task ≡ false → unasked checking (after s (row_of event actor (rows.Made proc made))) ≡ after (unasked checking s) (row_of event actor (rows.Made proc made))
  joined_seen front job outcome joined here just is none =
      made_so true (both same (ap is_some just)) (both same (ap is_some (ap (option_and_then no_question) just ∙ ap (λ b. let o : Option Job = cond b None (Some job) in o) none))) (ap (λ waiting. record (quiet_desk (desk_of s proc)) { reports = waiting }) (joined_reports made (desk_of s proc).reports front job outcome joined is none))
    where
      same : (s.events == (event + 1)) ≡ true
      same = grind (arith, nat_tests, here)

      both : {a b : Bool} → a ≡ true → b ≡ true → (a && b) ≡ true
      both e f = rw (e, f) refl
