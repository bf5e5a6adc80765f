-- A request begins and asks documents: whom it leaves is among those, and whom others leave was asked for them still.
use Rattle.std.proofs.Common.{◌≡◌, ℕ, Bool, true, false, ◌||◌, ◌==◌, List, [], ◌∷◌, ◌++◌, map, Option, Some, None, refl, sym, ap, ◌∙◌, subst, arith}
use Rattle.std.specs.Prelude.{fold, is_some, option_map}
use Rattle.std.specs.List.{list_any}
use Rattle.std.proofs.lemmas.Bool.Decides.{nat_tests}
use Rattle.tab_ids.specs.declared.DocId.{DocId}
use Rattle.tab_ids.specs.declared.NavId.{NavId}
use Rattle.tab_ids.specs.declared.ReqId.{ReqId}
use Rattle.tab_ids.specs.declared.StateId.{StateId}
use Rattle.tab_ids.specs.declared.Step.{Step}
use Rattle.log_model.specs.declared.handler.LeaveCause.{LeaveCause}
use Rattle.log_model.specs.declared.job.Job.{Job}
use Rattle.log_model.specs.declared.job.Task.{Task}
use Rattle.log_model.specs.declared.job.Task.TheVariants as tasks
use Rattle.log_model.specs.declared.job.Why.{Why}
use Rattle.log_model.specs.declared.job.Why.TheVariants as whys
use Rattle.log_model.specs.declared.request.Mode.{Mode}
use Rattle.log_model.specs.declared.request.Request.{Request}
use Rattle.log_model.specs.declared.request.Request.TheVariants as requests
use Rattle.log_model.specs.declared.row_kind.Actor.{Actor}
use Rattle.log_model.specs.declared.row_kind.LogRow.{LogRow}
use Rattle.log_model.specs.declared.row_kind.RowKind.TheVariants as rows
use Rattle.log_model.proofs.Refl.{nat_eq_refl}
use Rattle.log_model.specs.After.{after}
use Rattle.log_model.specs.AfterDocuments.{documents_sent}
use Rattle.log_model.specs.AfterRequests.{awake_documents, on_request, on_served, request_begun, requests_sent, with_asking}
use Rattle.log_model.specs.Checks.{was_asked}
use Rattle.log_model.specs.Equal.{has_doc}
use Rattle.log_model.specs.History.{History, has_nav, has_row, used_step_at}
use Rattle.log_model.specs.Places.{is_traversal, way_of}
use Rattle.log_model.specs.Seen.{Asked, Asking, Document, Place, Seen, document_of, place_of, request_in, request_of}
use Rattle.seen_facts.proofs.Coord.Held.{on_else}
use Rattle.seen_facts.proofs.Hang.Frames.{sent_kept}
use Rattle.seen_facts.proofs.Request.LookUps.{on_itself}
use Rattle.seen_facts.specs.Hang.Forms.{Form, form_in, forms_of}
use Rattle.leave_facts.specs.Leaving.{AreAsked, IsGoing, IsLoading, WasAwake, stays_at, BelowAsked, IsBelow, leaves_nav}
use Rattle.leave_facts.proofs.Below.{one_below}
use Rattle.leave_facts.proofs.Documents.{WereSo, documents_addressed, were_so}
use Rattle.leave_facts.proofs.Requests.{as_then, there_sent, were_there}
use Rattle.leave_facts.proofs.Rows.{places_stay, was_place}
use Rattle.leave_facts.proofs.Stays.{DocumentsStay, RequestsStay, RowsStay, StepsStay, WasDocument, WasPlace, WasThere, has_started, leaver_stays, load_stays, one_stays, rows_same, steps_same, stays_in}

-- ---- questions

-- the order asks a document for the request
pub record IsQuestion (req : ReqId) (job : Job) : Type 0 where
  pub why : job.why ≡ whys.Req req
  pub slot : ℕ
  pub cause : LeaveCause
  pub task : job.task ≡ tasks.Ask slot cause

-- each of these orders does
abbrev pub AreQuestions : ReqId → List Job → Type 0
AreQuestions req [] = Unit {0}
AreQuestions req (job ∷ jobs) = IsQuestion req job × AreQuestions req jobs

-- one of these orders is to the document
abbrev pub is_among : List Job → DocId → Bool
is_among jobs doc = list_any (λ (job : Job). job.doc.0 == doc.0) jobs

-- any document
abbrev any : DocId → Type 0
any doc = Unit {0}

-- what these questions leave, and whom the request asked then
record Asks (b t : Seen) (req : ReqId) (jobs : List Job) : Type 0 where
  same : t.history ≡ b.history
  forms : forms_of t.places ≡ forms_of b.places
  documents : WereSo b any t.documents
  requests : RequestsStay b t
  asked : (q : Asked) → request_of t req ≡ Some q → q.is_started ≡ true → (doc : DocId) → is_among jobs doc ≡ true → was_asked q doc ≡ true

module _ (event : ℕ) (actor : Actor) where
  -- the row that sends an order
  abbrev pub sent_row : Job → LogRow
  sent_row job = record { event = event; actor = actor; row = rows.Sent job }

  module _ (req : ReqId) where
    -- one question
    question_asks : (b : Seen) (job : Job) → IsQuestion req job → (x : Asked) → request_of (after b (sent_row job)) req ≡ Some x → was_asked x job.doc ≡ true
    question_asks b job is x found = by_found (request_of b req) (sym (on_itself b.requests req (with_asking job)) ∙ (sym (ap (λ (l : List Asked). request_in l req) requests_are) ∙ found))
      where
        requests_are : (after b (sent_row job)).requests ≡ on_request req (with_asking job) b.requests
        requests_are =
            ap (λ (task : Task). requests_sent b job task b.requests) is.task
            ∙ ap (λ (why : Why). on_served why (with_asking job) b.requests) is.why

        last : (l : List Asking) → list_any (λ (asking : Asking). asking.doc.0 == job.doc.0) (l ++ record { job = job.nr; doc = job.doc; verdict = None; is_delivered = false } ∷ []) ≡ true
        last [] = ap (λ (c : Bool). c || false) (nat_eq_refl job.doc.0)
        last (asking ∷ l) = by_test (asking.doc.0 == job.doc.0) (last l)
          where
            by_test : (c : Bool) → list_any (λ (y : Asking). y.doc.0 == job.doc.0) (l ++ record { job = job.nr; doc = job.doc; verdict = None; is_delivered = false } ∷ []) ≡ true → (c || list_any (λ (y : Asking). y.doc.0 == job.doc.0) (l ++ record { job = job.nr; doc = job.doc; verdict = None; is_delivered = false } ∷ [])) ≡ true
            by_test true rest = refl
            by_test false rest = rest

        by_found : (o : Option Asked) → option_map (with_asking job) o ≡ Some x → was_asked x job.doc ≡ true
        by_found None e = absurd cc
        by_found (Some q) e =
            let same : with_asking job q ≡ x = cc in
            subst (λ (y : Asked). was_asked y job.doc ≡ true) same (last q.asks)

    -- one after the other
    asks_on : (b : Seen) (jobs : List Job) → AreQuestions req jobs → Asks b (fold after b (map sent_row jobs)) req jobs
    asks_on b [] are =
        record {
          same = refl;
          forms = refl;
          documents = were_so b any;
          requests = record { each = were_there b };
          asked = λ q found started doc never. absurd cc;
        }
    asks_on b (job ∷ jobs) are = more (asks_on (after b (sent_row job)) jobs are.1)
      where
        c : Seen
        c = after b (sent_row job)

        more : Asks (after b (sent_row job)) (fold after (after b (sent_row job)) (map sent_row jobs)) req jobs → Asks b (fold after b (map sent_row (job ∷ jobs))) req (job ∷ jobs)
        more rest =
            record {
              same = rest.same;
              forms = rest.forms ∙ sent_kept b job job.task;
              documents = λ doc d any_ found. documents doc d (rest.documents doc d any_ found);
              requests = record { each = λ r q found started. there r q started (rest.requests.each r q found started) };
              asked = λ q found started doc among. asked q found started doc (job.doc.0 == doc.0) refl among;
            }
          where
            documents : (doc : DocId) (d : Document) → WasDocument (after b (sent_row job)) doc d → WasDocument b doc d
            documents doc d was =
                let addressed : WereSo b any (documents_sent b job job.task) = subst (λ (task : Task). WereSo b any (documents_sent b job task)) (sym are.0.task) (documents_addressed b any job (tasks.Ask are.0.slot are.0.cause)) in
                let before : WasDocument b doc was.old = addressed doc was.old tt was.found in
                record {
                  old = before.old;
                  found = before.found;
                  nav = before.nav ∙ was.nav;
                  state = before.state ∙ was.state;
                  slot = before.slot ∙ was.slot;
                }

            there : (r : ReqId) (q : Asked) → q.is_started ≡ true → WasThere (after b (sent_row job)) r q → WasThere b r q
            there r q started was =
                let before : WasThere b r was.old = there_sent b job job.task b.requests (were_there b) r was.old was.found (was.same.started started) in
                record { old = before.old; found = before.found; same = as_then before.old was.old q before.same was.same }

            asked : (q : Asked) → request_of (fold after (after b (sent_row job)) (map sent_row jobs)) req ≡ Some q → q.is_started ≡ true → (doc : DocId) (e : Bool) → (job.doc.0 == doc.0) ≡ e → (e || is_among jobs doc) ≡ true → was_asked q doc ≡ true
            asked q found started doc false e among = rest.asked q found started doc among
            asked q found started doc true e among =
                let was : WasThere (after b (sent_row job)) req q = rest.requests.each req q found started in
                let own : was_asked was.old job.doc ≡ true = question_asks b job are.0 was.old was.found in
                let its : job.doc ≡ doc = doc_is job.doc doc e in
                subst (λ (x : DocId). was_asked q x ≡ true) its (was.same.asked job.doc own)
              where
                doc_is : (one other : DocId) → (one.0 == other.0) ≡ true → one ≡ other
                doc_is one other same =
                    let number : one.0 ≡ other.0 = grind (arith, nat_tests, same) in
                    ap (λ (n : ℕ). let x : DocId = record { 0 = n } in x) number

-- ---- what the request asks of the log as it begins

-- each document on which a navigable with an entry is awake stays at the current step
pub record AwakeStay (s : Seen) : Type 0 where
  pub each : (doc : DocId) (d : Document) → has_doc (awake_documents s) doc ≡ true → document_of s doc ≡ Some d → has_row d.nav s.history.rows ≡ true → stays_at s.history.rows s.history.current d ≡ true

-- each of them with a handler that doesn't stay where the traversal goes is asked
pub record LeaversAmong (s : Seen) (goal : Step) (jobs : List Job) : Type 0 where
  pub each : (doc : DocId) (d : Document) → has_doc (awake_documents s) doc ≡ true → document_of s doc ≡ Some d → has_row d.nav s.history.rows ≡ true → is_some d.slot ≡ true → stays_at s.history.rows (used_step_at s.history.rows goal.0) d ≡ false → is_among jobs doc ≡ true

-- each document with a handler on which a navigable at this one or below it is awake is asked
pub record BelowAmong (s : Seen) (nav : NavId) (jobs : List Job) : Type 0 where
  pub each : (doc : DocId) (d : Document) → has_doc (awake_documents s) doc ≡ true → document_of s doc ≡ Some d → is_some d.slot ≡ true → (place : Place) → place_of s d.nav ≡ Some place → has_nav (way_of place) nav ≡ true → is_among jobs doc ≡ true

-- ---- the request begins

module _ (s : Seen) (event : ℕ) (actor : Actor) (req : ReqId) (q : Asked) (goal : Option Step) (found : request_of s req ≡ Some q) (jobs : List Job) (are : AreQuestions req jobs) (asked : AreAsked s) where
  abbrev begun : Seen
  begun = after s (record { event = event; actor = actor; row = rows.Started req goal })

  -- what the log has come to then
  abbrev pub then_asked : Seen
  then_asked = fold after begun (map (sent_row event actor) jobs)

  asks : Asks begun then_asked req jobs
  asks = asks_on event actor req begun jobs are

  abbrev begin : Asked → Asked
  begin x = record x { is_started = true; goal = goal }

  -- the request then
  record IsBegun (x : Asked) : Type 0 where
    what : q.what ≡ x.what
    goal_is : goal ≡ x.goal
    awake : awake_documents s ≡ x.awake_then

  is_begun : (x : Asked) → request_of then_asked req ≡ Some x → x.is_started ≡ true → IsBegun x
  is_begun x at started =
      record {
        what = ap (λ (y : Asked). y.what) same ∙ was.same.what;
        goal_is = ap (λ (y : Asked). y.goal) same ∙ was.same.goal;
        awake = ap (λ (y : Asked). y.awake_then) same ∙ was.same.awake_then;
      }
    where
      was : WasThere begun req x
      was = asks.requests.each req x at started

      its : request_of begun req ≡ Some (request_begun s (begin q))
      its =
          on_itself (on_request req begin s.requests) req (request_begun s)
          ∙ ap (λ (o : Option Asked). option_map (request_begun s) o) (on_itself s.requests req begin)
          ∙ ap (λ (o : Option Asked). option_map (request_begun s) (option_map begin o)) found

      same : request_begun s (begin q) ≡ was.old
      same = let two : Some (request_begun s (begin q)) ≡ Some was.old = sym its ∙ was.found in cc

  -- another one was there so
  other_there : (r : ReqId) (x : Asked) → (r.0 == req.0) ≡ false → request_of then_asked r ≡ Some x → x.is_started ≡ true → WasThere s r x
  other_there r x apart at started =
      let was : WasThere begun r x = asks.requests.each r x at started in
      record { old = was.old; found = sym (on_else s.requests req begin r apart) ∙ (sym (on_else (on_request req begin s.requests) req (request_begun s) r apart) ∙ was.found); same = was.same }

  -- so was each document
  document_there : (doc : DocId) (d : Document) → document_of then_asked doc ≡ Some d → WasDocument s doc d
  document_there doc d at =
      let was : WasDocument begun doc d = asks.documents doc d tt at in
      record { old = was.old; found = was.found; nav = was.nav; state = was.state; slot = was.slot }

  documents_there : DocumentsStay s then_asked
  documents_there = record { each = λ doc d for at. document_there doc d at }

  rows_there : RowsStay s then_asked
  rows_there = rows_same s then_asked asks.same

  steps_there : StepsStay s then_asked
  steps_there = steps_same s then_asked asks.same

  req_is : (r : ReqId) → (r.0 == req.0) ≡ true → r ≡ req
  req_is r e =
      let number : r.0 ≡ req.0 = grind (arith, nat_tests, e) in
      ap (λ (n : ℕ). let x : ReqId = record { 0 = n } in x) number

  own_found : (r : ReqId) (x : Asked) → (r.0 == req.0) ≡ true → request_of then_asked r ≡ Some x → request_of then_asked req ≡ Some x
  own_found r x e at = ap (λ (y : ReqId). request_of then_asked y) (sym (req_is r e)) ∙ at

  -- a document on which a navigable was awake as the request began
  record IsAwakeNow (doc : DocId) (d : Document) : Type 0 where
    was : WasDocument s doc d
    awake : has_doc (awake_documents s) doc ≡ true
    placed : has_row was.old.nav s.history.rows ≡ true

  is_awake_now : (x : Asked) → IsBegun x → (doc : DocId) (d : Document) → WasAwake then_asked x doc d → IsAwakeNow doc d
  is_awake_now x its doc d awake =
      let was : WasDocument s doc d = document_there doc d awake.found in
      record {
        was = was;
        awake = ap (λ (docs : List DocId). has_doc docs doc) its.awake ∙ awake.awake;
        placed = ap (λ (n : NavId). has_row n s.history.rows) was.nav ∙ ap (λ (h : History). has_row d.nav h.rows) (sym asks.same) ∙ awake.placed;
      }

  -- a step at which the document stayed, or didn't
  stays_same : (step : History → ℕ) (doc : DocId) (d : Document) → (was : WasDocument s doc d) → stays_at s.history.rows (step s.history) was.old ≡ stays_at then_asked.history.rows (step then_asked.history) d
  stays_same step doc d was =
      ap (λ (n : NavId). stays_in s.history.rows (step s.history) n was.old.state) was.nav
      ∙ ap (λ (st : StateId). stays_in s.history.rows (step s.history) d.nav st) was.state
      ∙ ap (λ (h : History). stays_in h.rows (step h) d.nav d.state) (sym asks.same)

  -- whom it leaves, and whom others do, was asked for it then, where those are among the asked
  begun_asked : (is_traversal q.what ≡ true → AwakeStay s) → ((g : Step) → is_traversal q.what ≡ true → goal ≡ Some g → LeaversAmong s g jobs) → ((nav : NavId) (mode : Mode) (address : List ℕ) → q.what ≡ requests.Load nav mode address → BelowAmong s nav jobs) → AreAsked then_asked
  begun_asked stay leavers loads =
      record {
        stay = λ r x g is doc d awake. stays_one r x g is doc d awake (r.0 == req.0) refl;
        leavers = λ r x g is doc d awake handles leaves. leaves_one r x g is doc d awake handles leaves (r.0 == req.0) refl;
        loads = λ r x nav is doc d awake handles place at below. loads_one r x nav is doc d awake handles place at below (r.0 == req.0) refl;
      }
    where
      stays_one : (r : ReqId) (x : Asked) (g : Step) → IsGoing then_asked r x g → (doc : DocId) (d : Document) → WasAwake then_asked x doc d → (b : Bool) → (r.0 == req.0) ≡ b → stays_at then_asked.history.rows then_asked.history.current d ≡ true
      stays_one r x g is doc d awake true e =
          let its : IsBegun x = is_begun x (own_found r x e is.found) (has_started x is.going) in
          let now : IsAwakeNow doc d = is_awake_now x its doc d awake in
          sym (stays_same (λ h. h.current) doc d now.was) ∙ (stay (ap is_traversal its.what ∙ is.traverses)).each doc now.was.old now.awake now.was.found now.placed
      stays_one r x g is doc d awake false e =
          one_stays s then_asked documents_there rows_there steps_there asked.stay r x g is (other_there r x e is.found (has_started x is.going)) doc d awake

      leaves_one : (r : ReqId) (x : Asked) (g : Step) → IsGoing then_asked r x g → (doc : DocId) (d : Document) → WasAwake then_asked x doc d → is_some d.slot ≡ true → stays_at then_asked.history.rows (used_step_at then_asked.history.rows g.0) d ≡ false → (b : Bool) → (r.0 == req.0) ≡ b → was_asked x doc ≡ true
      leaves_one r x g is doc d awake handles leaves true e =
          let own : request_of then_asked req ≡ Some x = own_found r x e is.found in
          let its : IsBegun x = is_begun x own (has_started x is.going) in
          let now : IsAwakeNow doc d = is_awake_now x its doc d awake in
          let among : LeaversAmong s g jobs = leavers g (ap is_traversal its.what ∙ is.traverses) (its.goal_is ∙ is.goal_is) in
          asks.asked x own (has_started x is.going) doc (among.each doc now.was.old now.awake now.was.found now.placed (ap is_some now.was.slot ∙ handles) (stays_same (λ h. used_step_at h.rows g.0) doc d now.was ∙ leaves))
      leaves_one r x g is doc d awake handles leaves false e =
          leaver_stays s then_asked documents_there rows_there steps_there asked.stay r x g is (other_there r x e is.found (has_started x is.going)) doc d awake asked.leavers handles leaves

      loads_one : (r : ReqId) (x : Asked) (nav : NavId) → IsLoading then_asked r x nav → (doc : DocId) (d : Document) → WasAwake then_asked x doc d → is_some d.slot ≡ true → (place : Place) → place_of then_asked d.nav ≡ Some place → has_nav (way_of place) nav ≡ true → (b : Bool) → (r.0 == req.0) ≡ b → was_asked x doc ≡ true
      loads_one r x nav is doc d awake handles place at below true e =
          let own : request_of then_asked req ≡ Some x = own_found r x e is.found in
          let its : IsBegun x = is_begun x own (has_started x is.going) in
          let now : IsAwakeNow doc d = is_awake_now x its doc d awake in
          let among : BelowAmong s nav jobs = loads nav is.mode is.address (its.what ∙ is.loads) in
          let there : WasPlace s now.was.old.nav place = was_place s then_asked now.was.old.nav (ap (λ (l : List Form). form_in l now.was.old.nav) asks.forms) place (ap (λ (n : NavId). place_of then_asked n) now.was.nav ∙ at) in
          asks.asked x own (has_started x is.going) doc (among.each doc now.was.old now.awake now.was.found (ap is_some now.was.slot ∙ handles) there.old there.found (ap (λ (l : List NavId). has_nav l nav) there.way ∙ below))
      loads_one r x nav is doc d awake handles place at below false e =
          load_stays s then_asked documents_there rows_there (places_stay s then_asked asks.forms) asked.loads r x nav is (other_there r x e is.found (has_started x is.going)) doc d awake handles place at below

  -- whom it leaves with those below its navigable, if it is a load or a reload, was asked as well
  pub begun_below : BelowAsked s → ((nav : NavId) → leaves_nav q.what ≡ Some nav → BelowAmong s nav jobs) → BelowAsked then_asked
  begun_below below_asked loads =
      record { each = λ r x nav is doc d found_ awake handles place at below. by_number r x nav is doc d found_ awake handles place at below (r.0 == req.0) refl }
    where
      by_number : (r : ReqId) (x : Asked) (nav : NavId) → IsBelow then_asked r x nav → (doc : DocId) (d : Document) → document_of then_asked doc ≡ Some d → has_doc x.awake_then doc ≡ true → is_some d.slot ≡ true → (place : Place) → place_of then_asked d.nav ≡ Some place → has_nav (way_of place) nav ≡ true → (b : Bool) → (r.0 == req.0) ≡ b → was_asked x doc ≡ true
      by_number r x nav is doc d found_ awake handles place at below true e =
          let own : request_of then_asked req ≡ Some x = own_found r x e is.found in
          let its : IsBegun x = is_begun x own is.started in
          let was : WasDocument s doc d = document_there doc d found_ in
          let among : BelowAmong s nav jobs = loads nav (ap leaves_nav its.what ∙ is.leaves) in
          let there : WasPlace s was.old.nav place = was_place s then_asked was.old.nav (ap (λ (l : List Form). form_in l was.old.nav) asks.forms) place (ap (λ (n : NavId). place_of then_asked n) was.nav ∙ at) in
          asks.asked x own is.started doc (among.each doc was.old (ap (λ (docs : List DocId). has_doc docs doc) its.awake ∙ awake) was.found (ap is_some was.slot ∙ handles) there.old there.found (ap (λ (l : List NavId). has_nav l nav) there.way ∙ below))
      by_number r x nav is doc d found_ awake handles place at below false e =
          one_below s then_asked documents_there (places_stay s then_asked asks.forms) below_asked r x nav is (other_there r x e is.found is.started) doc d found_ awake handles place at below

-- a traversal begins, and asks whom it leaves
pub traversal_begins : (s : Seen) (event : ℕ) (actor : Actor) (req : ReqId) (q : Asked) (goal : Step) → request_of s req ≡ Some q → is_traversal q.what ≡ true → (jobs : List Job) → AreQuestions req jobs → AwakeStay s → LeaversAmong s goal jobs → AreAsked s → AreAsked (fold after (after s (record { event = event; actor = actor; row = rows.Started req (Some goal) })) (map (sent_row event actor) jobs))
traversal_begins s event actor req q goal found traverses jobs are stay among asked =
    begun_asked s event actor req q (Some goal) found jobs are asked (λ is. stay) (λ g is same. subst (λ (x : Step). LeaversAmong s x jobs) (let own : goal ≡ g = cc in own) among) (λ nav mode address loads. (let never : true ≡ false = sym traverses ∙ ap is_traversal loads in absurd cc))

-- a load begins, and asks whom it leaves
pub load_begins : (s : Seen) (event : ℕ) (actor : Actor) (req : ReqId) (q : Asked) (nav : NavId) (mode : Mode) (address : List ℕ) → request_of s req ≡ Some q → q.what ≡ requests.Load nav mode address → (jobs : List Job) → AreQuestions req jobs → BelowAmong s nav jobs → AreAsked s → AreAsked (fold after (after s (record { event = event; actor = actor; row = rows.Started req None })) (map (sent_row event actor) jobs))
load_begins s event actor req q nav mode address found loads jobs are among asked =
    begun_asked s event actor req q None found jobs are asked (λ is. never is) (λ g is same. never is) (λ n m a same. subst (λ (x : NavId). BelowAmong s x jobs) (nav_same (sym loads ∙ same)) among)
  where
    never : {A : Type 0} → is_traversal q.what ≡ true → A
    never is = (let no_ : true ≡ false = sym is ∙ ap is_traversal loads in absurd cc)

    nav_same : {n : NavId} {m : Mode} {a : List ℕ} → (let r : Request = requests.Load nav mode address in r) ≡ requests.Load n m a → nav ≡ n
    nav_same e = cc

-- a reload begins, whomever it asks
pub reload_begins : (s : Seen) (event : ℕ) (actor : Actor) (req : ReqId) (q : Asked) (nav : NavId) → request_of s req ≡ Some q → q.what ≡ requests.Reload nav → (jobs : List Job) → AreQuestions req jobs → AreAsked s → AreAsked (fold after (after s (record { event = event; actor = actor; row = rows.Started req None })) (map (sent_row event actor) jobs))
reload_begins s event actor req q nav found reloads jobs are asked =
    begun_asked s event actor req q None found jobs are asked (λ is. never is) (λ g is same. never is) (λ n m a same. other (sym reloads ∙ same))
  where
    never : {A : Type 0} → is_traversal q.what ≡ true → A
    never is = (let no_ : true ≡ false = sym is ∙ ap is_traversal reloads in absurd cc)

    other : {A : Type 0} {n : NavId} {m : Mode} {a : List ℕ} → (let r : Request = requests.Reload nav in r) ≡ requests.Load n m a → A
    other e = absurd cc
