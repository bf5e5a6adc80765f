-- What rows leave of the requests: what each asks for, whom navigables were awake on as it began, and whom it asked.
use Rattle.std.proofs.Common.{◌≡◌, ◌+◌, Bool, true, false, cond, ◌&&◌, ◌||◌, ◌==◌, List, [], ◌∷◌, ◌++◌, length, map, Option, Some, None, refl, sym, ap, ◌∙◌}
use Rattle.std.specs.Prelude.{is_none}
use Rattle.std.specs.List.{list_any}
use Rattle.tab_ids.specs.declared.DocId.{DocId}
use Rattle.tab_ids.specs.declared.JobId.{JobId}
use Rattle.tab_ids.specs.declared.ReqId.{ReqId}
use Rattle.tab_ids.specs.declared.Step.{Step}
use Rattle.log_model.specs.declared.change.Change.{Change}
use Rattle.log_model.specs.declared.job.Job.{Job}
use Rattle.log_model.specs.declared.job.Order.{Order}
use Rattle.log_model.specs.declared.job.Task.{Task}
use Rattle.log_model.specs.declared.job.Task.TheVariants as tasks
use Rattle.log_model.specs.declared.job.Why.{Why}
use Rattle.log_model.specs.declared.job.Why.TheVariants as whys
use Rattle.log_model.specs.declared.made.Report.{Report}
use Rattle.log_model.specs.declared.made.Report.TheVariants as reports
use Rattle.log_model.specs.declared.outcome.Ending.{Ending}
use Rattle.log_model.specs.declared.outcome.Ending.TheVariants as endings
use Rattle.log_model.specs.declared.outcome.Outcome.{Outcome}
use Rattle.log_model.specs.declared.outcome.Outcome.TheVariants as outcomes
use Rattle.log_model.specs.declared.request.Request.{Request}
use Rattle.log_model.specs.After.{ended, new_request}
use Rattle.log_model.specs.AfterRequests.{on_asking, on_request, on_served, request_served, requests_delivered, requests_finished, requests_sent, with_asking}
use Rattle.log_model.specs.Seen.{Asked, Asking, Document, Seen, document_of}
use Rattle.seen_facts.proofs.Each.Runs.{each_asked_more, each_asked_on}
use Rattle.seen_facts.specs.Each.Runs.{EachAsked}
use Rattle.leave_facts.proofs.Stays.{IsAskedAs, RequestsStay, WasThere}

-- ---- one request

-- what is read of a request
record Reading : Type 0 where
  what : Request
  goal : Option Step
  awake_then : List DocId
  is_started : Bool
  ending : Option Ending
  asks : List Asking

abbrev reading : Asked → Reading
reading q =
    record { what = q.what; goal = q.goal; awake_then = q.awake_then; is_started = q.is_started; ending = q.ending; asks = q.asks }

-- where the same is read, it is the same
pub as_read : (p q : Asked) → reading p ≡ reading q → IsAskedAs p q
as_read p q same =
    record {
      what = ap (λ (r : Reading). r.what) same;
      goal = ap (λ (r : Reading). r.goal) same;
      awake_then = ap (λ (r : Reading). r.awake_then) same;
      started = λ is. ap (λ (r : Reading). r.is_started) same ∙ is;
      going = λ is. ap (λ (r : Reading). r.is_started && is_none r.ending) same ∙ is;
      asked = λ doc is. sym (ap (λ (r : Reading). list_any (λ (asking : Asking). asking.doc.0 == doc.0) r.asks) same) ∙ is;
    }

-- one after the other
pub as_then : (p q r : Asked) → IsAskedAs p q → IsAskedAs q r → IsAskedAs p r
as_then p q r one two =
    record {
      what = one.what ∙ two.what;
      goal = one.goal ∙ two.goal;
      awake_then = one.awake_then ∙ two.awake_then;
      started = λ is. one.started (two.started is);
      going = λ is. one.going (two.going is);
      asked = λ doc is. two.asked doc (one.asked doc is);
    }

-- it has ended
as_ended : (q : Asked) (ending : Ending) → IsAskedAs q (record q { ending = Some ending })
as_ended q ending =
    record {
      what = refl;
      goal = refl;
      awake_then = refl;
      started = λ is. is;
      going = λ is. absurd (never q.is_started is);
      asked = λ doc is. is;
    }
  where
    never : (b : Bool) → (b && false) ≡ true → ⊥
    never true e = cc
    never false e = cc

-- it asks one more
as_asking : (job : Job) (q : Asked) → IsAskedAs q (with_asking job q)
as_asking job q =
    record { what = refl; goal = refl; awake_then = refl; started = λ is. is; going = λ is. is; asked = λ doc is. more doc q.asks is }
  where
    more : (doc : DocId) (asks : List Asking) → list_any (λ (asking : Asking). asking.doc.0 == doc.0) asks ≡ true → list_any (λ (asking : Asking). asking.doc.0 == doc.0) (asks ++ record { job = job.nr; doc = job.doc; verdict = None; is_delivered = false } ∷ []) ≡ true
    more doc [] is = absurd cc
    more doc (asking ∷ asks) is = by_test (asking.doc.0 == doc.0) is (more doc asks)
      where
        by_test : (b : Bool) → (b || list_any (λ (x : Asking). x.doc.0 == doc.0) asks) ≡ true → (list_any (λ (x : Asking). x.doc.0 == doc.0) asks ≡ true → list_any (λ (x : Asking). x.doc.0 == doc.0) (asks ++ record { job = job.nr; doc = job.doc; verdict = None; is_delivered = false } ∷ []) ≡ true) → (b || list_any (λ (x : Asking). x.doc.0 == doc.0) (asks ++ record { job = job.nr; doc = job.doc; verdict = None; is_delivered = false } ∷ [])) ≡ true
        by_test true h rest = refl
        by_test false h rest = rest h

-- a question of it is answered
as_heard : (job : JobId) (f : Asking → Asking) → ((asking : Asking) → (f asking).doc ≡ asking.doc) → (q : Asked) → IsAskedAs q (on_asking job f q)
as_heard job f same q =
    record { what = refl; goal = refl; awake_then = refl; started = λ is. is; going = λ is. is; asked = λ doc is. each doc q.asks ∙ is }
  where
    each : (doc : DocId) (asks : List Asking) → list_any (λ (asking : Asking). asking.doc.0 == doc.0) (map (λ (asking : Asking). cond (asking.job.0 == job.0) (f asking) asking) asks) ≡ list_any (λ (asking : Asking). asking.doc.0 == doc.0) asks
    each doc [] = refl
    each doc (asking ∷ asks) = by_test (asking.job.0 == job.0) (each doc asks)
      where
        by_test : (b : Bool) → list_any (λ (x : Asking). x.doc.0 == doc.0) (map (λ (x : Asking). cond (x.job.0 == job.0) (f x) x) asks) ≡ list_any (λ (x : Asking). x.doc.0 == doc.0) asks → ((let x : Asking = cond b (f asking) asking in x.doc.0 == doc.0) || list_any (λ (x : Asking). x.doc.0 == doc.0) (map (λ (x : Asking). cond (x.job.0 == job.0) (f x) x) asks)) ≡ ((asking.doc.0 == doc.0) || list_any (λ (x : Asking). x.doc.0 == doc.0) asks)
        by_test true rest = ap (λ (b : Bool). ((f asking).doc.0 == doc.0) || b) rest ∙ ap (λ (x : DocId). (x.0 == doc.0) || list_any (λ (y : Asking). y.doc.0 == doc.0) asks) (same asking)
        by_test false rest = ap (λ (b : Bool). (asking.doc.0 == doc.0) || b) rest

-- an order is sent for it
as_served : (s : Seen) (job : Job) (task : Task) (q : Asked) → IsAskedAs q (request_served s job task q)
as_served s job (tasks.Activate entry epoch length index memo address) q = by_document (document_of s job.doc) refl
  where
    by_document : (o : Option Document) → document_of s job.doc ≡ o → IsAskedAs q (request_served s job (tasks.Activate entry epoch length index memo address) q)
    by_document None e = rw e (as_read q q refl)
    by_document (Some d) e = rw e (as_read q _ refl)
as_served s job tasks.Freeze q = as_read q (request_served s job tasks.Freeze q) refl
as_served s job tasks.Discard q = as_read q (request_served s job tasks.Discard q) refl
as_served s job (tasks.Ask slot cause) q = as_asking job q
as_served s job (tasks.Populate nav state address initial) q = as_read q q refl
as_served s job (tasks.Update length index) q = as_read q q refl
as_served s job (tasks.DoFragment req mode address) q = as_read q q refl

-- ---- all of them

module _ (s : Seen) where
  -- each of these that has begun was there so
  abbrev pub WereThere : List Asked → Type 0
  WereThere asked = EachAsked (λ req q. q.is_started ≡ true → WasThere s req q) asked

  -- those of the log itself
  pub were_there : WereThere s.requests
  were_there req q at started = record { old = q; found = at; same = as_read q q refl }

  -- one is changed
  pub there_on : (asked : List Asked) (req : ReqId) (f : Asked → Asked) → ((q : Asked) → IsAskedAs q (f q)) → WereThere asked → WereThere (on_request req f asked)
  there_on asked req f own were =
      each_asked_on (λ r q. q.is_started ≡ true → WasThere s r q) (λ r q. q.is_started ≡ true → WasThere s r q) asked req f (λ r q apart is. is) (λ q at is started. longer q (is ((own q).started started))) were
    where
      longer : (q : Asked) → WasThere s req q → WasThere s req (f q)
      longer q was = record { old = was.old; found = was.found; same = as_then was.old q (f q) was.same (own q) }

  -- one is accepted
  pub there_more : (asked : List Asked) (req : ReqId) (doc : Option DocId) (what : Request) → req.0 ≡ length asked + 1 → WereThere asked → WereThere (asked ++ new_request req doc what ∷ [])
  there_more asked req doc what nr were =
      each_asked_more (λ r q. q.is_started ≡ true → WasThere s r q) asked (new_request req doc what) req nr (λ never. absurd cc) were

  -- one ends
  pub there_ended : (asked : List Asked) (req : ReqId) (ending : Ending) → WereThere asked → WereThere (ended asked req ending)
  there_ended asked req ending were = there_on asked req _ (λ q. as_ended q ending) were

  -- a change of one is applied
  pub there_applied : (asked : List Asked) (req : ReqId) (change : Change) → WereThere asked → WereThere (on_request req (λ q. record q { change = Some change }) (ended asked req endings.Applied))
  there_applied asked req change were =
      there_on (ended asked req endings.Applied) req _ (λ q. as_read q _ refl) (there_ended asked req endings.Applied were)

  there_served : (why : Why) (f : Asked → Asked) (asked : List Asked) → ((q : Asked) → IsAskedAs q (f q)) → WereThere asked → WereThere (on_served why f asked)
  there_served (whys.Req req) f asked own were = there_on asked req f own were
  there_served (whys.Death death) f asked own were = were
  there_served whys.Evict f asked own were = were
  there_served whys.Start f asked own were = were

  -- an order is sent
  pub there_sent : (job : Job) (task : Task) (asked : List Asked) → WereThere asked → WereThere (requests_sent s job task asked)
  there_sent job (tasks.DoFragment req mode address) asked were = there_on asked req _ (λ q. as_read q _ refl) were
  there_sent job (tasks.Populate nav state address initial) asked were = were
  there_sent job (tasks.Update length index) asked were = were
  there_sent job (tasks.Activate entry epoch length index memo address) asked were =
      there_served job.why _ asked (as_served s job (tasks.Activate entry epoch length index memo address)) were
  there_sent job tasks.Freeze asked were = there_served job.why _ asked (as_served s job tasks.Freeze) were
  there_sent job tasks.Discard asked were = there_served job.why _ asked (as_served s job tasks.Discard) were
  there_sent job (tasks.Ask slot cause) asked were = there_served job.why _ asked (as_served s job (tasks.Ask slot cause)) were

  there_fragmented : (order : Order) (task : Task) (asked : List Asked) → order.job.task ≡ task → WereThere asked → WereThere (requests_finished s (Some order) outcomes.Fragmented asked)
  there_fragmented order (tasks.DoFragment req mode address) asked is were =
      rw is (there_on asked req _ (λ q. as_read q _ refl) were)
  there_fragmented order (tasks.Populate nav state address initial) asked is were = rw is were
  there_fragmented order (tasks.Activate entry epoch length index memo address) asked is were = rw is were
  there_fragmented order (tasks.Update length index) asked is were = rw is were
  there_fragmented order tasks.Freeze asked is were = rw is were
  there_fragmented order tasks.Discard asked is were = rw is were
  there_fragmented order (tasks.Ask slot cause) asked is were = rw is were

  -- an order is finished
  pub there_finished : (in_hand : Option Order) (outcome : Outcome) (asked : List Asked) → WereThere asked → WereThere (requests_finished s in_hand outcome asked)
  there_finished None outcome asked were = were
  there_finished (Some order) (outcomes.Asked verdict) asked were =
      there_served order.job.why _ asked (as_heard order.job.nr (λ asking. record asking { verdict = Some verdict }) (λ asking. refl)) were
  there_finished (Some order) outcomes.Fragmented asked were = there_fragmented order order.job.task asked refl were
  there_finished (Some order) (outcomes.Populated slot) asked were = were
  there_finished (Some order) outcomes.Activated asked were = were
  there_finished (Some order) outcomes.Updated asked were = were
  there_finished (Some order) outcomes.Frozen asked were = were
  there_finished (Some order) outcomes.Discarded asked were = were

  -- a report is delivered
  pub there_delivered : (report : Option Report) (asked : List Asked) → WereThere asked → WereThere (requests_delivered report asked)
  there_delivered None asked were = were
  there_delivered (Some (reports.Made made)) asked were = were
  there_delivered (Some (reports.Died death)) asked were = were
  there_delivered (Some (reports.Done job outcome made)) asked were = by_outcome outcome
    where
      by_outcome : (o : Outcome) → WereThere (requests_delivered (Some (reports.Done job o made)) asked)
      by_outcome (outcomes.Asked verdict) = there_served job.why _ asked (as_heard job.nr (λ asking. record asking { is_delivered = true }) (λ asking. refl)) were
      by_outcome outcomes.Fragmented = were
      by_outcome (outcomes.Populated slot) = were
      by_outcome outcomes.Activated = were
      by_outcome outcomes.Updated = were
      by_outcome outcomes.Frozen = were
      by_outcome outcomes.Discarded = were

-- where each is so, requests stay
pub requests_stay : (s t : Seen) → WereThere s t.requests → RequestsStay s t
requests_stay s t were = record { each = were }
