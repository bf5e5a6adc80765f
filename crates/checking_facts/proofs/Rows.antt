-- What of the requests in their checks is carried goes on to hold over each row.
use Rattle.std.proofs.Common.{◌≡◌, ℕ, ◌-◌, Bool, true, false, not, cond, ◌&&◌, ◌||◌, ◌==◌, List, [], ◌∷◌, ◌++◌, length, Option, Some, None, refl, sym, ap, ◌∙◌, subst, arith}
use Rattle.std.specs.Prelude.{is_none, slice_get}
use Rattle.std.specs.List.{list_all}
use Rattle.std.proofs.lemmas.Bool.{and_parts}
use Rattle.std.proofs.lemmas.Bool.Decides.{nat_tests}
use Rattle.tab_ids.specs.declared.DocId.{DocId}
use Rattle.tab_ids.specs.declared.ReqId.{ReqId}
use Rattle.tab_ids.specs.declared.Step.{Step}
use Rattle.log_model.specs.declared.change.Change.{Change}
use Rattle.log_model.specs.declared.job.Job.{Job}
use Rattle.log_model.specs.declared.job.Order.{Order}
use Rattle.log_model.specs.declared.job.Task.{Task}
use Rattle.log_model.specs.declared.job.Task.TheVariants as tasks
use Rattle.log_model.specs.declared.made.Report.{Report}
use Rattle.log_model.specs.declared.made.Report.TheVariants as reports
use Rattle.log_model.specs.declared.outcome.Ending.{Ending}
use Rattle.log_model.specs.declared.outcome.Ending.TheVariants as endings
use Rattle.log_model.specs.declared.outcome.Outcome.{Outcome}
use Rattle.log_model.specs.declared.outcome.Outcome.TheVariants as outcomes
use Rattle.log_model.specs.declared.request.Request.{Request}
use Rattle.log_model.specs.declared.row_kind.Actor.{Actor}
use Rattle.log_model.specs.declared.row_kind.LogRow.{LogRow}
use Rattle.log_model.specs.declared.row_kind.RowKind.{RowKind}
use Rattle.log_model.specs.declared.row_kind.RowKind.TheVariants as rows
use Rattle.log_model.specs.After.{after, ended, new_request}
use Rattle.log_model.specs.AfterPlaces.{sleepers_with}
use Rattle.log_model.specs.AfterRequests.{entries_taken, is_running, on_request, request_begun, request_served, requests_delivered, requests_finished, requests_sent, with_asking}
use Rattle.log_model.specs.Places.{has_passed, is_gone, is_reload, is_settled_asking, is_traversal, is_under_way, may_leave}
use Rattle.log_model.specs.Queue.{is_step_under_way}
use Rattle.log_model.specs.Seen.{Asked, Document, Seen, desk_of, document_of, request_in, request_of}
use Rattle.seen_facts.proofs.Asked.Passed.{IsNoOpening, gone_stays}
use Rattle.seen_facts.proofs.Each.Runs.{each_asked_more}
use Rattle.unasked_dues.specs.Checking.{AreNumbered, IsChecking, NoStepChecks}
use Rattle.checking_facts.proofs.Grown.{AllGo, Deeds, Goes, all_on, all_same, all_served, begun_goes, ended_goes, go_alone, go_begun, go_checks, go_numbered, go_others, heard_goes, inside_goes, looks_of, outside_goes, req_same, unread_goes}
use Rattle.checking_facts.proofs.Spent.{row_spent}
use Rattle.checking_facts.proofs.States.{accepted_states, begun_states, row_states}
use Rattle.checking_facts.specs.Checks.{AreInCheck, BeginsApart, BeginsOff, GoesDuly, IsNextOutside, SendsDuly, just}
use Rattle.checking_facts.specs.States.{LeavesStates}

-- none begins
abbrev pub no_one : ReqId → Bool
no_one req = false

-- a test that holds at its end
or_true : (b : Bool) → (b || true) ≡ true
or_true true = refl
or_true false = refl

-- ---- orders

module _ (checking : ReqId → Bool) (s : Seen) where
  -- these requests are those of before
  abbrev Kept : List Asked → Type 0
  Kept asked = AllGo checking no_one (is_gone s) s.requests asked

  -- and so is one
  abbrev Stays : ReqId → Asked → Asked → Type 0
  Stays req p q = Goes checking no_one (is_gone s) req p q

  -- an order that shows a document, for a request that isn't in its check
  shown_goes : (job : Job) (task : Task) (req : ReqId) (q : Asked) → checking req ≡ false → looks_of (record (request_served s job task q) { moved = []; activated = [] }) ≡ looks_of (record q { moved = []; activated = [] }) → Stays req q (request_served s job task q)
  shown_goes job task req q off same =
      outside_goes checking no_one (is_gone s) req q (request_served s job task q) off (ap (λ x. x.nr) same) (ap (λ x. x.what) same) (ap (λ x. x.state) same) (λ is. ap (λ x. x.is_started) same ∙ is) (λ is. sym (ap (λ x. x.is_under_way) same) ∙ is)
      (λ is. ap (λ x. list_all (is_settled_asking (is_gone s)) x.asks && may_leave (record q { prompted = x.prompted; answered = x.answered })) same ∙ is)

  -- one that puts documents to sleep, where nobody is with it for a request in its check
  slept_goes : (job : Job) (req : ReqId) (q : Asked) → (checking req ≡ true → sleepers_with s job.doc ≡ []) → Stays req q (request_served s job tasks.Freeze q)
  slept_goes job req q none = by_check (checking req) refl
    where
      by_check : (b : Bool) → checking req ≡ b → Stays req q (request_served s job tasks.Freeze q)
      by_check true e =
          inside_goes checking no_one (is_gone s) req q (request_served s job tasks.Freeze q) e refl refl refl (λ is. is) (λ is. is) (ap (λ l. let d : Deeds = record { moved = l ++ q.moved; activated = q.activated; change = q.change; fragment = q.fragment } in d) (none e))
      by_check false e =
          outside_goes checking no_one (is_gone s) req q (request_served s job tasks.Freeze q) e refl refl refl (λ is. is) (λ is. is) (λ is. is)

  -- each order
  sent_all : (job : Job) (task : Task) → SendsDuly checking s job task → Kept (requests_sent s job task s.requests)
  sent_all job (tasks.DoFragment req mode address) duly =
      all_on checking no_one (is_gone s) s.requests s.requests req _ (λ q. outside_goes checking no_one (is_gone s) req q (record q { fragment = Some job.doc }) duly refl refl refl (λ is. is) (λ is. is) (λ is. is)) (all_same checking no_one (is_gone s) s.requests)
  sent_all job (tasks.Populate nav state address initial) duly = all_same checking no_one (is_gone s) s.requests
  sent_all job (tasks.Update length index) duly = all_same checking no_one (is_gone s) s.requests
  sent_all job (tasks.Activate entry epoch length index memo address) other =
      all_served checking no_one (is_gone s) s.requests job.why _ (λ req why q. shown_goes job (tasks.Activate entry epoch length index memo address) req q (other req why) (by_document (document_of s job.doc) refl q))
    where
      by_document : (o : Option Document) → document_of s job.doc ≡ o → (q : Asked) → looks_of (record (request_served s job (tasks.Activate entry epoch length index memo address) q) { moved = []; activated = [] }) ≡ looks_of (record q { moved = []; activated = [] })
      by_document None at q = rw at refl
      by_document (Some d) at q = rw at refl
  sent_all job tasks.Freeze none =
      all_served checking no_one (is_gone s) s.requests job.why _ (λ req why q. slept_goes job req q (none req why))
  sent_all job tasks.Discard none =
      all_served checking no_one (is_gone s) s.requests job.why _ (λ req why q. slept_goes job req q (none req why))
  sent_all job (tasks.Ask slot cause) is =
      all_served checking no_one (is_gone s) s.requests job.why _ (λ req why q. inside_goes checking no_one (is_gone s) req q (with_asking job q) (is req why) refl refl refl (λ is. is) (λ on. on) refl)

  -- one that is finished
  finished_all : (hand : Option Order) (outcome : Outcome) → Kept (requests_finished s hand outcome s.requests)
  finished_all None outcome = all_same checking no_one (is_gone s) s.requests
  finished_all (Some order) (outcomes.Asked verdict) =
      all_served checking no_one (is_gone s) s.requests order.job.why _ (λ req why q. heard_goes checking no_one (is_gone s) req order.job.nr (λ asking. record asking { verdict = Some verdict }) (λ asking is. is) q)
  finished_all (Some order) outcomes.Fragmented = by_task order.job.task refl
    where
      by_task : (task : Task) → order.job.task ≡ task → Kept (requests_finished s (Some order) outcomes.Fragmented s.requests)
      by_task (tasks.DoFragment req mode address) is =
          rw is (all_on checking no_one (is_gone s) s.requests s.requests req _ (λ q. unread_goes checking no_one (is_gone s) req q (record q { is_not_found = not (is_running s order.job.doc) }) refl) (all_same checking no_one (is_gone s) s.requests))
      by_task (tasks.Populate nav state address initial) is = rw is (all_same checking no_one (is_gone s) s.requests)
      by_task (tasks.Activate entry epoch length index memo address) is =
          rw is (all_same checking no_one (is_gone s) s.requests)
      by_task (tasks.Update length index) is = rw is (all_same checking no_one (is_gone s) s.requests)
      by_task tasks.Freeze is = rw is (all_same checking no_one (is_gone s) s.requests)
      by_task tasks.Discard is = rw is (all_same checking no_one (is_gone s) s.requests)
      by_task (tasks.Ask slot cause) is = rw is (all_same checking no_one (is_gone s) s.requests)
  finished_all (Some order) (outcomes.Populated slot) = all_same checking no_one (is_gone s) s.requests
  finished_all (Some order) outcomes.Activated = all_same checking no_one (is_gone s) s.requests
  finished_all (Some order) outcomes.Updated = all_same checking no_one (is_gone s) s.requests
  finished_all (Some order) outcomes.Frozen = all_same checking no_one (is_gone s) s.requests
  finished_all (Some order) outcomes.Discarded = all_same checking no_one (is_gone s) s.requests

  -- a report that is delivered
  delivered_all : (report : Option Report) → Kept (requests_delivered report s.requests)
  delivered_all None = all_same checking no_one (is_gone s) s.requests
  delivered_all (Some (reports.Made made)) = all_same checking no_one (is_gone s) s.requests
  delivered_all (Some (reports.Died death)) = all_same checking no_one (is_gone s) s.requests
  delivered_all (Some (reports.Done job outcome made)) = by_outcome outcome
    where
      by_outcome : (o : Outcome) → Kept (requests_delivered (Some (reports.Done job o made)) s.requests)
      by_outcome (outcomes.Asked verdict) =
          all_served checking no_one (is_gone s) s.requests job.why _ (λ req why q. heard_goes checking no_one (is_gone s) req job.nr (λ asking. record asking { is_delivered = true }) (λ asking is. refl) q)
      by_outcome (outcomes.Populated slot) = all_same checking no_one (is_gone s) s.requests
      by_outcome outcomes.Activated = all_same checking no_one (is_gone s) s.requests
      by_outcome outcomes.Updated = all_same checking no_one (is_gone s) s.requests
      by_outcome outcomes.Frozen = all_same checking no_one (is_gone s) s.requests
      by_outcome outcomes.Discarded = all_same checking no_one (is_gone s) s.requests
      by_outcome outcomes.Fragmented = all_same checking no_one (is_gone s) s.requests

  -- ---- changes of one request

  -- an end
  ended_all : (req : ReqId) (ending : Ending) → Kept (ended s.requests req ending)
  ended_all req ending =
      all_on checking no_one (is_gone s) s.requests s.requests req _ (ended_goes checking no_one (is_gone s) req ending) (all_same checking no_one (is_gone s) s.requests)

  -- a change, of a request that isn't in its check
  applied_all : (req : ReqId) (change : Change) → checking req ≡ false → Kept (on_request req (λ q. record q { took = entries_taken s.history change }) (on_request req (λ q. record q { change = Some change }) (ended s.requests req endings.Applied)))
  applied_all req change off =
      all_on checking no_one (is_gone s) s.requests (on_request req (λ q. record q { change = Some change }) (ended s.requests req endings.Applied)) req _ (λ q. unread_goes checking no_one (is_gone s) req q (record q { took = entries_taken s.history change }) refl)
      (all_on checking no_one (is_gone s) s.requests (ended s.requests req endings.Applied) req _ (λ q. outside_goes checking no_one (is_gone s) req q (record q { change = Some change }) off refl refl refl (λ is. is) (λ is. is) (λ is. is))
      (ended_all req endings.Applied))

  -- the user's answer
  lets_go : (q : Asked) (stay : Bool) → stay ≡ false → may_leave (record q { answered = Some stay }) ≡ true
  lets_go q stay leave = rw leave (by_first (is_none q.prompted))
    where
      by_first : (b : Bool) → (b || true) ≡ true
      by_first true = refl
      by_first false = refl

  -- of a request in its check, or to let the page go
  answered_goes : (req : ReqId) (stay : Bool) → (checking req ≡ false → stay ≡ false) → (q : Asked) → Stays req q (record q { answered = Some stay })
  answered_goes req stay leave q = by_check (checking req) refl
    where
      by_check : (b : Bool) → checking req ≡ b → Stays req q (record q { answered = Some stay })
      by_check true e =
          inside_goes checking no_one (is_gone s) req q (record q { answered = Some stay }) e refl refl refl (λ is. is) (λ is. is) refl
      by_check false e =
          outside_goes checking no_one (is_gone s) req q (record q { answered = Some stay }) e refl refl refl (λ is. is) (λ is. is) (λ is. let parts = and_parts (list_all (is_settled_asking (is_gone s)) q.asks) (may_leave q) is in rw (parts.0) (lets_go q stay (leave e)))

-- ---- rows

-- a row of which no request is accepted, and none begins
abbrev IsPlain : RowKind → Type 0
IsPlain (rows.Opened entry state doc proc slot address) = ⊥
IsPlain (rows.Accepted req doc what) = ⊥
IsPlain (rows.Started req goal) = ⊥
IsPlain _ = Unit {0}

module _ (checking : ReqId → Bool) (s : Seen) (row : LogRow) where
  -- what such a row leaves of the requests
  plain_all : (kind : RowKind) → row.row ≡ kind → IsPlain kind → GoesDuly checking s kind → AllGo checking no_one (is_gone s) s.requests (after s row).requests
  plain_all (rows.Opened entry state doc proc slot address) e never duly = absurd never
  plain_all (rows.Accepted r doc what) e never duly = absurd never
  plain_all (rows.Started r goal) e never duly = absurd never
  plain_all (rows.Applied r change) e is off = rw e (applied_all checking s r change off)
  plain_all (rows.Refused r reason) e is duly = rw e (ended_all checking s r (endings.Refused reason))
  plain_all (rows.Dropped r cause) e is duly = rw e (ended_all checking s r (endings.Dropped cause))
  plain_all (rows.Prompted r doc) e is on =
      rw e (all_on checking no_one (is_gone s) s.requests s.requests r _ (λ q. inside_goes checking no_one (is_gone s) r q (record q { prompted = Some doc }) on refl refl refl (λ is. is) (λ x. x) refl) (all_same checking no_one (is_gone s) s.requests))
  plain_all (rows.Answered r stay) e is leave =
      rw e (all_on checking no_one (is_gone s) s.requests s.requests r _ (answered_goes checking s r stay leave) (all_same checking no_one (is_gone s) s.requests))
  plain_all (rows.Sent job) e is duly = rw e (sent_all checking s job job.task duly)
  plain_all (rows.Taken proc job live dirty) e is duly = rw e (all_same checking no_one (is_gone s) s.requests)
  plain_all (rows.Finished proc job outcome) e is duly = rw e (finished_all checking s (desk_of s proc).in_hand outcome)
  plain_all (rows.Made proc made) e is duly =
      rw e (all_on checking no_one (is_gone s) s.requests s.requests made.req _ (λ q. unread_goes checking no_one (is_gone s) made.req q (record q { made = Some made }) refl) (all_same checking no_one (is_gone s) s.requests))
  plain_all (rows.Delivered proc) e is duly = rw e (delivered_all checking s (slice_get (desk_of s proc).reports 0))
  plain_all (rows.Killed proc death) e is duly = rw e (all_same checking no_one (is_gone s) s.requests)
  plain_all (rows.Evicted state) e is duly = rw e (all_same checking no_one (is_gone s) s.requests)

  -- such a row
  plain_checks : (kind : RowKind) → row.row ≡ kind → IsPlain kind → IsNoOpening row.row → GoesDuly checking s kind → LeavesStates checking s row.row → AreInCheck checking s → AreInCheck checking (after s row)
  plain_checks kind e plain opens duly leaves are =
      let all = plain_all kind e plain duly in
      record {
        numbered = go_numbered checking no_one s (after s row) all are.numbered;
        others = go_others checking no_one s (after s row) all (gone_stays s row opens) are.others;
        begun = go_begun checking no_one s (after s row) all are.begun;
        checks = go_checks checking no_one s (after s row) all are.checks;
        alone = go_alone checking no_one s (after s row) all (λ req by q r at there runs runs_ goes goes_ on begins. absurd cc) are.alone;
        states = row_states checking s row no_one (λ req. refl) all leaves are.states;
        spent = row_spent checking s row leaves are.spent;
      }

module _ (checking : ReqId → Bool) (s : Seen) (event : ℕ) (actor : Actor) where
  -- what the log has come to after a row of the kind
  abbrev next : RowKind → Seen
  next kind = after s (record { event = event; actor = actor; row = kind })

  -- ---- a request is accepted

  -- it is none in its check
  accepted_checks : (req : ReqId) (doc : Option DocId) (what : Request) → IsNextOutside checking s req → AreInCheck checking s → AreInCheck checking (next (rows.Accepted req doc what))
  accepted_checks req doc what is are =
      record {
        numbered = each_asked_more (λ r q. q.nr ≡ r) s.requests new req is.next refl are.numbered;
        others = each_asked_more (λ r q. checking r ≡ false → has_passed s q ≡ true) s.requests new req is.next (λ off. refl) are.others;
        begun = each_asked_more (λ r q. checking r ≡ true → q.is_started ≡ true) s.requests new req is.next (λ on. let never : true ≡ false = sym on ∙ is.outside in absurd cc) are.begun;
        checks = each_asked_more (λ r q. checking r ≡ true → IsChecking r q) s.requests new req is.next (λ on. let never : true ≡ false = sym on ∙ is.outside in absurd cc) are.checks;
        states = accepted_states checking s event actor req doc what is.next are.states;
        spent = row_spent checking s (record { event = event; actor = actor; row = rows.Accepted req doc what }) tt are.spent;
        alone = λ r by p q at there. each_asked_more (λ x y. (z : ReqId) (w : Asked) → request_in more z ≡ Some w → Apart x y w) s.requests new req is.next (λ z w found. new_apart req w) (λ x y here. each_asked_more (λ z w. Apart x y w) s.requests new req is.next (apart_new x y) (λ z w found. are.alone x z y w here found)) r p at by q there;
      }
    where
      new : Asked
      new = new_request req doc what

      more : List Asked
      more = s.requests ++ new ∷ []

      Apart : ReqId → Asked → Asked → Type 0
      Apart x y w =
          is_under_way y ≡ true → is_under_way w ≡ true → is_traversal y.what ≡ true → is_traversal w.what ≡ true → checking x ≡ true → y.nr ≡ w.nr

      new_apart : (x : ReqId) (w : Asked) → Apart x new w
      new_apart x w never runs goes goes_ on = absurd cc

      apart_new : (x : ReqId) (y : Asked) → Apart x y new
      apart_new x y runs never goes goes_ on = absurd cc

  -- ---- a request begins

  module _ (req : ReqId) (goal : Option Step) where
    -- what the log has come to then
    abbrev pub begun : Seen
    begun = next (rows.Started req goal)

    -- it is this one
    itself : just req req ≡ true
    itself = grind (arith, nat_tests)

    -- it alone begins
    pub begun_all : AllGo checking (just req) (is_gone s) s.requests begun.requests
    begun_all =
        all_on checking (just req) (is_gone s) s.requests (on_request req (λ q. record q { is_started = true; goal = goal }) s.requests) req (request_begun s) (λ q. begun_goes checking (just req) (is_gone s) req q (request_begun s q) itself refl refl (λ is. is) (λ is. is) refl)
        (all_on checking (just req) (is_gone s) s.requests s.requests req _ (λ q. begun_goes checking (just req) (is_gone s) req q (record q { is_started = true; goal = goal }) itself refl refl (λ is. refl) (λ is. is) refl) (all_same checking (just req) (is_gone s) s.requests))

    -- and is apart
    begun_checks : BeginsApart checking s req → LeavesStates checking s (rows.Started req goal) → AreInCheck checking s → AreInCheck checking begun
    begun_checks apart leaves are =
        record {
          numbered = numbered;
          others = go_others checking (just req) s begun begun_all (λ doc gone. gone) are.others;
          begun = go_begun checking (just req) s begun begun_all are.begun;
          checks = go_checks checking (just req) s begun begun_all are.checks;
          alone = go_alone checking (just req) s begun begun_all begins_apart are.alone;
          states = begun_states checking s event actor req goal begun_all leaves.0 are.states;
          spent = row_spent checking s (record { event = event; actor = actor; row = rows.Started req goal }) leaves are.spent;
        }
      where
        numbered : AreNumbered begun
        numbered = go_numbered checking (just req) s begun begun_all are.numbered

        begins_apart : (x by : ReqId) (q r : Asked) → request_of begun x ≡ Some q → request_of begun by ≡ Some r → is_under_way q ≡ true → is_under_way r ≡ true → is_traversal q.what ≡ true → is_traversal r.what ≡ true → checking x ≡ true → (just req x || just req by) ≡ true → q.nr ≡ r.nr
        begins_apart x by q r at there runs runs_ goes goes_ on some =
            by_begun (just req x) (just req by) refl refl some
          where
            by_begun : (b c : Bool) → just req x ≡ b → just req by ≡ c → (b || c) ≡ true → q.nr ≡ r.nr
            by_begun true true e f is =
                numbered x q at ∙ req_same x req e ∙ sym (req_same by req f) ∙ sym (numbered by r there)
            by_begun true false e f is =
                let p = begun_all x q at in
                let o = begun_all by r there in
                let it = req_same x req e in
                let here : request_of s req ≡ Some p.0 = ap (λ (n : ReqId). request_of s n) (sym it) ∙ p.1 in
                let off : (checking req || checking by) ≡ false = apart by p.0 o.0 here o.1 f (ap is_traversal (sym p.2.what) ∙ goes) (o.2.runs f runs_) (ap is_traversal (sym o.2.what) ∙ goes_) in
                let on_ : checking req ≡ true = ap checking (sym it) ∙ on in
                let never : true ≡ false = sym (ap (λ b. b || checking by) on_) ∙ off in
                absurd cc
            by_begun false true e f is =
                let p = begun_all x q at in
                let o = begun_all by r there in
                let it = req_same by req f in
                let here : request_of s req ≡ Some o.0 = ap (λ (n : ReqId). request_of s n) (sym it) ∙ o.1 in
                let off : (checking req || checking x) ≡ false = apart x o.0 p.0 here p.1 e (ap is_traversal (sym o.2.what) ∙ goes_) (p.2.runs e runs) (ap is_traversal (sym p.2.what) ∙ goes) in
                let never : true ≡ false = sym (or_true (checking req)) ∙ ap (λ b. checking req || b) (sym on) ∙ off in
                absurd cc
            by_begun false false e f never = absurd cc

-- ---- each row

-- over each row the requests in their checks stay as they are, and the others have passed
pub row_checks : (checking : ReqId → Bool) (s : Seen) (row : LogRow) → GoesDuly checking s row.row → LeavesStates checking s row.row → AreInCheck checking s → AreInCheck checking (after s row)
row_checks checking s row duly leaves are = by_kind row.row refl duly
  where
    by_kind : (kind : RowKind) → row.row ≡ kind → GoesDuly checking s kind → AreInCheck checking (after s row)
    by_kind (rows.Opened entry state doc proc slot address) e never = absurd never
    by_kind (rows.Accepted r doc what) e is =
        subst (λ (kind : RowKind). AreInCheck checking (after s (record { event = row.event; actor = row.actor; row = kind }))) (sym e) (accepted_checks checking s row.event row.actor r doc what is are)
    by_kind (rows.Started r goal) e is =
        subst (λ (kind : RowKind). AreInCheck checking (after s (record { event = row.event; actor = row.actor; row = kind }))) (sym e) (begun_checks checking s row.event row.actor r goal is (subst (λ (kind : RowKind). LeavesStates checking s kind) e leaves) are)
    by_kind (rows.Applied r change) e is =
        plain_checks checking s row (rows.Applied r change) e tt (rw e tt) is leaves are
    by_kind (rows.Refused r reason) e is =
        plain_checks checking s row (rows.Refused r reason) e tt (rw e tt) is leaves are
    by_kind (rows.Dropped r cause) e is =
        plain_checks checking s row (rows.Dropped r cause) e tt (rw e tt) is leaves are
    by_kind (rows.Prompted r doc) e is = plain_checks checking s row (rows.Prompted r doc) e tt (rw e tt) is leaves are
    by_kind (rows.Answered r stay) e is = plain_checks checking s row (rows.Answered r stay) e tt (rw e tt) is leaves are
    by_kind (rows.Sent job) e is = plain_checks checking s row (rows.Sent job) e tt (rw e tt) is leaves are
    by_kind (rows.Taken proc job live dirty) e is =
        plain_checks checking s row (rows.Taken proc job live dirty) e tt (rw e tt) is leaves are
    by_kind (rows.Finished proc job outcome) e is =
        plain_checks checking s row (rows.Finished proc job outcome) e tt (rw e tt) is leaves are
    by_kind (rows.Made proc made) e is = plain_checks checking s row (rows.Made proc made) e tt (rw e tt) is leaves are
    by_kind (rows.Delivered proc) e is = plain_checks checking s row (rows.Delivered proc) e tt (rw e tt) is leaves are
    by_kind (rows.Killed proc death) e is = plain_checks checking s row (rows.Killed proc death) e tt (rw e tt) is leaves are
    by_kind (rows.Evicted state) e is = plain_checks checking s row (rows.Evicted state) e tt (rw e tt) is leaves are

-- ---- steps

-- no step under way is in its check, where none in its check begins
go_steps : (checking begins : ReqId → Bool) (s t : Seen) → ((req : ReqId) → checking req ≡ true → begins req ≡ false) → AllGo checking begins (is_gone s) s.requests t.requests → NoStepChecks checking s → NoStepChecks checking t
go_steps checking begins s t none all steps req q at on = by_step (is_step_under_way q) refl
  where
    by_step : (b : Bool) → is_step_under_way q ≡ b → b ≡ false
    by_step false e = refl
    by_step true e =
        let p = all req q at in
        let parts = and_parts (is_under_way q) (is_traversal q.what || is_reload q.what) e in
        let runs : is_under_way p.0 ≡ true = p.2.runs (none req on) parts.0 in
        let steps_ : (is_traversal p.0.what || is_reload p.0.what) ≡ true = ap (λ (w : Request). is_traversal w || is_reload w) (sym p.2.what) ∙ parts.1 in
        let was : is_step_under_way p.0 ≡ true = rw (runs, steps_) refl in
        sym was ∙ steps req p.0 p.1 on

-- so over each row as which none in its check begins
pub row_steps : (checking : ReqId → Bool) (s : Seen) (row : LogRow) → BeginsOff checking row.row → GoesDuly checking s row.row → NoStepChecks checking s → NoStepChecks checking (after s row)
row_steps checking s row off duly steps = by_kind row.row refl off duly
  where
    plain : (kind : RowKind) → row.row ≡ kind → IsPlain kind → GoesDuly checking s kind → NoStepChecks checking (after s row)
    plain kind e is goes = go_steps checking no_one s (after s row) (λ req on. refl) (plain_all checking s row kind e is goes) steps

    by_kind : (kind : RowKind) → row.row ≡ kind → BeginsOff checking kind → GoesDuly checking s kind → NoStepChecks checking (after s row)
    by_kind (rows.Opened entry state doc proc slot address) e begins never = absurd never
    by_kind (rows.Accepted r doc what) e begins is =
        subst (λ (kind : RowKind). NoStepChecks checking (after s (record { event = row.event; actor = row.actor; row = kind }))) (sym e)
        (each_asked_more (λ x q. checking x ≡ true → is_step_under_way q ≡ false) s.requests (new_request r doc what) r is.next (λ on. refl) steps)
    by_kind (rows.Started r goal) e begins is =
        subst (λ (kind : RowKind). NoStepChecks checking (after s (record { event = row.event; actor = row.actor; row = kind }))) (sym e)
        (go_steps checking (just r) s (begun checking s row.event row.actor r goal) none (begun_all checking s row.event row.actor r goal) steps)
      where
        by_own : (req : ReqId) → checking req ≡ true → (b : Bool) → just r req ≡ b → b ≡ false
        by_own req on false f = refl
        by_own req on true f = let never : false ≡ true = sym begins ∙ ap checking (sym (req_same req r f)) ∙ on in absurd cc

        none : (req : ReqId) → checking req ≡ true → just r req ≡ false
        none req on = by_own req on (just r req) refl
    by_kind (rows.Applied r change) e begins is = plain (rows.Applied r change) e tt is
    by_kind (rows.Refused r reason) e begins is = plain (rows.Refused r reason) e tt is
    by_kind (rows.Dropped r cause) e begins is = plain (rows.Dropped r cause) e tt is
    by_kind (rows.Prompted r doc) e begins is = plain (rows.Prompted r doc) e tt is
    by_kind (rows.Answered r stay) e begins is = plain (rows.Answered r stay) e tt is
    by_kind (rows.Sent job) e begins is = plain (rows.Sent job) e tt is
    by_kind (rows.Taken proc job live dirty) e begins is = plain (rows.Taken proc job live dirty) e tt is
    by_kind (rows.Finished proc job outcome) e begins is = plain (rows.Finished proc job outcome) e tt is
    by_kind (rows.Made proc made) e begins is = plain (rows.Made proc made) e tt is
    by_kind (rows.Delivered proc) e begins is = plain (rows.Delivered proc) e tt is
    by_kind (rows.Killed proc death) e begins is = plain (rows.Killed proc death) e tt is
    by_kind (rows.Evicted state) e begins is = plain (rows.Evicted state) e tt is

-- ---- a log without requests

-- where no request was accepted yet, and one document state was numbered
pub none_checks : (checking : ReqId → Bool) (s : Seen) → s.requests ≡ [] → s.states ≡ 1 → AreInCheck checking s
none_checks checking s none one =
    record {
      numbered = λ req q at. never req q at;
      others = λ req q at off. never req q at;
      begun = λ req q at on. never req q at;
      checks = λ req q at on. never req q at;
      alone = λ req by q r at there runs runs_ goes goes_ on. never req q at;
      states = λ state held. never held.req held.q held.at;
      spent = rw (none, one) (omega arith);
    }
  where
    no_request : (b : Bool) (n : ℕ) (q : Asked) → (let o : Option Asked = cond b None (slice_get [] n) in o) ≡ Some q → ⊥
    no_request true n q at = absurd cc
    no_request false n q at = absurd cc

    never : {A : Type 0} (req : ReqId) (q : Asked) → request_of s req ≡ Some q → A
    never req q at =
        absurd (no_request (req.0 == 0) (req.0 - 1) q (ap (λ (l : List Asked). request_in l req) (sym none) ∙ at))
