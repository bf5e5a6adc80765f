-- The user is asked for the sake of a document that wanted it, from row to row.
use Rattle.std.proofs.Common.{◌≡◌, ◌+◌, Bool, true, false, cond, not, ◌&&◌, ◌||◌, ◌==◌, List, [], ◌∷◌, length, slice_get, Option, Some, None, refl, sym, ap, ◌∙◌, subst}
use Rattle.std.specs.Prelude.{is_none, is_some}
use Rattle.std.proofs.lemmas.Bool.{or_right}
use Rattle.tab_ids.specs.declared.DocId.{DocId}
use Rattle.tab_ids.specs.declared.JobId.{JobId}
use Rattle.tab_ids.specs.declared.ReqId.{ReqId}
use Rattle.log_model.specs.declared.handler.Verdict.{Verdict}
use Rattle.log_model.specs.declared.job.Job.{Job}
use Rattle.log_model.specs.declared.job.Order.{Order}
use Rattle.log_model.specs.declared.job.Task.{Task}
use Rattle.log_model.specs.declared.job.Task.TheVariants as tasks
use Rattle.log_model.specs.declared.job.Why.{Why}
use Rattle.log_model.specs.declared.job.Why.TheVariants as whys
use Rattle.log_model.specs.declared.made.Report.{Report}
use Rattle.log_model.specs.declared.made.Report.TheVariants as reports
use Rattle.log_model.specs.declared.outcome.Outcome.{Outcome}
use Rattle.log_model.specs.declared.outcome.Outcome.TheVariants as outcomes
use Rattle.log_model.specs.declared.row_kind.LogRow.{LogRow}
use Rattle.log_model.specs.declared.row_kind.RowKind.{RowKind}
use Rattle.log_model.specs.declared.row_kind.RowKind.TheVariants as rows
use Rattle.log_model.specs.After.{after, new_request}
use Rattle.log_model.specs.AfterRequests.{is_running, on_asking, on_served, requests_delivered, requests_finished, requests_sent, with_asking}
use Rattle.log_model.specs.Equal.{holds}
use Rattle.log_model.specs.Formed.{awaits_answer}
use Rattle.log_model.specs.Outcomes.{is_outcome_of}
use Rattle.log_model.specs.Seen.{Asked, Asking, Seen, desk_of, request_in, request_of}
use Rattle.seen_facts.proofs.Each.Courses.{was_asked}
use Rattle.seen_facts.proofs.Each.Runs.{each_asked_more, each_asked_on}
use Rattle.seen_facts.proofs.Request.Readers.{SameReads, on_read}
use Rattle.seen_facts.specs.Each.Runs.{EachAsked}
use Rattle.check_facts.proofs.Checkings.{wants}
use Rattle.check_facts.proofs.Rows.{Plain, applied_plain, dropped_plain, plain_of, refused_plain, sent_plain, started_plain}
use Rattle.check_facts.specs.Rows.{IsNoQuestion}
use Rattle.asking_facts.proofs.Waiting.{any_more, set_on}
use Rattle.asking_facts.proofs.WaitingRows.{some_same}
use Rattle.asking_facts.specs.Prompting.{AllWanted, AnswersNew, PromptsWanted, WasWanted, has_wanted}
use Rattle.asking_facts.specs.Waiting.{EndsSo, HandWaits, OrderWaits, QuestionsWait, SaysOf}

-- of one request
abbrev IsWanted : ReqId → Asked → Type 0
IsWanted r q = (doc : DocId) → q.prompted ≡ Some doc → has_wanted doc q.asks ≡ true

-- ---- where its questions and its prompt stay

same_wanted : (old new : List Asked) → SameReads plain_of old new → EachAsked IsWanted old → EachAsked IsWanted new
same_wanted old new same all r q at doc up =
    let was = was_asked plain_of old new same r q at in
    subst (λ (asks : List Asking). has_wanted doc asks ≡ true) (ap (λ (x : Plain). x.asks) was.2) (all r was.0 was.1 doc (ap (λ (x : Plain). x.prompted) was.2 ∙ up))

-- ---- a question, an answer, and its delivery

pub served_each : (F : ReqId → Asked → Type 0) (asked : List Asked) (why : Why) (f : Asked → Asked) → ((req : ReqId) (q : Asked) → why ≡ whys.Req req → request_in asked req ≡ Some q → F req q → F req (f q)) → EachAsked F asked → EachAsked F (on_served why f asked)
served_each F asked (whys.Req req) f own all =
    each_asked_on F F asked req f (λ r q apart is. is) (λ q at is. own req q refl at is) all
served_each F asked (whys.Death death) f own all = all
served_each F asked whys.Evict f own all = all
served_each F asked whys.Start f own all = all

-- an answer to a question that had none
answer_wanted : (doc : DocId) (job : JobId) (verdict : Verdict) (asks : List Asking) → SaysOf job None asks → has_wanted doc asks ≡ true → has_wanted doc (set_on job (λ (asking : Asking). record asking { verdict = Some verdict }) asks) ≡ true
answer_wanted doc job verdict [] says is = cc
answer_wanted doc job verdict (asking ∷ asks) says is =
    by_job (asking.job.0 == job.0) refl (answer_wanted doc job verdict asks says.1)
  where
    said : Asking
    said = record asking { verdict = Some verdict }

    then_ : List Asking
    then_ = set_on job (λ (x : Asking). record x { verdict = Some verdict }) asks

    unwanted : (b : Bool) (o : Option Verdict) → o ≡ None → ((b && holds wants o) || has_wanted doc asks) ≡ true → has_wanted doc asks ≡ true
    unwanted true None e f = f
    unwanted false None e f = f
    unwanted b (Some v) e f = absurd cc

    by_test : (b : Bool) → (b || has_wanted doc asks) ≡ true → (has_wanted doc asks ≡ true → has_wanted doc then_ ≡ true) → (b || has_wanted doc then_) ≡ true
    by_test true f rest = refl
    by_test false f rest = rest f

    by_job : (b : Bool) → (asking.job.0 == job.0) ≡ b → (has_wanted doc asks ≡ true → has_wanted doc then_ ≡ true) → has_wanted doc (cond b said asking ∷ then_) ≡ true
    by_job true e rest =
        or_right (asking.doc.0 == doc.0 && holds wants (Some verdict)) (has_wanted doc then_) (rest (unwanted (asking.doc.0 == doc.0) asking.verdict (says.0 e) is))
    by_job false e rest = by_test (asking.doc.0 == doc.0 && holds wants asking.verdict) is rest

-- its delivery
pub delivered_asks : (doc : DocId) (job : JobId) (asks : List Asking) → has_wanted doc (set_on job (λ (asking : Asking). record asking { is_delivered = true }) asks) ≡ has_wanted doc asks
delivered_asks doc job [] = refl
delivered_asks doc job (asking ∷ asks) = by_job (asking.job.0 == job.0) (delivered_asks doc job asks)
  where
    told : Asking
    told = record asking { is_delivered = true }

    then_ : List Asking
    then_ = set_on job (λ (x : Asking). record x { is_delivered = true }) asks

    by_job : (b : Bool) → has_wanted doc then_ ≡ has_wanted doc asks → has_wanted doc (cond b told asking ∷ then_) ≡ ((asking.doc.0 == doc.0 && holds wants asking.verdict) || has_wanted doc asks)
    by_job true rest = ap (λ (b : Bool). (asking.doc.0 == doc.0 && holds wants asking.verdict) || b) rest
    by_job false rest = ap (λ (b : Bool). (asking.doc.0 == doc.0 && holds wants asking.verdict) || b) rest

module _ (s : Seen) (all : EachAsked IsWanted s.requests) where
  sent_wanted : (row : LogRow) (job : Job) → EachAsked IsWanted (requests_sent s job job.task s.requests)
  sent_wanted row job = by_task job.task refl
    where
      plain : IsNoQuestion job.task → EachAsked IsWanted (requests_sent s job job.task s.requests)
      plain none =
          same_wanted s.requests (requests_sent s job job.task s.requests) (sent_plain s row.event row.actor job none) all

      by_task : (task : Task) → job.task ≡ task → EachAsked IsWanted (requests_sent s job job.task s.requests)
      by_task (tasks.Ask slot cause) e =
          rw e (served_each IsWanted s.requests job.why (with_asking job) (λ req q why at is doc up. any_more (λ (asking : Asking). asking.doc.0 == doc.0 && holds wants asking.verdict) q.asks _ (is doc up)) all)
      by_task (tasks.Populate nav state address initial) e = plain (subst IsNoQuestion (sym e) tt)
      by_task (tasks.Activate entry epoch long at memo address) e = plain (subst IsNoQuestion (sym e) tt)
      by_task (tasks.Update long at) e = plain (subst IsNoQuestion (sym e) tt)
      by_task tasks.Freeze e = plain (subst IsNoQuestion (sym e) tt)
      by_task tasks.Discard e = plain (subst IsNoQuestion (sym e) tt)
      by_task (tasks.DoFragment req mode address) e = plain (subst IsNoQuestion (sym e) tt)

  finished_wanted : (hand : Option Order) (outcome : Outcome) → AnswersNew s hand outcome → EachAsked IsWanted (requests_finished s hand outcome s.requests)
  finished_wanted None outcome new = all
  finished_wanted (Some order) (outcomes.Asked verdict) new =
      served_each IsWanted s.requests order.job.why (on_asking order.job.nr (λ asking. record asking { verdict = Some verdict })) (λ req q why at is doc up. answer_wanted doc order.job.nr verdict q.asks (new req q why at) (is doc up)) all
  finished_wanted (Some order) outcomes.Fragmented new = by_task order.job.task refl
    where
      by_task : (task : Task) → order.job.task ≡ task → EachAsked IsWanted (requests_finished s (Some order) outcomes.Fragmented s.requests)
      by_task (tasks.DoFragment req mode address) e =
          rw e (each_asked_on IsWanted IsWanted s.requests req (λ q. record q { is_not_found = not (is_running s order.job.doc) }) (λ r q apart is. is) (λ q at is. is) all)
      by_task (tasks.Populate nav state address initial) e = rw e all
      by_task (tasks.Activate entry epoch long at memo address) e = rw e all
      by_task (tasks.Update long at) e = rw e all
      by_task tasks.Freeze e = rw e all
      by_task tasks.Discard e = rw e all
      by_task (tasks.Ask slot cause) e = rw e all
  finished_wanted (Some order) (outcomes.Populated slot) new = all
  finished_wanted (Some order) outcomes.Activated new = all
  finished_wanted (Some order) outcomes.Updated new = all
  finished_wanted (Some order) outcomes.Frozen new = all
  finished_wanted (Some order) outcomes.Discarded new = all

  delivered_wanted : (report : Option Report) → EachAsked IsWanted (requests_delivered report s.requests)
  delivered_wanted None = all
  delivered_wanted (Some (reports.Made made)) = all
  delivered_wanted (Some (reports.Died death)) = all
  delivered_wanted (Some (reports.Done job outcome made)) = by_outcome outcome
    where
      by_outcome : (o : Outcome) → EachAsked IsWanted (requests_delivered (Some (reports.Done job o made)) s.requests)
      by_outcome (outcomes.Asked verdict) =
          served_each IsWanted s.requests job.why (on_asking job.nr (λ asking. record asking { is_delivered = true })) (λ req q why at is doc up. delivered_asks doc job.nr q.asks ∙ is doc up) all
      by_outcome (outcomes.Populated slot) = all
      by_outcome outcomes.Activated = all
      by_outcome outcomes.Updated = all
      by_outcome outcomes.Frozen = all
      by_outcome outcomes.Discarded = all
      by_outcome outcomes.Fragmented = all

-- ---- over a row

pub wanted_row : (s : Seen) (row : LogRow) → PromptsWanted s row.row → AllWanted s → AllWanted (after s row)
wanted_row s row wanted all = by_kind row.row refl wanted
  where
    -- questions and prompts stay
    plain : (kind : RowKind) → row.row ≡ kind → SameReads plain_of s.requests (after s (record { event = row.event; actor = row.actor; row = kind })).requests → EachAsked IsWanted (after s row).requests
    plain kind e same =
        subst (λ (k : RowKind). EachAsked IsWanted (after s (record { event = row.event; actor = row.actor; row = k })).requests) (sym e) (same_wanted s.requests (after s (record { event = row.event; actor = row.actor; row = kind })).requests same all)

    by_kind : (kind : RowKind) → row.row ≡ kind → PromptsWanted s kind → EachAsked IsWanted (after s row).requests
    by_kind (rows.Opened entry state doc proc slot address) e is = rw e all
    by_kind (rows.Accepted req doc what) e is =
        rw e (each_asked_more IsWanted s.requests (new_request req doc what) (record { 0 = length s.requests + 1 }) refl (λ d up. absurd cc) all)
    by_kind (rows.Started req goal) e is = plain (rows.Started req goal) e (started_plain s row.event row.actor req goal)
    by_kind (rows.Applied req change) e is =
        plain (rows.Applied req change) e (applied_plain s row.event row.actor req change)
    by_kind (rows.Refused req reason) e is =
        plain (rows.Refused req reason) e (refused_plain s row.event row.actor req reason)
    by_kind (rows.Dropped req cause) e is = plain (rows.Dropped req cause) e (dropped_plain s row.event row.actor req cause)
    by_kind (rows.Prompted req doc) e is =
        rw e (each_asked_on IsWanted IsWanted s.requests req (λ q. record q { prompted = Some doc }) (λ r q apart one. one) (λ q at one d up. subst (λ (x : DocId). has_wanted x q.asks ≡ true) (some_same up) (is q at)) all)
    by_kind (rows.Answered req stay) e is =
        plain (rows.Answered req stay) e (on_read plain_of s.requests req (λ q. record q { answered = Some stay }) (λ q. refl))
    by_kind (rows.Sent job) e is = rw e (sent_wanted s all row job)
    by_kind (rows.Taken proc job live dirty) e is = rw e all
    by_kind (rows.Finished proc job outcome) e is = rw e (finished_wanted s all (desk_of s proc).in_hand outcome is)
    by_kind (rows.Made proc made) e is =
        plain (rows.Made proc made) e (on_read plain_of s.requests made.req (λ q. record q { made = Some made }) (λ q. refl))
    by_kind (rows.Delivered proc) e is = rw e (delivered_wanted s all (slice_get (desk_of s proc).reports 0))
    by_kind (rows.Killed proc death) e is = rw e all
    by_kind (rows.Evicted state) e is = rw e all

-- ---- what is asked of a row follows

-- where questions wait, an order that ends with an answer had none
pub waits_new : (s : Seen) → QuestionsWait s → (hand : Option Order) → HandWaits s hand → (outcome : Outcome) → EndsSo hand outcome → AnswersNew s hand outcome
waits_new s waits None hand outcome ends = tt
waits_new s waits (Some order) hand outcome ends = by_outcome outcome ends
  where
    by_task : (task : Task) (verdict : Verdict) → is_outcome_of task (outcomes.Asked verdict) ≡ true → OrderWaits s order.job task → (req : ReqId) (q : Asked) → order.job.why ≡ whys.Req req → request_of s req ≡ Some q → SaysOf order.job.nr None q.asks
    by_task (tasks.Ask slot cause) verdict is waits_ =
        λ req q why at.
        let w = waits_.each req why in
        let same : w.q ≡ q = some_same (sym w.at ∙ at) in
        subst (λ (x : Asked). SaysOf order.job.nr None x.asks) same w.says
    by_task (tasks.Populate nav state address initial) verdict is waits_ = absurd cc
    by_task (tasks.Activate entry epoch long at memo address) verdict is waits_ = absurd cc
    by_task (tasks.Update long at) verdict is waits_ = absurd cc
    by_task tasks.Freeze verdict is waits_ = absurd cc
    by_task tasks.Discard verdict is waits_ = absurd cc
    by_task (tasks.DoFragment req mode address) verdict is waits_ = absurd cc

    by_outcome : (o : Outcome) → EndsSo (Some order) o → AnswersNew s (Some order) o
    by_outcome (outcomes.Asked verdict) is = by_task order.job.task verdict is hand
    by_outcome (outcomes.Populated slot) is = tt
    by_outcome outcomes.Activated is = tt
    by_outcome outcomes.Updated is = tt
    by_outcome outcomes.Frozen is = tt
    by_outcome outcomes.Discarded is = tt
    by_outcome outcomes.Fragmented is = tt

-- ---- a prompt that is up

pub was_wanted : (s : Seen) → AllWanted s → (req : ReqId) (q : Asked) → request_of s req ≡ Some q → awaits_answer q ≡ true → WasWanted q
was_wanted s all req q at waits = by_prompt q.prompted refl (first (is_some q.prompted) (is_none q.answered) (is_none q.ending) waits)
  where
    first : (a b c : Bool) → (a && b && c) ≡ true → a ≡ true
    first true b c is = refl
    first false b c is = cc

    by_prompt : (o : Option DocId) → q.prompted ≡ o → is_some o ≡ true → WasWanted q
    by_prompt None e is = absurd cc
    by_prompt (Some doc) e is = record { doc = doc; prompted = e; wanted = all req q at doc e }
