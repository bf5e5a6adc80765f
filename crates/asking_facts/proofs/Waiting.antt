-- Questions that wait: what is true of one order's questions, as questions join them and are answered.
use Rattle.std.proofs.Common.{◌≡◌, ◌⊎◌, inl, inr, ℕ, ◌≤◌, ◌<◌, Bool, true, false, cond, ◌||◌, ◌==◌, List, [], ◌∷◌, ◌++◌, map, Option, Some, None, refl, sym, ap, ◌∙◌, subst, arith}
use Rattle.std.specs.Prelude.{option_map}
use Rattle.std.specs.List.{list_any}
use Rattle.std.proofs.lemmas.Bool.{or_left, or_right}
use Rattle.std.proofs.lemmas.Bool.Decides.{nat_tests}
use Rattle.tab_ids.specs.declared.DocId.{DocId}
use Rattle.tab_ids.specs.declared.JobId.{JobId}
use Rattle.tab_ids.specs.declared.ReqId.{ReqId}
use Rattle.log_model.specs.declared.handler.Verdict.{Verdict}
use Rattle.log_model.specs.declared.job.Job.{Job}
use Rattle.log_model.specs.declared.job.Order.{Order}
use Rattle.log_model.specs.declared.job.Task.{Task}
use Rattle.log_model.specs.declared.job.Task.TheVariants as tasks
use Rattle.log_model.specs.declared.made.Report.{Report}
use Rattle.log_model.specs.declared.made.Report.TheVariants as reports
use Rattle.log_model.specs.declared.outcome.Outcome.{Outcome}
use Rattle.log_model.specs.declared.outcome.Outcome.TheVariants as outcomes
use Rattle.log_model.specs.Seen.{Asked, Asking, Desk, Seen, request_of}
use Rattle.seen_facts.proofs.Each.Courses.{is_asked, was_asked}
use Rattle.seen_facts.proofs.Each.Eaches.{each_on}
use Rattle.seen_facts.proofs.Request.Readers.{SameReads}
use Rattle.seen_facts.specs.Each.Items.{Each}
use Rattle.check_facts.proofs.Rows.{Plain, plain_of}
use Rattle.check_facts.specs.Checking.{AreOneEach}
use Rattle.asking_facts.specs.Waiting.{AreSent, DeskWaits, EndWaits, HandWaits, IsWaiting, JobWaits, OrderWaits, ReportWaits, SaysOf, Waits, is_asked_by}

-- ---- the questions of one request

pub any_more : (test : Asking → Bool) (asks : List Asking) (more : List Asking) → list_any test asks ≡ true → list_any test (asks ++ more) ≡ true
any_more test [] more is = cc
any_more test (asking ∷ asks) more is = by_test (test asking) (any_more test asks more) is
  where
    by_test : (b : Bool) → (list_any test asks ≡ true → list_any test (asks ++ more) ≡ true) → (b || list_any test asks) ≡ true → (b || list_any test (asks ++ more)) ≡ true
    by_test true rest is = refl
    by_test false rest is = rest is

pub any_last : (test : Asking → Bool) (asks : List Asking) (asking : Asking) → test asking ≡ true → list_any test (asks ++ asking ∷ []) ≡ true
any_last test [] asking is = or_left (test asking) false is
any_last test (first ∷ asks) asking is = or_right (test first) (list_any test (asks ++ asking ∷ [])) (any_last test asks asking is)

pub one_more : (job : JobId) (doc : DocId) (asks : List Asking) (asking : Asking) → (asking.job.0 == job.0) ≡ (asking.doc.0 == doc.0) → AreOneEach job doc asks → AreOneEach job doc (asks ++ asking ∷ [])
one_more job doc [] asking own one = (own, tt)
one_more job doc (first ∷ asks) asking own one = (one.0, one_more job doc asks asking own one.1)

pub says_more : (job : JobId) (said : Option Verdict) (asks : List Asking) (asking : Asking) → ((asking.job.0 == job.0) ≡ true → asking.verdict ≡ said) → SaysOf job said asks → SaysOf job said (asks ++ asking ∷ [])
says_more job said [] asking own says = (own, tt)
says_more job said (first ∷ asks) asking own says = (says.0, says_more job said asks asking own says.1)

-- the document of an order that is among them was asked
pub doc_there : (job : JobId) (doc : DocId) (asks : List Asking) → AreOneEach job doc asks → is_asked_by job asks ≡ true → list_any (λ (asking : Asking). asking.doc.0 == doc.0) asks ≡ true
doc_there job doc [] one there = cc
doc_there job doc (asking ∷ asks) one there =
    by_test (asking.job.0 == job.0) (asking.doc.0 == doc.0) one.0 (doc_there job doc asks one.1) there
  where
    by_test : (a b : Bool) → a ≡ b → (is_asked_by job asks ≡ true → list_any (λ (x : Asking). x.doc.0 == doc.0) asks ≡ true) → (a || is_asked_by job asks) ≡ true → (b || list_any (λ (x : Asking). x.doc.0 == doc.0) asks) ≡ true
    by_test true true e rest is = refl
    by_test false false e rest is = rest is
    by_test true false e rest is = cc
    by_test false true e rest is = refl

-- so one that wasn't is another
pub docs_apart : (a b : DocId) (asks : List Asking) → list_any (λ (asking : Asking). asking.doc.0 == a.0) asks ≡ true → list_any (λ (asking : Asking). asking.doc.0 == b.0) asks ≡ false → (b.0 == a.0) ≡ false
docs_apart a b asks was none = by_test (b.0 == a.0) refl
  where
    by_test : (t : Bool) → (b.0 == a.0) ≡ t → t ≡ false
    by_test false e = refl
    by_test true e =
        let same : a.0 ≡ b.0 = grind (arith, nat_tests, e) in
        let both : true ≡ false = sym was ∙ ap (λ (n : ℕ). list_any (λ (asking : Asking). asking.doc.0 == n) asks) same ∙ none in
        cc

-- two answers of one order that is among them are the same
pub says_same : (job : JobId) (a b : Option Verdict) (asks : List Asking) → is_asked_by job asks ≡ true → SaysOf job a asks → SaysOf job b asks → a ≡ b
says_same job a b [] there one two = cc
says_same job a b (asking ∷ asks) there one two =
    by_test (asking.job.0 == job.0) refl (λ is. says_same job a b asks is one.1 two.1) there
  where
    by_test : (t : Bool) → (asking.job.0 == job.0) ≡ t → (is_asked_by job asks ≡ true → a ≡ b) → (t || is_asked_by job asks) ≡ true → a ≡ b
    by_test true e rest is = sym (one.0 e) ∙ two.0 e
    by_test false e rest is = rest is

-- numbers past these
pub none_past : (job : JobId) (bound : ℕ) (asks : List Asking) → bound < job.0 → Each (λ (asking : Asking). asking.job.0 ≤ bound) asks → is_asked_by job asks ≡ false
none_past job bound [] past sent = refl
none_past job bound (asking ∷ asks) past sent =
    let apart : (asking.job.0 == job.0) ≡ false = (let small : asking.job.0 ≤ bound = sent.0 in grind (arith, nat_tests, small, past)) in
    rw apart (none_past job bound asks past sent.1)

pub says_none : (job : JobId) (said : Option Verdict) (asks : List Asking) → is_asked_by job asks ≡ false → SaysOf job said asks
says_none job said [] none = tt
says_none job said (asking ∷ asks) none =
    by_test (asking.job.0 == job.0) refl (says_none job said asks) none
  where
    by_test : (t : Bool) → (asking.job.0 == job.0) ≡ t → (is_asked_by job asks ≡ false → SaysOf job said asks) → (t || is_asked_by job asks) ≡ false → SaysOf job said (asking ∷ asks)
    by_test true e rest is = cc
    by_test false e rest is = ((λ same. (let both : false ≡ true = sym e ∙ same in cc)), rest is)

pub one_none : (job : JobId) (doc : DocId) (asks : List Asking) → is_asked_by job asks ≡ false → list_any (λ (asking : Asking). asking.doc.0 == doc.0) asks ≡ false → AreOneEach job doc asks
one_none job doc [] none free = tt
one_none job doc (asking ∷ asks) none free =
    by_test (asking.job.0 == job.0) refl (asking.doc.0 == doc.0) refl (one_none job doc asks) none free
  where
    by_test : (t : Bool) → (asking.job.0 == job.0) ≡ t → (u : Bool) → (asking.doc.0 == doc.0) ≡ u → (is_asked_by job asks ≡ false → list_any (λ (x : Asking). x.doc.0 == doc.0) asks ≡ false → AreOneEach job doc asks) → (t || is_asked_by job asks) ≡ false → (u || list_any (λ (x : Asking). x.doc.0 == doc.0) asks) ≡ false → AreOneEach job doc (asking ∷ asks)
    by_test true e u f rest is free_ = cc
    by_test false e true f rest is free_ = cc
    by_test false e false f rest is free_ = (e ∙ sym f, rest is free_)

-- ---- answers

abbrev pub set_on : JobId → (Asking → Asking) → List Asking → List Asking
set_on job f asks = map (λ (asking : Asking). cond (asking.job.0 == job.0) (f asking) asking) asks

-- a change of an answer leaves orders and documents
module _ (job : JobId) (f : Asking → Asking) (jobs : (asking : Asking) → (f asking).job ≡ asking.job) (docs : (asking : Asking) → (f asking).doc ≡ asking.doc) where
  job_same : (b : Bool) (asking : Asking) → (cond b (f asking) asking).job ≡ asking.job
  job_same true asking = jobs asking
  job_same false asking = refl

  doc_same : (b : Bool) (asking : Asking) → (cond b (f asking) asking).doc ≡ asking.doc
  doc_same true asking = docs asking
  doc_same false asking = refl

  pub set_there : (other : JobId) (asks : List Asking) → is_asked_by other (set_on job f asks) ≡ is_asked_by other asks
  set_there other [] = refl
  set_there other (asking ∷ asks) =
      ap (λ (j : JobId). (j.0 == other.0) || is_asked_by other (set_on job f asks)) (job_same (asking.job.0 == job.0) asking)
      ∙ ap (λ (b : Bool). (asking.job.0 == other.0) || b) (set_there other asks)

  pub set_one : (other : JobId) (doc : DocId) (asks : List Asking) → AreOneEach other doc asks → AreOneEach other doc (set_on job f asks)
  set_one other doc [] one = tt
  set_one other doc (asking ∷ asks) one =
      (ap (λ (j : JobId). j.0 == other.0) (job_same (asking.job.0 == job.0) asking) ∙ one.0 ∙ sym (ap (λ (d : DocId). d.0 == doc.0) (doc_same (asking.job.0 == job.0) asking)), set_one other doc asks one.1)

  pub set_sent : (bound : ℕ) (asks : List Asking) → Each (λ (asking : Asking). asking.job.0 ≤ bound) asks → Each (λ (asking : Asking). asking.job.0 ≤ bound) (set_on job f asks)
  set_sent bound [] sent = tt
  set_sent bound (asking ∷ asks) sent =
      (subst (λ (j : JobId). j.0 ≤ bound) (sym (job_same (asking.job.0 == job.0) asking)) sent.0, set_sent bound asks sent.1)

  -- what another order says stays, and what it says if the answers stay
  pub set_says : (other : JobId) (said : Option Verdict) (asks : List Asking) → (other.0 == job.0) ≡ false → SaysOf other said asks → SaysOf other said (set_on job f asks)
  set_says other said [] apart says = tt
  set_says other said (asking ∷ asks) apart says =
      (own (asking.job.0 == job.0) refl, set_says other said asks apart says.1)
    where
      own : (b : Bool) → (asking.job.0 == job.0) ≡ b → ((cond b (f asking) asking).job.0 == other.0) ≡ true → (cond b (f asking) asking).verdict ≡ said
      own false e is = says.0 is
      own true e is =
          let is_ : (asking.job.0 == other.0) ≡ true = ap (λ (j : JobId). j.0 == other.0) (sym (jobs asking)) ∙ is in
          let same : (other.0 == job.0) ≡ true = grind (arith, nat_tests, e, is_) in
          let both : true ≡ false = sym same ∙ apart in
          cc

  pub set_keeps : (other : JobId) (said : Option Verdict) (asks : List Asking) → ((asking : Asking) → (f asking).verdict ≡ asking.verdict) → SaysOf other said asks → SaysOf other said (set_on job f asks)
  set_keeps other said [] same says = tt
  set_keeps other said (asking ∷ asks) same says =
      (own (asking.job.0 == job.0), set_keeps other said asks same says.1)
    where
      own : (b : Bool) → ((cond b (f asking) asking).job.0 == other.0) ≡ true → (cond b (f asking) asking).verdict ≡ said
      own false is = says.0 is
      own true is = same asking ∙ says.0 (ap (λ (j : JobId). j.0 == other.0) (sym (jobs asking)) ∙ is)

  -- its own
  pub set_own : (said : Option Verdict) (asks : List Asking) → ((asking : Asking) → (f asking).verdict ≡ said) → SaysOf job said (set_on job f asks)
  set_own said [] is = tt
  set_own said (asking ∷ asks) is = (own (asking.job.0 == job.0) refl, set_own said asks is)
    where
      own : (b : Bool) → (asking.job.0 == job.0) ≡ b → ((cond b (f asking) asking).job.0 == job.0) ≡ true → (cond b (f asking) asking).verdict ≡ said
      own true e same = is asking
      own false e same = (let both : false ≡ true = sym e ∙ same in cc)

-- ---- one order, and a desk, from state to state

-- whatever waits in the first state does in the second
abbrev pub Carries : Seen → Seen → Type 0
Carries s t = (job : Job) (said : Option Verdict) → Waits s job said → Waits t job said

module _ (s t : Seen) (carries : Carries s t) where
  order_on : (job : Job) (task : Task) → OrderWaits s job task → OrderWaits t job task
  order_on job (tasks.Ask slot cause) waits = carries job None waits
  order_on job (tasks.Populate nav state address initial) waits = tt
  order_on job (tasks.Activate entry epoch long at memo address) waits = tt
  order_on job (tasks.Update long at) waits = tt
  order_on job tasks.Freeze waits = tt
  order_on job tasks.Discard waits = tt
  order_on job (tasks.DoFragment req mode address) waits = tt

  pub job_on : (job : Job) → JobWaits s job → JobWaits t job
  job_on job waits = order_on job job.task waits

  pub hand_on : (hand : Option Order) → HandWaits s hand → HandWaits t hand
  hand_on None waits = tt
  hand_on (Some order) waits = job_on order.job waits

  end_on : (job : Job) (outcome : Outcome) → EndWaits s job outcome → EndWaits t job outcome
  end_on job (outcomes.Asked verdict) waits = carries job (Some verdict) waits
  end_on job (outcomes.Populated slot) waits = tt
  end_on job outcomes.Activated waits = tt
  end_on job outcomes.Updated waits = tt
  end_on job outcomes.Frozen waits = tt
  end_on job outcomes.Discarded waits = tt
  end_on job outcomes.Fragmented waits = tt

  pub report_on : (report : Report) → ReportWaits s report → ReportWaits t report
  report_on (reports.Done job outcome made) waits = end_on job outcome waits
  report_on (reports.Made made) waits = tt
  report_on (reports.Died death) waits = tt

  pub desk_on : (desk : Desk) → DeskWaits s desk → DeskWaits t desk
  desk_on desk waits =
      record {
        mail = each_on (JobWaits s) (JobWaits t) desk.mail job_on waits.mail;
        hand = hand_on desk.in_hand waits.hand;
        reports = each_on (ReportWaits s) (ReportWaits t) desk.reports report_on waits.reports;
      }

-- ---- where the questions of each request stay

pub record KeepsAsks (s t : Seen) : Type 0 where
  pub jobs : s.jobs ≤ t.jobs
  pub there : (req : ReqId) (q : Asked) → request_of s req ≡ Some q → (x : Asked) × (request_of t req ≡ Some x) × (x.asks ≡ q.asks)
  pub back : (req : ReqId) (x : Asked) → request_of t req ≡ Some x → (x.asks ≡ []) ⊎ ((q : Asked) × (request_of s req ≡ Some q) × (x.asks ≡ q.asks))

-- read of each request
abbrev pub asks_of : Asked → List Asking
asks_of q = q.asks

pub from_asks : (s t : Seen) → s.jobs ≤ t.jobs → SameReads asks_of s.requests t.requests → KeepsAsks s t
from_asks s t jobs same =
    record {
      jobs = jobs;
      there = λ req q at. is_asked asks_of s.requests t.requests same req q at;
      back = λ req x at. (let q = was_asked asks_of s.requests t.requests same req x at in inr (q.0, q.1, sym q.2));
    }

pub plain_asks : (s t : Seen) → SameReads plain_of s.requests t.requests → SameReads asks_of s.requests t.requests
plain_asks s t same r =
    twice (request_of t r) ∙ ap (λ (o : Option Plain). option_map (λ (x : Plain). x.asks) o) (same r) ∙ sym (twice (request_of s r))
  where
    twice : (o : Option Asked) → option_map asks_of o ≡ option_map (λ (x : Plain). x.asks) (option_map plain_of o)
    twice None = refl
    twice (Some q) = refl

pub asks_carry : (s t : Seen) → KeepsAsks s t → Carries s t
asks_carry s t keeps job said waits =
    record {
      numbered = (let a : job.nr.0 ≤ s.jobs = waits.numbered in let b : s.jobs ≤ t.jobs = keeps.jobs in grind (arith, nat_tests, a, b));
      each = λ req why. one req (waits.each req why);
    }
  where
    one : (req : ReqId) → IsWaiting s job said req → IsWaiting t job said req
    one req its =
        let x = keeps.there req its.q its.at in
        record {
          q = x.0;
          at = x.1;
          there = ap (is_asked_by job.nr) x.2 ∙ its.there;
          one = subst (λ (l : List Asking). AreOneEach job.nr job.doc l) (sym x.2) its.one;
          says = subst (λ (l : List Asking). SaysOf job.nr said l) (sym x.2) its.says;
        }

pub asks_sent : (s t : Seen) → KeepsAsks s t → AreSent s → AreSent t
asks_sent s t keeps sent req x at = by_back (keeps.back req x at)
  where
    small : (asking : Asking) → asking.job.0 ≤ s.jobs → asking.job.0 ≤ t.jobs
    small asking a = (let b : s.jobs ≤ t.jobs = keeps.jobs in grind (arith, nat_tests, a, b))

    by_back : (x.asks ≡ []) ⊎ ((q : Asked) × (request_of s req ≡ Some q) × (x.asks ≡ q.asks)) → Each (λ (asking : Asking). asking.job.0 ≤ t.jobs) x.asks
    by_back (inl none) = subst (λ (l : List Asking). Each (λ (asking : Asking). asking.job.0 ≤ t.jobs) l) (sym none) tt
    by_back (inr was) =
        subst (λ (l : List Asking). Each (λ (asking : Asking). asking.job.0 ≤ t.jobs) l) (sym was.2) (each_on (λ (asking : Asking). asking.job.0 ≤ s.jobs) (λ (asking : Asking). asking.job.0 ≤ t.jobs) was.0.asks small (sent req was.0 was.1))
