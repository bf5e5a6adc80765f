-- The questions that wait, over each row.
use Rattle.std.proofs.Common.{◌≡◌, ◌⊎◌, inl, inr, ℕ, ◌+◌, ◌≤◌, ◌<◌, Bool, true, false, ◌==◌, List, [], ◌∷◌, Option, Some, None, refl, sym, ap, ◌∙◌, subst, arith}
use Rattle.std.specs.Prelude.{option_map}
use Rattle.std.specs.List.{list_any}
use Rattle.std.proofs.lemmas.Bool.Decides.{nat_tests}
use Rattle.tab_ids.specs.declared.ProcId.{ProcId}
use Rattle.tab_ids.specs.declared.ReqId.{ReqId}
use Rattle.log_model.specs.declared.handler.LeaveCause.{LeaveCause}
use Rattle.log_model.specs.declared.handler.Verdict.{Verdict}
use Rattle.log_model.specs.declared.job.Job.{Job}
use Rattle.log_model.specs.declared.job.Task.{Task}
use Rattle.log_model.specs.declared.job.Task.TheVariants as tasks
use Rattle.log_model.specs.declared.job.Why.{Why}
use Rattle.log_model.specs.declared.job.Why.TheVariants as whys
use Rattle.log_model.specs.declared.row_kind.LogRow.{LogRow}
use Rattle.log_model.specs.declared.row_kind.RowKind.TheVariants as rows
use Rattle.log_model.specs.After.{after, on_desk}
use Rattle.log_model.specs.AfterRequests.{on_asking, on_request, on_served, with_asking}
use Rattle.log_model.specs.Seen.{Asked, Asking, Desk, Seen, desk_in, desk_of, request_in, request_of}
use Rattle.seen_facts.proofs.Coord.Held.{on_else}
use Rattle.seen_facts.proofs.Each.Eaches.{each_more, each_on}
use Rattle.seen_facts.proofs.Each.Runs.{each_asked_on}
use Rattle.seen_facts.proofs.Request.Alls.{each_desk}
use Rattle.seen_facts.proofs.Request.LookUps.{on_itself}
use Rattle.seen_facts.specs.Each.Items.{Each}
use Rattle.checking_facts.proofs.Grown.{req_same}
use Rattle.asking_facts.proofs.Counts.{posted}
use Rattle.asking_facts.proofs.Waiting.{Carries, any_last, any_more, desk_on, doc_there, docs_apart, none_past, one_more, one_none, says_more, says_none, set_on, set_one, set_sent, set_there}
use Rattle.asking_facts.specs.Waiting.{AreApart, AreSent, AsksFirst, DeskWaits, IsWaiting, JobWaits, OrderWaits, QuestionsWait, SaysOf, Waits, is_asked_by}

pub some_same : {A : Type 0} {a b : A} → (let o : Option A = Some a in o) ≡ Some b → a ≡ b
some_same e = cc

-- ---- one desk changes

-- all wait still, if the one does
pub desks_on : (s t : Seen) (proc : ProcId) (g : Desk → Desk) → Carries s t → t.desks ≡ on_desk proc g s.desks → ((d : Desk) → (g d).proc ≡ d.proc) → DeskWaits t (g (desk_of s proc)) → ((p : ProcId) → DeskWaits s (desk_of s p)) → (p : ProcId) → DeskWaits t (desk_of t p)
desks_on s t proc g carries desks keeps own all p =
    subst (λ (l : List Desk). DeskWaits t (desk_in l p)) (sym desks) (each_desk (DeskWaits t) g s.desks proc keeps own (λ other apart. desk_on s t carries (desk_of s other) (all other)) p)

-- ---- a question is sent

module _ (s : Seen) (job : Job) (slot : ℕ) (cause : LeaveCause) (task : job.task ≡ tasks.Ask slot cause) (nr : job.nr.0 ≡ s.jobs + 1) (first : AsksFirst s job) (waits : QuestionsWait s) (row : LogRow) (is : row.row ≡ rows.Sent job) where
  abbrev t : Seen
  t = after s row

  requests_are : t.requests ≡ on_served job.why (with_asking job) s.requests
  requests_are = rw is (rw task refl)

  abbrev new : Asking
  new = record { job = job.nr; doc = job.doc; verdict = None; is_delivered = false }

  -- a request then: as it was, or the one that the question is for
  then_at : (req : ReqId) (q : Asked) → request_of s req ≡ Some q → (request_of t req ≡ Some q) ⊎ ((job.why ≡ whys.Req req) × (request_of t req ≡ Some (with_asking job q)))
  then_at req q at = by_why job.why refl
    where
      by_why : (why : Why) → job.why ≡ why → (request_of t req ≡ Some q) ⊎ ((job.why ≡ whys.Req req) × (request_of t req ≡ Some (with_asking job q)))
      by_why (whys.Req r) e = by_number (req.0 == r.0) refl
        where
          by_number : (b : Bool) → (req.0 == r.0) ≡ b → (request_of t req ≡ Some q) ⊎ ((job.why ≡ whys.Req req) × (request_of t req ≡ Some (with_asking job q)))
          by_number false apart =
              inl (ap (λ (l : List Asked). request_in l req) (requests_are ∙ ap (λ (w : Why). on_served w (with_asking job) s.requests) e) ∙ on_else s.requests r (with_asking job) req apart ∙ at)
          by_number true same =
              let it : req ≡ r = req_same req r same in
              let own : request_in (on_request r (with_asking job) s.requests) r ≡ Some (with_asking job q) = on_itself s.requests r (with_asking job) ∙ ap (λ (o : Option Asked). option_map (with_asking job) o) (ap (λ (n : ReqId). request_of s n) (sym it) ∙ at) in
              inr (e ∙ ap (λ (n : ReqId). whys.Req n) (sym it), ap (λ (l : List Asked). request_in l req) (requests_are ∙ ap (λ (w : Why). on_served w (with_asking job) s.requests) e) ∙ ap (λ (n : ReqId). request_in (on_request r (with_asking job) s.requests) n) it ∙ own)
      by_why (whys.Death death) e =
          inl (ap (λ (l : List Asked). request_in l req) (requests_are ∙ ap (λ (w : Why). on_served w (with_asking job) s.requests) e) ∙ at)
      by_why whys.Evict e =
          inl (ap (λ (l : List Asked). request_in l req) (requests_are ∙ ap (λ (w : Why). on_served w (with_asking job) s.requests) e) ∙ at)
      by_why whys.Start e =
          inl (ap (λ (l : List Asked). request_in l req) (requests_are ∙ ap (λ (w : Why). on_served w (with_asking job) s.requests) e) ∙ at)

  jobs_are : t.jobs ≡ s.jobs + 1
  jobs_are = rw is refl

  -- the document wasn't asked for it
  free : (req : ReqId) (q : Asked) → job.why ≡ whys.Req req → request_of s req ≡ Some q → list_any (λ (asking : Asking). asking.doc.0 == job.doc.0) q.asks ≡ false
  free req q why at =
      let f = first.each req why in
      let same : f.0 ≡ q = some_same (sym f.1 ∙ at) in
      ap (λ (x : Asked). list_any (λ (asking : Asking). asking.doc.0 == job.doc.0) x.asks) (sym same) ∙ f.2

  -- whatever waited still does
  asked_carries : Carries s t
  asked_carries other said its =
      record {
        numbered = (let a : other.nr.0 ≤ s.jobs = its.numbered in omega (arith, a, jobs_are));
        each = λ req why. one req (its.each req why);
      }
    where
      apart : (job.nr.0 == other.nr.0) ≡ false
      apart = (let a : other.nr.0 ≤ s.jobs = its.numbered in grind (arith, nat_tests, a, nr))

      one : (req : ReqId) → IsWaiting s other said req → IsWaiting t other said req
      one req w = by_then (then_at req w.q w.at)
        where
          by_then : (request_of t req ≡ Some w.q) ⊎ ((job.why ≡ whys.Req req) × (request_of t req ≡ Some (with_asking job w.q))) → IsWaiting t other said req
          by_then (inl at) = record { q = w.q; at = at; there = w.there; one = w.one; says = w.says }
          by_then (inr its_) =
              let docs : (job.doc.0 == other.doc.0) ≡ false = docs_apart other.doc job.doc w.q.asks (doc_there other.nr other.doc w.q.asks w.one w.there) (free req w.q its_.0 w.at) in
              record {
                q = with_asking job w.q;
                at = its_.1;
                there = any_more (λ (asking : Asking). asking.job.0 == other.nr.0) w.q.asks (new ∷ []) w.there;
                one = one_more other.nr other.doc w.q.asks new (apart ∙ sym docs) w.one;
                says = says_more other.nr said w.q.asks new (λ same. (let both : false ≡ true = sym apart ∙ same in absurd cc)) w.says;
              }

  -- and so does it
  asked_waits : Waits t job None
  asked_waits =
      record {
        numbered = (let a : t.jobs ≡ s.jobs + 1 = jobs_are in omega (arith, a, nr));
        each = λ req why. (let f = first.each req why in by_then req f.0 f.1 why (then_at req f.0 f.1));
      }
    where
      past : s.jobs < job.nr.0
      past = omega (arith, nr)

      itself : (job.nr.0 == job.nr.0) ≡ true
      itself = grind (arith, nat_tests)

      itself_doc : (job.doc.0 == job.doc.0) ≡ true
      itself_doc = grind (arith, nat_tests)

      own_request : (req : ReqId) (q : Asked) → request_of s req ≡ Some q → job.why ≡ whys.Req req → request_of t req ≡ Some (with_asking job q)
      own_request req q at why =
          ap (λ (l : List Asked). request_in l req) (requests_are ∙ ap (λ (w : Why). on_served w (with_asking job) s.requests) why)
          ∙ on_itself s.requests req (with_asking job)
          ∙ ap (λ (o : Option Asked). option_map (with_asking job) o) at

      by_then : (req : ReqId) (q : Asked) → request_of s req ≡ Some q → job.why ≡ whys.Req req → (request_of t req ≡ Some q) ⊎ ((job.why ≡ whys.Req req) × (request_of t req ≡ Some (with_asking job q))) → IsWaiting t job None req
      by_then req q at why which =
          let none : is_asked_by job.nr q.asks ≡ false = none_past job.nr s.jobs q.asks past (waits.sent req q at) in
          record {
            q = with_asking job q;
            at = own_request req q at why;
            there = any_last (λ (asking : Asking). asking.job.0 == job.nr.0) q.asks new itself;
            one = one_more job.nr job.doc q.asks new (itself ∙ sym itself_doc) (one_none job.nr job.doc q.asks none (free req q why at));
            says = says_more job.nr None q.asks new (λ same. refl) (says_none job.nr None q.asks none);
          }

  -- the desks
  asked_desks : (p : ProcId) → DeskWaits t (desk_of t p)
  asked_desks =
      desks_on s t job.proc (posted job) asked_carries (rw is refl) (λ d. refl) (let was = desk_on s t asked_carries (desk_of s job.proc) (waits.desks job.proc) in record {
        mail = each_more (JobWaits t) (desk_of s job.proc).mail job was.mail (subst (λ (k : Task). OrderWaits t job k) (sym task) asked_waits);
        hand = was.hand;
        reports = was.reports;
      }) waits.desks

  -- the numbers
  asked_sent : AreSent t
  asked_sent = subst (λ (l : List Asked). (req : ReqId) (q : Asked) → request_in l req ≡ Some q → Each (λ (asking : Asking). asking.job.0 ≤ t.jobs) q.asks) (sym requests_are) (by_why job.why)
    where
      more : (asks : List Asking) → Each (λ (asking : Asking). asking.job.0 ≤ s.jobs) asks → Each (λ (asking : Asking). asking.job.0 ≤ t.jobs) asks
      more asks sent =
          each_on (λ (asking : Asking). asking.job.0 ≤ s.jobs) (λ (asking : Asking). asking.job.0 ≤ t.jobs) asks (λ asking a. (let b : t.jobs ≡ s.jobs + 1 = jobs_are in omega (arith, a, b))) sent

      by_why : (why : Why) (req : ReqId) (q : Asked) → request_in (on_served why (with_asking job) s.requests) req ≡ Some q → Each (λ (asking : Asking). asking.job.0 ≤ t.jobs) q.asks
      by_why (whys.Req r) req q at =
          each_asked_on (λ req x. Each (λ (asking : Asking). asking.job.0 ≤ s.jobs) x.asks) (λ req x. Each (λ (asking : Asking). asking.job.0 ≤ t.jobs) x.asks) s.requests r (with_asking job) (λ req x apart sent. more x.asks sent) (λ x at sent. each_more (λ (asking : Asking). asking.job.0 ≤ t.jobs) x.asks new (more x.asks sent) (let b : t.jobs ≡ s.jobs + 1 = jobs_are in omega (arith, nr, b))) waits.sent req q at
      by_why (whys.Death death) req q at = more q.asks (waits.sent req q at)
      by_why whys.Evict req q at = more q.asks (waits.sent req q at)
      by_why whys.Start req q at = more q.asks (waits.sent req q at)

  pub asked_wait : AreApart t → QuestionsWait t
  asked_wait apart = record { desks = asked_desks; apart = apart; sent = asked_sent }

-- ---- an answer

-- the questions of an order change, but for what they are
module _ (s t : Seen) (job : Job) (f : Asking → Asking) (jobs : (asking : Asking) → (f asking).job ≡ asking.job) (docs : (asking : Asking) → (f asking).doc ≡ asking.doc) (same_jobs : t.jobs ≡ s.jobs) (requests : t.requests ≡ on_served job.why (on_asking job.nr f) s.requests) where
  abbrev answer : Asked → Asked
  answer = on_asking job.nr f

  then_one : (req : ReqId) (q : Asked) → request_of s req ≡ Some q → (request_of t req ≡ Some q) ⊎ ((job.why ≡ whys.Req req) × (request_of t req ≡ Some (answer q)))
  then_one req q at = by_why job.why refl
    where
      by_why : (why : Why) → job.why ≡ why → (request_of t req ≡ Some q) ⊎ ((job.why ≡ whys.Req req) × (request_of t req ≡ Some (answer q)))
      by_why (whys.Req r) e = by_number (req.0 == r.0) refl
        where
          by_number : (b : Bool) → (req.0 == r.0) ≡ b → (request_of t req ≡ Some q) ⊎ ((job.why ≡ whys.Req req) × (request_of t req ≡ Some (answer q)))
          by_number false apart =
              inl (ap (λ (l : List Asked). request_in l req) (requests ∙ ap (λ (w : Why). on_served w answer s.requests) e) ∙ on_else s.requests r answer req apart ∙ at)
          by_number true same =
              let it : req ≡ r = req_same req r same in
              let own : request_in (on_request r answer s.requests) r ≡ Some (answer q) = on_itself s.requests r answer ∙ ap (λ (o : Option Asked). option_map answer o) (ap (λ (n : ReqId). request_of s n) (sym it) ∙ at) in
              inr (e ∙ ap (λ (n : ReqId). whys.Req n) (sym it), ap (λ (l : List Asked). request_in l req) (requests ∙ ap (λ (w : Why). on_served w answer s.requests) e) ∙ ap (λ (n : ReqId). request_in (on_request r answer s.requests) n) it ∙ own)
      by_why (whys.Death death) e =
          inl (ap (λ (l : List Asked). request_in l req) (requests ∙ ap (λ (w : Why). on_served w answer s.requests) e) ∙ at)
      by_why whys.Evict e =
          inl (ap (λ (l : List Asked). request_in l req) (requests ∙ ap (λ (w : Why). on_served w answer s.requests) e) ∙ at)
      by_why whys.Start e =
          inl (ap (λ (l : List Asked). request_in l req) (requests ∙ ap (λ (w : Why). on_served w answer s.requests) e) ∙ at)

  -- another order waits still, if what it says stays
  pub other_waits : (other : Job) (said then_said : Option Verdict) → ((req : ReqId) → job.why ≡ whys.Req req → (w : IsWaiting s other said req) → SaysOf other.nr then_said (set_on job.nr f w.q.asks)) → ((req : ReqId) → (w : IsWaiting s other said req) → (request_of t req ≡ Some w.q) → SaysOf other.nr then_said w.q.asks) → Waits s other said → Waits t other then_said
  other_waits other said then_said own elsewhere its =
      record {
        numbered = subst (λ (n : ℕ). other.nr.0 ≤ n) (sym same_jobs) its.numbered;
        each = λ req why. (let w = its.each req why in by_then req w (then_one req w.q w.at));
      }
    where
      by_then : (req : ReqId) (w : IsWaiting s other said req) → (request_of t req ≡ Some w.q) ⊎ ((job.why ≡ whys.Req req) × (request_of t req ≡ Some (answer w.q))) → IsWaiting t other then_said req
      by_then req w (inl at) =
          record { q = w.q; at = at; there = w.there; one = w.one; says = elsewhere req w at }
      by_then req w (inr both) =
          record {
            q = answer w.q;
            at = both.1;
            there = set_there job.nr f jobs docs other.nr w.q.asks ∙ w.there;
            one = set_one job.nr f jobs docs other.nr other.doc w.q.asks w.one;
            says = own req both.0 w;
          }

  pub set_all_sent : AreSent s → AreSent t
  set_all_sent sent =
      subst (λ (n : ℕ). (req : ReqId) (q : Asked) → request_of t req ≡ Some q → Each (λ (asking : Asking). asking.job.0 ≤ n) q.asks) (sym same_jobs) (subst (λ (l : List Asked). (req : ReqId) (q : Asked) → request_in l req ≡ Some q → Each (λ (asking : Asking). asking.job.0 ≤ s.jobs) q.asks) (sym requests) (by_why job.why))
    where
      by_why : (why : Why) (req : ReqId) (q : Asked) → request_in (on_served why answer s.requests) req ≡ Some q → Each (λ (asking : Asking). asking.job.0 ≤ s.jobs) q.asks
      by_why (whys.Req r) req q at =
          each_asked_on (λ req x. Each (λ (asking : Asking). asking.job.0 ≤ s.jobs) x.asks) (λ req x. Each (λ (asking : Asking). asking.job.0 ≤ s.jobs) x.asks) s.requests r answer (λ req x apart own. own) (λ x at own. set_sent job.nr f jobs docs s.jobs x.asks own) sent req q at
      by_why (whys.Death death) req q at = sent req q at
      by_why whys.Evict req q at = sent req q at
      by_why whys.Start req q at = sent req q at
