-- A request that begins and asks is in its check from then on, and doesn't pass it by that.
use Rattle.std.proofs.Common.{◌≡◌, ℕ, zero, suc, ◌+◌, ◌-◌, Bool, true, false, not, ◌==◌, List, [], ◌∷◌, slice_get, Option, Some, None, refl, sym, ap, ◌∙◌, subst}
use Rattle.std.specs.Prelude.{if◌then◌else◌}
use Rattle.std.specs.List.{list_all}
use Rattle.std.proofs.lemmas.Bool.{and_parts}
use Rattle.tab_ids.specs.declared.DocId.{DocId}
use Rattle.tab_ids.specs.declared.ReqId.{ReqId}
use Rattle.tab_ids.specs.declared.Step.{Step}
use Rattle.log_model.specs.declared.job.Job.{Job}
use Rattle.log_model.specs.Orders.{Question}
use Rattle.log_model.specs.Places.{all_stand, is_gone, is_traversal, is_under_way}
use Rattle.log_model.specs.Queue.{begins_in_turn, is_first_joined, is_queue_free, is_step_under_way}
use Rattle.log_model.specs.Seen.{Asked, Seen, request_of}
use Rattle.seen_laws.specs.InEvent.{InEvent}
use Rattle.check_facts.proofs.Changes.{ask_gone}
use Rattle.unasked_dues.specs.Checking.{NonePasses}
use Rattle.checking_facts.proofs.Askings.{asked_waits}
use Rattle.checking_facts.proofs.Cases.{asked_checks}
use Rattle.checking_facts.proofs.Spent.{unspent_at}
use Rattle.checking_facts.proofs.Entering.{entered_checks}
use Rattle.checking_facts.proofs.Waits.{begun_waits, entered_waits, none_waits}
use Rattle.checking_facts.specs.Checks.{AreInCheck, MayEnter, NoOtherUnderWay, NonePassesBut, SameBut, just}
use Rattle.checking_facts.specs.States.{IsNextState}
use Rattle.asking_facts.proofs.Begun.{once_begun, then_}
use Rattle.asking_facts.proofs.Sent.{once_asked, when_asked}
use Rattle.asking_facts.specs.Asking.{AreQuestions, AreQuestionsFrom, AreSome, BeginsToAsk, IsQuestion}

-- ---- questions

module _ (e : InEvent) (checking : ReqId → Bool) (base : Seen) (req : ReqId) (on : checking req ≡ true) where
  -- who is in a check
  asked_in : (s : Seen) (number : ℕ) (questions : List Question) (jobs : List Job) → AreQuestionsFrom base req number questions jobs → AreInCheck checking s → AreInCheck checking (when_asked e s jobs)
  asked_in s number [] [] are checks = checks
  asked_in s number (question ∷ questions) (job ∷ jobs) are checks =
      asked_in (once_asked s e.event e.actor job question.1 question.2 are.0.task) (number + 1) questions jobs are.1 (asked_checks checking s e.event e.actor checks job question.1 question.2 req are.0.task are.0.why on)
  asked_in s number [] (job ∷ jobs) are checks = absurd are
  asked_in s number (question ∷ questions) [] are checks = absurd are

  alive : (s : Seen) (number : ℕ) (question : Question) (job : Job) → IsQuestion base req number question job → ((doc : DocId) → is_gone s doc ≡ is_gone base doc) → is_gone s job.doc ≡ false
  alive s number question job its same =
      same job.doc ∙ (let there : is_gone base job.doc ≡ false = rw (its.to.found) its.to.alive in there)

  -- and that none passes
  none_pass : (s : Seen) (number : ℕ) (questions : List Question) (jobs : List Job) → AreQuestionsFrom base req number questions jobs → ((doc : DocId) → is_gone s doc ≡ is_gone base doc) → NonePasses checking s → NonePasses checking (when_asked e s jobs)
  none_pass s number [] [] are same none = none
  none_pass s number (question ∷ questions) (job ∷ jobs) are same none =
      none_pass (once_asked s e.event e.actor job question.1 question.2 are.0.task) (number + 1) questions jobs are.1 (λ doc. ask_gone s e.event e.actor job question.1 question.2 are.0.task doc ∙ same doc) (asked_waits checking s e.event e.actor req (none_waits checking s none (just req)) job question.1 question.2 are.0.task are.0.why (alive s number question job are.0 same))
  none_pass s number [] (job ∷ jobs) are same none = absurd are
  none_pass s number (question ∷ questions) [] are same none = absurd are

  -- with the first of them the request that has begun is left out no more
  some_pass : (s : Seen) (number : ℕ) (questions : List Question) (jobs : List Job) → AreSome questions → AreQuestionsFrom base req number questions jobs → ((doc : DocId) → is_gone s doc ≡ is_gone base doc) → NonePassesBut checking (just req) s → NonePasses checking (when_asked e s jobs)
  some_pass s number [] jobs some are same none = absurd some
  some_pass s number (question ∷ questions) [] some are same none = absurd are
  some_pass s number (question ∷ questions) (job ∷ jobs) some are same none =
      none_pass (once_asked s e.event e.actor job question.1 question.2 are.0.task) (number + 1) questions jobs are.1 (λ doc. ask_gone s e.event e.actor job question.1 question.2 are.0.task doc ∙ same doc) (asked_waits checking s e.event e.actor req none job question.1 question.2 are.0.task are.0.why (alive s number question job are.0 same))

-- ---- the request

module _ (e : InEvent) (checking entered : ReqId → Bool) (now : Seen) (req : ReqId) (goal : Option Step) (questions : List Question) (jobs : List Job) (q : Asked) (begins : BeginsToAsk now req goal questions q) (are : AreQuestions now req questions jobs) (same : SameBut req checking entered) (off : checking req ≡ false) (on : entered req ≡ true) where
  same_one : (x : Asked) → request_of now req ≡ Some x → q ≡ x
  same_one x at = let both : Some q ≡ Some x = sym begins.at ∙ at in cc

  -- it is in its check
  pub begun_checks : MayEnter q → IsNextState now (record { 0 = now.states + 1 }) → (is_traversal q.what ≡ true → NoOtherUnderWay now req) → AreInCheck checking now → AreInCheck entered (then_ e now req goal questions jobs q begins are)
  begun_checks may next alone checks =
      asked_in e entered now req on (once_begun e now req goal questions jobs q begins are) (now.jobs + 1) questions jobs are
      (entered_checks checking entered now e.event e.actor req goal same off on (λ x at. subst (λ (y : Asked). MayEnter y) (same_one x at) may) next (unspent_at now req q begins.at begins.open_ begins.unstarted) (λ x at goes. alone (ap (λ (y : Asked). is_traversal y.what) (same_one x at) ∙ goes)) checks)

  -- and doesn't pass
  pub begun_none : AreSome questions → NonePasses checking now → NonePasses entered (then_ e now req goal questions jobs q begins are)
  begun_none some none =
      some_pass e entered now req on (once_begun e now req goal questions jobs q begins are) (now.jobs + 1) questions jobs some are (λ doc. refl) (begun_waits entered now e.event e.actor req goal (none_waits entered now (entered_waits checking entered now req same idle none) (just req)))
    where
      idle : (x : Asked) → request_of now req ≡ Some x → is_under_way x ≡ false
      idle x at =
          let off_ : is_under_way q ≡ false = rw begins.unstarted refl in
          ap is_under_way (sym (same_one x at)) ∙ off_

-- ---- one that begins in its turn is alone

all_get : (test : Asked → Bool) (asked : List Asked) (n : ℕ) (q : Asked) → list_all test asked ≡ true → slice_get asked n ≡ Some q → test q ≡ true
all_get test [] n q all at = cc
all_get test (x ∷ asked) zero q all at =
    let same : x ≡ q = cc in
    ap test (sym same) ∙ (and_parts (test x) (list_all test asked) all).0
all_get test (x ∷ asked) (suc n) q all at = all_get test asked n q (and_parts (test x) (list_all test asked) all).1 at

pub turn_alone : (s : Seen) (req : ReqId) → begins_in_turn s req ≡ true → NoOtherUnderWay s req
turn_alone s req turn by r at apart runs goes = by_number (by.0 == 0) at
  where
    free : is_queue_free s ≡ true
    free = (and_parts (is_queue_free s) (is_first_joined s req) turn).0

    none : list_all (λ q. not (is_step_under_way q)) s.requests ≡ true
    none = (and_parts (list_all (λ q. not (is_step_under_way q)) s.requests) (all_stand s s.history.current) free).0

    steps : is_step_under_way r ≡ true
    steps = rw (runs, goes) refl

    by_number : (b : Bool) → (let o : Option Asked = (if b then None else slice_get s.requests (by.0 - 1)) in o) ≡ Some r → ⊥
    by_number true e = cc
    by_number false e =
        let is : not (is_step_under_way r) ≡ true = all_get (λ q. not (is_step_under_way q)) s.requests (by.0 - 1) r none e in
        let never : not true ≡ true = ap not (sym steps) ∙ is in
        cc
