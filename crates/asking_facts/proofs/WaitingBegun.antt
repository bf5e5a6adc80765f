-- The questions that wait, once a request has begun and asked.
use Rattle.std.proofs.Common.{◌≡◌, ℕ, ◌+◌, Bool, true, false, ◌||◌, ◌==◌, List, [], ◌∷◌, ◌++◌, Option, Some, refl, sym, ap, ◌∙◌, subst}
use Rattle.std.specs.List.{list_any}
use Rattle.tab_ids.specs.declared.DocId.{DocId}
use Rattle.tab_ids.specs.declared.ReqId.{ReqId}
use Rattle.tab_ids.specs.declared.Step.{Step}
use Rattle.log_model.specs.declared.job.Job.{Job}
use Rattle.log_model.specs.declared.job.Task.{Task}
use Rattle.log_model.specs.declared.job.Why.TheVariants as whys
use Rattle.log_model.specs.declared.row_kind.RowKind.TheVariants as rows
use Rattle.log_model.specs.AfterRequests.{with_asking}
use Rattle.log_model.specs.Orders.{Question}
use Rattle.log_model.specs.Seen.{Asked, Asking, Seen, request_of}
use Rattle.seen_laws.specs.InEvent.{InEvent, row_of}
use Rattle.seen_facts.specs.Each.Items.{Each}
use Rattle.asking_facts.proofs.Begun.{begun_own, once_begun, then_}
use Rattle.asking_facts.proofs.Sent.{asked_own, once_asked, when_asked}
use Rattle.asking_facts.proofs.WaitingEach.{waiting_row}
use Rattle.asking_facts.specs.Asking.{AreQuestions, AreQuestionsFrom, BeginsToAsk, new_asking}
use Rattle.asking_facts.specs.Waiting.{AreApartDocs, AsksFirst, QuestionsWait, SendsFirst}

some_same : {A : Type 0} {a b : A} → (let o : Option A = Some a in o) ≡ Some b → a ≡ b
some_same e = cc

-- none of these documents was asked yet
abbrev AreFree : List Asking → List Question → Type 0
AreFree asks questions = Each (λ (question : Question). list_any (λ (asking : Asking). asking.doc.0 == question.0.0) asks ≡ false) questions

none_free : (questions : List Question) → AreFree [] questions
none_free [] = tt
none_free (question ∷ questions) = (refl, none_free questions)

-- with one more they are, if it is another
any_end : (test : Asking → Bool) (asks : List Asking) (asking : Asking) → list_any test asks ≡ false → test asking ≡ false → list_any test (asks ++ asking ∷ []) ≡ false
any_end test [] asking none own = rw own refl
any_end test (first ∷ asks) asking none own = by_test (test first) none (λ rest. any_end test asks asking rest own)
  where
    by_test : (b : Bool) → (b || list_any test asks) ≡ false → (list_any test asks ≡ false → list_any test (asks ++ asking ∷ []) ≡ false) → (b || list_any test (asks ++ asking ∷ [])) ≡ false
    by_test true e more = cc
    by_test false e more = more e

more_free : (asks : List Asking) (first : Question) (job : Job) (questions : List Question) → job.doc ≡ first.0 → list_any (λ (other : Question). first.0.0 == other.0.0) questions ≡ false → AreFree asks questions → AreFree (asks ++ new_asking job ∷ []) questions
more_free asks first job [] doc apart free = tt
more_free asks first job (question ∷ questions) doc apart free =
    by_test (first.0.0 == question.0.0) refl apart (more_free asks first job questions doc)
  where
    by_test : (b : Bool) → (first.0.0 == question.0.0) ≡ b → (b || list_any (λ (other : Question). first.0.0 == other.0.0) questions) ≡ false → (list_any (λ (other : Question). first.0.0 == other.0.0) questions ≡ false → AreFree asks questions → AreFree (asks ++ new_asking job ∷ []) questions) → AreFree (asks ++ new_asking job ∷ []) (question ∷ questions)
    by_test true e is more = cc
    by_test false e is more =
        (any_end (λ (asking : Asking). asking.doc.0 == question.0.0) asks (new_asking job) free.0 (ap (λ (d : DocId). d.0 == question.0.0) doc ∙ e), more is free.1)

module _ (e : InEvent) (base : Seen) (req : ReqId) where
  questions_wait : (s : Seen) (number : ℕ) (questions : List Question) (jobs : List Job) (x : Asked) → number ≡ s.jobs + 1 → AreQuestionsFrom base req number questions jobs → request_of s req ≡ Some x → AreApartDocs questions → AreFree x.asks questions → QuestionsWait s → QuestionsWait (when_asked e s jobs)
  questions_wait s number [] [] x next_ are at apart free waits = waits
  questions_wait s number (question ∷ questions) (job ∷ jobs) x next_ are at apart free waits =
      questions_wait (once_asked s e.event e.actor job question.1 question.2 are.0.task) (number + 1) questions jobs (with_asking job x) (ap (λ (n : ℕ). n + 1) next_) are.1 (asked_own s e.event e.actor job question.1 question.2 are.0.task req are.0.why x at) apart.1 (more_free x.asks question job questions are.0.doc apart.0 free.1) (waiting_row s (row_of e (rows.Sent job)) (are.0.nr ∙ next_, subst (λ (t : Task). SendsFirst s job t) (sym are.0.task) first) waits)
    where
      first : AsksFirst s job
      first = record { each = each }
        where
          each : (r : ReqId) → job.why ≡ whys.Req r → (q : Asked) × (request_of s r ≡ Some q) × (list_any (λ (asking : Asking). asking.doc.0 == job.doc.0) q.asks ≡ false)
          each r why =
              let both : whys.Req req ≡ whys.Req r = sym are.0.why ∙ why in
              let it : req ≡ r = cc in
              (x, ap (λ (n : ReqId). request_of s n) (sym it) ∙ at, ap (λ (d : DocId). list_any (λ (asking : Asking). asking.doc.0 == d.0) x.asks) are.0.doc ∙ free.0)
  questions_wait s number [] (job ∷ jobs) x next_ are at apart free waits = absurd are
  questions_wait s number (question ∷ questions) [] x next_ are at apart free waits = absurd are

-- behind a request that begins and its questions
pub begun_wait : (e : InEvent) (now : Seen) (req : ReqId) (goal : Option Step) (questions : List Question) (jobs : List Job) (q : Asked) (begins : BeginsToAsk now req goal questions q) (are : AreQuestions now req questions jobs) → AreApartDocs questions → QuestionsWait now → QuestionsWait (then_ e now req goal questions jobs q begins are)
begun_wait e now req goal questions jobs q begins are apart waits =
    questions_wait e now req (once_begun e now req goal questions jobs q begins are) (now.jobs + 1) questions jobs _ refl are (begun_own e now req goal questions jobs q begins are) apart (subst (λ (l : List Asking). AreFree l questions) (sym begins.unasked) (none_free questions)) (waiting_row now (row_of e (rows.Started req goal)) tt waits)
