-- A request begins and asks, and is in its check from then on: of the log without questions that changes no more than how many orders and document states there are.
use Rattle.asking_facts.proofs.Begun.{block_log}
use Rattle.asking_facts.proofs.Sent.{SameHomes, asked_homes, homes_then, once_asked, when_asked}
use Rattle.asking_facts.specs.Asking.{AreQuestions, AreQuestionsFrom, BeginsToAsk, IsQuestion, begun_asking}
use Rattle.checking_facts.specs.Checks.{SameBut}
use Rattle.log_model.specs.After.{after, has_stood_now}
use Rattle.log_model.specs.Orders.{Question}
use Rattle.log_model.specs.Seen.{Asked, Seen}
use Rattle.log_model.specs.declared.job.Job.{Job}
use Rattle.log_model.specs.declared.job.Task.{Task}
use Rattle.log_model.specs.declared.row_kind.LogRow.{LogRow}
use Rattle.log_model.specs.declared.row_kind.RowKind.TheVariants as rows
use Rattle.log_model.specs.declared.row_kind.RowKind.{RowKind}
use Rattle.seen_laws.proofs.InEvents.{log_fold}
use Rattle.seen_laws.specs.InEvent.{InEvent, later_of, log_of, now_of, row_of}
use Rattle.seen_laws.specs.Unasked.{is_question, unasked}
use Rattle.std.proofs.Common.{Bool, List, Option, Some, [], ap, refl, subst, sym, true, ℕ, ◌+◌, ◌++◌, ◌∙◌, ◌∷◌, ◌≡◌}
use Rattle.std.specs.Prelude.{fold}
use Rattle.tab_ids.specs.declared.ProcId.{ProcId}
use Rattle.tab_ids.specs.declared.ReqId.{ReqId}
use Rattle.tab_ids.specs.declared.Step.{Step}
use Rattle.unasked.proofs.Beginnings.{entered_unasked}
use Rattle.unasked.proofs.Questions.{ask_unseen, started_unseen}
use Rattle.unasked.proofs.Sited.{found_sited, sited_stays}
use Rattle.unasked.proofs.Whole.{silent, stood_noted}
use Rattle.unasked.specs.Premises.{AreFresh, all_sited, has_desk}
use Rattle.unasked_dues.specs.Checking.{AreNumbered}

-- ---- whether all have stood is noted after each row

abbrev IsStoodNoted : Seen → Type 0
IsStoodNoted s = has_stood_now s.has_stood s ≡ s.has_stood

noted_on : (s : Seen) (rows_ : List LogRow) → IsStoodNoted s → IsStoodNoted (fold after s rows_)
noted_on s [] noted = noted
noted_on s (row ∷ rows_) noted = noted_on (after s row) rows_ (stood_noted s row)

-- so it is in an event, whose own row has come
pub noted_log : (e : InEvent) (out : List RowKind) → IsStoodNoted (log_of e out)
noted_log e out =
    subst IsStoodNoted (sym (log_fold e out)) (noted_on (after e.start (row_of e e.own)) (later_of e out) (stood_noted e.start (row_of e e.own)))

-- ---- the questions

module _ (e : InEvent) (entered : ReqId → Bool) (base : Seen) (req : ReqId) where
  -- the order asks
  asks : (number : ℕ) (question : Question) (job : Job) → IsQuestion base req number question job → is_question job.task ≡ true
  asks number question job its = ap (λ (task : Task). is_question task) its.task

  -- its process has a desk
  sited : (s : Seen) (number : ℕ) (question : Question) (job : Job) → IsQuestion base req number question job → SameHomes base s → all_sited s ≡ true → has_desk s.desks job.proc ≡ true
  sited s number question job its homes all =
      subst (λ (p : ProcId). has_desk s.desks p ≡ true) its.to.proc (found_sited s job.doc its.document (homes.documents job.doc ∙ its.to.found) all)

  questions_silent : (was s : Seen) (number : ℕ) (questions : List Question) (jobs : List Job) → AreQuestionsFrom base req number questions jobs → SameHomes base s → all_sited s ≡ true → IsStoodNoted s → unasked entered s ≡ silent was e.event s.jobs s.states → (let then_ = when_asked e s jobs in unasked entered then_ ≡ silent was e.event then_.jobs then_.states)
  questions_silent was s number [] [] are homes all noted is = is
  questions_silent was s number (question ∷ questions) (job ∷ jobs) are homes all noted is =
      let t : Seen = once_asked s e.event e.actor job question.1 question.2 are.0.task in
      let one : unasked entered t ≡ silent (unasked entered s) e.event (s.jobs + 1) s.states = ask_unseen entered s e.event e.actor noted job (asks number question job are.0) (sited s number question job are.0 homes all) in
      let two : silent (unasked entered s) e.event (s.jobs + 1) s.states ≡ silent was e.event (s.jobs + 1) s.states = ap (λ (u : Seen). silent u e.event (s.jobs + 1) s.states) is in
      let states : t.states ≡ s.states = rw (are.0.task) refl in
      let three : silent was e.event (s.jobs + 1) s.states ≡ silent was e.event t.jobs t.states = ap (λ (n : ℕ). silent was e.event (s.jobs + 1) n) (sym states) in
      questions_silent was t (number + 1) questions jobs are.1 (homes_then base s t homes (asked_homes s e.event e.actor job question.1 question.2 are.0.task)) (sited_stays s e.event e.actor (rows.Sent job) all) (stood_noted s (row_of e (rows.Sent job))) (one ∙ two ∙ three)
  questions_silent was s number [] (job ∷ jobs) are homes all noted is = absurd are
  questions_silent was s number (question ∷ questions) [] are homes all noted is = absurd are

-- ---- the request with its questions

module _ (e : InEvent) (out : List RowKind) (req : ReqId) (goal : Option Step) (questions : List Question) (jobs : List Job) (q : Asked) (begins : BeginsToAsk (log_of e out) req goal questions q) (are : AreQuestions (log_of e out) req questions jobs) (entered : ReqId → Bool) (same : SameBut req e.checking entered) (on : entered req ≡ true) (numbered : AreNumbered (log_of e out)) (fresh : AreFresh (log_of e out).requests) (sited_ : all_sited (log_of e out) ≡ true) where
  abbrev now : Seen
  now = log_of e out

  abbrev behind : Seen
  behind = log_of e (out ++ begun_asking req goal jobs)

  -- as it hasn't begun nothing is left out of it by that it is in its check
  pub entered_same : unasked entered now ≡ now_of e out
  unfolding now_of
  entered_same =
      entered_unasked e.checking entered now req fresh (λ x at. (let both : (let o : Option Asked = Some q in o) ≡ Some x = sym begins.at ∙ at in let one : q ≡ x = cc in ap (λ (y : Asked). y.is_started) (sym one) ∙ begins.unstarted)) numbered same

  pub begun_silent : unasked entered behind ≡ silent (now_of e out) e.event behind.jobs behind.states
  begun_silent =
      subst (λ (t : Seen). unasked entered t ≡ silent (now_of e out) e.event t.jobs t.states) (sym (block_log e out req goal jobs))
      (questions_silent e entered now req (now_of e out) first (now.jobs + 1) questions jobs are (record { documents = λ doc. refl; known = λ proc. refl }) (sited_stays now e.event e.actor (rows.Started req goal) sited_) (stood_noted now (row_of e (rows.Started req goal))) begun)
    where
      first : Seen
      first = after now (row_of e (rows.Started req goal))

      begun : unasked entered first ≡ silent (now_of e out) e.event first.jobs first.states
      begun =
          started_unseen entered now e.event e.actor (noted_log e out) req goal on (numbered req)
          ∙ ap (λ (u : Seen). silent u e.event first.jobs first.states) entered_same
