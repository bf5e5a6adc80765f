-- What the log has come to once a request has begun and its questions were sent: it has them, each of them open, and all else that a check reads is as it was.
use Rattle.std.proofs.Common.{◌≡◌, ℕ, ◌+◌, Bool, true, false, ◌&&◌, ◌==◌, List, [], ◌∷◌, ◌++◌, map, Option, Some, refl, sym, ap, ◌∙◌, subst}
use Rattle.std.specs.Prelude.{option_map}
use Rattle.std.specs.List.{list_all}
use Rattle.std.proofs.lemmas.List.Folds.{list_all-append}
use Rattle.tab_ids.specs.declared.DocId.{DocId}
use Rattle.tab_ids.specs.declared.ReqId.{ReqId}
use Rattle.tab_ids.specs.declared.Step.{Step}
use Rattle.log_model.specs.declared.job.Job.{Job}
use Rattle.log_model.specs.declared.job.Why.TheVariants as whys
use Rattle.log_model.specs.declared.row_kind.RowKind.{RowKind}
use Rattle.log_model.specs.declared.row_kind.RowKind.TheVariants as rows
use Rattle.log_model.specs.After.{after}
use Rattle.log_model.specs.AfterRequests.{on_request, request_begun, with_asking}
use Rattle.log_model.specs.Orders.{Question}
use Rattle.log_model.specs.Places.{all_asked, is_gone, is_settled_asking}
use Rattle.log_model.specs.Seen.{Asked, Asking, Seen, request_of}
use Rattle.seen_laws.specs.InEvent.{InEvent, log_of, row_of}
use Rattle.seen_facts.proofs.Coord.Held.{fun_ext, on_else}
use Rattle.seen_facts.proofs.Request.LookUps.{on_itself}
use Rattle.check_facts.proofs.Asides.{ask_aside, started_aside}
use Rattle.check_facts.proofs.Carried.{nothing_plain}
use Rattle.check_facts.proofs.Changes.{ask_gone, ask_nothing}
use Rattle.check_facts.proofs.Events.{now_rows}
use Rattle.check_facts.proofs.Rows.{drops_stay, started_drops, started_plain}
use Rattle.check_facts.specs.Checking.{is_new, is_said}
use Rattle.check_facts.specs.Prompting.{AreAside, NothingElseDue, has_settled, is_asked}
use Rattle.check_facts.specs.Rows.{IsForUnsettled}
use Rattle.asking_facts.proofs.Sent.{SameHomes, all_gone, all_other, all_own, asked_own, once_asked, when_asked}
use Rattle.asking_facts.specs.Asking.{AreQuestions, AreQuestionsFrom, AreSome, BeginsToAsk, IsQuestion, begun_asking, new_asking, questions_sent}

and_false : (b : Bool) → (b && false) ≡ false
and_false true = refl
and_false false = refl

-- ---- the questions

-- they are of these documents
pub docs_are : (base : Seen) (req : ReqId) (number : ℕ) (questions : List Question) (jobs : List Job) → AreQuestionsFrom base req number questions jobs → map (λ (asking : Asking). asking.doc) (map new_asking jobs) ≡ map (λ (question : Question). question.0) questions
docs_are base req number [] [] are = refl
docs_are base req number (question ∷ questions) (job ∷ jobs) are =
    ap (λ (doc : DocId). doc ∷ map (λ (asking : Asking). asking.doc) (map new_asking jobs)) are.0.doc
    ∙ ap (λ (docs : List DocId). question.0 ∷ docs) (docs_are base req (number + 1) questions jobs are.1)
docs_are base req number [] (job ∷ jobs) are = absurd are
docs_are base req number (question ∷ questions) [] are = absurd are

-- no answer that was delivered is wanting
pub said_new : (jobs : List Job) → list_all is_said (map new_asking jobs) ≡ true
said_new [] = refl
said_new (job ∷ jobs) = said_new jobs

-- none of these documents is gone
alive_one : (base : Seen) (req : ReqId) (number : ℕ) (question : Question) (job : Job) → IsQuestion base req number question job → is_gone base job.doc ≡ false
alive_one base req number question job its = rw (its.to.found) its.to.alive

module _ (base : Seen) (req : ReqId) (gone : DocId → Bool) (same : (doc : DocId) → gone doc ≡ is_gone base doc) where
  pub all_new : (number : ℕ) (questions : List Question) (jobs : List Job) → AreQuestionsFrom base req number questions jobs → list_all (is_new gone) (map new_asking jobs) ≡ true
  all_new number [] [] are = refl
  all_new number (question ∷ questions) (job ∷ jobs) are =
      let there : gone job.doc ≡ false = same job.doc ∙ alive_one base req number question job are.0 in
      rw there (all_new (number + 1) questions jobs are.1)
  all_new number [] (job ∷ jobs) are = absurd are
  all_new number (question ∷ questions) [] are = absurd are

  -- so one is open
  pub some_open : (number : ℕ) (questions : List Question) (jobs : List Job) → AreSome questions → AreQuestionsFrom base req number questions jobs → list_all (is_settled_asking gone) (map new_asking jobs) ≡ false
  some_open number [] jobs some are = absurd some
  some_open number (question ∷ questions) [] some are = absurd are
  some_open number (question ∷ questions) (job ∷ jobs) some are =
      let there : gone job.doc ≡ false = same job.doc ∙ alive_one base req number question job are.0 in rw there refl

-- ---- the log

module _ (e : InEvent) (now : Seen) (req : ReqId) (goal : Option Step) (questions : List Question) (jobs : List Job) (q : Asked) (begins : BeginsToAsk now req goal questions q) (are : AreQuestions now req questions jobs) where
  -- once it has begun, and once all were asked
  abbrev pub once_begun : Seen
  once_begun = after now (row_of e (rows.Started req goal))

  abbrev pub then_ : Seen
  then_ = when_asked e once_begun jobs

  -- the request then
  abbrev pub begun_one : Asked
  begun_one = request_begun now (record q { is_started = true; goal = goal })

  abbrev pub asked_one : Asked
  asked_one = record begun_one { asks = map new_asking jobs }

  abbrev first : Asked → Asked
  first x = record x { is_started = true; goal = goal }

  pub begun_own : request_of once_begun req ≡ Some begun_one
  begun_own =
      on_itself (on_request req first now.requests) req (request_begun now)
      ∙ ap (λ (o : Option Asked). option_map (request_begun now) o) (on_itself now.requests req first ∙ ap (λ (o : Option Asked). option_map first o) begins.at)

  begun_other : (r : ReqId) → (r.0 == req.0) ≡ false → request_of once_begun r ≡ request_of now r
  begun_other r off =
      on_else (on_request req first now.requests) req (request_begun now) r off ∙ on_else now.requests req first r off

  pub begun_homes : SameHomes now once_begun
  begun_homes = record { documents = λ doc. refl; known = λ proc. refl }

  -- it has the questions, and no others
  pub then_own : request_of then_ req ≡ Some asked_one
  then_own =
      all_own e now req once_begun (now.jobs + 1) questions jobs begun_one are begun_own
      ∙ ap (λ (l : List Asking). let o : Option Asked = Some (record begun_one { asks = l ++ map new_asking jobs }) in o) begins.unasked

  pub then_other : (r : ReqId) → (r.0 == req.0) ≡ false → request_of then_ r ≡ request_of now r
  then_other r off =
      all_other e now req once_begun (now.jobs + 1) questions jobs are r off ∙ begun_other r off

  pub then_gone : (doc : DocId) → is_gone then_ doc ≡ is_gone now doc
  then_gone doc = all_gone e now req once_begun (now.jobs + 1) questions jobs are doc

  pub same_gone : is_gone then_ ≡ is_gone now
  same_gone = fun_ext then_gone

  -- one of them is open
  pub then_open : AreSome questions → all_asked then_ asked_one ≡ false
  then_open some = some_open now req (is_gone then_) then_gone (now.jobs + 1) questions jobs some are

  pub then_new : list_all (is_new (is_gone then_)) asked_one.asks ≡ true
  then_new = all_new now req (is_gone then_) then_gone (now.jobs + 1) questions jobs are

  -- as it hadn't begun nothing was settled
  pub unsettled : has_settled now q ≡ false
  unsettled = rw begins.unasked refl

  -- ---- the rows stand beside the prompts that are to come

  module _ (start : Seen) (todo : ReqId → Option DocId) where
    some_same : {A : Type 0} {a b : A} → (let o : Option A = Some a in o) ≡ Some b → a ≡ b
    some_same e = cc

    -- a question more leaves it unsettled
    still_open : (s : Seen) (number : ℕ) (question : Question) (job : Job) (its : IsQuestion now req number question job) (x : Asked) → ((doc : DocId) → is_gone s doc ≡ is_gone now doc) → has_settled (once_asked s e.event e.actor job question.1 question.2 its.task) (with_asking job x) ≡ false
    still_open s number question job its x gone =
        let t : Seen = once_asked s e.event e.actor job question.1 question.2 its.task in
        let one : is_settled_asking (is_gone t) (new_asking job) ≡ false = ask_gone s e.event e.actor job question.1 question.2 its.task job.doc ∙ gone job.doc ∙ alive_one now req number question job its in
        let all : all_asked t (with_asking job x) ≡ false = list_all-append (is_settled_asking (is_gone t)) x.asks (new_asking job ∷ []) ∙ rw one (and_false (list_all (is_settled_asking (is_gone t)) x.asks)) in
        rw all (and_false (is_asked (with_asking job x).asks))

    questions_aside : (s : Seen) (number : ℕ) (questions : List Question) (jobs : List Job) (x : Asked) → AreQuestionsFrom now req number questions jobs → request_of s req ≡ Some x → has_settled s x ≡ false → ((doc : DocId) → is_gone s doc ≡ is_gone now doc) → NothingElseDue start todo s → AreAside start todo s (map (row_of e) (questions_sent jobs))
    questions_aside s number [] [] x are at unsettled gone nothing = tt
    questions_aside s number (question ∷ questions) (job ∷ jobs) x are at unsettled_ gone nothing = (
      ask_aside start todo s e.event e.actor nothing job question.1 question.2 are.0.task for_,
      questions_aside t (number + 1) questions jobs (with_asking job x) are.1 (asked_own s e.event e.actor job question.1 question.2 are.0.task req are.0.why x at) (still_open s number question job are.0 x gone) (λ doc. ask_gone s e.event e.actor job question.1 question.2 are.0.task doc ∙ gone doc) (ask_nothing s e.event e.actor job question.1 question.2 are.0.task start todo (gone job.doc ∙ alive_one now req number question job are.0) nothing),
    )
      where
        t : Seen
        t = once_asked s e.event e.actor job question.1 question.2 are.0.task

        for_ : IsForUnsettled s job
        for_ r y why found =
            let both : whys.Req req ≡ whys.Req r = sym are.0.why ∙ why in
            let it : req ≡ r = cc in
            let one : x ≡ y = some_same (sym at ∙ ap (λ (n : ReqId). request_of s n) it ∙ found) in
            subst (λ (z : Asked). has_settled s z ≡ false) one unsettled_
    questions_aside s number [] (job ∷ jobs) x are at unsettled_ gone nothing = absurd are
    questions_aside s number (question ∷ questions) [] x are at unsettled_ gone nothing = absurd are

    pub block_aside : NothingElseDue start todo now → AreAside start todo now (map (row_of e) (begun_asking req goal jobs))
    block_aside nothing = (
      started_aside start todo now e.event e.actor nothing req goal,
      questions_aside once_begun (now.jobs + 1) questions jobs begun_one are begun_own (rw begins.unasked refl) (λ doc. refl) (nothing_plain now once_begun (started_plain now e.event e.actor req goal) start todo (drops_stay now once_begun (started_drops now e.event e.actor req goal)) (λ doc. refl) nothing),
    )

-- the log with the block
pub block_log : (e : InEvent) (out : List RowKind) (req : ReqId) (goal : Option Step) (jobs : List Job) → log_of e (out ++ begun_asking req goal jobs) ≡ when_asked e (after (log_of e out) (row_of e (rows.Started req goal))) jobs
block_log e out req goal jobs = now_rows e out (begun_asking req goal jobs)
