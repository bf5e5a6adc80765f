-- What the questions of a request leave of the log: the request has them, and documents, what is known of processes and the other requests are as they were.
use Rattle.std.proofs.Common.{◌≡◌, ℕ, ◌+◌, Bool, true, false, cond, ◌==◌, List, [], ◌∷◌, ◌++◌, map, Option, Some, None, refl, sym, ap, ◌∙◌, subst, arith, append-nil, append_assoc}
use Rattle.std.specs.Prelude.{find, fold, option_map}
use Rattle.std.proofs.lemmas.Bool.Decides.{nat_tests}
use Rattle.tab_ids.specs.declared.DocId.{DocId}
use Rattle.tab_ids.specs.declared.ProcId.{ProcId}
use Rattle.tab_ids.specs.declared.ReqId.{ReqId}
use Rattle.log_model.specs.declared.handler.LeaveCause.{LeaveCause}
use Rattle.log_model.specs.declared.job.Job.{Job}
use Rattle.log_model.specs.declared.job.Task.TheVariants as tasks
use Rattle.log_model.specs.declared.job.Why.TheVariants as whys
use Rattle.log_model.specs.declared.row_kind.Actor.{Actor}
use Rattle.log_model.specs.declared.row_kind.RowKind.TheVariants as rows
use Rattle.log_model.specs.After.{after, on_desk}
use Rattle.log_model.specs.AfterDocuments.{addressed}
use Rattle.log_model.specs.AfterRequests.{on_request, with_asking}
use Rattle.log_model.specs.Orders.{Question}
use Rattle.log_model.specs.Places.{is_gone}
use Rattle.log_model.specs.Seen.{Asked, Asking, Desk, Document, Seen, desk_in, desk_of, document_of, request_in, request_of}
use Rattle.seen_laws.proofs.Desks.{desk_on_other, desk_on_same}
use Rattle.seen_laws.proofs.Keyed.{find_map}
use Rattle.seen_laws.specs.InEvent.{InEvent, row_of}
use Rattle.seen_facts.proofs.Coord.Held.{on_else}
use Rattle.seen_facts.proofs.Request.LookUps.{on_itself}
use Rattle.check_facts.proofs.Changes.{ask_gone}
use Rattle.asking_facts.specs.Asking.{AreQuestionsFrom, new_asking, questions_sent}

-- the request with these questions more
abbrev pub with_more : List Job → Asked → Asked
with_more jobs q = record q { asks = q.asks ++ map new_asking jobs }

-- ---- one question

module _ (s : Seen) (event : ℕ) (actor : Actor) (job : Job) (slot : ℕ) (cause : LeaveCause) (task : job.task ≡ tasks.Ask slot cause) where
  abbrev pub once_asked : Seen
  once_asked = after s (record { event = event; actor = actor; row = rows.Sent job })

  -- documents are as they were
  pub asked_documents : (doc : DocId) → document_of once_asked doc ≡ document_of s doc
  asked_documents doc =
      ap (λ (l : List Document). find (λ (d : Document). d.nr.0 == doc.0) l) (rw task refl)
      ∙ find_map (λ (d : Document). d.nr.0) on_one doc.0 s.documents (λ d. ap (λ (x : Document). x.nr.0) (one d))
      ∙ by_found (document_of s doc)
    where
      on_one : Document → Document
      on_one d = cond (d.nr.0 == job.doc.0) (addressed (tasks.Ask slot cause) d) d

      one : (d : Document) → on_one d ≡ d
      one d = by_test (d.nr.0 == job.doc.0)
        where
          by_test : (b : Bool) → cond b (addressed (tasks.Ask slot cause) d) d ≡ d
          by_test true = refl
          by_test false = refl

      by_found : (o : Option Document) → option_map on_one o ≡ o
      by_found None = refl
      by_found (Some d) = ap (λ (x : Document). let o : Option Document = Some x in o) (one d)

  -- what is known of a process is as it was
  pub asked_known : (proc : ProcId) → (desk_of once_asked proc).known ≡ (desk_of s proc).known
  asked_known proc = by_test (job.proc.0 == proc.0) refl
    where
      posted : Desk → Desk
      posted desk = record desk { mail = desk.mail ++ job ∷ [] }

      by_test : (b : Bool) → (job.proc.0 == proc.0) ≡ b → (desk_in (on_desk job.proc posted s.desks) proc).known ≡ (desk_in s.desks proc).known
      by_test false e = ap (λ (d : Desk). d.known) (desk_on_other posted s.desks job.proc proc (λ d. refl) e)
      by_test true e =
          let it : job.proc ≡ proc = ap (λ (n : ℕ). let p : ProcId = record { 0 = n } in p) (let n : job.proc.0 ≡ proc.0 = grind (arith, nat_tests, e) in n) in
          subst (λ (p : ProcId). (desk_in (on_desk job.proc posted s.desks) p).known ≡ (desk_in s.desks p).known) it (ap (λ (d : Desk). d.known) (desk_on_same posted s.desks job.proc (λ d. refl)))

  module _ (req : ReqId) (why : job.why ≡ whys.Req req) where
    asked_are : once_asked.requests ≡ on_request req (with_asking job) s.requests
    asked_are = rw task (rw why refl)

    -- the request has it
    pub asked_own : (q : Asked) → request_of s req ≡ Some q → request_of once_asked req ≡ Some (with_asking job q)
    asked_own q at =
        ap (λ (l : List Asked). request_in l req) asked_are
        ∙ on_itself s.requests req (with_asking job)
        ∙ ap (λ (o : Option Asked). option_map (with_asking job) o) at

    -- any other is as it was
    pub asked_other : (r : ReqId) → (r.0 == req.0) ≡ false → request_of once_asked r ≡ request_of s r
    asked_other r off = ap (λ (l : List Asked). request_in l r) asked_are ∙ on_else s.requests req (with_asking job) r off

-- ---- all of them

-- what is read of documents and processes as an order is addressed
pub record SameHomes (s t : Seen) : Type 0 where
  pub documents : (doc : DocId) → document_of t doc ≡ document_of s doc
  pub known : (proc : ProcId) → (desk_of t proc).known ≡ (desk_of s proc).known

pub homes_then : (s t u : Seen) → SameHomes s t → SameHomes t u → SameHomes s u
homes_then s t u first then_ =
    record { documents = λ doc. then_.documents doc ∙ first.documents doc; known = λ proc. then_.known proc ∙ first.known proc }

pub asked_homes : (s : Seen) (event : ℕ) (actor : Actor) (job : Job) (slot : ℕ) (cause : LeaveCause) (task : job.task ≡ tasks.Ask slot cause) → SameHomes s (once_asked s event actor job slot cause task)
asked_homes s event actor job slot cause task =
    record { documents = asked_documents s event actor job slot cause task; known = asked_known s event actor job slot cause task }

module _ (e : InEvent) where
  -- what the log has come to once these were sent
  abbrev pub when_asked : Seen → List Job → Seen
  when_asked s jobs = fold after s (map (row_of e) (questions_sent jobs))

  module _ (base : Seen) (req : ReqId) where
    -- the request has them
    pub all_own : (s : Seen) (number : ℕ) (questions : List Question) (jobs : List Job) (q : Asked) → AreQuestionsFrom base req number questions jobs → request_of s req ≡ Some q → request_of (when_asked s jobs) req ≡ Some (with_more jobs q)
    all_own s number [] [] q are at =
        at ∙ ap (λ (l : List Asking). let o : Option Asked = Some (record q { asks = l }) in o) (sym (append-nil q.asks))
    all_own s number (question ∷ questions) (job ∷ jobs) q are at =
        all_own (once_asked s e.event e.actor job question.1 question.2 are.0.task) (number + 1) questions jobs (with_asking job q) are.1 (asked_own s e.event e.actor job question.1 question.2 are.0.task req are.0.why q at)
        ∙ ap (λ (l : List Asking). let o : Option Asked = Some (record q { asks = l }) in o) (append_assoc q.asks (new_asking job ∷ []) (map new_asking jobs))
    all_own s number [] (job ∷ jobs) q are at = absurd are
    all_own s number (question ∷ questions) [] q are at = absurd are

    -- any other is as it was
    pub all_other : (s : Seen) (number : ℕ) (questions : List Question) (jobs : List Job) → AreQuestionsFrom base req number questions jobs → (r : ReqId) → (r.0 == req.0) ≡ false → request_of (when_asked s jobs) r ≡ request_of s r
    all_other s number [] [] are r off = refl
    all_other s number (question ∷ questions) (job ∷ jobs) are r off =
        all_other (once_asked s e.event e.actor job question.1 question.2 are.0.task) (number + 1) questions jobs are.1 r off
        ∙ asked_other s e.event e.actor job question.1 question.2 are.0.task req are.0.why r off
    all_other s number [] (job ∷ jobs) are r off = absurd are
    all_other s number (question ∷ questions) [] are r off = absurd are

    -- who is gone is the same
    pub all_gone : (s : Seen) (number : ℕ) (questions : List Question) (jobs : List Job) → AreQuestionsFrom base req number questions jobs → (doc : DocId) → is_gone (when_asked s jobs) doc ≡ is_gone s doc
    all_gone s number [] [] are doc = refl
    all_gone s number (question ∷ questions) (job ∷ jobs) are doc =
        all_gone (once_asked s e.event e.actor job question.1 question.2 are.0.task) (number + 1) questions jobs are.1 doc
        ∙ ask_gone s e.event e.actor job question.1 question.2 are.0.task doc
    all_gone s number [] (job ∷ jobs) are doc = absurd are
    all_gone s number (question ∷ questions) [] are doc = absurd are

    -- what is held back, too
    pub all_parked : (s : Seen) (jobs : List Job) → (when_asked s jobs).parked ≡ s.parked
    all_parked s [] = refl
    all_parked s (job ∷ jobs) = all_parked (after s (row_of e (rows.Sent job))) jobs
