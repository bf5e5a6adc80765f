-- A question is sent, and an answer delivered: a traversal in its check hasn't passed, but for that of the answer.
use Rattle.std.proofs.Common.{◌≡◌, ℕ, Bool, true, false, ◌&&◌, ◌==◌, List, [], ◌∷◌, Option, Some, None, refl, sym, ap, ◌∙◌, subst}
use Rattle.std.specs.Prelude.{option_map, slice_get}
use Rattle.std.specs.List.{list_all}
use Rattle.std.proofs.lemmas.List.Folds.{list_all-append}
use Rattle.tab_ids.specs.declared.DocId.{DocId}
use Rattle.tab_ids.specs.declared.ProcId.{ProcId}
use Rattle.tab_ids.specs.declared.ReqId.{ReqId}
use Rattle.log_model.specs.declared.handler.LeaveCause.{LeaveCause}
use Rattle.log_model.specs.declared.handler.Verdict.{Verdict}
use Rattle.log_model.specs.declared.job.Job.{Job}
use Rattle.log_model.specs.declared.job.Task.TheVariants as tasks
use Rattle.log_model.specs.declared.job.Why.TheVariants as whys
use Rattle.log_model.specs.declared.made.Made.{Made}
use Rattle.log_model.specs.declared.made.Report.TheVariants as reports
use Rattle.log_model.specs.declared.outcome.Outcome.TheVariants as outcomes
use Rattle.log_model.specs.declared.row_kind.Actor.{Actor}
use Rattle.log_model.specs.declared.row_kind.RowKind.TheVariants as rows
use Rattle.log_model.specs.After.{after}
use Rattle.log_model.specs.AfterRequests.{on_asking, on_request, with_asking}
use Rattle.log_model.specs.Places.{all_asked, has_passed, is_gone, is_settled_asking}
use Rattle.log_model.specs.Seen.{Asked, Asking, Seen, desk_of, request_in, request_of}
use Rattle.check_facts.proofs.Changes.{ask_gone}
use Rattle.seen_facts.proofs.Coord.Held.{on_else}
use Rattle.seen_facts.proofs.Request.LookUps.{on_itself}
use Rattle.unasked_dues.specs.Checking.{NonePasses}
use Rattle.checking_facts.proofs.Waits.{changed_waits, just_waits}
use Rattle.checking_facts.specs.Checks.{NonePassesBut, just}

-- a test that fails at its end
and_false : (b : Bool) → (b && false) ≡ false
and_false true = refl
and_false false = refl

module _ (checking : ReqId → Bool) (s : Seen) (event : ℕ) (actor : Actor) (req : ReqId) (none : NonePassesBut checking (just req) s) where
  -- a question of a document that isn't gone: its request is left out no more
  module _ (job : Job) (slot : ℕ) (cause : LeaveCause) (task : job.task ≡ tasks.Ask slot cause) (why : job.why ≡ whys.Req req) (there : is_gone s job.doc ≡ false) where
    -- what the log has come to then
    abbrev pub asking_it : Seen
    asking_it = after s (record { event = event; actor = actor; row = rows.Sent job })

    -- one request has the question
    told : asking_it.requests ≡ on_request req (with_asking job) s.requests
    told = rw task (rw why refl)

    -- who is gone is the same
    gone : (doc : DocId) → is_gone asking_it doc ≡ is_gone s doc
    gone doc = ask_gone s event actor job slot cause task doc

    -- other requests are as they were
    others : (r : ReqId) → (r.0 == req.0) ≡ false → request_of asking_it r ≡ request_of s r
    others r off =
        ap (λ (l : List Asked). request_in l r) told ∙ on_else s.requests req (with_asking job) r off

    -- the question is open
    its_open : (q : Asked) → has_passed asking_it (with_asking job q) ≡ false
    its_open q =
        let new : Asking = record { job = job.nr; doc = job.doc; verdict = None; is_delivered = false } in
        let one : is_settled_asking (is_gone asking_it) new ≡ false = gone job.doc ∙ there in
        let all : all_asked asking_it (with_asking job q) ≡ false = list_all-append (is_settled_asking (is_gone asking_it)) q.asks (new ∷ []) ∙ rw one (and_false (list_all (is_settled_asking (is_gone asking_it)) q.asks)) in
        rw all refl

    -- so it hasn't passed
    own : (q : Asked) → request_of asking_it req ≡ Some q → checking req ≡ true → has_passed asking_it q ≡ false
    own q at on =
        by_found (request_of s req) (sym (on_itself s.requests req (with_asking job)) ∙ sym (ap (λ (l : List Asked). request_in l req) told) ∙ at)
      where
        by_found : (o : Option Asked) → option_map (with_asking job) o ≡ Some q → has_passed asking_it q ≡ false
        by_found None e = cc
        by_found (Some p) e =
            let it : with_asking job p ≡ q = cc in subst (λ (x : Asked). has_passed asking_it x ≡ false) it (its_open p)

    -- none has
    pub asked_waits : NonePasses checking asking_it
    asked_waits =
        just_waits checking asking_it req own (changed_waits checking s asking_it req others gone none)

  -- an answer: its request is left out
  module _ (proc : ProcId) (job : Job) (verdict : Verdict) (made : Option Made) (first : slice_get (desk_of s proc).reports 0 ≡ Some (reports.Done job (outcomes.Asked verdict) made)) (why : job.why ≡ whys.Req req) where
    -- what the log has come to then
    abbrev pub hearing_it : Seen
    hearing_it = after s (record { event = event; actor = actor; row = rows.Delivered proc })

    -- one request has the answer
    heard : hearing_it.requests ≡ on_request req (on_asking job.nr (λ asking. record asking { is_delivered = true })) s.requests
    heard = rw first (rw why refl)

    -- none else has passed
    pub heard_waits : NonePassesBut checking (just req) hearing_it
    heard_waits =
        changed_waits checking s hearing_it req (λ r off. ap (λ (l : List Asked). request_in l r) heard ∙ on_else s.requests req (on_asking job.nr (λ asking. record asking { is_delivered = true })) r off) (λ doc. rw first refl) none
