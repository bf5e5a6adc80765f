-- What is true of questions and prompts, over the rows that change them: an answer, a question, a prompt, a discarded document.
use Rattle.std.proofs.Common.{◌≡◌, ℕ, Bool, true, false, cond, ◌&&◌, ◌||◌, ◌==◌, List, [], ◌∷◌, map, slice_get, Option, Some, None, refl, sym, ap, ◌∙◌, subst, arith}
use Rattle.std.specs.Prelude.{is_some, option_map}
use Rattle.std.specs.List.{list_all, list_any}
use Rattle.std.proofs.lemmas.Bool.{and_parts}
use Rattle.std.proofs.lemmas.Bool.Decides.{nat_tests}
use Rattle.std.proofs.lemmas.List.Folds.{list_all-append}
use Rattle.tab_ids.specs.declared.DocId.{DocId}
use Rattle.tab_ids.specs.declared.JobId.{JobId}
use Rattle.tab_ids.specs.declared.ProcId.{ProcId}
use Rattle.tab_ids.specs.declared.ReqId.{ReqId}
use Rattle.log_model.specs.declared.handler.LeaveCause.{LeaveCause}
use Rattle.log_model.specs.declared.handler.Verdict.{Verdict}
use Rattle.log_model.specs.declared.job.Job.{Job}
use Rattle.log_model.specs.declared.job.Task.TheVariants as tasks
use Rattle.log_model.specs.declared.job.Why.{Why}
use Rattle.log_model.specs.declared.job.Why.TheVariants as whys
use Rattle.log_model.specs.declared.made.Made.{Made}
use Rattle.log_model.specs.declared.made.Report.TheVariants as reports
use Rattle.log_model.specs.declared.outcome.Outcome.TheVariants as outcomes
use Rattle.log_model.specs.declared.row_kind.Actor.{Actor}
use Rattle.log_model.specs.declared.row_kind.RowKind.TheVariants as rows
use Rattle.log_model.specs.Seen.{Seen, Document, Asked, Asking, desk_of, document_of, request_in, request_of}
use Rattle.log_model.specs.After.{after}
use Rattle.log_model.specs.AfterRequests.{on_request, on_served, with_asking}
use Rattle.log_model.specs.Places.{all_asked, is_gone, is_settled_asking}
use Rattle.log_model.specs.Checks.{due_prompt}
use Rattle.seen_facts.proofs.Coord.Held.{on_else}
use Rattle.seen_facts.proofs.Each.Courses as courses
use Rattle.seen_facts.proofs.Request.LookUps.{on_itself}
use Rattle.seen_facts.proofs.Request.Readers.{SameReads, on_read}
use Rattle.check_facts.proofs.Asks.{asking, prompt_row, prompted_other, prompted_own, with_prompt}
use Rattle.check_facts.proofs.Carried.{cut, discard_goes}
use Rattle.check_facts.proofs.Gones.{row_gone}
use Rattle.check_facts.proofs.Hearings.{answered, heard_keeps, hearing, requests_are}
use Rattle.check_facts.proofs.Promptings.{settled_still}
use Rattle.check_facts.proofs.Rows.{settled_more}
use Rattle.check_facts.proofs.Runs.{never_due}
use Rattle.log_model.specs.AfterDocuments.{addressed}
use Rattle.seen_facts.proofs.Walk.Aims.{gone_on}
use Rattle.check_facts.specs.Checking.{AnswerIs, AreSaid, GoWith, heard, is_said}
use Rattle.check_facts.specs.Prompting.{AgreesNow, HaveNumbers, IsAskDue, NothingElseDue, PromptedSettled, has_settled, is_asked}
use Rattle.check_facts.specs.Rows.{IsForUnsettled}

-- ---- an answer

-- what is heard was said
pub said_heard : (job : JobId) (verdict : Verdict) (asks : List Asking) → AnswerIs job verdict asks → list_all is_said asks ≡ true → list_all is_said (map (heard job) asks) ≡ true
said_heard job verdict [] says said = refl
said_heard job verdict (asking ∷ asks) says said =
    let parts = and_parts (is_said asking) (list_all is_said asks) said in
    rw (one (asking.job.0 == job.0) refl parts.0, said_heard job verdict asks says.1 parts.1) refl
  where
    one : (b : Bool) → (asking.job.0 == job.0) ≡ b → is_said asking ≡ true → is_said (cond b (record asking { is_delivered = true }) asking) ≡ true
    one true e is = rw (says.0 e) refl
    one false e is = is

module _ (s : Seen) (event : ℕ) (actor : Actor) (proc : ProcId) (job : Job) (verdict : Verdict) (made : Option Made) (first : slice_get (desk_of s proc).reports 0 ≡ Some (reports.Done job (outcomes.Asked verdict) made)) (r : ReqId) (why : job.why ≡ whys.Req r) where
  pub numbers_same : SameReads (λ (q : Asked). q.nr) s.requests (hearing s event actor proc job verdict made first r why).requests
  numbers_same =
      subst (λ (l : List Asked). SameReads (λ (q : Asked). q.nr) s.requests l) (sym (requests_are s event actor proc job verdict made first r why)) (on_read (λ (q : Asked). q.nr) s.requests r (answered s event actor proc job verdict made first r why) (λ q. refl))

  pub heard_numbers : HaveNumbers s → HaveNumbers (hearing s event actor proc job verdict made first r why)
  heard_numbers numbered req x found =
      let q = courses.was_asked (λ (q : Asked). q.nr) s.requests (hearing s event actor proc job verdict made first r why).requests numbers_same req x found in
      sym q.2 ∙ numbered req q.0 q.1

  -- who has a prompt is settled
  pub heard_prompted : PromptedSettled s → PromptedSettled (hearing s event actor proc job verdict made first r why)
  heard_prompted prompted req x found is =
      let t : Seen = hearing s event actor proc job verdict made first r why in
      let q = courses.was_asked (λ (q : Asked). q.nr) s.requests t.requests numbers_same req x found in
      let k = (heard_keeps s event actor proc job verdict made first r why).later req q.0 q.1 in
      let it : k.after_ ≡ x = some_same (sym k.found ∙ found) in
      let up : is_some q.0.prompted ≡ true = ap (λ (o : Option DocId). is_some o) (sym k.same.prompted ∙ ap (λ (y : Asked). y.prompted) it) ∙ is in
      subst (λ (y : Asked). has_settled t y ≡ true) it (settled_still s t req q.0 k (prompted req q.0 q.1 up))
    where
      some_same : {a b : Asked} → (let o : Option Asked = Some a in o) ≡ Some b → a ≡ b
      some_same e = cc

-- ---- a question

module _ (s : Seen) (event : ℕ) (actor : Actor) (job : Job) (slot : ℕ) (cause : LeaveCause) (task : job.task ≡ tasks.Ask slot cause) where
  abbrev asks_it : Seen
  asks_it = asking s event actor job slot cause task

  -- a request after it: as it was, or the one that it is for, with one question more
  by_asked : (other : ReqId) (x : Asked) → request_of asks_it other ≡ Some x → (P : Asked → Type 0) → (request_of s other ≡ Some x → P x) → ((r : ReqId) (q : Asked) → job.why ≡ whys.Req r → other ≡ r → request_of s r ≡ Some q → P (with_asking job q)) → P x
  by_asked other x found P same own =
      by_why job.why refl (ap (λ (l : List Asked). request_in l other) (sym requests) ∙ found)
    where
      requests : asks_it.requests ≡ on_served job.why (with_asking job) s.requests
      requests = rw task refl

      some_same : {a b : Asked} → (let o : Option Asked = Some a in o) ≡ Some b → a ≡ b
      some_same e = cc

      by_own : (r : ReqId) → job.why ≡ whys.Req r → other ≡ r → request_in (on_request r (with_asking job) s.requests) r ≡ Some x → (o : Option Asked) → request_of s r ≡ o → P x
      by_own r why it there None at =
          let none : request_in (on_request r (with_asking job) s.requests) r ≡ None = on_itself s.requests r (with_asking job) ∙ ap (λ (z : Option Asked). option_map (with_asking job) z) at in
          let never : None ≡ Some x = sym none ∙ there in
          absurd cc
      by_own r why it there (Some q) at =
          let is : with_asking job q ≡ x = some_same (sym (on_itself s.requests r (with_asking job) ∙ ap (λ (z : Option Asked). option_map (with_asking job) z) at) ∙ there) in
          subst P is (own r q why it at)

      by_number : (r : ReqId) (b : Bool) → (other.0 == r.0) ≡ b → job.why ≡ whys.Req r → request_in (on_request r (with_asking job) s.requests) other ≡ Some x → P x
      by_number r false e why there = same (sym (on_else s.requests r (with_asking job) other e) ∙ there)
      by_number r true e why there =
          let it : other ≡ r = ap (λ (n : ℕ). let y : ReqId = record { 0 = n } in y) (let n : other.0 ≡ r.0 = grind (arith, nat_tests, e) in n) in
          by_own r why it (subst (λ (z : ReqId). request_in (on_request r (with_asking job) s.requests) z ≡ Some x) it there) (request_of s r) refl

      by_why : (why : Why) → job.why ≡ why → request_in (on_served why (with_asking job) s.requests) other ≡ Some x → P x
      by_why (whys.Req r) is there = by_number r (other.0 == r.0) refl is there
      by_why (whys.Death death) is there = same there
      by_why whys.Evict is there = same there
      by_why whys.Start is there = same there

  pub ask_numbers : HaveNumbers s → HaveNumbers asks_it
  ask_numbers numbered other x found =
      by_asked other x found (λ y. y.nr ≡ other) (λ was. numbered other x was) (λ r q why it at. numbered r q at ∙ sym it)

  -- who has a prompt is settled, if it is for a request that isn't
  pub ask_prompted : IsForUnsettled s job → PromptedSettled s → PromptedSettled asks_it
  ask_prompted unsettled prompted other x found is =
      by_asked other x found (λ y. is_some y.prompted ≡ true → has_settled asks_it y ≡ true) (λ was up. stays was (prompted other x was up)) (λ r q why it at up. never (sym (unsettled r q why at) ∙ prompted r q at up)) is
    where
      never : {A : Type 0} → false ≡ true → A
      never e = absurd cc

      stays : request_of s other ≡ Some x → has_settled s x ≡ true → has_settled asks_it x ≡ true
      stays was all =
          let parts = and_parts (is_asked x.asks) (all_asked s x) all in
          rw (parts.0, settled_more s asks_it x.asks (row_gone s event actor (rows.Sent job) tt) parts.1) refl

  -- each answer that was delivered is there
  pub ask_said : AreSaid s → AreSaid asks_it
  ask_said said other x found =
      by_asked other x found (λ y. list_all is_said y.asks ≡ true) (λ was. said other x was) (λ r q why it at. list_all-append is_said q.asks (record { job = job.nr; doc = job.doc; verdict = None; is_delivered = false } ∷ []) ∙ (rw (said r q at) refl))

  -- who is gone is the same
  pub ask_gone : (doc : DocId) → is_gone asks_it doc ≡ is_gone s doc
  ask_gone doc =
      gone_on s asks_it job.doc (addressed (tasks.Ask slot cause)) (rw task refl) (λ d. refl) (λ d. refl) doc

  -- nothing is due but what is noted, if the document that is asked isn't gone: the question is open
  pub ask_nothing : (start : Seen) (todo : ReqId → Option DocId) → is_gone s job.doc ≡ false → NothingElseDue start todo s → NothingElseDue start todo asks_it
  ask_nothing start todo there nothing other x found fresh settled un none =
      by_asked other x found (λ y. has_settled asks_it y ≡ true → is_some y.prompted ≡ false → todo y.nr ≡ None → due_prompt asks_it y ≡ None) (λ was all up is. never_due s asks_it x (row_gone s event actor (rows.Sent job) tt) (nothing other x was fresh (back x all) up is)) (λ r q why it at all up is. never (sym (asked_open q) ∙ all)) settled un none
    where
      never : {A : Type 0} → false ≡ true → A
      never e = absurd cc

      and_false : (b : Bool) → (b && false) ≡ false
      and_false true = refl
      and_false false = refl

      back : (y : Asked) → has_settled asks_it y ≡ true → has_settled s y ≡ true
      back y all =
          let parts = and_parts (is_asked y.asks) (all_asked asks_it y) all in
          rw (parts.0, settled_more asks_it s y.asks (λ doc is. sym (ask_gone doc) ∙ is) parts.1) refl

      asked_open : (q : Asked) → has_settled asks_it (with_asking job q) ≡ false
      asked_open q =
          let one : is_settled_asking (is_gone asks_it) (record { job = job.nr; doc = job.doc; verdict = None; is_delivered = false }) ≡ false = ask_gone job.doc ∙ there in
          let all : all_asked asks_it (with_asking job q) ≡ false = list_all-append (is_settled_asking (is_gone asks_it)) q.asks (record { job = job.nr; doc = job.doc; verdict = None; is_delivered = false } ∷ []) ∙ (rw one (and_false (list_all (is_settled_asking (is_gone asks_it)) q.asks))) in
          rw all (and_false (is_asked (with_asking job q).asks))

-- ---- a prompt

module _ (start now : Seen) (event : ℕ) (actor : Actor) (req : ReqId) (doc : DocId) where
  abbrev then : Seen
  then = after now (prompt_row start now event actor req doc)

  -- a request after it: another as it was, or the one with its prompt
  by_request : (other : ReqId) (x : Asked) → request_of then other ≡ Some x → (P : Asked → Type 0) → (request_of now other ≡ Some x → P x) → ((q : Asked) → other ≡ req → request_of now req ≡ Some q → P (with_prompt start now event actor req doc q)) → P x
  by_request other x found P same own = by_number (other.0 == req.0) refl
    where
      some_same : {a b : Asked} → (let o : Option Asked = Some a in o) ≡ Some b → a ≡ b
      some_same e = cc

      by_own : other ≡ req → (o : Option Asked) → request_of now req ≡ o → P x
      by_own it None at =
          let none : request_of then req ≡ None = on_itself now.requests req (with_prompt start now event actor req doc) ∙ ap (λ (z : Option Asked). option_map (with_prompt start now event actor req doc) z) at in
          let some : request_of then req ≡ Some x = subst (λ (z : ReqId). request_of then z ≡ Some x) it found in
          let never : None ≡ Some x = sym none ∙ some in
          absurd cc
      by_own it (Some q) at =
          let some : request_of then req ≡ Some x = subst (λ (z : ReqId). request_of then z ≡ Some x) it found in
          let is : with_prompt start now event actor req doc q ≡ x = some_same (sym (prompted_own start now event actor req doc q at) ∙ some) in
          subst P is (own q it at)

      by_number : (b : Bool) → (other.0 == req.0) ≡ b → P x
      by_number false e = same (sym (prompted_other start now event actor req doc other e) ∙ found)
      by_number true e =
          by_own (ap (λ (n : ℕ). let y : ReqId = record { 0 = n } in y) (let n : other.0 ≡ req.0 = grind (arith, nat_tests, e) in n)) (request_of now req) refl

  pub prompt_numbers : HaveNumbers now → HaveNumbers then
  prompt_numbers numbered other x found =
      by_request other x found (λ y. y.nr ≡ other) (λ was. numbered other x was) (λ q it at. numbered req q at ∙ sym it)

  pub prompt_prompted : IsAskDue start now req → PromptedSettled now → PromptedSettled then
  prompt_prompted due prompted other x found is =
      by_request other x found (λ y. is_some y.prompted ≡ true → has_settled then y ≡ true) (λ was up. prompted other x was up) (λ q it at up. (let same : due.q ≡ q = some_same (sym due.found ∙ at) in subst (λ (y : Asked). has_settled now y ≡ true) same due.settled)) is
    where
      some_same : {a b : Asked} → (let o : Option Asked = Some a in o) ≡ Some b → a ≡ b
      some_same e = cc

  -- nothing is due but what is noted, and of the run what is noted is what is due
  pub prompt_nothing : (todo : ReqId → Option DocId) → NothingElseDue start todo now → NothingElseDue start todo then
  prompt_nothing todo nothing other x found fresh settled un none =
      by_request other x found (λ y. has_settled then y ≡ true → is_some y.prompted ≡ false → todo y.nr ≡ None → due_prompt then y ≡ None) (λ was all up is. nothing other x was fresh all up is) (λ q it at all up is. never up) settled un none
    where
      never : {A : Type 0} → true ≡ false → A
      never e = absurd cc

  pub prompt_agrees : (todo : ReqId → Option DocId) (ran : ReqId → Bool) → AgreesNow todo ran now → AgreesNow todo ran then
  prompt_agrees todo ran agrees other x found is =
      by_request other x found (λ y. due_prompt then y ≡ todo other) (λ was. agrees other x was is) (λ q it at. agrees other q (subst (λ (z : ReqId). request_of now z ≡ Some q) (sym it) at) is)

-- ---- a discarded document

-- of a request that didn't ask it no document is gone more
pub discard_spares : (s : Seen) (event : ℕ) (actor : Actor) (job : Job) (task : job.task ≡ tasks.Discard) (d : Document) (there : document_of s job.doc ≡ Some d) (asks : List Asking) → list_any (λ (asking : Asking). asking.doc.0 == job.doc.0) asks ≡ false → GoWith (is_gone s) (is_gone (cut s event actor job task d there)) [] asks
discard_spares s event actor job task d there [] apart = tt
discard_spares s event actor job task d there (asking ∷ asks) apart =
    let parts = none_of (asking.doc.0 == job.doc.0) (list_any (λ (a : Asking). a.doc.0 == job.doc.0) asks) apart in
    (discard_goes s event actor job task d there asking.doc ∙ ap (λ (b : Bool). b || is_gone s asking.doc) parts.0, discard_spares s event actor job task d there asks parts.1)
  where
    none_of : (a b : Bool) → (a || b) ≡ false → (a ≡ false) × (b ≡ false)
    none_of true b e = cc
    none_of false b e = (refl, e)
