-- Rows that ask: a question to a document, the prompt of the user; and an order that discards a document.
use Rattle.std.proofs.Common.{◌≡◌, ℕ, Bool, true, false, ◌&&◌, ◌==◌, List, ◌∷◌, Option, Some, None, refl, sym, ap, ◌∙◌, subst, arith}
use Rattle.std.specs.Prelude.{is_some, option_map}
use Rattle.std.proofs.lemmas.Bool.Decides.{nat_tests}
use Rattle.tab_ids.specs.declared.DocId.{DocId}
use Rattle.tab_ids.specs.declared.ReqId.{ReqId}
use Rattle.log_model.specs.declared.handler.LeaveCause.{LeaveCause}
use Rattle.log_model.specs.declared.job.Job.{Job}
use Rattle.log_model.specs.declared.job.Task.TheVariants as tasks
use Rattle.log_model.specs.declared.job.Why.{Why}
use Rattle.log_model.specs.declared.job.Why.TheVariants as whys
use Rattle.log_model.specs.declared.row_kind.Actor.{Actor}
use Rattle.log_model.specs.declared.row_kind.LogRow.{LogRow}
use Rattle.log_model.specs.declared.row_kind.RowKind.TheVariants as rows
use Rattle.log_model.specs.Equal.{holds}
use Rattle.log_model.specs.Seen.{Seen, Asked, request_in, request_of}
use Rattle.log_model.specs.After.{after}
use Rattle.log_model.specs.AfterRequests.{on_request, on_served, with_asking}
use Rattle.log_model.specs.Places.{is_gone}
use Rattle.log_model.specs.Orders.{is_for}
use Rattle.log_model.specs.Checks.{due_prompt, is_of_run, goes_on_with, prompt_in}
use Rattle.seen_facts.proofs.Coord.Held.{on_else}
use Rattle.seen_facts.proofs.Request.LookUps.{on_itself}
use Rattle.check_facts.proofs.Gones.{row_gone}
use Rattle.check_facts.proofs.Promptings.{along_run, comes_on}
use Rattle.check_facts.proofs.Rows.{settled_more}
use Rattle.check_facts.proofs.Runs.{come_prompted}
use Rattle.check_facts.specs.Prompting.{Agrees, HaveNumbers, IsAskDue, IsDiscarding, IsStillAsked, KeepsSettled, PromptsCome, StaySettled, comes, had_settled, has_settled, is_asked, noted_or, run_end, still_due, unless_prompted}
use Rattle.check_facts.specs.Rows.{IsForUnsettled}

same_number : (a b : ReqId) → (a.0 == b.0) ≡ true → a ≡ b
same_number a b e = ap (λ (n : ℕ). let r : ReqId = record { 0 = n } in r) (let n : a.0 ≡ b.0 = grind (arith, nat_tests, e) in n)

and_false : (b : Bool) → (b && false) ≡ false
and_false true = refl
and_false false = refl

-- a request as it was, where no document but more is gone
same_asked : (s t : Seen) (req : ReqId) (q : Asked) → ((doc : DocId) → is_gone s doc ≡ true → is_gone t doc ≡ true) → request_of t req ≡ Some q → IsStillAsked s t req q
same_asked s t req q gone found =
    record {
      after_ = q;
      found = found;
      same = record { nr = refl; asks = refl; prompted = refl; dropped = λ is. is };
      settled = λ all. settled_more s t q.asks gone all;
    }

-- ---- an order that discards

pub discarding : (event : ℕ) (actor : Actor) (job : Job) → job.task ≡ tasks.Discard → IsDiscarding (record { event = event; actor = actor; row = rows.Sent job })
discarding event actor job task =
    record { runs = rw task refl; asks = λ req. refl; stays = λ req. rw task (and_false (is_for req job)) }

-- ---- a question

module _ (s : Seen) (event : ℕ) (actor : Actor) (job : Job) (slot : ℕ) (cause : LeaveCause) (task : job.task ≡ tasks.Ask slot cause) where
  abbrev pub question_row : LogRow
  question_row = record { event = event; actor = actor; row = rows.Sent job }

  abbrev pub asking : Seen
  asking = after s question_row

  -- it ends a run, prompts nobody, and goes on with no request
  pub question_ends : is_of_run question_row ≡ false
  question_ends = rw task refl

  pub question_waits : (req : ReqId) → goes_on_with req question_row ≡ false
  question_waits req = rw task (and_false (is_for req job))

  questions_are : asking.requests ≡ on_served job.why (with_asking job) s.requests
  questions_are = rw task refl

  -- all that was settled stays so, if the request that it is for isn't
  pub question_keeps : IsForUnsettled s job → KeepsSettled s asking
  question_keeps unsettled =
      record {
        later = λ req q found settled. same_asked s asking req q (row_gone s event actor (rows.Sent job) tt) (stays req q found settled);
        gone = row_gone s event actor (rows.Sent job) tt;
      }
    where
      by_number : (r req : ReqId) (q : Asked) → job.why ≡ whys.Req r → request_of s req ≡ Some q → has_settled s q ≡ true → (b : Bool) → (req.0 == r.0) ≡ b → request_in (on_request r (with_asking job) s.requests) req ≡ Some q
      by_number r req q why found settled false e = on_else s.requests r (with_asking job) req e ∙ found
      by_number r req q why found settled true e =
          let own : request_of s r ≡ Some q = subst (λ (x : ReqId). request_of s x ≡ Some q) (same_number req r e) found in
          let not_ : has_settled s q ≡ false = unsettled r q why own in
          absurd cc

      by_why : (why : Why) → job.why ≡ why → (req : ReqId) (q : Asked) → request_of s req ≡ Some q → has_settled s q ≡ true → request_in (on_served why (with_asking job) s.requests) req ≡ Some q
      by_why (whys.Req r) is req q found settled = by_number r req q is found settled (req.0 == r.0) refl
      by_why (whys.Death death) is req q found settled = found
      by_why whys.Evict is req q found settled = found
      by_why whys.Start is req q found settled = found

      stays : (req : ReqId) (q : Asked) → request_of s req ≡ Some q → has_settled s q ≡ true → request_of asking req ≡ Some q
      stays req q found settled =
          ap (λ (l : List Asked). request_in l req) questions_are ∙ by_why job.why refl req q found settled

-- ---- the user is asked

module _ (start now : Seen) (event : ℕ) (actor : Actor) (req : ReqId) (doc : DocId) where
  abbrev pub prompt_row : LogRow
  prompt_row = record { event = event; actor = actor; row = rows.Prompted req doc }

  abbrev pub with_prompt : Asked → Asked
  with_prompt q = record q { prompted = Some doc }

  -- another request is as it was
  pub prompted_other : (other : ReqId) → (other.0 == req.0) ≡ false → request_of (after now prompt_row) other ≡ request_of now other
  prompted_other other e = on_else now.requests req with_prompt other e

  pub prompted_own : (q : Asked) → request_of now req ≡ Some q → request_of (after now prompt_row) req ≡ Some (with_prompt q)
  prompted_own q found = on_itself now.requests req with_prompt ∙ ap (λ (o : Option Asked). option_map with_prompt o) found

  -- what comes later, seen from before the row: it is the prompt that is noted
  pub ask_back : (todo : ReqId → Option DocId) → IsAskDue start now req → HaveNumbers now → todo req ≡ Some doc → (later : List LogRow) → PromptsCome start todo (after now prompt_row) later → PromptsCome start todo now (prompt_row ∷ later)
  ask_back todo due numbered noted later come other q found fresh settled = by_test (other.0 == req.0) refl
    where
      then_fresh : had_settled start req ≡ false
      then_fresh = rw due.found_then (rw due.open_then (and_false (is_asked due.was.asks)))

      by_test : (b : Bool) → (other.0 == req.0) ≡ b → comes (still_due todo now (prompt_row ∷ later) q) other (prompt_row ∷ later) ≡ true
      by_test true e =
          let is : req ≡ other = sym (same_number other req e) in
          let own : request_of now req ≡ Some q = ap (λ (r : ReqId). request_of now r) is ∙ found in
          let same : due.q ≡ q = some_same (sym due.found ∙ own) in
          let un : is_some q.prompted ≡ false = subst (λ (x : Asked). is_some x.prompted ≡ false) same due.unprompted in
          let nr : q.nr ≡ req = numbered other q found ∙ sym is in
          let f : comes None req later ≡ true = come req (with_prompt q) (prompted_own q own) then_fresh settled in
          let there : todo q.nr ≡ Some doc = ap todo nr ∙ noted in
          let one : still_due todo now (prompt_row ∷ later) q ≡ Some doc = rw (un, there) refl in
          subst (λ (r : ReqId). comes (still_due todo now (prompt_row ∷ later) q) r (prompt_row ∷ later) ≡ true) is (come_prompted (still_due todo now (prompt_row ∷ later) q) req doc event actor later one f)
        where
          some_same : {a b : Asked} → (let o : Option Asked = Some a in o) ≡ Some b → a ≡ b
          some_same e = cc
      by_test false e =
          let there : request_of (after now prompt_row) other ≡ Some q = prompted_other other e ∙ found in
          let f = come other q there fresh settled in
          let apart : (req.0 == other.0) ≡ false = grind (arith, nat_tests, e) in
          let no_ : prompt_in other prompt_row ≡ None = rw apart refl in
          let run : run_end now (prompt_row ∷ later) ≡ run_end (after now prompt_row) later = along_run now prompt_row later refl in
          let due_ : still_due todo now (prompt_row ∷ later) q ≡ still_due todo (after now prompt_row) later q = ap (λ (s : Seen). unless_prompted q (noted_or (todo q.nr) (due_prompt s q))) run in
          comes_on (still_due todo now (prompt_row ∷ later) q) other prompt_row later no_ refl ∙ ap (λ (d : Option DocId). comes d other later) due_ ∙ f

  -- it is a row of the run, which ends where it did
  pub ask_agrees : (todo : ReqId → Option DocId) (ran : ReqId → Bool) (later : List LogRow) → Agrees todo ran (after now prompt_row) later → Agrees todo ran now (prompt_row ∷ later)
  ask_agrees todo ran later agrees other q found is = by_test (other.0 == req.0) refl
    where
      run : run_end now (prompt_row ∷ later) ≡ run_end (after now prompt_row) later
      run = along_run now prompt_row later refl

      by_test : (b : Bool) → (other.0 == req.0) ≡ b → due_prompt (run_end now (prompt_row ∷ later)) q ≡ todo other
      by_test true e =
          let its : other ≡ req = same_number other req e in
          let own : request_of now req ≡ Some q = subst (λ (r : ReqId). request_of now r ≡ Some q) its found in
          let there : request_of (after now prompt_row) other ≡ Some (with_prompt q) = ap (λ (r : ReqId). request_of (after now prompt_row) r) its ∙ prompted_own q own in
          ap (λ (s : Seen). due_prompt s q) run ∙ agrees other (with_prompt q) there is
      by_test false e =
          ap (λ (s : Seen). due_prompt s q) run ∙ agrees other q (prompted_other other e ∙ found) is

  -- what was settled as the event began still is
  pub ask_stays : StaySettled start now → StaySettled start (after now prompt_row)
  ask_stays stays other had = by_test (other.0 == req.0) refl
    where
      by_found : (o : Option Asked) → request_of now req ≡ o → holds (has_settled now) o ≡ true → holds (has_settled (after now prompt_row)) (request_of (after now prompt_row) req) ≡ true
      by_found None found is = absurd cc
      by_found (Some q) found is = rw (prompted_own q found) is

      by_test : (b : Bool) → (other.0 == req.0) ≡ b → had_settled (after now prompt_row) other ≡ true
      by_test true e =
          let its : other ≡ req = same_number other req e in
          let here : had_settled now req ≡ true = subst (λ (r : ReqId). had_settled now r ≡ true) its (stays other had) in
          subst (λ (r : ReqId). had_settled (after now prompt_row) r ≡ true) (sym its) (by_found (request_of now req) refl here)
      by_test false e =
          ap (λ (o : Option Asked). holds (has_settled now) o) (prompted_other other e) ∙ stays other had
