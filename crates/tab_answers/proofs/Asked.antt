-- The request of an answer that is delivered: it is there, and what the table of unload checks tells of it is so in the log.
use Rattle.asking_facts.proofs.WaitingEach.{report_says}
use Rattle.asking_facts.specs.Known.{AskingKnown}
use Rattle.asking_facts.specs.Waiting.{IsWaiting, ReportWaits}
use Rattle.check_facts.proofs.Checkings.{settled_same}
use Rattle.check_facts.proofs.Tables.{check_changed, todo_open}
use Rattle.check_facts.specs.Checking.{AnswerIs, AreOneEach, AreTiedAt, IsCheckTied, is_checking, is_said, open_check}
use Rattle.check_facts.specs.Prompting.{todo_of}
use Rattle.log_model.specs.Checks.{is_checked}
use Rattle.log_model.specs.Places.{all_asked, has_passed, is_gone, is_settled_asking, is_under_way}
use Rattle.log_model.specs.Seen.{Asked, Asking, Seen, desk_of, request_of}
use Rattle.log_model.specs.declared.handler.Verdict.{Verdict}
use Rattle.log_model.specs.declared.job.Job.{Job}
use Rattle.log_model.specs.declared.made.Report.TheVariants as reports
use Rattle.log_model.specs.declared.outcome.Outcome.TheVariants as outcomes
use Rattle.seen_facts.proofs.Each.Eaches.{each_first}
use Rattle.std.proofs.Common.{Bool, List, None, Option, Some, ap, cond, false, inl, inr, map, refl, subst, sym, true, ◌&&◌, ◌∙◌, ◌≡◌, ◌⊎◌}
use Rattle.std.specs.List.{list_all}
use Rattle.std.specs.Prelude.{option_map}
use Rattle.tab_answers.specs.Answering.{TellsAnswer}
use Rattle.tab_ids.specs.declared.DocId.{DocId}
use Rattle.tab_ids.specs.declared.ProcId.{ProcId}
use Rattle.tab_ids.specs.declared.ReqId.{ReqId}
use Rattle.tab_stands.specs.Checked.{ChecksStand}
use Rattle.unload_check.specs.Checks as table
use Rattle.unload_check.specs.Checks.{OpenCheck, changed, check_of, is_settled, outcome_at, outcome_of}
use Rattle.unload_check.specs.declared.check.Check.{Check}
use Rattle.unload_check.specs.declared.check.Check.TheVariants as checks

never : {A : Type 0} → true ≡ false → A
never e = absurd cc

-- ---- what a check has come to

-- questions of which one is open wait; where none is, the check waits no more
waits_open : (gone : DocId → Bool) (asks : List Asking) → list_all is_said asks ≡ true → list_all (is_settled_asking gone) asks ≡ false → outcome_of (open_check gone asks) ≡ checks.Waiting
waits_open gone asks said still =
    ap (λ (b : Bool). let c : Check = cond b (table.decided (table.prompting_doc (open_check gone asks).asked) None) checks.Waiting in c) (settled_same gone asks said ∙ still)

open_waits : (gone : DocId → Bool) (asks : List Asking) → list_all is_said asks ≡ true → outcome_of (open_check gone asks) ≡ checks.Waiting → list_all (is_settled_asking gone) asks ≡ false
open_waits gone asks said waits = sym (settled_same gone asks said) ∙ by_test (is_settled (open_check gone asks)) waits
  where
    by_doc : (o : Option DocId) → table.decided o None ≡ checks.Waiting → true ≡ false
    by_doc None e = cc
    by_doc (Some doc) e = cc

    by_test : (b : Bool) → cond b (table.decided (table.prompting_doc (open_check gone asks).asked) None) checks.Waiting ≡ checks.Waiting → b ≡ false
    by_test false e = refl
    by_test true e = by_doc (table.prompting_doc (open_check gone asks).asked) e

-- a check that waits once it was told of an answer waited before
pub was_waiting : (r : ReqId) (doc : DocId) (verdict : Verdict) (es : List (ReqId × OpenCheck)) → outcome_at r (changed r (table.after_answer doc verdict) es) ≡ Some checks.Waiting → outcome_at r es ≡ Some checks.Waiting
was_waiting r doc verdict es waits =
    by_check (check_of r es) (sym (ap (λ (o : Option OpenCheck). option_map outcome_of o) (check_changed r (table.after_answer doc verdict) es)) ∙ waits)
  where
    by_settled : (c : OpenCheck) (b : Bool) → is_settled c ≡ b → outcome_of (cond b c (record c { asked = map (table.answered_doc doc verdict) c.asked })) ≡ checks.Waiting → outcome_of c ≡ checks.Waiting
    by_settled c true is e = e
    by_settled c false is e = rw is refl

    by_check : (o : Option OpenCheck) → option_map outcome_of (option_map (table.after_answer doc verdict) o) ≡ Some checks.Waiting → option_map outcome_of o ≡ Some checks.Waiting
    by_check None is = is
    by_check (Some c) is =
        ap (λ (x : Check). let o : Option Check = Some x in o) (by_settled c (is_settled c) refl (let one : outcome_of (table.after_answer doc verdict c) ≡ checks.Waiting = cc in one))

-- ---- a request, by the table

module _ (checking : ReqId → Bool) (s : Seen) (es : List (ReqId × OpenCheck)) (asks : ChecksStand checking s es) (r : ReqId) (q : Asked) (found : request_of s r ≡ Some q) where
  tied : AreTiedAt s (Some q) (check_of r es)
  tied = subst (λ (o : Option Asked). AreTiedAt s o (check_of r es)) found (asks.has.tied.each r)

  -- a check that waits is of a request that is in its check, with a question open
  pub waits_in : outcome_at r es ≡ Some checks.Waiting → (is_checking s q ≡ true) × (all_asked s q ≡ false)
  waits_in waits = by_check (check_of r es) waits tied
    where
      by_all : (c : OpenCheck) → outcome_of c ≡ checks.Waiting → is_checking s q ≡ true → (b : Bool) → all_asked s q ≡ b → IsCheckTied s q c b → all_asked s q ≡ false
      by_all c is on false still own = still
      by_all c is on true all own = by_prompt q.prompted refl
        where
          no_more : (a b : Bool) → (a && b && false) ≡ false
          no_more true true = refl
          no_more true false = refl
          no_more false b = refl

          by_prompt : (o : Option DocId) → q.prompted ≡ o → all_asked s q ≡ false
          by_prompt None none =
              let passed : has_passed s q ≡ true = rw (all, none) refl in
              never (sym on ∙ rw passed (no_more (is_checked q) (is_under_way q)))
          by_prompt (Some doc) up = (let both : checks.Waiting ≡ checks.Prompt doc = sym is ∙ own doc up in absurd cc)

      by_check : (o : Option OpenCheck) → option_map outcome_of o ≡ Some checks.Waiting → AreTiedAt s (Some q) o → (is_checking s q ≡ true) × (all_asked s q ≡ false)
      by_check None is own = absurd cc
      by_check (Some c) is own =
          (own.0, by_all c (let one : outcome_of c ≡ checks.Waiting = cc in one) own.0 (all_asked s q) refl own.1)

  -- any other is of one whose questions were settled, or which is in no check any more
  pub late_for : (outcome_at r es ≡ Some checks.Waiting → ⊥) → (all_asked s q ≡ true) ⊎ (is_checking s q ≡ false)
  late_for past = by_check (check_of r es) past tied
    where
      by_all : (c : OpenCheck) → (Some (outcome_of c) ≡ Some checks.Waiting → ⊥) → (b : Bool) → all_asked s q ≡ b → IsCheckTied s q c b → (all_asked s q ≡ true) ⊎ (is_checking s q ≡ false)
      by_all c off true all own = inl all
      by_all c off false still own =
          absurd (off (ap (λ (x : OpenCheck). let o : Option Check = Some (outcome_of x) in o) own ∙ ap (λ (x : Check). let o : Option Check = Some x in o) (waits_open (is_gone s) q.asks (asks.has.said r q found) still)))

      by_check : (o : Option OpenCheck) → (option_map outcome_of o ≡ Some checks.Waiting → ⊥) → AreTiedAt s (Some q) o → (all_asked s q ≡ true) ⊎ (is_checking s q ≡ false)
      by_check None off own = inr own
      by_check (Some c) off own = by_all c off (all_asked s q) refl own.1

  -- who is in its check is so as the coordinator has it
  pub on_of : is_checking s q ≡ true → checking r ≡ true
  on_of in_check = by_test (checking r) refl
    where
      by_test : (b : Bool) → checking r ≡ b → b ≡ true
      by_test true is = refl
      by_test false is =
          never (sym in_check ∙ subst (λ (o : Option OpenCheck). AreTiedAt s (Some q) o) (asks.within r is) tied)

-- ---- the request of an answer

module _ (s : Seen) (proc : ProcId) (job : Job) (verdict : Verdict) (r : ReqId) (tells : TellsAnswer s proc job verdict r) (known : AskingKnown s) where
  -- it is there
  pub waiting : IsWaiting s job (Some verdict) r
  waiting =
      (each_first (ReportWaits s) (desk_of s proc).reports (reports.Done job (outcomes.Asked verdict) None) tells.first (known.waits.desks proc).reports).each r tells.why

  -- and its document was asked in that order alone, with this answer
  pub said_so : (q : Asked) → request_of s r ≡ Some q → AreOneEach job.nr job.doc q.asks × AnswerIs job.nr verdict q.asks
  said_so q found = report_says s known.waits proc job verdict None tells.first r tells.why q found

-- ---- the check as it was told of the answer

module _ (t : Seen) (then : Asked) (r : ReqId) (told : List (ReqId × OpenCheck)) (told_at : check_of r told ≡ Some (open_check (is_gone t) then.asks)) (said : list_all is_said then.asks ≡ true) where
  -- while it waits, a question is open
  pub still_open : outcome_at r told ≡ Some checks.Waiting → all_asked t then ≡ false
  still_open waits =
      let both : Some (outcome_of (open_check (is_gone t) then.asks)) ≡ Some checks.Waiting = sym (ap (λ (o : Option OpenCheck). option_map outcome_of o) told_at) ∙ waits in
      open_waits (is_gone t) then.asks said (let one : outcome_of (open_check (is_gone t) then.asks) ≡ checks.Waiting = cc in one)

  -- where it notes a prompt, none is
  pub noted_all : (doc : DocId) → todo_of told r ≡ Some doc → all_asked t then ≡ true
  noted_all doc noted = by_test (all_asked t then) refl
    where
      by_test : (b : Bool) → all_asked t then ≡ b → b ≡ true
      by_test true all = refl
      by_test false still =
          let both : None ≡ Some doc = sym (todo_open r told (is_gone t) then.asks told_at said still) ∙ noted in absurd cc
