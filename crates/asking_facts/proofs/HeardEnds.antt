-- An event ends whose own row delivers an answer: the table stands for the log, be another question open still, be the request past its check, or the user asked. And such an event passes as a whole.
use Rattle.std.proofs.Common.{◌≡◌, ℕ, Bool, true, false, ◌&&◌, ◌==◌, List, [], ◌∷◌, slice_get, Option, Some, None, refl, sym, ap, ◌∙◌, subst}
use Rattle.tab_ids.specs.declared.DocId.{DocId}
use Rattle.tab_ids.specs.declared.ProcId.{ProcId}
use Rattle.tab_ids.specs.declared.ReqId.{ReqId}
use Rattle.log_model.specs.declared.handler.Verdict.{Verdict}
use Rattle.log_model.specs.declared.header.Header.{Header}
use Rattle.log_model.specs.declared.job.Job.{Job}
use Rattle.log_model.specs.declared.job.Why.TheVariants as whys
use Rattle.log_model.specs.declared.made.Made.{Made}
use Rattle.log_model.specs.declared.made.Report.TheVariants as reports
use Rattle.log_model.specs.declared.outcome.Outcome.TheVariants as outcomes
use Rattle.log_model.specs.declared.row_kind.Actor.TheVariants as actors
use Rattle.log_model.specs.declared.row_kind.LogRow.{LogRow}
use Rattle.log_model.specs.declared.row_kind.RowKind.TheVariants as rows
use Rattle.log_model.specs.After.{after}
use Rattle.log_model.specs.Checks.{due_prompt, is_checked}
use Rattle.log_model.specs.Places.{all_asked, is_gone, is_under_way}
use Rattle.log_model.specs.Seen.{Asked, Seen, desk_of, request_in, request_of}
use Rattle.unload_check.specs.Checks as table
use Rattle.unload_check.specs.Checks.{OpenCheck, after_all_deaths, check_of, ended}
use Rattle.unload_check.proofs.Stays.{others_changed, others_ended}
use Rattle.seen_laws.specs.Blocks.{EachPass}
use Rattle.seen_laws.specs.InEvent.{InEvent, IsPaid, IsTakenIn, later_of, now_of, row_of, rows_of, start_of}
use Rattle.seen_facts.proofs.Coord.Held.{on_else}
use Rattle.row_facts.specs.FrameRows.Lawful.{has_traversed}
use Rattle.check_facts.proofs.Asks.{prompted_other}
use Rattle.check_facts.proofs.Hearings.{answered, gone_same, requests_are}
use Rattle.check_facts.proofs.Tables.{check_ended}
use Rattle.check_facts.specs.Checking.{AnswerIs, AreChecksTied, AreOneEach, AreSaid, IsCheckTied, is_checking, open_check}
use Rattle.check_facts.specs.Having.{HasChecks, OpenChecked}
use Rattle.check_facts.specs.Prompting.{AgreesNow, todo_of}
use Rattle.checking_facts.proofs.Tellings.{told_numbers, told_said}
use Rattle.checking_facts.specs.Prompts.{AreAskedDuly}
use Rattle.asking_facts.proofs.Closing.{pass_asked, tied_none_noted}
use Rattle.asking_facts.proofs.Heard as heard
use Rattle.asking_facts.proofs.HeardOn as on
use Rattle.asking_facts.proofs.Noting.{agreed_end}
use Rattle.asking_facts.proofs.Ones.{one_tied, told_none}
use Rattle.asking_facts.specs.Noting.{Agreed}
use Rattle.asking_facts.specs.Ones.{ChangesOne}

module _ (header : Header) (s : Seen) (event : ℕ) (in_check : ReqId → Bool) (proc : ProcId) (job : Job) (verdict : Verdict) (made : Option Made) (first : slice_get (desk_of s proc).reports 0 ≡ Some (reports.Done job (outcomes.Asked verdict) made)) (r : ReqId) (why : job.why ≡ whys.Req r) (es : List (ReqId × OpenCheck)) (has : HasChecks s es) (q : Asked) (found : request_of s r ≡ Some q) (checking : is_checking s q ≡ true) (open_ : all_asked s q ≡ false) (one : AreOneEach job.nr job.doc q.asks) (says : AnswerIs job.nr verdict q.asks) where
  -- the event, the log and the request then, and the table
  abbrev e : InEvent
  e = heard.e header s event in_check proc job verdict made first r why es has q found checking open_ one says

  abbrev t : Seen
  t = heard.heard_then header s event in_check proc job verdict made first r why es has q found checking open_ one says

  abbrev told : List (ReqId × OpenCheck)
  told = heard.told header s event in_check proc job verdict made first r why es has q found checking open_ one says

  abbrev then : Asked
  then = heard.then header s event in_check proc job verdict made first r why es has q found checking open_ one says

  there : request_of t r ≡ Some then
  there = heard.then_found header s event in_check proc job verdict made first r why es has q found checking open_ one says

  told_at : check_of r told ≡ Some (open_check (is_gone t) then.asks)
  told_at = heard.told_at header s event in_check proc job verdict made first r why es has q found checking open_ one says

  other : (req : ReqId) → (req.0 == r.0) ≡ false → request_of t req ≡ request_of s req
  other req apart =
      ap (λ (l : List Asked). request_in l req) (requests_are s event actors.Coord proc job verdict made first r why)
      ∙ on_else s.requests r (answered s event actors.Coord proc job verdict made first r why) req apart

  change : ChangesOne s t r
  change =
      record { others = other; gone = gone_same s event actors.Coord proc job verdict made first r why }

  -- ---- another question is open still

  pub open_tied : all_asked t then ≡ false → AreChecksTied t told
  open_tied still =
      one_tied s t r es told change (others_changed r (table.after_answer job.doc verdict) es) has.tied (rw (there, told_at) (heard.checking_then header s event in_check proc job verdict made first r why es has q found checking open_ one says still, subst (λ (b : Bool). IsCheckTied t then (open_check (is_gone t) then.asks) b) (sym still) refl))

  -- ---- the request has passed

  pub go_tied : all_asked t then ≡ true → AreChecksTied t (ended r told)
  go_tied settled =
      one_tied s t r es (ended r told) change (λ req apart. others_ended r told req apart ∙ others_changed r (table.after_answer job.doc verdict) es req apart) has.tied (rw (there, check_ended r told) unchecked)
    where
      unchecked : is_checking t then ≡ false
      unchecked =
          rw (heard.heard_passes header s event in_check proc job verdict made first r why es has q found checking open_ one says settled) (no_more (is_checked then) (is_under_way then))
        where
          no_more : (a b : Bool) → (a && b && false) ≡ false
          no_more true true = refl
          no_more true false = refl
          no_more false b = refl

  -- ---- the user is asked

  module _ (open_checked : OpenChecked s) (within : (req : ReqId) → in_check req ≡ false → check_of req es ≡ None) (settled : all_asked t then ≡ true) (doc : DocId) (is_due : due_prompt t then ≡ Some doc) (unanswered : q.answered ≡ None) where
    abbrev prompt_then : Seen
    prompt_then = after t (row_of e (rows.Prompted r doc))

    asked : AreAskedDuly in_check s prompt_then (record { checks = told; run = [] })
    asked =
        on.asked_duly header s event in_check proc job verdict made first r why es has q found checking open_ one says open_checked within settled doc is_due unanswered

    pub asked_tied : AreChecksTied prompt_then told
    asked_tied =
        one_tied s prompt_then r es told (record {
          others = λ req apart. prompted_other s t event actors.Coord r doc req apart ∙ other req apart;
          gone = change.gone;
        }) (others_changed r (table.after_answer job.doc verdict) es) has.tied
        (on.asked_tied_one header s event in_check proc job verdict made first r why es has q found checking open_ one says open_checked within settled doc is_due unanswered)

    -- the event of the two rows passes
    pub asked_event : IsPaid e (rows.Prompted r doc ∷ []) → IsTakenIn e (later_of e (rows.Prompted r doc ∷ [])) → (has_traversed e (rows.Prompted r doc ∷ []) ≡ true → (now_of e (rows.Prompted r doc ∷ [])).parked ≡ []) → EachPass (start_of e) (rows_of e (rows.Prompted r doc ∷ [])) []
    asked_event paid taken parked =
        pass_asked (Agreed (todo_of told) just_it e (rows.Prompted r doc ∷ []) Free) e (rows.Prompted r doc ∷ []) (record { checks = told; run = [] }) asked (heard.heard_prompt_pass header s event in_check proc job verdict made first r why es has q found checking open_ one says settled Free doc is_due) (agreed_end (todo_of told) just_it e (rows.Prompted r doc ∷ []) Free Free agrees tt) paid taken parked (tied_none_noted prompt_then (after_all_deaths [] told) (subst (λ (l : List (ReqId × OpenCheck)). HasChecks prompt_then l) (sym (told_none told)) has_then))
      where
        Free : List LogRow → Type 0
        Free later = Unit {0}

        just_it : ReqId → Bool
        just_it req = req.0 == r.0

        agrees : AgreesNow (todo_of told) just_it prompt_then
        agrees =
            on.asked_agrees header s event in_check proc job verdict made first r why es has q found checking open_ one says open_checked within settled doc is_due unanswered

        has_then : HasChecks prompt_then told
        has_then =
            record {
              tied = asked_tied;
              said = said_then;
              numbered = told_numbers s prompt_then (record { checks = told; run = [] }) asked.run;
              prompted = asked.prompted;
            }
          where
            said_then : AreSaid prompt_then
            said_then = told_said s prompt_then (record { checks = told; run = [] }) asked.run
