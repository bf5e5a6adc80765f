-- After an answer: who is in a check, and how it goes on. Another question is open still, or the request passes, or the user is asked.
use Rattle.std.proofs.Common.{◌≡◌, ℕ, Bool, true, false, ◌&&◌, List, [], slice_get, Option, Some, None, refl, sym, ap, ◌∙◌, subst}
use Rattle.std.specs.Prelude.{option_and_then, option_map}
use Rattle.std.proofs.lemmas.Bool.{and_parts}
use Rattle.tab_ids.specs.declared.DocId.{DocId}
use Rattle.tab_ids.specs.declared.ProcId.{ProcId}
use Rattle.tab_ids.specs.declared.ReqId.{ReqId}
use Rattle.log_model.specs.declared.handler.Verdict.{Verdict}
use Rattle.log_model.specs.declared.header.Header.{Header}
use Rattle.log_model.specs.declared.job.Job.{Job}
use Rattle.log_model.specs.declared.job.Why.TheVariants as whys
use Rattle.log_model.specs.declared.made.Made.{Made}
use Rattle.log_model.specs.declared.made.Report.TheVariants as reports
use Rattle.log_model.specs.declared.outcome.Outcome.TheVariants as outcomes
use Rattle.log_model.specs.declared.row_kind.Actor.TheVariants as actors
use Rattle.log_model.specs.declared.row_kind.LogRow.{LogRow}
use Rattle.log_model.specs.declared.row_kind.RowKind.TheVariants as rows
use Rattle.log_model.specs.After.{after}
use Rattle.log_model.specs.Checks.{due_prompt, is_checked}
use Rattle.log_model.specs.Places.{all_asked, has_passed, is_gone, is_under_way}
use Rattle.log_model.specs.Seen.{Asked, Seen, desk_of, request_in, request_of}
use Rattle.unload_check.specs.Checks as table
use Rattle.unload_check.specs.Checks.{OpenCheck, after_all_deaths, check_of, ended, outcome_of}
use Rattle.unload_check.proofs.Stays.{others_changed}
use Rattle.seen_laws.specs.InEvent.{InEvent, row_of}
use Rattle.check_facts.proofs.Begins as begins
use Rattle.seen_facts.proofs.Coord.Held.{on_else}
use Rattle.check_facts.proofs.Changes.{prompt_agrees}
use Rattle.check_facts.proofs.Hearings.{answered, requests_are}
use Rattle.check_facts.specs.Checking.{AnswerIs, AreOneEach, IsTiedIn, is_checking}
use Rattle.check_facts.specs.Having.{HasChecks, OpenChecked}
use Rattle.check_facts.specs.Prompting.{AgreesNow, prompt_of, todo_of}
use Rattle.unasked_dues.specs.Checking.{NonePasses}
use Rattle.checking_facts.proofs.Askings.{heard_waits}
use Rattle.checking_facts.proofs.Cases.{delivered_checks}
use Rattle.checking_facts.proofs.Entering.{passed_checks}
use Rattle.checking_facts.proofs.Waits.{just_waits, none_waits, passed_waits}
use Rattle.checking_facts.specs.Checks.{AreInCheck, NonePassesBut, SameBut, just}
use Rattle.checking_facts.specs.Prompts.{AreAskedDuly, PassIf}
use Rattle.asking_facts.proofs.Blocks.{pass_as}
use Rattle.asking_facts.proofs.Ended.{IsUnnoted, ended_duly, ended_pass}
use Rattle.asking_facts.proofs.Heard as heard
use Rattle.asking_facts.proofs.Notes.{open_wanted}
use Rattle.asking_facts.proofs.NotesOver.{one_notes}
use Rattle.asking_facts.proofs.Ones.{told_none}
use Rattle.asking_facts.proofs.Prompted.{prompt_duly, prompt_none, prompt_tied}
use Rattle.asking_facts.specs.Prompting.{NotesWanted, has_wanted}

some_same : {A : Type 0} {a b : A} → (let o : Option A = Some a in o) ≡ Some b → a ≡ b
some_same e = cc

module _ (header : Header) (s : Seen) (event : ℕ) (in_check : ReqId → Bool) (proc : ProcId) (job : Job) (verdict : Verdict) (made : Option Made) (first : slice_get (desk_of s proc).reports 0 ≡ Some (reports.Done job (outcomes.Asked verdict) made)) (r : ReqId) (why : job.why ≡ whys.Req r) (es : List (ReqId × OpenCheck)) (has : HasChecks s es) (q : Asked) (found : request_of s r ≡ Some q) (checking : is_checking s q ≡ true) (open_ : all_asked s q ≡ false) (one : AreOneEach job.nr job.doc q.asks) (says : AnswerIs job.nr verdict q.asks) where
  -- the event, the log and the request then, and the table
  abbrev e : InEvent
  e = heard.e header s event in_check proc job verdict made first r why es has q found checking open_ one says

  abbrev t : Seen
  t = heard.heard_then header s event in_check proc job verdict made first r why es has q found checking open_ one says

  abbrev told : List (ReqId × OpenCheck)
  told = heard.told header s event in_check proc job verdict made first r why es has q found checking open_ one says

  abbrev then : Asked
  then = heard.then header s event in_check proc job verdict made first r why es has q found checking open_ one says

  abbrev just_it : ReqId → Bool
  just_it = heard.just_it header s event in_check proc job verdict made first r why es has q found checking open_ one says

  there : request_of t r ≡ Some then
  there = heard.then_found header s event in_check proc job verdict made first r why es has q found checking open_ one says

  -- ---- what is noted

  -- whichever document the table notes wanted it
  pub heard_notes : NotesWanted s es → NotesWanted t told
  heard_notes notes =
      one_notes s t es told r (λ req apart. ap (λ (l : List Asked). request_in l req) (requests_are s event actors.Coord proc job verdict made first r why) ∙ on_else s.requests r (answered s event actors.Coord proc job verdict made first r why) req apart) (others_changed r (table.after_answer job.doc verdict) es) own notes
    where
      own : (x : Asked) → request_of t r ≡ Some x → (doc : DocId) → todo_of told r ≡ Some doc → has_wanted doc x.asks ≡ true
      own x at doc noted =
          subst (λ (y : Asked). has_wanted doc y.asks ≡ true) (some_same (sym there ∙ at)) (open_wanted (is_gone t) doc then.asks (ap (λ (o : Option OpenCheck). option_and_then prompt_of (option_map outcome_of o)) (sym (heard.told_at header s event in_check proc job verdict made first r why es has q found checking open_ one says)) ∙ noted))

  -- ---- who is in a check

  pub heard_checks : AreInCheck in_check s → AreInCheck in_check t
  heard_checks are = delivered_checks in_check s event actors.Coord are proc

  -- none has passed but the request that was asked for
  pub heard_but : NonePasses in_check s → NonePassesBut in_check (just r) t
  heard_but none =
      heard_waits in_check s event actors.Coord r (none_waits in_check s none (just r)) proc job verdict made first why

  -- nor has that one, while another question is open
  pub heard_open_none : all_asked t then ≡ false → NonePasses in_check s → NonePasses in_check t
  heard_open_none still none =
      just_waits in_check t r (λ x at on. (let waits : has_passed t then ≡ false = rw still refl in subst (λ (y : Asked). has_passed t y ≡ false) (some_same (sym there ∙ at)) waits)) (heard_but none)

  -- ---- the last answer

  module _ (open_checked : OpenChecked s) (within : (req : ReqId) → in_check req ≡ false → check_of req es ≡ None) (settled : all_asked t then ≡ true) where
    duly : AreAskedDuly in_check s t (record { checks = told; run = [] })
    duly =
        heard.heard_duly header s event in_check proc job verdict made first r why es has q found checking open_ one says open_checked within

    noted : todo_of told r ≡ due_prompt t then
    noted =
        heard.heard_noted header s event in_check proc job verdict made first r why es has q found checking open_ one says settled

    -- what is noted agrees with what is due
    pub heard_agrees : AgreesNow (todo_of told) just_it t
    heard_agrees =
        begins.answer_noted header s event actors.Coord in_check proc job verdict made first r why es has q found checking open_ one says settled (heard.undropped header s event in_check proc job verdict made first r why es has q found checking open_ one says)

    -- ---- nothing is due: the request passes, and its check ends

    module _ (none_due : due_prompt t then ≡ None) (passed : ReqId → Bool) (same : SameBut r in_check passed) where
      passes : (x : Asked) → request_of t r ≡ Some x → has_passed t x ≡ true
      passes x at =
          subst (λ (y : Asked). has_passed t y ≡ true) (some_same (sym there ∙ at)) (heard.heard_passes header s event in_check proc job verdict made first r why es has q found checking open_ one says settled)

      unnoted : IsUnnoted t (after_all_deaths [] told) r
      unnoted x at un = ap (λ (l : List (ReqId × OpenCheck)). todo_of l r) (told_none told) ∙ noted ∙ none_due

      pub go_duly : AreAskedDuly passed s t (record { checks = ended r told; run = [] })
      go_duly =
          subst (λ (l : List (ReqId × OpenCheck)). AreAskedDuly passed s t (record { checks = ended r l; run = [] })) (told_none told) (ended_duly in_check s t (record { checks = told; run = [] }) duly r unnoted passed same passes)

      pub go_pass : (Rest : List LogRow → Type 0) → PassIf Rest (record e { checking = passed }) (todo_of (ended r told)) []
      go_pass Rest =
          subst (λ (l : List (ReqId × OpenCheck)). PassIf Rest (record e { checking = passed }) (todo_of (ended r l)) []) (told_none told) (pass_as Rest e passed (todo_of (ended r (after_all_deaths [] told))) [] (ended_pass Rest e [] (record { checks = told; run = [] }) duly r unnoted (subst (λ (l : List (ReqId × OpenCheck)). PassIf Rest e (todo_of l) []) (sym (told_none told)) (heard.heard_go_pass header s event in_check proc job verdict made first r why es has q found checking open_ one says settled Rest none_due))))

      module _ (off : passed r ≡ false) where
        pub go_checks : AreInCheck in_check s → AreInCheck passed t
        go_checks are = passed_checks in_check passed t r same off passes (heard_checks are)

        pub go_none : NonePasses in_check s → NonePasses passed t
        go_none none = passed_waits in_check passed t r same off (heard_but none)

    -- ---- a prompt is due: the user is asked straight after the answer

    module _ (doc : DocId) (is_due : due_prompt t then ≡ Some doc) (unanswered : q.answered ≡ None) where
      abbrev pub prompt_then : Seen
      prompt_then = after t (row_of e (rows.Prompted r doc))

      noted_doc : todo_of (after_all_deaths [] told) r ≡ Some doc
      noted_doc = ap (λ (l : List (ReqId × OpenCheck)). todo_of l r) (told_none told) ∙ noted ∙ is_due

      under : (is_checked then && is_under_way then) ≡ true
      under =
          heard.under_then header s event in_check proc job verdict made first r why es has q found checking open_ one says

      pub asked_duly : AreAskedDuly in_check s prompt_then (record { checks = told; run = [] })
      asked_duly =
          subst (λ (l : List (ReqId × OpenCheck)). AreAskedDuly in_check s prompt_then (record { checks = l; run = [] })) (told_none told) (prompt_duly e in_check s t (record { checks = told; run = [] }) duly r doc noted_doc (heard.heard_due header s event in_check proc job verdict made first r why es has q found checking open_ one says settled) then there (record {
            checked = (and_parts (is_checked then) (is_under_way then) under).0;
            under = (and_parts (is_checked then) (is_under_way then) under).1;
            unanswered = unanswered;
          }))

      pub asked_agrees : AgreesNow (todo_of told) just_it prompt_then
      asked_agrees = prompt_agrees s t event actors.Coord r doc (todo_of told) just_it heard_agrees

      pub asked_none : NonePasses in_check s → NonePasses in_check prompt_then
      asked_none none = prompt_none e in_check t r doc then there unanswered (heard_but none)

      -- its check stays the table's, and the prompt is up
      pub asked_tied_one : IsTiedIn prompt_then told r
      asked_tied_one =
          subst (λ (l : List (ReqId × OpenCheck)). IsTiedIn prompt_then l r) (told_none told) (prompt_tied e in_check s t (record { checks = told; run = [] }) duly r doc noted_doc (heard.heard_due header s event in_check proc job verdict made first r why es has q found checking open_ one says settled) then there (record {
            checked = (and_parts (is_checked then) (is_under_way then) under).0;
            under = (and_parts (is_checked then) (is_under_way then) under).1;
            unanswered = unanswered;
          }))
