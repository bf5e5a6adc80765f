-- An event that delivers a report, up to where the table of checks was told of it: what it asks of the rows that follow.
use Rattle.std.proofs.Common.{◌≡◌, ℕ, Bool, true, false, cond, ◌==◌, List, [], ◌∷◌, map, slice_get, Option, Some, None, refl, sym, ap, ◌∙◌, subst, arith}
use Rattle.std.specs.Prelude.{is_some}
use Rattle.std.specs.List.{list_all}
use Rattle.std.proofs.lemmas.Bool.{and_parts}
use Rattle.std.proofs.lemmas.Bool.Decides.{nat_tests}
use Rattle.tab_ids.specs.declared.ProcId.{ProcId}
use Rattle.tab_ids.specs.declared.ReqId.{ReqId}
use Rattle.log_model.specs.declared.handler.Verdict.{Verdict}
use Rattle.log_model.specs.declared.header.Header.{Header}
use Rattle.log_model.specs.declared.job.Job.{Job}
use Rattle.log_model.specs.declared.job.Why.TheVariants as whys
use Rattle.log_model.specs.declared.made.Made.{Made}
use Rattle.log_model.specs.declared.made.Report.TheVariants as reports
use Rattle.log_model.specs.declared.outcome.Outcome.TheVariants as outcomes
use Rattle.log_model.specs.declared.row_kind.Actor.{Actor}
use Rattle.log_model.specs.declared.row_kind.LogRow.{LogRow}
use Rattle.log_model.specs.declared.row_kind.RowKind.TheVariants as rows
use Rattle.log_model.specs.Outcomes.{is_drop}
use Rattle.log_model.specs.Equal.{holds}
use Rattle.log_model.specs.Seen.{Seen, Asked, Asking, desk_of, request_of}
use Rattle.log_model.specs.After.{after}
use Rattle.log_model.specs.Places.{all_asked, is_gone, is_settled_asking}
use Rattle.log_model.specs.Checks.{prompts_duly}
use Rattle.unload_check.specs.Checks as table
use Rattle.unload_check.specs.Checks.{OpenCheck, changed, check_of, is_req}
use Rattle.unload_check.proofs.Stays.{others_changed}
use Rattle.seen_laws.specs.Blocks.{EachPass, point_at}
use Rattle.seen_laws.specs.InEvent.{InEvent, log_of, row_of, start_of}
use Rattle.row_facts.specs.FrameRows.Lawful.{IsRestOf}
use Rattle.check_facts.specs.Checking.{AnswerIs, AreOneEach, AreTiedAt, heard, is_checking, is_said, open_check}
use Rattle.check_facts.specs.Having.{HasChecks}
use Rattle.check_facts.specs.Prompting.{AgreesNow, AreAsking, DropsNone, IsAskDue, KeepsQuestions, NothingElseDue, had_settled, has_settled, is_asked, none_ran, prompt_of, todo_of}
use Rattle.std.specs.Prelude.{option_and_then, option_map}
use Rattle.log_model.specs.Checks.{due_prompt}
use Rattle.check_facts.proofs.Carried.{settles_due, stay_own}
use Rattle.check_facts.proofs.Changes.{heard_numbers, numbers_same, said_heard}
use Rattle.check_facts.proofs.Events.{asking_noted, asking_own}
use Rattle.check_facts.proofs.Hearings.{answered, gone_same, heard_drops, heard_keeps, hearing, request_heard}
use Rattle.check_facts.proofs.Notings.{answer_agrees, answer_notes, notes_same, tied_unnoted}
use Rattle.check_facts.proofs.Rows.{settled_more}
use Rattle.check_facts.proofs.Tables.{todo_due, todo_open}
use Rattle.check_facts.proofs.Ties.{answer_at}
use Rattle.seen_facts.proofs.Each.Courses.{was_asked}
use Rattle.unload_check.specs.Checks.{outcome_of}

-- the own row passes, if the prompts that it makes due come
abbrev pub OwnPasses : InEvent → Type 0
OwnPasses e =
    (later : List LogRow) → IsRestOf e [] later → prompts_duly (point_at (start_of e) later) (row_of e e.own) ≡ true → EachPass (start_of e) (row_of e e.own ∷ []) later

-- ---- any report

-- with the table as it was, all that its row makes due is still to be noted
pub begins : (e : InEvent) (es : List (ReqId × OpenCheck)) → e.before ≡ [] → HasChecks e.start es → KeepsQuestions e.start (after e.start (row_of e e.own)) → DropsNone e.start (after e.start (row_of e e.own)) → OwnPasses e → AreAsking e (todo_of es) none_ran []
begins e es uncut has keeps drops passes =
    asking_own e (todo_of es) none_ran uncut passes keeps drops has.numbered (settles_due e.start (todo_of es) none_ran e.start (row_of e e.own) (stay_own e.start) has.prompted (tied_unnoted e.start es has.tied has.said))

-- ---- an answer

module _ (header : Header) (s : Seen) (event : ℕ) (actor : Actor) (in_check : ReqId → Bool) (proc : ProcId) (job : Job) (verdict : Verdict) (made : Option Made) (first : slice_get (desk_of s proc).reports 0 ≡ Some (reports.Done job (outcomes.Asked verdict) made)) (r : ReqId) (why : job.why ≡ whys.Req r) (es : List (ReqId × OpenCheck)) (has : HasChecks s es) (q : Asked) (found : request_of s r ≡ Some q) (checking : is_checking s q ≡ true) (open_ : all_asked s q ≡ false) (one : AreOneEach job.nr job.doc q.asks) (says : AnswerIs job.nr verdict q.asks) where
  abbrev pub e : InEvent
  e = record { header = header; start = s; event = event; actor = actor; own = rows.Delivered proc; before = []; ran = []; checking = in_check; due = λ end. true; wants = λ behind. true }

  -- the log and the table once both have the answer, and the request then
  abbrev pub next : Seen
  next = hearing s event actor proc job verdict made first r why

  abbrev pub told : List (ReqId × OpenCheck)
  told = changed r (table.after_answer job.doc verdict) es

  abbrev pub then : Asked
  then = answered s event actor proc job verdict made first r why q

  pub then_found : request_of next r ≡ Some then
  then_found =
      request_heard s event actor proc job verdict made first r why r q found
      ∙ ap (λ (b : Bool). let o : Option Asked = Some (cond b then q) in o) (let itself : (r.0 == r.0) ≡ true = grind (arith, nat_tests) in itself)

  -- the table has the check of its questions after the delivery
  pub told_at : check_of r told ≡ Some (open_check (is_gone next) then.asks)
  told_at =
      answer_at s next es r job.nr job.doc verdict q (subst (λ (o : Option Asked). AreTiedAt s o (check_of r es)) found (has.tied.each r)) checking open_ (has.said r q found) one says (gone_same s event actor proc job verdict made first r why)

  then_said : list_all is_said then.asks ≡ true
  then_said = said_heard job.nr verdict q.asks says (has.said r q found)

  unnoted : todo_of es r ≡ None
  unnoted =
      let nr : q.nr ≡ r = has.numbered r q found in
      subst (λ (x : ReqId). todo_of es x ≡ None) nr (tied_unnoted s es has.tied has.said q (ap (λ (x : ReqId). request_of s x) nr ∙ found) open_)

  -- from then on the table notes what is due
  pub answer_begins : OwnPasses e → AreAsking e (todo_of told) (λ req. is_req req r) []
  answer_begins passes =
      asking_noted e (todo_of es) none_ran (todo_of told) (λ req. is_req req r) [] (heard_numbers s event actor proc job verdict made first r why has.numbered) (answer_notes s (log_of e []) es told r (others_changed r (table.after_answer job.doc verdict) es) unnoted) (begins e es refl has (heard_keeps s event actor proc job verdict made first r why) (heard_drops s event actor proc job verdict made first r why) passes)

  -- where another question is open still, it notes what it did
  pub answer_begins_open : all_asked next then ≡ false → OwnPasses e → AreAsking e (todo_of told) none_ran []
  answer_begins_open still passes =
      asking_noted e (todo_of es) none_ran (todo_of told) none_ran [] (heard_numbers s event actor proc job verdict made first r why has.numbered) (notes_same s (log_of e []) (todo_of es) (todo_of told) none_ran (λ req. by_number req (is_req req r) refl)) (begins e es refl has (heard_keeps s event actor proc job verdict made first r why) (heard_drops s event actor proc job verdict made first r why) passes)
    where
      by_number : (req : ReqId) (b : Bool) → is_req req r ≡ b → todo_of told req ≡ todo_of es req
      by_number req false is =
          ap (λ (o : Option OpenCheck). option_and_then prompt_of (option_map outcome_of o)) (others_changed r (table.after_answer job.doc verdict) es req is)
      by_number req true is =
          let it : req ≡ r = ap (λ (n : ℕ). let x : ReqId = record { 0 = n } in x) (let n : req.0 ≡ r.0 = grind (arith, nat_tests, is) in n) in
          ap (todo_of told) it ∙ todo_open r told (is_gone next) then.asks told_at then_said still ∙ sym (ap (todo_of es) it ∙ unnoted)

  -- nothing is due but what it notes
  pub answer_nothing : holds is_drop q.ending ≡ false → NothingElseDue s (todo_of told) next
  answer_nothing undropped req x at fresh settled un none =
      let p = was_asked (λ (y : Asked). y.nr) s.requests next.requests (numbers_same s event actor proc job verdict made first r why) req x at in
      by_number p.0 p.1 (req.0 == r.0) refl
    where
      some_same : {a b : Asked} → (let o : Option Asked = Some a in o) ≡ Some b → a ≡ b
      some_same e = cc

      never : {A : Type 0} → true ≡ false → A
      never e = absurd cc

      by_number : (p : Asked) → request_of s req ≡ Some p → (b : Bool) → (req.0 == r.0) ≡ b → due_prompt next x ≡ None
      by_number p was false is =
          let then_ : request_of next req ≡ Some p = request_heard s event actor proc job verdict made first r why req p was ∙ ap (λ (b : Bool). let o : Option Asked = Some (cond b (answered s event actor proc job verdict made first r why p) p) in o) is in
          let same : p ≡ x = some_same (sym then_ ∙ at) in
          let parts = and_parts (is_asked x.asks) (all_asked next x) settled in
          let all : all_asked s x ≡ true = settled_more next s x.asks (λ doc g. sym (gone_same s event actor proc job verdict made first r why doc) ∙ g) parts.1 in
          let here : has_settled s x ≡ true = rw (parts.0, all) refl in
          let had : had_settled s req ≡ true = ap (λ (o : Option Asked). holds (has_settled s) o) was ∙ ap (has_settled s) same ∙ here in
          never (sym had ∙ fresh)
      by_number p was true is =
          let it : req ≡ r = ap (λ (n : ℕ). let y : ReqId = record { 0 = n } in y) (let n : req.0 ≡ r.0 = grind (arith, nat_tests, is) in n) in
          let own : request_of next r ≡ Some x = subst (λ (y : ReqId). request_of next y ≡ Some x) it at in
          let same : then ≡ x = some_same (sym then_found ∙ own) in
          let nr : x.nr ≡ r = ap (λ (y : Asked). y.nr) (sym same) ∙ has.numbered r q found in
          let parts = and_parts (is_asked x.asks) (all_asked next x) settled in
          let all : all_asked next then ≡ true = ap (all_asked next) same ∙ parts.1 in
          ap (due_prompt next) (sym same) ∙ sym (todo_due next then r told told_at then_said all undropped) ∙ ap (todo_of told) (sym nr) ∙ none

  -- where the answer was the last, the note agrees with what is due
  pub answer_noted : all_asked next then ≡ true → holds is_drop q.ending ≡ false → AgreesNow (todo_of told) (λ req. is_req req r) next
  answer_noted settled undropped = answer_agrees next told r then then_found told_at then_said settled undropped

  -- and the user may be asked
  pub answer_due : all_asked next then ≡ true → IsAskDue s next r
  answer_due settled =
      record {
        was = q;
        found_then = found;
        open_then = open_;
        q = then;
        found = then_found;
        settled = rw (asked q.asks open_, settled) refl;
        unprompted = by_test (is_some q.prompted) refl;
      }
    where
      asked : (asks : List Asking) → list_all (is_settled_asking (is_gone s)) asks ≡ false → is_asked (map (heard job.nr) asks) ≡ true
      asked [] e = cc
      asked (asking ∷ asks) e = refl

      by_test : (b : Bool) → is_some q.prompted ≡ b → b ≡ false
      by_test false is = refl
      by_test true is =
          let parts = and_parts (is_asked q.asks) (all_asked s q) (has.prompted r q found is) in absurd cc
