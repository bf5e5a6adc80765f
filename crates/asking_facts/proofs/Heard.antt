-- The answer to a question is delivered, as an event's own row: the row passes if the prompts that it makes due come, and what is carried of the checks stays.
use Rattle.std.proofs.Common.{◌≡◌, inl, inr, ℕ, Bool, true, false, not, ◌&&◌, ◌||◌, List, [], ◌∷◌, slice_get, Option, Some, None, refl, sym, ap, ◌∙◌, subst}
use Rattle.std.specs.Prelude.{is_none, is_some, option_map}
use Rattle.std.specs.List.{list_all}
use Rattle.std.specs.Option.{option_map_or}
use Rattle.std.proofs.lemmas.Bool.{and_parts}
use Rattle.tab_ids.specs.declared.DocId.{DocId}
use Rattle.tab_ids.specs.declared.ProcId.{ProcId}
use Rattle.tab_ids.specs.declared.ReqId.{ReqId}
use Rattle.log_model.specs.declared.handler.Verdict.{Verdict}
use Rattle.log_model.specs.declared.header.Header.{Header}
use Rattle.log_model.specs.declared.job.Job.{Job}
use Rattle.log_model.specs.declared.job.Why.TheVariants as whys
use Rattle.log_model.specs.declared.made.Made.{Made}
use Rattle.log_model.specs.declared.made.Report.TheVariants as reports
use Rattle.log_model.specs.declared.outcome.Ending.{Ending}
use Rattle.log_model.specs.declared.outcome.Outcome.TheVariants as outcomes
use Rattle.log_model.specs.declared.row_kind.Actor.TheVariants as actors
use Rattle.log_model.specs.declared.row_kind.LogRow.{LogRow}
use Rattle.log_model.specs.declared.row_kind.RowKind.{RowKind}
use Rattle.log_model.specs.declared.row_kind.RowKind.TheVariants as rows
use Rattle.log_model.specs.Checks.{due_prompt, is_checked}
use Rattle.log_model.specs.Equal.{holds}
use Rattle.log_model.specs.Outcomes.{is_drop}
use Rattle.log_model.specs.Places.{all_asked, has_passed, is_gone, is_under_way}
use Rattle.log_model.specs.Seen.{Asked, Seen, desk_of, request_in, request_of}
use Rattle.unload_check.specs.Checks as table
use Rattle.unload_check.specs.Checks.{OpenCheck, changed, check_of, is_req, is_settled}
use Rattle.unload_check.proofs.Stays.{others_changed}
use Rattle.seen_laws.specs.Blocks.{Passes, point_at}
use Rattle.seen_laws.specs.InEvent.{InEvent, row_of, start_of}
use Rattle.seen_facts.proofs.Coord.Held.{on_else}
use Rattle.check_facts.proofs.Begins as begins
use Rattle.check_facts.proofs.Begins.{OwnPasses}
use Rattle.check_facts.proofs.Changes.{heard_numbers, said_heard}
use Rattle.check_facts.proofs.Checkings.{settled_same}
use Rattle.check_facts.proofs.Hearings.{answered, gone_same, hearing, requests_are}
use Rattle.check_facts.proofs.Tables.{check_changed, todo_due}
use Rattle.check_facts.specs.Checking.{AnswerIs, AreOneEach, AreTiedAt, IsCheckTied, is_checking, is_said, open_check}
use Rattle.check_facts.specs.Having.{HasChecks, IsHeld, OpenChecked}
use Rattle.check_facts.specs.Prompting.{AreAsking, HaveNumbers, IsAskDue, has_settled, is_asked, none_ran, todo_of}
use Rattle.checking_facts.proofs.Grown.{req_same}
use Rattle.checking_facts.specs.Prompts.{AreAskedDuly, PassIf}
use Rattle.asking_facts.proofs.Ended.{between_duly}
use Rattle.asking_facts.proofs.Noting.{agreed_always, agreed_prompt, pass_less}
use Rattle.asking_facts.proofs.Ones.{one_duly, told_none}
use Rattle.asking_facts.proofs.Prompted.{prompt_pass}
use Rattle.asking_facts.specs.Noting.{Agreed}
use Rattle.asking_facts.specs.Ones.{ChangesOne, IsOneHeld}

never : {A : Type 0} → true ≡ false → A
never e = absurd cc

some_same : {A : Type 0} {a b : A} → (let o : Option A = Some a in o) ≡ Some b → a ≡ b
some_same e = cc

-- ---- rows that pass if what comes later agrees

pub pass_asking : (Rest : List LogRow → Type 0) (e : InEvent) (todo : ReqId → Option DocId) (ran : ReqId → Bool) (out : List RowKind) → AreAsking e todo ran out → PassIf (Agreed todo ran e out Rest) e todo out
unfolding AreAsking PassIf
pass_asking Rest e todo ran out asking later rest =
    asking later (record { rest = rest.0.rest; prompts = rest.0.prompts; agrees = rest.1.0 })

pub pass_none : (Rest : List LogRow → Type 0) (e : InEvent) (todo : ReqId → Option DocId) (out : List RowKind) → AreAsking e todo none_ran out → PassIf Rest e todo out
unfolding AreAsking PassIf
pass_none Rest e todo out asking later rest =
    asking later (record { rest = rest.0.rest; prompts = rest.0.prompts; agrees = rest.0.agrees })

-- ---- an answer

module _ (header : Header) (s : Seen) (event : ℕ) (in_check : ReqId → Bool) (proc : ProcId) (job : Job) (verdict : Verdict) (made : Option Made) (first : slice_get (desk_of s proc).reports 0 ≡ Some (reports.Done job (outcomes.Asked verdict) made)) (r : ReqId) (why : job.why ≡ whys.Req r) (es : List (ReqId × OpenCheck)) (has : HasChecks s es) (q : Asked) (found : request_of s r ≡ Some q) (checking : is_checking s q ≡ true) (open_ : all_asked s q ≡ false) (one : AreOneEach job.nr job.doc q.asks) (says : AnswerIs job.nr verdict q.asks) where
  -- the event, the log once the report is delivered, and the table and the request then
  abbrev pub e : InEvent
  e = begins.e header s event actors.Coord in_check proc job verdict made first r why es has q found checking open_ one says

  abbrev pub heard_then : Seen
  heard_then = hearing s event actors.Coord proc job verdict made first r why

  abbrev pub told : List (ReqId × OpenCheck)
  told = changed r (table.after_answer job.doc verdict) es

  abbrev pub then : Asked
  then = answered s event actors.Coord proc job verdict made first r why q

  abbrev pub just_it : ReqId → Bool
  just_it req = is_req req r

  pub then_found : request_of heard_then r ≡ Some then
  then_found =
      begins.then_found header s event actors.Coord in_check proc job verdict made first r why es has q found checking open_ one says

  pub told_at : check_of r told ≡ Some (open_check (is_gone heard_then) then.asks)
  told_at =
      begins.told_at header s event actors.Coord in_check proc job verdict made first r why es has q found checking open_ one says

  pub then_said : list_all is_said then.asks ≡ true
  then_said = said_heard job.nr verdict q.asks says (has.said r q found)

  -- the row passes, if what the report tells beside is taken up
  pub own_passes : OwnPasses e
  own_passes later rest duly = (passes, tt)
    where
      passes : Passes header (point_at (start_of e) later) (row_of e e.own)
      passes =
          record {
            formed = rw first refl;
            once = refl;
            caused = refl;
            queued = rest.rest.taken;
            ordered = refl;
            checked = duly;
            in_time = refl;
            suits = refl;
          }

  -- ---- the rows so far pass

  -- with the table that has the answer, if what comes later agrees with what it notes
  pub heard_pass : (Rest : List LogRow → Type 0) → PassIf (Agreed (todo_of told) just_it e [] Rest) e (todo_of told) []
  heard_pass Rest =
      pass_asking Rest e (todo_of told) just_it [] (begins.answer_begins header s event actors.Coord in_check proc job verdict made first r why es has q found checking open_ one says own_passes)

  -- whatever comes, where another question is open still
  pub heard_open_pass : (Rest : List LogRow → Type 0) → all_asked heard_then then ≡ false → PassIf Rest e (todo_of told) []
  heard_open_pass Rest still =
      pass_none Rest e (todo_of told) [] (begins.answer_begins_open header s event actors.Coord in_check proc job verdict made first r why es has q found checking open_ one says still own_passes)

  -- ---- what is carried of prompts

  pub undropped : holds is_drop q.ending ≡ false
  undropped = by_ending q.ending refl (third (is_checked q) q.is_started (is_none q.ending) (not (has_passed s q)) checking)
    where
      third : (a b c d : Bool) → (a && (b && c) && d) ≡ true → c ≡ true
      third true true true d is = refl
      third true true false d is = cc
      third true false c d is = cc
      third false b c d is = cc

      by_ending : (o : Option Ending) → q.ending ≡ o → is_none o ≡ true → holds is_drop o ≡ false
      by_ending None is e = refl
      by_ending (Some ending) is e = cc

  pub under_then : (is_checked then && is_under_way then) ≡ true
  under_then = (and_parts (is_checked q && is_under_way q) (not (has_passed s q)) checking).0

  pub was_open : has_settled s q ≡ false
  was_open = rw open_ (no_end (is_asked q.asks))
    where
      no_end : (b : Bool) → (b && false) ≡ false
      no_end true = refl
      no_end false = refl

  -- while one is open, it is in its check
  pub checking_then : all_asked heard_then then ≡ false → is_checking heard_then then ≡ true
  checking_then still = rw still (and_true (is_checked then && is_under_way then) under_then)
    where
      and_true : (b : Bool) → b ≡ true → (b && true) ≡ true
      and_true true is = refl
      and_true false is = cc

  pub held_one : IsOneHeld s heard_then told r then
  held_one =
      record {
        nr = has.numbered r q found;
        said = then_said;
        held = by_all (all_asked heard_then then) refl;
        checked = λ still un. never (sym (checking_then still) ∙ un);
        prompted = λ up. never (sym (has.prompted r q found up) ∙ was_open);
        nothing = λ fresh settled un none. sym (todo_due heard_then then r told told_at then_said (and_parts (is_asked then.asks) (all_asked heard_then then) settled).1 undropped) ∙ none;
      }
    where
      by_all : (b : Bool) → all_asked heard_then then ≡ b → IsHeld heard_then told r then
      by_all true all =
          inr (all, ap (λ (o : Option OpenCheck). option_map_or is_settled o false) told_at ∙ settled_same (is_gone heard_then) then.asks then_said ∙ all)
      by_all false still =
          inl (subst (λ (o : Option OpenCheck). AreTiedAt heard_then (Some then) o) (sym told_at) (checking_then still, subst (λ (b : Bool). IsCheckTied heard_then then (open_check (is_gone heard_then) then.asks) b) (sym still) refl))

  pub heard_duly : OpenChecked s → ((req : ReqId) → in_check req ≡ false → check_of req es ≡ None) → AreAskedDuly in_check s heard_then (record { checks = told; run = [] })
  heard_duly checked within =
      subst (λ (l : List (ReqId × OpenCheck)). AreAskedDuly in_check s heard_then (record { checks = l; run = [] })) (ap (changed r (table.after_answer job.doc verdict)) (told_none es)) (one_duly in_check in_check s s heard_then (record { checks = es; run = [] }) (between_duly in_check s es has checked within) r (λ req apart. refl) change (changed r (table.after_answer job.doc verdict) was) (others_changed r (table.after_answer job.doc verdict) was) (record {
        within = λ out. check_changed r (table.after_answer job.doc verdict) was ∙ ap (λ (o : Option OpenCheck). option_map (table.after_answer job.doc verdict) o) (ap (check_of r) (told_none es) ∙ within r out);
        stays = λ had. never (sym (ap (λ (o : Option Asked). holds (has_settled s) o) (sym found) ∙ had) ∙ was_open);
        each = λ x at. subst (λ (y : Asked). IsOneHeld s heard_then (changed r (table.after_answer job.doc verdict) was) r y) (some_same (sym then_found ∙ at)) (subst (λ (l : List (ReqId × OpenCheck)). IsOneHeld s heard_then (changed r (table.after_answer job.doc verdict) l) r then) (sym (told_none es)) held_one);
      }))
    where
      was : List (ReqId × OpenCheck)
      was = table.after_all_deaths [] es

      change : ChangesOne s heard_then r
      change =
          record {
            others = λ req apart. ap (λ (l : List Asked). request_in l req) (requests_are s event actors.Coord proc job verdict made first r why) ∙ on_else s.requests r (answered s event actors.Coord proc job verdict made first r why) req apart;
            gone = gone_same s event actors.Coord proc job verdict made first r why;
          }

  -- ---- the last answer

  module _ (settled : all_asked heard_then then ≡ true) where
    -- what the table notes is what is due
    pub heard_noted : todo_of told r ≡ due_prompt heard_then then
    heard_noted = todo_due heard_then then r told told_at then_said settled undropped

    -- where nothing is due the rows pass whatever comes, and the request has passed
    pub heard_go_pass : (Rest : List LogRow → Type 0) → due_prompt heard_then then ≡ None → PassIf Rest e (todo_of told) []
    heard_go_pass Rest none =
        pass_less (Agreed (todo_of told) just_it e [] Rest) Rest e (todo_of told) [] (agreed_always (todo_of told) just_it e [] Rest Rest always) (heard_pass Rest)
      where
        always : (req : ReqId) (x : Asked) → request_of heard_then req ≡ Some x → just_it req ≡ true → (due_prompt heard_then x ≡ None) × (todo_of told req ≡ None)
        always req x at is =
            let it : req ≡ r = req_same req r is in
            let same : then ≡ x = some_same (sym then_found ∙ ap (λ (n : ReqId). request_of heard_then n) (sym it) ∙ at) in
            (ap (due_prompt heard_then) (sym same) ∙ none, ap (todo_of told) it ∙ heard_noted ∙ none)

    pub heard_passes : has_passed heard_then then ≡ true
    heard_passes = rw settled (by_prompt q.prompted refl)
      where
        by_prompt : (o : Option DocId) → q.prompted ≡ o → (is_none o || holds not q.answered) ≡ true
        by_prompt None is = refl
        by_prompt (Some doc) is = never (sym (has.prompted r q found (ap (λ (o : Option DocId). is_some o) is)) ∙ was_open)

    -- where one is, the user is asked straight after it
    pub heard_due : IsAskDue s heard_then r
    heard_due =
        begins.answer_due header s event actors.Coord in_check proc job verdict made first r why es has q found checking open_ one says settled

    pub heard_prompt_pass : (Rest : List LogRow → Type 0) (doc : DocId) → due_prompt heard_then then ≡ Some doc → PassIf (Agreed (todo_of told) just_it e (rows.Prompted r doc ∷ []) Rest) e (todo_of told) (rows.Prompted r doc ∷ [])
    heard_prompt_pass Rest doc due =
        prompt_pass e (todo_of told) [] r doc (Agreed (todo_of told) just_it e [] Rest0) (Agreed (todo_of told) just_it e (rows.Prompted r doc ∷ []) Rest) (agreed_prompt (todo_of told) just_it e [] Rest0 Rest r doc (λ later rest. tt)) refl heard_due numbers (heard_noted ∙ due) (heard_pass Rest0)
      where
        Rest0 : List LogRow → Type 0
        Rest0 later = Unit {0}

        numbers : HaveNumbers heard_then
        numbers = heard_numbers s event actors.Coord proc job verdict made first r why has.numbered
