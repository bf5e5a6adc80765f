-- What the table notes with each of its calls is a note more, or the same.
use Rattle.std.proofs.Common.{◌≡◌, ◌⊎◌, inl, inr, ℕ, Bool, true, false, cond, List, Option, Some, None, refl, sym, ap, ◌∙◌, subst, arith, ◌&&◌, ◌||◌}
use Rattle.std.specs.Prelude.{is_none, is_some, option_map, option_and_then}
use Rattle.std.specs.Option.{option_map_or}
use Rattle.std.specs.List.{list_all}
use Rattle.std.proofs.lemmas.Bool.Decides.{nat_tests}
use Rattle.tab_ids.specs.declared.DocId.{DocId}
use Rattle.tab_ids.specs.declared.ReqId.{ReqId}
use Rattle.log_model.specs.Equal.{holds}
use Rattle.log_model.specs.Outcomes.{is_drop}
use Rattle.log_model.specs.Seen.{Seen, Asked, request_of}
use Rattle.log_model.specs.Places.{all_asked, is_gone}
use Rattle.log_model.specs.Checks.{due_prompt}
use Rattle.unload_check.specs.declared.check.Check.TheVariants as checks
use Rattle.unload_check.specs.Checks as table
use Rattle.unload_check.specs.Checks.{KeepsOthers, OpenCheck, check_of, is_req, is_settled, outcome_of}
use Rattle.check_facts.specs.Checking.{AreChecksTied, AreSaid, AreTiedAt, is_said, open_check}
use Rattle.check_facts.specs.Having.{AreHeld, IsHeld}
use Rattle.check_facts.specs.Prompting.{AgreesNow, NotesMore, OpenUnnoted, none_ran, prompt_of, todo_of}
use Rattle.check_facts.proofs.Checkings.{settled_same}
use Rattle.check_facts.proofs.Tables.{todo_due, todo_tied}

-- a table that is tied holds each request's check
pub tied_held : (s : Seen) (es : List (ReqId × OpenCheck)) → AreChecksTied s es → AreHeld s es
tied_held s es tied req q found =
    inl (subst (λ (o : Option Asked). AreTiedAt s o (check_of req es)) found (tied.each req))

-- so it notes nothing for a request with a question open
pub held_unnoted : (s : Seen) (es : List (ReqId × OpenCheck)) → AreHeld s es → AreSaid s → OpenUnnoted (todo_of es) s
held_unnoted s es held said q found open_ = by_held (held q.nr q found)
  where
    by_held : IsHeld s es q.nr q → todo_of es q.nr ≡ None
    by_held (inl tied) = todo_tied s es q.nr q tied (said q.nr q found) open_
    by_held (inr settled) = let both : true ≡ false = sym settled.0 ∙ open_ in absurd cc

pub tied_unnoted : (s : Seen) (es : List (ReqId × OpenCheck)) → AreChecksTied s es → AreSaid s → OpenUnnoted (todo_of es) s
tied_unnoted s es tied said = held_unnoted s es (tied_held s es tied) said

-- ---- a check that notes a prompt is settled, so what leaves settled checks leaves it

noted_settled : (check : OpenCheck) → is_some (prompt_of (outcome_of check)) ≡ true → is_settled check ≡ true
noted_settled check is = by_test (is_settled check) refl is
  where
    by_test : (b : Bool) → is_settled check ≡ b → is_some (prompt_of (cond b (table.decided (table.prompting_doc check.asked) check.stay) checks.Waiting)) ≡ true → b ≡ true
    by_test true e is = refl
    by_test false e is = cc

pub todo_stays : (req : ReqId) (es new : List (ReqId × OpenCheck)) → table.KeepsSettled es new → is_some (todo_of es req) ≡ true → todo_of new req ≡ todo_of es req
todo_stays req es new keeps is =
    ap (λ (o : Option OpenCheck). option_and_then prompt_of (option_map outcome_of o)) (keeps req (by_check (check_of req es) is))
  where
    by_check : (o : Option OpenCheck) → is_some (option_and_then prompt_of (option_map outcome_of o)) ≡ true → option_map_or is_settled o false ≡ true
    by_check None is = cc
    by_check (Some check) is = noted_settled check is

-- a table that notes the same
pub notes_same : (start now : Seen) (todo new : ReqId → Option DocId) (ran : ReqId → Bool) → ((req : ReqId) → new req ≡ todo req) → NotesMore start todo ran new ran now
notes_same start now todo new ran same =
    record { kept = λ req is. (is, same req); more = λ req q found fresh settled un. inl (same q.nr) }

-- ---- an answer

-- it notes at most one prompt more, of the request that was asked for
pub answer_notes : (start now : Seen) (es new : List (ReqId × OpenCheck)) (hand : ReqId) → KeepsOthers hand es new → todo_of es hand ≡ None → NotesMore start (todo_of es) none_ran (todo_of new) (λ req. is_req req hand) now
answer_notes start now es new hand keeps none =
    record {
      kept = λ req is. never is;
      more = λ req q found fresh settled un. by_number q (is_req q.nr hand) refl;
    }
  where
    never : {A : Type 0} → false ≡ true → A
    never e = absurd cc

    by_number : (q : Asked) (b : Bool) → is_req q.nr hand ≡ b → (todo_of new q.nr ≡ todo_of es q.nr) ⊎ ((todo_of es q.nr ≡ None) × (is_req q.nr hand ≡ true))
    by_number q false e =
        inl (ap (λ (o : Option OpenCheck). option_and_then prompt_of (option_map outcome_of o)) (keeps q.nr e))
    by_number q true e =
        let it : q.nr ≡ hand = ap (λ (n : ℕ). let r : ReqId = record { 0 = n } in r) (let n : q.nr.0 ≡ hand.0 = grind (arith, nat_tests, e) in n) in
        inr (ap (todo_of es) it ∙ none, e)

-- which is the one due, where it has settled the check
pub answer_agrees : (now : Seen) (new : List (ReqId × OpenCheck)) (hand : ReqId) (q : Asked) → request_of now hand ≡ Some q → check_of hand new ≡ Some (open_check (is_gone now) q.asks) → list_all is_said q.asks ≡ true → all_asked now q ≡ true → holds is_drop q.ending ≡ false → AgreesNow (todo_of new) (λ req. is_req req hand) now
answer_agrees now new hand q found at said settled undropped req x there is =
    let it : req ≡ hand = ap (λ (n : ℕ). let r : ReqId = record { 0 = n } in r) (let n : req.0 ≡ hand.0 = grind (arith, nat_tests, is) in n) in
    let own : request_of now hand ≡ Some x = subst (λ (r : ReqId). request_of now r ≡ Some x) it there in
    let same : q ≡ x = some_same (sym found ∙ own) in
    ap (λ (y : Asked). due_prompt now y) (sym same) ∙ sym (todo_due now q hand new at said settled undropped) ∙ ap (todo_of new) (sym it)
  where
    some_same : {a b : Asked} → (let o : Option Asked = Some a in o) ≡ Some b → a ≡ b
    some_same e = cc

-- ---- documents that go

-- the requests that were noted while the run lasts, and those for which the table notes a prompt that it didn't note before
abbrev pub ran_more : (ReqId → Bool) → (ReqId → Option DocId) → (ReqId → Option DocId) → ReqId → Bool
ran_more ran todo new req = ran req || (is_none (todo req) && is_some (new req))

-- they note prompts of requests for which none was noted
pub deaths_note : (start now : Seen) (es new : List (ReqId × OpenCheck)) (ran : ReqId → Bool) → table.KeepsSettled es new → ((req : ReqId) → ran req ≡ true → is_some (todo_of es req) ≡ true) → NotesMore start (todo_of es) ran (todo_of new) (ran_more ran (todo_of es) (todo_of new)) now
deaths_note start now es new ran keeps noted =
    record {
      kept = λ req is. (rw is refl, todo_stays req es new keeps (noted req is));
      more = λ req q found fresh settled un. by_notes q.nr (todo_of es q.nr) refl (todo_of new q.nr) refl;
    }
  where
    or_true : (b : Bool) → (b || true) ≡ true
    or_true true = refl
    or_true false = refl

    by_notes : (req : ReqId) (o : Option DocId) → todo_of es req ≡ o → (n : Option DocId) → todo_of new req ≡ n → (todo_of new req ≡ todo_of es req) ⊎ ((todo_of es req ≡ None) × (ran_more ran (todo_of es) (todo_of new) req ≡ true))
    by_notes req (Some doc) was n is = inl (todo_stays req es new keeps (rw was refl))
    by_notes req None was None is = inl (is ∙ sym was)
    by_notes req None was (Some doc) is = inr (was, rw (was, is) (or_true (ran req)))

-- a request of which the table notes a prompt for the first time has a check of its questions as they are
abbrev pub NewsAreTold : Seen → List (ReqId × OpenCheck) → List (ReqId × OpenCheck) → Type 0
NewsAreTold now es new =
    (req : ReqId) (q : Asked) → request_of now req ≡ Some q → todo_of es req ≡ None → is_some (todo_of new req) ≡ true → (check_of req new ≡ Some (open_check (is_gone now) q.asks)) × (list_all is_said q.asks ≡ true) × (holds is_drop q.ending ≡ false)

-- so all that was noted while the run lasts agrees with what is due
pub deaths_agree : (now : Seen) (es new : List (ReqId × OpenCheck)) (ran : ReqId → Bool) → table.KeepsSettled es new → ((req : ReqId) → ran req ≡ true → is_some (todo_of es req) ≡ true) → NewsAreTold now es new → AgreesNow (todo_of es) ran now → AgreesNow (todo_of new) (ran_more ran (todo_of es) (todo_of new)) now
deaths_agree now es new ran keeps noted told agrees req q found is =
    by_ran (ran req) refl (is_none (todo_of es req)) refl (is_some (todo_of new req)) refl is
  where
    none_of : (o : Option DocId) → is_none o ≡ true → o ≡ None
    none_of None e = refl
    none_of (Some doc) e = cc

    by_ran : (b : Bool) → ran req ≡ b → (n : Bool) → is_none (todo_of es req) ≡ n → (m : Bool) → is_some (todo_of new req) ≡ m → (b || (n && m)) ≡ true → due_prompt now q ≡ todo_of new req
    by_ran true e n f m g h = agrees req q found e ∙ sym (todo_stays req es new keeps (noted req e))
    by_ran false e false f m g h = cc
    by_ran false e true f false g h = cc
    by_ran false e true f true g h =
        let its = told req q found (none_of (todo_of es req) f) g in
        let some : is_some (prompt_of (outcome_of (open_check (is_gone now) q.asks))) ≡ true = sym (ap (λ (o : Option OpenCheck). is_some (option_and_then prompt_of (option_map outcome_of o))) its.0) ∙ g in
        let settled : all_asked now q ≡ true = sym (settled_same (is_gone now) q.asks its.1) ∙ noted_settled (open_check (is_gone now) q.asks) some in
        sym (todo_due now q req new its.0 its.1 settled its.2)
