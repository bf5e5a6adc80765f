-- What each call leaves in the table at each number, and that the table stays tied to the log.
use Rattle.std.proofs.Common.{◌≡◌, Bool, true, false, cond, not, List, [], ◌∷◌, Option, Some, None, refl, ap, ◌∙◌, subst, arith}
use Rattle.std.specs.Prelude.{option_map, option_and_then}
use Rattle.std.specs.List.{list_all}
use Rattle.std.proofs.lemmas.Bool.Decides.{nat_tests}
use Rattle.tab_ids.specs.declared.DocId.{DocId}
use Rattle.tab_ids.specs.declared.ReqId.{ReqId}
use Rattle.log_model.specs.Equal.{holds}
use Rattle.log_model.specs.Outcomes.{is_drop}
use Rattle.log_model.specs.Seen.{Seen, Asked, Asking}
use Rattle.log_model.specs.Places.{all_asked, is_gone, is_settled_asking}
use Rattle.log_model.specs.Checks.{due_prompt}
use Rattle.unload_check.specs.declared.check.Check.TheVariants as checks
pub use Rattle.unload_check.proofs.Stays.{check_dead}
use Rattle.unload_check.specs.Checks as table
use Rattle.unload_check.specs.Checks.{OpenCheck, begun, changed, check_of, ended, is_req, outcome_at, outcome_of}
use Rattle.check_facts.specs.Checking.{AreTiedAt, IsCheckTied, is_said, open_check}
use Rattle.check_facts.specs.Prompting.{prompt_of, todo_of}
use Rattle.check_facts.proofs.Checkings.{outcome_same, settled_same}

-- ---- the check of a number

is_itself : (req : ReqId) → is_req req req ≡ true
is_itself req = grind (arith, nat_tests)

pub check_begun : (req : ReqId) (check : OpenCheck) (es : List (ReqId × OpenCheck)) → check_of req (begun req check es) ≡ Some check
check_begun req check [] = rw (is_itself req) refl
check_begun req check (e ∷ es) = by_test (is_req req e.0) refl (check_begun req check es)
  where
    by_test : (b : Bool) → is_req req e.0 ≡ b → check_of req (begun req check es) ≡ Some check → check_of req (cond b ((e.0, check) ∷ es) (e ∷ begun req check es)) ≡ Some check
    by_test true is more = rw is refl
    by_test false is more = rw is more

pub check_changed : (req : ReqId) (f : OpenCheck → OpenCheck) (es : List (ReqId × OpenCheck)) → check_of req (changed req f es) ≡ option_map f (check_of req es)
check_changed req f [] = refl
check_changed req f (e ∷ es) = by_test (is_req req e.0) refl (check_changed req f es)
  where
    by_test : (b : Bool) → is_req req e.0 ≡ b → check_of req (changed req f es) ≡ option_map f (check_of req es) → check_of req (cond b ((e.0, f e.1) ∷ es) (e ∷ changed req f es)) ≡ option_map f (cond b (Some e.1) (check_of req es))
    by_test true is more = rw is refl
    by_test false is more = rw is more

pub check_ended : (req : ReqId) (es : List (ReqId × OpenCheck)) → check_of req (ended req es) ≡ None
check_ended req [] = refl
check_ended req (e ∷ es) = by_test (is_req req e.0) refl (check_ended req es)
  where
    by_test : (b : Bool) → is_req req e.0 ≡ b → check_of req (ended req es) ≡ None → check_of req (cond (not b) (e ∷ ended req es) (ended req es)) ≡ None
    by_test true is more = more
    by_test false is more = rw is more

-- ---- what the table notes

-- nothing for a request without a check
pub todo_none : (req : ReqId) (es : List (ReqId × OpenCheck)) → check_of req es ≡ None → todo_of es req ≡ None
todo_none req es none = rw none refl

-- nothing for a check with a question open
pub todo_open : (req : ReqId) (es : List (ReqId × OpenCheck)) (gone : DocId → Bool) (asks : List Asking) → check_of req es ≡ Some (open_check gone asks) → list_all is_said asks ≡ true → list_all (is_settled_asking gone) asks ≡ false → todo_of es req ≡ None
todo_open req es gone asks at said open_ =
    let waits : outcome_of (open_check gone asks) ≡ checks.Waiting = rw (settled_same gone asks said) (rw open_ refl) in
    ap (λ (o : Option OpenCheck). option_and_then prompt_of (option_map outcome_of o)) at ∙ ap prompt_of waits

-- what is due, for a check that the last news has settled
pub todo_due : (s : Seen) (q : Asked) (req : ReqId) (es : List (ReqId × OpenCheck)) → check_of req es ≡ Some (open_check (is_gone s) q.asks) → list_all is_said q.asks ≡ true → all_asked s q ≡ true → holds is_drop q.ending ≡ false → todo_of es req ≡ due_prompt s q
todo_due s q req es at said settled undropped =
    ap (λ (o : Option OpenCheck). option_and_then prompt_of (option_map outcome_of o)) at
    ∙ ap prompt_of (outcome_same s q said settled undropped)
    ∙ by_due (due_prompt s q)
  where
    by_due : (o : Option DocId) → prompt_of (table.decided o None) ≡ o
    by_due None = refl
    by_due (Some doc) = refl

-- the prompt that is up
pub todo_up : (s : Seen) (q : Asked) (req : ReqId) (es : List (ReqId × OpenCheck)) (check : OpenCheck) (doc : DocId) → check_of req es ≡ Some check → IsCheckTied s q check true → q.prompted ≡ Some doc → todo_of es req ≡ Some doc
todo_up s q req es check doc at tied up =
    ap (λ (o : Option OpenCheck). option_and_then prompt_of (option_map outcome_of o)) at ∙ ap prompt_of (tied doc up)

-- where the table is tied, it notes nothing for a request with a question open
pub todo_tied : (s : Seen) (es : List (ReqId × OpenCheck)) (req : ReqId) (q : Asked) → AreTiedAt s (Some q) (check_of req es) → list_all is_said q.asks ≡ true → all_asked s q ≡ false → todo_of es req ≡ None
todo_tied s es req q tied said open_ = by_check (check_of req es) refl tied
  where
    by_check : (o : Option OpenCheck) → check_of req es ≡ o → AreTiedAt s (Some q) o → todo_of es req ≡ None
    by_check None at tied = todo_none req es at
    by_check (Some check) at tied =
        let is : check ≡ open_check (is_gone s) q.asks = subst (λ (b : Bool). IsCheckTied s q check b) open_ tied.1 in
        todo_open req es (is_gone s) q.asks (at ∙ ap (λ (c : OpenCheck). let o : Option OpenCheck = Some c in o) is) said open_
