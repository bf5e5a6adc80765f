-- A check that waits by the table: it isn't settled; where no run lasts of which the table wasn't told a question of its request is open; and it waited before the table was told more.
use Rattle.asking_facts.proofs.Ones.{told_none}
use Rattle.check_facts.specs.Checking.{AreTiedAt}
use Rattle.check_facts.specs.Having.{AreHeld, IsHeld}
use Rattle.checking_facts.proofs.Tellings.{told_held}
use Rattle.checking_facts.specs.Prompts.{AreAskedDuly, told_all, told_by}
use Rattle.log_model.specs.Places.{all_asked}
use Rattle.log_model.specs.Seen.{Asked, Seen, request_of}
use Rattle.log_model.specs.declared.row_kind.RowKind.{RowKind}
use Rattle.std.proofs.Common.{Bool, List, None, Option, Some, [], ap, false, inl, inr, refl, subst, sym, true, ◌∙◌, ◌≡◌}
use Rattle.std.specs.Option.{option_map_or}
use Rattle.std.specs.Prelude.{option_map}
use Rattle.tab_ids.specs.declared.DocId.{DocId}
use Rattle.tab_ids.specs.declared.ReqId.{ReqId}
use Rattle.tab_prompts.proofs.Tables.{GoesAt, goes_ended, goes_told}
use Rattle.tab_prompts.proofs.Told.{tied_open}
use Rattle.tab_prompts.specs.Prompts.{is_open, is_waiting}
use Rattle.unload_check.specs.Checks as table
use Rattle.unload_check.specs.Checks.{OpenCheck, check_of, is_settled, outcome_of}

never : {A : Type 0} → true ≡ false → A
never is = absurd cc

-- ---- who waits

settled_shut : (c : OpenCheck) → is_settled c ≡ true → is_open (outcome_of c) ≡ false
settled_shut c settled = rw settled (by_decided (table.prompting_doc c.asked) c.stay)
  where
    by_decided : (o : Option DocId) (stay : Option Bool) → is_open (table.decided o stay) ≡ false
    by_decided None stay = refl
    by_decided (Some doc) None = refl
    by_decided (Some doc) (Some true) = refl
    by_decided (Some doc) (Some false) = refl

-- its check isn't settled
pub waiting_open : (es : List (ReqId × OpenCheck)) (req : ReqId) (c : OpenCheck) → check_of req es ≡ Some c → is_waiting es req ≡ true → is_settled c ≡ false
waiting_open es req c has waits = by_settled (is_settled c) refl
  where
    opens : is_open (outcome_of c) ≡ true
    opens = sym (ap (λ (o : Option OpenCheck). option_map_or is_open (option_map outcome_of o) false) has) ∙ waits

    by_settled : (b : Bool) → is_settled c ≡ b → b ≡ false
    by_settled false is = refl
    by_settled true is = never (sym opens ∙ settled_shut c is)

-- one that has none doesn't wait, and one that isn't settled does
none_waits : (es : List (ReqId × OpenCheck)) (req : ReqId) → check_of req es ≡ None → is_waiting es req ≡ false
none_waits es req none = ap (λ (o : Option OpenCheck). option_map_or is_open (option_map outcome_of o) false) none

open_waits : (es : List (ReqId × OpenCheck)) (req : ReqId) (c : OpenCheck) → check_of req es ≡ Some c → is_settled c ≡ false → is_waiting es req ≡ true
open_waits es req c has un =
    ap (λ (o : Option OpenCheck). option_map_or is_open (option_map outcome_of o) false) has ∙ (rw un refl)

-- ---- a question is open

pub waits_open : (checking : ReqId → Bool) (start now : Seen) (es : List (ReqId × OpenCheck)) → AreAskedDuly checking start now (record { checks = es; run = [] }) → (req : ReqId) (q : Asked) → request_of now req ≡ Some q → is_waiting es req ≡ true → all_asked now q ≡ false
waits_open checking start now es asked req q at waits = by_check (check_of req es) refl
  where
    held : AreHeld now es
    held =
        subst (λ (l : List (ReqId × OpenCheck)). AreHeld now l) (told_none es) (told_held start now (record { checks = es; run = [] }) asked.run)

    by_held : (c : OpenCheck) → check_of req es ≡ Some c → is_settled c ≡ false → IsHeld now es req q → all_asked now q ≡ false
    by_held c has un (inl tied) =
        tied_open now q c (subst (λ (o : Option OpenCheck). AreTiedAt now (Some q) o) has tied) un
    by_held c has un (inr both) =
        never (sym both.1 ∙ ap (λ (o : Option OpenCheck). option_map_or is_settled o false) has ∙ un)

    by_check : (o : Option OpenCheck) → check_of req es ≡ o → all_asked now q ≡ false
    by_check None none = never (sym waits ∙ none_waits es req none)
    by_check (Some c) has = by_held c has (waiting_open es req c has waits) (held req q at)

-- ---- it waited before

-- in a table with the same checks, told of more
pub waited_there : (es then_ : List (ReqId × OpenCheck)) (req : ReqId) → GoesAt (check_of req es) (check_of req then_) → is_waiting then_ req ≡ true → is_waiting es req ≡ true
waited_there es then_ req goes waits = by_check (check_of req es) refl goes
  where
    by_settled : (c : OpenCheck) → check_of req es ≡ Some c → GoesAt (Some c) (check_of req then_) → (b : Bool) → is_settled c ≡ b → is_waiting es req ≡ true
    by_settled c has goes false un = open_waits es req c has un
    by_settled c has goes true settled =
        let same : goes.0 ≡ c = goes.2.stays settled in
        never (sym (ap is_settled same ∙ settled) ∙ waiting_open then_ req goes.0 goes.1 waits)

    by_check : (o : Option OpenCheck) → check_of req es ≡ o → GoesAt o (check_of req then_) → is_waiting es req ≡ true
    by_check None none gone = never (sym waits ∙ none_waits then_ req gone)
    by_check (Some c) has goes = by_settled c has goes (is_settled c) refl

-- so it did before the table was told of all that rows discarded, or of each run that a row ended
pub waited_before : (ran : List DocId) (es : List (ReqId × OpenCheck)) (req : ReqId) (out : List RowKind) → is_waiting (told_all ran es out) req ≡ true → is_waiting es req ≡ true
waited_before ran es req out = waited_there es (told_all ran es out) req (goes_told ran es req out)

pub waited_ended : (ran : List DocId) (es : List (ReqId × OpenCheck)) (req : ReqId) (out : List RowKind) → is_waiting (told_by ran es out).checks req ≡ true → is_waiting es req ≡ true
waited_ended ran es req out = waited_there es (told_by ran es out).checks req (goes_ended ran es req out)
