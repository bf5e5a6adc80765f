-- What a check of a table has come to: one that is settled notes a prompt, or is over.
use Rattle.std.proofs.Common.{Bool, List, None, Option, Some, [], ap, false, inl, inr, refl, subst, sym, true, ◌∙◌, ◌∷◌, ◌≡◌}
use Rattle.std.specs.Option.{option_map_or}
use Rattle.std.specs.Prelude.{option_map}
use Rattle.seen_facts.specs.Hang.Members.{Has}
use Rattle.tab_held.specs.Holding.{goes_on, is_over}
use Rattle.tab_ids.specs.declared.DocId.{DocId}
use Rattle.tab_ids.specs.declared.ReqId.{ReqId}
use Rattle.tab_prompts.proofs.Settled.{IsNotedFor, has_waiting, waiting_has}
use Rattle.tab_prompts.specs.Asking.{AreApart}
use Rattle.tab_prompts.specs.Prompts.{is_settled_in, is_waiting, waiting_among}
use Rattle.unload_check.specs.Checks as table
use Rattle.unload_check.specs.Checks.{OpenCheck, check_of, decided, is_settled, outcome_of}
use Rattle.unload_check.specs.declared.check.Check.{Check}
use Rattle.std.specs.Prelude.{option_and_then}
use Rattle.check_facts.specs.Prompting.{prompt_of}

-- ---- one that is settled

-- the check notes a document
abbrev NotesOne : Check → Type 0
NotesOne check = (doc : DocId) × (prompt_of check ≡ Some doc)

decided_notes : (o : Option DocId) (stay : Option Bool) → is_over (decided o stay) ≡ false → NotesOne (decided o stay)
decided_notes None stay never = absurd (let no : true ≡ false = never in cc)
decided_notes (Some doc) None is = (doc, refl)
decided_notes (Some doc) (Some true) never = absurd (let no : true ≡ false = never in cc)
decided_notes (Some doc) (Some false) never = absurd (let no : true ≡ false = never in cc)

settled_notes : (c : OpenCheck) → is_settled c ≡ true → is_over (outcome_of c) ≡ false → NotesOne (outcome_of c)
settled_notes c settled = rw settled (decided_notes (table.prompting_doc c.asked) c.stay)

-- if the request's isn't over it notes a prompt
pub noted_or_over : (checks : List (ReqId × OpenCheck)) (req : ReqId) → is_settled_in checks req ≡ true → goes_on checks req ≡ false → IsNotedFor checks req
noted_or_over checks req settled open_ = by_check (check_of req checks) refl
  where
    by_check : (o : Option OpenCheck) → check_of req checks ≡ o → IsNotedFor checks req
    by_check None is =
        let none : is_settled_in checks req ≡ false = ap (λ (o : Option OpenCheck). option_map_or is_settled o false) is in
        let never : true ≡ false = sym settled ∙ none in
        absurd cc
    by_check (Some c) is =
        let on : is_settled c ≡ true = sym (ap (λ (o : Option OpenCheck). option_map_or is_settled o false) is) ∙ settled in
        let off : is_over (outcome_of c) ≡ false = sym (ap (λ (o : Option OpenCheck). option_map_or is_over (option_map outcome_of o) false) is) ∙ open_ in
        let notes : NotesOne (outcome_of c) = settled_notes c on off in
        (notes.0, ap (λ (o : Option OpenCheck). option_and_then prompt_of (option_map outcome_of o)) is ∙ notes.1)

-- ---- the one request, where it waits

pub one_apart : (checks : List (ReqId × OpenCheck)) (req : ReqId) → AreApart (waiting_among checks (req ∷ []))
one_apart checks req = by_test (is_waiting checks req) refl
  where
    by_test : (b : Bool) → is_waiting checks req ≡ b → AreApart (waiting_among checks (req ∷ []))
    by_test true is = rw is ((λ other has. absurd has), tt)
    by_test false is = rw is tt

pub one_waits : (checks : List (ReqId × OpenCheck)) (req r : ReqId) → Has (waiting_among checks (req ∷ [])) r → is_waiting checks r ≡ true
one_waits checks req r has = waiting_has (is_waiting checks) (req ∷ []) r has

pub one_has : (checks : List (ReqId × OpenCheck)) (req : ReqId) → is_waiting checks req ≡ true → Has (waiting_among checks (req ∷ [])) req
one_has checks req waits = has_waiting (is_waiting checks) (req ∷ []) req (inl refl) waits

-- who is among them is it
pub one_is : (checks : List (ReqId × OpenCheck)) (req r : ReqId) → Has (waiting_among checks (req ∷ [])) r → req ≡ r
one_is checks req r has = by_test (is_waiting checks req) refl has
  where
    by_place : Has (req ∷ []) r → req ≡ r
    by_place (inl same) = same
    by_place (inr never) = absurd never

    by_test : (b : Bool) → is_waiting checks req ≡ b → Has (waiting_among checks (req ∷ [])) r → req ≡ r
    by_test true is there =
        let one : waiting_among checks (req ∷ []) ≡ req ∷ [] = rw is refl in
        by_place (subst (λ (l : List ReqId). Has l r) one there)
    by_test false is there =
        let none : waiting_among checks (req ∷ []) ≡ [] = rw is refl in
        absurd (subst (λ (l : List ReqId). Has l r) none there)
