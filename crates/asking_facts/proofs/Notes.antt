-- Whichever document a table notes for a request wanted a prompt: as an event begins, as the table is told of a run or of an answer, and where a check begins or ends.
use Rattle.std.proofs.Common.{◌≡◌, ◌⊎◌, inl, inr, Bool, true, false, cond, not, ◌&&◌, ◌||◌, ◌==◌, List, [], ◌∷◌, map, Option, Some, None, refl, sym, ap, ◌∙◌, subst}
use Rattle.std.specs.Prelude.{if◌then◌else◌, fold, nat_lt, option_and_then, option_map}
use Rattle.std.specs.Option.{option_map_or}
use Rattle.tab_ids.specs.declared.DocId.{DocId}
use Rattle.tab_ids.specs.declared.ReqId.{ReqId}
use Rattle.log_model.specs.declared.handler.Verdict.{Verdict}
use Rattle.log_model.specs.declared.handler.Verdict.TheVariants as verdicts
use Rattle.log_model.specs.Checks.{is_checked}
use Rattle.log_model.specs.Equal.{holds}
use Rattle.log_model.specs.Places.{all_asked, is_gone, is_under_way}
use Rattle.log_model.specs.Seen.{Asked, Asking, Seen, request_of}
use Rattle.log_model.proofs.Refl.{nat_eq_refl}
use Rattle.unload_check.specs.declared.check.Check.TheVariants as checks
use Rattle.unload_check.specs.Checks as table
use Rattle.unload_check.specs.Checks.{OpenCheck, after_all_deaths, check_of, ended, is_settled, outcome_of}
use Rattle.unload_check.proofs.Stays.{others_ended}
use Rattle.seen_facts.proofs.Each.Courses.{was_asked}
use Rattle.seen_facts.proofs.Request.Readers.{SameReads}
use Rattle.check_facts.proofs.Checkings.{dead_tied, wants}
use Rattle.check_facts.proofs.Rows.{Plain, plain_of}
use Rattle.check_facts.proofs.Tables.{check_dead, check_ended, todo_none}
use Rattle.check_facts.specs.Checking.{AreTiedAt, IsCheckTied, asked_of, is_checking, open_check}
use Rattle.check_facts.specs.Having.{HasChecks, IsHeld}
use Rattle.check_facts.specs.Prompting.{prompt_of, todo_of}
use Rattle.checking_facts.proofs.Grown.{req_same}
use Rattle.checking_facts.specs.Prompts.{HasGoneOn, HasRun, Told}
use Rattle.asking_facts.proofs.Waiting.{asks_of}
use Rattle.asking_facts.specs.Prompting.{AllWanted, NotesWanted, has_wanted}

some_same : {A : Type 0} {a b : A} → (let o : Option A = Some a in o) ≡ Some b → a ≡ b
some_same is = cc

-- what a check notes
abbrev note_of : Option OpenCheck → Option DocId
note_of o = option_and_then prompt_of (option_map outcome_of o)

-- ---- a check of questions as the log has them

-- the question is to the document, which wants a prompt
abbrev wants_it : DocId → Asking → Bool
wants_it doc asking = asking.doc.0 == doc.0 && holds wants asking.verdict

-- it was the lowest of those before, or is one of these
abbrev FoundIn : (DocId → Bool) → DocId → List Asking → Type 0
FoundIn gone doc asks = (best : Option DocId) → fold table.lowest_prompting best (map (asked_of gone) asks) ≡ Some doc → (best ≡ Some doc → has_wanted doc asks ≡ true) → has_wanted doc asks ≡ true

lowest_more : (gone : DocId → Bool) (doc : DocId) (asking : Asking) (asks : List Asking) → FoundIn gone doc asks → FoundIn gone doc (asking ∷ asks)
lowest_more gone doc asking asks rest best is was =
    by_wants asking.is_delivered asking.verdict (gone asking.doc) refl is
  where
    later : (b : Option DocId) → fold table.lowest_prompting b (map (asked_of gone) asks) ≡ Some doc → (b ≡ Some doc → (wants_it doc asking || has_wanted doc asks) ≡ true) → (wants_it doc asking || has_wanted doc asks) ≡ true
    later b at before = by_head (wants_it doc asking) (rest b at) before
      where
        by_head : (h : Bool) → ((b ≡ Some doc → has_wanted doc asks ≡ true) → has_wanted doc asks ≡ true) → (b ≡ Some doc → (h || has_wanted doc asks) ≡ true) → (h || has_wanted doc asks) ≡ true
        by_head true more f = refl
        by_head false more f = more f

    itself : asking.verdict ≡ Some verdicts.Prompt → asking.doc ≡ doc → (wants_it doc asking || has_wanted doc asks) ≡ true
    itself e same =
        let its : (asking.doc.0 == doc.0) ≡ true = subst (λ (d : DocId). (asking.doc.0 == d.0) ≡ true) same (nat_eq_refl asking.doc.0) in
        rw (its, e) refl

    with_it : asking.verdict ≡ Some verdicts.Prompt → (b : Option DocId) → (b ≡ Some doc → (wants_it doc asking || has_wanted doc asks) ≡ true) → (let o : Option DocId = Some (table.lower_doc b asking.doc) in o) ≡ Some doc → (wants_it doc asking || has_wanted doc asks) ≡ true
    with_it e None before at = itself e (some_same at)
    with_it e (Some low) before at = by_less (nat_lt asking.doc.0 low.0) at
      where
        by_less : (l : Bool) → (let o : Option DocId = Some (if l then asking.doc else low) in o) ≡ Some doc → (wants_it doc asking || has_wanted doc asks) ≡ true
        by_less true at_ = itself e (some_same at_)
        by_less false at_ = before at_

    by_wants : (b : Bool) (v : Option Verdict) (g : Bool) → asking.verdict ≡ v → fold table.lowest_prompting (cond (table.is_prompt (cond b v None) && not g) (Some (table.lower_doc best asking.doc)) best) (map (asked_of gone) asks) ≡ Some doc → (wants_it doc asking || has_wanted doc asks) ≡ true
    by_wants true (Some verdicts.Prompt) false e at =
        later (Some (table.lower_doc best asking.doc)) at (with_it e best was)
    by_wants true (Some verdicts.Prompt) true e at = later best at was
    by_wants true (Some verdicts.Leave) g e at = later best at was
    by_wants true None g e at = later best at was
    by_wants false v g e at = later best at was

lowest_in : (gone : DocId → Bool) (doc : DocId) (asks : List Asking) → FoundIn gone doc asks
lowest_in gone doc [] best is was = was is
lowest_in gone doc (asking ∷ asks) best is was = lowest_more gone doc asking asks (lowest_in gone doc asks) best is was

-- the document that it notes wanted it
pub open_wanted : (gone : DocId → Bool) (doc : DocId) (asks : List Asking) → prompt_of (outcome_of (open_check gone asks)) ≡ Some doc → has_wanted doc asks ≡ true
open_wanted gone doc asks is = by_settled (is_settled (open_check gone asks)) is
  where
    by_lowest : (o : Option DocId) → fold table.lowest_prompting None (map (asked_of gone) asks) ≡ o → prompt_of (table.decided o None) ≡ Some doc → has_wanted doc asks ≡ true
    by_lowest None e at = absurd cc
    by_lowest (Some low) e at =
        lowest_in gone doc asks None (e ∙ at) (λ none. absurd cc)

    by_settled : (b : Bool) → prompt_of (cond b (table.decided (table.prompting_doc (map (asked_of gone) asks)) None) checks.Waiting) ≡ Some doc → has_wanted doc asks ≡ true
    by_settled true at = by_lowest (fold table.lowest_prompting None (map (asked_of gone) asks)) refl at
    by_settled false at = absurd cc

-- ---- a table that is tied

-- a check notes nothing that isn't settled
unsettled_none : (c : OpenCheck) → is_settled c ≡ false → outcome_of c ≡ checks.Waiting
unsettled_none c e = rw e refl

-- a check that is tied with all questions settled has its prompt up
tied_up : (s : Seen) (q : Asked) (c : OpenCheck) → is_checking s q ≡ true → all_asked s q ≡ true → IsCheckTied s q c true → (doc : DocId) × (q.prompted ≡ Some doc) × (outcome_of c ≡ checks.Prompt doc)
tied_up s q c on all tied = by_prompt q.prompted refl
  where
    passes : (a b : Bool) → (a && b && false) ≡ true → ⊥
    passes true true is = cc
    passes true false is = cc
    passes false b is = cc

    by_prompt : (o : Option DocId) → q.prompted ≡ o → (doc : DocId) × (q.prompted ≡ Some doc) × (outcome_of c ≡ checks.Prompt doc)
    by_prompt (Some doc) e = (doc, e, tied doc e)
    by_prompt None e =
        let off : is_checking s q ≡ (is_checked q && is_under_way q && false) = rw (all, e) refl in
        absurd (passes (is_checked q) (is_under_way q) (sym off ∙ on))

-- one that is held: what it notes wanted it, if it was settled before, or is a check of the questions
tied_wanted : (s : Seen) (q : Asked) (c : OpenCheck) (doc : DocId) → ((d : DocId) → q.prompted ≡ Some d → has_wanted d q.asks ≡ true) → AreTiedAt s (Some q) (Some c) → prompt_of (outcome_of c) ≡ Some doc → has_wanted doc q.asks ≡ true
tied_wanted s q c doc up tied noted = by_all (all_asked s q) refl
  where
    by_all : (b : Bool) → all_asked s q ≡ b → has_wanted doc q.asks ≡ true
    by_all false e =
        let is : c ≡ open_check (is_gone s) q.asks = subst (λ (b : Bool). IsCheckTied s q c b) e tied.1 in
        open_wanted (is_gone s) doc q.asks (ap (λ (x : OpenCheck). prompt_of (outcome_of x)) (sym is) ∙ noted)
    by_all true e =
        let its = tied_up s q c tied.0 e (subst (λ (b : Bool). IsCheckTied s q c b) e tied.1) in
        let same : its.0 ≡ doc = some_same (ap prompt_of (sym its.2) ∙ noted) in
        subst (λ (d : DocId). has_wanted d q.asks ≡ true) same (up its.0 its.1)

-- as an event begins
pub between_notes : (s : Seen) (es : List (ReqId × OpenCheck)) → HasChecks s es → AllWanted s → NotesWanted s es
between_notes s es has all req q at doc noted =
    by_check (check_of req es) refl (subst (λ (o : Option Asked). AreTiedAt s o (check_of req es)) at (has.tied.each req))
  where
    by_check : (o : Option OpenCheck) → check_of req es ≡ o → AreTiedAt s (Some q) o → has_wanted doc q.asks ≡ true
    by_check None e tied = (let none : (let o : Option DocId = None in o) ≡ Some doc = sym (todo_none req es e) ∙ noted in absurd cc)
    by_check (Some c) e tied = tied_wanted s q c doc (all req q at) tied (ap note_of (sym e) ∙ noted)

-- ---- where the questions of each request stay

pub asks_notes : (s t : Seen) (es : List (ReqId × OpenCheck)) → SameReads asks_of s.requests t.requests → NotesWanted s es → NotesWanted t es
asks_notes s t es same notes req q at doc noted =
    let was = was_asked asks_of s.requests t.requests same req q at in
    subst (λ (asks : List Asking). has_wanted doc asks ≡ true) was.2 (notes req was.0 was.1 doc noted)

-- ---- the table is told of the run

pub told_notes_wanted : (start now : Seen) (told : Told) → HasRun start now told → NotesWanted now told.checks → NotesWanted now (after_all_deaths told.run told.checks)
told_notes_wanted start now told run notes req q at doc noted = by_check (check_of req told.checks) refl
  where
    p : (p : Asked) × (request_of run.was req ≡ Some p) × (plain_of p ≡ plain_of q)
    p = was_asked plain_of run.was.requests now.requests run.asks req q at

    same : (p.0).asks ≡ q.asks
    same = ap (λ (x : Plain). x.asks) p.2

    told_then : check_of req (after_all_deaths told.run told.checks) ≡ option_map (table.after_deaths told.run) (check_of req told.checks)
    told_then = check_dead req told.run told.checks

    -- one that was open is of the questions still
    opened : (c : OpenCheck) → check_of req told.checks ≡ Some c → is_settled c ≡ false → AreTiedAt run.was (Some p.0) (Some c) → (b : Bool) → all_asked run.was p.0 ≡ b → has_wanted doc q.asks ≡ true
    opened c e un tied true all =
        let its = tied_up run.was p.0 c tied.0 all (subst (λ (b : Bool). IsCheckTied run.was p.0 c b) all tied.1) in
        let never : checks.Waiting ≡ checks.Prompt its.0 = sym (unsettled_none c un) ∙ its.2 in
        absurd cc
    opened c e un tied false all =
        let is : c ≡ open_check (is_gone run.was) (p.0).asks = subst (λ (b : Bool). IsCheckTied run.was p.0 c b) all tied.1 in
        let then_ : table.after_deaths told.run c ≡ open_check (is_gone now) (p.0).asks = ap (table.after_deaths told.run) is ∙ dead_tied (is_gone run.was) (is_gone now) told.run (p.0).asks (run.goes req p.0 p.1) (run.said req p.0 p.1) all in
        subst (λ (asks : List Asking). has_wanted doc asks ≡ true) same (open_wanted (is_gone now) doc (p.0).asks (ap (λ (x : OpenCheck). prompt_of (outcome_of x)) (sym then_) ∙ ap note_of (sym (told_then ∙ ap (option_map (table.after_deaths told.run)) e)) ∙ noted))

    by_settled : (c : OpenCheck) → check_of req told.checks ≡ Some c → (b : Bool) → is_settled c ≡ b → IsHeld run.was told.checks req p.0 → has_wanted doc q.asks ≡ true
    by_settled c e true settled held =
        let still : table.after_deaths told.run c ≡ c = rw settled refl in
        notes req q at doc (ap note_of (e ∙ ap (λ (x : OpenCheck). let o : Option OpenCheck = Some x in o) (sym still) ∙ sym (told_then ∙ ap (option_map (table.after_deaths told.run)) e)) ∙ noted)
    by_settled c e false un (inl tied) =
        opened c e un (subst (λ (o : Option OpenCheck). AreTiedAt run.was (Some p.0) o) e tied) (all_asked run.was p.0) refl
    by_settled c e false un (inr settled) =
        let both : true ≡ false = sym settled.1 ∙ ap (λ (o : Option OpenCheck). option_map_or is_settled o false) e ∙ un in
        absurd cc

    by_check : (o : Option OpenCheck) → check_of req told.checks ≡ o → has_wanted doc q.asks ≡ true
    by_check None e =
        let none : (let o : Option DocId = None in o) ≡ Some doc = sym (ap note_of (told_then ∙ ap (option_map (table.after_deaths told.run)) e)) ∙ noted in
        absurd cc
    by_check (Some c) e = by_same (run.same req)
      where
        by_same : (check_of req told.checks ≡ check_of req run.all) ⊎ HasGoneOn now told.checks req → has_wanted doc q.asks ≡ true
        by_same (inl same) = by_settled c e (is_settled c) refl (held_as same (run.held req p.0 p.1))
          where
            held_as : check_of req told.checks ≡ check_of req run.all → IsHeld run.was run.all req p.0 → IsHeld run.was told.checks req p.0
            held_as same (inl tied) =
                inl (subst (λ (o : Option OpenCheck). AreTiedAt run.was (Some p.0) o) (sym same) tied)
            held_as same (inr settled) =
                inr (settled.0, ap (λ (o : Option OpenCheck). option_map_or is_settled o false) same ∙ settled.1)
        by_same (inr gone) =
            let never : (let o : Option OpenCheck = Some c in o) ≡ None = sym e ∙ gone.none in
            absurd cc

-- ---- a check ends

pub ended_notes : (now : Seen) (es : List (ReqId × OpenCheck)) (req : ReqId) → NotesWanted now es → NotesWanted now (ended req es)
ended_notes now es req notes r q at doc noted = by_number (r.0 == req.0) refl
  where
    by_number : (b : Bool) → (r.0 == req.0) ≡ b → has_wanted doc q.asks ≡ true
    by_number false apart = notes r q at doc (ap note_of (sym (others_ended req es r apart)) ∙ noted)
    by_number true is =
        let it : r ≡ req = req_same r req is in
        let none : (let o : Option DocId = None in o) ≡ Some doc = sym (ap (todo_of (ended req es)) it ∙ todo_none req (ended req es) (check_ended req es)) ∙ noted in
        absurd cc
