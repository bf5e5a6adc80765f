-- The table of unload checks follows the log: answers that are delivered, documents that go, checks that begin, and the prompt that is due.
use Rattle.std.proofs.Common.{◌≡◌, Bool, true, false, cond, not, ◌&&◌, ◌||◌, ◌==◌, List, [], ◌∷◌, map, Option, Some, None, refl, sym, ap, ◌∙◌}
use Rattle.std.specs.Prelude.{fold, filter, is_some, nat_lt}
use Rattle.std.specs.List.{list_all, list_any}
use Rattle.std.proofs.lemmas.Bool.{and_parts}
use Rattle.tab_ids.specs.declared.DocId.{DocId}
use Rattle.tab_ids.specs.declared.JobId.{JobId}
use Rattle.log_model.specs.declared.handler.Verdict.{Verdict}
use Rattle.log_model.specs.declared.handler.Verdict.TheVariants as verdicts
use Rattle.log_model.specs.Outcomes.{is_drop}
use Rattle.log_model.specs.Equal.{holds}
use Rattle.log_model.specs.Seen.{Seen, Asked, Asking}
use Rattle.log_model.specs.Places.{is_gone, all_asked, is_settled_asking}
use Rattle.log_model.specs.Checks.{lower_doc, prompting, due_prompt}
use Rattle.unload_check.specs.declared.asked_doc.AskedDoc.{AskedDoc}
use Rattle.unload_check.specs.Checks as table
use Rattle.check_facts.specs.Checking.{asked_of, is_said, is_new, heard, AreOneEach, AnswerIs, GoWith, open_check}

-- ---- settled in the table is settled in the log

one_settled : (gone : DocId → Bool) (asking : Asking) → is_said asking ≡ true → table.is_settled_doc (asked_of gone asking) ≡ is_settled_asking gone asking
one_settled gone asking said = by_test asking.is_delivered asking.verdict said
  where
    by_test : (b : Bool) (v : Option Verdict) → (not b || is_some v) ≡ true → (is_some (cond b v None) || gone asking.doc) ≡ (b || gone asking.doc)
    by_test true v e = rw e refl
    by_test false v e = refl

pub settled_same : (gone : DocId → Bool) (asks : List Asking) → list_all is_said asks ≡ true → table.is_settled (open_check gone asks) ≡ list_all (is_settled_asking gone) asks
settled_same gone [] said = refl
settled_same gone (asking ∷ asks) said =
    let parts = and_parts (is_said asking) (list_all is_said asks) said in
    rw (one_settled gone asking parts.0, settled_same gone asks parts.1) refl

-- ---- a delivered answer

answer_one : (gone : DocId → Bool) (job : JobId) (doc : DocId) (verdict : Verdict) (asking : Asking) → (asking.job.0 == job.0) ≡ (asking.doc.0 == doc.0) → ((asking.job.0 == job.0) ≡ true → asking.verdict ≡ Some verdict) → table.answered_doc doc verdict (asked_of gone asking) ≡ asked_of gone (heard job asking)
answer_one gone job doc verdict asking same says = by_test (asking.job.0 == job.0) refl
  where
    by_test : (b : Bool) → (asking.job.0 == job.0) ≡ b → table.answered_doc doc verdict (asked_of gone asking) ≡ asked_of gone (cond b (record asking { is_delivered = true }) asking)
    by_test true e =
        let there : (asking.doc.0 == doc.0) ≡ true = sym same ∙ e in
        rw (there, says e) refl
    by_test false e =
        let there : (asking.doc.0 == doc.0) ≡ false = sym same ∙ e in
        rw there refl

answer_all : (gone : DocId → Bool) (job : JobId) (doc : DocId) (verdict : Verdict) (asks : List Asking) → AreOneEach job doc asks → AnswerIs job verdict asks → map (table.answered_doc doc verdict) (map (asked_of gone) asks) ≡ map (asked_of gone) (map (heard job) asks)
answer_all gone job doc verdict [] one says = refl
answer_all gone job doc verdict (asking ∷ asks) one says =
    rw (answer_one gone job doc verdict asking one.0 says.0, answer_all gone job doc verdict asks one.1 says.1) refl

abbrev with_asked : List AskedDoc → table.OpenCheck
with_asked asked = record { asked = asked; stay = None }

-- an open check, answered, is the check of the questions after the delivery
pub answer_tied : (gone : DocId → Bool) (job : JobId) (doc : DocId) (verdict : Verdict) (asks : List Asking) → list_all is_said asks ≡ true → list_all (is_settled_asking gone) asks ≡ false → AreOneEach job doc asks → AnswerIs job verdict asks → table.after_answer doc verdict (open_check gone asks) ≡ open_check gone (map (heard job) asks)
answer_tied gone job doc verdict asks said open_ one says =
    rw (settled_same gone asks said) (rw open_ (ap with_asked (answer_all gone job doc verdict asks one says)))

-- ---- documents that go, all at once

dead_one : (gone new : DocId → Bool) (docs : List DocId) (asking : Asking) → new asking.doc ≡ (list_any (table.is_doc asking.doc) docs || gone asking.doc) → table.dead_doc docs (asked_of gone asking) ≡ asked_of new asking
dead_one gone new docs asking goes = rw goes (by_test (list_any (table.is_doc asking.doc) docs) (asked_of gone asking))
  where
    by_test : (b : Bool) (a : AskedDoc) → cond b (record a { died = true }) a ≡ record a { died = b || a.died }
    by_test true a = refl
    by_test false a = refl

dead_all : (gone new : DocId → Bool) (docs : List DocId) (asks : List Asking) → GoWith gone new docs asks → map (table.dead_doc docs) (map (asked_of gone) asks) ≡ map (asked_of new) asks
dead_all gone new docs [] goes = refl
dead_all gone new docs (asking ∷ asks) goes =
    rw (dead_one gone new docs asking goes.0, dead_all gone new docs asks goes.1) refl

-- where no others are gone, none of the questions has another
pub all_go : (gone new : DocId → Bool) (docs : List DocId) → ((doc : DocId) → new doc ≡ (list_any (table.is_doc doc) docs || gone doc)) → (asks : List Asking) → GoWith gone new docs asks
all_go gone new docs goes [] = tt
all_go gone new docs goes (asking ∷ asks) = (goes asking.doc, all_go gone new docs goes asks)

-- an open check, once documents are gone, is that of the questions with these documents gone
pub dead_tied : (gone new : DocId → Bool) (docs : List DocId) (asks : List Asking) → GoWith gone new docs asks → list_all is_said asks ≡ true → list_all (is_settled_asking gone) asks ≡ false → table.after_deaths docs (open_check gone asks) ≡ open_check new asks
dead_tied gone new docs asks goes said open_ =
    rw (settled_same gone asks said) (rw open_ (ap with_asked (dead_all gone new docs asks goes)))

-- ---- the prompt

abbrev pub wants : Verdict → Bool
wants verdicts.Prompt = true
wants verdicts.Leave = false

abbrev wanting : (DocId → Bool) → List Asking → List DocId
wanting gone asks = filter (λ (doc : DocId). not (gone doc)) (map (λ (a : Asking). a.doc) (filter (λ (a : Asking). holds wants a.verdict) asks))

abbrev SamePrompt : (DocId → Bool) → List Asking → Type 0
SamePrompt gone asks = (best : Option DocId) → list_all (is_settled_asking gone) asks ≡ true → fold table.lowest_prompting best (map (asked_of gone) asks) ≡ fold lower_doc best (wanting gone asks)

lower_same : (best : Option DocId) (doc : DocId) → Some (table.lower_doc best doc) ≡ lower_doc best doc
lower_same None doc = refl
lower_same (Some lowest) doc = elim (nat_lt doc.0 lowest.0) as (λ b. (let o : Option DocId = Some (cond b doc lowest) in o) ≡ cond b (Some doc) (Some lowest)) [ true ↦ refl | false ↦ refl ]

-- where all is settled, the table's prompt is the due one
prompt_same : (gone : DocId → Bool) (asks : List Asking) → SamePrompt gone asks
prompt_same gone [] best settled = refl
prompt_same gone (asking ∷ asks) best settled = by_test asking.is_delivered asking.verdict (gone asking.doc) refl (prompt_same gone asks) settled
  where
    by_test : (b : Bool) (v : Option Verdict) (g : Bool) → gone asking.doc ≡ g → SamePrompt gone asks → ((b || g) && list_all (is_settled_asking gone) asks) ≡ true →
        fold table.lowest_prompting (cond (table.is_prompt (cond b v None) && not g) (Some (table.lower_doc best asking.doc)) best) (map (asked_of gone) asks)
        ≡ fold lower_doc best (filter (λ (doc : DocId). not (gone doc)) (map (λ (a : Asking). a.doc) (cond (holds wants v) (asking ∷ filter (λ (a : Asking). holds wants a.verdict) asks) (filter (λ (a : Asking). holds wants a.verdict) asks))))
    by_test true None g is rest more = rest best more
    by_test true (Some verdicts.Leave) g is rest more = rest best more
    by_test true (Some verdicts.Prompt) true is rest more = rw is (rest best more)
    by_test true (Some verdicts.Prompt) false is rest more = rw is (rest (Some (table.lower_doc best asking.doc)) more ∙ ap (λ (o : Option DocId). fold lower_doc o (wanting gone asks)) (lower_same best asking.doc))
    by_test false None true is rest more = rest best more
    by_test false (Some verdicts.Leave) true is rest more = rest best more
    by_test false (Some verdicts.Prompt) true is rest more = rw is (rest best more)
    by_test false v false is rest more = cc

-- a settled check's outcome, where the user said nothing: the prompt that is due, or it goes on
pub outcome_same : (s : Seen) (q : Asked) → list_all is_said q.asks ≡ true → all_asked s q ≡ true → holds is_drop q.ending ≡ false → table.outcome_of (open_check (is_gone s) q.asks) ≡ table.decided (due_prompt s q) None
outcome_same s q said settled undropped =
    let is : table.is_settled (open_check (is_gone s) q.asks) ≡ true = settled_same (is_gone s) q.asks said ∙ settled in
    let due : due_prompt s q ≡ fold lower_doc None (prompting s q) = rw undropped refl in
    rw is (ap (λ (o : Option DocId). table.decided o None) (prompt_same (is_gone s) q.asks None settled ∙ sym due))

-- ---- a check that begins

-- of questions that were just asked
pub begun_tied : (gone : DocId → Bool) (asks : List Asking) → list_all (is_new gone) asks ≡ true → open_check gone asks ≡ table.opened (map (λ (asking : Asking). asking.doc) asks)
begun_tied gone asks new = ap with_asked (all asks new)
  where
    one : (asking : Asking) (b g : Bool) → asking.is_delivered ≡ b → gone asking.doc ≡ g → (not b && not g) ≡ true → asked_of gone asking ≡ table.newly_asked asking.doc
    one asking true g is dead e = cc
    one asking false true is dead e = cc
    one asking false false is dead e = rw (is, dead) refl

    all : (asks : List Asking) → list_all (is_new gone) asks ≡ true → map (asked_of gone) asks ≡ map table.newly_asked (map (λ (asking : Asking). asking.doc) asks)
    all [] e = refl
    all (asking ∷ asks) e =
        let parts = and_parts (is_new gone asking) (list_all (is_new gone) asks) e in
        rw (one asking asking.is_delivered (gone asking.doc) refl refl parts.0, all asks parts.1) refl
