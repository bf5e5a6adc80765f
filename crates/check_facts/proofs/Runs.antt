-- Rows that end a run: what is due is noted, and where no prompt is due none becomes due; and a Prompted row.
use Rattle.std.proofs.Common.{◌≡◌, ℕ, Bool, true, false, cond, not, List, [], ◌∷◌, ◌++◌, Option, Some, None, refl, sym, ap, ◌∙◌, subst, ◌⊎◌, inl, inr}
use Rattle.std.specs.Prelude.{fold, filter, take_while, is_some, nat_lt}
use Rattle.std.specs.List.{filter_map}
use Rattle.std.proofs.lemmas.Bool.{and_parts}
use Rattle.std.proofs.lemmas.List.Sums.{take_while-cons}
use Rattle.tab_ids.specs.declared.DocId.{DocId}
use Rattle.tab_ids.specs.declared.ReqId.{ReqId}
use Rattle.log_model.specs.declared.row_kind.LogRow.{LogRow}
use Rattle.log_model.specs.declared.row_kind.Actor.{Actor}
use Rattle.log_model.specs.declared.row_kind.RowKind.TheVariants as rows
use Rattle.log_model.specs.Equal.{holds, same_list, same_doc}
use Rattle.log_model.specs.Outcomes.{is_drop}
use Rattle.log_model.specs.Seen.{Seen, Asked, request_of}
use Rattle.log_model.specs.After.{after}
use Rattle.log_model.specs.Places.{is_gone}
use Rattle.log_model.specs.Checks.{lower_doc, prompting, due_prompt, is_of_run, goes_on_with, prompt_in}
use Rattle.log_model.proofs.Refl.{nat_eq_refl}
use Rattle.check_facts.specs.Prompting.{Agrees, AreAside, HaveNumbers, IsAside, KeepsSettled, NotedCome, NotesMore, Notes, NothingElseDue, PromptsCome, PromptsNone, RunsNot, WaitsForNoted, SameQuestions, comes, noted_or, run_end, still_due, unless_prompted}
use Rattle.check_facts.proofs.Gones.{run_gone}
use Rattle.check_facts.proofs.Promptings.{comes_none, comes_on, due_none, none_front, settled_still}

-- ---- where more documents are gone, no prompt becomes due

lower_some : (best : Option DocId) (doc : DocId) → is_some (lower_doc best doc) ≡ true
lower_some None doc = refl
lower_some (Some best) doc = elim (nat_lt doc.0 best.0) as (λ b. is_some (let o : Option DocId = cond b (Some doc) (Some best) in o) ≡ true) [ true ↦ refl | false ↦ refl ]

fold_some : (docs : List DocId) (best : Option DocId) → is_some best ≡ true → is_some (fold lower_doc best docs) ≡ true
fold_some [] best e = e
fold_some (doc ∷ docs) best e = fold_some docs (lower_doc best doc) (lower_some best doc)

none_left : (g h : DocId → Bool) (docs : List DocId) → ((doc : DocId) → g doc ≡ true → h doc ≡ true) → fold lower_doc None (filter (λ (doc : DocId). not (g doc)) docs) ≡ None → fold lower_doc None (filter (λ (doc : DocId). not (h doc)) docs) ≡ None
none_left g h [] more e = refl
none_left g h (doc ∷ docs) more e = by_test (g doc) refl e (none_left g h docs more)
  where
    by_test : (b : Bool) → g doc ≡ b → fold lower_doc None (cond (not b) (doc ∷ filter (λ (d : DocId). not (g d)) docs) (filter (λ (d : DocId). not (g d)) docs)) ≡ None → (fold lower_doc None (filter (λ (d : DocId). not (g d)) docs) ≡ None → fold lower_doc None (filter (λ (d : DocId). not (h d)) docs) ≡ None) → fold lower_doc None (cond (not (h doc)) (doc ∷ filter (λ (d : DocId). not (h d)) docs) (filter (λ (d : DocId). not (h d)) docs)) ≡ None
    by_test true is none rest = let k : not (h doc) ≡ false = rw (more doc is) refl in rw k (rest none)
    by_test false is none rest = let some = fold_some (filter (λ (d : DocId). not (g d)) docs) (Some doc) refl in cc

pub never_due : (s t : Seen) (q : Asked) → ((doc : DocId) → is_gone s doc ≡ true → is_gone t doc ≡ true) → due_prompt s q ≡ None → due_prompt t q ≡ None
never_due s t q more none = by_drop (holds is_drop q.ending) none
  where
    by_drop : (b : Bool) → cond b None (fold lower_doc None (prompting s q)) ≡ None → cond b None (fold lower_doc None (prompting t q)) ≡ None
    by_drop true e = refl
    by_drop false e = none_left (is_gone s) (is_gone t) _ more e

-- ---- the run ends: what is due is noted

-- so from then on what is noted comes
pub notes : (start : Seen) (todo new : ReqId → Option DocId) (now : Seen) (later : List LogRow) → Notes start todo new now → RunsNot later → NotedCome start new now later → PromptsCome start todo now later
notes start todo new now later noted ends come req q found fresh settled =
    subst (λ (d : Option DocId). comes d req later ≡ true) (sym same) (come req q found fresh settled)
  where
    here : run_end now later ≡ now
    here = ap (λ (rows : List LogRow). fold after now rows) ends

    by_prompted : (b : Bool) → is_some q.prompted ≡ b → still_due todo now later q ≡ unless_prompted q (new q.nr)
    by_prompted true e = rw e refl
    by_prompted false e = rw e (ap (λ (s : Seen). noted_or (todo q.nr) (due_prompt s q)) here ∙ sym (noted req q found fresh settled e))

    same : still_due todo now later q ≡ unless_prompted q (new q.nr)
    same = by_prompted (is_some q.prompted) refl

-- ---- the row after it

-- a row that prompts nobody keeps what comes later
pub come_noted : (start : Seen) (todo : ReqId → Option DocId) (now : Seen) (row : LogRow) (later : List LogRow) → PromptsNone row → KeepsSettled now (after now row) → NothingElseDue start todo now → WaitsForNoted start todo now row → PromptsCome start todo (after now row) later → NotedCome start todo now (row ∷ later)
come_noted start todo now row later no_ keeps nothing waits come req q found fresh settled =
    let r = keeps.later req q found settled in
    by_prompted r.after_ r.same (come req r.after_ r.found fresh (settled_still now (after now row) req q r settled)) (is_some q.prompted) refl
  where
    -- by what is noted for it
    by_noted : (r : Asked) → SameQuestions q r → is_some q.prompted ≡ false → (o : Option DocId) → todo q.nr ≡ o → comes (still_due todo (after now row) later r) req later ≡ true → comes o req (row ∷ later) ≡ true
    by_noted r same un None is f =
        let un_ : is_some r.prompted ≡ false = rw same.prompted un in
        let none : todo r.nr ≡ None = ap todo same.nr ∙ is in
        let here : due_prompt (run_end (after now row) later) q ≡ None = never_due now (run_end (after now row) later) q (λ doc g. run_gone (after now row) later doc (keeps.gone doc g)) (nothing req q found fresh settled un is) in
        let all : still_due todo (after now row) later r ≡ None = rw (un_, none) (due_none (run_end (after now row) later) q r same here) in
        comes_none req row later (no_ req) (subst (λ (d : Option DocId). comes d req later ≡ true) all f)
    by_noted r same un (Some doc) is f =
        let un_ : is_some r.prompted ≡ false = rw same.prompted un in
        let there : todo r.nr ≡ Some doc = ap todo same.nr ∙ is in
        let all : still_due todo (after now row) later r ≡ Some doc = rw (un_, there) refl in
        comes_on (Some doc) req row later (no_ req) (waits req q found fresh settled un (rw is refl)) ∙ subst (λ (d : Option DocId). comes d req later ≡ true) all f

    by_prompted : (r : Asked) → SameQuestions q r → comes (still_due todo (after now row) later r) req later ≡ true → (b : Bool) → is_some q.prompted ≡ b → comes (unless_prompted q (todo q.nr)) req (row ∷ later) ≡ true
    by_prompted r same f true e =
        let g : is_some r.prompted ≡ true = rw same.prompted e in
        let none : still_due todo (after now row) later r ≡ None = rw g refl in
        let none_ : unless_prompted q (todo q.nr) ≡ None = rw e refl in
        subst (λ (d : Option DocId). comes d req (row ∷ later) ≡ true) (sym none_) (comes_none req row later (no_ req) (subst (λ (d : Option DocId). comes d req later ≡ true) none f))
    by_prompted r same f false e =
        let own : unless_prompted q (todo q.nr) ≡ todo q.nr = rw e refl in
        subst (λ (d : Option DocId). comes d req (row ∷ later) ≡ true) (sym own) (by_noted r same e (todo q.nr) refl f)

-- any row that ends a run and prompts nobody: what was due before is noted
pub come_on : (start : Seen) (todo new : ReqId → Option DocId) (now : Seen) (row : LogRow) (later : List LogRow) → is_of_run row ≡ false → PromptsNone row → KeepsSettled now (after now row) → Notes start todo new now → WaitsForNoted start new now row → PromptsCome start new (after now row) later → PromptsCome start todo now (row ∷ later)
come_on start todo new now row later ends no_ keeps noted waits come =
    notes start todo new now (row ∷ later) noted (none_front is_of_run row later ends) (come_noted start new now row later no_ keeps nothing waits come)
  where
    by_noted : (o d : Option DocId) → noted_or o d ≡ None → d ≡ None
    by_noted None d e = e
    by_noted (Some doc) d e = cc

    nothing : NothingElseDue start new now
    nothing req q found fresh settled un is =
        by_noted (todo q.nr) (due_prompt now q) (sym (noted req q found fresh settled un) ∙ is)

-- rows beside the prompts to come leave what is noted to come
by_noted : (o d : Option DocId) → (o ≡ None → d ≡ None) → o ≡ noted_or o d
by_noted None d f = sym (f refl)
by_noted (Some doc) d f = refl

pub come_aside : (start : Seen) (todo : ReqId → Option DocId) (now : Seen) (row : LogRow) (later : List LogRow) → IsAside start todo now row → PromptsCome start todo (after now row) later → PromptsCome start todo now (row ∷ later)
come_aside start todo now row later is come =
    notes start todo todo now (row ∷ later) (λ req q found fresh settled un. by_noted (todo q.nr) (due_prompt now q) (λ none. is.nothing req q found fresh settled un none)) (none_front is_of_run row later is.ends) (come_noted start todo now row later is.quiet is.keeps is.nothing is.waits come)

pub come_rows : (start : Seen) (todo : ReqId → Option DocId) (now : Seen) (rows later : List LogRow) → AreAside start todo now rows → PromptsCome start todo (fold after now rows) later → PromptsCome start todo now (rows ++ later)
come_rows start todo now [] later are come = come
come_rows start todo now (row ∷ rows) later are come =
    come_aside start todo now row (rows ++ later) are.0 (come_rows start todo (after now row) rows later are.1 come)

-- ---- more is noted while a run lasts

pub come_more : (start : Seen) (todo : ReqId → Option DocId) (ran : ReqId → Bool) (new : ReqId → Option DocId) (runs : ReqId → Bool) (now : Seen) (later : List LogRow) → HaveNumbers now → NotesMore start todo ran new runs now → Agrees new runs now later → PromptsCome start new now later → PromptsCome start todo now later
come_more start todo ran new runs now later numbered notes agrees come req q found fresh settled =
    subst (λ (d : Option DocId). comes d req later ≡ true) (by_prompted (is_some q.prompted) refl) (come req q found fresh settled)
  where
    own : request_of now q.nr ≡ Some q
    own = ap (λ (r : ReqId). request_of now r) (numbered req q found) ∙ found

    by_notes : (new q.nr ≡ todo q.nr) ⊎ ((todo q.nr ≡ None) × (runs q.nr ≡ true)) → noted_or (new q.nr) (due_prompt (run_end now later) q) ≡ noted_or (todo q.nr) (due_prompt (run_end now later) q)
    by_notes (inl same) = ap (λ (o : Option DocId). noted_or o (due_prompt (run_end now later) q)) same
    by_notes (inr more) = rw (more.0) (by_new (new q.nr) (agrees q.nr q own more.1))
      where
        by_new : (n : Option DocId) → due_prompt (run_end now later) q ≡ n → noted_or n (due_prompt (run_end now later) q) ≡ due_prompt (run_end now later) q
        by_new None is = refl
        by_new (Some doc) is = sym is

    by_prompted : (b : Bool) → is_some q.prompted ≡ b → still_due new now later q ≡ still_due todo now later q
    by_prompted true e = rw e refl
    by_prompted false e = rw e (by_notes (notes.more req q found fresh settled e))

-- ---- the prompt itself

-- it is the one due, and after it the request has had it
pub come_prompted : (due : Option DocId) (req : ReqId) (doc : DocId) (event : ℕ) (actor : Actor) (later : List LogRow) → due ≡ Some doc → comes None req later ≡ true → comes due req (record { event = event; actor = actor; row = rows.Prompted req doc } ∷ later) ≡ true
come_prompted due req doc event actor later is come =
    let row : LogRow = record { event = event; actor = actor; row = rows.Prompted req doc } in
    let parts = and_parts (same_list same_doc (filter_map (prompt_in req) later) []) (same_list same_doc (filter_map (prompt_in req) (take_while (λ (r : LogRow). not (goes_on_with req r)) later)) []) come in
    let here : prompt_in req row ≡ Some doc = rw (nat_eq_refl req.0) refl in
    let one : (rows : List LogRow) → same_list same_doc (filter_map (prompt_in req) rows) [] ≡ true → same_list same_doc (filter_map (prompt_in req) (row ∷ rows)) (doc ∷ []) ≡ true = λ rows e. rw here (rw (nat_eq_refl doc.0) e) in
    subst (λ (d : Option DocId). comes d req (row ∷ later) ≡ true) (sym is) (
    let second : same_list same_doc (filter_map (prompt_in req) (take_while (λ (r : LogRow). not (goes_on_with req r)) (row ∷ later))) (doc ∷ []) ≡ true = subst (λ (rows : List LogRow). same_list same_doc (filter_map (prompt_in req) rows) (doc ∷ []) ≡ true) (sym (take_while-cons (λ (r : LogRow). not (goes_on_with req r)) row later)) (one (take_while (λ (r : LogRow). not (goes_on_with req r)) later) parts.1) in
    rw (one later parts.0, second) refl
    )
