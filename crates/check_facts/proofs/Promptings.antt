-- A row passes the test of prompts where what comes later prompts as it is due: whatever questions it settles.
use Rattle.std.proofs.Common.{◌≡◌, Bool, true, false, cond, not, ◌&&◌, List, [], ◌∷◌, map, Option, Some, None, refl, sym, ap, ◌∙◌, subst}
use Rattle.std.specs.Prelude.{fold, filter, take_while, is_some, option_to_list}
use Rattle.std.specs.List.{list_all, filter_map}
use Rattle.std.proofs.lemmas.Bool.{and_parts}
use Rattle.std.proofs.lemmas.List.Sums.{take_while-cons}
use Rattle.tab_ids.specs.declared.DocId.{DocId}
use Rattle.tab_ids.specs.declared.ReqId.{ReqId}
use Rattle.log_model.specs.declared.row_kind.LogRow.{LogRow}
use Rattle.log_model.specs.Equal.{holds, implies, same_list, same_doc}
use Rattle.log_model.specs.Outcomes.{is_drop}
use Rattle.log_model.specs.Seen.{Seen, Asked, Asking, request_of}
use Rattle.log_model.specs.After.{after}
use Rattle.log_model.specs.Places.{is_gone, all_asked, is_settled_asking}
use Rattle.log_model.specs.Events.{Point}
use Rattle.log_model.specs.Checks.{lower_doc, prompting, due_prompt, is_of_run, goes_on_with, prompt_in, is_prompted_after, is_settled_by, prompts_duly}
use Rattle.seen_facts.proofs.Rest.Stands.{all_requests}
use Rattle.check_facts.specs.Prompting.{DropsNone, Agrees, HaveNumbers, IsDiscarding, IsStillAsked, KeepsQuestions, KeepsSettled, MayBeSettled, PromptsCome, SameQuestions, SettlesDue, StaySettled, comes, had_settled, has_settled, is_asked, noted_or, run_end, silent, still_due, unless_prompted}
use Rattle.check_facts.proofs.Checkings.{wants}

-- ---- what a prompt reads

abbrev asked_by : Asking → Bool
asked_by asking = holds wants asking.verdict

-- not which answers were heard
docs_silent : (asks : List Asking) → map (λ (a : Asking). a.doc) (filter asked_by (map silent asks)) ≡ map (λ (a : Asking). a.doc) (filter asked_by asks)
docs_silent [] = refl
docs_silent (asking ∷ asks) = by_test (holds wants asking.verdict) (docs_silent asks)
  where
    by_test : (b : Bool) → map (λ (a : Asking). a.doc) (filter (λ (a : Asking). holds wants a.verdict) (map silent asks)) ≡ map (λ (a : Asking). a.doc) (filter (λ (a : Asking). holds wants a.verdict) asks) → map (λ (a : Asking). a.doc) (cond b (silent asking ∷ filter (λ (a : Asking). holds wants a.verdict) (map silent asks)) (filter (λ (a : Asking). holds wants a.verdict) (map silent asks))) ≡ map (λ (a : Asking). a.doc) (cond b (asking ∷ filter (λ (a : Asking). holds wants a.verdict) asks) (filter (λ (a : Asking). holds wants a.verdict) asks))
    by_test true more = ap (λ (l : List DocId). asking.doc ∷ l) more
    by_test false more = more

docs_same : (q r : Asked) → map silent r.asks ≡ map silent q.asks → map (λ (a : Asking). a.doc) (filter asked_by r.asks) ≡ map (λ (a : Asking). a.doc) (filter asked_by q.asks)
docs_same q r same =
    sym (docs_silent r.asks) ∙ ap (λ (asks : List Asking). map (λ (a : Asking). a.doc) (filter asked_by asks)) same ∙ docs_silent q.asks

prompting_same : (s : Seen) (q r : Asked) → map silent r.asks ≡ map silent q.asks → prompting s r ≡ prompting s q
prompting_same s q r same =
    ap (λ (l : List DocId). filter (λ (doc : DocId). not (is_gone s doc)) l) (docs_same q r same)

-- the due prompt of a request that wasn't dropped between
pub due_same : (s : Seen) (q r : Asked) → map silent r.asks ≡ map silent q.asks → holds is_drop r.ending ≡ holds is_drop q.ending → due_prompt s r ≡ due_prompt s q
due_same s q r same dropped =
    ap (λ (b : Bool). cond b None (fold lower_doc None (prompting s r))) dropped
    ∙ ap (λ (l : List DocId). cond (holds is_drop q.ending) None (fold lower_doc None l)) (prompting_same s q r same)

-- and of one that may have been: none becomes due
pub due_none : (s : Seen) (q r : Asked) → SameQuestions q r → due_prompt s q ≡ None → due_prompt s r ≡ None
due_none s q r same none = by_drop (holds is_drop q.ending) (holds is_drop r.ending) refl refl
  where
    by_drop : (b c : Bool) → holds is_drop q.ending ≡ b → holds is_drop r.ending ≡ c → due_prompt s r ≡ None
    by_drop b true was is = rw is refl
    by_drop true false was is = let never : holds is_drop r.ending ≡ true = same.dropped was in absurd cc
    by_drop false false was is = due_same s q r same.asks (is ∙ sym was) ∙ none

-- it has questions as before
pub asked_same : (q r : Asked) → SameQuestions q r → is_asked r.asks ≡ is_asked q.asks
asked_same q r same = by_lists r.asks q.asks same.asks
  where
    by_lists : (a b : List Asking) → map silent a ≡ map silent b → is_asked a ≡ is_asked b
    by_lists [] [] e = refl
    by_lists [] (y ∷ b) e = cc
    by_lists (x ∷ a) [] e = cc
    by_lists (x ∷ a) (y ∷ b) e = refl

-- what was settled is
pub settled_still : (now next : Seen) (req : ReqId) (q : Asked) (r : IsStillAsked now next req q) → has_settled now q ≡ true → has_settled next r.after_ ≡ true
settled_still now next req q r settled =
    let parts = and_parts (is_asked q.asks) (all_asked now q) settled in
    rw (asked_same q r.after_ r.same ∙ parts.0, r.settled parts.1) refl

-- so what a row keeps of all requests it keeps of the settled ones
pub keeps_settled : (now next : Seen) → KeepsQuestions now next → KeepsSettled now next
keeps_settled now next keeps = record { later = λ req q found settled. keeps.later req q found; gone = keeps.gone }

-- what was settled as the event began still is
pub stay_settled : (start now next : Seen) → KeepsSettled now next → StaySettled start now → StaySettled start next
stay_settled start now next keeps stays req had = by_found (request_of now req) refl (stays req had)
  where
    by_found : (o : Option Asked) → request_of now req ≡ o → holds (has_settled now) o ≡ true → had_settled next req ≡ true
    by_found None found is = absurd cc
    by_found (Some q) found is = let r = keeps.later req q found is in rw r.found (settled_still now next req q r is)

-- so one with an open question wasn't settled then
pub open_fresh : (start now : Seen) → StaySettled start now → (req : ReqId) (q : Asked) → request_of now req ≡ Some q → all_asked now q ≡ false → had_settled start req ≡ false
open_fresh start now stays req q found open_ = by_test (had_settled start req) refl
  where
    by_test : (b : Bool) → had_settled start req ≡ b → b ≡ false
    by_test false is = refl
    by_test true is =
        let here : has_settled now q ≡ true = subst (λ (o : Option Asked). holds (has_settled now) o ≡ true) found (stays req is) in
        let parts = and_parts (is_asked q.asks) (all_asked now q) here in
        absurd cc

-- ---- the run in front of later rows

pub in_front : (test : LogRow → Bool) (row : LogRow) (later : List LogRow) → test row ≡ true → take_while test (row ∷ later) ≡ row ∷ take_while test later
in_front test row later e = take_while-cons test row later ∙ by_test (test row) e
  where
    by_test : (b : Bool) → b ≡ true → (let l : List LogRow = cond b (row ∷ take_while test later) [] in l) ≡ row ∷ take_while test later
    by_test true e = refl
    by_test false e = cc

pub none_front : (test : LogRow → Bool) (row : LogRow) (later : List LogRow) → test row ≡ false → take_while test (row ∷ later) ≡ []
none_front test row later e = take_while-cons test row later ∙ by_test (test row) e
  where
    by_test : (b : Bool) → b ≡ false → (let l : List LogRow = cond b (row ∷ take_while test later) [] in l) ≡ []
    by_test true e = cc
    by_test false e = refl

-- it ends where it ended, seen from one row of it on
pub along_run : (now : Seen) (row : LogRow) (later : List LogRow) → is_of_run row ≡ true → run_end now (row ∷ later) ≡ run_end (after now row) later
along_run now row later runs = ap (λ (rows : List LogRow). fold after now rows) (in_front is_of_run row later runs)

-- ---- a row that prompts nobody, and goes on with nothing

pub comes_on : (due : Option DocId) (req : ReqId) (row : LogRow) (later : List LogRow) → prompt_in req row ≡ None → goes_on_with req row ≡ false → comes due req (row ∷ later) ≡ comes due req later
comes_on due req row later asks stays =
    let go : not (goes_on_with req row) ≡ true = rw stays refl in
    ap (λ (docs : List DocId). same_list same_doc docs (option_to_list due) && same_list same_doc (filter_map (prompt_in req) (take_while (λ (r : LogRow). not (goes_on_with req r)) (row ∷ later))) (option_to_list due)) (skip later)
    ∙ ap (λ (docs : List DocId). same_list same_doc (filter_map (prompt_in req) later) (option_to_list due) && same_list same_doc docs (option_to_list due)) (ap (λ (rows : List LogRow). filter_map (prompt_in req) rows) (in_front (λ (r : LogRow). not (goes_on_with req r)) row later go) ∙ skip (take_while (λ (r : LogRow). not (goes_on_with req r)) later))
  where
    skip : (rows : List LogRow) → filter_map (prompt_in req) (row ∷ rows) ≡ filter_map (prompt_in req) rows
    skip rows = rw asks refl

-- any row that prompts nobody, where no prompt is due
pub comes_none : (req : ReqId) (row : LogRow) (later : List LogRow) → prompt_in req row ≡ None → comes None req later ≡ true → comes None req (row ∷ later) ≡ true
comes_none req row later no_ come =
    let parts = and_parts (same_list same_doc (filter_map (prompt_in req) later) []) (same_list same_doc (filter_map (prompt_in req) (take_while (λ (r : LogRow). not (goes_on_with req r)) later)) []) come in
    let first : same_list same_doc (filter_map (prompt_in req) (row ∷ later)) [] ≡ true = rw (skip later) parts.0 in
    let second : same_list same_doc (filter_map (prompt_in req) (take_while (λ (r : LogRow). not (goes_on_with req r)) (row ∷ later))) [] ≡ true = subst (λ (rows : List LogRow). same_list same_doc (filter_map (prompt_in req) rows) [] ≡ true) (sym (take_while-cons (λ (r : LogRow). not (goes_on_with req r)) row later)) (by_test (not (goes_on_with req row)) parts.1) in
    rw (first, second) refl
  where
    skip : (rows : List LogRow) → filter_map (prompt_in req) (row ∷ rows) ≡ filter_map (prompt_in req) rows
    skip rows = rw no_ refl

    by_test : (b : Bool) → same_list same_doc (filter_map (prompt_in req) (take_while (λ (r : LogRow). not (goes_on_with req r)) later)) [] ≡ true → same_list same_doc (filter_map (prompt_in req) (cond b (row ∷ take_while (λ (r : LogRow). not (goes_on_with req r)) later) [])) [] ≡ true
    by_test true e = rw (skip (take_while (λ (r : LogRow). not (goes_on_with req r)) later)) e
    by_test false e = refl

-- ---- a row of the run that discards

still_same : (todo : ReqId → Option DocId) (now : Seen) (row : LogRow) (later : List LogRow) (q r : Asked) → is_of_run row ≡ true → SameQuestions q r → holds is_drop r.ending ≡ holds is_drop q.ending → still_due todo now (row ∷ later) q ≡ still_due todo (after now row) later r
still_same todo now row later q r runs same dropped =
    let due : due_prompt (run_end now (row ∷ later)) q ≡ due_prompt (run_end (after now row) later) r = ap (λ (s : Seen). due_prompt s q) (along_run now row later runs) ∙ sym (due_same (run_end (after now row) later) q r same.asks dropped) in
    ap (λ (o : Option DocId). unless_prompted q (noted_or (todo q.nr) o)) due
    ∙ sym (ap (λ (o : Option DocId). let d : Option DocId = cond (is_some o) None (noted_or (todo q.nr) (due_prompt (run_end (after now row) later) r)) in d) same.prompted)
    ∙ sym (ap (λ (n : ReqId). unless_prompted r (noted_or (todo n) (due_prompt (run_end (after now row) later) r))) same.nr)

-- what comes later, seen from before it
pub come_before : (start : Seen) (todo : ReqId → Option DocId) (now : Seen) (row : LogRow) (later : List LogRow) → IsDiscarding row → KeepsQuestions now (after now row) → DropsNone now (after now row) → PromptsCome start todo (after now row) later → PromptsCome start todo now (row ∷ later)
come_before start todo now row later is keeps drops come req q found fresh settled =
    let r = keeps.later req q found in
    let f = come req r.after_ r.found fresh (settled_still now (after now row) req q r settled) in
    comes_on (still_due todo now (row ∷ later) q) req row later (is.asks req) (is.stays req)
    ∙ ap (λ (due : Option DocId). comes due req later) (still_same todo now row later q r.after_ is.runs r.same (drops req q r.after_ found r.found))
    ∙ f

-- ---- the test of the row itself

module _ (start : Seen) (todo : ReqId → Option DocId) (ran : ReqId → Bool) (now : Seen) (row : LogRow) (later : List LogRow) (keeps : KeepsQuestions now (after now row)) (drops : DropsNone now (after now row)) (come : PromptsCome start todo (after now row) later) (agrees : Agrees todo ran (after now row) later) (done : List LogRow) where
  -- a request whose last question it settles, whether its prompt is noted already or not
  pub one_duly : (q : Asked) → request_of now q.nr ≡ Some q → MayBeSettled start todo ran q → is_settled_by now (after now row) q ≡ true → is_prompted_after (record { start = start; now = now; done = done; later = later }) row q ≡ true
  one_duly q found may settles =
      let r = keeps.later q.nr q found in
      let parts = and_parts (not (all_asked now q)) (holds (all_asked (after now row)) (request_of (after now row) q.nr)) settles in
      let all : all_asked (after now row) r.after_ ≡ true = subst (λ (o : Option Asked). holds (all_asked (after now row)) o ≡ true) r.found parts.1 in
      let settled : has_settled (after now row) r.after_ ≡ true = rw (asked_same q r.after_ r.same ∙ some_open q.asks parts.0, all) refl in
      let f = come q.nr r.after_ r.found may.fresh settled in
      let un : is_some r.after_.prompted ≡ false = rw r.same.prompted may.unprompted in
      let same : due_prompt (run_end (after now row) later) r.after_ ≡ due_prompt (run_end (after now row) later) q = due_same (run_end (after now row) later) q r.after_ r.same.asks (drops q.nr q r.after_ found r.found) in
      let noted : noted_or (todo r.after_.nr) (due_prompt (run_end (after now row) later) r.after_) ≡ due_prompt (run_end (after now row) later) q = ap (λ (n : ReqId). noted_or (todo n) (due_prompt (run_end (after now row) later) r.after_)) r.same.nr ∙ by_todo (todo q.nr) refl r.after_ r.found same in
      let due : still_due todo (after now row) later r.after_ ≡ due_prompt (run_end (after now row) later) q = rw un noted in
      sym (ap (λ (d : Option DocId). comes d q.nr later) due) ∙ f
    where
      some_open : (asks : List Asking) → not (list_all (is_settled_asking (is_gone now)) asks) ≡ true → is_asked asks ≡ true
      some_open [] e = cc
      some_open (asking ∷ asks) e = refl

      by_todo : (o : Option DocId) → todo q.nr ≡ o → (r : Asked) → request_of (after now row) q.nr ≡ Some r → due_prompt (run_end (after now row) later) r ≡ due_prompt (run_end (after now row) later) q → noted_or (todo q.nr) (due_prompt (run_end (after now row) later) r) ≡ due_prompt (run_end (after now row) later) q
      by_todo None is r at same = rw is same
      by_todo (Some doc) is r at same =
          let some : is_some (todo q.nr) ≡ true = rw is refl in
          let noted : due_prompt (run_end (after now row) later) r ≡ todo q.nr = agrees q.nr r at (may.noted some) in
          let first : noted_or (todo q.nr) (due_prompt (run_end (after now row) later) r) ≡ todo q.nr = rw is refl in
          first ∙ sym noted ∙ same

  -- so it prompts as it is due, whatever it settles
  pub duly : HaveNumbers now → SettlesDue start todo ran now row → prompts_duly (record { start = start; now = now; done = done; later = later }) row ≡ true
  duly numbered due = kept now.requests (all_requests now.requests (λ q. implies (settles q) (prompted q)) one)
    where
      p : Point
      p = record { start = start; now = now; done = done; later = later }

      settles : Asked → Bool
      settles q = is_settled_by now (after now row) q

      prompted : Asked → Bool
      prompted q = is_prompted_after p row q

      by_test : (b : Bool) {c : Bool} → (b ≡ true → c ≡ true) → implies b c ≡ true
      by_test true f = f refl
      by_test false f = refl

      one : (req : ReqId) (q : Asked) → request_of now req ≡ Some q → implies (settles q) (prompted q) ≡ true
      one req q found =
          let own : request_of now q.nr ≡ Some q = ap (λ (r : ReqId). request_of now r) (numbered req q found) ∙ found in
          by_test (settles q) (λ is. one_duly q own (due q own is) is)

      kept : (asked : List Asked) → list_all (λ q. implies (settles q) (prompted q)) asked ≡ true → list_all prompted (filter settles asked) ≡ true
      kept [] all = refl
      kept (q ∷ asked) all =
          let parts = and_parts (implies (settles q) (prompted q)) (list_all (λ q. implies (settles q) (prompted q)) asked) all in
          by_settles (settles q) parts.0 (kept asked parts.1)
        where
          by_settles : (b : Bool) → implies b (prompted q) ≡ true → list_all prompted (filter settles asked) ≡ true → list_all prompted (cond b (q ∷ filter settles asked) (filter settles asked)) ≡ true
          by_settles true is more = rw is more
          by_settles false is more = more
