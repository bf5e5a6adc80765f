-- The user stays, and the request is dropped for that: the event's rows pass, and the table of unload checks without the request's check stands for the log.
use Rattle.asking_facts.proofs.Answered.{answered_duly, found_one, stayed_none, stayed_unnoted}
use Rattle.asking_facts.proofs.Ended.{between_duly, withdrawn_duly}
use Rattle.asking_facts.proofs.Known.{known_rows}
use Rattle.asking_facts.proofs.Ones.{one_tied, told_none}
use Rattle.asking_facts.proofs.Stayed.{stayed_pass}
use Rattle.asking_facts.proofs.Wanted.{was_wanted}
use Rattle.asking_facts.specs.Known.{AskingKnown}
use Rattle.asking_facts.specs.Ones.{ChangesOne}
use Rattle.check_facts.proofs.Tables.{check_ended}
use Rattle.check_facts.specs.Checking.{AreChecksTied, AreTiedAt, IsCheckTied, is_checking}
use Rattle.check_facts.specs.Prompting.{is_asked, todo_of}
use Rattle.checking_facts.proofs.Settles.{silent_waits}
use Rattle.checking_facts.proofs.Tellings.{dropped_unchecked}
use Rattle.checking_facts.proofs.Waits.{none_waits}
use Rattle.checking_facts.specs.Prompts.{AreAskedDuly, PassIf}
use Rattle.log_model.specs.After.{after}
use Rattle.log_model.specs.Checks.{is_checked}
use Rattle.log_model.specs.Equal.{has_req}
use Rattle.log_model.specs.Formed.{awaits_answer}
use Rattle.log_model.specs.Places.{all_asked}
use Rattle.log_model.specs.Seen.{Asked, Seen, request_of}
use Rattle.log_model.specs.declared.header.Header.{Header}
use Rattle.log_model.specs.declared.outcome.Cause.TheVariants as drops
use Rattle.log_model.specs.declared.outcome.Ending.TheVariants as endings
use Rattle.log_model.specs.declared.row_kind.Actor.TheVariants as actors
use Rattle.log_model.specs.declared.row_kind.RowKind.{RowKind}
use Rattle.log_model.specs.declared.row_kind.RowKind.TheVariants as rows
use Rattle.seen_facts.proofs.Coord.Held.{on_else}
use Rattle.seen_facts.proofs.Request.LookUps.{on_itself}
use Rattle.seen_laws.specs.Blocks.{EachPass}
use Rattle.seen_laws.specs.InEvent.{InEvent, row_of, rows_of, start_of}
use Rattle.std.proofs.Common.{Bool, List, None, Option, Some, [], ap, cond, false, not, refl, subst, sym, true, ℕ, ◌&&◌, ◌||◌, ◌∙◌, ◌∷◌, ◌≡◌}
use Rattle.std.proofs.lemmas.Bool.{and_parts}
use Rattle.std.specs.Prelude.{is_none, is_some, option_map}
use Rattle.tab_answers.proofs.Tables.{Free, tied_pass, tied_stand}
use Rattle.tab_ids.specs.declared.DocId.{DocId}
use Rattle.tab_ids.specs.declared.ReqId.{ReqId}
use Rattle.tab_stands.specs.Checked.{ChecksStand}
use Rattle.unasked_dues.specs.Checking.{NonePasses}
use Rattle.unload_check.proofs.Stays.{others_ended}
use Rattle.unload_check.specs.Checks as table
use Rattle.unload_check.specs.Checks.{OpenCheck, after_all_deaths, changed, check_of, ended, is_req, outcome_of}
use Rattle.unload_check.specs.declared.check.Check.TheVariants as checks

never : {A : Type 0} → true ≡ false → A
never e = absurd cc

-- what the check of a request was is of no account once it has ended
pub ended_changed : (req : ReqId) (f : OpenCheck → OpenCheck) (es : List (ReqId × OpenCheck)) → ended req (changed req f es) ≡ ended req es
ended_changed req f [] = refl
ended_changed req f (first ∷ es) = by_test (is_req req first.0) refl (ended_changed req f es)
  where
    by_test : (b : Bool) → is_req req first.0 ≡ b → ended req (changed req f es) ≡ ended req es → ended req (let l : List (ReqId × OpenCheck) = cond b ((first.0, f first.1) ∷ es) (first ∷ changed req f es) in l) ≡ ended req (first ∷ es)
    by_test true e rest = rw e refl
    by_test false e rest = rw e (ap (λ (l : List (ReqId × OpenCheck)). first ∷ l) rest)

-- a request whose prompt is up is in its check, with a check that has come to that prompt
pub record HasPrompt (checking : ReqId → Bool) (s : Seen) (es : List (ReqId × OpenCheck)) (req : ReqId) (q : Asked) : Type 0 where
  pub on : checking req ≡ true
  pub in_check : is_checking s q ≡ true
  pub check : OpenCheck
  pub doc : DocId
  pub has : check_of req es ≡ Some check
  pub prompts : outcome_of check ≡ checks.Prompt doc

module _ (header : Header) (s : Seen) (event : ℕ) (checking : ReqId → Bool) (req : ReqId) (es : List (ReqId × OpenCheck)) (asks : ChecksStand checking s es) (known : AskingKnown s) (q : Asked) (found : request_of s req ≡ Some q) (checked : is_checked q ≡ true) (awaits : awaits_answer q ≡ true) where
  abbrev pub e : InEvent
  e =
      record { header = header; start = s; event = event; actor = actors.Ui; own = rows.Answered req true; before = []; ran = []; checking = checking; due = λ end. true; wants = λ behind. true }

  abbrev out : List RowKind
  out = rows.Dropped req drops.Stay ∷ []

  -- ---- what is known of the request

  first : (is_some q.prompted && is_none q.answered ≡ true) × (is_none q.ending ≡ true)
  first = and_parts (is_some q.prompted && is_none q.answered) (is_none q.ending) awaits

  up : is_some q.prompted ≡ true
  up = (and_parts (is_some q.prompted) (is_none q.answered) first.0).0

  none_is : {A : Type 0} (o : Option A) → is_none o ≡ true → o ≡ None
  none_is None is = refl
  none_is (Some x) is = absurd cc

  pub open_ : q.ending ≡ None
  open_ = none_is q.ending first.1

  unanswered : q.answered ≡ None
  unanswered = none_is q.answered (and_parts (is_some q.prompted) (is_none q.answered) first.0).1

  pub numbered : q.nr ≡ req
  numbered = asks.has.numbered req q found

  pub settled : (is_asked q.asks ≡ true) × (all_asked s q ≡ true)
  settled = and_parts (is_asked q.asks) (all_asked s q) (asks.has.prompted req q found up)

  -- who has questions has begun
  pub began : q.is_started ≡ true
  began = by_start q.is_started refl
    where
      by_start : (b : Bool) → q.is_started ≡ b → b ≡ true
      by_start true is = refl
      by_start false is =
          let none : q.asks ≡ [] = known.early req q found is in
          let no : false ≡ true = ap is_asked (sym none) ∙ settled.0 in
          cc

  pub in_check : is_checking s q ≡ true
  in_check = rw (checked, began, open_, settled.1, unanswered) (by_prompt q.prompted up)
    where
      by_prompt : (o : Option DocId) → is_some o ≡ true → not (is_none o || false) ≡ true
      by_prompt None is = absurd cc
      by_prompt (Some doc) is = refl

  prompt : (doc : DocId) × (q.prompted ≡ Some doc)
  prompt = by_prompt q.prompted up
    where
      by_prompt : (o : Option DocId) → is_some o ≡ true → (doc : DocId) × (o ≡ Some doc)
      by_prompt None is = absurd cc
      by_prompt (Some doc) is = (doc, refl)

  pub prompted : HasPrompt checking s es req q
  prompted =
      by_check (check_of req es) refl (subst (λ (o : Option Asked). AreTiedAt s o (check_of req es)) found (asks.has.tied.each req))
    where
      within : (c : OpenCheck) → check_of req es ≡ Some c → (b : Bool) → checking req ≡ b → b ≡ true
      within c there true is = refl
      within c there false is = (let both : None ≡ Some c = sym (asks.within req is) ∙ there in absurd cc)

      by_check : (o : Option OpenCheck) → check_of req es ≡ o → AreTiedAt s (Some q) o → HasPrompt checking s es req q
      by_check None there own = never (sym in_check ∙ own)
      by_check (Some c) there own =
          let tied : IsCheckTied s q c true = subst (λ (b : Bool). IsCheckTied s q c b) settled.1 own.1 in
          record {
            on = within c there (checking req) refl;
            in_check = in_check;
            check = c;
            doc = prompt.0;
            has = there;
            prompts = tied prompt.0 prompt.1;
          }

  -- ---- the user answers

  abbrev pub said : Seen
  said = after s (row_of e (rows.Answered req true))

  began_duly : AreAskedDuly checking s s (record { checks = es; run = [] })
  began_duly = between_duly checking s es asks.has asks.open_ asks.within

  abbrev pub answered_table : List (ReqId × OpenCheck)
  answered_table = changed req (table.after_user true) es

  pub said_duly : AreAskedDuly checking s said (record { checks = answered_table; run = [] })
  said_duly =
      answered_duly checking s event req true es began_duly q found up numbered prompted.check prompted.doc prompted.has prompted.prompts

  abbrev pub one : Asked
  one = record q { answered = Some true }

  pub one_found : request_of said req ≡ Some one
  one_found = found_one checking s event req true es began_duly q found up numbered

  pub unnoted : todo_of (after_all_deaths [] answered_table) req ≡ None
  unnoted =
      ap (λ (l : List (ReqId × OpenCheck)). todo_of l req) (told_none answered_table)
      ∙ stayed_unnoted checking s event req true es began_duly q found up numbered prompted.check prompted.doc prompted.has prompted.prompts refl

  -- ---- and it is dropped

  abbrev pub dropped : Seen
  dropped = after said (row_of e (rows.Dropped req drops.Stay))

  -- the check is gone
  pub table_is : ended req (after_all_deaths [] answered_table) ≡ ended req es
  table_is = ap (ended req) (told_none answered_table) ∙ ended_changed req (table.after_user true) es

  pub duly : AreAskedDuly checking s dropped (record { checks = ended req es; run = [] })
  duly =
      subst (λ (l : List (ReqId × OpenCheck)). AreAskedDuly checking s dropped (record { checks = l; run = [] })) table_is
      (withdrawn_duly checking s said (record { checks = answered_table; run = [] }) said_duly req (λ x at un. unnoted) e drops.Stay)

  abbrev answer : Asked → Asked
  answer x = record x { answered = Some true }

  abbrev drop : Asked → Asked
  drop x = record x { ending = Some (endings.Dropped drops.Stay) }

  dropped_found : request_of dropped req ≡ Some (drop one)
  dropped_found = on_itself said.requests req drop ∙ ap (λ (o : Option Asked). option_map drop o) one_found

  change : ChangesOne s dropped req
  change =
      record {
        others = λ r apart. on_else said.requests req drop r apart ∙ on_else s.requests req answer r apart;
        gone = λ doc. refl;
      }

  tied : AreChecksTied dropped (ended req es)
  tied =
      one_tied s dropped req es (ended req es) change (others_ended req es) asks.has.tied (rw (dropped_found, check_ended req es) (dropped_unchecked dropped (drop one) refl))

  module _ (unparked : has_req s.parked req ≡ false) where
    pub stays_pass : EachPass (start_of e) (rows_of e out) []
    stays_pass =
        tied_pass e out (ended req es) duly tied (subst (λ (l : List (ReqId × OpenCheck)). PassIf Free e (todo_of l) out) table_is (stayed_pass e refl req q refl refl found numbered awaits open_ (was_wanted s known.wanted req q found awaits) unparked Free (record { checks = answered_table; run = [] }) said_duly one_found unnoted)) refl refl (λ moves. absurd cc)

    pub stays_calm : NonePasses checking dropped
    stays_calm r x at runs goes on =
        silent_waits checking (λ n. false) said (row_of e (rows.Dropped req drops.Stay)) tt tt tt (none_waits checking said (stayed_none checking s event req prompted.on q found up asks.calm) (λ n. false)) r x at runs goes on refl

    pub stays_known : AskingKnown dropped
    stays_known = known_rows (start_of e) (rows_of e out) [] stays_pass (tt, (tt, tt)) known

    pub stays_asks : ChecksStand checking dropped (ended req es)
    stays_asks = tied_stand checking s dropped (ended req es) duly tied stays_calm
