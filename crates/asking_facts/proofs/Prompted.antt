-- The user is asked, as the table notes it: the rows pass with that row, and what is carried of the checks stays.
use Rattle.std.proofs.Common.{◌≡◌, inl, Bool, true, false, cond, not, ◌&&◌, List, [], ◌∷◌, ◌++◌, Option, Some, None, refl, sym, ap, ◌∙◌, subst}
use Rattle.std.specs.Prelude.{is_none, is_some, option_and_then, option_map}
use Rattle.tab_ids.specs.declared.DocId.{DocId}
use Rattle.tab_ids.specs.declared.ReqId.{ReqId}
use Rattle.log_model.specs.declared.row_kind.LogRow.{LogRow}
use Rattle.log_model.specs.declared.row_kind.RowKind.{RowKind}
use Rattle.log_model.specs.declared.row_kind.RowKind.TheVariants as rows
use Rattle.log_model.specs.After.{after}
use Rattle.log_model.specs.Equal.{holds}
use Rattle.log_model.specs.Places.{all_asked}
use Rattle.log_model.specs.Seen.{Asked, Seen, request_of}
use Rattle.unload_check.specs.declared.check.Check.{Check}
use Rattle.unload_check.specs.declared.check.Check.TheVariants as checks
use Rattle.unload_check.specs.Checks as table
use Rattle.unload_check.specs.Checks.{OpenCheck, after_all_deaths, check_of, is_settled, outcome_of}
use Rattle.seen_laws.proofs.InEvents.{led_here, log_more, pass_more}
use Rattle.seen_laws.proofs.Sendings.{both, led_follows}
use Rattle.seen_laws.specs.Blocks.{Here, Passes, point_at}
use Rattle.seen_laws.specs.InEvent.{InEvent, here_of, log_of, row_of}
use Rattle.seen_laws.specs.Sending.{is_led, leads}
use Rattle.row_facts.proofs.FrameRows.LawfulLaws.{keeps_held, rest_more}
use Rattle.check_facts.proofs.Agreeing.{agree_none}
use Rattle.check_facts.proofs.Asks.{ask_back, prompted_other, prompted_own}
use Rattle.check_facts.proofs.Checked.{prompt_checked}
use Rattle.check_facts.proofs.Events.{start_is}
use Rattle.check_facts.specs.Checking.{AreTiedAt, IsCheckTied, IsTiedIn, is_checking}
use Rattle.check_facts.specs.Prompting.{HaveNumbers, IsAskDue, PromptsCome, had_settled, is_asked, prompt_of, todo_of}
use Rattle.unasked_dues.specs.Checking.{NonePasses}
use Rattle.checking_facts.proofs.Cases.{prompted_checks}
use Rattle.checking_facts.proofs.Tellings.{told_numbers, told_said}
use Rattle.checking_facts.proofs.Waits.{prompted_waits}
use Rattle.checking_facts.specs.Checks.{AreInCheck, NonePassesBut, just}
use Rattle.checking_facts.specs.Prompts.{AreAskedDuly, PassIf, Told}
use Rattle.asking_facts.proofs.Ones.{one_duly, told_outside}
use Rattle.asking_facts.specs.Noting.{IsToPrompt}
use Rattle.asking_facts.specs.Ones.{IsOneHeld}

some_same : {A : Type 0} {a b : A} → (let o : Option A = Some a in o) ≡ Some b → a ≡ b
some_same e = cc

never : {A : Type 0} → true ≡ false → A
never e = absurd cc

and_false : (b : Bool) → (b && false) ≡ false
and_false true = refl
and_false false = refl

-- ---- the rows pass

-- the row does
pub prompt_passes : (e : InEvent) (h : Here) (req : ReqId) (doc : DocId) (later : List LogRow) → is_led h.done ≡ true → IsAskDue h.start h.now req → Passes h.header (point_at h later) (row_of e (rows.Prompted req doc))
prompt_passes e h req doc later led due =
    record {
      formed = both (led_follows h.done (point_at h later) (row_of e (rows.Prompted req doc)) refl led refl) (rw due.found refl);
      once = rw due.found (none_of due.q.prompted due.unprompted);
      caused = refl;
      queued = refl;
      ordered = refl;
      checked = prompt_checked (point_at h later) e.event e.actor req doc due;
      in_time = refl;
      suits = refl;
    }
  where
    none_of : (o : Option DocId) → is_some o ≡ false → is_none o ≡ true
    none_of None is = refl
    none_of (Some d) is = cc

pub prompt_pass : (e : InEvent) (todo : ReqId → Option DocId) (out : List RowKind) (req : ReqId) (doc : DocId) (Before Rest : List LogRow → Type 0) → ((later : List LogRow) → Rest later → Before (row_of e (rows.Prompted req doc) ∷ later)) → leads e.own ≡ true → IsAskDue e.start (log_of e out) req → HaveNumbers (log_of e out) → todo req ≡ Some doc → PassIf Before e todo out → PassIf Rest e todo (out ++ rows.Prompted req doc ∷ [])
unfolding PassIf
prompt_pass e todo out req doc Before Rest ahead led due numbered noted pass later rest =
    let parts = rest_more e out kind (λ r. refl) (keeps_held e out kind refl refl) later rest.0.rest in
    let come : PromptsCome e.start todo (after (log_of e out) (row_of e kind)) later = subst (λ (s : Seen). PromptsCome e.start todo s later) (log_more e out kind) rest.0.prompts in
    pass_more e out (kind ∷ []) later (pass (row_of e kind ∷ later) (
      record {
        rest = parts.0;
        prompts = ask_back e.start (log_of e out) e.event e.actor req doc todo due numbered noted later come;
        agrees = agree_none todo (log_of e out) (row_of e kind ∷ later);
      },
      ahead later rest.1,
    )) (prompt_passes e (here_of e out) req doc later (led_here e out led) (subst (λ (s : Seen). IsAskDue s (log_of e out) req) (sym (start_is e out)) due), tt)
  where
    kind : RowKind
    kind = rows.Prompted req doc

-- ---- the table

-- a check that notes a prompt has come to it, and is settled
record IsPrompting (table : List (ReqId × OpenCheck)) (req : ReqId) (doc : DocId) : Type 0 where
  check : OpenCheck
  at : check_of req table ≡ Some check
  prompts : outcome_of check ≡ checks.Prompt doc
  settled : is_settled check ≡ true

prompting : (table_ : List (ReqId × OpenCheck)) (req : ReqId) (doc : DocId) → todo_of table_ req ≡ Some doc → IsPrompting table_ req doc
prompting table_ req doc noted = by_check (check_of req table_) refl noted
  where
    by_outcome : (o : Check) → prompt_of o ≡ Some doc → o ≡ checks.Prompt doc
    by_outcome checks.Waiting is = cc
    by_outcome (checks.Prompt d) is = ap (λ (x : DocId). checks.Prompt x) (some_same is)
    by_outcome checks.Go is = cc
    by_outcome checks.Stay is = cc

    by_settled : (check : OpenCheck) (b : Bool) → is_settled check ≡ b → cond b (table.decided (table.prompting_doc check.asked) check.stay) checks.Waiting ≡ checks.Prompt doc → b ≡ true
    by_settled check true e is = refl
    by_settled check false e is = cc

    by_check : (o : Option OpenCheck) → check_of req table_ ≡ o → option_and_then prompt_of (option_map outcome_of o) ≡ Some doc → IsPrompting table_ req doc
    by_check None at is = cc
    by_check (Some check) at is =
        let prompts : outcome_of check ≡ checks.Prompt doc = by_outcome (outcome_of check) is in
        record {
          check = check;
          at = at;
          prompts = prompts;
          settled = by_settled check (is_settled check) refl prompts;
        }

module _ (e : InEvent) (checking : ReqId → Bool) (start now : Seen) (told : Told) (asked : AreAskedDuly checking start now told) (req : ReqId) (doc : DocId) (noted : todo_of (after_all_deaths told.run told.checks) req ≡ Some doc) where
  -- the table that was told of the run
  abbrev new : List (ReqId × OpenCheck)
  new = after_all_deaths told.run told.checks

  abbrev pub prompted_then : Seen
  prompted_then = after now (row_of e (rows.Prompted req doc))

  its : IsPrompting new req doc
  its = prompting new req doc noted

  -- who has a prompt noted is in its check
  pub noted_checks : checking req ≡ true
  noted_checks = by_check (checking req) refl
    where
      by_check : (b : Bool) → checking req ≡ b → b ≡ true
      by_check true is = refl
      by_check false is =
          let both : (let o : Option OpenCheck = None in o) ≡ Some its.check = sym (told_outside checking start now told asked req is) ∙ its.at in
          absurd cc

  module _ (due : IsAskDue start now req) (q : Asked) (at : request_of now req ≡ Some q) (may : IsToPrompt q) where
    ready : IsToPrompt due.q
    ready = subst (λ (x : Asked). IsToPrompt x) (some_same (sym at ∙ due.found)) may

    abbrev one : Asked
    one = record due.q { prompted = Some doc }

    all_now : all_asked now due.q ≡ true
    all_now = second (is_asked due.q.asks) (all_asked now due.q) due.settled
      where
        second : (a b : Bool) → (a && b) ≡ true → b ≡ true
        second true b is = is
        second false b is = cc

    -- the check stays the table's, and the prompt is up
    tied_one : AreTiedAt prompted_then (Some one) (check_of req new)
    tied_one =
        subst (λ (o : Option OpenCheck). AreTiedAt prompted_then (Some one) o) (sym its.at) (checking_one, subst (λ (b : Bool). IsCheckTied prompted_then one its.check b) (sym all_now) (λ d up. its.prompts ∙ ap (λ (x : DocId). checks.Prompt x) (some_same up)))
      where
        checking_one : is_checking prompted_then one ≡ true
        checking_one =
            let stays : holds not due.q.answered ≡ false = rw ready.unanswered refl in
            rw (ready.checked, ready.under, all_now, stays) refl

    found_one : request_of prompted_then req ≡ Some one
    found_one = prompted_own start now e.event e.actor req doc due.q due.found

    pub prompt_tied : IsTiedIn prompted_then new req
    prompt_tied =
        subst (λ (o : Option Asked). AreTiedAt prompted_then o (check_of req new)) (sym found_one) tied_one

    -- what is carried of prompts
    pub prompt_duly : AreAskedDuly checking start prompted_then (record { checks = new; run = [] })
    prompt_duly =
        one_duly checking checking start now prompted_then told asked req (λ r apart. refl) (record {
          others = prompted_other start now e.event e.actor req doc;
          gone = λ d. refl;
        }) new (λ r apart. refl) (record {
          within = λ out. told_outside checking start now told asked req out;
          stays = λ had. never (sym had ∙ then_fresh);
          each = λ x at. subst (λ (y : Asked). IsOneHeld start prompted_then new req y) (some_same (sym found_one ∙ at)) held_one;
        })
      where
        then_fresh : had_settled start req ≡ false
        then_fresh = rw due.found_then (rw due.open_then (and_false (is_asked due.was.asks)))

        held_one : IsOneHeld start prompted_then new req one
        held_one =
            record {
              nr = told_numbers start now told asked.run req due.q due.found;
              said = told_said start now told asked.run req due.q due.found;
              held = inl tied_one;
              checked = λ is_open unchecked. never (sym all_now ∙ is_open);
              prompted = λ up. due.settled;
              nothing = λ fresh settled un none. never un;
            }

-- ---- who is in a check

pub prompt_checks : (e : InEvent) (checking : ReqId → Bool) (now : Seen) (req : ReqId) (doc : DocId) → checking req ≡ true → AreInCheck checking now → AreInCheck checking (after now (row_of e (rows.Prompted req doc)))
prompt_checks e checking now req doc on are = prompted_checks checking now e.event e.actor are req doc on

-- the request was left out, as all its questions are settled: it is no more
pub prompt_none : (e : InEvent) (checking : ReqId → Bool) (now : Seen) (req : ReqId) (doc : DocId) (q : Asked) → request_of now req ≡ Some q → q.answered ≡ None → NonePassesBut checking (just req) now → NonePasses checking (after now (row_of e (rows.Prompted req doc)))
prompt_none e checking now req doc q at unanswered none =
    prompted_waits checking now e.event e.actor req doc (λ x found. (let one : q ≡ x = some_same (sym at ∙ found) in ap (λ (y : Asked). holds not y.answered) (sym one) ∙ ap (λ o. holds not o) unanswered)) none
