-- Between two events, and a check that ends in the table as its request passes or is withdrawn: what is carried of the checks stays.
use Rattle.std.proofs.Common.{◌≡◌, inl, Bool, true, false, ◌&&◌, ◌==◌, List, [], ◌∷◌, ◌++◌, Option, Some, None, refl, sym, ap, ◌∙◌, subst}
use Rattle.std.specs.Prelude.{is_some, option_and_then, option_map}
use Rattle.std.proofs.lemmas.Bool.{and_parts}
use Rattle.tab_ids.specs.declared.DocId.{DocId}
use Rattle.tab_ids.specs.declared.ReqId.{ReqId}
use Rattle.log_model.specs.declared.outcome.Cause.{Cause}
use Rattle.log_model.specs.declared.outcome.Ending.TheVariants as endings
use Rattle.log_model.specs.declared.row_kind.LogRow.{LogRow}
use Rattle.log_model.specs.declared.row_kind.RowKind.{RowKind}
use Rattle.log_model.specs.declared.row_kind.RowKind.TheVariants as rows
use Rattle.log_model.specs.After.{after}
use Rattle.log_model.specs.Checks.{due_prompt, is_checked, is_of_run}
use Rattle.log_model.specs.Equal.{holds}
use Rattle.log_model.specs.Places.{all_asked, has_passed, is_gone, is_under_way, may_leave}
use Rattle.log_model.specs.Seen.{Asked, Seen, request_of}
use Rattle.unload_check.specs.Checks.{OpenCheck, after_all_deaths, check_of, ended, outcome_of}
use Rattle.unload_check.proofs.Stays.{others_ended}
use Rattle.seen_laws.proofs.InEvents.{log_more, pass_more}
use Rattle.seen_laws.specs.Blocks.{EachPass}
use Rattle.seen_laws.specs.InEvent.{InEvent, here_of, log_of, row_of}
use Rattle.seen_laws.specs.Owing.{Pays}
use Rattle.seen_facts.proofs.Coord.Held.{on_else}
use Rattle.seen_facts.proofs.Request.LookUps.{on_itself}
use Rattle.row_facts.proofs.FrameRows.LawfulLaws.{AsksOf, rest_more}
use Rattle.row_facts.specs.FrameRows.Lawful.{KeepsHeld}
use Rattle.check_facts.proofs.Agreeing.{agree_none, agree_other}
use Rattle.check_facts.proofs.Asides.{dropped_aside}
use Rattle.check_facts.proofs.Carried.{stay_own}
use Rattle.check_facts.proofs.Checkings.{all_go}
use Rattle.check_facts.proofs.Notings.{tied_held}
use Rattle.check_facts.proofs.Promptings.{none_front}
use Rattle.check_facts.proofs.Runs.{come_aside, come_more}
use Rattle.check_facts.proofs.Tables.{check_ended, todo_none}
use Rattle.check_facts.specs.Checking.{AreTiedAt, is_checking}
use Rattle.check_facts.specs.Having.{HasChecks, OpenChecked}
use Rattle.check_facts.specs.Prompting.{IsAside, PromptsCome, comes, has_settled, none_ran, noted_or, prompt_of, run_end, still_due, todo_of, unless_prompted}
use Rattle.checking_facts.proofs.Grown.{req_same}
use Rattle.checking_facts.proofs.Steps.{same_drops}
use Rattle.checking_facts.proofs.Tellings.{dropped_unchecked, runs_now, told_agrees, told_due, told_notes, told_numbers, told_said}
use Rattle.checking_facts.specs.Checks.{SameBut}
use Rattle.checking_facts.specs.Prompts.{AreAskedDuly, PassIf, Told}
use Rattle.asking_facts.proofs.Ones.{one_duly}
use Rattle.asking_facts.specs.Ones.{IsOneHeld}

never : {A : Type 0} → true ≡ false → A
never e = absurd cc

some_same : {A : Type 0} {a b : A} → (let o : Option A = Some a in o) ≡ Some b → a ≡ b
some_same e = cc

-- ---- as an event begins

-- what is carried of prompts, of a table that is tied to the log
pub between_duly : (checking : ReqId → Bool) (s : Seen) (es : List (ReqId × OpenCheck)) → HasChecks s es → OpenChecked s → ((req : ReqId) → checking req ≡ false → check_of req es ≡ None) → AreAskedDuly checking s s (record { checks = es; run = [] })
between_duly checking s es has checked within =
    record {
      within = within;
      stays = stay_own s;
      prompted = has.prompted;
      run = record {
        was = s;
        all = es;
        same = λ req. inl refl;
        held = tied_held s es has.tied;
        said = has.said;
        numbered = has.numbered;
        prompted = has.prompted;
        checked = checked;
        nothing = λ req q at fresh settled un none. never (sym (ap (λ (o : Option Asked). holds (has_settled s) o) at ∙ settled) ∙ fresh);
        asks = λ r. refl;
        reads = λ r. refl;
        drops = same_drops s;
        gone = λ doc is. is;
        goes = λ r x at. all_go (is_gone s) (is_gone s) [] (λ doc. refl) x.asks;
      };
    }

-- ---- what is noted changes where nothing is due any more

-- the rows pass by other notes, if these are the same for all that have no prompt
pub pass_noting : (Rest : List LogRow → Type 0) (e : InEvent) (todo new : ReqId → Option DocId) (out : List RowKind) → ((req : ReqId) (q : Asked) → request_of (log_of e out) req ≡ Some q → is_some q.prompted ≡ false → new q.nr ≡ todo q.nr) → PassIf Rest e todo out → PassIf Rest e new out
unfolding PassIf
pass_noting Rest e todo new out same pass later rest =
    pass later (record { rest = rest.0.rest; prompts = come later rest.0.prompts; agrees = agree_none todo (log_of e out) later }, rest.1)
  where
    come : (later : List LogRow) → PromptsCome e.start new (log_of e out) later → PromptsCome e.start todo (log_of e out) later
    come later all req q at fresh settled =
        subst (λ (d : Option DocId). comes d req later ≡ true) (by_prompted (is_some q.prompted) refl) (all req q at fresh settled)
      where
        by_prompted : (b : Bool) → is_some q.prompted ≡ b → still_due new (log_of e out) later q ≡ still_due todo (log_of e out) later q
        by_prompted true is = rw is refl
        by_prompted false is =
            ap (λ (o : Option DocId). unless_prompted q (noted_or o (due_prompt (run_end (log_of e out) later) q))) (same req q at is)

-- ---- a check ends in the table

-- nothing is noted for the request, unless it was prompted
abbrev pub IsUnnoted : Seen → List (ReqId × OpenCheck) → ReqId → Type 0
IsUnnoted now table req = (q : Asked) → request_of now req ≡ Some q → is_some q.prompted ≡ false → todo_of table req ≡ None

-- so the table notes the same without its check
todo_ended : (now : Seen) (table : List (ReqId × OpenCheck)) (req : ReqId) → IsUnnoted now table req → (r : ReqId) (q : Asked) → request_of now r ≡ Some q → q.nr ≡ r → is_some q.prompted ≡ false → todo_of (ended req table) q.nr ≡ todo_of table q.nr
todo_ended now table req unnoted r q at nr un = by_number (r.0 == req.0) refl
  where
    by_number : (b : Bool) → (r.0 == req.0) ≡ b → todo_of (ended req table) q.nr ≡ todo_of table q.nr
    by_number false apart =
        subst (λ (n : ReqId). todo_of (ended req table) n ≡ todo_of table n) (sym nr) (ap (λ (o : Option OpenCheck). option_and_then prompt_of (option_map outcome_of o)) (others_ended req table r apart))
    by_number true is =
        let it : r ≡ req = req_same r req is in
        let own : request_of now req ≡ Some q = ap (λ (n : ReqId). request_of now n) (sym it) ∙ at in
        subst (λ (n : ReqId). todo_of (ended req table) n ≡ todo_of table n) (sym (nr ∙ it)) (todo_none req (ended req table) (check_ended req table) ∙ sym (unnoted q own un))

module _ (checking : ReqId → Bool) (start now : Seen) (told : Told) (asked : AreAskedDuly checking start now told) (req : ReqId) (unnoted : IsUnnoted now (after_all_deaths told.run told.checks) req) where
  -- the table that was told of the run
  abbrev new : List (ReqId × OpenCheck)
  new = after_all_deaths told.run told.checks

  -- ---- the request passes

  module _ (passed : ReqId → Bool) (same : SameBut req checking passed) (has : (q : Asked) → request_of now req ≡ Some q → has_passed now q ≡ true) where
    pub ended_duly : AreAskedDuly passed start now (record { checks = ended req new; run = [] })
    ended_duly =
        one_duly checking passed start now now told asked req same (record { others = λ r apart. refl; gone = λ doc. refl }) (ended req new) (others_ended req new) (record {
          within = λ out. check_ended req new;
          stays = asked.stays req;
          each = held;
        })
      where
        unchecked : (q : Asked) → has_passed now q ≡ true → is_checking now q ≡ false
        unchecked q is = rw is (no_more (is_checked q) (is_under_way q))
          where
            no_more : (a b : Bool) → (a && b && false) ≡ false
            no_more true true = refl
            no_more true false = refl
            no_more false b = refl

        held : (x : Asked) → request_of now req ≡ Some x → IsOneHeld start now (ended req new) req x
        held x at =
            record {
              nr = told_numbers start now told asked.run req x at;
              said = told_said start now told asked.run req x at;
              held = inl (subst (λ (o : Option OpenCheck). AreTiedAt now (Some x) o) (sym (check_ended req new)) (unchecked x (has x at)));
              checked = λ is_open un. never (sym (and_parts (all_asked now x) (may_leave x) (has x at)).0 ∙ is_open);
              prompted = asked.prompted req x at;
              nothing = λ fresh settled un none. told_due start now told asked.run req x at fresh settled un (ap (todo_of new) (told_numbers start now told asked.run req x at) ∙ unnoted x at un);
            }

  -- ---- it is dropped

  module _ (e : InEvent) (cause : Cause) where
    abbrev pub dropped_then : Seen
    dropped_then = after now (row_of e (rows.Dropped req cause))

    abbrev drop : Asked → Asked
    drop q = record q { ending = Some (endings.Dropped cause) }

    -- the request after it
    was_one : (x : Asked) → request_of dropped_then req ≡ Some x → (q : Asked) × (request_of now req ≡ Some q) × (drop q ≡ x)
    was_one x at =
        by_found (request_of now req) refl (sym (on_itself now.requests req drop) ∙ at)
      where
        by_found : (o : Option Asked) → request_of now req ≡ o → option_map drop o ≡ Some x → (q : Asked) × (request_of now req ≡ Some q) × (drop q ≡ x)
        by_found None was is = absurd cc
        by_found (Some q) was is = (q, was, some_same is)

    then_settled : (o : Option Asked) → holds (has_settled now) o ≡ holds (has_settled dropped_then) (option_map drop o)
    then_settled None = refl
    then_settled (Some q) = refl

    pub withdrawn_duly : AreAskedDuly checking start dropped_then (record { checks = ended req new; run = [] })
    withdrawn_duly =
        one_duly checking checking start now dropped_then told asked req (λ r apart. refl) (record {
          others = λ r apart. on_else now.requests req drop r apart;
          gone = λ doc. refl;
        }) (ended req new) (others_ended req new) (record {
          within = λ out. check_ended req new;
          stays = λ had. ap (λ (o : Option Asked). holds (has_settled dropped_then) o) (on_itself now.requests req drop) ∙ sym (then_settled (request_of now req)) ∙ asked.stays req had;
          each = λ x at. (let w = was_one x at in subst (λ (y : Asked). IsOneHeld start dropped_then (ended req new) req y) w.2 (held w.0 w.1));
        })
      where
        held : (q : Asked) → request_of now req ≡ Some q → IsOneHeld start dropped_then (ended req new) req (drop q)
        held q at =
            record {
              nr = told_numbers start now told asked.run req q at;
              said = told_said start now told asked.run req q at;
              held = inl (subst (λ (o : Option OpenCheck). AreTiedAt dropped_then (Some (drop q)) o) (sym (check_ended req new)) (dropped_unchecked dropped_then (drop q) refl));
              checked = λ is_open un. refl;
              prompted = asked.prompted req q at;
              nothing = λ fresh settled un none. refl;
            }

-- ---- the rows pass

-- as a request passes and its check ends, by the table without it
pub ended_pass : (Rest : List LogRow → Type 0) (e : InEvent) (out : List RowKind) (told : Told) (asked : AreAskedDuly e.checking e.start (log_of e out) told) (req : ReqId) → IsUnnoted (log_of e out) (after_all_deaths told.run told.checks) req → PassIf Rest e (todo_of (after_all_deaths told.run told.checks)) out → PassIf Rest e (todo_of (ended req (after_all_deaths told.run told.checks))) out
ended_pass Rest e out told asked req unnoted pass =
    pass_noting Rest e (todo_of (after_all_deaths told.run told.checks)) (todo_of (ended req (after_all_deaths told.run told.checks))) out (λ r q at un. todo_ended (log_of e out) (after_all_deaths told.run told.checks) req unnoted r q at (told_numbers e.start (log_of e out) told asked.run r q at) un) pass

-- as one is dropped that is in its check
module _ (e : InEvent) (out : List RowKind) (told : Told) (asked : AreAskedDuly e.checking e.start (log_of e out) told) (req : ReqId) (cause : Cause) (Before Rest : List LogRow → Type 0) (ahead : (later : List LogRow) → Rest later → Before (row_of e (rows.Dropped req cause) ∷ later)) (unnoted : IsUnnoted (log_of e out) (after_all_deaths told.run told.checks) req) (keeps : KeepsHeld e out (rows.Dropped req cause)) (may : (later : List LogRow) → AsksOf e out (rows.Dropped req cause) later × Pays (here_of e out) (row_of e (rows.Dropped req cause) ∷ []) later → Rest later → EachPass (here_of e out) (row_of e (rows.Dropped req cause) ∷ []) later) where
  abbrev kind : RowKind
  kind = rows.Dropped req cause

  abbrev here : Seen
  here = log_of e out

  abbrev next_ : Seen
  next_ = after here (row_of e kind)

  abbrev new_ : List (ReqId × OpenCheck)
  new_ = after_all_deaths told.run told.checks

  aside : IsAside e.start (todo_of new_) here (row_of e kind)
  aside = dropped_aside e.start (todo_of new_) here e.event e.actor (told_due e.start here told asked.run) req cause

  noted : (later : List LogRow) → PromptsCome e.start (todo_of new_) next_ later → PromptsCome e.start (todo_of told.checks) here (row_of e kind ∷ later)
  noted later come =
      come_more e.start (todo_of told.checks) none_ran (todo_of new_) (runs_now e.start here told asked.run) here (row_of e kind ∷ later) (told_numbers e.start here told asked.run) (told_notes e.start here told asked.run) (agree_other (todo_of new_) (runs_now e.start here told asked.run) here (row_of e kind ∷ later) (none_front is_of_run (row_of e kind) later aside.ends) (told_agrees e.start here told asked.run)) (come_aside e.start (todo_of new_) here (row_of e kind) later aside come)

  row_pass : PassIf Before e (todo_of told.checks) out → PassIf Rest e (todo_of new_) (out ++ kind ∷ [])
  unfolding PassIf
  row_pass pass later rest =
      let parts = rest_more e out kind (λ r. refl) keeps later rest.0.rest in
      let come : PromptsCome e.start (todo_of new_) next_ later = subst (λ (s : Seen). PromptsCome e.start (todo_of new_) s later) (log_more e out kind) rest.0.prompts in
      pass_more e out (kind ∷ []) later (pass (row_of e kind ∷ later) (record { rest = parts.0; prompts = noted later come; agrees = agree_none (todo_of told.checks) here (row_of e kind ∷ later) }, ahead later rest.1)) (may later parts.1 rest.1)

  -- the requests after it
  abbrev dropped : Asked → Asked
  dropped q = record q { ending = Some (endings.Dropped cause) }

  same_nr : (r : ReqId) (x : Asked) → request_of next_ r ≡ Some x → (q : Asked) × (request_of here r ≡ Some q) × (x.nr ≡ q.nr) × (x.prompted ≡ q.prompted)
  same_nr r x at = by_number (r.0 == req.0) refl
    where
      by_own : (o : Option Asked) → request_of here req ≡ o → option_map dropped o ≡ Some x → (q : Asked) × (request_of here req ≡ Some q) × (x.nr ≡ q.nr) × (x.prompted ≡ q.prompted)
      by_own None was is = absurd cc
      by_own (Some q) was is =
          let one : dropped q ≡ x = some_same is in
          (q, was, ap (λ (y : Asked). y.nr) (sym one), ap (λ (y : Asked). y.prompted) (sym one))

      by_number : (b : Bool) → (r.0 == req.0) ≡ b → (q : Asked) × (request_of here r ≡ Some q) × (x.nr ≡ q.nr) × (x.prompted ≡ q.prompted)
      by_number false apart = (x, sym (on_else here.requests req dropped r apart) ∙ at, refl, refl)
      by_number true is =
          let it : r ≡ req = req_same r req is in
          let own = by_own (request_of here req) refl (sym (on_itself here.requests req dropped) ∙ ap (λ (n : ReqId). request_of next_ n) (sym it) ∙ at) in
          (own.0, ap (λ (n : ReqId). request_of here n) it ∙ own.1, own.2, own.3)

  pub withdrawn_pass : PassIf Before e (todo_of told.checks) out → PassIf Rest e (todo_of (ended req new_)) (out ++ kind ∷ [])
  withdrawn_pass pass =
      pass_noting Rest e (todo_of new_) (todo_of (ended req new_)) (out ++ kind ∷ []) (λ r x at un. (let its = same_nr r x (subst (λ (s : Seen). request_of s r ≡ Some x) (log_more e out kind) at) in subst (λ (n : ReqId). todo_of (ended req new_) n ≡ todo_of new_ n) (sym its.2) (todo_ended here new_ req unnoted r its.0 its.1 (told_numbers e.start here told asked.run r its.0 its.1) (ap (λ (o : Option DocId). is_some o) (sym its.3) ∙ un)))) (row_pass pass)
