-- The table is told of the run of documents that were discarded last: then it holds each check, and nothing is due but what it notes.
use Rattle.std.proofs.Common.{◌≡◌, ◌⊎◌, inl, inr, Bool, true, false, not, ◌&&◌, ◌||◌, List, Option, Some, None, refl, sym, ap, ◌∙◌, subst}
use Rattle.std.specs.Prelude.{cond, is_none, is_some, option_and_then, option_map}
use Rattle.std.specs.List.{list_all}
use Rattle.std.specs.Option.{option_map_or}
use Rattle.std.proofs.lemmas.Bool.{and_parts}
use Rattle.tab_ids.specs.declared.DocId.{DocId}
use Rattle.tab_ids.specs.declared.ReqId.{ReqId}
use Rattle.log_model.specs.declared.outcome.Ending.{Ending}
use Rattle.log_model.specs.Checks.{due_prompt, is_checked}
use Rattle.log_model.specs.Equal.{holds}
use Rattle.log_model.specs.Outcomes.{is_drop}
use Rattle.log_model.specs.Places.{all_asked, has_passed, is_gone, is_load, is_reload, is_settled_asking, is_traversal, is_under_way, may_leave}
use Rattle.log_model.specs.Seen.{Asked, Seen, request_of}
use Rattle.unload_check.specs.declared.check.Check.TheVariants as checks
use Rattle.unload_check.specs.Checks as table
use Rattle.unload_check.specs.Checks.{OpenCheck, after_all_deaths, check_of, is_settled, outcome_of}
use Rattle.unload_check.proofs.Stays.{settled_deaths}
use Rattle.seen_facts.proofs.Each.Courses.{was_asked}
use Rattle.check_facts.specs.Checking.{AreSaid, AreTiedAt, Checked, IsCheckTied, checked_of, is_checking, is_said, open_check}
use Rattle.check_facts.specs.Having.{AreHeld, IsHeld, OpenChecked}
use Rattle.check_facts.specs.Prompting.{AgreesNow, HaveNumbers, NotesMore, NothingElseDue, none_ran, prompt_of, todo_of}
use Rattle.check_facts.proofs.Carried.{numbers_plain}
use Rattle.check_facts.proofs.Checkings.{settled_same}
use Rattle.check_facts.proofs.Notings.{NewsAreTold, deaths_agree, deaths_note, ran_more}
use Rattle.check_facts.proofs.Rows.{Plain, plain_of, settled_more}
use Rattle.check_facts.proofs.RunEnds.{news_told, told_nothing}
use Rattle.check_facts.proofs.Tables.{check_dead}
use Rattle.check_facts.proofs.Ties.{dead_at}
use Rattle.checking_facts.specs.Prompts.{HasGoneOn, HasRun, Told}

some_same : {A : Type 0} {a b : A} → (let o : Option A = Some a in o) ≡ Some b → a ≡ b
some_same e = cc

-- whether a request is in its check, by what the table reads of it and whether all were asked
abbrev checking_by : Checked → Bool → Bool → Bool
checking_by x checked all =
    checked && (x.is_started && x.is_open) && not (all && (is_none x.prompted || holds not x.answered))

-- who was dropped is in no check
pub dropped_unchecked : (s : Seen) (q : Asked) → holds is_drop q.ending ≡ true → is_checking s q ≡ false
dropped_unchecked s q dropped =
    by_ending q.ending refl dropped (is_checked q) q.is_started (not (has_passed s q))
  where
    none : (a b c : Bool) → (a && (b && false) && c) ≡ false
    none true true c = refl
    none true false c = refl
    none false b c = refl

    by_ending : (o : Option Ending) → q.ending ≡ o → holds is_drop o ≡ true → (a b c : Bool) → (a && (b && is_none q.ending) && c) ≡ false
    by_ending None is e a b c = cc
    by_ending (Some ending) is e a b c = rw is (none a b c)

-- a check that has come to a prompt is settled
prompt_settled : (check : OpenCheck) (doc : DocId) → outcome_of check ≡ checks.Prompt doc → is_settled check ≡ true
prompt_settled check doc is = by_test (is_settled check) refl is
  where
    by_test : (b : Bool) → is_settled check ≡ b → cond b (table.decided (table.prompting_doc check.asked) check.stay) checks.Waiting ≡ checks.Prompt doc → b ≡ true
    by_test true e is = refl
    by_test false e is = cc

module _ (start now : Seen) (told : Told) (run : HasRun start now told) where
  abbrev s : Seen
  s = run.was

  -- the table that held each check as the run began, and that one told of the run
  abbrev es : List (ReqId × OpenCheck)
  es = run.all

  abbrev whole : List (ReqId × OpenCheck)
  whole = after_all_deaths told.run run.all

  -- the coordinator's, told of it
  abbrev pub new : List (ReqId × OpenCheck)
  new = after_all_deaths told.run told.checks

  -- ---- a request as the run began, and now

  looks : (req : ReqId) (q r : Asked) → request_of s req ≡ Some q → request_of now req ≡ Some r → checked_of q ≡ checked_of r
  looks req q r was found =
      some_same (sym (ap (λ (o : Option Asked). option_map checked_of o) was) ∙ sym (run.reads req) ∙ ap (λ (o : Option Asked). option_map checked_of o) found)

  -- whether it is in its check is the same where all were asked then, and now
  checking_at : (q r : Asked) → checked_of q ≡ checked_of r → all_asked now r ≡ all_asked s q → is_checking now r ≡ is_checking s q
  checking_at q r same all =
      ap (λ (b : Bool). checking_by (checked_of r) (is_checked r) b) all
      ∙ ap (λ (b : Bool). checking_by (checked_of r) b (all_asked s q)) kind
      ∙ ap (λ (x : Checked). checking_by x (is_checked q) (all_asked s q)) (sym same)
    where
      kind : is_checked r ≡ is_checked q
      kind = ap (λ (x : Checked). is_load x.what || is_traversal x.what || is_reload x.what) (sym same)

  -- where all were asked then, all are now
  all_now : (q r : Asked) → plain_of q ≡ plain_of r → all_asked s q ≡ true → all_asked now r ≡ true
  all_now q r same all =
      sym (ap (λ (x : Plain). list_all (is_settled_asking (is_gone now)) x.asks) same) ∙ settled_more s now q.asks run.gone all

  -- ---- the table holds each check

  dead : (req : ReqId) → check_of req es ≡ None → check_of req whole ≡ None
  dead req at = check_dead req told.run es ∙ ap (λ (o : Option OpenCheck). option_map (table.after_deaths told.run) o) at

  module _ (req : ReqId) (q r : Asked) (was : request_of s req ≡ Some q) (found : request_of now req ≡ Some r) (same : plain_of q ≡ plain_of r) where
    -- one of which all were asked
    settled_held : all_asked s q ≡ true → IsHeld s es req q → IsHeld now whole req r
    settled_held all (inr settled) =
        inr (all_now q r same all, ap (λ (o : Option OpenCheck). option_map_or is_settled o false) (settled_deaths told.run es req settled.1) ∙ settled.1)
    settled_held all (inl tied) = by_check (check_of req es) refl tied
      where
        then_ : all_asked now r ≡ true
        then_ = all_now q r same all

        still : is_checking now r ≡ is_checking s q
        still = checking_at q r (looks req q r was found) (then_ ∙ sym all)

        prompted : (o : Option DocId) (a : Option Bool) → not (is_none o || holds not a) ≡ true → (doc : DocId) × (o ≡ Some doc)
        prompted None a e = cc
        prompted (Some doc) a e = (doc, refl)

        by_check : (o : Option OpenCheck) → check_of req es ≡ o → AreTiedAt s (Some q) o → IsHeld now whole req r
        by_check None at tied = inl (subst (λ (o : Option OpenCheck). AreTiedAt now (Some r) o) (sym (dead req at)) (still ∙ tied))
        by_check (Some c) at tied =
            let parts = and_parts (is_checked q && is_under_way q) (not (has_passed s q)) tied.0 in
            let up : not (may_leave q) ≡ true = sym (ap (λ (b : Bool). not (b && may_leave q)) all) ∙ parts.1 in
            let on : IsCheckTied s q c true = subst (λ (b : Bool). IsCheckTied s q c b) all tied.1 in
            let doc = prompted q.prompted q.answered up in
            let settled : option_map_or is_settled (check_of req es) false ≡ true = rw at (prompt_settled c doc.0 (on doc.0 doc.1)) in
            let here : check_of req whole ≡ Some c = settled_deaths told.run es req settled ∙ at in
            let tie : IsCheckTied now r c true = λ d is. on d (ap (λ (x : Plain). x.prompted) same ∙ is) in
            inl (subst (λ (o : Option OpenCheck). AreTiedAt now (Some r) o) (sym here) (still ∙ tied.0, subst (λ (b : Bool). IsCheckTied now r c b) (sym then_) tie))

    -- one with a question open then
    open_held : all_asked s q ≡ false → IsHeld s es req q → IsHeld now whole req r
    open_held open_ (inr settled) = let both : true ≡ false = sym settled.0 ∙ open_ in absurd cc
    open_held open_ (inl tied) = by_check (check_of req es) refl tied
      where
        by_check : (o : Option OpenCheck) → check_of req es ≡ o → AreTiedAt s (Some q) o → IsHeld now whole req r
        by_check None at tied =
            let dropped : holds is_drop r.ending ≡ true = run.drops req q r was found ∙ run.checked req q was open_ tied in
            inl (subst (λ (o : Option OpenCheck). AreTiedAt now (Some r) o) (sym (dead req at)) (dropped_unchecked now r dropped))
        by_check (Some c) at tied = by_now (all_asked now r) refl
          where
            own : AreTiedAt s (Some q) (check_of req es)
            own = subst (λ (o : Option OpenCheck). AreTiedAt s (Some q) o) (sym at) tied

            here : check_of req whole ≡ Some (open_check (is_gone now) r.asks)
            here =
                dead_at s now es req told.run q own tied.0 open_ (run.said req q was) (run.goes req q was)
                ∙ ap (λ (x : Plain). let o : Option OpenCheck = Some (open_check (is_gone now) x.asks) in o) same

            said : list_all is_said r.asks ≡ true
            said = sym (ap (λ (x : Plain). list_all is_said x.asks) same) ∙ run.said req q was

            by_now : (b : Bool) → all_asked now r ≡ b → IsHeld now whole req r
            by_now true all = inr (all, rw here (settled_same (is_gone now) r.asks said ∙ all))
            by_now false all =
                inl (subst (λ (o : Option OpenCheck). AreTiedAt now (Some r) o) (sym here) (
                  checking_at q r (looks req q r was found) (all ∙ sym open_) ∙ tied.0,
                  subst (λ (b : Bool). IsCheckTied now r (open_check (is_gone now) r.asks) b) (sym all) refl,
                ))

  whole_held : AreHeld now whole
  whole_held req r found =
      let p = was_asked plain_of s.requests now.requests run.asks req r found in
      by_all p.0 p.1 p.2 (all_asked s p.0) refl
    where
      by_all : (q : Asked) → request_of s req ≡ Some q → plain_of q ≡ plain_of r → (b : Bool) → all_asked s q ≡ b → IsHeld now whole req r
      by_all q was same true all = settled_held req q r was found same all (run.held req q was)
      by_all q was same false all = open_held req q r was found same all (run.held req q was)

  -- ---- the coordinator's has the same checks, but of those that have passed

  told_as : (req : ReqId) → check_of req told.checks ≡ check_of req run.all → check_of req new ≡ check_of req whole
  told_as req same =
      check_dead req told.run told.checks
      ∙ ap (λ (o : Option OpenCheck). option_map (table.after_deaths told.run) o) same
      ∙ sym (check_dead req told.run run.all)

  abbrev note_of : Option OpenCheck → Option DocId
  note_of o = option_and_then prompt_of (option_map outcome_of o)

  none_told : (req : ReqId) → check_of req told.checks ≡ None → check_of req new ≡ None
  none_told req none =
      check_dead req told.run told.checks ∙ ap (λ (o : Option OpenCheck). option_map (table.after_deaths told.run) o) none

  -- who has passed is in no check
  passed_off : (r : Asked) → has_passed now r ≡ true → is_checking now r ≡ false
  passed_off r has = rw has (no_more (is_checked r) (is_under_way r))
    where
      no_more : (a b : Bool) → (a && b && false) ≡ false
      no_more true true = refl
      no_more true false = refl
      no_more false b = refl

  pub told_held : AreHeld now new
  told_held req r found = by_same (run.same req)
    where
      by_same : (check_of req told.checks ≡ check_of req run.all) ⊎ HasGoneOn now told.checks req → IsHeld now new req r
      by_same (inr gone) =
          inl (subst (λ (o : Option OpenCheck). AreTiedAt now (Some r) o) (sym (none_told req gone.none)) (passed_off r (gone.passed r found)))
      by_same (inl same) = by_held (whole_held req r found)
        where
          by_held : IsHeld now whole req r → IsHeld now new req r
          by_held (inl tied) =
              inl (subst (λ (o : Option OpenCheck). AreTiedAt now (Some r) o) (sym (told_as req same)) tied)
          by_held (inr settled) =
              inr (settled.0, ap (λ (o : Option OpenCheck). option_map_or is_settled o false) (told_as req same) ∙ settled.1)

  -- ---- and of what is carried

  pub told_said : AreSaid now
  told_said req r found =
      let p = was_asked plain_of s.requests now.requests run.asks req r found in
      sym (ap (λ (x : Plain). list_all is_said x.asks) p.2) ∙ run.said req p.0 p.1

  pub told_numbers : HaveNumbers now
  told_numbers = numbers_plain s now run.asks run.numbered

  pub told_checked : OpenChecked now
  told_checked req r found open_ unchecked =
      let p = was_asked plain_of s.requests now.requests run.asks req r found in
      by_all p.0 p.1 p.2 (all_asked s p.0) refl
    where
      by_all : (q : Asked) → request_of s req ≡ Some q → plain_of q ≡ plain_of r → (b : Bool) → all_asked s q ≡ b → holds is_drop r.ending ≡ true
      by_all q was same true all = let both : true ≡ false = sym (all_now q r same all) ∙ open_ in absurd cc
      by_all q was same false all =
          let still : is_checking now r ≡ is_checking s q = checking_at q r (looks req q r was found) (open_ ∙ sym all) in
          run.drops req q r was found ∙ run.checked req q was all (sym still ∙ unchecked)

  -- nothing is due but what it notes
  pub told_due : NothingElseDue start (todo_of new) now
  told_due req q found fresh settled un none = by_same (run.same q.nr)
    where
      by_same : (check_of q.nr told.checks ≡ check_of q.nr run.all) ⊎ HasGoneOn now told.checks q.nr → due_prompt now q ≡ None
      by_same (inl same) =
          told_nothing s now es told.run run.held run.said run.numbered run.asks run.drops run.gone run.goes start run.checked run.nothing req q found fresh settled un (sym (ap note_of (told_as q.nr same)) ∙ none)
      by_same (inr gone) =
          gone.undue q (ap (λ (n : ReqId). request_of now n) (told_numbers req q found) ∙ found)

  never : {A : Type 0} → false ≡ true → A
  never e = absurd cc

  -- the requests for which it notes a prompt that it didn't note before
  abbrev pub runs_now : ReqId → Bool
  runs_now = ran_more none_ran (todo_of told.checks) (todo_of new)

  pub told_notes : NotesMore start (todo_of told.checks) none_ran (todo_of new) runs_now now
  told_notes = deaths_note start now told.checks new none_ran (settled_deaths told.run told.checks) (λ req is. never is)

  -- one for which it does has its check
  news : NewsAreTold now told.checks new
  news req q found none some = by_same (run.same req)
    where
      by_same : (check_of req told.checks ≡ check_of req run.all) ⊎ HasGoneOn now told.checks req → (check_of req new ≡ Some (open_check (is_gone now) q.asks)) × (list_all is_said q.asks ≡ true) × (holds is_drop q.ending ≡ false)
      by_same (inl same) =
          let its = news_told s now es told.run run.held run.said run.numbered run.asks run.drops run.gone run.goes req q found (sym (ap note_of same) ∙ none) (sym (ap (λ (o : Option OpenCheck). is_some (note_of o)) (told_as req same)) ∙ some) in
          (told_as req same ∙ its.0, its.1, its.2)
      by_same (inr gone) =
          let off : is_some (todo_of new req) ≡ false = ap (λ (o : Option OpenCheck). is_some (note_of o)) (none_told req gone.none) in
          never (sym off ∙ some)

  -- and that is what is due
  pub told_agrees : AgreesNow (todo_of new) runs_now now
  told_agrees =
      deaths_agree now told.checks new none_ran (settled_deaths told.run told.checks) (λ req is. never is) news (λ req q found is. never is)
