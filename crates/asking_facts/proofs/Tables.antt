-- The table of checks once a request has begun its check in it: it stands for the log with the request's questions.
use Rattle.std.proofs.Common.{◌≡◌, inl, ◌+◌, Bool, true, false, ◌&&◌, ◌==◌, List, [], map, Option, Some, refl, sym, ap, ◌∙◌, subst}
use Rattle.std.specs.Prelude.{option_and_then, option_map}
use Rattle.tab_ids.specs.declared.ReqId.{ReqId}
use Rattle.tab_ids.specs.declared.Step.{Step}
use Rattle.log_model.specs.declared.job.Job.{Job}
use Rattle.log_model.specs.Checks.{is_checked}
use Rattle.log_model.specs.Equal.{holds}
use Rattle.log_model.specs.Orders.{Question}
use Rattle.log_model.specs.Places.{all_asked, is_gone, is_under_way}
use Rattle.log_model.specs.Seen.{Asked, Seen, request_of}
use Rattle.seen_laws.specs.InEvent.{InEvent}
use Rattle.seen_facts.proofs.Coord.Held.{fun_ext}
use Rattle.unload_check.specs.Checks.{OpenCheck, after_all_deaths, check_of, opened, outcome_of}
use Rattle.unload_check.proofs.Stays.{others_begun}
use Rattle.check_facts.proofs.Checkings.{begun_tied}
use Rattle.check_facts.proofs.Tables.{check_begun, todo_none, todo_open}
use Rattle.check_facts.specs.Checking.{AreChecksTied, AreTiedAt, IsCheckTied, is_checking, open_check}
use Rattle.check_facts.specs.Prompting.{has_settled, is_asked, prompt_of, todo_of}
use Rattle.checking_facts.proofs.Grown.{req_same}
use Rattle.checking_facts.proofs.Tellings.{told_numbers}
use Rattle.checking_facts.specs.Checks.{SameBut}
use Rattle.checking_facts.specs.Prompts.{AreAskedDuly, Told}
use Rattle.asking_facts.proofs.Ones.{one_duly, one_tied, told_outside}
use Rattle.asking_facts.specs.Ones.{ChangesOne, IsOneHeld}
use Rattle.asking_facts.proofs.Begun.{asked_one, docs_are, said_new, then_, then_gone, then_new, then_open, then_other, then_own, unsettled}
use Rattle.asking_facts.specs.Asking.{AreQuestions, AreSome, BeginsToAsk, checks_begun}

some_same : {A : Type 0} {a b : A} → (let o : Option A = Some a in o) ≡ Some b → a ≡ b
some_same e = cc

never : {A : Type 0} → true ≡ false → A
never e = absurd cc

module _ (e : InEvent) (checking : ReqId → Bool) (start now : Seen) (told : Told) (asked : AreAskedDuly checking start now told) (req : ReqId) (goal : Option Step) (questions : List Question) (jobs : List Job) (q : Asked) (begins : BeginsToAsk now req goal questions q) (are : AreQuestions now req questions jobs) (some : AreSome questions) (off : checking req ≡ false) where
  -- the log, and the request, with the questions
  abbrev t : Seen
  t = then_ e now req goal questions jobs q begins are

  abbrev one : Asked
  one = asked_one e now req goal questions jobs q begins are

  own : request_of t req ≡ Some one
  own = then_own e now req goal questions jobs q begins are

  open_ : all_asked t one ≡ false
  open_ = then_open e now req goal questions jobs q begins are some

  was_open : has_settled now q ≡ false
  was_open = unsettled e now req goal questions jobs q begins are

  -- the table that was told of the run, and with the check
  abbrev was : List (ReqId × OpenCheck)
  was = after_all_deaths told.run told.checks

  abbrev pub table_then : List (ReqId × OpenCheck)
  table_then = checks_begun told req questions

  abbrev check : OpenCheck
  check = opened (map (λ (question : Question). question.0) questions)

  -- ---- the table

  check_own : check_of req table_then ≡ Some (open_check (is_gone t) one.asks)
  check_own =
      check_begun req check was
      ∙ ap (λ (c : OpenCheck). let o : Option OpenCheck = Some c in o) (sym (begun_tied (is_gone t) one.asks (then_new e now req goal questions jobs q begins are) ∙ ap opened (docs_are now req (now.jobs + 1) questions jobs are)))

  check_other : (r : ReqId) → (r.0 == req.0) ≡ false → check_of r table_then ≡ check_of r was
  check_other r apart = others_begun req check was r apart

  -- it notes what the table did that was told of the run
  pub todo_begun : (r : ReqId) → todo_of table_then r ≡ todo_of was r
  todo_begun r = by_number (r.0 == req.0) refl
    where
      by_number : (b : Bool) → (r.0 == req.0) ≡ b → todo_of table_then r ≡ todo_of was r
      by_number false apart =
          ap (λ (o : Option OpenCheck). option_and_then prompt_of (option_map outcome_of o)) (check_other r apart)
      by_number true is =
          let it : r ≡ req = req_same r req is in
          ap (todo_of table_then) it
          ∙ todo_open req table_then (is_gone t) one.asks check_own (said_new jobs) open_
          ∙ sym (ap (todo_of was) it ∙ todo_none req was (told_outside checking start now told asked req off))

  pub all_todo : todo_of table_then ≡ todo_of was
  all_todo = fun_ext todo_begun

  -- ---- it stands for the log

  one_open : has_settled t one ≡ false
  one_open = rw open_ (no_end (is_asked one.asks))
    where
      no_end : (b : Bool) → (b && false) ≡ false
      no_end true = refl
      no_end false = refl

  -- the request is in its check
  pub is_in_check : is_checked q ≡ true → is_checking t one ≡ true
  is_in_check checked =
      let under : is_under_way one ≡ true = rw begins.open_ refl in
      rw (checked, under, open_) refl

  change : ChangesOne now t req
  change =
      record {
        others = then_other e now req goal questions jobs q begins are;
        gone = then_gone e now req goal questions jobs q begins are;
      }

  one_held : is_checked q ≡ true → IsOneHeld start t table_then req one
  one_held checked =
      record {
        nr = told_numbers start now told asked.run req q begins.at;
        said = said_new jobs;
        held = inl (subst (λ (o : Option OpenCheck). AreTiedAt t (Some one) o) (sym check_own) (is_in_check checked, tied));
        checked = λ is_open unchecked. never (sym (is_in_check checked) ∙ unchecked);
        prompted = λ up. never (sym (asked.prompted req q begins.at up) ∙ was_open);
        nothing = λ fresh settled un none. never (sym settled ∙ one_open);
      }
    where
      tied : IsCheckTied t one (open_check (is_gone t) one.asks) (all_asked t one)
      tied = subst (λ (b : Bool). IsCheckTied t one (open_check (is_gone t) one.asks) b) (sym open_) refl

  -- all that is carried of prompts, from the questions on
  pub begun_duly : (entered : ReqId → Bool) → SameBut req checking entered → entered req ≡ true → is_checked q ≡ true → AreAskedDuly entered start t (record { checks = table_then; run = [] })
  begun_duly entered same on checked =
      one_duly checking entered start now t told asked req same change table_then (others_begun req check was) (record {
        within = λ out. never (sym on ∙ out);
        stays = λ had. never (sym (ap (λ (o : Option Asked). holds (has_settled now) o) (sym begins.at) ∙ asked.stays req had) ∙ was_open);
        each = λ x at. subst (λ (y : Asked). IsOneHeld start t table_then req y) (some_same (sym own ∙ at)) (one_held checked);
      })

  -- a table that was tied is so with the check
  pub begun_tied_then : is_checked q ≡ true → AreChecksTied now was → AreChecksTied t table_then
  begun_tied_then checked tied =
      one_tied now t req was table_then change (others_begun req check was) tied (rw (own, check_own) (is_in_check checked, subst (λ (b : Bool). IsCheckTied t one (open_check (is_gone t) one.asks) b) (sym open_) refl))
