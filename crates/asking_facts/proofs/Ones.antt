-- Where one request changes, or its check does, all that is carried of prompts goes on to hold, if it does of that one.
use Rattle.std.proofs.Common.{◌≡◌, inl, inr, Bool, true, false, ◌&&◌, ◌||◌, ◌==◌, List, [], ◌∷◌, map, Option, Some, None, refl, sym, ap, ◌∙◌, subst}
use Rattle.std.specs.Prelude.{if◌then◌else◌, is_some, option_and_then, option_map}
use Rattle.std.specs.List.{list_all}
use Rattle.std.specs.Option.{option_map_or}
use Rattle.tab_ids.specs.declared.DocId.{DocId}
use Rattle.tab_ids.specs.declared.ReqId.{ReqId}
use Rattle.log_model.specs.Checks.{due_prompt}
use Rattle.log_model.specs.Equal.{holds}
use Rattle.log_model.specs.Outcomes.{is_drop}
use Rattle.log_model.specs.Places.{all_asked, is_gone}
use Rattle.log_model.specs.Seen.{Asked, Seen, request_of}
use Rattle.seen_facts.proofs.Coord.Held.{fun_ext}
use Rattle.unload_check.specs.declared.asked_doc.AskedDoc.{AskedDoc}
use Rattle.unload_check.specs.Checks as table
use Rattle.unload_check.specs.Checks.{KeepsOthers, OpenCheck, after_all_deaths, check_of, is_settled, outcome_of}
use Rattle.check_facts.proofs.Checkings.{all_go}
use Rattle.check_facts.proofs.Runs.{never_due}
use Rattle.check_facts.proofs.Tables.{check_dead}
use Rattle.check_facts.proofs.Ties.{all_same, tied_same}
use Rattle.check_facts.specs.Checking.{AreChecksTied, AreSaid, AreTiedAt, IsTiedIn, is_checking, is_said}
use Rattle.check_facts.specs.Having.{AreHeld, IsHeld, OpenChecked}
use Rattle.check_facts.specs.Prompting.{HaveNumbers, NothingElseDue, PromptedSettled, StaySettled, had_settled, has_settled, is_asked, prompt_of, todo_of}
use Rattle.checking_facts.proofs.Grown.{req_same}
use Rattle.checking_facts.proofs.Steps.{same_drops}
use Rattle.checking_facts.proofs.Tellings.{told_checked, told_due, told_held, told_numbers, told_said}
use Rattle.checking_facts.specs.Checks.{SameBut}
use Rattle.checking_facts.specs.Prompts.{AreAskedDuly, Told}
use Rattle.asking_facts.specs.Ones.{ChangesOne, IsOneDuly}

-- the check that a table has of a request which isn't in its check, once it was told of the run
pub told_outside : (checking : ReqId → Bool) (start now : Seen) (told : Told) → AreAskedDuly checking start now told → (r : ReqId) → checking r ≡ false → check_of r (after_all_deaths told.run told.checks) ≡ None
told_outside checking start now told asked r out =
    check_dead r told.run told.checks
    ∙ ap (λ (o : Option OpenCheck). option_map (table.after_deaths told.run) o) (asked.within r out)

-- the table is told of the run, as no row comes
pub told_duly : (checking : ReqId → Bool) (start now : Seen) (told : Told) → AreAskedDuly checking start now told → AreAskedDuly checking start now (record { checks = after_all_deaths told.run told.checks; run = [] })
told_duly checking start now told asked =
    record {
      within = told_outside checking start now told asked;
      stays = asked.stays;
      prompted = asked.prompted;
      run = record {
        was = now;
        all = after_all_deaths told.run told.checks;
        same = λ req. inl refl;
        held = told_held start now told asked.run;
        said = told_said start now told asked.run;
        numbered = told_numbers start now told asked.run;
        prompted = asked.prompted;
        checked = told_checked start now told asked.run;
        nothing = told_due start now told asked.run;
        asks = λ r. refl;
        reads = λ r. refl;
        drops = same_drops now;
        gone = λ doc is. is;
        goes = λ r x at. all_go (is_gone now) (is_gone now) [] (λ doc. refl) x.asks;
      };
    }

-- told of none it stays as it was
pub told_none : (checks : List (ReqId × OpenCheck)) → after_all_deaths [] checks ≡ checks
told_none [] = refl
told_none (first ∷ checks) =
    ap (λ (c : OpenCheck). (first.0, c) ∷ after_all_deaths [] checks) (one first.1)
    ∙ ap (λ (l : List (ReqId × OpenCheck)). first ∷ l) (told_none checks)
  where
    same : (asked : List AskedDoc) → map (table.dead_doc []) asked ≡ asked
    same [] = refl
    same (doc ∷ asked) = ap (λ (l : List AskedDoc). doc ∷ l) (same asked)

    one : (c : OpenCheck) → table.after_deaths [] c ≡ c
    one c = by_test (is_settled c)
      where
        by_test : (b : Bool) → (let x : OpenCheck = (if b then c else record c { asked = map (table.dead_doc []) c.asked }) in x) ≡ c
        by_test true = refl
        by_test false = ap (λ (l : List AskedDoc). let x : OpenCheck = record c { asked = l } in x) (same c.asked)

module _ (checking then_checking : ReqId → Bool) (start now t : Seen) (told : Told) (asked : AreAskedDuly checking start now told) (req : ReqId) (same : SameBut req checking then_checking) (change : ChangesOne now t req) (new : List (ReqId × OpenCheck)) (keeps : KeepsOthers req (after_all_deaths told.run told.checks) new) (its : IsOneDuly then_checking start t new req) where
  -- the table that was told of the run
  abbrev was : List (ReqId × OpenCheck)
  was = after_all_deaths told.run told.checks

  all_gone : is_gone t ≡ is_gone now
  all_gone = fun_ext change.gone

  -- a request then: another, as it was, or the one
  by_request : (r : ReqId) (x : Asked) → request_of t r ≡ Some x → (P : ReqId → Asked → Type 0) → ((r.0 == req.0) ≡ false → request_of now r ≡ Some x → P r x) → ((y : Asked) → request_of t req ≡ Some y → P req y) → P r x
  by_request r x at P as_was own = by_number (r.0 == req.0) refl
    where
      by_number : (b : Bool) → (r.0 == req.0) ≡ b → P r x
      by_number false apart = as_was apart (sym (change.others r apart) ∙ at)
      by_number true is =
          let it : r ≡ req = req_same r req is in
          subst (λ (n : ReqId). P n x) (sym it) (own x (ap (λ (n : ReqId). request_of t n) (sym it) ∙ at))

  settled_as : (x : Asked) → has_settled t x ≡ has_settled now x
  settled_as x = ap (λ (g : DocId → Bool). is_asked x.asks && list_all (λ a. a.is_delivered || g a.doc) x.asks) all_gone

  todo_other : (r : ReqId) → (r.0 == req.0) ≡ false → todo_of new r ≡ todo_of was r
  todo_other r apart =
      ap (λ (o : Option OpenCheck). option_and_then prompt_of (option_map outcome_of o)) (keeps r apart)

  held_then : AreHeld t new
  held_then r x at =
      by_request r x at (λ n y. IsHeld t new n y) (λ apart was_at. still apart (told_held start now told asked.run r x was_at)) (λ y own. (its.each y own).held)
    where
      still : (r.0 == req.0) ≡ false → IsHeld now was r x → IsHeld t new r x
      still apart (inl tied_) =
          inl (subst (λ (o : Option OpenCheck). AreTiedAt t (Some x) o) (sym (keeps r apart)) (tied_same now t x x all_gone refl (check_of r was) tied_))
      still apart (inr settled) =
          inr (all_same now t x x all_gone refl ∙ settled.0, ap (λ (o : Option OpenCheck). option_map_or is_settled o false) (keeps r apart) ∙ settled.1)

  checked_then : OpenChecked t
  checked_then r x at is_open unchecked =
      by_request r x at (λ n y. all_asked t y ≡ false → is_checking t y ≡ false → holds is_drop y.ending ≡ true) (λ apart was_at o u. told_checked start now told asked.run r x was_at (sym (all_same now t x x all_gone refl) ∙ o) (tied_same t now x x (sym all_gone) refl None u)) (λ y own. (its.each y own).checked) is_open unchecked

  said_then : AreSaid t
  said_then r x at =
      by_request r x at (λ n y. list_all is_said y.asks ≡ true) (λ apart was_at. told_said start now told asked.run r x was_at) (λ y own. (its.each y own).said)

  numbers_then : HaveNumbers t
  numbers_then r x at =
      by_request r x at (λ n y. y.nr ≡ n) (λ apart was_at. told_numbers start now told asked.run r x was_at) (λ y own. (its.each y own).nr)

  due_then : NothingElseDue start (todo_of new) t
  due_then r x at fresh settled un none =
      by_request r x at (λ n y. had_settled start n ≡ false → has_settled t y ≡ true → is_some y.prompted ≡ false → todo_of new y.nr ≡ None → due_prompt t y ≡ None) (λ apart was_at f s_ u n_. never_due now t x (λ doc is. change.gone doc ∙ is) (told_due start now told asked.run r x was_at f (sym (settled_as x) ∙ s_) u (sym (todo_other x.nr (apart_nr x r (told_numbers start now told asked.run r x was_at) apart)) ∙ n_))) (λ y own f s_ u n_. (its.each y own).nothing f s_ u (ap (todo_of new) (sym (its.each y own).nr) ∙ n_)) fresh settled un none
    where
      apart_nr : (x : Asked) (r : ReqId) → x.nr ≡ r → (r.0 == req.0) ≡ false → (x.nr.0 == req.0) ≡ false
      apart_nr x r nr apart = ap (λ (n : ReqId). n.0 == req.0) nr ∙ apart

  stays_then : StaySettled start t
  stays_then r had = by_number (r.0 == req.0) refl
    where
      by_number : (b : Bool) → (r.0 == req.0) ≡ b → had_settled t r ≡ true
      by_number false apart =
          ap (λ (o : Option Asked). holds (has_settled t) o) (change.others r apart)
          ∙ as_before (request_of now r)
          ∙ asked.stays r had
        where
          as_before : (o : Option Asked) → holds (has_settled t) o ≡ holds (has_settled now) o
          as_before None = refl
          as_before (Some x) = settled_as x
      by_number true is =
          let it : r ≡ req = req_same r req is in
          ap (had_settled t) it ∙ its.stays (ap (had_settled start) (sym it) ∙ had)

  prompted_then : PromptedSettled t
  prompted_then r x at is =
      by_request r x at (λ n y. is_some y.prompted ≡ true → has_settled t y ≡ true) (λ apart was_at up. settled_as x ∙ asked.prompted r x was_at up) (λ y own. (its.each y own).prompted) is

  -- who has a check in the table is in its check
  within_then : (r : ReqId) → then_checking r ≡ false → check_of r new ≡ None
  within_then r out = by_number (r.0 == req.0) refl
    where
      by_number : (b : Bool) → (r.0 == req.0) ≡ b → check_of r new ≡ None
      by_number false apart =
          keeps r apart ∙ told_outside checking start now told asked r (sym (same r apart) ∙ out)
      by_number true is =
          let it : r ≡ req = req_same r req is in
          ap (λ (n : ReqId). check_of n new) it ∙ its.within (ap then_checking (sym it) ∙ out)

  -- all that is carried of prompts
  pub one_duly : AreAskedDuly then_checking start t (record { checks = new; run = [] })
  one_duly =
      record {
        within = within_then;
        stays = stays_then;
        prompted = prompted_then;
        run = record {
          was = t;
          all = new;
          same = λ req. inl refl;
          held = held_then;
          said = said_then;
          numbered = numbers_then;
          prompted = prompted_then;
          checked = checked_then;
          nothing = due_then;
          asks = λ r. refl;
          reads = λ r. refl;
          drops = same_drops t;
          gone = λ doc is. is;
          goes = λ r x at. all_go (is_gone t) (is_gone t) [] (λ doc. refl) x.asks;
        };
      }

-- a table that is tied is so after one request, or its check, has changed, if it is of that one
pub one_tied : (s t : Seen) (req : ReqId) (es new : List (ReqId × OpenCheck)) → ChangesOne s t req → KeepsOthers req es new → AreChecksTied s es → IsTiedIn t new req → AreChecksTied t new
one_tied s t req es new change keeps tied own = record { each = λ r. by_number r (r.0 == req.0) refl }
  where
    by_found : (r : ReqId) (o : Option Asked) → AreTiedAt s o (check_of r es) → AreTiedAt t o (check_of r es)
    by_found r None is = is
    by_found r (Some x) is = tied_same s t x x (fun_ext change.gone) refl (check_of r es) is

    by_number : (r : ReqId) (b : Bool) → (r.0 == req.0) ≡ b → IsTiedIn t new r
    by_number r false apart =
        subst (λ (o : Option Asked). AreTiedAt t o (check_of r new)) (sym (change.others r apart)) (subst (λ (c : Option OpenCheck). AreTiedAt t (request_of s r) c) (sym (keeps r apart)) (by_found r (request_of s r) (tied.each r)))
    by_number r true is = subst (λ (n : ReqId). IsTiedIn t new n) (sym (req_same r req is)) own
