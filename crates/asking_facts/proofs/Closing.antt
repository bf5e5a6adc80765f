-- An event ends in which somebody was asked: its rows pass where no prompt is noted any more, and the table stands for the log as the next event begins.
use Rattle.std.proofs.Common.{◌≡◌, ◌⊎◌, inl, inr, Bool, true, false, not, ◌&&◌, ◌||◌, List, [], Option, Some, None, refl, sym, ap, ◌∙◌, subst}
use Rattle.std.specs.Prelude.{is_none, is_some}
use Rattle.tab_ids.specs.declared.DocId.{DocId}
use Rattle.tab_ids.specs.declared.ReqId.{ReqId}
use Rattle.log_model.specs.declared.row_kind.LogRow.{LogRow}
use Rattle.log_model.specs.declared.row_kind.RowKind.{RowKind}
use Rattle.log_model.specs.Checks.{due_prompt, is_checked}
use Rattle.log_model.specs.Equal.{holds}
use Rattle.log_model.specs.Places.{all_asked, has_passed, is_gone, is_under_way}
use Rattle.log_model.specs.Seen.{Asked, Seen, request_of}
use Rattle.unload_check.specs.Checks.{OpenCheck, after_all_deaths, check_of}
use Rattle.seen_laws.proofs.InEvents.{pays_end, taken_end}
use Rattle.seen_laws.specs.Blocks.{EachPass}
use Rattle.seen_laws.specs.InEvent.{InEvent, IsPaid, IsTakenIn, later_of, log_of, now_of, rows_of, start_of}
use Rattle.row_facts.specs.FrameRows.Lawful.{has_traversed}
use Rattle.check_facts.proofs.Agreeing.{agree_none}
use Rattle.check_facts.proofs.Tables.{todo_none, todo_open}
use Rattle.check_facts.specs.Checking.{AreTiedAt, IsCheckTied, is_checking, open_check}
use Rattle.check_facts.specs.Having.{HasChecks, IsHeld, OpenChecked}
use Rattle.check_facts.specs.Prompting.{IsUnprompted, comes, still_due, todo_of}
use Rattle.checking_facts.proofs.Tellings.{told_checked, told_due, told_held, told_notes, told_numbers, told_said}
use Rattle.checking_facts.specs.Prompts.{AreAskedDuly, PassIf, Told}
use Rattle.asking_facts.specs.Noting.{IsAllTied, NoneNoted}

-- ---- the rows pass

-- no prompt is due any more where none is noted
pub unprompted : (checking : ReqId → Bool) (start now : Seen) (told : Told) → AreAskedDuly checking start now told → NoneNoted now (after_all_deaths told.run told.checks) → IsUnprompted start (todo_of told.checks) now
unprompted checking start now told asked none req q at fresh settled un =
    (by_case ((told_notes start now told asked.run).more req q at fresh settled un), told_due start now told asked.run req q at fresh settled un unnoted)
  where
    unnoted : todo_of (after_all_deaths told.run told.checks) q.nr ≡ None
    unnoted = none req q at un

    by_case : {P : Type 0} → (todo_of (after_all_deaths told.run told.checks) q.nr ≡ todo_of told.checks q.nr) ⊎ ((todo_of told.checks q.nr ≡ None) × P) → todo_of told.checks q.nr ≡ None
    by_case (inl same) = sym same ∙ unnoted
    by_case (inr new) = new.0

-- nothing comes later
pub pass_last : (Rest : List LogRow → Type 0) (e : InEvent) (todo : ReqId → Option DocId) (out : List RowKind) → PassIf Rest e todo out → Rest [] → IsPaid e out → IsTakenIn e (later_of e out) → (has_traversed e out ≡ true → (now_of e out).parked ≡ []) → IsUnprompted e.start todo (log_of e out) → EachPass (start_of e) (rows_of e out) []
unfolding PassIf
pass_last Rest e todo out pass more paid taken parked none =
    pass [] (
      record {
        rest = record {
          rest = record {
            asks = λ req began. refl;
            taken = taken_end e out taken;
            owed = pays_end e out paid;
          };
          held = λ was. sym (parked was);
        };
        prompts = λ req q at fresh settled. subst (λ (due : Option DocId). comes due req [] ≡ true) (sym (by_prompted q (is_some q.prompted) refl (none req q at fresh settled))) refl;
        agrees = agree_none todo (log_of e out) [];
      },
      more,
    )
  where
    by_prompted : (q : Asked) (b : Bool) → is_some q.prompted ≡ b → (is_some q.prompted ≡ false → (todo q.nr ≡ None) × (due_prompt (log_of e out) q ≡ None)) → still_due todo (log_of e out) [] q ≡ None
    by_prompted q true is f = rw is refl
    by_prompted q false is f = let un = f is in rw is (rw (un.0) (un.1))

-- so the event's rows pass, where the table notes no prompt that didn't come
pub pass_asked : (Rest : List LogRow → Type 0) (e : InEvent) (out : List RowKind) (told : Told) → AreAskedDuly e.checking e.start (log_of e out) told → PassIf Rest e (todo_of told.checks) out → Rest [] → IsPaid e out → IsTakenIn e (later_of e out) → (has_traversed e out ≡ true → (now_of e out).parked ≡ []) → NoneNoted (log_of e out) (after_all_deaths told.run told.checks) → EachPass (start_of e) (rows_of e out) []
pass_asked Rest e out told asked pass more paid taken parked none =
    pass_last Rest e (todo_of told.checks) out pass more paid taken parked (unprompted e.checking e.start (log_of e out) told asked none)

-- ---- as the next event begins

module _ (checking : ReqId → Bool) (start now : Seen) (told : Told) (asked : AreAskedDuly checking start now told) (all : IsAllTied now (after_all_deaths told.run told.checks)) where
  -- the table that was told of the run
  abbrev new : List (ReqId × OpenCheck)
  new = after_all_deaths told.run told.checks

  tied_one : (req : ReqId) (o : Option Asked) → request_of now req ≡ o → AreTiedAt now o (check_of req new)
  tied_one req None at = all.nobody req at
  tied_one req (Some q) at = by_held (told_held start now told asked.run req q at)
    where
      by_held : IsHeld now new req q → AreTiedAt now (Some q) (check_of req new)
      by_held (inl tied) = tied
      by_held (inr settled) = all.settled req q at settled.0 settled.1

  -- it stands for the log
  pub has_checks : HasChecks now new
  has_checks =
      record {
        tied = record { each = λ req. tied_one req (request_of now req) refl };
        said = told_said start now told asked.run;
        numbered = told_numbers start now told asked.run;
        prompted = asked.prompted;
      }

  -- and each with an open question is in its check or was dropped
  pub has_open : OpenChecked now
  has_open = told_checked start now told asked.run

-- ---- of a table that is tied

-- it notes no prompt but those that are up
pub tied_none_noted : (now : Seen) (table : List (ReqId × OpenCheck)) → HasChecks now table → NoneNoted now table
tied_none_noted now table has req q at un =
    subst (λ (n : ReqId). todo_of table n ≡ None) (sym (has.numbered req q at)) (by_check (check_of req table) refl (subst (λ (o : Option Asked). AreTiedAt now o (check_of req table)) at (has.tied.each req)))
  where
    by_all : (c : OpenCheck) → check_of req table ≡ Some c → (is_checking now q ≡ true) × IsCheckTied now q c (all_asked now q) → (b : Bool) → all_asked now q ≡ b → todo_of table req ≡ None
    by_all c there tied false still =
        let own : c ≡ open_check (is_gone now) q.asks = subst (λ (b : Bool). IsCheckTied now q c b) still tied.1 in
        todo_open req table (is_gone now) q.asks (there ∙ ap (λ (x : OpenCheck). let o : Option OpenCheck = Some x in o) own) (has.said req q at) still
    by_all c there tied true all =
        let passed : has_passed now q ≡ true = rw all (leaves q.prompted un) in
        let never : true ≡ false = sym tied.0 ∙ rw passed (no_more (is_checked q) (is_under_way q)) in
        absurd cc
      where
        leaves : (o : Option DocId) → is_some o ≡ false → (is_none o || holds not q.answered) ≡ true
        leaves None is = refl
        leaves (Some doc) is = cc

        no_more : (a b : Bool) → (a && b && false) ≡ false
        no_more true true = refl
        no_more true false = refl
        no_more false b = refl

    by_check : (o : Option OpenCheck) → check_of req table ≡ o → AreTiedAt now (Some q) o → todo_of table req ≡ None
    by_check None there tied = todo_none req table there
    by_check (Some c) there tied = by_all c there tied (all_asked now q) refl

-- so the event's rows pass where each check that is settled has its prompt up
pub pass_tied : (Rest : List LogRow → Type 0) (e : InEvent) (out : List RowKind) (told : Told) → AreAskedDuly e.checking e.start (log_of e out) told → PassIf Rest e (todo_of told.checks) out → Rest [] → IsPaid e out → IsTakenIn e (later_of e out) → (has_traversed e out ≡ true → (now_of e out).parked ≡ []) → IsAllTied (log_of e out) (after_all_deaths told.run told.checks) → EachPass (start_of e) (rows_of e out) []
pass_tied Rest e out told asked pass more paid taken parked all =
    pass_asked Rest e out told asked pass more paid taken parked (tied_none_noted (log_of e out) (after_all_deaths told.run told.checks) (has_checks e.checking e.start (log_of e out) told asked all))
