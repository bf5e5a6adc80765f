-- Where nobody was asked, what is carried of checks and prompts holds of a table without checks; and how the rows of an event begin and end to pass.
use Rattle.std.proofs.Common.{◌≡◌, inl, Bool, true, false, ◌&&◌, List, [], ◌∷◌, Option, Some, None, refl, sym, ap, ◌∙◌, subst}
use Rattle.std.specs.Prelude.{fold, is_some, option_map}
use Rattle.tab_ids.specs.declared.DocId.{DocId}
use Rattle.tab_ids.specs.declared.ReqId.{ReqId}
use Rattle.log_model.specs.declared.row_kind.LogRow.{LogRow}
use Rattle.log_model.specs.declared.row_kind.RowKind.{RowKind}
use Rattle.log_model.specs.Checks.{is_checked}
use Rattle.log_model.specs.Equal.{holds}
use Rattle.log_model.specs.Places.{has_passed, is_gone, is_under_way}
use Rattle.log_model.specs.Seen.{Asked, Seen, request_of}
use Rattle.unload_check.specs.Checks.{OpenCheck, after_deaths, check_of}
use Rattle.row_facts.specs.FrameRows.Lawful.{AreLawful, has_traversed}
use Rattle.row_facts.proofs.FrameRows.Cut.{rest_cut, rest_wanting, same_rows}
use Rattle.seen_laws.proofs.Cuts.{log_cut}
use Rattle.seen_laws.proofs.InEvents.{pays_end, taken_end}
use Rattle.seen_laws.specs.Blocks.{EachPass}
use Rattle.seen_laws.specs.InEvent.{InEvent, IsPaid, IsTakenIn, cut, later_of, log_of, now_of, rows_of, running, start_of, wanting}
use Rattle.seen_laws.specs.Unasked.{unasked, unasked_request}
use Rattle.unasked.proofs.Readings.{request_read}
use Rattle.check_facts.proofs.Agreeing.{agree_none}
use Rattle.check_facts.proofs.Checkings.{all_go}
use Rattle.check_facts.proofs.Tables.{check_dead}
use Rattle.check_facts.specs.Checking.{AreTiedAt, is_checking}
use Rattle.check_facts.specs.Prompting.{Agrees, HaveNumbers, PromptsCome, had_settled, has_settled, none_ran}
use Rattle.unasked_dues.specs.Checking.{AllOthersPass}
use Rattle.checking_facts.proofs.Steps.{same_drops}
use Rattle.checking_facts.specs.Prompts.{AreAskedDuly, NobodyAsked, NoneChecked, PassIf, Told, discarded_by, tell_for, tell_row, told_by}

some_same : {A : Type 0} {a b : A} → (let o : Option A = Some a in o) ≡ Some b → a ≡ b
some_same e = cc

-- a log that is as it would be had nobody been asked
pub plain_nobody : (checking : ReqId → Bool) (s : Seen) → unasked checking s ≡ s → NobodyAsked s
plain_nobody checking s plain req q found =
    by_found (request_of s req) (sym (request_read checking s req) ∙ ap (λ (x : Seen). request_of x req) plain ∙ found)
  where
    asks_none : (p : Asked) (b : Bool) → checking p.nr ≡ b → ((unasked_request checking p).asks ≡ []) × ((unasked_request checking p).prompted ≡ None)
    asks_none p true e = (rw e refl, rw e refl)
    asks_none p false e = (rw e refl, rw e refl)

    by_found : (o : Option Asked) → option_map (unasked_request checking) o ≡ Some q → (q.asks ≡ []) × (q.prompted ≡ None)
    by_found None e = cc
    by_found (Some p) e =
        let one : unasked_request checking p ≡ q = some_same e in
        let none = asks_none p (checking p.nr) refl in
        (ap (λ (x : Asked). x.asks) (sym one) ∙ none.0, ap (λ (x : Asked). x.prompted) (sym one) ∙ none.1)

-- who asked nobody isn't settled
unsettled : (s : Seen) (q : Asked) → q.asks ≡ [] → has_settled s q ≡ false
unsettled s q none = rw none refl

never : {A : Type 0} → false ≡ true → A
never e = absurd cc

never_settled : (s : Seen) → NobodyAsked s → (req : ReqId) → had_settled s req ≡ false
never_settled s nobody req = by_found (request_of s req) refl
  where
    by_found : (o : Option Asked) → request_of s req ≡ o → holds (has_settled s) (request_of s req) ≡ false
    by_found None at = rw at refl
    by_found (Some q) at = rw at (unsettled s q (nobody req q at).0)

module _ (checking : ReqId → Bool) (start now : Seen) (checks : List (ReqId × OpenCheck)) (before : NobodyAsked start) (nobody : NobodyAsked now) (numbered : HaveNumbers now) (passes : AllOthersPass checking now) (off : (req : ReqId) → checking req ≡ false) (none : NoneChecked checks) where
  unchecked : (r : Asked) → has_passed now r ≡ true → is_checking now r ≡ false
  unchecked r has = rw has (no_more (is_checked r) (is_under_way r))
    where
      no_more : (a b : Bool) → (a && b && false) ≡ false
      no_more true true = refl
      no_more true false = refl
      no_more false b = refl

  pub nobody_duly : AreAskedDuly checking start now (record { checks = checks; run = [] })
  nobody_duly =
      record {
        within = λ req o. none req;
        stays = λ req had. never (sym (never_settled start before req) ∙ had);
        prompted = λ req q found is. never (sym (ap (λ (o : Option DocId). is_some o) (nobody req q found).1) ∙ is);
        run = record {
          was = now;
          all = checks;
          same = λ req. inl refl;
          held = λ req q found. inl (subst (λ (o : Option OpenCheck). AreTiedAt now (Some q) o) (sym (none req)) (unchecked q (passes req q found (off req))));
          said = λ req q found. rw ((nobody req q found).0) refl;
          numbered = numbered;
          prompted = λ req q found is. never (sym (ap (λ (o : Option DocId). is_some o) (nobody req q found).1) ∙ is);
          checked = λ req q found open_ un. never (sym open_ ∙ (rw ((nobody req q found).0) refl));
          nothing = λ req q found fresh settled un noted. never (sym (unsettled now q (nobody req q found).0) ∙ settled);
          asks = λ r. refl;
          reads = λ r. refl;
          drops = same_drops now;
          gone = λ doc is. is;
          goes = λ req q found. all_go (is_gone now) (is_gone now) [] (λ doc. refl) q.asks;
        };
      }

-- ---- rows begin to pass, and go on to the event's end

-- what is lawful without prompts is so with them
pub lawful_pass : (Rest : List LogRow → Type 0) (e : InEvent) (todo : ReqId → Option DocId) (out : List RowKind) → AreLawful e out → PassIf Rest e todo out
unfolding AreLawful PassIf
lawful_pass Rest e todo out lawful later rest = lawful later rest.0.rest

-- at the end nothing comes later; where nobody was asked, no prompt is due
pub pass_end : (Rest : List LogRow → Type 0) (e : InEvent) (todo : ReqId → Option DocId) (out : List RowKind) → PassIf Rest e todo out → Rest [] → IsPaid e out → IsTakenIn e (later_of e out) → (has_traversed e out ≡ true → (now_of e out).parked ≡ []) → NobodyAsked (log_of e out) → EachPass (start_of e) (rows_of e out) []
unfolding PassIf
pass_end Rest e todo out pass more paid taken parked nobody =
    pass [] (
      record {
        rest = record {
          rest = record {
            asks = λ req began. refl;
            taken = taken_end e out taken;
            owed = pays_end e out paid;
          };
          held = λ was. sym (parked was);
        };
        prompts = λ req q found fresh settled. never (sym (unsettled (log_of e out) q (nobody req q found).0) ∙ settled);
        agrees = agree_none todo (log_of e out) [];
      },
      more,
    )

-- the rows so far pass as they did once the event is cut behind them
pub pass_cut : (Rest : List LogRow → Type 0) (e : InEvent) (todo : ReqId → Option DocId) (out : List RowKind) (checking : ReqId → Bool) (due : Seen → Bool) → PassIf Rest e todo out → PassIf Rest (cut e out checking due) todo []
unfolding PassIf
pass_cut Rest e todo out checking due pass later rest =
    subst (λ (l : List LogRow). EachPass (start_of e) l later) (sym (same_rows e out checking due))
    (pass later (
      record {
        rest = rest_cut e out checking due later rest.0.rest;
        prompts = subst (λ (s : Seen). PromptsCome e.start todo s later) (log_cut e out checking due) rest.0.prompts;
        agrees = subst (λ (s : Seen). Agrees todo none_ran s later) (log_cut e out checking due) rest.0.agrees;
      },
      rest.1,
    ))

-- and whatever is wanted of the rows behind a cut
pub pass_wanting : (Rest : List LogRow → Type 0) (e : InEvent) (todo : ReqId → Option DocId) (out : List RowKind) (wants : List LogRow → Bool) (ran : List DocId) → PassIf Rest e todo out → PassIf Rest (running (wanting e wants) ran) todo out
unfolding PassIf
pass_wanting Rest e todo out wants ran pass later rest =
    pass later (
      record {
        rest = rest_wanting e wants ran out later rest.0.rest;
        prompts = rest.0.prompts;
        agrees = rest.0.agrees;
      },
      rest.1,
    )

-- ---- a table without checks stays one

one_none : (req : ReqId) (told : Told) (kind : RowKind) → check_of req (tell_row told kind).checks ≡ None → check_of req told.checks ≡ None
one_none req told kind is = by_document (discarded_by kind) is
  where
    by_check : (o : Option OpenCheck) → option_map (after_deaths told.run) o ≡ None → o ≡ None
    by_check None e = refl
    by_check (Some c) e = cc

    by_document : (o : Option DocId) → check_of req (tell_for told o).checks ≡ None → check_of req told.checks ≡ None
    by_document (Some doc) e = e
    by_document None e = by_check (check_of req told.checks) (sym (check_dead req told.run told.checks) ∙ e)

all_none : (req : ReqId) (told : Told) (out : List RowKind) → check_of req (fold tell_row told out).checks ≡ None → check_of req told.checks ≡ None
all_none req told [] is = is
all_none req told (kind ∷ out) is = one_none req told kind (all_none req (tell_row told kind) out is)

told_one : (req : ReqId) (told : Told) (kind : RowKind) → check_of req told.checks ≡ None → check_of req (tell_row told kind).checks ≡ None
told_one req told kind is = by_document (discarded_by kind)
  where
    by_document : (o : Option DocId) → check_of req (tell_for told o).checks ≡ None
    by_document (Some doc) = is
    by_document None = check_dead req told.run told.checks ∙ ap (λ (o : Option OpenCheck). option_map (after_deaths told.run) o) is

told_all : (req : ReqId) (told : Told) (out : List RowKind) → check_of req told.checks ≡ None → check_of req (fold tell_row told out).checks ≡ None
told_all req told [] is = is
told_all req told (kind ∷ out) is = told_all req (tell_row told kind) out (told_one req told kind is)

-- it has none once it was told of rows
pub none_told : (ran : List DocId) (checks : List (ReqId × OpenCheck)) (out : List RowKind) → NoneChecked checks → NoneChecked (told_by ran checks out).checks
none_told ran checks out none req = told_all req (record { checks = checks; run = ran }) out (none req)

-- where it has none once it was told of the rows, it had none before
pub none_before : (ran : List DocId) (checks : List (ReqId × OpenCheck)) (out : List RowKind) → NoneChecked (told_by ran checks out).checks → NoneChecked checks
none_before ran checks out none req = all_none req (record { checks = checks; run = ran }) out (none req)
