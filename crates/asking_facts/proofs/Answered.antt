-- The user answers, as an event's own row: the row passes, and what is carried of the checks stays, as the request passes and as it is to be dropped.
use Rattle.std.proofs.Common.{◌≡◌, inl, inr, ℕ, Bool, true, false, ◌&&◌, ◌||◌, List, [], ◌∷◌, Option, Some, None, refl, sym, ap, ◌∙◌, subst}
use Rattle.std.specs.Prelude.{cond, is_none, is_some, option_and_then, option_map}
use Rattle.std.specs.List.{list_all}
use Rattle.std.specs.Option.{option_map_or}
use Rattle.std.proofs.lemmas.Bool.{and_parts}
use Rattle.tab_ids.specs.declared.DocId.{DocId}
use Rattle.tab_ids.specs.declared.ReqId.{ReqId}
use Rattle.log_model.specs.declared.outcome.Cause.TheVariants as drops
use Rattle.log_model.specs.declared.row_kind.Actor.TheVariants as actors
use Rattle.log_model.specs.declared.row_kind.LogRow.{LogRow}
use Rattle.log_model.specs.declared.row_kind.RowKind.TheVariants as rows
use Rattle.log_model.specs.After.{after}
use Rattle.log_model.specs.Causes.{is_stayed_duly}
use Rattle.log_model.specs.Checks.{is_checked}
use Rattle.log_model.specs.Equal.{holds}
use Rattle.log_model.specs.Formed.{awaits_answer}
use Rattle.log_model.specs.Places.{all_asked, has_passed, is_under_way}
use Rattle.log_model.specs.Seen.{Asked, Seen, request_of}
use Rattle.log_model.proofs.Refl.{nat_eq_refl}
use Rattle.unload_check.specs.declared.check.Check.{Check}
use Rattle.unload_check.specs.declared.check.Check.TheVariants as checks
use Rattle.unload_check.specs.Checks as table
use Rattle.unload_check.specs.Checks.{OpenCheck, changed, check_of, ended, is_settled, outcome_of}
use Rattle.unload_check.proofs.Stays.{others_changed, others_ended}
use Rattle.seen_laws.proofs.InEvents.{uncut_rows}
use Rattle.seen_laws.specs.Blocks.{EachPass, Passes, point_at}
use Rattle.seen_laws.specs.InEvent.{InEvent, row_of, start_of}
use Rattle.seen_facts.proofs.Coord.Held.{on_else}
use Rattle.seen_facts.proofs.Request.LookUps.{on_itself}
use Rattle.seen_facts.proofs.Request.Readers.{on_read}
use Rattle.check_facts.proofs.Tables.{check_changed, check_ended}
use Rattle.check_facts.proofs.Ties.{user_at}
use Rattle.check_facts.specs.Checking.{AreChecksTied, AreTiedAt, is_checking, is_said}
use Rattle.check_facts.specs.Prompting.{had_settled, has_settled, is_asked, prompt_of, todo_of}
use Rattle.unasked_dues.specs.Checking.{NonePasses}
use Rattle.checking_facts.proofs.Cases.{answered_checks}
use Rattle.checking_facts.proofs.Entering.{passed_checks}
use Rattle.checking_facts.proofs.Tellings.{told_said}
use Rattle.checking_facts.proofs.Waits.{left_waits, none_waits, passed_waits, stayed_waits}
use Rattle.checking_facts.specs.Checks.{AreInCheck, SameBut, just}
use Rattle.checking_facts.specs.Prompts.{AreAskedDuly, PassIf}
use Rattle.asking_facts.proofs.Notes.{asks_notes, ended_notes}
use Rattle.asking_facts.proofs.NotesOver.{one_notes}
use Rattle.asking_facts.proofs.Ones.{one_duly, one_tied, told_none}
use Rattle.asking_facts.proofs.Waiting.{asks_of}
use Rattle.asking_facts.specs.Ones.{ChangesOne, IsOneHeld}
use Rattle.asking_facts.specs.Prompting.{NotesWanted}

never : {A : Type 0} → true ≡ false → A
never e = absurd cc

some_same : {A : Type 0} {a b : A} → (let o : Option A = Some a in o) ≡ Some b → a ≡ b
some_same e = cc

-- ---- the row passes

-- where the user stays, later rows are to drop the request for that
abbrev pub StayComes : InEvent → ReqId → Bool → List LogRow → Type 0
StayComes e req stay later = is_stayed_duly (point_at (start_of e) later) req stay ≡ true

-- it does where the next row is that
pub stay_comes : (e : InEvent) (req : ReqId) (later : List LogRow) → StayComes e req true (row_of e (rows.Dropped req drops.Stay) ∷ later)
stay_comes e req later = rw (nat_eq_refl req.0) refl

-- nothing has to where the user leaves
pub leave_comes : (e : InEvent) (req : ReqId) (later : List LogRow) → StayComes e req false later
leave_comes e req later = refl

-- whatever is noted, since the row settles no question
pub answered_pass : (Rest : List LogRow → Type 0) (e : InEvent) (req : ReqId) (stay : Bool) (q : Asked) (todo : ReqId → Option DocId) → e.before ≡ [] → e.own ≡ rows.Answered req stay → e.actor ≡ actors.Ui → request_of e.start req ≡ Some q → awaits_answer q ≡ true → ((later : List LogRow) → Rest later → StayComes e req stay later) → PassIf Rest e todo []
unfolding PassIf
answered_pass Rest e req stay q todo uncut own ui at awaits comes later rest =
    subst (λ (l : List LogRow). EachPass (start_of e) l later) (sym (uncut_rows e [] uncut)) (passes, tt)
  where
    unanswered : is_none q.answered ≡ true
    unanswered = second (is_some q.prompted) (is_none q.answered) (is_none q.ending) awaits
      where
        second : (a b c : Bool) → (a && b && c) ≡ true → b ≡ true
        second true true c is = refl
        second true false c is = cc
        second false b c is = cc

    of_kind : Passes e.header (point_at (start_of e) later) (record { event = e.event; actor = actors.Ui; row = rows.Answered req stay })
    of_kind =
        record {
          formed = rw at awaits;
          once = rw at unanswered;
          caused = comes later rest.1;
          queued = refl;
          ordered = refl;
          checked = refl;
          in_time = refl;
          suits = refl;
        }

    passes : Passes e.header (point_at (start_of e) later) (row_of e e.own)
    passes = rw (own, ui) of_kind

-- ---- what is carried

module _ (checking : ReqId → Bool) (start : Seen) (event : ℕ) (req : ReqId) (stay : Bool) (es : List (ReqId × OpenCheck)) (asked : AreAskedDuly checking start start (record { checks = es; run = [] })) (q : Asked) (at : request_of start req ≡ Some q) (up : is_some q.prompted ≡ true) (numbered : q.nr ≡ req) where
  abbrev pub answered_then : Seen
  answered_then = after start (record { event = event; actor = actors.Ui; row = rows.Answered req stay })

  abbrev answer : Asked → Asked
  answer x = record x { answered = Some stay }

  abbrev pub one : Asked
  one = answer q

  pub found_one : request_of answered_then req ≡ Some one
  found_one = on_itself start.requests req answer ∙ ap (λ (o : Option Asked). option_map answer o) at

  change : ChangesOne start answered_then req
  change = record { others = λ r apart. on_else start.requests req answer r apart; gone = λ doc. refl }

  -- all its questions were settled
  settled : has_settled start q ≡ true
  settled = asked.prompted req q at up

  said_one : list_all is_said q.asks ≡ true
  said_one = told_said start start (record { checks = es; run = [] }) asked.run req q at

  all_then : all_asked answered_then one ≡ true
  all_then = (and_parts (is_asked q.asks) (all_asked start q) settled).1

  had : had_settled start req ≡ true
  had = ap (λ (o : Option Asked). holds (has_settled start) o) at ∙ settled

  stays_then : had_settled answered_then req ≡ true
  stays_then = ap (λ (o : Option Asked). holds (has_settled answered_then) o) found_one ∙ settled

  -- where the user leaves, the request has passed
  pub left_passes : stay ≡ false → has_passed answered_then one ≡ true
  left_passes leave = rw all_then (rw leave (or_true (is_none q.prompted)))
    where
      or_true : (b : Bool) → (b || true) ≡ true
      or_true true = refl
      or_true false = refl

  -- and its check ends
  pub left_duly : (passed : ReqId → Bool) → SameBut req checking passed → stay ≡ false → AreAskedDuly passed start answered_then (record { checks = ended req es; run = [] })
  left_duly passed same leave =
      subst (λ (l : List (ReqId × OpenCheck)). AreAskedDuly passed start answered_then (record { checks = ended req l; run = [] })) (told_none es) (one_duly checking passed start start answered_then (record { checks = es; run = [] }) asked req same change (ended req was) (others_ended req was) (record {
        within = λ out. check_ended req was;
        stays = λ h. stays_then;
        each = λ x there. subst (λ (y : Asked). IsOneHeld start answered_then (ended req was) req y) (some_same (sym found_one ∙ there)) held;
      }))
    where
      was : List (ReqId × OpenCheck)
      was = table.after_all_deaths [] es

      unchecked : is_checking answered_then one ≡ false
      unchecked = rw (left_passes leave) (no_more (is_checked q) (is_under_way q))
        where
          no_more : (a b : Bool) → (a && b && false) ≡ false
          no_more true true = refl
          no_more true false = refl
          no_more false b = refl

      held : IsOneHeld start answered_then (ended req was) req one
      held =
          record {
            nr = numbered;
            said = said_one;
            held = inl (subst (λ (o : Option OpenCheck). AreTiedAt answered_then (Some one) o) (sym (check_ended req was)) unchecked);
            checked = λ is_open un. never (sym all_then ∙ is_open);
            prompted = λ is. settled;
            nothing = λ fresh all un none. never (sym had ∙ fresh);
          }

  -- so a table that was tied is
  pub left_tied : stay ≡ false → AreChecksTied start es → AreChecksTied answered_then (ended req es)
  left_tied leave tied =
      one_tied start answered_then req es (ended req es) change (others_ended req es) tied (rw (found_one, check_ended req es) unchecked)
    where
      unchecked : is_checking answered_then one ≡ false
      unchecked = rw (left_passes leave) (no_more (is_checked q) (is_under_way q))
        where
          no_more : (a b : Bool) → (a && b && false) ≡ false
          no_more true true = refl
          no_more true false = refl
          no_more false b = refl

  -- and what the table notes was wanted
  pub left_notes : NotesWanted start es → NotesWanted answered_then (ended req es)
  left_notes notes =
      asks_notes start answered_then (ended req es) (on_read asks_of start.requests req answer (λ x. refl)) (ended_notes start es req notes)

  -- ---- where the user stays, the check has come to that, until the request is dropped

  module _ (check : OpenCheck) (doc : DocId) (has : check_of req es ≡ Some check) (prompts : outcome_of check ≡ checks.Prompt doc) where
    abbrev pub table_then : List (ReqId × OpenCheck)
    table_then = changed req (table.after_user stay) es

    -- nothing is noted for the request any more
    pub stayed_unnoted : stay ≡ true → todo_of table_then req ≡ None
    stayed_unnoted is =
        ap (λ (o : Option Check). option_and_then prompt_of o) (user_at req es check doc stay has prompts)
        ∙ (let out : prompt_of (table.decided (Some doc) (Some stay)) ≡ None = rw is refl in out)

    pub stayed_notes : stay ≡ true → NotesWanted start es → NotesWanted answered_then table_then
    stayed_notes is notes =
        one_notes start answered_then es table_then req change.others (others_changed req (table.after_user stay) es) (λ x there d noted. (let none : (let o : Option DocId = None in o) ≡ Some d = sym (stayed_unnoted is) ∙ noted in absurd cc)) notes

    pub answered_duly : AreAskedDuly checking start answered_then (record { checks = table_then; run = [] })
    answered_duly =
        subst (λ (l : List (ReqId × OpenCheck)). AreAskedDuly checking start answered_then (record { checks = changed req (table.after_user stay) l; run = [] })) (told_none es) (one_duly checking checking start start answered_then (record { checks = es; run = [] }) asked req (λ r apart. refl) change (changed req (table.after_user stay) was) (others_changed req (table.after_user stay) was) (record {
          within = λ out. check_changed req (table.after_user stay) was ∙ ap (λ (o : Option OpenCheck). option_map (table.after_user stay) o) (ap (check_of req) (told_none es) ∙ asked.within req out);
          stays = λ h. stays_then;
          each = λ x there. subst (λ (y : Asked). IsOneHeld start answered_then (changed req (table.after_user stay) was) req y) (some_same (sym found_one ∙ there)) held;
        }))
      where
        was : List (ReqId × OpenCheck)
        was = table.after_all_deaths [] es

        check_then : check_of req (changed req (table.after_user stay) was) ≡ Some (table.after_user stay check)
        check_then =
            check_changed req (table.after_user stay) was
            ∙ ap (λ (o : Option OpenCheck). option_map (table.after_user stay) o) (ap (check_of req) (told_none es) ∙ has)

        was_settled : is_settled check ≡ true
        was_settled = by_test (is_settled check) refl prompts
          where
            by_test : (b : Bool) → is_settled check ≡ b → cond b (table.decided (table.prompting_doc check.asked) check.stay) checks.Waiting ≡ checks.Prompt doc → b ≡ true
            by_test true is e = refl
            by_test false is e = cc

        still_settled : is_settled (table.after_user stay check) ≡ true
        still_settled = by_test (table.is_prompting (outcome_of check))
          where
            by_test : (b : Bool) → is_settled (cond b (record check { stay = Some stay }) check) ≡ true
            by_test true = was_settled
            by_test false = was_settled

        held : IsOneHeld start answered_then (changed req (table.after_user stay) was) req one
        held =
            record {
              nr = numbered;
              said = said_one;
              held = inr (all_then, ap (λ (o : Option OpenCheck). option_map_or is_settled o false) check_then ∙ still_settled);
              checked = λ is_open un. never (sym all_then ∙ is_open);
              prompted = λ is. settled;
              nothing = λ fresh all un none. never (sym had ∙ fresh);
            }

-- ---- who is in a check

module _ (checking : ReqId → Bool) (start : Seen) (event : ℕ) (req : ReqId) (on : checking req ≡ true) (q : Asked) (at : request_of start req ≡ Some q) where
  -- where the user stays, the request doesn't pass
  pub stayed_checks : (stay : Bool) → AreInCheck checking start → AreInCheck checking (after start (record { event = event; actor = actors.Ui; row = rows.Answered req stay }))
  stayed_checks stay are = answered_checks checking start event actors.Ui are req stay on

  pub stayed_none : is_some q.prompted ≡ true → NonePasses checking start → NonePasses checking (after start (record { event = event; actor = actors.Ui; row = rows.Answered req true }))
  stayed_none up none =
      stayed_waits checking start event actors.Ui req asked (none_waits checking start none (just req))
    where
      some_prompt : (o : Option DocId) → is_some o ≡ true → is_none o ≡ false
      some_prompt None is = cc
      some_prompt (Some doc) is = refl

      asked : (x : Asked) → request_of start req ≡ Some x → is_none x.prompted ≡ false
      asked x found =
          subst (λ (y : Asked). is_none y.prompted ≡ false) (some_same (sym at ∙ found)) (some_prompt q.prompted up)

  -- where the user leaves, it is in its check no more
  module _ (passed : ReqId → Bool) (same : SameBut req checking passed) (off : passed req ≡ false) where
    abbrev left_then : Seen
    left_then = after start (record { event = event; actor = actors.Ui; row = rows.Answered req false })

    pub left_checks : ((x : Asked) → request_of left_then req ≡ Some x → has_passed left_then x ≡ true) → AreInCheck checking start → AreInCheck passed left_then
    left_checks has are = passed_checks checking passed left_then req same off has (stayed_checks false are)

    pub left_none : NonePasses checking start → NonePasses passed left_then
    left_none none =
        passed_waits checking passed left_then req same off (left_waits checking start event actors.Ui req (none_waits checking start none (just req)))
