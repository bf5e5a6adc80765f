-- The table is told of what the rows discarded: nobody in its check has passed but those whose last question was settled by it, and whichever document it notes for a request wanted a prompt.
use Rattle.asking_facts.proofs.Noting.{told_pass}
use Rattle.asking_facts.proofs.Ones.{told_duly, told_outside}
use Rattle.asking_facts.specs.Noting.{Agreed}
use Rattle.asking_facts.specs.Prompting.{NotesWanted, has_wanted}
use Rattle.asking_facts.specs.Standing.{StandsAsked}
use Rattle.check_facts.proofs.Checkings.{settled_same, wants}
use Rattle.check_facts.proofs.Rows.{Plain, plain_of}
use Rattle.check_facts.proofs.Tables.{check_dead, todo_none}
use Rattle.check_facts.specs.Checking.{AreSaid, AreTiedAt, IsCheckTied, asked_of, is_checking, open_check}
use Rattle.check_facts.specs.Having.{AreHeld, IsHeld}
use Rattle.check_facts.specs.Prompting.{prompt_of, todo_of}
use Rattle.checking_facts.proofs.Tellings.{runs_now, told_held, told_said}
use Rattle.checking_facts.specs.Checks.{NonePassesBut}
use Rattle.checking_facts.specs.Prompts.{HasGoneOn, HasRun, Told, told_by}
use Rattle.log_model.specs.Checks.{is_checked}
use Rattle.log_model.specs.Equal.{holds}
use Rattle.log_model.specs.Places.{all_asked, has_passed, is_gone, is_load, is_reload, is_traversal, is_under_way, may_leave}
use Rattle.log_model.specs.Seen.{Asked, Asking, Seen, request_of}
use Rattle.log_model.specs.declared.handler.Verdict.TheVariants as verdicts
use Rattle.log_model.specs.declared.handler.Verdict.{Verdict}
use Rattle.log_model.specs.declared.row_kind.RowKind.{RowKind}
use Rattle.seen_facts.proofs.Each.Courses.{was_asked}
use Rattle.seen_laws.specs.InEvent.{InEvent, log_of}
use Rattle.std.proofs.Common.{Bool, List, None, Option, Some, [], ap, cond, false, inl, inr, map, not, refl, subst, sym, true, ◌&&◌, ◌==◌, ◌||◌, ◌∙◌, ◌∷◌, ◌≡◌, ◌⊎◌}
use Rattle.std.proofs.lemmas.Bool.{and_parts}
use Rattle.std.specs.Option.{option_map_or}
use Rattle.std.specs.Prelude.{is_none, option_and_then, option_map}
use Rattle.tab_doors.specs.Keeping.{Move}
use Rattle.tab_doors.specs.Working.{IsAtWorkIn, IsToCome}
use Rattle.tab_doors.specs.declared.tables.Tables.{Tables}
use Rattle.tab_ids.specs.declared.DocId.{DocId}
use Rattle.tab_ids.specs.declared.ReqId.{ReqId}
use Rattle.tab_prompts.proofs.Since.{Course, course_of, so_since}
use Rattle.tab_prompts.proofs.Tables.{Goes, GoesAt, goes_told, noted_in, wants_in}
use Rattle.tab_prompts.specs.Asking.{BeginsAsked, are_unheard, told_all}
use Rattle.tab_prompts.specs.Prompts.{is_settled_in, is_settled_since, is_waiting}
use Rattle.unload_check.proofs.Stays.{settled_deaths}
use Rattle.unload_check.specs.Checks as table
use Rattle.unload_check.specs.Checks.{OpenCheck, after_all_deaths, after_deaths, check_of, is_settled, outcome_of}
use Rattle.unload_check.specs.declared.check.Check.TheVariants as checks

some_same : {A : Type 0} {a b : A} → (let o : Option A = Some a in o) ≡ Some b → a ≡ b
some_same is = cc

-- ---- what a check of questions says of them

-- a document that wants a prompt by the check was asked, and its answer was heard
abbrev pub IsHeardWanted : DocId → List Asking → Type 0
IsHeardWanted doc asks = (has_wanted doc asks ≡ true) × (are_unheard asks ≡ false)

and_false : (b : Bool) → (b && false) ≡ false
and_false true = refl
and_false false = refl

or_true : (b : Bool) → (b || true) ≡ true
or_true true = refl
or_true false = refl

heard_more : (gone : DocId → Bool) (doc : DocId) (asking : Asking) (asks : List Asking) → (wants_in doc (map (asked_of gone) asks) ≡ true → IsHeardWanted doc asks) → wants_in doc (map (asked_of gone) (asking ∷ asks)) ≡ true → IsHeardWanted doc (asking ∷ asks)
heard_more gone doc asking asks rest is = by_parts (asking.doc.0 == doc.0) asking.is_delivered asking.verdict refl refl refl is
  where
    later : wants_in doc (map (asked_of gone) asks) ≡ true → IsHeardWanted doc (asking ∷ asks)
    later at =
        let its = rest at in
        (rw its.0 (or_true (asking.doc.0 == doc.0 && holds wants asking.verdict)), rw its.1 (and_false (not asking.is_delivered)))

    by_parts : (b d : Bool) (v : Option Verdict) → (asking.doc.0 == doc.0) ≡ b → asking.is_delivered ≡ d → asking.verdict ≡ v → ((b && table.is_prompt (cond d v None)) || wants_in doc (map (asked_of gone) asks)) ≡ true → IsHeardWanted doc (asking ∷ asks)
    by_parts true true (Some verdicts.Prompt) e f g at = (rw (e, g) refl, rw f refl)
    by_parts true true (Some verdicts.Leave) e f g at = later at
    by_parts true true None e f g at = later at
    by_parts true false v e f g at = later at
    by_parts false d v e f g at = later at

pub heard_wanted : (gone : DocId → Bool) (doc : DocId) (asks : List Asking) → wants_in doc (open_check gone asks).asked ≡ true → IsHeardWanted doc asks
heard_wanted gone doc [] is = absurd cc
heard_wanted gone doc (asking ∷ asks) is = heard_more gone doc asking asks (heard_wanted gone doc asks) is

-- ---- a check that is tied

never : {A : Type 0} → true ≡ false → A
never is = absurd cc

-- where it isn't settled a question is open, and where it is none is
module _ (s : Seen) (q : Asked) (c : OpenCheck) (tied : AreTiedAt s (Some q) (Some c)) where
  pub tied_open : is_settled c ≡ false → all_asked s q ≡ false
  tied_open un = by_all (all_asked s q) refl
    where
      prompted : (o : Option DocId) (a : Option Bool) → not (is_none o || holds not a) ≡ true → (doc : DocId) × (o ≡ Some doc)
      prompted None a e = cc
      prompted (Some doc) a e = (doc, refl)

      by_all : (b : Bool) → all_asked s q ≡ b → b ≡ false
      by_all false e = refl
      by_all true e =
          let parts = and_parts (is_checked q && is_under_way q) (not (has_passed s q)) tied.0 in
          let up : not (may_leave q) ≡ true = sym (ap (λ (b : Bool). not (b && may_leave q)) e) ∙ parts.1 in
          let on : IsCheckTied s q c true = subst (λ (b : Bool). IsCheckTied s q c b) e tied.1 in
          let doc = prompted q.prompted q.answered up in
          let waits : outcome_of c ≡ checks.Waiting = rw un refl in
          let both : checks.Waiting ≡ checks.Prompt doc.0 = sym waits ∙ on doc.0 doc.1 in
          absurd cc

  pub tied_settled : AreSaid s → (req : ReqId) → request_of s req ≡ Some q → is_settled c ≡ true → all_asked s q ≡ true
  tied_settled said req at is = by_all (all_asked s q) refl
    where
      by_all : (b : Bool) → all_asked s q ≡ b → b ≡ true
      by_all true e = refl
      by_all false e =
          let open_ : c ≡ open_check (is_gone s) q.asks = subst (λ (b : Bool). IsCheckTied s q c b) e tied.1 in
          let un : is_settled c ≡ false = ap is_settled open_ ∙ settled_same (is_gone s) q.asks (said req q at) ∙ e in
          never (sym is ∙ un)

  -- so it is the check of the questions, while one is open
  pub tied_is : all_asked s q ≡ false → c ≡ open_check (is_gone s) q.asks
  tied_is e = subst (λ (b : Bool). IsCheckTied s q c b) e tied.1

-- ---- a check that waits, while a run lasts of which the table wasn't told

-- a request, as the run began: a question was open, and the check is that of its questions
pub record WasOpenThen (start now : Seen) (told : Told) (run : HasRun start now told) (p : Asked) (c : OpenCheck) : Type 0 where
  pub q : Asked
  pub nr : ReqId
  pub at : request_of run.was nr ≡ Some q
  pub same : plain_of q ≡ plain_of p
  pub open_ : all_asked run.was q ≡ false
  pub is : c ≡ open_check (is_gone run.was) q.asks

pub open_then : (start now : Seen) (told : Told) (run : HasRun start now told) (req : ReqId) (p : Asked) (c : OpenCheck) → request_of now req ≡ Some p → check_of req told.checks ≡ Some c → is_settled c ≡ false → WasOpenThen start now told run p c
open_then start now told run req p c at has un = by_same (run.same req)
  where
    q : (q : Asked) × (request_of run.was req ≡ Some q) × (plain_of q ≡ plain_of p)
    q = was_asked plain_of run.was.requests now.requests run.asks req p at

    by_tied : AreTiedAt run.was (Some q.0) (Some c) → WasOpenThen start now told run p c
    by_tied tied =
        let open_ = tied_open run.was q.0 c tied un in
        record { q = q.0; nr = req; at = q.1; same = q.2; open_ = open_; is = tied_is run.was q.0 c tied open_ }

    by_held : check_of req told.checks ≡ check_of req run.all → IsHeld run.was run.all req q.0 → WasOpenThen start now told run p c
    by_held same (inl tied) =
        by_tied (subst (λ (o : Option OpenCheck). AreTiedAt run.was (Some q.0) o) (sym same ∙ has) tied)
    by_held same (inr both) =
        never (sym both.1 ∙ ap (λ (o : Option OpenCheck). option_map_or is_settled o false) (sym same ∙ has) ∙ un)

    by_same : (check_of req told.checks ≡ check_of req run.all) ⊎ HasGoneOn now told.checks req → WasOpenThen start now told run p c
    by_same (inl same) = by_held same (run.held req q.0 q.1)
    by_same (inr gone) =
        let both : (let o : Option OpenCheck = Some c in o) ≡ None = sym has ∙ gone.none in
        absurd cc

-- ---- the table is told

module _ {sweeps : Bool} (move : Option Move) (e : InEvent) (out : List RowKind) (t : Tables) (work : IsAtWorkIn sweeps move e out t) (begins : BeginsAsked e t.checks) where
  abbrev now : Seen
  now = log_of e out

  abbrev first : Seen
  first = log_of e []

  abbrev pub told : List (ReqId × OpenCheck)
  told = told_all e.ran t.checks out

  -- a request in its check, as the event began or was cut
  abbrev Was : ReqId → Asked → Type 0
  Was req q =
      (p : Asked) × (request_of first req ≡ Some p) × (course_of p ≡ course_of q) × (is_under_way q ≡ true → is_under_way p ≡ true)

  pub was : (req : ReqId) (q : Asked) → request_of now req ≡ Some q → e.checking req ≡ true → Was req q
  was = so_since e out work.goes work.off

  -- told of the run that lasted then the table held its check, and does now
  abbrev then_checks : List (ReqId × OpenCheck)
  then_checks = after_all_deaths e.ran t.checks

  held_first : AreHeld first then_checks
  held_first = told_held e.start first (record { checks = t.checks; run = e.ran }) begins.asked.run

  said_first : AreSaid first
  said_first = told_said e.start first (record { checks = t.checks; run = e.ran }) begins.asked.run

  pub held_now : AreHeld now told
  held_now = told_held e.start now (told_by e.ran t.checks out) work.asked.run

  pub said_now : AreSaid now
  said_now = told_said e.start now (told_by e.ran t.checks out) work.asked.run

  -- of one that the table had settled then, all were asked
  pub first_settled : (req : ReqId) (p : Asked) (c : OpenCheck) → request_of first req ≡ Some p → check_of req t.checks ≡ Some c → is_settled c ≡ true → all_asked first p ≡ true
  first_settled req p c at has settled = by_held (held_first req p at)
    where
      still : check_of req then_checks ≡ Some c
      still =
          settled_deaths e.ran t.checks req (ap (λ (o : Option OpenCheck). option_map_or is_settled o false) has ∙ settled) ∙ has

      by_held : IsHeld first then_checks req p → all_asked first p ≡ true
      by_held (inr both) = both.0
      by_held (inl tied) = tied_settled first p c (subst (λ (o : Option OpenCheck). AreTiedAt first (Some p) o) still tied) said_first req at settled

  -- of one that it hadn't, a question was open as the run began that lasted then, and the check was that of its questions
  pub first_open : (req : ReqId) (p : Asked) (c : OpenCheck) → request_of first req ≡ Some p → check_of req t.checks ≡ Some c → is_settled c ≡ false → WasOpenThen e.start first (record { checks = t.checks; run = e.ran }) begins.asked.run p c
  first_open req p c at has un =
      open_then e.start first (record { checks = t.checks; run = e.ran }) begins.asked.run req p c at has un

  -- the check of one that had one
  abbrev ToldOf : ReqId → OpenCheck → Type 0
  ToldOf req c = (x : OpenCheck) × (check_of req told ≡ Some x) × Goes c x

  pub told_check : (req : ReqId) (c : OpenCheck) → check_of req t.checks ≡ Some c → ToldOf req c
  told_check req c has = subst (λ (o : Option OpenCheck). GoesAt o (check_of req told)) has (goes_told e.ran t.checks req out)

  -- ---- who hasn't passed

  module _ (req : ReqId) (q : Asked) (at : request_of now req ≡ Some q) (runs : is_under_way q ≡ true) (goes : is_traversal q.what ≡ true) (on : e.checking req ≡ true) where
    p : Was req q
    p = was req q at on

    p_runs : is_under_way (p.0) ≡ true
    p_runs = p.3 runs

    p_goes : is_traversal (p.0).what ≡ true
    p_goes = ap (λ (x : Course). is_traversal x.what) p.2 ∙ goes

    p_waits : has_passed first p.0 ≡ false
    p_waits = begins.calm req p.0 p.1 p_runs p_goes on

    p_checked : is_checked p.0 ≡ true
    p_checked =
        ap (λ (x : Course). is_load x.what || is_traversal x.what || is_reload x.what) p.2 ∙ (work.checks.checks req q at on).checked

    -- the table had a check of it
    has_check : (c : OpenCheck) × (check_of req t.checks ≡ Some c)
    has_check = by_check (check_of req t.checks) refl (held_first req p.0 p.1)
      where
        by_check : (o : Option OpenCheck) → check_of req t.checks ≡ o → IsHeld first then_checks req p.0 → (c : OpenCheck) × (check_of req t.checks ≡ Some c)
        by_check (Some c) has held = (c, has)
        by_check None has held = by_held held
          where
            none : check_of req then_checks ≡ None
            none =
                check_dead req e.ran t.checks ∙ ap (λ (o : Option OpenCheck). option_map (after_deaths e.ran) o) has

            by_held : IsHeld first then_checks req p.0 → (c : OpenCheck) × (check_of req t.checks ≡ Some c)
            by_held (inl tied) =
                let off : is_checking first p.0 ≡ false = subst (λ (o : Option OpenCheck). AreTiedAt first (Some p.0) o) none tied in
                let is : is_checking first p.0 ≡ true = rw (p_checked, p_runs, p_waits) refl in
                never (sym is ∙ off)
            by_held (inr both) =
                never (sym both.1 ∙ ap (λ (o : Option OpenCheck). option_map_or is_settled o false) none)

    -- where it was settled, its prompt is up
    settled_waits : is_settled (has_check.0) ≡ true → has_passed now q ≡ false
    settled_waits settled =
        let all : all_asked first p.0 ≡ true = first_settled req p.0 has_check.0 p.1 has_check.1 settled in
        let stays : may_leave p.0 ≡ false = sym (ap (λ (b : Bool). b && may_leave p.0) all) ∙ p_waits in
        let same : may_leave q ≡ may_leave p.0 = ap (λ (x : Course). is_none x.prompted || holds not x.answered) (sym p.2) in
        ap (λ (b : Bool). all_asked now q && b) (same ∙ stays) ∙ and_false (all_asked now q)

    -- where it wasn't and isn't, a question is open
    open_waits : is_settled (has_check.0) ≡ false → is_settled_since t.checks told req ≡ false → has_passed now q ≡ false
    open_waits un out_ = by_held (held_now req q at)
      where
        waited : is_waiting t.checks req ≡ true
        waited = rw (has_check.1, un) refl

        unsettled : is_settled_in told req ≡ false
        unsettled = sym (ap (λ (b : Bool). b && is_settled_in told req) waited) ∙ out_

        by_not : (b : Bool) → not b ≡ true → b ≡ false
        by_not false e = refl
        by_not true e = absurd cc

        by_held : IsHeld now told req q → has_passed now q ≡ false
        by_held (inr both) = never (sym both.1 ∙ unsettled)
        by_held (inl tied) =
            let then_ = told_check req has_check.0 has_check.1 in
            let there : AreTiedAt now (Some q) (Some then_.0) = subst (λ (o : Option OpenCheck). AreTiedAt now (Some q) o) then_.1 tied in
            by_not (has_passed now q) (and_parts (is_checked q && is_under_way q) (not (has_passed now q)) there.0).1

  pub none_told : NonePassesBut e.checking (is_settled_since t.checks told) now
  none_told req q at runs goes on out_ = by_settled (is_settled ((has_check req q at runs goes on).0)) refl
    where
      by_settled : (b : Bool) → is_settled ((has_check req q at runs goes on).0) ≡ b → has_passed now q ≡ false
      by_settled true is = settled_waits req q at runs goes on is
      by_settled false un = open_waits req q at runs goes on un out_

  -- ---- what the table notes

  -- who has a check in it is in its check, and had one
  pub told_on : (req : ReqId) (x : OpenCheck) → check_of req told ≡ Some x → e.checking req ≡ true
  told_on req x has = by_on (e.checking req) refl
    where
      by_on : (b : Bool) → e.checking req ≡ b → b ≡ true
      by_on true is = refl
      by_on false off =
          let both : (let o : Option OpenCheck = None in o) ≡ Some x = sym (told_outside e.checking e.start now (told_by e.ran t.checks out) work.asked req off) ∙ has in
          absurd cc

  -- a request for which it notes a prompt
  pub record IsNoted (req : ReqId) (doc : DocId) : Type 0 where
    pub c : OpenCheck
    pub has : check_of req t.checks ≡ Some c
    pub x : OpenCheck
    pub has_now : check_of req told ≡ Some x
    pub goes : Goes c x
    pub settled : is_settled x ≡ true
    pub wants : wants_in doc c.asked ≡ true
    pub notes : prompt_of (outcome_of x) ≡ Some doc
    pub on : e.checking req ≡ true

  pub noted : (req : ReqId) (doc : DocId) → todo_of told req ≡ Some doc → IsNoted req doc
  noted req doc is = by_check (check_of req told) refl
    where
      by_first : (x : OpenCheck) → check_of req told ≡ Some x → prompt_of (outcome_of x) ≡ Some doc → (o : Option OpenCheck) → check_of req t.checks ≡ o → IsNoted req doc
      by_first x has_now notes None has =
          let none : check_of req told ≡ None = subst (λ (o : Option OpenCheck). GoesAt o (check_of req told)) has (goes_told e.ran t.checks req out) in
          let both : (let o : Option OpenCheck = None in o) ≡ Some x = sym none ∙ has_now in
          absurd cc
      by_first x has_now notes (Some c) has =
          let then_ = told_check req c has in
          let same : then_.0 ≡ x = some_same (sym then_.1 ∙ has_now) in
          let its = noted_in x doc notes in
          let goes : Goes c x = subst (λ (y : OpenCheck). Goes c y) same then_.2 in
          record { c = c; has = has; x = x; has_now = has_now; goes = goes; settled = its.0; wants = goes.wants doc its.1; notes = notes; on = told_on req x has_now }

      by_check : (o : Option OpenCheck) → check_of req told ≡ o → IsNoted req doc
      by_check None has =
          let both : (let o : Option DocId = None in o) ≡ Some doc = sym (todo_none req told has) ∙ is in
          absurd cc
      by_check (Some x) has =
          by_first x has (ap (λ (o : Option OpenCheck). option_and_then prompt_of (option_map outcome_of o)) (sym has) ∙ is) (check_of req t.checks) refl

  pub notes_told : NotesWanted now told
  notes_told req q at doc is = by_settled (is_settled its.c) refl
    where
      its : IsNoted req doc
      its = noted req doc is

      p : Was req q
      p = was req q at its.on

      asks : (p.0).asks ≡ q.asks
      asks = ap (λ (x : Course). x.asks) p.2

      by_settled : (b : Bool) → is_settled its.c ≡ b → has_wanted doc q.asks ≡ true
      by_settled true settled =
          let same : its.x ≡ its.c = its.goes.stays settled in
          let before : todo_of t.checks req ≡ Some doc = ap (λ (o : Option OpenCheck). option_and_then prompt_of (option_map outcome_of o)) its.has ∙ ap (λ (y : OpenCheck). prompt_of (outcome_of y)) (sym same) ∙ its.notes in
          subst (λ (l : List Asking). has_wanted doc l ≡ true) asks (begins.notes req p.0 p.1 doc before)
      by_settled false un =
          let was_ = first_open req p.0 its.c p.1 its.has un in
          let heard = heard_wanted (is_gone begins.asked.run.was) doc was_.q.asks (subst (λ (y : OpenCheck). wants_in doc y.asked ≡ true) was_.is its.wants) in
          subst (λ (l : List Asking). has_wanted doc l ≡ true) (ap (λ (x : Plain). x.asks) was_.same ∙ asks) heard.0

  -- ---- all of it

  -- what comes later is to agree with what is noted for these, while the run lasts with which the rows end
  abbrev pub ran : ReqId → Bool
  ran = runs_now e.start now (told_by e.ran t.checks out) work.asked.run

  pub told_asked : StandsAsked (Agreed (todo_of told) ran e out (IsToCome move e out)) (is_settled_since t.checks told) e out (record { checks = told; run = [] })
  told_asked =
      record {
        pass = told_pass (IsToCome move e out) e out (told_by e.ran t.checks out) work.asked.run work.lawful;
        asked = told_duly e.checking e.start now (told_by e.ran t.checks out) work.asked;
        checks = work.checks;
        none = none_told;
        notes = notes_told;
      }
