-- A request that waited, and whose check goes on once the table is told: it has passed its check, and no prompt is due.
use Rattle.check_facts.proofs.Asks.{prompted_other}
use Rattle.check_facts.proofs.Rows.{Plain}
use Rattle.check_facts.specs.Checking.{AreTiedAt}
use Rattle.check_facts.specs.Having.{IsHeld}
use Rattle.check_facts.specs.Prompting.{had_settled, has_settled, is_asked, prompt_of, todo_of}
use Rattle.checking_facts.proofs.Grown.{req_same}
use Rattle.checking_facts.proofs.Tellings.{told_due}
use Rattle.checking_facts.specs.Prompts.{told_all, told_by}
use Rattle.log_model.specs.Checks.{due_prompt, lower_doc}
use Rattle.log_model.specs.Equal.{holds}
use Rattle.log_model.specs.Outcomes.{is_drop}
use Rattle.log_model.specs.Places.{all_asked, has_passed, is_gone, is_settled_asking, is_under_way, may_leave}
use Rattle.log_model.specs.Seen.{Asked, Asking, Seen, request_of}
use Rattle.log_model.specs.declared.row_kind.RowKind.TheVariants as rows
use Rattle.log_model.specs.declared.row_kind.RowKind.{RowKind}
use Rattle.seen_laws.proofs.InEvents.{log_more}
use Rattle.seen_laws.specs.InEvent.{InEvent, log_of}
use Rattle.std.proofs.Common.{Bool, List, None, Option, Some, [], ap, append-nil, append_assoc, false, filter, inl, inr, map, not, refl, subst, sym, true, ◌&&◌, ◌++◌, ◌==◌, ◌||◌, ◌∙◌, ◌∷◌, ◌≡◌, ◌⊎◌}
use Rattle.std.proofs.lemmas.Bool.{and_parts}
use Rattle.std.specs.List.{list_all}
use Rattle.std.specs.Option.{option_map_or}
use Rattle.std.specs.Prelude.{fold, if◌then◌else◌, is_some, option_and_then, option_map}
use Rattle.tab_doors.specs.Working.{IsAtWorkIn}
use Rattle.tab_doors.specs.declared.tables.Tables.{Tables}
use Rattle.tab_ids.specs.declared.DocId.{DocId}
use Rattle.tab_ids.specs.declared.ReqId.{ReqId}
use Rattle.tab_prompts.proofs.Prompted.{prompts_none, prompts_some}
use Rattle.tab_prompts.proofs.Since.{Course, course_of}
use Rattle.tab_prompts.proofs.Told.{WasOpenThen, first_open, held_now, said_now, tied_settled, told_on, was}
use Rattle.tab_prompts.proofs.Waits.{waiting_open}
use Rattle.tab_prompts.specs.Asking.{BeginsAsked, WasOpen, are_unheard}
use Rattle.tab_prompts.specs.Prompts.{is_open, is_waiting, prompts_for}
use Rattle.unload_check.specs.Checks.{OpenCheck, check_of, is_settled, outcome_at, outcome_of}
use Rattle.unload_check.specs.declared.check.Check.TheVariants as checks
use Rattle.unload_check.specs.declared.check.Check.{Check}

never : {A : Type 0} → true ≡ false → A
never is = absurd cc

-- ---- of a request that has no answer each asked document is gone, so none wants a prompt

none_wants : (gone : DocId → Bool) (wants : Asking → Bool) (asks : List Asking) → list_all (is_settled_asking gone) asks ≡ true → are_unheard asks ≡ true → filter (λ (doc : DocId). not (gone doc)) (map (λ (asking : Asking). asking.doc) (filter wants asks)) ≡ []
none_wants gone wants [] all unheard = refl
none_wants gone wants (asking ∷ asks) all unheard =
    by_wants (wants asking) (none_wants gone wants asks alls.1 unheards.1)
  where
    alls : (is_settled_asking gone asking ≡ true) × (list_all (is_settled_asking gone) asks ≡ true)
    alls = and_parts (is_settled_asking gone asking) (list_all (is_settled_asking gone) asks) all

    unheards : (not asking.is_delivered ≡ true) × (are_unheard asks ≡ true)
    unheards = and_parts (not asking.is_delivered) (are_unheard asks) unheard

    by_delivered : (d g : Bool) → not d ≡ true → (d || g) ≡ true → g ≡ true
    by_delivered false g no_ is = is
    by_delivered true g no_ is = absurd cc

    its_gone : gone asking.doc ≡ true
    its_gone = by_delivered asking.is_delivered (gone asking.doc) unheards.0 alls.0

    by_wants : (b : Bool) → filter (λ (doc : DocId). not (gone doc)) (map (λ (a : Asking). a.doc) (filter wants asks)) ≡ [] → filter (λ (doc : DocId). not (gone doc)) (map (λ (a : Asking). a.doc) (if b then asking ∷ filter wants asks else filter wants asks)) ≡ []
    by_wants true rest = rw its_gone rest
    by_wants false rest = rest

none_due : (drops : Bool) (docs : List DocId) → docs ≡ [] → (let o : Option DocId = if drops then None else fold lower_doc None docs in o) ≡ None
none_due true docs is = refl
none_due false docs is = ap (λ (l : List DocId). fold lower_doc None l) is

-- ---- what its check has come to

goes_settled : (c : OpenCheck) → outcome_of c ≡ checks.Go → is_settled c ≡ true
goes_settled c goes = by_settled (is_settled c) refl
  where
    by_settled : (b : Bool) → is_settled c ≡ b → is_settled c ≡ true
    by_settled true is = is
    by_settled false un =
        let waits : outcome_of c ≡ checks.Waiting = rw un refl in
        let no_ : checks.Waiting ≡ checks.Go = sym waits ∙ goes in
        absurd cc

module _ {sweeps : Bool} (e : InEvent) (out : List RowKind) (t : Tables) (work : IsAtWorkIn sweeps None e out t) (begins : BeginsAsked e t.checks) (req : ReqId) (waits : is_waiting t.checks req ≡ true) (q : Asked) (at : request_of (log_of e out) req ≡ Some q) (goes : outcome_at req (told_all e.ran t.checks out) ≡ Some checks.Go) where
  abbrev now : Seen
  now = log_of e out

  abbrev first : Seen
  first = log_of e []

  abbrev then_told : List (ReqId × OpenCheck)
  then_told = told_all e.ran t.checks out

  pub goes_unnoted : todo_of (told_all e.ran t.checks out) req ≡ None
  goes_unnoted = ap (λ (o : Option Check). option_and_then prompt_of o) goes

  has_x : (x : OpenCheck) × (check_of req then_told ≡ Some x) × (outcome_of x ≡ checks.Go)
  has_x = by_check (check_of req then_told) refl
    where
      by_check : (o : Option OpenCheck) → check_of req then_told ≡ o → (x : OpenCheck) × (check_of req then_told ≡ Some x) × (outcome_of x ≡ checks.Go)
      by_check (Some x) has =
          let both : Some (outcome_of x) ≡ Some checks.Go = sym (ap (λ (o : Option OpenCheck). option_map outcome_of o) has) ∙ goes in
          (x, has, cc)
      by_check None has =
          let none : outcome_at req then_told ≡ None = ap (λ (o : Option OpenCheck). option_map outcome_of o) has in
          let both : None ≡ Some checks.Go = sym none ∙ goes in
          absurd cc

  has_c : (c : OpenCheck) × (check_of req t.checks ≡ Some c)
  has_c = by_check (check_of req t.checks) refl
    where
      by_check : (o : Option OpenCheck) → check_of req t.checks ≡ o → (c : OpenCheck) × (check_of req t.checks ≡ Some c)
      by_check (Some c) has = (c, has)
      by_check None has =
          let off : is_waiting t.checks req ≡ false = ap (λ (o : Option OpenCheck). option_map_or is_open (option_map outcome_of o) false) has in
          never (sym waits ∙ off)

  un : is_settled has_c.0 ≡ false
  un = waiting_open t.checks req has_c.0 has_c.1 waits

  on : e.checking req ≡ true
  on = told_on None e out t work begins req has_x.0 has_x.1

  p_was : (p : Asked) × (request_of first req ≡ Some p) × (course_of p ≡ course_of q) × (is_under_way q ≡ true → is_under_way p ≡ true)
  p_was = was None e out t work begins req q at on

  same : course_of p_was.0 ≡ course_of q
  same = p_was.2

  -- a question was open as the run began that lasted then
  was_then : WasOpenThen e.start first (record { checks = t.checks; run = e.ran }) begins.asked.run p_was.0 has_c.0
  was_then = first_open None e out t work begins req p_was.0 has_c.0 p_was.1 has_c.1 un

  abbrev base : Seen
  base = begins.asked.run.was

  unprompted_then : is_some p_was.0.prompted ≡ false
  unprompted_then =
      sym (ap (λ (x : Plain). is_some x.prompted) was_then.same) ∙ by_prompt (is_some was_then.q.prompted) refl
    where
      by_prompt : (b : Bool) → is_some was_then.q.prompted ≡ b → is_some was_then.q.prompted ≡ false
      by_prompt false is = is
      by_prompt true is =
          let parts = and_parts (is_asked was_then.q.asks) (all_asked base was_then.q) (begins.asked.run.prompted was_then.nr was_then.q was_then.at is) in
          never (sym parts.1 ∙ was_then.open_)

  unprompted : is_some q.prompted ≡ false
  unprompted = sym (ap (λ (x : Course). is_some x.prompted) same) ∙ unprompted_then

  all_now : all_asked now q ≡ true
  all_now = by_held (held_now None e out t work begins req q at)
    where
      by_held : IsHeld now then_told req q → all_asked now q ≡ true
      by_held (inr both) = both.0
      by_held (inl tied) =
          tied_settled now q has_x.0 (subst (λ (o : Option OpenCheck). AreTiedAt now (Some q) o) has_x.1 tied) (said_now None e out t work begins) req at (goes_settled has_x.0 has_x.2)

  pub goes_passed : has_passed (log_of e out) q ≡ true
  goes_passed = rw all_now (by_prompt q.prompted refl)
    where
      by_prompt : (o : Option DocId) → q.prompted ≡ o → may_leave q ≡ true
      by_prompt None is = rw is refl
      by_prompt (Some doc) is =
          never (sym (ap (λ (o : Option DocId). is_some o) is) ∙ unprompted)

  has_asks : is_asked p_was.0.asks ≡ true
  has_asks =
      sym (ap (λ (x : Plain). is_asked x.asks) was_then.same) ∙ by_asks was_then.q.asks refl
    where
      by_asks : (asks : List Asking) → was_then.q.asks ≡ asks → is_asked was_then.q.asks ≡ true
      by_asks (asking ∷ asks) is = ap is_asked is
      by_asks [] is =
          never (sym (ap (λ (l : List Asking). list_all (is_settled_asking (is_gone base)) l) is) ∙ was_then.open_)

  has_all : has_settled now q ≡ true
  has_all = rw (sym (ap (λ (x : Course). is_asked x.asks) same) ∙ has_asks, all_now) refl

  pub goes_undue : due_prompt (log_of e out) q ≡ None
  goes_undue = by_opens (begins.opens req p_was.0 p_was.1 waits)
    where
      by_opens : WasOpen e.start req ⊎ (are_unheard p_was.0.asks ≡ true) → due_prompt now q ≡ None
      by_opens (inl open_) =
          told_due e.start now (told_by e.ran t.checks out) work.asked.run req q at off has_all unprompted (ap (todo_of then_told) (work.checks.numbered req q at) ∙ goes_unnoted)
        where
          off_was : has_settled e.start open_.was ≡ false
          off_was = let shut = open_.open_ in by_asked (is_asked open_.was.asks) shut
            where
              by_asked : (b : Bool) → all_asked e.start open_.was ≡ false → (b && all_asked e.start open_.was) ≡ false
              by_asked true is = is
              by_asked false is = refl

          off : had_settled e.start req ≡ false
          off = ap (λ (o : Option Asked). holds (has_settled e.start) o) open_.found ∙ off_was
      by_opens (inr unheard) =
          none_due (holds is_drop q.ending) _ (none_wants (is_gone now) _ q.asks all_now (sym (ap (λ (x : Course). are_unheard x.asks) same) ∙ unheard))

-- ---- the prompts of others leave it as it was

pub apart_prompts : (e : InEvent) (table : List (ReqId × OpenCheck)) (req : ReqId) → todo_of table req ≡ None → (reqs : List ReqId) (out : List RowKind) → request_of (log_of e (out ++ prompts_for table reqs)) req ≡ request_of (log_of e out) req
apart_prompts e table req none [] out = ap (λ (l : List RowKind). request_of (log_of e l) req) (append-nil out)
apart_prompts e table req none (r ∷ reqs) out = by_todo (todo_of table r) refl (λ o. apart_prompts e table req none reqs o)
  where
    apart : (doc : DocId) → todo_of table r ≡ Some doc → (req.0 == r.0) ≡ false
    apart doc some = by_number (req.0 == r.0) refl
      where
        by_number : (b : Bool) → (req.0 == r.0) ≡ b → b ≡ false
        by_number false is = refl
        by_number true is =
            let both : None ≡ Some doc = sym none ∙ ap (todo_of table) (req_same req r is) ∙ some in
            absurd cc

    by_todo : (o : Option DocId) → todo_of table r ≡ o → ((o_ : List RowKind) → request_of (log_of e (o_ ++ prompts_for table reqs)) req ≡ request_of (log_of e o_) req) → request_of (log_of e (out ++ prompts_for table (r ∷ reqs))) req ≡ request_of (log_of e out) req
    by_todo None is rest =
        ap (λ (l : List RowKind). request_of (log_of e (out ++ l)) req) (prompts_none table r reqs is) ∙ rest out
    by_todo (Some doc) is rest =
        ap (λ (l : List RowKind). request_of (log_of e (out ++ l)) req) (prompts_some table r reqs doc is)
        ∙ ap (λ (l : List RowKind). request_of (log_of e l) req) (sym (append_assoc out (rows.Prompted r doc ∷ []) (prompts_for table reqs)))
        ∙ rest (out ++ rows.Prompted r doc ∷ [])
        ∙ ap (λ (s : Seen). request_of s req) (log_more e out (rows.Prompted r doc))
        ∙ prompted_other e.start (log_of e out) e.event e.actor r doc req (apart doc is)
