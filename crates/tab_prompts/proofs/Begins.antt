-- As an event begins, what is known of its checks, by what was known between two events; and as it is cut behind the prompts.
use Rattle.asking_facts.proofs.Notes.{asks_notes, between_notes}
use Rattle.asking_facts.proofs.NotesOver.{accepted_notes, delivered_notes}
use Rattle.asking_facts.proofs.Started.{rows_on}
use Rattle.asking_facts.proofs.Unanswered.{unanswered_row}
use Rattle.asking_facts.proofs.Wanted.{served_each}
use Rattle.asking_facts.specs.Known.{AskingKnown}
use Rattle.asking_facts.specs.Prompting.{AnswersPrompt, NoneAnsweredEarly, NotesWanted}
use Rattle.check_facts.specs.Checking.{AreTiedAt}
use Rattle.check_facts.specs.Having.{HasChecks}
use Rattle.check_facts.specs.Prompting.{had_settled, has_settled, is_asked}
use Rattle.checking_facts.specs.Checks.{NumbersNext}
use Rattle.checking_facts.specs.Prompts.{AreAskedDuly}
use Rattle.log_model.specs.After.{after, new_request}
use Rattle.log_model.specs.AfterRequests.{on_asking, requests_delivered}
use Rattle.log_model.specs.Equal.{holds}
use Rattle.log_model.specs.Places.{all_asked, is_gone, is_settled_asking}
use Rattle.log_model.specs.Seen.{Asked, Asking, Seen, desk_of, request_in, request_of}
use Rattle.log_model.specs.declared.made.Report.TheVariants as reports
use Rattle.log_model.specs.declared.made.Report.{Report}
use Rattle.log_model.specs.declared.outcome.Outcome.TheVariants as outcomes
use Rattle.log_model.specs.declared.outcome.Outcome.{Outcome}
use Rattle.log_model.specs.declared.row_kind.RowKind.TheVariants as rows
use Rattle.log_model.specs.declared.row_kind.RowKind.{RowKind}
use Rattle.seen_facts.proofs.Each.Runs.{each_asked_more, each_asked_on}
use Rattle.seen_facts.specs.Each.Runs.{EachAsked}
use Rattle.seen_laws.proofs.InEvents.{uncut_log}
use Rattle.seen_laws.specs.InEvent.{InEvent, log_of, row_of}
use Rattle.seen_laws.specs.Sending.{leads}
use Rattle.std.proofs.Common.{Bool, List, None, Option, Some, [], ap, false, inl, map, refl, slice_get, subst, sym, true, ◌&&◌, ◌==◌, ◌∙◌, ◌∷◌, ◌≡◌, ◌⊎◌}
use Rattle.std.specs.List.{list_all}
use Rattle.std.specs.Prelude.{if◌then◌else◌}
use Rattle.tab_ids.specs.declared.DocId.{DocId}
use Rattle.tab_ids.specs.declared.JobId.{JobId}
use Rattle.tab_ids.specs.declared.ReqId.{ReqId}
use Rattle.tab_prompts.proofs.Waits.{waits_open}
use Rattle.tab_prompts.specs.Asking.{BeginsAsked, WasOpen, are_unheard}
use Rattle.unasked_dues.specs.Checking.{NonePasses}
use Rattle.unload_check.specs.Checks.{OpenCheck, check_of}

some_same : {A : Type 0} {a b : A} → (let o : Option A = Some a in o) ≡ Some b → a ≡ b
some_same is = cc

never : {A : Type 0} → true ≡ false → A
never is = absurd cc

-- ---- an own row

-- by which the user answers nothing
abbrev pub IsNoAnswer : RowKind → Type 0
IsNoAnswer (rows.Answered req stay) = ⊥
IsNoAnswer _ = Unit {0}

-- a request that was asked something was before
abbrev WasAsked : List Asked → ReqId → Asked → Type 0
WasAsked old r q = is_asked q.asks ≡ true → (p : Asked) × (request_in old r ≡ Some p) × (is_asked p.asks ≡ true)

heard_asked : (job : JobId) (f : Asking → Asking) (asks : List Asking) → is_asked (map (λ (a : Asking). if a.job.0 == job.0 then f a else a) asks) ≡ is_asked asks
heard_asked job f [] = refl
heard_asked job f (asking ∷ asks) = refl

was_own : (e : InEvent) (s : Seen) (kind : RowKind) → leads kind ≡ true → NumbersNext s kind → EachAsked (WasAsked s.requests) (after s (row_of e kind)).requests
was_own e s kind led next = by_kind kind led next
  where
    same : EachAsked (WasAsked s.requests) s.requests
    same r q at is = (q, at, is)

    by_report : (report : Option Report) → EachAsked (WasAsked s.requests) (requests_delivered report s.requests)
    by_report None = same
    by_report (Some (reports.Made made)) = same
    by_report (Some (reports.Died death)) = same
    by_report (Some (reports.Done job outcome made)) = by_outcome outcome
      where
        by_outcome : (o : Outcome) → EachAsked (WasAsked s.requests) (requests_delivered (Some (reports.Done job o made)) s.requests)
        by_outcome (outcomes.Asked verdict) =
            served_each (WasAsked s.requests) s.requests job.why (on_asking job.nr (λ asking. record asking { is_delivered = true })) (λ req q why at its is. its (sym (heard_asked job.nr (λ asking. record asking { is_delivered = true }) q.asks) ∙ is)) same
        by_outcome (outcomes.Populated slot) = same
        by_outcome outcomes.Activated = same
        by_outcome outcomes.Updated = same
        by_outcome outcomes.Frozen = same
        by_outcome outcomes.Discarded = same
        by_outcome outcomes.Fragmented = same

    by_kind : (k : RowKind) → leads k ≡ true → NumbersNext s k → EachAsked (WasAsked s.requests) (after s (row_of e k)).requests
    by_kind (rows.Accepted req doc what) led_ nr =
        each_asked_more (WasAsked s.requests) s.requests (new_request req doc what) req nr (λ is. (let no : false ≡ true = is in absurd cc)) same
    by_kind (rows.Answered req stay) led_ nr =
        each_asked_on (WasAsked s.requests) (WasAsked s.requests) s.requests req (λ q. record q { answered = Some stay }) (λ r q apart is. is) (λ q at is. is) same
    by_kind (rows.Evicted state) led_ nr = same
    by_kind (rows.Delivered proc) led_ nr = by_report (slice_get (desk_of s proc).reports 0)
    by_kind (rows.Opened entry state doc proc slot address) led_ nr = absurd (let no : false ≡ true = led_ in cc)
    by_kind (rows.Started req goal) led_ nr = absurd (let no : false ≡ true = led_ in cc)
    by_kind (rows.Applied req change) led_ nr = absurd (let no : false ≡ true = led_ in cc)
    by_kind (rows.Refused req reason) led_ nr = absurd (let no : false ≡ true = led_ in cc)
    by_kind (rows.Dropped req cause) led_ nr = absurd (let no : false ≡ true = led_ in cc)
    by_kind (rows.Prompted req doc) led_ nr = absurd (let no : false ≡ true = led_ in cc)
    by_kind (rows.Sent job) led_ nr = absurd (let no : false ≡ true = led_ in cc)
    by_kind (rows.Taken proc job live dirty) led_ nr = absurd (let no : false ≡ true = led_ in cc)
    by_kind (rows.Finished proc job outcome) led_ nr = absurd (let no : false ≡ true = led_ in cc)
    by_kind (rows.Made proc made) led_ nr = absurd (let no : false ≡ true = led_ in cc)
    by_kind (rows.Killed proc death) led_ nr = absurd (let no : false ≡ true = led_ in cc)

-- no order was just finished
own_finished : (e : InEvent) (s : Seen) (kind : RowKind) → leads kind ≡ true → (after s (row_of e kind)).just_finished ≡ None
own_finished e s (rows.Accepted req doc what) led = refl
own_finished e s (rows.Answered req stay) led = refl
own_finished e s (rows.Evicted state) led = refl
own_finished e s (rows.Delivered proc) led = refl
own_finished e s _ led = absurd (let no : false ≡ true = led in cc)

-- ---- the event begins

module _ (e : InEvent) (checks : List (ReqId × OpenCheck)) (uncut : e.before ≡ []) (led : leads e.own ≡ true) (next : NumbersNext e.start e.own) (unran : e.ran ≡ []) (asked : AreAskedDuly e.checking e.start (log_of e []) (record { checks = checks; run = e.ran })) where
  abbrev first : Seen
  first = after e.start (row_of e e.own)

  at_first : (P : Seen → Type 0) → P first → P (log_of e [])
  at_first P is = subst P (sym (uncut_log e uncut)) is

  -- a request with an open question had one
  opens : (req : ReqId) (q : Asked) → request_of first req ≡ Some q → all_asked first q ≡ false → had_settled first req ≡ false → (had_settled e.start req ≡ true → had_settled first req ≡ true) → WasOpen e.start req
  opens req q at open_ fresh stays =
      record { was = p.0; found = p.1; open_ = by_both (is_asked (p.0).asks) (all_asked e.start p.0) p.2 unsettled }
    where
      asks : is_asked q.asks ≡ true
      asks = by_asks q.asks refl
        where
          by_asks : (l : List Asking) → q.asks ≡ l → is_asked l ≡ true
          by_asks (asking ∷ l) is = refl
          by_asks [] is = never (sym (ap (λ (l : List Asking). list_all (is_settled_asking (is_gone first)) l) is) ∙ open_)

      p : (p : Asked) × (request_of e.start req ≡ Some p) × (is_asked p.asks ≡ true)
      p = was_own e e.start e.own led next req q at asks

      not_before : had_settled e.start req ≡ false
      not_before = by_had (had_settled e.start req) refl
        where
          by_had : (b : Bool) → had_settled e.start req ≡ b → b ≡ false
          by_had false is = refl
          by_had true is = never (sym (stays is) ∙ fresh)

      unsettled : has_settled e.start p.0 ≡ false
      unsettled = sym (ap (λ (o : Option Asked). holds (has_settled e.start) o) p.1) ∙ not_before

      by_both : (a b : Bool) → a ≡ true → (a && b) ≡ false → b ≡ false
      by_both true b e f = f
      by_both false b e f = absurd cc

  had_none : (req : ReqId) (q : Asked) → request_of first req ≡ Some q → all_asked first q ≡ false → had_settled first req ≡ false
  had_none req q at open_ =
      ap (λ (o : Option Asked). holds (has_settled first) o) at
      ∙ ap (λ (b : Bool). is_asked q.asks && b) open_
      ∙ and_false (is_asked q.asks)
    where
      and_false : (b : Bool) → (b && false) ≡ false
      and_false true = refl
      and_false false = refl

  module _ (calm : NonePasses e.checking (log_of e [])) (notes : NotesWanted (log_of e []) checks) (unanswered : NoneAnsweredEarly (log_of e [])) (nobody : (req : ReqId) → request_of e.start req ≡ None → check_of req checks ≡ None) where
    pub begins_own : BeginsAsked e checks
    begins_own =
        record {
          asked = asked;
          calm = calm;
          notes = notes;
          unanswered = unanswered;
          opens = λ req q at waits. opens_first req q at (waits_open e.checking e.start (log_of e []) checks (subst (λ (docs : List DocId). AreAskedDuly e.checking e.start (log_of e []) (record { checks = checks; run = docs })) unran asked) req q at waits);
          there = at_first (λ s. (req : ReqId) → request_of s req ≡ None → check_of req checks ≡ None) (λ req none. nobody req (before req none));
          finished = at_first (λ s. s.just_finished ≡ None) (own_finished e e.start e.own led);
        }
      where
        opens_first : (req : ReqId) (q : Asked) → request_of (log_of e []) req ≡ Some q → all_asked (log_of e []) q ≡ false → WasOpen e.start req ⊎ (are_unheard q.asks ≡ true)
        opens_first =
            at_first (λ s. (req : ReqId) (q : Asked) → request_of s req ≡ Some q → all_asked s q ≡ false → WasOpen e.start req ⊎ (are_unheard q.asks ≡ true)) (λ req q at open_. inl (opens req q at open_ (had_none req q at open_) (λ had. subst (λ (s : Seen). had_settled s req ≡ true) (uncut_log e uncut) (asked.stays req had))))

        before : (req : ReqId) → request_of first req ≡ None → request_of e.start req ≡ None
        before req none = by_found (request_of e.start req) refl
          where
            by_found : (o : Option Asked) → request_of e.start req ≡ o → request_of e.start req ≡ None
            by_found None at = at
            by_found (Some p) at =
                let on = rows_on e.start (row_of e e.own ∷ []) req p at in
                let both : (let o : Option Asked = None in o) ≡ Some on.q = sym none ∙ on.at in
                absurd cc

  -- ---- by what holds between two events

  module _ (has : HasChecks e.start checks) (known : AskingKnown e.start) (quiet : IsNoAnswer e.own) where
    own_notes : NotesWanted (log_of e []) checks
    own_notes = at_first (λ s. NotesWanted s checks) (by_kind e.own refl quiet led)
      where
        was : NotesWanted e.start checks
        was = between_notes e.start checks has known.wanted

        by_kind : (k : RowKind) → e.own ≡ k → IsNoAnswer k → leads k ≡ true → NotesWanted first checks
        by_kind (rows.Accepted req doc what) is quiet_ led_ = accepted_notes e.start (row_of e e.own) req doc what checks is has was
        by_kind (rows.Delivered proc) is quiet_ led_ = delivered_notes e.start (row_of e e.own) proc checks is was
        by_kind (rows.Evicted state) is quiet_ led_ = asks_notes e.start first checks (λ r. rw is refl) was
        by_kind (rows.Answered req stay) is quiet_ led_ = absurd quiet_
        by_kind (rows.Opened entry state doc proc slot address) is quiet_ led_ = absurd (let no : false ≡ true = led_ in cc)
        by_kind (rows.Started req goal) is quiet_ led_ = absurd (let no : false ≡ true = led_ in cc)
        by_kind (rows.Applied req change) is quiet_ led_ = absurd (let no : false ≡ true = led_ in cc)
        by_kind (rows.Refused req reason) is quiet_ led_ = absurd (let no : false ≡ true = led_ in cc)
        by_kind (rows.Dropped req cause) is quiet_ led_ = absurd (let no : false ≡ true = led_ in cc)
        by_kind (rows.Prompted req doc) is quiet_ led_ = absurd (let no : false ≡ true = led_ in cc)
        by_kind (rows.Sent job) is quiet_ led_ = absurd (let no : false ≡ true = led_ in cc)
        by_kind (rows.Taken proc job live dirty) is quiet_ led_ = absurd (let no : false ≡ true = led_ in cc)
        by_kind (rows.Finished proc job outcome) is quiet_ led_ = absurd (let no : false ≡ true = led_ in cc)
        by_kind (rows.Made proc made) is quiet_ led_ = absurd (let no : false ≡ true = led_ in cc)
        by_kind (rows.Killed proc death) is quiet_ led_ = absurd (let no : false ≡ true = led_ in cc)

    own_unanswered : NoneAnsweredEarly (log_of e [])
    own_unanswered =
        at_first NoneAnsweredEarly (unanswered_row e.start (row_of e e.own) (answers e.own quiet) known.unanswered)
      where
        answers : (k : RowKind) → IsNoAnswer k → AnswersPrompt e.start k
        answers (rows.Answered req stay) quiet_ = absurd quiet_
        answers (rows.Accepted req doc what) quiet_ = tt
        answers (rows.Delivered proc) quiet_ = tt
        answers (rows.Evicted state) quiet_ = tt
        answers (rows.Opened entry state doc proc slot address) quiet_ = tt
        answers (rows.Started req goal) quiet_ = tt
        answers (rows.Applied req change) quiet_ = tt
        answers (rows.Refused req reason) quiet_ = tt
        answers (rows.Dropped req cause) quiet_ = tt
        answers (rows.Prompted req doc) quiet_ = tt
        answers (rows.Sent job) quiet_ = tt
        answers (rows.Taken proc job live dirty) quiet_ = tt
        answers (rows.Finished proc job outcome) quiet_ = tt
        answers (rows.Made proc made) quiet_ = tt
        answers (rows.Killed proc death) quiet_ = tt

    pub begins_between : NonePasses e.checking (log_of e []) → BeginsAsked e checks
    begins_between calm =
        begins_own calm own_notes own_unanswered (λ req none. subst (λ (o : Option Asked). AreTiedAt e.start o (check_of req checks)) none (has.tied.each req))
