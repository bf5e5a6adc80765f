-- The event was cut behind the prompts: what is known of its checks is so anew, by the told table.
use Rattle.checking_facts.specs.Prompts.{EndsOff}
use Rattle.asking_facts.proofs.Unanswered.{unanswered_row}
use Rattle.asking_facts.proofs.Waiting.{asks_of, plain_asks}
use Rattle.asking_facts.specs.Prompting.{AnswersPrompt, NoneAnsweredEarly}
use Rattle.check_facts.proofs.Gones.{row_gone}
use Rattle.check_facts.proofs.Rows.{applied_plain, dropped_plain, plain_of, refused_plain, sent_plain, started_plain}
use Rattle.check_facts.specs.Rows as checked
use Rattle.log_model.specs.After.{after}
use Rattle.log_model.specs.Places.{is_gone, is_traversal}
use Rattle.log_model.specs.Seen.{Asked, Asking, Seen, request_of}
use Rattle.log_model.specs.declared.row_kind.RowKind.TheVariants as rows
use Rattle.log_model.specs.declared.row_kind.RowKind.{RowKind}
use Rattle.row_facts.specs.Owed.Owed.{owes_seen}
use Rattle.seen_facts.proofs.Each.Courses.{was_asked}
use Rattle.seen_facts.proofs.Request.Readers.{SameReads, on_read, reads_then}
use Rattle.seen_facts.specs.Hang.Members.{Has}
use Rattle.seen_laws.proofs.Cuts.{log_cut}
use Rattle.seen_laws.specs.InEvent.{InEvent, first_of, is_seen, log_of, row_of}
use Rattle.std.proofs.Common.{Bool, List, None, Option, Some, [], false, inl, inr, refl, subst, sym, true, ◌++◌, ◌∙◌, ◌≡◌, ◌⊎◌}
use Rattle.tab_doors.specs.Keeping.{Move}
use Rattle.tab_doors.specs.Working.{IsAtWorkIn}
use Rattle.tab_doors.specs.declared.tables.Tables.{Tables}
use Rattle.tab_ids.specs.declared.DocId.{DocId}
use Rattle.tab_ids.specs.declared.ReqId.{ReqId}
use Rattle.tab_prompts.proofs.Dues.{there_rows}
use Rattle.tab_prompts.proofs.Settled.{IsNotedFor, cut_calm, cut_stands, prompts, then_, then_told}
use Rattle.tab_prompts.proofs.Since.{finished_since, no_question, rows_keep}
use Rattle.tab_prompts.proofs.Tables.{GoesAt, goes_told}
use Rattle.tab_prompts.proofs.Waits.{waited_before}
use Rattle.tab_prompts.proofs.Works.{prompts_are, prompts_keep}
use Rattle.tab_prompts.specs.Asking.{AreAllWaiting, AreApart, AreUnderWay, BeginsAsked, BeginsMost, WasOpen, are_unheard}
use Rattle.tab_prompts.specs.Prompts.{is_settled_in, is_waiting}
use Rattle.unload_check.specs.Checks.{OpenCheck, check_of}

never : {A : Type 0} → true ≡ false → A
never is = absurd cc

-- ---- what each row of a coordinator keeps

-- as of one state: each request was asked the same, and who was gone is
pub record Since (first s : Seen) : Type 0 where
  pub asks : SameReads asks_of first.requests s.requests
  pub gone : (doc : DocId) → is_gone first doc ≡ true → is_gone s doc ≡ true
  pub unanswered : NoneAnsweredEarly s

module _ (first : Seen) (e : InEvent) where
  since_plain : (s : Seen) (kind : RowKind) → checked.IsOfCoord kind → AnswersPrompt s kind → SameReads asks_of s.requests (after s (row_of e kind)).requests → Since first s → Since first (after s (row_of e kind))
  since_plain s kind its answers same is =
      record {
        asks = reads_then asks_of first.requests s.requests (after s (row_of e kind)).requests is.asks same;
        gone = λ doc was. row_gone s e.event e.actor kind its doc (is.gone doc was);
        unanswered = unanswered_row s (row_of e kind) answers is.unanswered;
      }

  plainly : (s : Seen) (kind : RowKind) → SameReads plain_of s.requests (after s (row_of e kind)).requests → SameReads asks_of s.requests (after s (row_of e kind)).requests
  plainly s kind same = plain_asks s (after s (row_of e kind)) same

  pub since_row : (s : Seen) (kind : RowKind) → is_seen e.checking kind ≡ true → EndsOff e.checking kind → Since first s → Since first (after s (row_of e kind))
  since_row s (rows.Sent job) seen ends =
      since_plain s (rows.Sent job) tt tt (plainly s (rows.Sent job) (sent_plain s e.event e.actor job (no_question job.task seen)))
  since_row s (rows.Started req goal) seen ends =
      since_plain s (rows.Started req goal) tt tt (plainly s (rows.Started req goal) (started_plain s e.event e.actor req goal))
  since_row s (rows.Applied req change) seen ends =
      since_plain s (rows.Applied req change) tt tt (plainly s (rows.Applied req change) (applied_plain s e.event e.actor req change))
  since_row s (rows.Refused req reason) seen ends =
      since_plain s (rows.Refused req reason) tt tt (plainly s (rows.Refused req reason) (refused_plain s e.event e.actor req reason))
  since_row s (rows.Dropped req cause) seen ends =
      since_plain s (rows.Dropped req cause) tt tt (plainly s (rows.Dropped req cause) (dropped_plain s e.event e.actor req cause))
  since_row s _ seen never_ = absurd never_

  since_prompt : (s : Seen) (req : ReqId) (doc : DocId) → Since first s → Since first (after s (row_of e (rows.Prompted req doc)))
  since_prompt s req doc =
      since_plain s (rows.Prompted req doc) tt tt (on_read asks_of s.requests req (λ x. record x { prompted = Some doc }) (λ x. refl))

-- ---- the cut

module _ {sweeps : Bool} (move : Option Move) (e : InEvent) (out : List RowKind) (t : Tables) (work : IsAtWorkIn sweeps move e out t) (begins : BeginsAsked e t.checks) (waited : List ReqId) (apart : AreApart waited) (waits : (req : ReqId) → Has waited req → is_waiting t.checks req ≡ true) (go : AreUnderWay (log_of e out) waited) where
  abbrev first : Seen
  first = log_of e []

  abbrev told_then : List (ReqId × OpenCheck)
  told_then = then_told move e out t work begins

  abbrev asking : List RowKind
  asking = prompts move e out t work begins waited apart waits go

  abbrev pub cut_then : InEvent
  cut_then = then_ move e out t work begins waited apart waits go

  abbrev last : Seen
  last = log_of e (out ++ asking)

  since : Since first last
  since =
      prompts_keep (Since first) e (since_prompt first e) asking out (prompts_are told_then waited) (rows_keep (Since first) e (since_row first e) [] out (first_of e) work.goes work.off (record { asks = λ r. refl; gone = λ doc is. is; unanswered = begins.unanswered }))

  at_cut : (P : Seen → Type 0) → P last → P (log_of cut_then [])
  at_cut P is = subst P (sym (log_cut e (out ++ asking) e.checking (owes_seen e out))) is

  -- one whose check waits had an open question as the event began, or no answer was heard
  opens : (req : ReqId) (q : Asked) → request_of last req ≡ Some q → is_waiting told_then req ≡ true → WasOpen e.start req ⊎ (are_unheard q.asks ≡ true)
  opens req q at waiting =
      by_opens (begins.opens req p.0 p.1 (waited_before e.ran t.checks req out waiting))
    where
      p : (p : Asked) × (request_of first req ≡ Some p) × (asks_of p ≡ asks_of q)
      p = was_asked asks_of first.requests last.requests since.asks req q at

      by_opens : WasOpen e.start req ⊎ (are_unheard (p.0).asks ≡ true) → WasOpen e.start req ⊎ (are_unheard q.asks ≡ true)
      by_opens (inl is) = inl is
      by_opens (inr unheard) = inr (subst (λ (l : List Asking). are_unheard l ≡ true) p.2 unheard)

  -- there is no check without a request
  nobody : (req : ReqId) → request_of last req ≡ None → check_of req told_then ≡ None
  nobody req none =
      subst (λ (o : Option OpenCheck). GoesAt o (check_of req told_then)) (begins.there req (by_found (request_of first req) refl)) (goes_told e.ran t.checks req out)
    where
      by_found : (o : Option Asked) → request_of first req ≡ o → request_of first req ≡ None
      by_found None at = at
      by_found (Some p) at =
          let q = there_rows e (first_of e) (out ++ asking) req p at in
          let both : (let o : Option Asked = None in o) ≡ Some q.0 = sym none ∙ q.1 in
          absurd cc

  finished_last : last.just_finished ≡ None
  finished_last =
      prompts_keep (λ s. s.just_finished ≡ None) e (λ s req doc is. refl) asking out (prompts_are told_then waited) (finished_since e out work.goes work.off begins.finished)

  -- so the event goes on as one that began, whoever has passed
  pub begins_most : BeginsMost cut_then told_then
  begins_most =
      let stands = cut_stands move e out t work begins waited apart waits go in
      record {
        asked = stands.asked;
        notes = stands.notes;
        unanswered = at_cut NoneAnsweredEarly since.unanswered;
        opens = at_cut (λ s. (req : ReqId) (q : Asked) → request_of s req ≡ Some q → is_waiting told_then req ≡ true → WasOpen e.start req ⊎ (are_unheard q.asks ≡ true)) opens;
        there = at_cut (λ s. (req : ReqId) → request_of s req ≡ None → check_of req told_then ≡ None) nobody;
        finished = at_cut (λ s. s.just_finished ≡ None) finished_last;
      }

  -- and in full, where no traversal goes on
  pub begins_again : AreAllWaiting (log_of cut_then []) t.checks waited → ((req : ReqId) (q : Asked) → request_of (log_of cut_then []) req ≡ Some q → is_traversal q.what ≡ true → Has waited req → is_settled_in told_then req ≡ true → IsNotedFor told_then req) → BeginsAsked cut_then told_then
  begins_again all noted =
      record {
        asked = begins_most.asked;
        calm = cut_calm move e out t work begins waited apart waits go all noted;
        notes = begins_most.notes;
        unanswered = begins_most.unanswered;
        opens = begins_most.opens;
        there = begins_most.there;
        finished = begins_most.finished;
      }
