-- One row more in an event in which documents and the user are asked.
use Rattle.std.proofs.Common.{◌≡◌, Bool, true, false, List, [], ◌∷◌, ◌++◌, map, Option, Some, None, refl, sym, ap, ◌∙◌, subst}
use Rattle.std.specs.Prelude.{fold, is_some}
use Rattle.std.proofs.lemmas.List.Sums.{fold-append}
use Rattle.tab_ids.specs.declared.DocId.{DocId}
use Rattle.tab_ids.specs.declared.ReqId.{ReqId}
use Rattle.log_model.specs.declared.row_kind.LogRow.{LogRow}
use Rattle.log_model.specs.declared.row_kind.RowKind.{RowKind}
use Rattle.log_model.specs.declared.row_kind.RowKind.TheVariants as rows
use Rattle.log_model.specs.Seen.{Seen, Asked}
use Rattle.log_model.specs.After.{after}
use Rattle.log_model.specs.Checks.{due_prompt, is_of_run, prompts_duly}
use Rattle.seen_laws.specs.Blocks.{EachPass, Here, on_row, on_rows, point_at}
use Rattle.seen_laws.specs.InEvent.{InEvent, IsPaid, IsTakenIn, first_of, here_of, later_of, log_of, now_of, own_of, row_of, rows_of, start_of}
use Rattle.seen_laws.specs.Owing.{Pays}
use Rattle.seen_laws.proofs.InEvents.{IsQuiet, log_fold, log_more, pass_more, pays_end, rows_more, taken_end, uncut_log, uncut_rows}
use Rattle.row_facts.specs.FrameRows.Lawful.{AreLawful, IsRestOf, KeepsHeld, has_traversed}
use Rattle.row_facts.proofs.FrameRows.LawfulLaws.{AsksOf, rest_more}
use Rattle.check_facts.proofs.Agreeing.{agree_more, agree_other, agree_run}
use Rattle.check_facts.proofs.Asks.{ask_agrees, ask_back}
use Rattle.check_facts.proofs.Promptings.{come_before, duly, none_front}
use Rattle.check_facts.proofs.Runs.{come_aside, come_more, come_rows}
use Rattle.check_facts.specs.Prompting.{Agrees, AgreesNow, AreAside, AreAsking, DropsNone, HaveNumbers, IsAside, IsAskDue, IsDiscarding, IsUnprompted, KeepsQuestions, NotesMore, PromptsCome, SettlesDue, comes, none_ran, still_due}

-- an event's beginning stays
start_rows : (h : Here) (rows : List LogRow) → (on_rows h rows).start ≡ h.start
start_rows h [] = refl
start_rows h (row ∷ rows) = start_rows (on_row h row) rows

pub start_is : (e : InEvent) (out : List RowKind) → (here_of e out).start ≡ e.start
start_is e out = start_rows (first_of e) (map (row_of e) out) ∙ start_rows (own_of e) (map (row_of e) e.before)

-- what the log has come to, some rows on
pub now_rows : (e : InEvent) (out more : List RowKind) → log_of e (out ++ more) ≡ fold after (log_of e out) (map (row_of e) more)
now_rows e out more =
    log_fold e (out ++ more)
    ∙ ap (λ (rows : List LogRow). fold after e.start rows) (rows_more e out more)
    ∙ fold-append (λ (s : Seen) (row : LogRow). after s row) e.start (rows_of e out) (map (row_of e) more)
    ∙ ap (λ (s : Seen). fold after s (map (row_of e) more)) (sym (log_fold e out))

-- ---- as the event begins

-- what is lawful without prompts is so with them
pub asking_lawful : (e : InEvent) (todo : ReqId → Option DocId) (ran : ReqId → Bool) (out : List RowKind) → AreLawful e out → AreAsking e todo ran out
unfolding AreLawful AreAsking
asking_lawful e todo ran out lawful later rest = lawful later rest.rest

-- the own row, if it passes where the rest prompts as it is due
pub asking_own : (e : InEvent) (todo : ReqId → Option DocId) (ran : ReqId → Bool) → e.before ≡ [] → ((later : List LogRow) → IsRestOf e [] later → prompts_duly (point_at (start_of e) later) (row_of e e.own) ≡ true → EachPass (start_of e) (row_of e e.own ∷ []) later) → KeepsQuestions e.start (after e.start (row_of e e.own)) → DropsNone e.start (after e.start (row_of e e.own)) → HaveNumbers e.start → SettlesDue e.start todo ran e.start (row_of e e.own) → AreAsking e todo ran []
unfolding AreAsking
asking_own e todo ran uncut passes keeps drops numbered due later rest =
    let come : PromptsCome e.start todo (after e.start (row_of e e.own)) later = subst (λ (s : Seen). PromptsCome e.start todo s later) (uncut_log e uncut) rest.prompts in
    let agrees : Agrees todo ran (after e.start (row_of e e.own)) later = subst (λ (s : Seen). Agrees todo ran s later) (uncut_log e uncut) rest.agrees in
    subst (λ (rows : List LogRow). EachPass (start_of e) rows later) (sym (uncut_rows e [] uncut))
    (passes later rest.rest (duly e.start todo ran e.start (row_of e e.own) later keeps drops come agrees [] numbered due))

-- ---- one row more

module _ (e : InEvent) (todo : ReqId → Option DocId) (ran : ReqId → Bool) (out : List RowKind) (kind : RowKind) (quiet : IsQuiet e kind) (held : KeepsHeld e out kind) where
  abbrev pub row : LogRow
  row = row_of e kind

  abbrev pub now : Seen
  now = log_of e out

  abbrev pub next : Seen
  next = after now row

  -- what the row passes by, beside what comes later for prompts
  abbrev pub Asks : List LogRow → Type 0
  Asks later = AsksOf e out kind later × Pays (here_of e out) (row ∷ []) later

  -- the general step: what comes later, seen from before the row
  pub step : (runs : ReqId → Bool) → ((later : List LogRow) → PromptsCome e.start todo next later → Agrees todo runs next later → PromptsCome e.start todo now (row ∷ later) × Agrees todo ran now (row ∷ later)) → AreAsking e todo ran out → ((later : List LogRow) → Asks later → PromptsCome e.start todo next later → Agrees todo runs next later → EachPass (here_of e out) (row ∷ []) later) → AreAsking e todo runs (out ++ kind ∷ [])
  unfolding AreAsking
  step runs back asking may later rest =
      let parts = rest_more e out kind quiet held later rest.rest in
      let come : PromptsCome e.start todo next later = subst (λ (s : Seen). PromptsCome e.start todo s later) (log_more e out kind) rest.prompts in
      let agrees : Agrees todo runs next later = subst (λ (s : Seen). Agrees todo runs s later) (log_more e out kind) rest.agrees in
      let before = back later come agrees in
      pass_more e out (kind ∷ []) later (asking (row ∷ later) (record { rest = parts.0; prompts = before.0; agrees = before.1 })) (may later parts.1 come agrees)

  -- an order that discards a document, whatever it settles: it passes if the prompts that are due then come
  pub asking_discard : IsDiscarding row → KeepsQuestions now next → DropsNone now next → HaveNumbers now → SettlesDue e.start todo ran now row → AreAsking e todo ran out → ((later : List LogRow) → Asks later → prompts_duly (point_at (here_of e out) later) row ≡ true → EachPass (here_of e out) (row ∷ []) later) → AreAsking e todo ran (out ++ kind ∷ [])
  asking_discard is keeps drops numbered due asking may =
      step ran (λ later come agrees. (come_before e.start todo now row later is keeps drops come, agree_run todo ran now row later is.runs keeps drops agrees)) asking (λ later asks come agrees. may later asks (passes later come agrees))
    where
      at : (start : Seen) → (start ≡ e.start) → (later : List LogRow) → prompts_duly (record { start = e.start; now = (here_of e out).now; done = (here_of e out).done; later = later }) row ≡ true → prompts_duly (record { start = start; now = (here_of e out).now; done = (here_of e out).done; later = later }) row ≡ true
      at start is later passes_ = subst (λ (s : Seen). prompts_duly (record { start = s; now = (here_of e out).now; done = (here_of e out).done; later = later }) row ≡ true) (sym is) passes_

      passes : (later : List LogRow) → PromptsCome e.start todo next later → Agrees todo ran next later → prompts_duly (point_at (here_of e out) later) row ≡ true
      passes later come agrees = at (here_of e out).start (start_is e out) later (duly e.start todo ran now row later keeps drops come agrees (here_of e out).done numbered due)

  -- a row beside the prompts to come, which ends a run
  pub asking_other : IsAside e.start todo now row → AgreesNow todo ran now → AreAsking e todo ran out → ((later : List LogRow) → Asks later → EachPass (here_of e out) (row ∷ []) later) → AreAsking e todo none_ran (out ++ kind ∷ [])
  asking_other is agrees asking may =
      step none_ran (λ later come agreed. (come_aside e.start todo now row later is come, agree_other todo ran now (row ∷ later) (none_front is_of_run row later is.ends) agrees)) asking (λ later asks come agreed. may later asks)

-- rows in one block, as a request that begins and its questions: what they ask of later rows but for prompts, and that they pass, is shown of the block
pub asking_rows : (e : InEvent) (todo : ReqId → Option DocId) (ran : ReqId → Bool) (out : List RowKind) (first : RowKind) (more : List RowKind) → AreAside e.start todo (log_of e out) (map (row_of e) (first ∷ more)) → AgreesNow todo ran (log_of e out) → AreAsking e todo ran out → ((later : List LogRow) → IsRestOf e (out ++ first ∷ more) later → IsRestOf e out (map (row_of e) (first ∷ more) ++ later) × EachPass (here_of e out) (map (row_of e) (first ∷ more)) later) → AreAsking e todo none_ran (out ++ first ∷ more)
unfolding AreAsking
asking_rows e todo ran out first more aside agrees asking may later rest =
    let parts = may later rest.rest in
    let come : PromptsCome e.start todo (fold after (log_of e out) (map (row_of e) (first ∷ more))) later = subst (λ (s : Seen). PromptsCome e.start todo s later) (now_rows e out (first ∷ more)) rest.prompts in
    pass_more e out (first ∷ more) later (asking (map (row_of e) (first ∷ more) ++ later) (record {
      rest = parts.0;
      prompts = come_rows e.start todo (log_of e out) (map (row_of e) (first ∷ more)) later aside come;
      agrees = agree_other todo ran (log_of e out) (map (row_of e) (first ∷ more) ++ later) (none_front is_of_run (row_of e first) (map (row_of e) more ++ later) aside.0.ends) agrees;
    })) parts.1

-- the user is asked, as it is noted
pub asking_prompt : (e : InEvent) (todo : ReqId → Option DocId) (ran : ReqId → Bool) (out : List RowKind) (req : ReqId) (doc : DocId) → KeepsHeld e out (rows.Prompted req doc) → IsAskDue e.start (log_of e out) req → HaveNumbers (log_of e out) → todo req ≡ Some doc → AreAsking e todo ran out → ((later : List LogRow) → EachPass (here_of e out) (row_of e (rows.Prompted req doc) ∷ []) later) → AreAsking e todo ran (out ++ rows.Prompted req doc ∷ [])
asking_prompt e todo ran out req doc held due numbered noted asking may =
    step e todo ran out (rows.Prompted req doc) (λ r. refl) held ran (λ later come agrees. (ask_back e.start (log_of e out) e.event e.actor req doc todo due numbered noted later come, ask_agrees e.start (log_of e out) e.event e.actor req doc todo ran later agrees)) asking (λ later asks come agrees. may later)

-- ---- the table is told of what was settled, while the run lasts

pub asking_noted : (e : InEvent) (todo : ReqId → Option DocId) (ran : ReqId → Bool) (new : ReqId → Option DocId) (runs : ReqId → Bool) (out : List RowKind) → HaveNumbers (log_of e out) → NotesMore e.start todo ran new runs (log_of e out) → AreAsking e todo ran out → AreAsking e new runs out
unfolding AreAsking
asking_noted e todo ran new runs out numbered notes asking later rest =
    asking later (record {
      rest = rest.rest;
      prompts = come_more e.start todo ran new runs (log_of e out) later numbered notes rest.agrees rest.prompts;
      agrees = agree_more e.start todo ran new runs (log_of e out) later notes rest.agrees;
    })

-- ---- at the event's end

-- nothing comes later, so no prompt may be due
pub asking_end : (e : InEvent) (todo : ReqId → Option DocId) (ran : ReqId → Bool) (out : List RowKind) → AreAsking e todo ran out → IsPaid e out → IsTakenIn e (later_of e out) → (has_traversed e out ≡ true → (now_of e out).parked ≡ []) → IsUnprompted e.start todo (log_of e out) → AgreesNow todo ran (log_of e out) → EachPass (start_of e) (rows_of e out) []
unfolding AreAsking
asking_end e todo ran out asking paid taken none unprompted agrees =
    asking [] (record {
      rest = record {
        rest = record {
          asks = λ req began. refl;
          taken = taken_end e out taken;
          owed = pays_end e out paid;
        };
        held = λ was. sym (none was);
      };
      prompts = λ req q found fresh settled. subst (λ (due : Option DocId). comes due req [] ≡ true) (sym (by_prompted q (is_some q.prompted) refl (unprompted req q found fresh settled))) refl;
      agrees = agree_other todo ran (log_of e out) [] refl agrees;
    })
  where
    by_prompted : (q : Asked) (b : Bool) → is_some q.prompted ≡ b → (is_some q.prompted ≡ false → (todo q.nr ≡ None) × (due_prompt (log_of e out) q ≡ None)) → still_due todo (log_of e out) [] q ≡ None
    by_prompted q true is f = rw is refl
    by_prompted q false is f = let un = f is in rw is (rw (un.0) (un.1))
