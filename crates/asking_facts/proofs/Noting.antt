-- The table is told of a run within an event: from then on the rows pass if what comes later agrees with what it notes, until a row ends the run.
use Rattle.std.proofs.Common.{◌≡◌, Bool, true, false, List, [], ◌∷◌, ◌++◌, map, Option, Some, None, refl, sym, ◌∙◌, subst}
use Rattle.tab_ids.specs.declared.DocId.{DocId}
use Rattle.tab_ids.specs.declared.ReqId.{ReqId}
use Rattle.log_model.specs.declared.job.Job.{Job}
use Rattle.log_model.specs.declared.job.Task.TheVariants as tasks
use Rattle.log_model.specs.declared.row_kind.LogRow.{LogRow}
use Rattle.log_model.specs.declared.row_kind.RowKind.{RowKind}
use Rattle.log_model.specs.declared.row_kind.RowKind.TheVariants as rows
use Rattle.log_model.specs.Checks.{due_prompt, is_of_run}
use Rattle.log_model.specs.Seen.{Asked, Seen, request_of}
use Rattle.seen_laws.proofs.InEvents.{log_more}
use Rattle.seen_laws.specs.InEvent.{InEvent, log_of, row_of}
use Rattle.check_facts.proofs.Agreeing.{agree_none, agree_other, agree_run}
use Rattle.check_facts.proofs.Asks.{ask_agrees, discarding}
use Rattle.check_facts.proofs.Gones.{run_gone}
use Rattle.check_facts.proofs.Promptings.{none_front}
use Rattle.check_facts.proofs.Rows.{sent_drops, sent_keeps}
use Rattle.check_facts.proofs.Runs.{come_more, never_due}
use Rattle.check_facts.specs.Prompting.{Agrees, AgreesNow, none_ran, run_end, todo_of}
use Rattle.check_facts.specs.Rows.{IsNoQuestion}
use Rattle.checking_facts.proofs.Tellings.{runs_now, told_notes, told_numbers}
use Rattle.checking_facts.specs.Prompts.{HasRun, PassIf, Told}
use Rattle.unload_check.specs.Checks.{after_all_deaths}
use Rattle.asking_facts.specs.Noting.{Agreed}

-- ---- the table is told

-- what is asked of later rows may be more
pub pass_less : (Before Rest : List LogRow → Type 0) (e : InEvent) (todo : ReqId → Option DocId) (out : List RowKind) → ((later : List LogRow) → Rest later → Before later) → PassIf Before e todo out → PassIf Rest e todo out
unfolding PassIf
pass_less Before Rest e todo out ahead pass later rest = pass later (rest.0, ahead later rest.1)

-- told of the run, it notes what is due
pub told_pass : (Rest : List LogRow → Type 0) (e : InEvent) (out : List RowKind) (told : Told) (run : HasRun e.start (log_of e out) told) → PassIf Rest e (todo_of told.checks) out → PassIf (Agreed (todo_of (after_all_deaths told.run told.checks)) (runs_now e.start (log_of e out) told run) e out Rest) e (todo_of (after_all_deaths told.run told.checks)) out
unfolding PassIf
told_pass Rest e out told run pass later rest =
    pass later (
      record {
        rest = rest.0.rest;
        prompts = come_more e.start (todo_of told.checks) none_ran (todo_of (after_all_deaths told.run told.checks)) (runs_now e.start (log_of e out) told run) (log_of e out) later (told_numbers e.start (log_of e out) told run) (told_notes e.start (log_of e out) told run) rest.1.0 rest.0.prompts;
        agrees = agree_none (todo_of told.checks) (log_of e out) later;
      },
      rest.1.1,
    )

-- ---- and rows come

module _ (todo : ReqId → Option DocId) (ran : ReqId → Bool) (e : InEvent) (out : List RowKind) (Rest Next : List LogRow → Type 0) where
  abbrev now : Seen
  now = log_of e out

  -- rows of which the first ends the run
  pub agreed_rows : (first : RowKind) (more : List RowKind) → is_of_run (row_of e first) ≡ false → AgreesNow todo ran now → ((later : List LogRow) → Next later → Rest (map (row_of e) (first ∷ more) ++ later)) → (later : List LogRow) → Next later → Agreed todo ran e out Rest (map (row_of e) (first ∷ more) ++ later)
  agreed_rows first more ends agrees ahead later next_ =
      (agree_other todo ran now (map (row_of e) (first ∷ more) ++ later) (none_front is_of_run (row_of e first) (map (row_of e) more ++ later) ends) agrees, ahead later next_)

  -- one of them
  pub agreed_row : (kind : RowKind) → is_of_run (row_of e kind) ≡ false → AgreesNow todo ran now → ((later : List LogRow) → Next later → Rest (row_of e kind ∷ later)) → (later : List LogRow) → Next later → Agreed todo ran e out Rest (row_of e kind ∷ later)
  agreed_row kind ends agrees ahead later next_ = agreed_rows kind [] ends agrees ahead later next_

  -- none, as the event ends
  pub agreed_end : AgreesNow todo ran now → Rest [] → Agreed todo ran e out Rest []
  agreed_end agrees rest = (agree_other todo ran now [] refl agrees, rest)

  -- where nothing is due nor noted for those, what comes later agrees whatever it is
  pub agreed_always : ((req : ReqId) (q : Asked) → request_of now req ≡ Some q → ran req ≡ true → (due_prompt now q ≡ None) × (todo req ≡ None)) → (later : List LogRow) → Rest later → Agreed todo ran e out Rest later
  agreed_always none later rest =
      (λ req q at is. (let its = none req q at is in never_due now (run_end now later) q (run_gone now later) its.0 ∙ sym its.1), rest)

  -- an order that discards a document
  pub agreed_discard : (job : Job) → job.task ≡ tasks.Discard → ((later : List LogRow) → Next later → Rest (row_of e (rows.Sent job) ∷ later)) → (later : List LogRow) → Agreed todo ran e (out ++ rows.Sent job ∷ []) Next later → Agreed todo ran e out Rest (row_of e (rows.Sent job) ∷ later)
  agreed_discard job task ahead later next_ =
      (agree_run todo ran now (row_of e (rows.Sent job)) later (discarding e.event e.actor job task).runs (sent_keeps now e.event e.actor job no_question) (sent_drops now e.event e.actor job no_question) (subst (λ (s : Seen). Agrees todo ran s later) (log_more e out (rows.Sent job)) next_.0), ahead later next_.1)
    where
      no_question : IsNoQuestion job.task
      no_question = subst IsNoQuestion (sym task) tt

  -- the user is asked
  pub agreed_prompt : (req : ReqId) (doc : DocId) → ((later : List LogRow) → Next later → Rest (row_of e (rows.Prompted req doc) ∷ later)) → (later : List LogRow) → Agreed todo ran e (out ++ rows.Prompted req doc ∷ []) Next later → Agreed todo ran e out Rest (row_of e (rows.Prompted req doc) ∷ later)
  agreed_prompt req doc ahead later next_ =
      (ask_agrees e.start now e.event e.actor req doc todo ran later (subst (λ (s : Seen). Agrees todo ran s later) (log_more e out (rows.Prompted req doc)) next_.0), ahead later next_.1)
