-- What is noted as the table is told is what is due still once the user was asked; and where no run lasts nothing is noted by it.
use Rattle.asking_facts.proofs.Ones.{told_none}
use Rattle.check_facts.proofs.Notings.{ran_more}
use Rattle.check_facts.specs.Prompting.{AgreesNow, none_ran, todo_of}
use Rattle.checking_facts.proofs.Tellings.{runs_now, told_agrees}
use Rattle.checking_facts.specs.Prompts.{AreAskedDuly, Told}
use Rattle.log_model.specs.After.{after}
use Rattle.log_model.specs.Checks.{due_prompt}
use Rattle.log_model.specs.Seen.{Asked, Asking, Seen}
use Rattle.log_model.specs.declared.outcome.Ending.{Ending}
use Rattle.log_model.specs.declared.row_kind.RowKind.TheVariants as rows
use Rattle.log_model.specs.declared.row_kind.RowKind.{RowKind}
use Rattle.seen_facts.proofs.Each.Courses.{was_asked}
use Rattle.seen_facts.proofs.Request.Readers.{SameReads, on_read}
use Rattle.seen_laws.specs.InEvent.{InEvent, log_of, row_of}
use Rattle.std.proofs.Common.{Bool, List, None, Option, Some, [], ap, false, refl, sym, ◌&&◌, ◌++◌, ◌∙◌, ◌≡◌}
use Rattle.std.specs.Prelude.{is_none, is_some}
use Rattle.tab_ids.specs.declared.DocId.{DocId}
use Rattle.tab_ids.specs.declared.ReqId.{ReqId}
use Rattle.tab_prompts.proofs.Works.{prompts_keep}
use Rattle.tab_prompts.specs.Asking.{ArePrompts}
use Rattle.unload_check.specs.Checks.{OpenCheck, after_all_deaths}

-- where no run lasts, nothing was noted by it
pub ended_quiet : (told : Told) → told.run ≡ [] → (req : ReqId) → ran_more none_ran (todo_of told.checks) (todo_of (after_all_deaths told.run told.checks)) req ≡ false
ended_quiet told ended req =
    ap (λ (run : List DocId). ran_more none_ran (todo_of told.checks) (todo_of (after_all_deaths run told.checks)) req) ended
    ∙ ap (λ (es : List (ReqId × OpenCheck)). ran_more none_ran (todo_of told.checks) (todo_of es) req) (told_none told.checks)
    ∙ by_todo (todo_of told.checks req)
  where
    by_todo : (o : Option DocId) → (is_none o && is_some o) ≡ false
    by_todo None = refl
    by_todo (Some doc) = refl

-- ---- the user was asked since

-- what is due of a request is read of its questions and its end
record Due : Type 0 where
  ending : Option Ending
  asks : List Asking

abbrev due_of : Asked → Due
due_of q = record { ending = q.ending; asks = q.asks }

prompt_agrees : (todo : ReqId → Option DocId) (ran : ReqId → Bool) (e : InEvent) (s : Seen) (req : ReqId) (doc : DocId) → AgreesNow todo ran s → AgreesNow todo ran (after s (row_of e (rows.Prompted req doc)))
prompt_agrees todo ran e s req doc agrees r q at is =
    let p = was_asked due_of s.requests (after s (row_of e (rows.Prompted req doc))).requests same r q at in
    ap (λ (x : Due). due_prompt s (record q { ending = x.ending; asks = x.asks })) (sym p.2)
    ∙ agrees r p.0 p.1 is
  where
    same : SameReads due_of s.requests (after s (row_of e (rows.Prompted req doc))).requests
    same = on_read due_of s.requests req (λ x. record x { prompted = Some doc }) (λ x. refl)

-- what is noted is what is due still
pub agrees_prompted : (e : InEvent) (out more : List RowKind) (told : Told) (asked : AreAskedDuly e.checking e.start (log_of e out) told) → ArePrompts more → AgreesNow (todo_of (after_all_deaths told.run told.checks)) (runs_now e.start (log_of e out) told asked.run) (log_of e (out ++ more))
agrees_prompted e out more told asked are =
    prompts_keep (AgreesNow todo ran) e (λ s req doc agrees. prompt_agrees todo ran e s req doc agrees) more out are (told_agrees e.start (log_of e out) told asked.run)
  where
    todo : ReqId → Option DocId
    todo = todo_of (after_all_deaths told.run told.checks)

    ran : ReqId → Bool
    ran = runs_now e.start (log_of e out) told asked.run
