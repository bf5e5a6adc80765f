-- Prompts that are noted while their run still lasts.
use Rattle.std.proofs.Common.{◌≡◌, true, List, ◌∷◌, Option, sym, ap, ◌∙◌}
use Rattle.std.specs.Prelude.{fold}
use Rattle.tab_ids.specs.declared.DocId.{DocId}
use Rattle.tab_ids.specs.declared.ReqId.{ReqId}
use Rattle.std.proofs.Common.{Bool}
use Rattle.log_model.specs.declared.row_kind.LogRow.{LogRow}
use Rattle.log_model.specs.Seen.{Seen}
use Rattle.log_model.specs.After.{after}
use Rattle.log_model.specs.Checks.{due_prompt, is_of_run}
use Rattle.check_facts.specs.Prompting.{Agrees, AgreesNow, DropsNone, KeepsQuestions, NotesMore, RunsNot, none_ran, run_end}
use Rattle.check_facts.proofs.Promptings.{along_run, due_same}

-- a row of the run: it ends where it did
pub agree_run : (todo : ReqId → Option DocId) (ran : ReqId → Bool) (now : Seen) (row : LogRow) (later : List LogRow) → is_of_run row ≡ true → KeepsQuestions now (after now row) → DropsNone now (after now row) → Agrees todo ran (after now row) later → Agrees todo ran now (row ∷ later)
agree_run todo ran now row later runs keeps drops agrees req q found is =
    let r = keeps.later req q found in
    ap (λ (s : Seen). due_prompt s q) (along_run now row later runs) ∙ sym (due_same (run_end (after now row) later) q r.after_ r.same.asks (drops req q r.after_ found r.found)) ∙ agrees req r.after_ r.found is

-- where no run is in front: what is due now
pub agree_other : (todo : ReqId → Option DocId) (ran : ReqId → Bool) (now : Seen) (later : List LogRow) → RunsNot later → AgreesNow todo ran now → Agrees todo ran now later
agree_other todo ran now later ends agrees req q found is =
    ap (λ (s : Seen). due_prompt s q) (ap (λ (rows : List LogRow). fold after now rows) ends) ∙ agrees req q found is

-- where none was noted while its run lasts, there is nothing to agree
pub agree_none : (todo : ReqId → Option DocId) (now : Seen) (later : List LogRow) → Agrees todo none_ran now later
agree_none todo now later req q found is = cc

-- more is noted while it lasts
pub agree_more : (start : Seen) (todo : ReqId → Option DocId) (ran : ReqId → Bool) (new : ReqId → Option DocId) (runs : ReqId → Bool) (now : Seen) (later : List LogRow) → NotesMore start todo ran new runs now → Agrees new runs now later → Agrees todo ran now later
agree_more start todo ran new runs now later notes agrees req q found is =
    let kept = notes.kept req is in agrees req q found kept.0 ∙ kept.1
