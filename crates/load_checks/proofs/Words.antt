-- The order that makes a load's document leaves requests and who is gone as they were: who may go on may still.
use Rattle.load_prompts.specs.Prompting.{MayGoOn}
use Rattle.log_model.specs.Checks.{lower_doc}
use Rattle.log_model.specs.Equal.{holds}
use Rattle.log_model.specs.Outcomes.{is_drop}
use Rattle.log_model.specs.Places.{has_passed_with, is_gone}
use Rattle.log_model.specs.Seen.{Asked, Asking, Seen}
use Rattle.log_model.specs.declared.handler.Verdict.TheVariants as verdicts
use Rattle.log_model.specs.declared.handler.Verdict.{Verdict}
use Rattle.seen_facts.proofs.Coord.Held.{fun_ext}
use Rattle.std.proofs.Common.{Bool, List, None, Option, ap, false, filter, map, not, true, ◌∙◌, ◌≡◌}
use Rattle.std.specs.Prelude.{fold, if◌then◌else◌}
use Rattle.tab_ids.specs.declared.DocId.{DocId}
use Rattle.tab_ids.specs.declared.ReqId.{ReqId}
use Rattle.unload_check.specs.Checks.{OpenCheck}

-- who may go on may, where the same documents are gone
pub goes_same : (s t : Seen) → ((doc : DocId) → is_gone t doc ≡ is_gone s doc) → (checks : List (ReqId × OpenCheck)) (req : ReqId) (q : Asked) → MayGoOn s checks req q → MayGoOn t checks req q
goes_same s t same checks req q may =
    record {
      passed = ap (λ (gone : DocId → Bool). has_passed_with gone q) gone ∙ may.passed;
      undue = ap due_by gone ∙ may.undue;
      unnoted = may.unnoted;
    }
  where
    gone : is_gone t ≡ is_gone s
    gone = fun_ext same

    is_prompt : Verdict → Bool
    is_prompt verdicts.Prompt = true
    is_prompt verdicts.Leave = false

    due_by : (DocId → Bool) → Option DocId
    due_by away =
        if holds is_drop q.ending then None else fold lower_doc None (filter (λ doc. not (away doc)) (map (λ (asking : Asking). asking.doc) (filter (λ asking. holds is_prompt asking.verdict) q.asks)))
