-- What holds of checks, questions and prompts as an event begins.
-- HTML Standard, "checking if unloading is canceled". The table and its prompts are this project's own.
use Rattle.std.specs.Prelude.{◌≡◌, ◌⊎◌, true, false, List, Some}
use Rattle.std.specs.Option.{option_map_or}
use Rattle.tab_ids.specs.declared.DocId.{DocId}
use Rattle.tab_ids.specs.declared.ReqId.{ReqId}
use Rattle.log_model.specs.Equal.{holds}
use Rattle.log_model.specs.Outcomes.{is_drop}
use Rattle.log_model.specs.Places.{all_asked, is_gone}
use Rattle.log_model.specs.Seen.{Seen, Asked, request_of}
use Rattle.unload_check.specs.Checks.{OpenCheck, check_of, is_settled}
use Rattle.check_facts.specs.Checking.{AreChecksTied, AreSaid, AreTiedAt, GoWith, is_checking}
use Rattle.check_facts.specs.Prompting.{HaveNumbers, PromptedSettled}

-- the table has the checks that are open, each answer that was delivered is there, requests have their numbers, and who has a prompt is settled
pub record HasChecks (s : Seen) (table : List (ReqId × OpenCheck)) : Type 0 where
  pub tied : AreChecksTied s table
  pub said : AreSaid s
  pub numbered : HaveNumbers s
  pub prompted : PromptedSettled s

-- within an event: the check of a request is tied, or it is settled in the table, and the prompt that it notes is still to come
abbrev pub IsHeld : Seen → List (ReqId × OpenCheck) → ReqId → Asked → Type 0
IsHeld s table req q =
    AreTiedAt s (Some q) (check_of req table) ⊎ ((all_asked s q ≡ true) × (option_map_or is_settled (check_of req table) false ≡ true))

-- each request's is so
abbrev pub AreHeld : Seen → List (ReqId × OpenCheck) → Type 0
AreHeld s table = (req : ReqId) (q : Asked) → request_of s req ≡ Some q → IsHeld s table req q

-- each request with an open question is in a check, or was dropped
abbrev pub OpenChecked : Seen → Type 0
OpenChecked s =
    (req : ReqId) (q : Asked) → request_of s req ≡ Some q → all_asked s q ≡ false → is_checking s q ≡ false → holds is_drop q.ending ≡ true

-- between two states, of the documents that were asked for a request these are gone more, and no others
abbrev pub AllGoWith : Seen → Seen → List DocId → Type 0
AllGoWith s t docs =
    (req : ReqId) (q : Asked) → request_of s req ≡ Some q → GoWith (is_gone s) (is_gone t) docs q.asks
