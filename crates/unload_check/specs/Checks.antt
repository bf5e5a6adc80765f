-- The unload checks of all requests, each beside its request's number.
-- HTML Standard, "Checking if unloading is canceled". One prompt for each request, and its choice of the lowest-numbered document, are this project's own.
use Rattle.std.specs.Prelude.{◌≡◌, ℕ, zero, suc, Bool, true, false, not, ◌&&◌, ◌||◌, ◌==◌, nat_lt, List, [], ◌∷◌, map, filter, fold, Option, Some, None, is_some, option_map, if◌then◌else◌}
use Rattle.std.specs.List.{list_any, list_all}
use Rattle.std.specs.Map.{lookup}
use Rattle.std.specs.Option.{option_map_or}
use Rattle.tab_ids.specs.declared.DocId.{DocId}
use Rattle.tab_ids.specs.declared.ReqId.{ReqId}
use Rattle.log_model.specs.declared.handler.Verdict.{Verdict}
use Rattle.log_model.specs.declared.handler.Verdict.TheVariants as verdicts
use Rattle.unload_check.specs.declared.asked_doc.AskedDoc.{AskedDoc}
use Rattle.unload_check.specs.declared.check.Check.{Check}
use Rattle.unload_check.specs.declared.check.Check.TheVariants as checks

-- the check of one request: the asked documents, and whether the user said to stay
pub record OpenCheck : Type 0 where
  pub asked : List AskedDoc
  pub stay : Option Bool

-- ---- one asked document

-- the same document
abbrev pub is_doc : DocId → DocId → Bool
is_doc a b = a.0 == b.0

-- asked, with no answer yet
abbrev pub newly_asked : DocId → AskedDoc
newly_asked doc = record { doc = doc; verdict = None; died = false }

-- it has answered or died
abbrev pub is_settled_doc : AskedDoc → Bool
is_settled_doc asked = is_some asked.verdict || asked.died

-- the answer is to prompt
abbrev pub is_prompt : Option Verdict → Bool
is_prompt None = false
is_prompt (Some verdicts.Leave) = false
is_prompt (Some verdicts.Prompt) = true

-- it lives and wants a prompt
abbrev pub wants_prompt : AskedDoc → Bool
wants_prompt asked = is_prompt asked.verdict && not asked.died

-- the document with its answer
abbrev pub answered_doc : DocId → Verdict → AskedDoc → AskedDoc
answered_doc doc verdict asked = if is_doc asked.doc doc then record asked { verdict = Some verdict } else asked

-- the document, dead where it is among those that died
abbrev pub dead_doc : List DocId → AskedDoc → AskedDoc
dead_doc docs asked = if list_any (is_doc asked.doc) docs then record asked { died = true } else asked

-- ---- the check of one request

-- a check begins with its asked documents
abbrev pub opened : List DocId → OpenCheck
opened docs = record { asked = map newly_asked docs; stay = None }

-- each asked document has answered or died
abbrev pub is_settled : OpenCheck → Bool
is_settled check = list_all is_settled_doc check.asked

-- the lower number of the two
abbrev pub lower_doc : Option DocId → DocId → DocId
lower_doc None doc = doc
lower_doc (Some lowest) doc = if nat_lt doc.0 lowest.0 then doc else lowest

-- the lowest so far of those that want a prompt
abbrev pub lowest_prompting : Option DocId → AskedDoc → Option DocId
lowest_prompting lowest asked = if wants_prompt asked then Some (lower_doc lowest asked.doc) else lowest

-- the lowest-numbered living document that wants a prompt
abbrev pub prompting_doc : List AskedDoc → Option DocId
prompting_doc asked = fold lowest_prompting None asked

-- what a settled check has come to, from the document that prompts and what the user said
abbrev pub decided : Option DocId → Option Bool → Check
decided None stay = checks.Go
decided (Some doc) None = checks.Prompt doc
decided (Some doc) (Some true) = checks.Stay
decided (Some doc) (Some false) = checks.Go

-- what a check has come to
abbrev pub outcome_of : OpenCheck → Check
outcome_of check = if is_settled check then decided (prompting_doc check.asked) check.stay else checks.Waiting

-- the outcome is a prompt
abbrev pub is_prompting : Check → Bool
is_prompting checks.Waiting = false
is_prompting (checks.Prompt doc) = true
is_prompting checks.Go = false
is_prompting checks.Stay = false

-- after an answer: of a check that isn't settled yet
abbrev pub after_answer : DocId → Verdict → OpenCheck → OpenCheck
after_answer doc verdict check =
    if is_settled check then check else record check { asked = map (answered_doc doc verdict) check.asked }

-- after deaths, which all count at once: of a check that isn't settled yet
abbrev pub after_deaths : List DocId → OpenCheck → OpenCheck
after_deaths docs check = if is_settled check then check else record check { asked = map (dead_doc docs) check.asked }

-- after the user's word: where the prompt is up
abbrev pub after_user : Bool → OpenCheck → OpenCheck
after_user stay check = if is_prompting (outcome_of check) then record check { stay = Some stay } else check

-- ---- all checks

-- the same request
abbrev pub is_req : ReqId → ReqId → Bool
is_req a b = a.0 == b.0

-- the check of a request
abbrev pub check_of : ReqId → List (ReqId × OpenCheck) → Option OpenCheck
check_of req checks = lookup (is_req req) checks

-- the outcome of a request's check
abbrev pub outcome_at : ReqId → List (ReqId × OpenCheck) → Option Check
outcome_at req checks = option_map outcome_of (check_of req checks)

-- a prompt of the request is up
abbrev pub is_prompt_up : ReqId → List (ReqId × OpenCheck) → Bool
is_prompt_up req checks = option_map_or is_prompting (outcome_at req checks) false

-- each other request has the check that it had
abbrev pub KeepsOthers : ReqId → List (ReqId × OpenCheck) → List (ReqId × OpenCheck) → Type 0
KeepsOthers req old new = (other : ReqId) → is_req other req ≡ false → check_of other new ≡ check_of other old

-- each check whose asked documents have all answered or died is as it was
abbrev pub KeepsSettled : List (ReqId × OpenCheck) → List (ReqId × OpenCheck) → Type 0
KeepsSettled old new =
    (req : ReqId) → option_map_or is_settled (check_of req old) false ≡ true → check_of req new ≡ check_of req old

-- the checks once a request has begun one: in the place of one that it had, or last
abbrev pub begun : ReqId → OpenCheck → List (ReqId × OpenCheck) → List (ReqId × OpenCheck)
begun req check [] = (req, check) ∷ []
begun req check (first ∷ rest) = if is_req req first.0 then (first.0, check) ∷ rest else first ∷ begun req check rest

-- the checks with a request's changed
abbrev pub changed : ReqId → (OpenCheck → OpenCheck) → List (ReqId × OpenCheck) → List (ReqId × OpenCheck)
changed req change [] = []
changed req change (first ∷ rest) =
    if is_req req first.0 then (first.0, change first.1) ∷ rest else first ∷ changed req change rest

-- the checks with the one at a place changed
abbrev pub changed_at : (OpenCheck → OpenCheck) → ℕ → List (ReqId × OpenCheck) → List (ReqId × OpenCheck)
changed_at change place [] = []
changed_at change zero (first ∷ rest) = (first.0, change first.1) ∷ rest
changed_at change (suc place) (first ∷ rest) = first ∷ changed_at change place rest

-- all checks after deaths
abbrev pub after_all_deaths : List DocId → List (ReqId × OpenCheck) → List (ReqId × OpenCheck)
after_all_deaths docs checks = map (λ check. (check.0, after_deaths docs check.1)) checks

-- the checks without a request's
abbrev pub ended : ReqId → List (ReqId × OpenCheck) → List (ReqId × OpenCheck)
ended req checks = filter (λ check. not (is_req req check.0)) checks
