-- Which requests wait for an answer in a table of checks, and the prompts of those that the table has settled.
-- HTML Standard, "checking if unloading is canceled". The table, and one prompt for each request, are this project's own.
use Rattle.check_facts.specs.Prompting.{todo_of}
use Rattle.log_model.specs.declared.row_kind.RowKind.TheVariants as rows
use Rattle.log_model.specs.declared.row_kind.RowKind.{RowKind}
use Rattle.std.specs.Option.{option_map_or}
use Rattle.std.specs.Prelude.{Bool, List, Option, false, filter, filter_map, option_map, true, ◌&&◌}
use Rattle.tab_ids.specs.declared.DocId.{DocId}
use Rattle.tab_ids.specs.declared.ReqId.{ReqId}
use Rattle.unload_check.specs.Checks.{OpenCheck, check_of, is_settled, outcome_at}
use Rattle.unload_check.specs.declared.check.Check.TheVariants as checks
use Rattle.unload_check.specs.declared.check.Check.{Check}

-- ---- who waits

-- an asked document has neither answered nor died
abbrev pub is_open : Check → Bool
is_open checks.Waiting = true
is_open (checks.Prompt doc) = false
is_open checks.Go = false
is_open checks.Stay = false

-- the request's check waits for an answer
abbrev pub is_waiting : List (ReqId × OpenCheck) → ReqId → Bool
is_waiting table req = option_map_or is_open (outcome_at req table) false

-- those of these requests that wait, in their order
abbrev pub waiting_among : List (ReqId × OpenCheck) → List ReqId → List ReqId
waiting_among table among = filter (is_waiting table) among

-- ---- whom the table has settled

-- the request has a check of which each asked document has answered or died
abbrev pub is_settled_in : List (ReqId × OpenCheck) → ReqId → Bool
is_settled_in table req = option_map_or is_settled (check_of req table) false

-- it waited in the one table, and is settled in the other
abbrev pub is_settled_since : List (ReqId × OpenCheck) → List (ReqId × OpenCheck) → ReqId → Bool
is_settled_since before told req = is_waiting before req && is_settled_in told req

-- ---- the prompts

-- the row that asks the user about the request, for the sake of the document that the table notes
abbrev pub prompt_for : List (ReqId × OpenCheck) → ReqId → Option RowKind
prompt_for table req = option_map (λ (doc : DocId). rows.Prompted req doc) (todo_of table req)

-- those of these requests, in their order
abbrev pub prompts_for : List (ReqId × OpenCheck) → List ReqId → List RowKind
prompts_for table reqs = filter_map (prompt_for table) reqs
