-- What the words of a row may tell of, one function for each table of the log's grammar and one for each of its longer lines.
-- This project's own.
use Rattle.std.specs.Prelude.{ℕ, List, codes, bytes_eq, Option, Some, None, if◌then◌else◌}
use Rattle.tab_ids.specs.declared.NavId.{NavId}
use Rattle.log_model.specs.declared.action.Action.TheVariants as actions
use Rattle.log_model.specs.declared.change.Change.{Change}
use Rattle.log_model.specs.declared.change.Change.TheVariants as changes
use Rattle.log_model.specs.declared.handler.Verdict.TheVariants as verdicts
use Rattle.log_model.specs.declared.job.Task.{Task}
use Rattle.log_model.specs.declared.job.Task.TheVariants as tasks
use Rattle.log_model.specs.declared.made.What.{What}
use Rattle.log_model.specs.declared.made.What.TheVariants as things
use Rattle.log_model.specs.declared.outcome.Cause.{Cause}
use Rattle.log_model.specs.declared.outcome.Cause.TheVariants as causes
use Rattle.log_model.specs.declared.outcome.Outcome.{Outcome}
use Rattle.log_model.specs.declared.outcome.Outcome.TheVariants as outcomes
use Rattle.log_model.specs.declared.request.Request.{Request}
use Rattle.log_model.specs.declared.request.Request.TheVariants as requests
use Rattle.log_reading.specs.Chain.{◌>>=◌}
use Rattle.log_reading.specs.Words.{Part}
use Rattle.log_reading.specs.Fields.{small_of, plain_of, plain_nav_of, step_of, epoch_of, nav_of, state_of, req_of, death_of, delta_of, entry_of, text_of, memo_of, reference_of, written_of, slot_of, leave_cause_of, mode_of, either_of}

-- ---- an accepted request

-- NAV MEMO, or NAV MEMO REF
unfoldable pub entry_fields : Part → Option (NavId × Option (List ℕ) × Option (List ℕ))
entry_fields part = do
  nav ← plain_nav_of part.a
  memo ← memo_of part.b
  reference ← reference_of part.c
  Some (nav, memo, reference)

-- NAV CHILD
unfoldable pub nav_and_child : Part → Option (NavId × NavId)
nav_and_child part = do
  nav ← plain_nav_of part.a
  child ← plain_nav_of part.b
  Some (nav, child)

unfoldable pub load_of : Part → Option Request
load_of part = do
  nav ← plain_nav_of part.a
  mode ← mode_of part.b
  address ← written_of part.c
  Some (requests.Load nav mode address)

unfoldable pub go_of : Part → Option Request
go_of part = delta_of part.a >>= λ delta. Some (requests.Go delta)

unfoldable pub reload_of : Part → Option Request
reload_of part = plain_nav_of part.a >>= λ nav. Some (requests.Reload nav)

unfoldable pub push_of : Part → Option Request
push_of part = entry_fields part >>= λ entry. Some (requests.Poke entry.0 (actions.Push entry.1 entry.2))

unfoldable pub replace_of : Part → Option Request
replace_of part = entry_fields part >>= λ entry. Some (requests.Poke entry.0 (actions.Replace entry.1 entry.2))

unfoldable pub fragment_of : Part → Option Request
fragment_of part = do
  nav ← plain_nav_of part.a
  text ← text_of part.b
  Some (requests.Poke nav (actions.Fragment text))

unfoldable pub frame_of : Part → Option Request
frame_of part = nav_and_child part >>= λ both. Some (requests.Poke both.0 (actions.AddFrame both.1))

unfoldable pub remove_of : Part → Option Request
remove_of part = nav_and_child part >>= λ both. Some (requests.Poke both.0 (actions.RemoveFrame both.1))

unfoldable pub docgo_of : Part → Option Request
docgo_of part = do
  nav ← plain_nav_of part.a
  delta ← delta_of part.b
  Some (requests.Poke nav (actions.Go delta))

unfoldable pub edit_of : Part → Option Request
edit_of part = plain_nav_of part.a >>= λ nav. Some (requests.Poke nav actions.Edit)

unfoldable pub request_of : Part → Option Request
request_of part =
    if bytes_eq part.name (codes "load") then load_of part
    else (if bytes_eq part.name (codes "go") then go_of part
    else (if bytes_eq part.name (codes "reload") then reload_of part
    else (if bytes_eq part.name (codes "push") then push_of part
    else (if bytes_eq part.name (codes "replace") then replace_of part
    else (if bytes_eq part.name (codes "fragment") then fragment_of part
    else (if bytes_eq part.name (codes "frame") then frame_of part
    else (if bytes_eq part.name (codes "remove") then remove_of part
    else (if bytes_eq part.name (codes "docgo") then docgo_of part
    else (if bytes_eq part.name (codes "edit") then edit_of part
    else None)))))))))

-- ---- a change of the history

unfoldable pub push_change : Part → Option Change
push_change part = do
  nav ← nav_of part.a
  entry ← entry_of part.b
  state ← state_of part.c
  memo ← memo_of part.d
  address ← written_of part.e
  Some (changes.Push nav entry state address memo)

unfoldable pub replace_change : Part → Option Change
replace_change part = do
  nav ← nav_of part.a
  over ← entry_of part.b
  entry ← entry_of part.c
  state ← state_of part.d
  memo ← memo_of part.e
  address ← written_of part.f
  Some (changes.Replace nav over entry state address memo)

unfoldable pub frame_change : Part → Option Change
frame_change part = do
  owner ← state_of part.a
  nav ← nav_of part.b
  entry ← entry_of part.c
  state ← state_of part.d
  Some (changes.AddFrame owner nav entry state)

unfoldable pub remove_change : Part → Option Change
remove_change part = nav_of part.a >>= λ nav. Some (changes.RemoveFrame nav)

unfoldable pub traverse_change : Part → Option Change
traverse_change part = step_of part.a >>= λ goal. Some (changes.Traverse goal)

unfoldable pub reload_change : Part → Option Change
reload_change part = nav_of part.a >>= λ nav. Some (changes.Reload nav)

unfoldable pub change_of : Part → Option Change
change_of part =
    if bytes_eq part.name (codes "push") then push_change part
    else (if bytes_eq part.name (codes "replace") then replace_change part
    else (if bytes_eq part.name (codes "frame") then frame_change part
    else (if bytes_eq part.name (codes "remove") then remove_change part
    else (if bytes_eq part.name (codes "traverse") then traverse_change part
    else (if bytes_eq part.name (codes "reload") then reload_change part
    else (if bytes_eq part.name (codes "edit") then Some changes.Edit
    else None))))))

-- ---- an order's task

unfoldable pub populate_task : Part → Option Task
populate_task part = do
  nav ← nav_of part.a
  state ← state_of part.b
  initial ← either_of (codes "initial") (codes "plain") part.c
  address ← written_of part.d
  Some (tasks.Populate nav state address initial)

unfoldable pub activate_task : Part → Option Task
activate_task part = do
  entry ← entry_of part.a
  epoch ← epoch_of part.b
  length ← plain_of part.c
  index ← plain_of part.d
  memo ← memo_of part.e
  address ← written_of part.f
  Some (tasks.Activate entry epoch length index memo address)

unfoldable pub update_task : Part → Option Task
update_task part = do
  length ← plain_of part.a
  index ← plain_of part.b
  Some (tasks.Update length index)

unfoldable pub ask_task : Part → Option Task
ask_task part = do
  slot ← small_of part.a
  cause ← leave_cause_of part.b
  Some (tasks.Ask slot cause)

unfoldable pub fragment_task : Part → Option Task
fragment_task part = do
  req ← req_of part.a
  mode ← mode_of part.b
  address ← written_of part.c
  Some (tasks.DoFragment req mode address)

unfoldable pub task_of : Part → Option Task
task_of part =
    if bytes_eq part.name (codes "populate") then populate_task part
    else (if bytes_eq part.name (codes "activate") then activate_task part
    else (if bytes_eq part.name (codes "update") then update_task part
    else (if bytes_eq part.name (codes "freeze") then Some tasks.Freeze
    else (if bytes_eq part.name (codes "discard") then Some tasks.Discard
    else (if bytes_eq part.name (codes "ask") then ask_task part
    else (if bytes_eq part.name (codes "fragment") then fragment_task part
    else None))))))

-- ---- how a finished order went

unfoldable pub populated_of : Part → Option Outcome
populated_of part = slot_of part.a >>= λ slot. Some (outcomes.Populated slot)

unfoldable pub outcome_of : Part → Option Outcome
outcome_of part =
    if bytes_eq part.name (codes "populated") then populated_of part
    else (if bytes_eq part.name (codes "activated") then Some outcomes.Activated
    else (if bytes_eq part.name (codes "updated") then Some outcomes.Updated
    else (if bytes_eq part.name (codes "frozen") then Some outcomes.Frozen
    else (if bytes_eq part.name (codes "discarded") then Some outcomes.Discarded
    else (if bytes_eq part.name (codes "leave") then Some (outcomes.Asked verdicts.Leave)
    else (if bytes_eq part.name (codes "prompt") then Some (outcomes.Asked verdicts.Prompt)
    else (if bytes_eq part.name (codes "fragmented") then Some outcomes.Fragmented
    else None)))))))

-- ---- what a document made

unfoldable pub push_thing : Part → Option What
push_thing part = do
  entry ← entry_of part.a
  memo ← memo_of part.b
  address ← written_of part.c
  Some (things.Push entry memo address)

unfoldable pub replace_thing : Part → Option What
replace_thing part = do
  over ← entry_of part.a
  entry ← entry_of part.b
  memo ← memo_of part.c
  address ← written_of part.d
  Some (things.Replace over entry memo address)

unfoldable pub frame_thing : Part → Option What
frame_thing part = nav_of part.a >>= λ nav. Some (things.AddFrame nav)

unfoldable pub remove_thing : Part → Option What
remove_thing part = nav_of part.a >>= λ nav. Some (things.RemoveFrame nav)

unfoldable pub go_thing : Part → Option What
go_thing part = delta_of part.a >>= λ delta. Some (things.Go delta)

unfoldable pub thing_of : Part → Option What
thing_of part =
    if bytes_eq part.name (codes "push") then push_thing part
    else (if bytes_eq part.name (codes "replace") then replace_thing part
    else (if bytes_eq part.name (codes "frame") then frame_thing part
    else (if bytes_eq part.name (codes "remove") then remove_thing part
    else (if bytes_eq part.name (codes "go") then go_thing part
    else (if bytes_eq part.name (codes "edit") then Some things.Edit
    else None)))))

-- ---- why a request was dropped

unfoldable pub by_cause : Part → Option Cause
by_cause part = req_of part.a >>= λ req. Some (causes.By req)

unfoldable pub destroyed_cause : Part → Option Cause
destroyed_cause part = req_of part.a >>= λ req. Some (causes.Destroyed req)

unfoldable pub gone_cause : Part → Option Cause
gone_cause part = death_of part.a >>= λ death. Some (causes.Gone death)

unfoldable pub cause_of : Part → Option Cause
cause_of part =
    if bytes_eq part.name (codes "stay") then Some causes.Stay
    else (if bytes_eq part.name (codes "by") then by_cause part
    else (if bytes_eq part.name (codes "destroyed") then destroyed_cause part
    else (if bytes_eq part.name (codes "gone") then gone_cause part
    else None)))
