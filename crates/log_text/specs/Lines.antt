-- The text of a log: a line for each row, and the words of each line.
-- This project's own.
use Rattle.std.specs.Prelude.{ℕ, Bool, true, false, List, [], ◌∷◌, ◌++◌, flat_map, codes, decimal, Option, Some, None}
use Rattle.std.specs.Fmt.{signed_decimal}
use Rattle.tab_ids.specs.declared.Step.{Step}
use Rattle.log_model.specs.declared.action.Action.{Action}
use Rattle.log_model.specs.declared.action.Action.TheVariants as actions
use Rattle.log_model.specs.declared.change.Change.{Change}
use Rattle.log_model.specs.declared.change.Change.TheVariants as changes
use Rattle.log_model.specs.declared.job.Task.{Task}
use Rattle.log_model.specs.declared.job.Task.TheVariants as tasks
use Rattle.log_model.specs.declared.made.What.{What}
use Rattle.log_model.specs.declared.made.What.TheVariants as things
use Rattle.log_model.specs.declared.outcome.Cause.{Cause}
use Rattle.log_model.specs.declared.outcome.Cause.TheVariants as causes
use Rattle.log_model.specs.declared.outcome.Outcome.{Outcome}
use Rattle.log_model.specs.declared.outcome.Outcome.TheVariants as outcomes
use Rattle.log_model.specs.declared.request.Request.{Request}
use Rattle.log_model.specs.declared.request.Request.TheVariants as requests
use Rattle.log_model.specs.declared.row_kind.LogRow.{LogRow}
use Rattle.log_model.specs.declared.row_kind.RowKind.{RowKind}
use Rattle.log_model.specs.declared.row_kind.RowKind.TheVariants as rows
use Rattle.log_text.specs.Spellings.{nav_name, entry_name, state_name, doc_name, proc_name, req_name, job_name, death_name, memo_name, slot_name, poked_name, actor_name, why_name, denial_name, leave_cause_name, verdict_name, mode_name, answer_name, initial_name, dirty_name}

-- ---- an accepted request, in the words of a scenario's line

-- a reference, where there is one
abbrev pub reference_words : Option (List ℕ) → List (List ℕ)
reference_words (Some reference) = reference ∷ []
reference_words None = []

-- what the document of a navigable is to do
abbrev pub action_words : ℕ → Action → List (List ℕ)
action_words nav (actions.Push memo reference) = codes "push" ∷ decimal nav ∷ memo_name memo ∷ reference_words reference
action_words nav (actions.Replace memo reference) = codes "replace" ∷ decimal nav ∷ memo_name memo ∷ reference_words reference
action_words nav (actions.Fragment text) = codes "fragment" ∷ decimal nav ∷ text ∷ []
action_words nav (actions.AddFrame child) = codes "frame" ∷ decimal nav ∷ decimal child.0 ∷ []
action_words nav (actions.RemoveFrame child) = codes "remove" ∷ decimal nav ∷ decimal child.0 ∷ []
action_words nav (actions.Go delta) = codes "docgo" ∷ decimal nav ∷ signed_decimal delta ∷ []
action_words nav actions.Edit = codes "edit" ∷ decimal nav ∷ []

-- a request, as the line of a scenario that asks for it; its navigables are plain numbers
abbrev pub request_words : Request → List (List ℕ)
request_words (requests.Load nav mode address) = codes "load" ∷ decimal nav.0 ∷ mode_name mode ∷ address ∷ []
request_words (requests.Go delta) = codes "go" ∷ signed_decimal delta ∷ []
request_words (requests.Reload nav) = codes "reload" ∷ decimal nav.0 ∷ []
request_words (requests.Poke nav action) = action_words nav.0 action

-- ---- what a row tells of

-- a change of the history; a traversal with its aim at that moment
abbrev pub change_words : Change → List (List ℕ)
change_words (changes.Push nav entry state address memo) =
    codes "push" ∷ nav_name nav ∷ entry_name entry ∷ state_name state ∷ memo_name memo ∷ address ∷ []
change_words (changes.Replace nav over entry state address memo) =
    codes "replace" ∷ nav_name nav ∷ entry_name over ∷ entry_name entry ∷ state_name state ∷ memo_name memo ∷ address ∷ []
change_words (changes.AddFrame owner nav entry state) =
    codes "frame" ∷ state_name owner ∷ nav_name nav ∷ entry_name entry ∷ state_name state ∷ []
change_words (changes.RemoveFrame nav) = codes "remove" ∷ nav_name nav ∷ []
change_words (changes.Traverse goal) = codes "traverse" ∷ decimal goal.0 ∷ []
change_words (changes.Reload nav) = codes "reload" ∷ nav_name nav ∷ []
change_words changes.Edit = codes "edit" ∷ []

-- what an order asks of a document
abbrev pub task_words : Task → List (List ℕ)
task_words (tasks.Populate nav state address initial) =
    codes "populate" ∷ nav_name nav ∷ state_name state ∷ initial_name initial ∷ address ∷ []
task_words (tasks.Activate entry epoch length index memo address) =
    codes "activate" ∷ entry_name entry ∷ decimal epoch.0 ∷ decimal length ∷ decimal index ∷ memo_name memo ∷ address ∷ []
task_words (tasks.Update length index) = codes "update" ∷ decimal length ∷ decimal index ∷ []
task_words tasks.Freeze = codes "freeze" ∷ []
task_words tasks.Discard = codes "discard" ∷ []
task_words (tasks.Ask slot cause) = codes "ask" ∷ decimal slot ∷ leave_cause_name cause ∷ []
task_words (tasks.DoFragment req mode address) = codes "fragment" ∷ req_name req ∷ mode_name mode ∷ address ∷ []

-- how a finished order went; of an asked document only its answer
abbrev pub outcome_words : Outcome → List (List ℕ)
outcome_words (outcomes.Populated slot) = codes "populated" ∷ slot_name slot ∷ []
outcome_words outcomes.Activated = codes "activated" ∷ []
outcome_words outcomes.Updated = codes "updated" ∷ []
outcome_words outcomes.Frozen = codes "frozen" ∷ []
outcome_words outcomes.Discarded = codes "discarded" ∷ []
outcome_words (outcomes.Asked verdict) = verdict_name verdict ∷ []
outcome_words outcomes.Fragmented = codes "fragmented" ∷ []

-- what a document made of an action
abbrev pub made_words : What → List (List ℕ)
made_words (things.Push entry memo address) = codes "push" ∷ entry_name entry ∷ memo_name memo ∷ address ∷ []
made_words (things.Replace over entry memo address) =
    codes "replace" ∷ entry_name over ∷ entry_name entry ∷ memo_name memo ∷ address ∷ []
made_words (things.AddFrame nav) = codes "frame" ∷ nav_name nav ∷ []
made_words (things.RemoveFrame nav) = codes "remove" ∷ nav_name nav ∷ []
made_words (things.Go delta) = codes "go" ∷ signed_decimal delta ∷ []
made_words things.Edit = codes "edit" ∷ []

-- why a request was dropped
abbrev pub cause_words : Cause → List (List ℕ)
cause_words causes.Stay = codes "stay" ∷ []
cause_words (causes.By req) = codes "by" ∷ req_name req ∷ []
cause_words (causes.Destroyed req) = codes "destroyed" ∷ req_name req ∷ []
cause_words (causes.Gone death) = codes "gone" ∷ death_name death ∷ []

-- a traversal's goal, where there is one
abbrev pub goal_words : Option Step → List (List ℕ)
goal_words (Some goal) = decimal goal.0 ∷ []
goal_words None = []

-- how an order was taken up: by a live incarnation of its process, whose document had unsaved edits or not, or in vain
abbrev pub taken_words : Bool → Bool → List (List ℕ)
taken_words true dirty = codes "live" ∷ dirty_name dirty ∷ []
taken_words false dirty = codes "void" ∷ []

-- ---- rows

-- what a row says
abbrev pub row_words : RowKind → List (List ℕ)
row_words (rows.Opened entry state doc proc slot address) =
    codes "opened" ∷ codes "n0" ∷ entry_name entry ∷ state_name state ∷ doc_name doc ∷ proc_name proc ∷ slot_name slot ∷ address ∷ []
row_words (rows.Accepted req doc what) = codes "accepted" ∷ req_name req ∷ poked_name doc ∷ request_words what
row_words (rows.Started req goal) = codes "started" ∷ req_name req ∷ goal_words goal
row_words (rows.Applied req change) = codes "applied" ∷ req_name req ∷ change_words change
row_words (rows.Refused req reason) = codes "refused" ∷ req_name req ∷ denial_name reason ∷ []
row_words (rows.Dropped req cause) = codes "dropped" ∷ req_name req ∷ cause_words cause
row_words (rows.Prompted req doc) = codes "prompted" ∷ req_name req ∷ doc_name doc ∷ []
row_words (rows.Answered req stay) = codes "answered" ∷ req_name req ∷ answer_name stay ∷ []
row_words (rows.Sent job) =
    codes "sent" ∷ job_name job.nr ∷ proc_name job.proc ∷ decimal job.incarnation ∷ doc_name job.doc ∷ why_name job.why ∷ task_words job.task
row_words (rows.Taken proc job live dirty) = codes "taken" ∷ proc_name proc ∷ job_name job ∷ taken_words live dirty
row_words (rows.Finished proc job outcome) = codes "finished" ∷ proc_name proc ∷ job_name job ∷ outcome_words outcome
row_words (rows.Made proc made) =
    codes "made" ∷ proc_name proc ∷ req_name made.req ∷ doc_name made.doc ∷ decimal made.epoch.0 ∷ made_words made.what
row_words (rows.Delivered proc) = codes "delivered" ∷ proc_name proc ∷ []
row_words (rows.Killed proc death) = codes "killed" ∷ proc_name proc ∷ death_name death ∷ []
row_words (rows.Evicted state) = codes "evicted" ∷ state_name state ∷ []

-- ---- lines

-- the line feed with which each line ends
abbrev pub line_end : List ℕ
line_end = 10 ∷ []

-- words that stand after something, each after a space
abbrev pub spaced : List (List ℕ) → List ℕ
spaced words = flat_map (λ word. codes " " ++ word) words

-- the line of a row: the event's number, who acts, and what happened
abbrev pub line_of_row : LogRow → List ℕ
line_of_row row = decimal row.event ++ spaced (actor_name row.actor ∷ row_words row.row) ++ line_end

-- the text of a log
abbrev pub log_text : List LogRow → List ℕ
log_text log = flat_map line_of_row log
