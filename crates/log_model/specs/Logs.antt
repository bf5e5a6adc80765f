-- What a log has come to, read from its rows: its history, and what waits in each process.
-- This project's own.
use Rattle.std.specs.Prelude.{Bool, not, ◌&&◌, ◌==◌, List, length, fold, Option, is_none, is_some, option_and_then, IsTrue}
use Rattle.std.specs.List.{list_all}
use Rattle.tab_ids.specs.declared.DocId.{DocId}
use Rattle.tab_ids.specs.declared.ProcId.{ProcId}
use Rattle.log_model.specs.declared.job.Job.{Job}
use Rattle.log_model.specs.declared.job.Order.{Order}
use Rattle.log_model.specs.declared.made.Report.{Report}
use Rattle.log_model.specs.declared.request.Poke.{Poke}
use Rattle.log_model.specs.declared.row_kind.LogRow.{LogRow}
use Rattle.log_model.specs.Equal.{holds}
use Rattle.log_model.specs.Outcomes.{is_drop}
use Rattle.log_model.specs.History.{History}
use Rattle.log_model.specs.Views.{View}
use Rattle.log_model.specs.Seen.{Seen, Document, Desk, Asked, nothing, document_of, desk_of}
use Rattle.log_model.specs.After.{after}

-- what a log has come to
unfoldable pub seen_of : List LogRow → Seen
seen_of log = fold after nothing log

-- its history: the applied changes, one after the other
abbrev pub history_of : List LogRow → History
history_of log = (seen_of log).history

-- the orders that wait in the mail of a process
abbrev pub mail_of : List LogRow → ProcId → List Job
mail_of log proc = (desk_of (seen_of log) proc).mail

-- the order that a process has in hand
abbrev pub in_hand_of : List LogRow → ProcId → Option Order
in_hand_of log proc = (desk_of (seen_of log) proc).in_hand

-- the pokes that wait in the input of a process
abbrev pub input_of : List LogRow → ProcId → List Poke
input_of log proc = (desk_of (seen_of log) proc).input

-- the reports of a process that the coordinator hasn't taken
abbrev pub reports_of : List LogRow → ProcId → List Report
reports_of log proc = (desk_of (seen_of log) proc).reports

-- nothing waits in the process
abbrev pub is_idle : Desk → Bool
is_idle desk = length desk.input == 0 && length desk.mail == 0 && is_none desk.in_hand && length desk.reports == 0

-- nothing is in transit
abbrev pub is_still : Seen → Bool
is_still s = list_all is_idle s.desks

-- the user is asked for the request, and neither answered nor was the request dropped
abbrev pub is_prompt_up : Asked → Bool
is_prompt_up q = is_some q.prompted && is_none q.answered && not (holds is_drop q.ending)

-- nothing is in transit and no prompt is up
abbrev pub is_quiet : Seen → Bool
is_quiet s = is_still s && list_all (λ q. not (is_prompt_up q)) s.requests

-- ---- readers of a log

-- nothing is in transit in the log
abbrev pub IsStill : List LogRow → Type 0
IsStill log = IsTrue (is_still (seen_of log))

-- nothing is in transit in the log, and no prompt is up
abbrev pub IsQuiet : List LogRow → Type 0
IsQuiet log = IsTrue (is_quiet (seen_of log))

-- the view of a document, while it is there
abbrev pub view_of : List LogRow → DocId → Option View
view_of log doc = option_and_then (λ (d : Document). d.view) (document_of (seen_of log) doc)

-- the documents kept for traversal, the one left last in front
abbrev pub kept_documents : List LogRow → List DocId
kept_documents log = (seen_of log).kept
