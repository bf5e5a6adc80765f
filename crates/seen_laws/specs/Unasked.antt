-- What a log has come to, as it would be had nobody been asked: a request begins only as its unload check passes, no question is sent, answered or reported, and no document has a handler.
-- This project's own; of the HTML Standard, "checking if unloading is canceled".
use Rattle.std.specs.Prelude.{Bool, true, false, not, [], map, filter, filter_map, Option, Some, None, option_and_then, if◌then◌else◌}
use Rattle.tab_ids.specs.declared.ReqId.{ReqId}
use Rattle.log_model.specs.declared.job.Job.{Job}
use Rattle.log_model.specs.declared.job.Order.{Order}
use Rattle.log_model.specs.declared.job.Task.{Task}
use Rattle.log_model.specs.declared.job.Task.TheVariants as tasks
use Rattle.log_model.specs.declared.made.Report.{Report}
use Rattle.log_model.specs.declared.made.Report.TheVariants as reports
use Rattle.log_model.specs.declared.outcome.Outcome.{Outcome}
use Rattle.log_model.specs.declared.outcome.Outcome.TheVariants as outcomes
use Rattle.log_model.specs.Seen.{Seen, Asked, Desk, Document}

-- ---- orders and reports

-- the order asks its document
abbrev pub is_question : Task → Bool
is_question (tasks.Ask slot cause) = true
is_question _ = false

-- the order, unless it asks
abbrev pub no_question : Job → Option Job
no_question job = if is_question job.task then None else Some job

-- the order in hand, unless it asks
abbrev pub no_question_in_hand : Order → Option Order
no_question_in_hand order = if is_question order.job.task then None else Some order

-- an outcome that finds no handler
abbrev pub without_slot : Outcome → Outcome
without_slot (outcomes.Populated slot) = outcomes.Populated None
without_slot outcome = outcome

-- the report, unless it is of a question; it tells of no handler
abbrev pub no_answer : Report → Option Report
no_answer (reports.Done job outcome made) =
    if is_question job.task then None else Some (reports.Done job (without_slot outcome) made)
no_answer report = Some report

-- the desk of a process without questions and their answers
abbrev pub quiet_desk : Desk → Desk
quiet_desk desk =
    record desk {
      mail = filter (λ (job : Job). not (is_question job.task)) desk.mail;
      in_hand = option_and_then no_question_in_hand desk.in_hand;
      reports = filter_map no_answer desk.reports;
    }

-- ---- requests and documents

-- a request that asks nobody
abbrev pub without_asks : Asked → Asked
without_asks q = record q { asks = []; prompted = None; answered = None }

-- a request that hasn't begun
abbrev pub unbegun : Asked → Asked
unbegun q = record (without_asks q) { is_started = false; goal = None; state = None; replaces = false; awake_then = [] }

-- a request, of which these are in their check
abbrev pub unasked_request : (ReqId → Bool) → Asked → Asked
unasked_request checking q = if checking q.nr then unbegun q else without_asks q

-- a document without a handler
abbrev pub unhandled : Document → Document
unhandled d = record d { slot = None }

-- ---- the whole

-- what the log has come to, where these requests are in their check
abbrev pub unasked : (ReqId → Bool) → Seen → Seen
unasked checking s =
    record s {
      documents = map unhandled s.documents;
      desks = map quiet_desk s.desks;
      requests = map (unasked_request checking) s.requests;
      just_finished = option_and_then no_question s.just_finished;
    }
