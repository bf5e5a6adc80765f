-- What a request that begins and asks puts out, by the coordinator's tables, and what it leaves of them.
-- HTML Standard, "checking if unloading is canceled". That all are asked at once, numbers, processes and the table of checks are this project's own.
use Rattle.asking_facts.specs.Asking.{AreQuestions, begun_asking, checks_begun}
use Rattle.checking_facts.specs.Prompts.{told_by}
use Rattle.log_model.specs.Orders.{Question}
use Rattle.log_model.specs.Seen.{Seen}
use Rattle.log_model.specs.declared.job.Job.{Job}
use Rattle.log_model.specs.declared.job.Task.TheVariants as tasks
use Rattle.log_model.specs.declared.job.Why.TheVariants as whys
use Rattle.log_model.specs.declared.row_kind.RowKind.{RowKind}
use Rattle.std.specs.Option.{IsSome, option_map_or}
use Rattle.std.specs.Prelude.{All, List, Option, [], length, ℕ, ◌+◌, ◌++◌, ◌∷◌, ◌≡◌}
use Rattle.tab_doors.specs.Orders.{IsThere, numbered_order}
use Rattle.tab_doors.specs.Ties.{proc_in}
use Rattle.tab_doors.specs.declared.birth.Birth.{Birth}
use Rattle.tab_doors.specs.declared.tables.Tables.{Tables}
use Rattle.tab_ids.specs.declared.DocId.{DocId}
use Rattle.tab_ids.specs.declared.ProcId.{ProcId}
use Rattle.tab_ids.specs.declared.ReqId.{ReqId}
use Rattle.tab_ids.specs.declared.Step.{Step}

-- ---- whom it asks

-- the document of each question is in the log, neither discarded nor known to be dead, and its process is in the first incarnation
abbrev pub AreThere : Seen → List Question → Type 0
AreThere s questions = All (λ (question : Question). IsThere s question.0) questions

-- the table has the process of each question's document
abbrev pub HaveProcs : List (DocId × Birth) → List Question → Type 0
HaveProcs whose questions = All (λ (question : Question). IsSome (proc_in whose question.0)) questions

-- ---- the orders, by the tables

-- the process that the table has for a document that was made
abbrev pub proc_noted : List (DocId × Birth) → DocId → ProcId
proc_noted whose doc = option_map_or (λ (proc : ProcId). proc) (proc_in whose doc) (record { 0 = 0 })

-- the order with this number that asks the question for the request, to the process that the table has for its document
abbrev pub question_order : List (DocId × Birth) → ReqId → ℕ → Question → Job
question_order whose req number question =
    numbered_order number (proc_noted whose question.0) question.0 (whys.Req req) (tasks.Ask question.1 question.2)

-- those that ask these questions, one after the other, from this number on
abbrev pub question_orders : List (DocId × Birth) → ReqId → ℕ → List Question → List Job
question_orders whose req number [] = []
question_orders whose req number (question ∷ questions) =
    question_order whose req number question ∷ question_orders whose req (number + 1) questions

-- ---- what it leaves

-- the rows grew by the request that begins and then by an order for each question, as they are to be in the log so far
pub record HasBegunAsking (s : Seen) (req : ReqId) (goal : Option Step) (questions : List Question) (was now : List RowKind) : Type 0 where
  pub jobs : List Job
  pub are : AreQuestions s req questions jobs
  pub rows : now ≡ was ++ begun_asking req goal jobs

-- of the tables no more changed than that so many orders were counted
pub record HasCounted (orders : ℕ) (t u : Tables) : Type 0 where
  pub counted : length u.sent.items ≡ length t.sent.items + orders
  pub only : u ≡ record t { sent = u.sent }

-- an order was counted for each question, and the request's check has begun in a table that was told of the run that lasted before and of what the rows discarded; nothing else of the tables changed
pub record HasBegunCheck (ran : List DocId) (out : List RowKind) (req : ReqId) (questions : List Question) (t u : Tables) : Type 0 where
  pub counted : length u.sent.items ≡ length t.sent.items + length questions
  pub checks : u.checks ≡ checks_begun (told_by ran t.checks out) req questions
  pub only : u ≡ record t { sent = u.sent; checks = u.checks }
