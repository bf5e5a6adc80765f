-- The questions that wait: each order that asks is one of its request's questions and has no answer, until a report tells the answer.
-- HTML Standard, "checking if unloading is canceled"; orders, reports and their numbers are this project's own.
use Rattle.std.specs.Prelude.{◌≡◌, ℕ, ◌+◌, ◌≤◌, ◌<◌, Bool, true, false, ◌==◌, List, [], ◌∷◌, Option, Some, None, if◌then◌else◌}
use Rattle.std.specs.List.{list_any}
use Rattle.tab_ids.specs.declared.JobId.{JobId}
use Rattle.tab_ids.specs.declared.ProcId.{ProcId}
use Rattle.tab_ids.specs.declared.ReqId.{ReqId}
use Rattle.log_model.specs.declared.handler.Verdict.{Verdict}
use Rattle.log_model.specs.declared.job.Job.{Job}
use Rattle.log_model.specs.declared.job.Order.{Order}
use Rattle.log_model.specs.declared.job.Task.{Task}
use Rattle.log_model.specs.declared.job.Task.TheVariants as tasks
use Rattle.log_model.specs.declared.job.Why.TheVariants as whys
use Rattle.log_model.specs.declared.made.Report.{Report}
use Rattle.log_model.specs.declared.made.Report.TheVariants as reports
use Rattle.log_model.specs.declared.outcome.Outcome.{Outcome}
use Rattle.log_model.specs.declared.outcome.Outcome.TheVariants as outcomes
use Rattle.log_model.specs.declared.row_kind.RowKind.{RowKind}
use Rattle.log_model.specs.declared.row_kind.RowKind.TheVariants as rows
use Rattle.log_model.specs.Orders.{Question}
use Rattle.log_model.specs.Outcomes.{is_outcome_of}
use Rattle.log_model.specs.Seen.{Asked, Asking, Desk, Seen, desk_of, request_of}
use Rattle.seen_laws.proofs.Sums.{over}
use Rattle.seen_facts.specs.Each.Items.{Each}
use Rattle.check_facts.specs.Checking.{AreOneEach}

-- ---- one order

-- of these questions, that of the order has this answer, or none
abbrev pub SaysOf : JobId → Option Verdict → List Asking → Type 0
SaysOf job said [] = Unit {0}
SaysOf job said (asking ∷ asks) = ((asking.job.0 == job.0) ≡ true → asking.verdict ≡ said) × SaysOf job said asks

-- the order is among them
abbrev pub is_asked_by : JobId → List Asking → Bool
is_asked_by job asks = list_any (λ (asking : Asking). asking.job.0 == job.0) asks

-- the order is a question of the request, the only one to its document, and has this answer
pub record IsWaiting (s : Seen) (job : Job) (said : Option Verdict) (req : ReqId) : Type 0 where
  pub q : Asked
  pub at : request_of s req ≡ Some q
  pub there : is_asked_by job.nr q.asks ≡ true
  pub one : AreOneEach job.nr job.doc q.asks
  pub says : SaysOf job.nr said q.asks

-- of whichever request it is, and it was numbered
pub record Waits (s : Seen) (job : Job) (said : Option Verdict) : Type 0 where
  pub numbered : job.nr.0 ≤ s.jobs
  pub each : (req : ReqId) → job.why ≡ whys.Req req → IsWaiting s job said req

-- ---- all that a process has

-- an order that asks has no answer yet
abbrev pub OrderWaits : Seen → Job → Task → Type 0
OrderWaits s job (tasks.Ask slot cause) = Waits s job None
OrderWaits s job _ = Unit {0}

abbrev pub JobWaits : Seen → Job → Type 0
JobWaits s job = OrderWaits s job job.task

abbrev pub HandWaits : Seen → Option Order → Type 0
HandWaits s None = Unit {0}
HandWaits s (Some order) = JobWaits s order.job

-- a report of an answer tells the answer of its order
abbrev pub EndWaits : Seen → Job → Outcome → Type 0
EndWaits s job (outcomes.Asked verdict) = Waits s job (Some verdict)
EndWaits s job _ = Unit {0}

abbrev pub ReportWaits : Seen → Report → Type 0
ReportWaits s (reports.Done job outcome made) = EndWaits s job outcome
ReportWaits s _ = Unit {0}

pub record DeskWaits (s : Seen) (desk : Desk) : Type 0 where
  pub mail : Each (JobWaits s) desk.mail
  pub hand : HandWaits s desk.in_hand
  pub reports : Each (ReportWaits s) desk.reports

-- ---- the numbers of orders

-- how often the number is among these orders, and in hand
abbrev pub times_in : ℕ → List Job → ℕ
times_in n [] = 0
times_in n (job ∷ jobs) = (if job.nr.0 == n then 1 else 0) + times_in n jobs

abbrev pub times_in_hand : ℕ → Option Order → ℕ
times_in_hand n None = 0
times_in_hand n (Some order) = if order.job.nr.0 == n then 1 else 0

abbrev pub times_at : ℕ → Desk → ℕ
times_at n desk = times_in_hand n desk.in_hand + times_in n desk.mail

-- each order that isn't finished is in one place, and was numbered
pub record AreApart (s : Seen) : Type 0 where
  pub once : (n : ℕ) → over (times_at n) s.desks ≤ 1
  pub numbered : (n : ℕ) → s.jobs < n → over (times_at n) s.desks ≡ 0

-- ---- all of it

-- the numbers of a request's questions are those of orders that were sent
abbrev pub AreSent : Seen → Type 0
AreSent s = (req : ReqId) (q : Asked) → request_of s req ≡ Some q → Each (λ (asking : Asking). asking.job.0 ≤ s.jobs) q.asks

pub record QuestionsWait (s : Seen) : Type 0 where
  pub desks : (proc : ProcId) → DeskWaits s (desk_of s proc)
  pub apart : AreApart s
  pub sent : AreSent s

-- ---- what is asked of a row

-- a question has the next number, and is the first to its document for its request
pub record AsksFirst (s : Seen) (job : Job) : Type 0 where
  pub each : (req : ReqId) → job.why ≡ whys.Req req → (q : Asked) × (request_of s req ≡ Some q) × (list_any (λ (asking : Asking). asking.doc.0 == job.doc.0) q.asks ≡ false)

abbrev pub SendsFirst : Seen → Job → Task → Type 0
SendsFirst s job (tasks.Ask slot cause) = AsksFirst s job
SendsFirst s job _ = Unit {0}

-- an order ends with an outcome of its task
abbrev pub EndsSo : Option Order → Outcome → Type 0
EndsSo None outcome = Unit {0}
EndsSo (Some order) outcome = is_outcome_of order.job.task outcome ≡ true

abbrev pub GoesWaiting : Seen → RowKind → Type 0
GoesWaiting s (rows.Sent job) = (job.nr.0 ≡ s.jobs + 1) × SendsFirst s job job.task
GoesWaiting s (rows.Finished proc job outcome) = EndsSo (desk_of s proc).in_hand outcome
GoesWaiting s _ = Unit {0}

-- ---- a request that begins

-- no document is asked twice
abbrev pub AreApartDocs : List Question → Type 0
AreApartDocs [] = Unit {0}
AreApartDocs (question ∷ questions) =
    (list_any (λ (other : Question). question.0.0 == other.0.0) questions ≡ false) × AreApartDocs questions
