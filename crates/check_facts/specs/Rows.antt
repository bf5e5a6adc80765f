-- The kinds of rows, by what they do to the questions of requests.
-- This project's own.
use Rattle.std.specs.Prelude.{◌≡◌, true, false, ◌&&◌, ◌==◌, List, [], ◌∷◌, Option, Some, is_some}
use Rattle.tab_ids.specs.declared.DocId.{DocId}
use Rattle.tab_ids.specs.declared.JobId.{JobId}
use Rattle.tab_ids.specs.declared.ReqId.{ReqId}
use Rattle.log_model.specs.declared.job.Job.{Job}
use Rattle.log_model.specs.declared.job.Task.{Task}
use Rattle.log_model.specs.declared.job.Task.TheVariants as tasks
use Rattle.log_model.specs.declared.job.Why.TheVariants as whys
use Rattle.log_model.specs.declared.made.Report.{Report}
use Rattle.log_model.specs.declared.made.Report.TheVariants as reports
use Rattle.log_model.specs.declared.outcome.Outcome.{Outcome}
use Rattle.log_model.specs.declared.outcome.Outcome.TheVariants as outcomes
use Rattle.log_model.specs.declared.row_kind.RowKind.{RowKind}
use Rattle.log_model.specs.declared.row_kind.RowKind.TheVariants as rows
use Rattle.log_model.specs.Checks.{was_asked}
use Rattle.log_model.specs.Equal.{has_doc, holds, implies}
use Rattle.log_model.specs.Events.{Point}
use Rattle.log_model.specs.Outcomes.{is_drop}
use Rattle.log_model.specs.Places.{shower_of}
use Rattle.log_model.specs.Seen.{Seen, Document, Asked, Asking, document_of, request_of}
use Rattle.check_facts.specs.Prompting.{has_settled}

-- a row that the coordinator puts out, or the own row of an event in which it works
abbrev pub IsOfCoord : RowKind → Type 0
IsOfCoord (rows.Accepted req doc what) = Unit {0}
IsOfCoord (rows.Started req goal) = Unit {0}
IsOfCoord (rows.Applied req change) = Unit {0}
IsOfCoord (rows.Refused req reason) = Unit {0}
IsOfCoord (rows.Dropped req cause) = Unit {0}
IsOfCoord (rows.Prompted req doc) = Unit {0}
IsOfCoord (rows.Answered req stay) = Unit {0}
IsOfCoord (rows.Sent job) = Unit {0}
IsOfCoord (rows.Delivered proc) = Unit {0}
IsOfCoord (rows.Evicted state) = Unit {0}
IsOfCoord _ = ⊥

-- the order is no question
abbrev pub IsNoQuestion : Task → Type 0
IsNoQuestion (tasks.Ask slot cause) = ⊥
IsNoQuestion _ = Unit {0}

-- the order is no question, and discards no document
abbrev pub IsServing : Task → Type 0
IsServing (tasks.Ask slot cause) = ⊥
IsServing tasks.Discard = ⊥
IsServing _ = Unit {0}

-- the outcome is no answer to a question
abbrev pub IsNoAnswerOf : Outcome → Type 0
IsNoAnswerOf (outcomes.Asked verdict) = ⊥
IsNoAnswerOf _ = Unit {0}

-- the report, if there is one, tells no answer
abbrev pub IsNoAnswer : Option Report → Type 0
IsNoAnswer (Some (reports.Done job outcome made)) = IsNoAnswerOf outcome
IsNoAnswer _ = Unit {0}

-- the request of the number wasn't dropped
abbrev pub IsUndropped : Seen → ReqId → Type 0
IsUndropped s req = (q : Asked) → request_of s req ≡ Some q → holds is_drop q.ending ≡ false

-- the request that the order is for, if it is for one, isn't settled
abbrev pub IsForUnsettled : Seen → Job → Type 0
IsForUnsettled s job =
    (req : ReqId) (q : Asked) → job.why ≡ whys.Req req → request_of s req ≡ Some q → has_settled s q ≡ false

-- the order makes a document or shows one: for a request it wants that this has passed its check
abbrev pub IsPassing : Task → Type 0
IsPassing (tasks.Populate nav state address initial) = Unit {0}
IsPassing (tasks.Activate entry epoch length index memo address) = Unit {0}
IsPassing _ = ⊥

-- the order tells a document something, asks it, or sends it to a fragment: no check reads it
abbrev pub IsUncheckedTask : Task → Type 0
IsUncheckedTask (tasks.Update length index) = Unit {0}
IsUncheckedTask (tasks.DoFragment req mode address) = Unit {0}
IsUncheckedTask (tasks.Ask slot cause) = Unit {0}
IsUncheckedTask _ = ⊥

-- a row that no check reads
abbrev pub IsUnchecked : RowKind → Type 0
IsUnchecked (rows.Delivered proc) = ⊥
IsUnchecked (rows.Applied req change) = ⊥
IsUnchecked (rows.Prompted req doc) = ⊥
IsUnchecked (rows.Sent job) = IsUncheckedTask job.task
IsUnchecked _ = Unit {0}

-- the document may be left for the request: it was asked for it, or it has no handler, or no navigable was awake on it, as the request began or as the event began
abbrev pub IsLeftDuly : Point → DocId → Asked → Type 0
IsLeftDuly p doc q =
    implies (has_doc q.awake_then doc && is_some (shower_of p.start doc) && holds (λ (d : Document). is_some d.slot) (document_of p.now doc)) (was_asked q doc) ≡ true

-- of these questions, no answer to that of the order was delivered
abbrev pub IsUndelivered : JobId → List Asking → Type 0
IsUndelivered job [] = Unit {0}
IsUndelivered job (asking ∷ asks) = ((asking.job.0 == job.0) ≡ true → asking.is_delivered ≡ false) × IsUndelivered job asks
