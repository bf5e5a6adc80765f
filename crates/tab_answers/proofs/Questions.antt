-- The first report of a process that tells an answer is of a question: any other would be seen in the log without questions, where reports tell outcomes of their orders' tasks.
use Rattle.log_model.specs.Seen.{Desk, Seen, desk_of}
use Rattle.log_model.specs.declared.handler.Verdict.{Verdict}
use Rattle.log_model.specs.declared.job.Job.{Job}
use Rattle.log_model.specs.declared.job.Task.{Task}
use Rattle.log_model.specs.declared.job.Task.TheVariants as tasks
use Rattle.log_model.specs.declared.made.Made.{Made}
use Rattle.log_model.specs.declared.made.Report.{Report}
use Rattle.log_model.specs.declared.made.Report.TheVariants as reports
use Rattle.log_model.specs.declared.outcome.Outcome.TheVariants as outcomes
use Rattle.seen_facts.proofs.Each.Eaches.{each_first}
use Rattle.seen_facts.specs.Desk.Own.{AreDesksIn, IsReportIn}
use Rattle.seen_facts.specs.Transit.Orders.{IsOutcomeOf}
use Rattle.seen_laws.specs.Unasked.{is_question, no_answer, unasked}
use Rattle.std.proofs.Common.{Bool, List, None, Option, Some, [], ap, cond, false, refl, sym, true, ◌∙◌, ◌∷◌, ◌≡◌}
use Rattle.std.specs.List.{filter_map}
use Rattle.std.specs.Prelude.{slice_get}
use Rattle.tab_ids.specs.declared.ProcId.{ProcId}
use Rattle.tab_ids.specs.declared.ReqId.{ReqId}
use Rattle.unasked.proofs.Readings.{desk_read}

-- the first report is the first of those that are seen, if it is one
first_seen : (waiting : List Report) (first seen : Report) → slice_get waiting 0 ≡ Some first → no_answer first ≡ Some seen → slice_get (filter_map no_answer waiting) 0 ≡ Some seen
first_seen [] first seen at is = cc
first_seen (report ∷ waiting) first seen at is =
    let same : report ≡ first = cc in
    let its : no_answer report ≡ Some seen = ap no_answer same ∙ is in
    rw its refl

-- an answer is an outcome of a question alone
asks_alone : (task : Task) (verdict : Verdict) → IsOutcomeOf task (outcomes.Asked verdict) → is_question task ≡ true
asks_alone (tasks.Ask slot cause) verdict of = refl
asks_alone (tasks.Populate nav state address initial) verdict of = absurd of
asks_alone (tasks.Activate entry epoch long at memo address) verdict of = absurd of
asks_alone (tasks.Update long at) verdict of = absurd of
asks_alone tasks.Freeze verdict of = absurd of
asks_alone tasks.Discard verdict of = absurd of
asks_alone (tasks.DoFragment req mode address) verdict of = absurd of

pub is_of_question : (checking : ReqId → Bool) (s : Seen) → AreDesksIn (unasked checking s) → (proc : ProcId) (job : Job) (verdict : Verdict) (made : Option Made) → slice_get (desk_of s proc).reports 0 ≡ Some (reports.Done job (outcomes.Asked verdict) made) → is_question job.task ≡ true
is_of_question checking s desks proc job verdict made first = by_test (is_question job.task) refl
  where
    by_test : (b : Bool) → is_question job.task ≡ b → b ≡ true
    by_test true is = refl
    by_test false is =
        let seen : no_answer (reports.Done job (outcomes.Asked verdict) made) ≡ Some (reports.Done job (outcomes.Asked verdict) made) = ap (λ (b : Bool). let o : Option Report = cond b None (Some (reports.Done job (outcomes.Asked verdict) made)) in o) is in
        let there : slice_get (desk_of (unasked checking s) proc).reports 0 ≡ Some (reports.Done job (outcomes.Asked verdict) made) = ap (λ (d : Desk). slice_get d.reports 0) (desk_read checking s proc) ∙ first_seen (desk_of s proc).reports (reports.Done job (outcomes.Asked verdict) made) (reports.Done job (outcomes.Asked verdict) made) first seen in
        let its = each_first (IsReportIn (unasked checking s).documents (unasked checking s).places proc) (desk_of (unasked checking s) proc).reports (reports.Done job (outcomes.Asked verdict) made) there (desks proc).told in
        sym is ∙ asks_alone job.task verdict its.1
