-- The event in which the coordinator takes a document's answer to a question, and what the table of unload checks is told of it.
-- HTML Standard, "checking if unloading is canceled"; orders, reports and the table are this project's own.
use Rattle.log_model.specs.Seen.{Seen, desk_of}
use Rattle.log_model.specs.declared.handler.Verdict.{Verdict}
use Rattle.log_model.specs.declared.job.Job.{Job}
use Rattle.log_model.specs.declared.job.Why.TheVariants as whys
use Rattle.log_model.specs.declared.made.Report.TheVariants as reports
use Rattle.log_model.specs.declared.outcome.Outcome.TheVariants as outcomes
use Rattle.log_model.specs.declared.row_kind.Actor.TheVariants as actors
use Rattle.log_model.specs.declared.row_kind.RowKind.TheVariants as rows
use Rattle.seen_laws.specs.InEvent.{InEvent}
use Rattle.std.specs.Prelude.{List, None, Some, slice_get, ◌≡◌}
use Rattle.tab_ids.specs.declared.ProcId.{ProcId}
use Rattle.tab_ids.specs.declared.ReqId.{ReqId}
use Rattle.unload_check.specs.Checks.{OpenCheck, after_answer, changed}

-- the first report of the process is the answer to the order of a question, of which nothing was made; it was asked for the request
pub record TellsAnswer (s : Seen) (proc : ProcId) (job : Job) (verdict : Verdict) (req : ReqId) : Type 0 where
  pub first : slice_get (desk_of s proc).reports 0 ≡ Some (reports.Done job (outcomes.Asked verdict) None)
  pub why : job.why ≡ whys.Req req

-- the coordinator takes it
pub record IsAnswer (e : InEvent) (proc : ProcId) (job : Job) (verdict : Verdict) (req : ReqId) : Type 0 where
  pub by_coord : e.actor ≡ actors.Coord
  pub own : e.own ≡ rows.Delivered proc
  pub tells : TellsAnswer e.start proc job verdict req

-- the table told of it
abbrev pub told_of : Job → Verdict → ReqId → List (ReqId × OpenCheck) → List (ReqId × OpenCheck)
told_of job verdict req checks = changed req (after_answer job.doc verdict) checks
