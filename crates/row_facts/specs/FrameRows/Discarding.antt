-- When a document is discarded: its document state has no entry.
-- HTML Standard, "destroy a document" and "destroy a child navigable".
use Rattle.log_model.specs.After.{after}
use Rattle.log_model.specs.Checks.{is_settled_by}
use Rattle.log_model.specs.History.{has_state}
use Rattle.log_model.specs.Orders.{ongoing_load}
use Rattle.log_model.specs.Seen.{Asked, Document, Seen, request_of}
use Rattle.log_model.specs.declared.job.Job.{Job}
use Rattle.log_model.specs.declared.row_kind.LogRow.{LogRow}
use Rattle.seen_laws.specs.Sending.{IsTo}
use Rattle.std.specs.List.{list_all}
use Rattle.std.specs.Prelude.{None, Some, false, not, true, ◌≡◌}
use Rattle.tab_ids.specs.declared.ReqId.{ReqId}
use Rattle.log_model.specs.declared.job.Task.TheVariants as tasks
use Rattle.log_model.specs.declared.job.Why.TheVariants as whys

-- the order goes to a document without a handler, whose state has no entry and is no ongoing load's; it is for a request that is there
pub record IsDiscardDue (s : Seen) (job : Job) (d : Document) (by : ReqId) (r : Asked) : Type 0 where
  pub task : job.task ≡ tasks.Discard
  pub to : IsTo s job d
  pub gone : has_state d.state s.history.rows ≡ false
  pub unloaded : ongoing_load s d.state ≡ None
  pub unhandled : d.slot ≡ None
  pub why : job.why ≡ whys.Req by
  pub there : request_of s by ≡ Some r

-- the row settles no question
abbrev pub SettlesNone : Seen → LogRow → Type 0
SettlesNone s row = list_all (λ (q : Asked). not (is_settled_by s (after s row) q)) s.requests ≡ true
