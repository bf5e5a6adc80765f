-- When a load is refused as it is accepted.
-- HTML Standard, "navigate"; the reasons are this project's own.
use Rattle.log_model.specs.Causes.{denial_at_acceptance}
use Rattle.log_model.specs.Equal.{has_req}
use Rattle.log_model.specs.declared.outcome.Denial.{Denial}
use Rattle.log_model.specs.declared.request.Mode.{Mode}
use Rattle.seen_laws.specs.InEvent.{InEvent}
use Rattle.std.specs.Prelude.{List, None, Some, false, length, ℕ, ◌+◌, ◌≡◌}
use Rattle.tab_ids.specs.declared.NavId.{NavId}
use Rattle.tab_ids.specs.declared.ReqId.{ReqId}
use Rattle.log_model.specs.declared.request.Request.TheVariants as requests
use Rattle.log_model.specs.declared.row_kind.Actor.TheVariants as actors
use Rattle.log_model.specs.declared.row_kind.RowKind.TheVariants as rows

-- in this event the user asks for a load, by the next number, and there is that reason against it as the event begins
pub record IsDeniedLoad (e : InEvent) (req : ReqId) (reason : Denial) : Type 0 where
  -- it isn't in a check
  pub off : e.checking req ≡ false
  pub nav : NavId
  pub mode : Mode
  pub address : List ℕ
  pub by_user : e.actor ≡ actors.Ui
  pub own : e.own ≡ rows.Accepted req None (requests.Load nav mode address)
  pub next : req.0 ≡ length e.start.requests + 1
  pub reason_is : denial_at_acceptance e.start (requests.Load nav mode address) ≡ Some reason
  pub unparked : has_req e.start.parked req ≡ false
