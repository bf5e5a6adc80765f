-- When a document is made: for the target of a shown navigable at the aim, where there is none.
-- HTML Standard, "attempt to populate the history entry's document"; numbers, processes and incarnations are this project's own.
use Rattle.log_model.specs.AfterRequests.{is_initial_state}
use Rattle.log_model.specs.History.{target_entry}
use Rattle.log_model.specs.Orders.{needs_document}
use Rattle.log_model.specs.Places.{aim_of, is_shown}
use Rattle.log_model.specs.Seen.{Seen}
use Rattle.log_model.specs.Suits.{is_home}
use Rattle.log_model.specs.declared.header.Header.{Header}
use Rattle.log_model.specs.declared.job.Job.{Job}
use Rattle.log_model.specs.declared.row.Row.{Row}
use Rattle.seen_laws.specs.Sending.{is_passed}
use Rattle.std.specs.Prelude.{Bool, List, Some, length, true, ℕ, ◌+◌, ◌≡◌}
use Rattle.tab_ids.specs.declared.NavId.{NavId}
use Rattle.tab_ids.specs.declared.StateId.{StateId}
use Rattle.log_model.specs.declared.job.Task.TheVariants as tasks

-- the order makes the next document, for the navigable's target at the aim, and no document of that state is there or being made
pub record IsMakeDue (header : Header) (s : Seen) (job : Job) (nav : NavId) (state : StateId) (address : List ℕ) (initial : Bool) : Type 0 where
  pub task : job.task ≡ tasks.Populate nav state address initial
  pub next : job.doc.0 ≡ length s.documents + 1
  pub target : Row
  pub at : target_entry s.history.rows nav (aim_of s) ≡ Some target
  pub state_is : target.state ≡ state
  pub address_is : target.address ≡ address
  pub shown : is_shown s.history.rows (aim_of s) nav ≡ true
  pub initial_is : is_initial_state s state ≡ initial
  pub needs : needs_document s nav state ≡ true
  pub home : is_home header s nav address job.proc ≡ true
  pub passed : is_passed s job.task job.why ≡ true
