-- When the document of a load is made: the load has begun and passed its unload check, and there is no document of its state.
-- HTML Standard, "attempt to populate the history entry's document"; numbers, processes and incarnations are this project's own.
use Rattle.log_model.specs.Equal.{holds}
use Rattle.log_model.specs.Orders.{needs_document, ongoing_load}
use Rattle.log_model.specs.Places.{has_passed, is_ongoing_load}
use Rattle.log_model.specs.Seen.{Asked, Seen, request_of}
use Rattle.log_model.specs.Suits.{is_home}
use Rattle.log_model.specs.declared.header.Header.{Header}
use Rattle.log_model.specs.declared.job.Job.{Job}
use Rattle.log_model.specs.declared.request.Mode.{Mode}
use Rattle.seen_laws.specs.Sending.{is_passed}
use Rattle.std.specs.Prelude.{Bool, List, Some, false, length, true, ℕ, ◌&&◌, ◌+◌, ◌==◌, ◌≡◌}
use Rattle.tab_ids.specs.declared.NavId.{NavId}
use Rattle.tab_ids.specs.declared.ReqId.{ReqId}
use Rattle.tab_ids.specs.declared.StateId.{StateId}
use Rattle.log_model.specs.declared.job.Task.TheVariants as tasks
use Rattle.log_model.specs.declared.request.Request.TheVariants as requests

-- the order makes the next document, for the ongoing load whose document state it is, at its navigable and address; no document of that state is there or being made
pub record IsMakeOfLoadDue (header : Header) (s : Seen) (job : Job) (nav : NavId) (state : StateId) (address : List ℕ) : Type 0 where
  pub task : job.task ≡ tasks.Populate nav state address false
  pub next : job.doc.0 ≡ length s.documents + 1
  pub q : Asked
  pub loads : ongoing_load s state ≡ Some q
  pub mode : Mode
  pub what : q.what ≡ requests.Load nav mode address
  pub checked : has_passed s q ≡ true
  pub needs : needs_document s nav state ≡ true
  pub home : is_home header s nav address job.proc ≡ true
  pub passed : is_passed s job.task job.why ≡ true

-- the request is the ongoing load whose document state it is
abbrev pub is_ongoing_of : StateId → Asked → Bool
is_ongoing_of state q = is_ongoing_load q && holds (λ (own : StateId). own.0 == state.0) q.state

-- no other request is an ongoing load with the document state
abbrev pub IsAloneWith : Seen → ReqId → StateId → Type 0
IsAloneWith s req state = (other : ReqId) (q : Asked) → (other.0 == req.0) ≡ false → request_of s other ≡ Some q → is_ongoing_of state q ≡ false
