-- How large the numbers are that a log has come to, beside the number of its events.
-- This project's own.
use Rattle.std.specs.Prelude.{◌≡◌, ℕ, ◌+◌, ◌≤◌, length, slice_get, Some}
use Rattle.tab_ids.specs.declared.ProcId.{ProcId}
use Rattle.log_model.specs.declared.job.Job.{Job}
use Rattle.log_model.specs.declared.job.Order.{Order}
use Rattle.log_model.specs.declared.job.Task.{Task}
use Rattle.log_model.specs.declared.job.Task.TheVariants as tasks
use Rattle.log_model.specs.Seen.{Seen, desk_of}

-- the index that an order tells; 0 where it tells none
abbrev pub told_index : Task → ℕ
told_index (tasks.Activate entry epoch length index memo address) = index
told_index (tasks.Update length index) = index
told_index _ = 0

-- no number of what a log has come to is beyond the number of its events
pub record AreFew (s : Seen) : Type 0 where
  -- each request was accepted by an event of its own, and the first event opened the tab
  pub requests : length s.requests + 1 ≤ s.events
  -- each entry but the first came with a request
  pub rows : length s.history.rows ≤ s.events
  -- an order that waits, or is in hand, told an index within the history as it was sent
  pub mail : (proc : ProcId) (i : ℕ) (job : Job) → slice_get (desk_of s proc).mail i ≡ Some job → told_index job.task ≤ s.events
  pub hand : (proc : ProcId) (order : Order) → (desk_of s proc).in_hand ≡ Some order → told_index order.job.task ≤ s.events
