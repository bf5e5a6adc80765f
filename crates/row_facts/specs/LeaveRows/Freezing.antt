-- When a document is frozen: later in the event its navigable, or one above it, is shown another document or loses its own.
-- HTML Standard, "deactivate a document for a cross-document navigation" and "apply the history step"; the exact causes are this project's own.
use Rattle.log_model.specs.ActsAtOnce.{is_for_passed}
use Rattle.log_model.specs.Orders.{displaces}
use Rattle.log_model.specs.Places.{shower_of, way_of}
use Rattle.log_model.specs.Seen.{Document, Place}
use Rattle.log_model.specs.declared.job.Job.{Job}
use Rattle.log_model.specs.declared.row_kind.LogRow.{LogRow}
use Rattle.seen_laws.specs.Blocks.{Here, point_at}
use Rattle.seen_laws.specs.Sending.{IsTo, is_passed}
use Rattle.std.specs.List.{list_any}
use Rattle.std.specs.Prelude.{List, None, Some, false, true, ◌≡◌}
use Rattle.log_model.specs.declared.job.Task.TheVariants as tasks

-- the order goes to a document without a handler that isn't frozen yet, and that a navigable was awake on as the event began
pub record IsFreezeDue (h : Here) (job : Job) (d : Document) : Type 0 where
  pub task : job.task ≡ tasks.Freeze
  pub to : IsTo h.now job d
  pub place : Place
  pub was_awake : shower_of h.start job.doc ≡ Some place
  pub unfrozen : d.is_frozen ≡ false
  pub unhandled : d.slot ≡ None
  -- what it is for has passed its unload check, and is the traversal that has passed, if there is one
  pub passed : is_passed h.now tasks.Freeze job.why ≡ true
  pub for_passed : is_for_passed h.now job ≡ true

-- a later row shows the place's navigable, or one above it, a document other than the one it was awake on as the event began, or discards a document of it
abbrev pub IsDisplacedLater : Here → Place → List LogRow → Type 0
IsDisplacedLater h place later = list_any (λ nav. list_any (displaces (point_at h later) nav) later) (way_of place) ≡ true
