-- What is so of each ongoing load as an event ends, and of whose navigables the event's rows leave unsettled.
-- HTML Standard, "navigate" and "apply the history step": a traversal ends the ongoing navigations of what it changes. The form is this project's own.
use Rattle.std.specs.Prelude.{◌≡◌, Bool, true, false, not, ◌&&◌, List}
use Rattle.std.specs.List.{list_all}
use Rattle.tab_ids.specs.declared.NavId.{NavId}
use Rattle.tab_ids.specs.declared.ReqId.{ReqId}
use Rattle.log_model.specs.Equal.{holds, implies}
use Rattle.log_model.specs.LoadsEndInTime.{each_load, is_begun_load, is_for_traversal}
use Rattle.log_model.specs.Places.{aim_of, has_arrived, is_below_known_lost, is_placed, stands, way_to}
use Rattle.log_model.specs.Seen.{Document, Seen, document_of, place_of}
use Rattle.log_model.specs.declared.change.Change.{Change}
use Rattle.log_model.specs.declared.job.Job.{Job}
use Rattle.log_model.specs.declared.job.Task.{Task}
use Rattle.log_model.specs.declared.row_kind.LogRow.{LogRow}
use Rattle.log_model.specs.declared.row_kind.RowKind.{RowKind}
use Rattle.log_model.specs.declared.change.Change.TheVariants as changes
use Rattle.log_model.specs.declared.job.Task.TheVariants as tasks
use Rattle.log_model.specs.declared.row_kind.RowKind.TheVariants as rows

-- ---- what is so of each ongoing load

-- the navigable, and each above it, is shown at the aim and stands there; none above it is known lost
abbrev pub is_reached : Seen → NavId → Bool
is_reached e nav =
    list_all (is_placed e (aim_of e)) (way_to e nav) && holds (λ place. not (is_below_known_lost e place)) (place_of e nav)

-- that of each ongoing load is so
abbrev pub LoadsStand : Seen → Type 0
LoadsStand e = each_load e (λ q nav. is_reached e nav) ≡ true

-- ---- what the event's rows leave unsettled

-- the navigable doesn't stand at the aim
abbrev pub is_off : Seen → NavId → Bool
is_off e nav = not (stands e (aim_of e) nav)

-- that which an order shows a document for a traversal doesn't stand
abbrev pub is_order_unsettled : Seen → Job → Task → Bool
is_order_unsettled e job (tasks.Activate entry epoch length index memo address) =
    implies (is_for_traversal e job.why) (holds (λ (d : Document). is_off e d.nav) (document_of e job.doc))
is_order_unsettled e job _ = true

-- that which is reloaded, or which a load gave a new document, doesn't stand
abbrev pub is_change_unsettled : Seen → ReqId → Change → Bool
is_change_unsettled e req (changes.Reload nav) = is_off e nav
is_change_unsettled e req (changes.Push nav entry state address memo) = implies (is_begun_load e req) (is_off e nav)
is_change_unsettled e req (changes.Replace nav over entry state address memo) = implies (is_begun_load e req) (is_off e nav)
is_change_unsettled e req _ = true

-- the navigable that the row moves by a traversal, a reload or a load doesn't stand as the event ends
abbrev pub is_row_unsettled : Seen → LogRow → Bool
is_row_unsettled e row = by_kind e row.row
  where
    by_kind : Seen → RowKind → Bool
    by_kind e (rows.Sent job) = is_order_unsettled e job job.task
    by_kind e (rows.Applied req change) = is_change_unsettled e req change
    by_kind e _ = true

-- so it is of each row of the event
abbrev pub AreUnsettled : Seen → List LogRow → Type 0
AreUnsettled e event = list_all (is_row_unsettled e) event ≡ true

-- ---- a navigable that is on its way

-- the navigable has a place, and its document isn't known to be shown
abbrev pub is_unarrived : Seen → NavId → Bool
is_unarrived s nav = holds (λ place. not (has_arrived place)) (place_of s nav)

-- the row opens no tab and takes no report
abbrev pub takes_no_report : LogRow → Bool
takes_no_report row = by_kind row.row
  where
    by_kind : RowKind → Bool
    by_kind (rows.Opened entry state doc proc slot address) = false
    by_kind (rows.Delivered proc) = false
    by_kind _ = true
