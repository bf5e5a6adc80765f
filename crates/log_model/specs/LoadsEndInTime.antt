-- When ongoing loads end: a load doesn't outlive what takes its navigable away or changes it.
-- HTML Standard, "navigate" and "apply the history step": a traversal ends the ongoing navigations of what it changes. The moments are this project's own. No part of a legal log, but a promise of its own.
use Rattle.std.specs.Prelude.{Bool, true, false, not, ◌&&◌, ◌||◌, nat_lt, List, fold, is_some}
use Rattle.std.specs.List.{list_all}
use Rattle.tab_ids.specs.declared.NavId.{NavId}
use Rattle.tab_ids.specs.declared.ReqId.{ReqId}
use Rattle.log_model.specs.declared.change.Change.{Change}
use Rattle.log_model.specs.declared.change.Change.TheVariants as changes
use Rattle.log_model.specs.declared.job.Job.{Job}
use Rattle.log_model.specs.declared.job.Task.{Task}
use Rattle.log_model.specs.declared.job.Task.TheVariants as tasks
use Rattle.log_model.specs.declared.job.Why.{Why}
use Rattle.log_model.specs.declared.job.Why.TheVariants as whys
use Rattle.log_model.specs.declared.row_kind.LogRow.{LogRow}
use Rattle.log_model.specs.declared.row_kind.RowKind.{RowKind}
use Rattle.log_model.specs.declared.row_kind.RowKind.TheVariants as rows
use Rattle.log_model.specs.Equal.{holds, implies}
use Rattle.log_model.specs.History.{has_nav, has_row}
use Rattle.log_model.specs.Seen.{Seen, Document, Asked, document_of, request_of, place_of}
use Rattle.log_model.specs.After.{after}
use Rattle.log_model.specs.Places.{is_shown, has_target, is_below, is_below_known_lost, is_load, is_traversal, is_ongoing_load, passed_traversal, aim_of, way_to}
use Rattle.log_model.specs.Events.{AtEachEvent}
use Rattle.log_model.specs.Points.{nav_of_request}

-- the navigable of each ongoing load passes the test
abbrev pub each_load : Seen → (Asked → NavId → Bool) → Bool
each_load e test = list_all (λ (q : Asked). not (is_ongoing_load q) || holds (test q) (nav_of_request q.what)) e.requests

-- no load of the navigable, or of one below it, is ongoing
abbrev pub has_no_load_at : Seen → NavId → Bool
has_no_load_at e nav = each_load e (λ q loaded. not (has_nav (way_to e loaded) nav))

-- no load of one below the navigable that was accepted before the request is ongoing
abbrev pub has_no_earlier_load_below : Seen → ReqId → NavId → Bool
has_no_earlier_load_below e req nav =
    each_load e (λ (q : Asked) loaded. not (nat_lt q.nr.0 req.0 && holds (is_below nav) (place_of e loaded)))

-- no load of the navigable, or of one below it, that was accepted before the request is ongoing
abbrev pub has_no_earlier_load_at : Seen → ReqId → NavId → Bool
has_no_earlier_load_at e req nav =
    each_load e (λ (q : Asked) loaded. not (nat_lt q.nr.0 req.0 && has_nav (way_to e loaded) nav))

-- the order shows a document for a traversal
abbrev pub is_for_traversal : Seen → Why → Bool
is_for_traversal e (whys.Req req) = holds (λ (q : Asked). is_traversal q.what) (request_of e req)
is_for_traversal e _ = false

-- a navigable that is shown a document for a traversal has no load left, nor has one below it
abbrev pub ends_at_order : Seen → Job → Task → Bool
ends_at_order e job (tasks.Activate entry epoch length index memo address) =
    implies (is_for_traversal e job.why) (holds (λ (d : Document). has_no_load_at e d.nav) (document_of e job.doc))
ends_at_order e job _ = true

-- a load with a new document
abbrev pub is_begun_load : Seen → ReqId → Bool
is_begun_load e req = holds (λ (q : Asked). is_load q.what && q.is_started) (request_of e req)

-- an applied reload leaves no earlier load at or below its navigable, an applied load with a new document none below it
abbrev pub ends_at_change : Seen → ReqId → Change → Bool
ends_at_change e req (changes.Reload nav) = has_no_earlier_load_at e req nav
ends_at_change e req (changes.Push nav entry state address memo) =
    implies (is_begun_load e req) (has_no_earlier_load_below e req nav)
ends_at_change e req (changes.Replace nav over entry state address memo) =
    implies (is_begun_load e req) (has_no_earlier_load_below e req nav)
ends_at_change e req _ = true

-- what a row of the event ends, read as the event ends
abbrev pub ends_at_row : Seen → LogRow → Bool
ends_at_row e row = by_kind e row.row
  where
    by_kind : Seen → RowKind → Bool
    by_kind e (rows.Sent job) = ends_at_order e job job.task
    by_kind e (rows.Applied req change) = ends_at_change e req change
    by_kind e _ = true

-- while a passed traversal runs, each navigable on the way to that of an ongoing load is shown at the aim and was given its target there
abbrev pub is_on_untouched_way : Seen → NavId → Bool
is_on_untouched_way e nav = implies (is_some (passed_traversal e)) (list_all (is_untouched e) (way_to e nav))
  where
    is_untouched : Seen → NavId → Bool
    is_untouched e nav =
        is_shown e.history.rows (aim_of e) nav && holds (has_target e (aim_of e)) (place_of e nav)

-- the navigable of an ongoing load has a row, is shown at the aim, and has no known lost one above
abbrev pub may_be_loaded : Seen → NavId → Bool
may_be_loaded e nav =
    has_row nav e.history.rows && is_shown e.history.rows (aim_of e) nav
    && holds (λ place. not (is_below_known_lost e place)) (place_of e nav)
    && is_on_untouched_way e nav

-- as the event ends, the loads that its rows end are ended, and each ongoing load has a navigable that may be loaded
unfoldable pub loads_end : Seen → List LogRow → Bool
loads_end s event = by_end (fold after s event) event
  where
    by_end : Seen → List LogRow → Bool
    by_end e event = list_all (ends_at_row e) event && each_load e (λ q nav. may_be_loaded e nav)

-- at the end of each event the loads that had to end have ended
abbrev pub LoadsEndInTime : List LogRow → Type 0
LoadsEndInTime log = AtEachEvent loads_end log
