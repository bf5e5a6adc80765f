-- When a load begins: its navigable and all above it are shown and stand at the aim, it is no fragment navigation, and no earlier load of the navigable is ongoing.
-- HTML Standard, "navigate" and "navigate to a fragment"; that the ways up stand, and the moment, are this project's own.
use Rattle.log_model.specs.After.{after}
use Rattle.log_model.specs.Equal.{holds}
use Rattle.log_model.specs.Once.{has_no_earlier_load, loads}
use Rattle.log_model.specs.Orders.{due_questions, question_in}
use Rattle.log_model.specs.Places.{aim_of, given_row, is_awake, is_fragment_navigation, is_ongoing_load, is_placed, way_to}
use Rattle.log_model.specs.Points.{is_accepted_here}
use Rattle.log_model.specs.Seen.{Asked, Place, Seen, place_of, request_of}
use Rattle.log_model.specs.declared.request.Mode.{Mode}
use Rattle.log_model.specs.declared.row.Row.{Row}
use Rattle.log_model.specs.declared.row_kind.LogRow.{LogRow}
use Rattle.log_model.specs.declared.row_kind.RowKind.{RowKind}
use Rattle.seen_laws.specs.Blocks.{Here, point_at}
use Rattle.std.specs.List.{list_all}
use Rattle.std.specs.Prelude.{Bool, List, None, Some, [], false, filter_map, fold, nat_lt, not, true, ℕ, ◌&&◌, ◌==◌, ◌≡◌}
use Rattle.tab_ids.specs.declared.NavId.{NavId}
use Rattle.tab_ids.specs.declared.ReqId.{ReqId}
use Rattle.log_model.specs.declared.request.Request.TheVariants as requests
use Rattle.log_model.specs.declared.row_kind.RowKind.TheVariants as rows

-- the place is awake, and the address is a fragment navigation from the entry that it was given
abbrev pub is_to_fragment : Seen → List ℕ → Place → Bool
is_to_fragment s address place = is_awake place && holds (λ (row : Row). is_fragment_navigation row.address address) (given_row s place)

-- the load is open, was accepted in this event and hasn't begun; it may begin, and no document is to be asked for it
pub record IsLoadToBegin (h : Here) (req : ReqId) (nav : NavId) (mode : Mode) (address : List ℕ) (q : Asked) : Type 0 where
  pub at : request_of h.now req ≡ Some q
  pub number : q.nr ≡ req
  pub what : q.what ≡ requests.Load nav mode address
  pub open_ : q.ending ≡ None
  pub unstarted : q.is_started ≡ false
  pub accepted : is_accepted_here (point_at h []) req ≡ true
  pub placed : list_all (is_placed h.now (aim_of h.now)) (way_to h.now nav) ≡ true
  pub place : Place
  pub there : place_of h.now nav ≡ Some place
  pub anew : is_to_fragment h.now address place ≡ false
  pub unasked : due_questions h.now (requests.Load nav mode address) None ≡ []

-- what a load that begins asks of the rows after it: they ask no document for it, and leave no earlier load of the navigable ongoing
abbrev pub BeginsAlone : Here → LogRow → ReqId → NavId → List LogRow → Type 0
BeginsAlone h row req nav later = (filter_map (question_in req) later ≡ []) × (has_no_earlier_load (fold after (after h.now row) later) req nav ≡ true)

-- the request was accepted before the other one, and loads the navigable
abbrev pub is_earlier_load : ReqId → NavId → Asked → Bool
is_earlier_load req nav q = nat_lt q.nr.0 req.0 && loads nav q.what

-- the request isn't an ongoing load of the navigable that was accepted before the other one
abbrev pub is_out_of_way : ReqId → NavId → Asked → Bool
is_out_of_way req nav q = not (is_ongoing_load q && nat_lt q.nr.0 req.0 && loads nav q.what)

-- the row begins no request, or one that is no earlier load of the navigable
abbrev pub begins_no_earlier : Seen → ReqId → NavId → RowKind → Bool
begins_no_earlier s req nav (rows.Started r goal) = not (holds (is_earlier_load req nav) (request_of s r))
begins_no_earlier s req nav _ = true

-- no request begins with the row
abbrev pub begins_none : LogRow → Bool
begins_none row = by_kind row.row
  where
    by_kind : RowKind → Bool
    by_kind (rows.Started r goal) = false
    by_kind _ = true

-- no earlier load of the navigable is ongoing, but for that of one number
abbrev pub HasNoOther : Seen → ReqId → NavId → ReqId → Type 0
HasNoOther s req nav old = (other : ReqId) (q : Asked) → (other.0 == old.0) ≡ false → request_of s other ≡ Some q → is_out_of_way req nav q ≡ true
