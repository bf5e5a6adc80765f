-- When a load is dropped for another request: each cause as it is read at the end of the event; and for a request that took its navigable's last entries.
-- HTML Standard, "navigate" (an ongoing navigation gives way) and "destroy a child navigable"; the exact causes are this project's own.
use Rattle.log_model.specs.Causes.{any_displaced, changed_one_of}
use Rattle.log_model.specs.Equal.{has_req}
use Rattle.log_model.specs.History.{has_nav, has_row}
use Rattle.log_model.specs.Places.{aim_of, has_passed, is_traversal, stands, way_to}
use Rattle.log_model.specs.Points.{had_ended, had_started, is_accepted_here}
use Rattle.log_model.specs.Seen.{Asked, Place, Seen, place_of, request_of}
use Rattle.log_model.specs.declared.request.Mode.{Mode}
use Rattle.seen_laws.specs.Blocks.{Here, point_at}
use Rattle.std.specs.List.{list_any}
use Rattle.std.specs.Prelude.{List, None, Some, [], false, not, true, ℕ, ◌<◌, ◌≡◌}
use Rattle.tab_ids.specs.declared.NavId.{NavId}
use Rattle.tab_ids.specs.declared.ReqId.{ReqId}
use Rattle.log_model.specs.declared.request.Request.TheVariants as requests

-- the request is this load of the navigable, and the other one is there as the event ends
pub record IsLoadBy (h : Here) (e : Seen) (req by : ReqId) (nav : NavId) (q r : Asked) : Type 0 where
  pub at : request_of h.now req ≡ Some q
  pub mode : Mode
  pub address : List ℕ
  pub what : q.what ≡ requests.Load nav mode address
  pub other : request_of e by ≡ Some r

-- a later load of the same navigable, which began in this event
pub record IsReplacedBy (h : Here) (nav : NavId) (q r : Asked) : Type 0 where
  pub mode : Mode
  pub address : List ℕ
  pub what : r.what ≡ requests.Load nav mode address
  pub later : q.nr.0 < r.nr.0
  pub began : r.is_started ≡ true
  pub begins_here : had_started (point_at h []) r.nr ≡ false

-- a traversal that has passed, and hadn't ended before this event: the navigable, or one above, isn't shown or doesn't stand where it leads
pub record IsMovedBy (h : Here) (e : Seen) (nav : NavId) (r : Asked) : Type 0 where
  pub traverses : is_traversal r.what ≡ true
  pub began : r.is_started ≡ true
  pub passed : has_passed e r ≡ true
  pub unended : had_ended (point_at h []) r.nr ≡ false
  pub displaced : any_displaced e (aim_of e) (way_to e nav) ≡ true

-- the last reload, or load with a new document, was of the navigable or one above, and since then not all have stood: one of these doesn't
pub record IsStillMovedBy (e : Seen) (nav : NavId) (r : Asked) : Type 0 where
  pub last : e.last_step ≡ Some r.nr
  pub unsettled : e.has_stood ≡ false
  pub changed : changed_one_of r (way_to e nav) ≡ true
  pub off : list_any (λ (n : NavId). not (stands e e.history.current n)) (way_to e nav) ≡ true

-- the load is accepted in this event, and the navigable, or one above, was added by the other request and no document was ever shown in it
pub record IsUnderAdder (h : Here) (e : Seen) (nav : NavId) (q r : Asked) : Type 0 where
  pub accepted : is_accepted_here (point_at h []) q.nr ≡ true
  pub above : NavId
  pub on_way : has_nav (way_to e nav) above ≡ true
  pub place : Place
  pub placed : place_of e above ≡ Some place
  pub unshown : place.was_activated ≡ false
  pub added : place.added_by ≡ Some r.nr

-- the request is an open load whose navigable has no entry any more, since the other request's change took the last of them; it isn't held back
pub record IsLoadDestroyed (s : Seen) (req by : ReqId) (nav : NavId) (q : Asked) : Type 0 where
  pub at : request_of s req ≡ Some q
  pub open_ : q.ending ≡ None
  pub mode : Mode
  pub address : List ℕ
  pub what : q.what ≡ requests.Load nav mode address
  pub gone : has_row nav s.history.rows ≡ false
  pub place : Place
  pub placed : place_of s nav ≡ Some place
  pub taken : place.taken_by ≡ Some by
  pub unparked : has_req s.parked req ≡ false
