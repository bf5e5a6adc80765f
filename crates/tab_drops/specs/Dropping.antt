-- Ongoing loads that give way: to the traversal that runs, where it moves their navigables, to a load that was applied above them, and to a change that took the last entries of their navigables.
-- HTML Standard, "navigate" and "Navigables" ("ongoing navigation"), "apply the history step" and "destroy a child navigable"; the moments and their order are this project's own.
use Rattle.tab_facts.specs.Frame.Lasting.{wish}
use Rattle.row_facts.specs.FrameRows.Lawful.{held_at_first}
use Rattle.seen_facts.specs.Hang.Members.{Has}
use Rattle.seen_facts.specs.LoadEnds.Standing.{is_reached}
use Rattle.seen_facts.specs.Load.Loading.{Look, is_ongoing, look_of}
use Rattle.log_model.specs.Causes.{nav_of_change}
use Rattle.log_model.specs.Equal.{has_req}
use Rattle.log_model.specs.History.{has_nav, has_row}
use Rattle.log_model.specs.Once.{loads}
use Rattle.log_model.specs.Places.{aim_of, is_below, is_ongoing_load, way_of}
use Rattle.log_model.specs.Seen.{Asked, Place, Seen, place_of, request_of}
use Rattle.log_model.specs.declared.change.Change.{Change}
use Rattle.log_model.specs.declared.job.Why.{Why}
use Rattle.log_model.specs.declared.outcome.Cause.{Cause}
use Rattle.log_model.specs.declared.row_kind.RowKind.{RowKind}
use Rattle.seen_facts.specs.Mover.Movers.{IsMovedBy}
use Rattle.seen_facts.proofs.Request.Readers.{SameReads}
use Rattle.seen_laws.specs.InEvent.{InEvent}
use Rattle.std.specs.Prelude.{List, Some, [], false, map, true, ◌++◌, ◌<◌, ◌∷◌, ◌≡◌, ◌⊎◌}
use Rattle.tab_ids.specs.declared.NavId.{NavId}
use Rattle.tab_ids.specs.declared.ReqId.{ReqId}
use Rattle.tab_moves.specs.Moving.{MayCause}
use Rattle.row_facts.specs.WalkRows.Since.{IsVisitedInNeed}
use Rattle.log_model.specs.declared.outcome.Cause.TheVariants as causes
use Rattle.log_model.specs.declared.row_kind.RowKind.TheVariants as rows

-- ---- ongoing loads, and whose navigables are away

-- the request is an ongoing load of the navigable
pub record IsLoadOf (s : Seen) (req : ReqId) (nav : NavId) : Type 0 where
  pub look : Look
  pub at : look_of s req ≡ Some look
  pub ongoing : is_ongoing look ≡ true
  pub loads_it : loads nav look.what ≡ true

-- the walk visits the navigable, or one above it, at the aim, and finds it in need
pub record IsUnsettled (s : Seen) (nav : NavId) : Type 0 where
  pub place : Place
  pub placed : place_of s nav ≡ Some place
  pub mover : NavId
  pub on_way : has_nav (way_of place) mover ≡ true
  pub own : Place
  pub there : place_of s mover ≡ Some own
  pub need : IsVisitedInNeed s own

-- the navigable has no entry
abbrev pub IsBare : Seen → NavId → Type 0
IsBare s nav = has_row nav s.history.rows ≡ false

-- the navigable of each ongoing load is shown and stands at the aim, with all above it, or is such a one
abbrev pub StandOr : (NavId → Type 0) → Seen → Type 0
StandOr Other s = (req : ReqId) (nav : NavId) → IsLoadOf s req nav → (is_reached s nav ≡ true) ⊎ Other nav

-- or it has no entry, as where a change has just taken the last ones
abbrev pub StandOrBare : Seen → Type 0
StandOrBare s = StandOr (IsBare s) s

-- or it, or one above it, is in need, as where a traversal has just begun
abbrev pub StandOrMove : Seen → Type 0
StandOrMove s = StandOr (λ (nav : NavId). IsUnsettled s nav ⊎ IsBare s nav) s

-- no ongoing load was held back as the event began
abbrev pub AreUnheld : InEvent → Seen → Type 0
AreUnheld e s = (req : ReqId) (nav : NavId) → IsLoadOf s req nav → has_req (held_at_first e) req ≡ false

-- the navigable is below the other one
pub record IsBelowNav (s : Seen) (top nav : NavId) : Type 0 where
  pub place : Place
  pub placed : place_of s nav ≡ Some place
  pub below : is_below top place ≡ true

-- the request is the last load with a new document that was applied, by a change of the navigable, which the walk visits and finds in need; not all have stood since
pub record IsLoadApplied (s : Seen) (nav : NavId) (by : ReqId) : Type 0 where
  pub mover : Asked
  pub found : request_of s by ≡ Some mover
  pub change : Change
  pub changed : mover.change ≡ Some change
  pub its : nav_of_change change ≡ Some nav
  pub last : s.last_step ≡ Some by
  pub unstood : s.has_stood ≡ false
  pub place : Place
  pub placed : place_of s nav ≡ Some place
  pub need : IsVisitedInNeed s place

-- the navigable of each ongoing load has a place
abbrev pub ArePlaced : Seen → Type 0
ArePlaced s = (req : ReqId) (nav : NavId) → IsLoadOf s req nav → (place : Place) × (place_of s nav ≡ Some place)

-- and has an entry
abbrev pub HaveEntries : Seen → Type 0
HaveEntries s = (req : ReqId) (nav : NavId) → IsLoadOf s req nav → has_row nav s.history.rows ≡ true

-- ---- what was put out

-- a request that is dropped, and the cause
pub record Drop : Type 0 where
  pub req : ReqId
  pub cause : Cause

-- its row
abbrev pub row_of_drop : Drop → RowKind
row_of_drop d = rows.Dropped d.req d.cause

-- each has a greater request number than the one before
abbrev pub AreRising : List Drop → Type 0
AreRising [] = Unit {0}
AreRising (d ∷ []) = Unit {0}
AreRising (d ∷ next ∷ more) = (d.req.0 < next.req.0) × AreRising (next ∷ more)

-- nothing but such drops was put out, in the order of the requests' numbers
pub record HasOnlyDropped (Is : Drop → Type 0) (was out : List RowKind) : Type 0 where
  pub drops : List Drop
  pub is : out ≡ was ++ map row_of_drop drops
  pub each : (d : Drop) → Has drops d → Is d
  pub order : AreRising drops

-- a load of such a navigable, dropped for this request
pub record IsDroppedFor (s : Seen) (by : ReqId) (Gone : NavId → Type 0) (d : Drop) : Type 0 where
  pub nav : NavId
  pub load : IsLoadOf s d.req nav
  pub gone : Gone nav
  pub cause_is : d.cause ≡ causes.By by

-- nothing but such rows was put out
abbrev pub HasOnlyDroppedBy : Seen → ReqId → (NavId → Type 0) → List RowKind → List RowKind → Type 0
HasOnlyDroppedBy s by Gone was out = HasOnlyDropped (IsDroppedFor s by Gone) was out

-- a load of a navigable without an entry, dropped by the request that took the last ones
pub record IsDestroyedLoad (s : Seen) (d : Drop) : Type 0 where
  pub nav : NavId
  pub load : IsLoadOf s d.req nav
  pub bare : IsBare s nav
  pub place : Place
  pub placed : place_of s nav ≡ Some place
  pub by : ReqId
  pub taken : place.taken_by ≡ Some by
  pub cause_is : d.cause ≡ causes.Destroyed by

abbrev pub HasOnlyDestroyed : Seen → List RowKind → List RowKind → Type 0
HasOnlyDestroyed s was out = HasOnlyDropped (IsDestroyedLoad s) was out

-- ---- what is left

-- each ongoing load of such a navigable has ended, and each other one goes on
pub record EndsLoads (Gone : NavId → Type 0) (s t : Seen) : Type 0 where
  pub ended : (req : ReqId) (nav : NavId) → IsLoadOf t req nav → Gone nav → ⊥
  pub others : (req : ReqId) (nav : NavId) → IsLoadOf s req nav → (Gone nav → ⊥) → request_of t req ≡ request_of s req

-- only ongoing loads end: each other request, what each asks, and all else, is as it was; so what may be a cause may be so still, and who was moved by a request is so still
pub record LeavesAll (s t : Seen) : Type 0 where
  pub places : t.places ≡ s.places
  pub documents : t.documents ≡ s.documents
  pub history : t.history ≡ s.history
  pub aim : aim_of t ≡ aim_of s
  pub kept : t.kept ≡ s.kept
  pub parked : t.parked ≡ s.parked
  pub joined : t.joined ≡ s.joined
  pub last : t.last_step ≡ s.last_step
  pub stood : s.has_stood ≡ false → t.has_stood ≡ false
  pub loads : (req : ReqId) (l : Look) → look_of t req ≡ Some l → is_ongoing l ≡ true → look_of s req ≡ Some l
  pub others : (req : ReqId) (q : Asked) → request_of s req ≡ Some q → is_ongoing_load q ≡ false → request_of t req ≡ Some q
  pub wishes : SameReads wish s.requests t.requests
  pub orders : (why : Why) → MayCause s why → MayCause t why
  pub movers : (why : Why) (nav : NavId) → IsMovedBy s why nav → IsMovedBy t why nav
