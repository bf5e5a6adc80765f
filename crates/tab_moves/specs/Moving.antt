-- A navigable is moved: it leaves the document that it was shown last, and is shown another one.
-- HTML Standard, "apply the history step" and "deactivate a document for a cross-document navigation"; asleep navigables, reasons and orders are this project's own.
use Rattle.seen_facts.specs.Hang.AsPlaces.{AreDistinct}
use Rattle.seen_facts.specs.Home.Homes.{EachWake, IsHomed}
use Rattle.seen_facts.specs.Kept.Keeping.{kept_states}
use Rattle.log_model.specs.Equal.{has_doc}
use Rattle.log_model.specs.Places.{is_below}
use Rattle.log_model.specs.Seen.{Place, Seen, asleep, awake, document_of, place_of}
use Rattle.log_model.specs.declared.job.Why.{Why}
use Rattle.log_model.specs.declared.row_kind.RowKind.{RowKind}
use Rattle.seen_facts.proofs.Mover.Stays.{KeepWays}
use Rattle.seen_facts.specs.Mover.Movers.{IsMovedBy}
use Rattle.seen_laws.specs.InEvent.{InEvent, log_of, now_of}
use Rattle.std.specs.Prelude.{List, Option, Some, false, true, ◌==◌, ◌≡◌, ◌≤◌, ◌⊎◌}
use Rattle.tab_doors.specs.Keeping.{Move}
use Rattle.tab_ids.specs.declared.DocId.{DocId}
use Rattle.tab_ids.specs.declared.NavId.{NavId}
use Rattle.tab_ids.specs.declared.ReqId.{ReqId}
use Rattle.tab_passes.specs.Causes.{show_why}
pub use Rattle.tab_passes.specs.Causes.{MayCause}
use Rattle.tab_passes.specs.Leaving.{IsLeftDulyFor, IsNewFor}
pub use Rattle.tab_passes.specs.Passing.{InPass}
use Rattle.seen_facts.specs.Walk.Walking.{LeavesOthers}
use Rattle.row_facts.specs.WalkRows.Since.{WasAwake}

-- the place is the navigable's, or below it
abbrev pub IsAtOrBelow : NavId → NavId → Place → Type 0
IsAtOrBelow nav other place = ((other.0 == nav.0) ≡ true) ⊎ (is_below nav place ≡ true)

-- each navigable at or below this one that is awake was awake on the same document before
abbrev pub AwakeUnder : Seen → Seen → NavId → Type 0
AwakeUnder before s nav =
    (other : NavId) (place : Place) (doc : DocId) → IsAtOrBelow nav other place → place_of s other ≡ Some place → place.status ≡ awake doc → WasAwake before other doc

-- each navigable at or below this one is asleep
abbrev pub AllAsleep : Seen → NavId → Type 0
AllAsleep s nav =
    (other : NavId) (place : Place) → IsAtOrBelow nav other place → place_of s other ≡ Some place → place.status ≡ asleep

-- as the event began each awake navigable's document was its own, and navigables hang as they did then
pub record IsSince (start s : Seen) : Type 0 where
  pub distinct : AreDistinct start.places
  pub homed : EachWake (IsHomed start.documents) start
  pub ways : KeepWays start.places s.places

-- the navigable may be moved for a reason: that has moved it, unless it is shown its first document; and who is awake at or below it was so as the event began
pub record MayBeMoved (e : InEvent) (s : Seen) (nav : NavId) (why : Why) : Type 0 where
  pub since : IsSince e.start s
  pub awake_since : AwakeUnder e.start s nav
  pub moved : (place : Place) → place_of s nav ≡ Some place → 1 ≤ place.epoch.0 → IsMovedBy s why nav

-- each document on which a navigable at or below this one is awake is left duly for a reason
abbrev pub AreLeftUnder : InEvent → List RowKind → NavId → Why → Type 0
AreLeftUnder e out nav why =
    (other : NavId) (place : Place) (doc : DocId) → IsAtOrBelow nav other place → place_of (now_of e out) other ≡ Some place → place.status ≡ awake doc → IsLeftDulyFor (log_of e out) doc why

-- a move has begun, for a cause
pub record InMoving : Type 0 where
  pub pass : InPass
  pub move : Move
  pub cause : Why

-- the navigable that leaves one, and the documents that are still to be frozen once that one is
pub record InLeft : Type 0 where
  pub moving : InMoving
  pub nav : NavId
  pub left : List DocId

-- the navigable is awake on this document, and leaves it for another one
pub record IsToLeave (m : InMoving) (run : Option ReqId) (s : Seen) (nav : NavId) (doc : DocId) (why : Why) : Type 0 where
  pub place : Place
  pub placed : place_of s nav ≡ Some place
  pub wakes : place.status ≡ awake doc
  pub for_run : why ≡ show_why run m.cause
  pub may : MayCause s why
  pub new : IsNewFor m.pass.event s m.move nav
  pub apart : (doc.0 == m.move.doc.0) ≡ false
  pub movable : MayBeMoved m.pass.event s nav why

-- the navigable has left what it showed, and these documents were frozen with it: it is asleep, and so are all below it; all else is as it was
pub record HasLeft (docs : List DocId) (why : Why) (s t : Seen) (nav : NavId) : Type 0 where
  pub leaves : LeavesOthers s t nav
  pub own : (place : Place) → place_of s nav ≡ Some place → place_of t nav ≡ Some (record place { status = asleep; why = why })
  pub all : AllAsleep t nav
  pub kept : t.kept ≡ s.kept
  pub states : kept_states t ≡ kept_states s
  pub documents : (doc : DocId) → has_doc docs doc ≡ false → document_of t doc ≡ document_of s doc
