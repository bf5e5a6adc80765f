-- What the walk of a coordinator of a tab with loads asks for, and what it leaves.
-- HTML Standard, "apply the history step"; orders and reasons are this project's own.
use Rattle.tab_facts.specs.Calm.Calm.{IsCalmAround, IsCalmYet, KeepsCalm, ShowsOne}
use Rattle.tab_facts.specs.Calm.Loads.{LoadsHaveDocuments}
use Rattle.tab_facts.specs.FrameWhole.Tab.{AreAwakeWithRows}
use Rattle.row_facts.specs.Left.Left.{WereShown}
use Rattle.seen_facts.specs.LoadEnds.Standing.{LoadsStand}
use Rattle.seen_facts.specs.Load.Loading.{look}
use Rattle.log_model.specs.History.{has_nav}
use Rattle.log_model.specs.Places.{aim_of, all_stand, is_shown}
use Rattle.log_model.specs.Equal.{holds}
use Rattle.log_model.specs.Seen.{Document, Place, Seen, awake, document_of, place_of}
use Rattle.log_model.specs.declared.job.Job.{Job}
use Rattle.log_model.specs.declared.job.Task.{Task}
use Rattle.log_model.specs.declared.job.Why.{Why}
use Rattle.log_model.specs.declared.row_kind.RowKind.{RowKind}
use Rattle.seen_laws.specs.InEvent.{InEvent, now_of}
use Rattle.checking_facts.specs.Prompts.{discarded_by}
use Rattle.std.specs.Prelude.{List, None, Option, Some, [], false, is_some, map, take, true, ℕ, ◌∷◌, ◌≡◌, ◌≤◌, ◌⊎◌}
use Rattle.tab_doors.specs.Working.{KeepsStore, MayDiscardIn}
use Rattle.tab_doors.specs.declared.tables.Tables.{Tables}
use Rattle.tab_ids.specs.declared.DocId.{DocId}
use Rattle.tab_ids.specs.declared.NavId.{NavId}
use Rattle.tab_ids.specs.declared.ReqId.{ReqId}
pub use Rattle.tab_walk.specs.PassedOn.{IsPassing, IsSince}
pub use Rattle.tab_walk.specs.Cutting.{InPass, MayCause, show_why}
pub use Rattle.tab_walk.specs.Moving.{HasOnly}
use Rattle.seen_facts.specs.Walk.Walking.{AreServedUpTo, IsWalk}
use Rattle.row_facts.specs.WalkRows.Later.{IsLater, MovesLater}
use Rattle.row_facts.specs.WalkRows.Since.{AwakeSince, IsVisitedInNeed, MovesVisited, WasAwake}
use Rattle.tab_passes.specs.Leaving.{IsLeaver, OffAreLeft}
use Rattle.log_model.specs.declared.job.Task.TheVariants as tasks
use Rattle.log_model.specs.declared.row_kind.RowKind.TheVariants as rows

-- each navigable above another one was shown a document: that one's document added the other, or one above it
abbrev pub ParentsShown : Seen → Type 0
ParentsShown s =
    (nav above : NavId) (place up : Place) → place_of s nav ≡ Some place → has_nav place.above above ≡ true → place_of s above ≡ Some up → is_some up.last ≡ true

-- each navigable that the walk visits, that needs something and was shown a document before, leaves what it shows for the reason
abbrev pub LeavesVisited : Seen → Why → Type 0
LeavesVisited s why =
    (nav : NavId) (place : Place) → place_of s nav ≡ Some place → IsVisitedInNeed s place → 1 ≤ place.epoch.0 → IsLeaver s why nav

-- of a walk that has served its first navigables, so does each later one
abbrev pub LeavesLater : Seen → Why → List NavId → ℕ → Type 0
LeavesLater s why walk n =
    (nav : NavId) (place : Place) → IsLater walk n nav → place_of s nav ≡ Some place → IsVisitedInNeed s place → 1 ≤ place.epoch.0 → IsLeaver s why nav

-- no step was in its check as the event began or was cut, if a navigable that the walk visits and that needs something was shown a document before
abbrev pub FreesVisited : InEvent → Seen → Type 0
FreesVisited e s = (nav : NavId) (place : Place) → place_of s nav ≡ Some place → IsVisitedInNeed s place → 1 ≤ place.epoch.0 → MayDiscardIn false e

-- of a walk that has served its first navigables, if a later one was
abbrev pub FreesLater : InEvent → Seen → List NavId → ℕ → Type 0
FreesLater e s walk n =
    (nav : NavId) (place : Place) → IsLater walk n nav → place_of s nav ≡ Some place → IsVisitedInNeed s place → 1 ≤ place.epoch.0 → MayDiscardIn false e

-- who was awake on a document is so still, or that document is discarded
abbrev pub StillAwake : Seen → Seen → Type 0
StillAwake start s =
    (nav : NavId) (place : Place) (doc : DocId) → place_of start nav ≡ Some place → place.status ≡ awake doc → WasAwake s nav doc ⊎ (holds (λ (d : Document). d.is_discarded) (document_of s doc) ≡ true)

-- ---- what the walk asks for

-- orders may be for the cause; who is awake was so as the event began, and who was awake then is so, but for discarded documents; who is visited in need was moved by the reason, and leaves what it shows for it, with no step in its check, unless it was never shown a document; who is awake has an entry; ongoing loads stand
pub record MayWalk (e : InEvent) (run : Option ReqId) (keep : ℕ) (cause : Why) (s : Seen) : Type 0 where
  pub may : MayCause s cause
  pub since : IsSince e.start s
  pub unwoken : AwakeSince e.start [] s
  pub still : StillAwake e.start s
  pub moves : MovesVisited s (show_why run cause)
  pub leavers : LeavesVisited s (show_why run cause)
  pub frees : FreesVisited e s
  pub rows_ : AreAwakeWithRows s
  pub were : WereShown s
  pub parents : ParentsShown s
  pub loads : LoadsStand s
  pub header : keep ≡ e.header.keep

-- ---- what it puts out

-- the order shows a document, has one made, or freezes or discards one
abbrev pub IsOfWalk : Task → Type 0
IsOfWalk (tasks.Activate entry epoch length index memo address) = Unit {0}
IsOfWalk (tasks.Populate nav state address initial) = Unit {0}
IsOfWalk tasks.Freeze = Unit {0}
IsOfWalk tasks.Discard = Unit {0}
IsOfWalk _ = ⊥

-- the row is such an order: for the traversal that runs, where one does, or for the cause; one that shows a document isn't for the cause, where one runs
pub record IsServeFor (run : Option ReqId) (cause : Why) (row : RowKind) : Type 0 where
  pub job : Job
  pub is : row ≡ rows.Sent job
  pub serves : IsOfWalk job.task
  pub why_is : (job.why ≡ show_why run cause) ⊎ (job.why ≡ cause)
  pub shows : ShowsOne job.task → job.why ≡ show_why run cause

-- nothing but such orders was put out
abbrev pub HasOnlyServed : Option ReqId → Why → List RowKind → List RowKind → Type 0
HasOnlyServed run cause was out = HasOnly (IsServeFor run cause) was out

-- the row discards no document
abbrev pub DiscardsNone : RowKind → Type 0
DiscardsNone row = discarded_by row ≡ None

-- no document was discarded, if a step was in its check as the event began or was cut
abbrev pub DiscardsUnheld : InEvent → List RowKind → List RowKind → Type 0
DiscardsUnheld e was out = (MayDiscardIn false e → ⊥) → HasOnly DiscardsNone was out

-- ---- what it leaves

-- the navigable is shown at the current step and awake on the document, and not under its first epoch
pub record IsUp (s : Seen) (nav : NavId) (place : Place) (doc : DocId) : Type 0 where
  pub placed : place_of s nav ≡ Some place
  pub wakes : place.status ≡ awake doc
  pub shown : is_shown s.history.rows s.history.current nav ≡ true
  pub later : 2 ≤ place.epoch.0

-- who is so is as it was, where the tab was calm but for navigables without an entry; and where it was so around a load's navigable, who isn't that one or below it
pub record KeepsUp (s t : Seen) : Type 0 where
  pub yet : aim_of s ≡ s.history.current → IsCalmYet s → (nav : NavId) (place : Place) (doc : DocId) → IsUp t nav place doc → place_of s nav ≡ Some place
  pub around : aim_of s ≡ s.history.current → (at : NavId) → IsCalmAround s at → (nav : NavId) (place : Place) (doc : DocId) → IsUp t nav place doc → (place_of s nav ≡ Some place) ⊎ (has_nav (nav ∷ place.above) at ≡ true)

-- the history and its aim, what is held back, what is read of the requests, for what orders may be sent, that who is awake has an entry, how calm the tab is, who is up, and that each ongoing load has its document
pub record LeavesLog (s t : Seen) : Type 0 where
  pub history : t.history ≡ s.history
  pub aim : aim_of t ≡ aim_of s
  pub parked : t.parked ≡ s.parked
  pub looks : map look t.requests ≡ map look s.requests
  pub causes : (why : Why) → MayCause s why → MayCause t why
  pub rows_ : AreAwakeWithRows s → AreAwakeWithRows t
  pub calms : KeepsCalm s t
  pub up : KeepsUp s t
  pub loading : LoadsHaveDocuments s → LoadsHaveDocuments t

-- what it asked of the log is so still; but where not all stand, some may have been woken
pub record HasWalked (e : InEvent) (s : Seen) : Type 0 where
  pub since : IsSince e.start s
  pub unwoken : all_stand s (aim_of s) ≡ true → AwakeSince e.start [] s
  pub still : all_stand s (aim_of s) ≡ true → StillAwake e.start s
  pub were : WereShown s
  pub parents : ParentsShown s
  pub loads : LoadsStand s

-- ---- one turn after the other

-- a walk over these navigables, for a cause
pub record InWalk : Type 0 where
  pub pass : InPass
  pub cause : Why
  pub navs : List NavId

abbrev pub walk_by : InPass → Why → List NavId → InWalk
walk_by p cause navs = record { pass = p; cause = cause; navs = navs }

-- so many of them were served
pub record IsWalking (w : InWalk) (n : ℕ) (out : List RowKind) (t : Tables) : Type 0 where
  pub passing : IsPassing w.pass out t
  pub walked : HasWalked w.pass.event (now_of w.pass.event out)
  pub may : MayCause (now_of w.pass.event out) w.cause
  -- of the others, who is awake was so as the event began; and who is visited in need was moved by the reason, and leaves what it shows for it, with no step in its check, unless it was never shown a document
  pub unwoken : AwakeSince w.pass.event.start (take n w.navs) (now_of w.pass.event out)
  pub moves : MovesLater (now_of w.pass.event out) (show_why t.running w.cause) w.navs n
  pub leavers : LeavesLater (now_of w.pass.event out) (show_why t.running w.cause) w.navs n
  pub frees : FreesLater w.pass.event (now_of w.pass.event out) w.navs n
  -- who is awake has an entry; and who isn't shown wasn't as the event began, or is left duly
  pub rows_ : AreAwakeWithRows (now_of w.pass.event out)
  pub off : OffAreLeft w.pass.event out (show_why t.running w.cause)
  pub header : t.kept.keep ≡ w.pass.event.header.keep
  pub order : IsWalk (now_of w.pass.event out) w.navs
  pub served : AreServedUpTo (now_of w.pass.event out) w.navs n

-- of a walk that began with these tables and rows, so many were served
pub record IsServing (w : InWalk) (t : Tables) (was : List RowKind) (u : Tables) (out : List RowKind) (n : ℕ) : Type 0 where
  pub walking : IsWalking w n out u
  pub left : LeavesLog (now_of w.pass.event was) (now_of w.pass.event out)
  pub only : HasOnlyServed t.running w.cause was out
  pub quiet : DiscardsUnheld w.pass.event was out
  pub kept : KeepsStore t u
