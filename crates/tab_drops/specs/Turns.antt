-- One navigable's turn as loads give way: its load is dropped or goes on, and that of each other navigable goes on.
-- HTML Standard, "Navigables" ("ongoing navigation"); the order is this project's own.
use Rattle.log_model.specs.Causes.{nav_of_change}
use Rattle.log_model.specs.History.{has_nav}
use Rattle.log_model.specs.Places.{way_to}
use Rattle.log_model.specs.Seen.{Asked, Seen, request_of}
use Rattle.log_model.specs.declared.change.Change.{Change}
use Rattle.log_model.specs.declared.row_kind.RowKind.{RowKind}
use Rattle.seen_laws.specs.InEvent.{now_of}
use Rattle.std.specs.Prelude.{Bool, List, None, Option, Some, false, slice_get, true, ℕ, ◌<◌, ◌==◌, ◌≡◌, ◌⊎◌}
use Rattle.tab_doors.specs.Working.{KeepsStore}
use Rattle.tab_doors.specs.declared.tables.Tables.{Tables}
use Rattle.tab_drops.specs.Dropping.{Drop, HasOnlyDropped, IsLoadOf, IsUnsettled, LeavesAll}
use Rattle.tab_ids.specs.declared.NavId.{NavId}
use Rattle.tab_ids.specs.declared.ReqId.{ReqId}
use Rattle.tab_moves.specs.PassedOn.{IsPassingIn}
use Rattle.tab_moves.specs.Moving.{InPass}
use Rattle.log_model.specs.declared.outcome.Cause.TheVariants as causes

-- ---- why a load is dropped for another request

-- that one is the last load with a new document that was applied, since which not all have stood, by a change of the navigable or one above it
pub record IsByLoad (s : Seen) (by : ReqId) (nav : NavId) : Type 0 where
  pub mover : Asked
  pub found : request_of s by ≡ Some mover
  pub change : Change
  pub changed : mover.change ≡ Some change
  pub top : NavId
  pub its : nav_of_change change ≡ Some top
  pub on_way : has_nav (way_to s nav) top ≡ true
  pub last : s.last_step ≡ Some by
  pub unstood : s.has_stood ≡ false

-- the navigable, or one above it, is in need, and that one is the traversal that runs, or such a load where none runs
pub record GivesWay (s : Seen) (run : Option ReqId) (by : ReqId) (nav : NavId) : Type 0 where
  pub away : IsUnsettled s nav
  pub cause : (run ≡ Some by) ⊎ ((run ≡ None) × IsByLoad s by nav)

-- ---- a turn

abbrev pub IsAnyNav : NavId → Type 0
IsAnyNav nav = Unit {0}

abbrev pub IsFor : ReqId → Drop → Type 0
IsFor by d = d.cause ≡ causes.By by

-- the load of the navigable has ended, if it is such a one, by such a drop; all else is as it was
pub record IsTurnAt (Is : Drop → Type 0) (Gone : NavId → Type 0) (nav : NavId) (s t : Seen) (was out : List RowKind) : Type 0 where
  pub left : LeavesAll s t
  pub ended : (req : ReqId) → IsLoadOf t req nav → Gone nav → ⊥
  pub others : (req : ReqId) (other : NavId) → IsLoadOf s req other → ((other.0 == nav.0) ≡ false) ⊎ (Gone other → ⊥) → request_of t req ≡ request_of s req
  pub only : HasOnlyDropped (λ d. Is d × IsLoadOf s d.req nav) was out

-- ---- so many turns

-- the navigable is one of the first of the list, this many
pub record IsAmong (navs : List NavId) (n : ℕ) (nav : NavId) : Type 0 where
  pub k : ℕ
  pub low : k < n
  pub at : slice_get navs k ≡ Some nav

-- the drop is of the load of one of these
pub record IsOfFirst (s : Seen) (navs : List NavId) (n : ℕ) (d : Drop) : Type 0 where
  pub nav : NavId
  pub load : IsLoadOf s d.req nav
  pub among : IsAmong navs n nav

-- so many navigables of the list have had their turn; where documents are swept, or none are
pub record IsDroppingIn (sweeps : Bool) (p : InPass) (Is : Drop → Type 0) (Gone : NavId → Type 0) (t : Tables) (was : List RowKind) (navs : List NavId) (n : ℕ) (u : Tables) (out : List RowKind) : Type 0 where
  pub passing : IsPassingIn sweeps p out u
  pub left : LeavesAll (now_of p.event was) (now_of p.event out)
  pub ended : (req : ReqId) (nav : NavId) → IsLoadOf (now_of p.event out) req nav → IsAmong navs n nav → Gone nav → ⊥
  pub others : (req : ReqId) (nav : NavId) → IsLoadOf (now_of p.event was) req nav → (Gone nav → ⊥) → request_of (now_of p.event out) req ≡ request_of (now_of p.event was) req
  pub only : HasOnlyDropped (λ d. Is d × IsOfFirst (now_of p.event was) navs n d) was out
  pub kept : KeepsStore t u

-- where none are
abbrev pub IsDropping : InPass → (Drop → Type 0) → (NavId → Type 0) → Tables → List RowKind → List NavId → ℕ → Tables → List RowKind → Type 0
IsDropping p Is Gone t was navs n u out = IsDroppingIn false p Is Gone t was navs n u out
