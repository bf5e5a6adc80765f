-- What the rows of an event owe to its end: that a load which another request drops has its cause there, and that one which begins is the only one of its navigable; and which ends pay it, since later rows undo nothing of it.
-- This project's own; that an ongoing navigation gives way is the HTML Standard's ("Navigables", "navigate").
use Rattle.log_model.specs.Once.{has_no_earlier_load}
use Rattle.log_model.specs.Places.{aim_of, all_stand, has_passed, stands}
use Rattle.log_model.specs.Seen.{Asked, Place, Seen, place_of, request_of}
use Rattle.log_model.specs.declared.row_kind.RowKind.{RowKind}
use Rattle.seen_laws.specs.InEvent.{InEvent, now_of, row_of, seen_here}
use Rattle.seen_laws.specs.Owing.{owes_row}
use Rattle.std.specs.Prelude.{Bool, List, Some, [], false, true, ℕ, ◌&&◌, ◌++◌, ◌∷◌, ◌≡◌}
use Rattle.tab_ids.specs.declared.NavId.{NavId}
use Rattle.tab_ids.specs.declared.ReqId.{ReqId}

-- the request is there still, and has begun if it had
pub record IsStill (end : Seen) (req : ReqId) (q : Asked) : Type 0 where
  pub r : Asked
  pub at : request_of end req ≡ Some r
  pub what : r.what ≡ q.what
  pub nr : r.nr ≡ q.nr
  pub began : q.is_started ≡ true → r.is_started ≡ true

-- the navigable is there still, below the same ones, added by the same request, and was ever shown a document or not as before
pub record IsThereStill (end : Seen) (nav : NavId) (place : Place) : Type 0 where
  pub then_ : Place
  pub at : place_of end nav ≡ Some then_
  pub nav_is : then_.nav ≡ place.nav
  pub above : then_.above ≡ place.above
  pub added : then_.added_by ≡ place.added_by
  pub shown : then_.was_activated ≡ place.was_activated

-- what no row undoes that delivers no report and begins no load
pub record Lasts (s end : Seen) : Type 0 where
  pub asked : (req : ReqId) (q : Asked) → request_of s req ≡ Some q → IsStill end req q
  pub places : (nav : NavId) (place : Place) → place_of s nav ≡ Some place → IsThereStill end nav place
  pub sole : (req : ReqId) (nav : NavId) → has_no_earlier_load s req nav ≡ true → has_no_earlier_load end req nav ≡ true

-- what no order undoes, and no request that is dropped or refused: the history and where it is brought, who has passed, what was changed, the last step, and who doesn't stand
pub record Stays (s end : Seen) : Type 0 where
  pub lasts : Lasts s end
  pub history : end.history ≡ s.history
  pub aim : aim_of end ≡ aim_of s
  pub passed : (req : ReqId) (q r : Asked) → request_of s req ≡ Some q → request_of end req ≡ Some r → has_passed s q ≡ true → has_passed end r ≡ true
  pub changes : (req : ReqId) (q r : Asked) → request_of s req ≡ Some q → request_of end req ≡ Some r → r.change ≡ q.change
  pub last : end.last_step ≡ s.last_step
  pub unsettled : s.has_stood ≡ false → end.has_stood ≡ false
  pub off : (step : ℕ) (nav : NavId) → stands s step nav ≡ false → stands end step nav ≡ false

-- whether all have stood since the last step is reckoned up: where they haven't, they don't stand
abbrev pub IsReckoned : Seen → Type 0
IsReckoned s = s.has_stood ≡ false → all_stand s s.history.current ≡ false

-- this end pays what these rows of an event owe, in the log as it would be had nobody been asked, where they come behind those
abbrev pub owes_from : InEvent → List RowKind → List RowKind → Seen → Bool
owes_from e was [] end = true
owes_from e was (kind ∷ more) end = owes_row (seen_here e was) (row_of e kind) end && owes_from e (was ++ kind ∷ []) more end

-- and what the event's rows so far owe: those before the cut, and those behind it; the own row owes nothing
abbrev pub owes_seen : InEvent → List RowKind → Seen → Bool
owes_seen e out end = e.due end && owes_from e [] out end

-- each end pays what the event's rows so far owe that undoes nothing which orders leave
abbrev pub IsOwed : InEvent → List RowKind → Type 0
IsOwed e out = (end : Seen) → Stays (now_of e out) end → owes_seen e out end ≡ true

-- each end pays it that undoes nothing which any row leaves, but one that delivers a report or begins a load
abbrev pub IsLoose : InEvent → List RowKind → Type 0
IsLoose e out = (end : Seen) → Lasts (now_of e out) end → owes_seen e out end ≡ true
