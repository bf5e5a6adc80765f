-- Why a navigable that is shown may not stand: no document was ever shown in it, or the last load that was applied, of it or one above, has given it another one, and not all have stood since.
-- This project's own; HTML Standard, "apply the history step" and "finalize a cross-document navigation".
use Rattle.log_model.specs.Places.{is_awake, is_shown}
use Rattle.log_model.specs.Seen.{Place, Seen, awake, place_of}
use Rattle.std.specs.Prelude.{Bool, None, Option, Some, false, not, true, ◌&&◌, ◌==◌, ◌||◌, ◌≡◌}
use Rattle.tab_ids.specs.declared.DocId.{DocId}
use Rattle.tab_ids.specs.declared.NavId.{NavId}
use Rattle.tab_ids.specs.declared.ReqId.{ReqId}
use Rattle.tab_releases.specs.PassedOn.{IsByLoad}
use Rattle.log_model.specs.declared.job.Why.TheVariants as whys

-- no order showed the navigable a document yet, or the report of the first that did isn't delivered
abbrev pub is_new_place : Place → Bool
is_new_place place = place.epoch.0 == 0 || (place.epoch.0 == 1 && (is_awake place && not place.is_delivered))

-- the navigable is as it is for the last load that was applied, of it or one above, since which not all have stood
pub record IsOffSince (s : Seen) (nav : NavId) (place : Place) : Type 0 where
  pub req : ReqId
  pub why : place.why ≡ whys.Req req
  pub by : IsByLoad s req nav

-- the navigable was shown a document before, and is awake on another one, or on that one again, of which isn't told yet that it is shown
pub record IsLate (s : Seen) (nav : NavId) (place : Place) (doc : DocId) : Type 0 where
  pub placed : place_of s nav ≡ Some place
  pub wakes : place.status ≡ awake doc
  pub untold : place.is_delivered ≡ false
  pub old : is_new_place place ≡ false

-- each such navigable that is shown is so for the last load that was applied
abbrev pub AreLateKnown : Seen → Type 0
AreLateKnown s =
    (nav : NavId) (place : Place) (doc : DocId) → IsLate s nav place doc → is_shown s.history.rows s.history.current nav ≡ true → IsOffSince s nav place

-- that is asked only where no traversal runs
abbrev pub LateKnown : Option ReqId → Seen → Type 0
LateKnown None s = AreLateKnown s
LateKnown (Some run) s = Unit {0}
