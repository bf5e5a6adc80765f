-- Whom a traversal or a load that is under way leaves: each document with a handler on which a navigable was awake as it began, and which it leaves, was asked for it.
-- HTML Standard, "checking if unloading is canceled" and "Applying the history step". That it stays so where a document's change cuts the traversal's goal short is this project's own.
use Rattle.std.specs.Prelude.{◌≡◌, ◌⊎◌, ℕ, Bool, true, false, ◌&&◌, List, Option, Some, None, is_none, is_some}
use Rattle.tab_ids.specs.declared.DocId.{DocId}
use Rattle.tab_ids.specs.declared.NavId.{NavId}
use Rattle.tab_ids.specs.declared.ReqId.{ReqId}
use Rattle.tab_ids.specs.declared.Step.{Step}
use Rattle.log_model.specs.declared.job.Why.TheVariants as whys
use Rattle.log_model.specs.declared.job.Why.{Why}
use Rattle.log_model.specs.declared.request.Mode.{Mode}
use Rattle.log_model.specs.declared.request.Request.{Request}
use Rattle.log_model.specs.declared.request.Request.TheVariants as requests
use Rattle.log_model.specs.declared.row.Row.{Row}
use Rattle.log_model.specs.Checks.{was_asked}
use Rattle.log_model.specs.Equal.{has_doc}
use Rattle.log_model.specs.History.{has_nav, has_row, used_step_at}
use Rattle.log_model.specs.Places.{is_shown, is_traversal, is_under_way, targets_state, way_of, way_to}
use Rattle.log_model.specs.Seen.{Seen, Asked, Document, Place, document_of, place_of, request_of}

-- at the step the document's navigable is shown, and its target there has the document's state
abbrev pub stays_at : List Row → ℕ → Document → Bool
stays_at rows step d = is_shown rows step d.nav && targets_state rows step d.nav d.state

-- a navigable was awake on the document as the request began, and has an entry still
pub record WasAwake (s : Seen) (q : Asked) (doc : DocId) (d : Document) : Type 0 where
  pub found : document_of s doc ≡ Some d
  pub awake : has_doc q.awake_then doc ≡ true
  pub placed : has_row d.nav s.history.rows ≡ true

-- ---- traversals

-- a traversal with this goal has begun and hasn't ended
pub record IsGoing (s : Seen) (req : ReqId) (q : Asked) (goal : Step) : Type 0 where
  pub found : request_of s req ≡ Some q
  pub going : is_under_way q ≡ true
  pub traverses : is_traversal q.what ≡ true
  pub goal_is : q.goal ≡ Some goal

-- at the current step each document on which a navigable was awake as the traversal began stays
abbrev pub AllStay : Seen → Type 0
AllStay s =
    (req : ReqId) (q : Asked) (goal : Step) → IsGoing s req q goal
    → (doc : DocId) (d : Document) → WasAwake s q doc d → stays_at s.history.rows s.history.current d ≡ true

-- each of them that has a handler, and doesn't stay where the traversal goes, was asked for it
abbrev pub LeaversAsked : Seen → Type 0
LeaversAsked s =
    (req : ReqId) (q : Asked) (goal : Step) → IsGoing s req q goal
    → (doc : DocId) (d : Document) → WasAwake s q doc d → is_some d.slot ≡ true
    → stays_at s.history.rows (used_step_at s.history.rows goal.0) d ≡ false → was_asked q doc ≡ true

-- ---- loads

-- a load of this navigable has begun and hasn't ended
pub record IsLoading (s : Seen) (req : ReqId) (q : Asked) (nav : NavId) : Type 0 where
  pub found : request_of s req ≡ Some q
  pub going : is_under_way q ≡ true
  pub mode : Mode
  pub address : List ℕ
  pub loads : q.what ≡ requests.Load nav mode address

-- each document with a handler on which a navigable at or below the load's was awake as it began was asked for it
abbrev pub LoadsAsked : Seen → Type 0
LoadsAsked s =
    (req : ReqId) (q : Asked) (nav : NavId) → IsLoading s req q nav
    → (doc : DocId) (d : Document) → WasAwake s q doc d → is_some d.slot ≡ true
    → (place : Place) → place_of s d.nav ≡ Some place → has_nav (way_of place) nav ≡ true → was_asked q doc ≡ true

-- ---- loads and reloads, also once they are applied

-- the navigable that the request leaves with those below it, if it is a load or a reload
abbrev pub leaves_nav : Request → Option NavId
leaves_nav (requests.Load nav mode address) = Some nav
leaves_nav (requests.Reload nav) = Some nav
leaves_nav _ = None

-- a load or reload of the navigable has begun
pub record IsBelow (s : Seen) (req : ReqId) (q : Asked) (nav : NavId) : Type 0 where
  pub found : request_of s req ≡ Some q
  pub started : q.is_started ≡ true
  pub leaves : leaves_nav q.what ≡ Some nav

-- each such document was asked, whether the request has ended or not
pub record BelowAsked (s : Seen) : Type 0 where
  pub each : (req : ReqId) (q : Asked) (nav : NavId) → IsBelow s req q nav → (doc : DocId) (d : Document) → document_of s doc ≡ Some d → has_doc q.awake_then doc ≡ true → is_some d.slot ≡ true → (place : Place) → place_of s d.nav ≡ Some place → has_nav (way_of place) nav ≡ true → was_asked q doc ≡ true

-- the request leaves the document duly: where it has begun, a navigable was awake on it then, and it has a handler, it was asked
pub record IsLeftDuly (s : Seen) (doc : DocId) (req : ReqId) : Type 0 where
  pub asked : (q : Asked) (d : Document) → request_of s req ≡ Some q → q.is_started ≡ true → document_of s doc ≡ Some d → has_doc q.awake_then doc ≡ true → is_some d.slot ≡ true → was_asked q doc ≡ true

-- so does a reason, if it is a request
abbrev pub IsLeftDulyFor : Seen → DocId → Why → Type 0
IsLeftDulyFor s doc why = (req : ReqId) → why ≡ whys.Req req → IsLeftDuly s doc req

-- ---- whom a reason leaves

-- the request is a load or reload of the navigable, or of one above it, that has begun and ended
pub record IsFromAbove (s : Seen) (q : Asked) (nav : NavId) : Type 0 where
  pub started : q.is_started ≡ true
  pub ended : is_none q.ending ≡ false
  pub at : NavId
  pub leaves : leaves_nav q.what ≡ Some at
  pub above : has_nav (way_to s nav) at ≡ true

-- the navigable leaves what it shows for the reason: that is a traversal that is under way, or such a load or reload
pub record IsLeaver (s : Seen) (reason : Why) (nav : NavId) : Type 0 where
  pub req : ReqId
  pub q : Asked
  pub why : reason ≡ whys.Req req
  pub found : request_of s req ≡ Some q
  pub leaves : ((is_traversal q.what && is_under_way q) ≡ true) ⊎ IsFromAbove s q nav

-- all of it
pub record AreAsked (s : Seen) : Type 0 where
  pub stay : AllStay s
  pub leavers : LeaversAsked s
  pub loads : LoadsAsked s
