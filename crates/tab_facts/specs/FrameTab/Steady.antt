-- Where the navigables of a tab of frames stand: none is lost or reloaded, each with an entry is awake but a new one, and a traversal alone shows one again.
-- HTML Standard, "Applying the history step"; epochs, and asleep and lost navigables, are this project's own.
use Rattle.std.specs.Prelude.{◌≡◌, ◌≢◌, ◌≤◌, true, false, List, Option, Some, None, is_some}
use Rattle.tab_ids.specs.declared.DocId.{DocId}
use Rattle.tab_ids.specs.declared.NavId.{NavId}
use Rattle.tab_ids.specs.declared.ReqId.{ReqId}
use Rattle.log_model.specs.History.{has_row}
use Rattle.log_model.specs.Places.{top, is_given_target, is_moved_in}
use Rattle.log_model.specs.Seen.{Seen, Asked, Place, awake, asleep, lost, place_of, request_in}
use Rattle.seen_facts.specs.Each.Moving.{IsMover}

-- the request of a number is there
pub record IsAskedBy (asked : List Asked) (by : Option ReqId) : Type 0 where
  pub req : ReqId
  pub is : by ≡ Some req
  pub q : Asked
  pub there : request_in asked req ≡ Some q

-- no document was ever shown in the navigable
pub record IsUnshownYet (place : Place) : Type 0 where
  pub epoch : place.epoch.0 ≡ 0
  pub given : place.given ≡ None
  pub last : place.last ≡ None

-- the place stands still but for traversals, frames added and frames removed
pub record IsSteady (s : Seen) (place : Place) : Type 0 where
  pub unlost : place.status ≡ lost → ⊥
  pub unpending : place.is_pending ≡ false
  pub met : place.is_unmet ≡ false
  pub shown : (doc : DocId) → place.status ≡ awake doc → 1 ≤ place.epoch.0
  pub gave : (doc : DocId) → place.status ≡ awake doc → is_some place.given ≡ true
  pub unshown : place.status ≡ asleep → has_row place.nav s.history.rows ≡ true → IsUnshownYet place
  pub taken : has_row place.nav s.history.rows ≡ false → IsAskedBy s.requests place.taken_by
  pub moved : (doc : DocId) → place.status ≡ awake doc → 2 ≤ place.epoch.0 → IsMover s place
  pub added : place.nav ≢ top → IsAskedBy s.requests place.added_by

abbrev pub AreSteady : Seen → Type 0
AreSteady s = (nav : NavId) (place : Place) → place_of s nav ≡ Some place → IsSteady s place

-- an awake navigable that has a row, and that the running traversal hasn't moved, was given its target at the current step
abbrev pub AreGiven : Seen → Type 0
AreGiven s =
    (nav : NavId) (place : Place) (doc : DocId) → place_of s nav ≡ Some place → place.status ≡ awake doc → has_row place.nav s.history.rows ≡ true → is_moved_in s.requests place.nav ≡ false → is_given_target s.history.rows s.history.current place ≡ true
