-- Who is awake since an event began, but for those that were shown a document in it; and for whom a navigable that is to be shown another document is moved.
-- HTML Standard, "Apply the history step"; asleep navigables and reasons are this project's own.
use Rattle.log_model.specs.History.{has_nav}
use Rattle.log_model.specs.Places.{aim_of, is_shown}
use Rattle.log_model.specs.Seen.{Place, Seen, awake, place_of}
use Rattle.log_model.specs.declared.job.Why.{Why}
use Rattle.seen_facts.specs.Mover.Movers.{IsMovedBy}
use Rattle.std.specs.List.{list_any}
use Rattle.std.specs.Prelude.{List, Some, false, true, ◌≡◌, ◌≤◌}
use Rattle.tab_ids.specs.declared.DocId.{DocId}
use Rattle.tab_ids.specs.declared.NavId.{NavId}
use Rattle.seen_facts.specs.Walk.Serving.{is_needing, is_stopping}

-- the navigable was awake on the document
pub record WasAwake (s : Seen) (nav : NavId) (doc : DocId) : Type 0 where
  pub place : Place
  pub placed : place_of s nav ≡ Some place
  pub wakes : place.status ≡ awake doc

-- each navigable that is awake, but for these, was awake on the same document before
abbrev pub AwakeSince : Seen → List NavId → Seen → Type 0
AwakeSince before navs s =
    (nav : NavId) (place : Place) (doc : DocId) → has_nav navs nav ≡ false → place_of s nav ≡ Some place → place.status ≡ awake doc → WasAwake before nav doc

-- the walk visits the place at the aim, and it needs something
pub record IsVisitedInNeed (s : Seen) (place : Place) : Type 0 where
  pub shown : is_shown s.history.rows (aim_of s) place.nav ≡ true
  pub reached : list_any (is_stopping s.history.rows (aim_of s) s.places) place.above ≡ false
  pub needs : is_needing s.history.rows (aim_of s) place ≡ true

-- each navigable that the walk visits, that needs something and was shown a document before, is moved by the reason
abbrev pub MovesVisited : Seen → Why → Type 0
MovesVisited s why =
    (nav : NavId) (place : Place) → place_of s nav ≡ Some place → IsVisitedInNeed s place → 1 ≤ place.epoch.0 → IsMovedBy s why nav
