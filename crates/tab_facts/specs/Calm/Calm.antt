-- Where each navigable is between two steps of the history: where no traversal runs, who is awake is shown at the current step and was given its target, and who is shown there and was ever shown a document is awake; and, whatever runs, who is awake was given an entry that isn't about to be taken unseen.
-- HTML Standard, "apply the history step": once a step is applied, each navigable shows its target; epochs and asleep navigables are this project's own.
use Rattle.seen_facts.specs.Hang.Members.{Has}
use Rattle.log_model.specs.History.{has_nav, has_row, has_state, target_entry}
use Rattle.log_model.specs.Orders.{is_usable}
use Rattle.log_model.specs.Places.{aim_of, is_awake, is_given_target, is_moved, is_shown, way_to}
use Rattle.log_model.specs.Seen.{Document, Place, Seen, awake, document_of, place_of}
use Rattle.log_model.specs.declared.job.Task.{Task}
use Rattle.log_model.specs.declared.row.Row.{Row}
use Rattle.std.specs.List.{list_any}
use Rattle.std.specs.Prelude.{None, Option, Some, false, true, ◌≡◌, ◌≤◌, ◌⊎◌}
use Rattle.tab_ids.specs.declared.DocId.{DocId}
use Rattle.tab_ids.specs.declared.NavId.{NavId}
use Rattle.tab_ids.specs.declared.ReqId.{ReqId}
use Rattle.tab_ids.specs.declared.StateId.{StateId}
use Rattle.row_facts.specs.WalkRows.Since.{IsVisitedInNeed}
use Rattle.log_model.specs.declared.job.Task.TheVariants as tasks

-- ---- where no traversal runs

-- the place is shown at the current step, and was given its target there
pub record IsHere (s : Seen) (place : Place) : Type 0 where
  pub shown : is_shown s.history.rows s.history.current place.nav ≡ true
  pub target : is_given_target s.history.rows s.history.current place ≡ true

-- but for some navigables, who is awake is so, and who is shown and was ever shown a document is awake
pub record IsCalmBut (Except : NavId → Type 0) (s : Seen) : Type 0 where
  pub here : (nav : NavId) (place : Place) (doc : DocId) → place_of s nav ≡ Some place → place.status ≡ awake doc → Except nav ⊎ IsHere s place
  pub wakes : (nav : NavId) (place : Place) → place_of s nav ≡ Some place → is_shown s.history.rows s.history.current place.nav ≡ true → 1 ≤ place.epoch.0 → Except nav ⊎ (is_awake place ≡ true)

-- with no exception
abbrev pub IsCalm : Seen → Type 0
IsCalm s = IsCalmBut (λ (nav : NavId). ⊥) s

-- but for those without an entry, as where a frame was just removed
abbrev pub IsCalmYet : Seen → Type 0
IsCalmYet s = IsCalmBut (λ (nav : NavId). has_row nav s.history.rows ≡ false) s

-- that is asked only where no traversal runs
abbrev pub CalmUnless : (Seen → Type 0) → Option ReqId → Seen → Type 0
CalmUnless Calm None s = Calm s
CalmUnless Calm (Some run) s = Unit {0}

-- a load of the navigable was just applied: but for it and those below it the tab is calm; it is shown, a document of its target is there, and no entry hangs on that document's state
pub record IsCalmAround (s : Seen) (at : NavId) : Type 0 where
  pub but : IsCalmBut (λ (nav : NavId). has_nav (way_to s nav) at ≡ true) s
  pub target : Row
  pub to : target_entry s.history.rows at s.history.current ≡ Some target
  pub shown : is_shown s.history.rows s.history.current at ≡ true
  pub doc : DocId
  pub document : Document
  pub found : document_of s doc ≡ Some document
  pub usable : is_usable document target.state ≡ true
  pub childless : (row : Row) → Has s.history.rows row → row.owner ≡ Some target.state → ⊥

-- each navigable that is visited in need was never shown a document
abbrev pub NeedIsNew : Seen → Type 0
NeedIsNew s = (nav : NavId) (place : Place) → place_of s nav ≡ Some place → IsVisitedInNeed s place → place.epoch.0 ≡ 0

-- ---- whatever runs

-- the place was given an entry of its navigable in the history, or the document's state has one at the current step or before
abbrev pub IsRooted : Seen → Place → Document → Type 0
IsRooted s place d =
    ((row : Row) × (Has s.history.rows row) × (row.nav ≡ place.nav) × (place.given ≡ Some row.entry)) ⊎ ((row : Row) × (Has s.history.rows row) × (row.state ≡ d.state) × (row.step.0 ≤ s.history.current))

-- so it is of each that is awake on a document whose state has an entry
abbrev pub AreRooted : Seen → Type 0
AreRooted s =
    (nav : NavId) (place : Place) (doc : DocId) (d : Document) → place_of s nav ≡ Some place → place.status ≡ awake doc → document_of s doc ≡ Some d → has_state d.state s.history.rows ≡ true → IsRooted s place d

-- ---- where a traversal runs

-- who is awake, has an entry and wasn't moved by the traversal that runs, is where it is to be at the current step
abbrev pub UnmovedAreHere : Seen → Type 0
UnmovedAreHere s =
    (nav : NavId) (place : Place) (doc : DocId) → place_of s nav ≡ Some place → place.status ≡ awake doc → has_row nav s.history.rows ≡ true → is_moved s nav ≡ false → IsHere s place

-- the order shows a document
abbrev pub ShowsOne : Task → Type 0
ShowsOne (tasks.Activate entry epoch long at memo address) = Unit {0}
ShowsOne _ = ⊥

-- ---- what rows keep

-- where no traversal runs, the tab is calm as before, but for those without an entry, or around a load's navigable; and whatever runs, who is awake is rooted as before
pub record KeepsCalm (s t : Seen) : Type 0 where
  pub yet : aim_of s ≡ s.history.current → IsCalmYet s → IsCalmYet t
  pub around : aim_of s ≡ s.history.current → (at : NavId) → IsCalmAround s at → IsCalmAround t at
  pub rooted : AreRooted s → AreRooted t

-- ---- documents that are there

-- one is usable for the document state
abbrev pub HasUsable : Seen → StateId → Type 0
HasUsable s state = list_any (λ (d : Document). is_usable d state) s.documents ≡ true
