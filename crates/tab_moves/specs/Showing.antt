-- A navigable is shown its target's entry by the document that is there for it.
-- HTML Standard, "apply the history step", "update document for history step application" and "activate history entry"; epochs, and that documents are shown by orders, are this project's own.
use Rattle.apply_plan.specs.Needs.{need_of}
use Rattle.apply_plan.specs.declared.need.Need.{Need}
use Rattle.log_model.specs.AfterPlaces.{sleepers_below}
use Rattle.log_model.specs.History.{row_of, target_entry}
use Rattle.log_model.specs.Orders.{is_usable}
use Rattle.log_model.specs.Places.{aim_of, pair_in}
use Rattle.nav_tree.specs.Tree.{nav_of}
use Rattle.nav_tree.specs.declared.nav.Nav.{Nav}
use Rattle.log_model.specs.Seen.{Document, Place, Seen, awake, document_of, place_of}
use Rattle.log_model.specs.declared.job.Why.{Why}
use Rattle.log_model.specs.declared.row.Row.{Row}
use Rattle.log_model.specs.declared.row_kind.RowKind.{RowKind}
use Rattle.seen_facts.specs.Mover.Movers.{IsMovedBy}
use Rattle.std.specs.Prelude.{List, None, Option, Some, [], length, option_map, true, ℕ, ◌++◌, ◌+◌, ◌∷◌, ◌≡◌, ◌≤◌}
use Rattle.step_index.specs.Held.{history_held}
use Rattle.tab_doors.specs.Keeping.{LeavesFor, Move}
use Rattle.tab_doors.specs.Orders.{order_to}
use Rattle.tab_doors.specs.declared.tables.Tables.{Tables}
use Rattle.tab_ids.specs.declared.DocId.{DocId}
use Rattle.tab_ids.specs.declared.EntryId.{EntryId}
use Rattle.tab_ids.specs.declared.Epoch.{Epoch}
use Rattle.tab_ids.specs.declared.NavId.{NavId}
use Rattle.tab_ids.specs.declared.ReqId.{ReqId}
use Rattle.tab_ids.specs.declared.StateId.{StateId}
use Rattle.tab_passes.specs.Causes.{MayCause, show_why}
use Rattle.tab_passes.specs.Passing.{InPass}
pub use Rattle.tab_passes.specs.Passing.{aim_in}
use Rattle.seen_facts.specs.Walk.Serving.{IsServedAt}
use Rattle.seen_facts.specs.Walk.Walking.{LeavesOthers}
use Rattle.row_facts.specs.WalkRows.Since.{IsVisitedInNeed}
use Rattle.log_model.specs.declared.job.Task.TheVariants as tasks
use Rattle.log_model.specs.declared.row_kind.RowKind.TheVariants as rows

-- what the navigable needs at the aim, as the tables tell
abbrev pub need_in : Tables → NavId → Option Need
need_in t nav = need_of (history_held t.store).rows (aim_in (history_held t.store) t.running t.goal) t.tree nav

-- the walk visits the navigable, which needs its target, and this is the document that is there for it
pub record IsWanted (s : Seen) (nav : NavId) (doc : DocId) (entry : EntryId) : Type 0 where
  pub place : Place
  pub placed : place_of s nav ≡ Some place
  pub visited : IsVisitedInNeed s place
  pub target : Row
  pub at : target_entry s.history.rows nav (aim_of s) ≡ Some target
  pub entry_is : target.entry ≡ entry
  pub document : Document
  pub found : document_of s doc ≡ Some document
  pub nav_is : document.nav ≡ nav
  pub usable : is_usable document target.state ≡ true

-- where nothing is left that is kept then, no more are kept than may be
abbrev pub FewUnlessLeft : Option Move → Seen → ℕ → Type 0
FewUnlessLeft None s keep = length s.kept ≤ keep
FewUnlessLeft (Some move) s keep = by_left move.left
  where
    by_left : Option StateId → Type 0
    by_left None = length s.kept ≤ keep
    by_left (Some state) = Unit {0}

-- it may be shown it: nobody falls asleep for that, what is left is what the move has noted, and the reason moved the navigable, unless this is its first document
pub record IsToShow (move : Option Move) (run : Option ReqId) (keep : ℕ) (s : Seen) (nav : NavId) (doc : DocId) (entry : EntryId) (cause : Why) : Type 0 where
  pub wanted : IsWanted s nav doc entry
  pub may : MayCause s cause
  pub moved : 1 ≤ wanted.place.epoch.0 → IsMovedBy s (show_why run cause) nav
  pub own : (other : DocId) → wanted.place.status ≡ awake other → other ≡ doc
  pub nobody : sleepers_below s doc wanted.place ≡ []
  pub leaves : LeavesFor move s doc wanted.target.state keep
  pub few : FewUnlessLeft move s keep

-- where a move has begun in a pass, or none has
pub record InShowing : Type 0 where
  pub pass : InPass
  pub move : Option Move

-- the navigable was served: it, and nobody else, was put where it is to be, and for what orders may be sent, that may be so still
pub record IsTurn (s t : Seen) (nav : NavId) : Type 0 where
  pub own : IsServedAt t nav
  pub others : LeavesOthers s t nav
  pub parked : t.parked ≡ s.parked
  pub causes : (why : Why) → MayCause s why → MayCause t why

-- one order was put out, that shows this document the entry: with its memo and its address, with length and index at the aim, and with the navigable's next epoch
pub record IsShownBy (s : Seen) (t : Tables) (nav : NavId) (doc : DocId) (entry : EntryId) (why : Why) (was out : List RowKind) : Type 0 where
  pub target : Row
  pub at_row : row_of entry (history_held t.store).rows ≡ Some target
  pub epoch : Epoch
  pub raised : option_map (λ (n : Nav). n.epoch.0 + 1) (nav_of nav t.tree) ≡ Some epoch.0
  pub long : ℕ
  pub at : ℕ
  pub pair : (long, at) ≡ pair_in (history_held t.store).rows (aim_in (history_held t.store) t.running t.goal)
  pub is : out ≡ was ++ rows.Sent (order_to s doc why (tasks.Activate entry epoch long at target.memo target.address)) ∷ []
