-- A navigable is moved to the document that is there for its target: what it is between the rows of that.
-- HTML Standard, "apply the history step", "deactivate a document for a cross-document navigation" and "Documents kept for traversal"; orders and reasons are this project's own.
use Rattle.tab_facts.specs.Calm.Loads.{LoadsHaveDocuments}
use Rattle.seen_facts.specs.Hang.Members.{Has}
use Rattle.seen_facts.specs.Kept.Keeping.{kept_states}
use Rattle.row_facts.specs.Left.Left.{WereShown}
use Rattle.log_model.specs.History.{target_entry}
use Rattle.log_model.specs.Orders.{is_usable}
use Rattle.log_model.specs.Places.{aim_of}
use Rattle.log_model.specs.Seen.{Document, Place, Seen, document_of, place_of}
use Rattle.log_model.specs.declared.job.Why.{Why}
use Rattle.log_model.specs.declared.job.Job.{Job}
use Rattle.log_model.specs.declared.job.Task.{Task}
use Rattle.log_model.specs.declared.row.Row.{Row}
use Rattle.log_model.specs.declared.row_kind.RowKind.{RowKind}
use Rattle.seen_facts.proofs.Mover.Orders.{PutsToSleep}
use Rattle.seen_facts.specs.Mover.Movers.{IsMovedBy}
use Rattle.log_model.specs.Equal.{holds}
use Rattle.nav_tree.specs.Tree.{Tree, nav_of}
use Rattle.nav_tree.specs.declared.nav.Nav.{Nav}
use Rattle.seen_laws.specs.InEvent.{InEvent, now_of}
use Rattle.std.specs.Prelude.{Bool, List, None, Option, Some, [], drop, false, is_some, true, ◌++◌, ◌==◌, ◌∷◌, ◌≡◌, ◌≤◌, ℕ}
use Rattle.page_cache.specs.Kept.{left_first}
use Rattle.std.specs.Option.{option_to_list}
use Rattle.tab_doors.specs.Keeping.{Move}
use Rattle.tab_doors.specs.Working.{MayDiscardIn}
use Rattle.tab_moves.specs.Making.{awake_on, show_why}
use Rattle.seen_facts.specs.Walk.Walking.{LeavesOthers}
use Rattle.tab_evicts.specs.Evicting.{InEvicting, NoLoadBelow}
use Rattle.tab_ids.specs.declared.DocId.{DocId}
use Rattle.tab_ids.specs.declared.EntryId.{EntryId}
use Rattle.tab_ids.specs.declared.Epoch.{Epoch}
use Rattle.tab_ids.specs.declared.NavId.{NavId}
use Rattle.tab_ids.specs.declared.ReqId.{ReqId}
use Rattle.tab_ids.specs.declared.StateId.{StateId}
use Rattle.tab_facts.specs.FrameWhole.Tab.{AreAwakeWithRows}
use Rattle.tab_moves.specs.Moving.{AllAsleep, InPass, MayBeMoved, MayCause}
use Rattle.tab_passes.specs.Leaving.{IsLeaver}
use Rattle.tab_moves.specs.Showing.{IsWanted}
pub use Rattle.tab_moves.specs.PassedOn.{HasOnly}
use Rattle.row_facts.specs.WalkRows.Since.{IsVisitedInNeed}
use Rattle.log_model.specs.declared.job.Task.TheVariants as tasks
use Rattle.log_model.specs.declared.row_kind.RowKind.TheVariants as rows

-- no ongoing load is of a navigable below the state of a document that is kept
abbrev pub NoLoadBelowKept : Seen → Type 0
NoLoadBelowKept s = (gone : StateId) → Has (kept_states s) gone → NoLoadBelow s gone

-- the navigable may be moved, for a cause; it leaves what it shows for the reason, and no step is in its check, unless it was never shown a document; and who is awake has an entry
pub record MayMoveTo (p : InPass) (run : Option ReqId) (keep : ℕ) (s : Seen) (nav : NavId) (cause : Why) : Type 0 where
  pub may : MayCause s cause
  pub movable : MayBeMoved p.event s nav (show_why run cause)
  pub leaves : (place : Place) → place_of s nav ≡ Some place → 1 ≤ place.epoch.0 → IsLeaver s (show_why run cause) nav
  pub free : (place : Place) → place_of s nav ≡ Some place → 1 ≤ place.epoch.0 → MayDiscardIn false p.event
  pub rows_ : AreAwakeWithRows s
  pub were : WereShown s
  pub loads : NoLoadBelowKept s
  pub left_loads : (place : Place) (left : DocId) (d : Document) → place_of s nav ≡ Some place → place.last ≡ Some left → document_of s left ≡ Some d → d.is_discarded ≡ false → NoLoadBelow s d.state
  pub header : keep ≡ p.event.header.keep

-- the navigable, the cause, the document and the entry that it is to be shown, and the document that it leaves, with its state
pub record InMove : Type 0 where
  pub pass : InPass
  pub nav : NavId
  pub cause : Why
  pub doc : DocId
  pub entry : EntryId
  pub left : DocId
  pub state : StateId

-- it is to be shown that entry, its target, by that document, and leaves that other one, which it was shown last
pub record IsBound (m : InMove) (run : Option ReqId) (s : Seen) : Type 0 where
  pub place : Place
  pub placed : place_of s m.nav ≡ Some place
  pub visited : IsVisitedInNeed s place
  pub target : Row
  pub at : target_entry s.history.rows m.nav (aim_of s) ≡ Some target
  pub entry_is : target.entry ≡ m.entry
  pub last : place.last ≡ Some m.left
  pub apart : (m.left.0 == m.doc.0) ≡ false
  pub old : Document
  pub old_found : document_of s m.left ≡ Some old
  pub old_nav : old.nav ≡ m.nav
  pub old_state : old.state ≡ m.state
  pub undiscarded : old.is_discarded ≡ false
  pub unknown : old.is_known_dead ≡ false
  pub new : Document
  pub new_found : document_of s m.doc ≡ Some new
  pub new_nav : new.nav ≡ m.nav
  pub usable : is_usable new target.state ≡ true
  pub may : MayCause s m.cause
  pub moved : 1 ≤ place.epoch.0 → IsMovedBy s (show_why run m.cause) m.nav

-- the same, whatever became of what it leaves
pub record IsAimed (m : InMove) (run : Option ReqId) (s : Seen) : Type 0 where
  pub place : Place
  pub placed : place_of s m.nav ≡ Some place
  pub visited : IsVisitedInNeed s place
  pub target : Row
  pub at : target_entry s.history.rows m.nav (aim_of s) ≡ Some target
  pub entry_is : target.entry ≡ m.entry
  pub last : place.last ≡ Some m.left
  pub apart : (m.left.0 == m.doc.0) ≡ false
  pub new : Document
  pub new_found : document_of s m.doc ≡ Some new
  pub new_nav : new.nav ≡ m.nav
  pub usable : is_usable new target.state ≡ true
  pub may : MayCause s m.cause
  pub moved : 1 ≤ place.epoch.0 → IsMovedBy s (show_why run m.cause) m.nav

-- and is asleep, with all below it
pub record HasSetOff (m : InMove) (run : Option ReqId) (s : Seen) : Type 0 where
  pub bound : IsBound m run s
  pub sleeps : AllAsleep s m.nav
  pub were : WereShown s
  pub loads : NoLoadBelowKept s

-- ---- what the rows of a move leave

-- who isn't at or below the navigable is as it was, and for what orders may be sent, that may be so still; and each ongoing load has its document still
pub record IsPart (s t : Seen) (nav : NavId) : Type 0 where
  pub others : LeavesOthers s t nav
  pub parked : t.parked ≡ s.parked
  pub causes : (why : Why) → MayCause s why → MayCause t why
  pub loading : LoadsHaveDocuments s → LoadsHaveDocuments t

-- the row is an order, for this, that freezes or discards a document
pub record IsLeaveFor (why : Why) (row : RowKind) : Type 0 where
  pub job : Job
  pub is : row ≡ rows.Sent job
  pub why_is : job.why ≡ why
  pub puts : PutsToSleep job.task

-- nothing but such orders was put out
abbrev pub HasOnlyLeft : Why → List RowKind → List RowKind → Type 0
HasOnlyLeft why was out = HasOnly (IsLeaveFor why) was out

-- the order freezes a document, discards one or shows one
abbrev pub IsOfMove : Task → Type 0
IsOfMove tasks.Freeze = Unit {0}
IsOfMove tasks.Discard = Unit {0}
IsOfMove (tasks.Activate entry epoch length index memo address) = Unit {0}
IsOfMove _ = ⊥

-- the row is such an order, for this
pub record IsMoveFor (why : Why) (row : RowKind) : Type 0 where
  pub job : Job
  pub is : row ≡ rows.Sent job
  pub why_is : job.why ≡ why
  pub moves : IsOfMove job.task

-- nothing but such orders was put out
abbrev pub HasOnlyMoved : Why → List RowKind → List RowKind → Type 0
HasOnlyMoved why was out = HasOnly (IsMoveFor why) was out

-- the navigable left what it was shown last, which it hadn't if it was never shown a document, and by which each ongoing load kept its document; and last an order was put out that shows it its target's entry, by the document that is there for it, under the first epoch if it was never shown one
pub record HasBeenMoved (e : InEvent) (nav : NavId) (was out : List RowKind) : Type 0 where
  pub mid : List RowKind
  pub for_ : Why
  pub left : HasOnlyLeft for_ was mid
  pub first : (place : Place) → place_of (now_of e was) nav ≡ Some place → place.last ≡ None → mid ≡ was
  pub loading : LoadsHaveDocuments (now_of e was) → LoadsHaveDocuments (now_of e mid)
  pub job : Job
  pub entry : EntryId
  pub epoch : Epoch
  pub one : (place : Place) → place_of (now_of e was) nav ≡ Some place → place.last ≡ None → epoch.0 ≡ 1
  pub long : ℕ
  pub at : ℕ
  pub memo : Option (List ℕ)
  pub address : List ℕ
  pub task : job.task ≡ tasks.Activate entry epoch long at memo address
  pub wanted : IsWanted (now_of e mid) nav job.doc entry
  pub is : out ≡ mid ++ rows.Sent job ∷ []

-- ---- the parts

-- the move, as it has begun
abbrev pub move_of : InMove → Move
move_of m = record { doc = m.doc; left = Some m.state }

-- the navigable is awake, as the tables tell
abbrev pub is_up_in : Tree → NavId → Bool
is_up_in tree nav = holds (λ (n : Nav). is_some (awake_on n.status)) (nav_of nav tree)

-- it may set off
pub record MaySetOff (m : InMove) (run : Option ReqId) (s : Seen) (nav : NavId) (left : DocId) (why : Why) : Type 0 where
  pub its : m.nav ≡ nav
  pub its_left : m.left ≡ left
  pub for_run : why ≡ show_why run m.cause
  pub bound : IsBound m run s
  pub movable : MayBeMoved m.pass.event s nav why
  pub were : WereShown s
  pub loads : NoLoadBelowKept s

-- the document; where there is none, one that was never made
abbrev pub document_or : Option Document → Document
document_or (Some d) = d
document_or None =
    record {
      nr = record { 0 = 0 };
      nav = record { 0 = 0 };
      state = record { 0 = 0 };
      proc = record { 0 = 0 };
      incarnation = 0;
      slot = None;
      view = None;
      told = None;
      is_ready = false;
      is_fresh = false;
      is_frozen = false;
      is_discarded = false;
      dead_by = None;
      is_known_dead = false;
      last_applied = 0;
    }

-- the move as one for which another document is evicted
abbrev pub evicting_in : InMove → Seen → InEvicting
evicting_in m s = record { pass = m.pass; move = move_of m; left = m.left; state = m.state; new = document_or (document_of s m.doc) }

-- it has set off, and with the document that it leaves this is the only one beyond the bound, if there is one; the state is that of its target
pub record MayMakeRoom (m : InMove) (run : Option ReqId) (keep : ℕ) (s : Seen) (gone : Option StateId) (state : StateId) (why : Why) : Type 0 where
  pub for_run : why ≡ show_why run m.cause
  pub off : HasSetOff m run s
  pub is_state : off.bound.target.state ≡ state
  pub over : option_to_list gone ≡ drop keep (left_first m.state (kept_states s))
  pub header : keep ≡ m.pass.event.header.keep
  pub free : MayDiscardIn false m.pass.event
  pub some : 1 ≤ keep

-- ---- all of it, where the document that is left is kept

-- by the names of a call
abbrev pub in_move : InPass → NavId → Why → DocId → EntryId → DocId → StateId → InMove
in_move p nav cause doc entry left state = record { pass = p; nav = nav; cause = cause; doc = doc; entry = entry; left = left; state = state }

-- the navigable may be moved from the one document to the other one, of this document state
pub record MayMoveFrom (m : InMove) (run : Option ReqId) (keep : ℕ) (s : Seen) (state : StateId) : Type 0 where
  pub bound : IsBound m run s
  pub is_state : bound.target.state ≡ state
  pub movable : MayBeMoved m.pass.event s m.nav (show_why run m.cause)
  pub were : WereShown s
  pub loads : NoLoadBelowKept s
  pub header : keep ≡ m.pass.event.header.keep
  pub free : MayDiscardIn false m.pass.event
  pub some : 1 ≤ keep
