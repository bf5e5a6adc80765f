-- Where no document may be kept: the one that is left is discarded, and so are those that were shown below it.
-- HTML Standard, "apply the history step" and "destroy a document"; that those below go with one, in the order of the walk, is this project's own.
use Rattle.log_model.specs.AfterPlaces.{sleepers_with}
use Rattle.log_model.specs.Equal.{has_doc}
use Rattle.log_model.specs.Places.{is_gone}
use Rattle.log_model.specs.Seen.{Document, Seen, document_of}
use Rattle.log_model.specs.declared.job.Why.{Why}
use Rattle.log_model.specs.declared.row_kind.RowKind.{RowKind}
use Rattle.seen_laws.specs.InEvent.{now_of}
use Rattle.std.specs.Prelude.{List, None, Some, [], false, length, take, true, ℕ, ◌<◌, ◌∷◌, ◌≡◌}
use Rattle.tab_doors.specs.Keeping.{Move}
use Rattle.tab_doors.specs.Working.{MayDiscardIn}
use Rattle.tab_doors.specs.declared.tables.Tables.{Tables}
use Rattle.tab_evicts.specs.Evicting.{IsGoneFor, IsThereBelow}
pub use Rattle.tab_evicts.specs.Evicting.{NoLoadBelow}
use Rattle.tab_ids.specs.declared.DocId.{DocId}
use Rattle.row_facts.specs.Left.Left.{WereShown}
use Rattle.std.specs.Prelude.{Option}
use Rattle.tab_ids.specs.declared.NavId.{NavId}
use Rattle.tab_ids.specs.declared.ReqId.{ReqId}
use Rattle.tab_ids.specs.declared.StateId.{StateId}
use Rattle.tab_moves.specs.Moving.{MayBeMoved}
use Rattle.tab_walk.specs.Moving.{InMove, IsBound}
pub use Rattle.tab_moves.specs.Making.{show_why}
pub use Rattle.tab_moves.specs.Moving.{InPass, MayCause}
use Rattle.tab_moves.specs.PassedOn.{without_all}
pub use Rattle.tab_passes.specs.Leaving.{OffAreLeft}
pub use Rattle.tab_moves.specs.PassedOn.{IsLeaving}

-- the document is there below the state, and nobody is awake on it any more
pub record IsCutBelow (s : Seen) (gone : StateId) (doc : DocId) : Type 0 where
  pub it : IsThereBelow s gone doc
  pub nobody : sleepers_with s doc ≡ []

-- these are, each another one
abbrev pub AreCutBelow : Seen → StateId → List DocId → Type 0
AreCutBelow s gone [] = Unit {0}
AreCutBelow s gone (doc ∷ docs) = IsCutBelow s gone doc × (has_doc docs doc ≡ false) × AreCutBelow s gone docs

-- the move that has begun, the document that is left for it, and the new one as it is
pub record InCut : Type 0 where
  pub pass : InPass
  pub move : Move
  pub left : DocId
  pub new : Document

-- the document of the state was discarded, and these are still to be; others are to be frozen or discarded, too
pub record IsCutting (c : InCut) (gone : StateId) (why : Why) (rest docs : List DocId) (out : List RowKind) (t : Tables) : Type 0 where
  pub leaving : IsLeaving c.pass (Some c.move) rest out t
  pub noted : c.move.left ≡ None
  pub may : MayCause (now_of c.pass.event out) why
  pub loads : NoLoadBelow (now_of c.pass.event out) gone
  pub gone_for : IsGoneFor (now_of c.pass.event out) gone
  pub gone_left : is_gone (now_of c.pass.event out) c.left ≡ true
  pub each : AreCutBelow (now_of c.pass.event out) gone docs
  pub new_found : document_of (now_of c.pass.event out) c.move.doc ≡ Some c.new
  pub apart : has_doc docs c.move.doc ≡ false
  pub kept : (now_of c.pass.event out).kept ≡ []
  pub off : OffAreLeft c.pass.event out why
  pub free : MayDiscardIn false c.pass.event

-- of a list, the turn of one: those that were still to be frozen or discarded at first, and now
pub record InCutTurn : Type 0 where
  pub cut : InCut
  pub gone : StateId
  pub first : List DocId
  pub rest : List DocId

pub record IsCutTurn (n : InCutTurn) (docs : List DocId) (i : ℕ) : Type 0 where
  pub low : i < length docs
  pub rest : n.rest ≡ without_all (take i docs) n.first

-- the same of a list
pub record InCuts : Type 0 where
  pub cut : InCut
  pub gone : StateId
  pub first : List DocId

-- ---- the first one

-- the move, which leaves none that is kept
abbrev pub cut_of : InMove → Move
cut_of m = record { doc = m.doc; left = None }

-- the navigable may leave its document, and none may be kept
pub record MayCut (m : InMove) (run : Option ReqId) (s : Seen) (nav : NavId) (left : DocId) (old : StateId) (why : Why) : Type 0 where
  pub its : m.nav ≡ nav
  pub its_left : m.left ≡ left
  pub its_state : m.state ≡ old
  pub for_run : why ≡ show_why run m.cause
  pub bound : IsBound m run s
  pub movable : MayBeMoved m.pass.event s m.nav why
  pub were : WereShown s
  pub loads : NoLoadBelow s m.state
  pub none : m.pass.event.header.keep ≡ 0
  pub free : MayDiscardIn false m.pass.event
  pub kept : s.kept ≡ []

-- such a move, those that are still to be frozen or discarded once the document that is left is discarded, and the new one as it is
pub record InCutLeft : Type 0 where
  pub m : InMove
  pub rest : List DocId
  pub new : Document

-- the navigable may be moved from the one document to the other one, and none may be kept
pub record MayCutFrom (m : InMove) (run : Option ReqId) (keep : ℕ) (s : Seen) : Type 0 where
  pub bound : IsBound m run s
  pub movable : MayBeMoved m.pass.event s m.nav (show_why run m.cause)
  pub were : WereShown s
  pub loads : NoLoadBelow s m.state
  pub header : keep ≡ m.pass.event.header.keep
  pub free : MayDiscardIn false m.pass.event
  pub none : keep ≡ 0
