-- A coordinator in an event of a tab with loads while documents are left: those that ran below one that was frozen or discarded are still to be.
-- HTML Standard, "apply the history step" and "Documents kept for traversal"; that what is left is frozen or discarded by orders is this project's own.
use Rattle.seen_facts.specs.Hang.Members.{Has}
use Rattle.seen_facts.specs.Kept.Keeping.{kept_states}
use Rattle.leave_facts.proofs.Carried.{AreLeftDuly}
pub use Rattle.leave_facts.specs.Leaving.{IsLeftDulyFor, IsLeaver}
use Rattle.load_table.specs.Loads.{ongoing_load}
use Rattle.load_table.specs.declared.load.Load.{Load}
use Rattle.log_model.specs.Equal.{has_doc, holds}
use Rattle.log_model.specs.History.{has_nav}
use Rattle.log_model.specs.Places.{is_awake_on, shower_of, way_of}
use Rattle.log_model.specs.Seen.{Document, Place, Seen, document_of, place_of}
use Rattle.log_model.specs.AfterPlaces.{sleepers_with, without_doc}
use Rattle.log_model.specs.declared.row_kind.RowKind.{RowKind}
use Rattle.log_model.specs.declared.job.Job.{Job}
use Rattle.log_model.specs.declared.job.Why.{Why}
use Rattle.tab_facts.proofs.TabGoing.PassedOn.{MayMove}
use Rattle.seen_facts.proofs.Mover.Orders.{MovesEach}
use Rattle.row_facts.specs.Owed.Owed.{IsOwed}
use Rattle.nav_tree.specs.Tree.{Tree, document_of as document_at}
use Rattle.nav_tree.specs.declared.place.Place as live_place
use Rattle.row_facts.specs.RestRows.Left.{left_below}
use Rattle.row_facts.specs.RestRows.Moving.{RestBut}
use Rattle.seen_laws.specs.InEvent.{InEvent, log_of, now_of}
use Rattle.std.specs.Prelude.{ℕ, Bool, List, None, Option, Some, false, map, option_map, true, ◌++◌, ◌==◌, ◌||◌, ◌≡◌, ◌⊎◌, [], fold, ◌∷◌, take, drop, length, ◌+◌, ◌<◌}
use Rattle.tab_doors.specs.Keeping.{Move}
use Rattle.tab_doors.specs.Look.{Sight, sight}
use Rattle.tab_doors.specs.Working.{IsAtWorkIn}
use Rattle.tab_doors.specs.declared.tables.Tables.{Tables}
pub use Rattle.tab_facts.specs.TabGoing.Going.{IsGoing}
use Rattle.tab_ids.specs.declared.DocId.{DocId}
use Rattle.tab_ids.specs.declared.NavId.{NavId}
use Rattle.tab_ids.specs.declared.StateId.{StateId}
use Rattle.tab_passes.specs.Causes.{MayCause, show_why}
use Rattle.tab_passes.specs.Passing.{HasOnly, InPass}
use Rattle.seen_facts.specs.Walk.Walking.{LeavesOthers}
use Rattle.log_model.specs.declared.job.Task.TheVariants as tasks
use Rattle.log_model.specs.declared.row_kind.RowKind.TheVariants as rows

-- with the move that has begun, if one has, and these documents still to be frozen or discarded; where documents are swept, or none are
pub record IsLeavingIn (sweeps : Bool) (p : InPass) (move : Option Move) (docs : List DocId) (out : List RowKind) (t : Tables) : Type 0 where
  pub work : IsAtWorkIn sweeps move p.event out t
  pub going : IsGoing t.running p.loads p.hand (now_of p.event out)
  pub owed : IsOwed p.event out
  pub rests : RestBut docs (now_of p.event out)
  pub duly : AreLeftDuly (log_of p.event out)

-- where none are
abbrev pub IsLeaving : InPass → Option Move → List DocId → List RowKind → Tables → Type 0
IsLeaving p move docs out t = IsLeavingIn false p move docs out t

-- the document may be left for a reason, for which orders may be sent: it is made, and who falls asleep with it is moved by the reason, which is no traversal that is still to begin
pub record MayLeave (s : Seen) (doc : DocId) (why : Why) : Type 0 where
  pub document : Document
  pub found : document_of s doc ≡ Some document
  pub ready : document.is_ready ≡ true
  pub moves : MovesEach s why (sleepers_with s doc)
  pub begun : MayMove s why (sleepers_with s doc)
  pub may : MayCause s why

-- the document is made, it is the one that is there for its state, which is no ongoing load's
pub record IsGoneAt (s : Seen) (tree : Tree) (loads : List Load) (doc : DocId) (state : StateId) : Type 0 where
  pub document : Document
  pub found : document_of s doc ≡ Some document
  pub its_state : (x : Sight) → Has (map sight s.documents) x → (x.nr.0 == doc.0) ≡ true → x.state ≡ state
  pub ready : document.is_ready ≡ true
  pub its : option_map (λ (p : live_place.Place). p.doc) (document_at state tree) ≡ Some doc
  pub unloaded : (nav : NavId) (load : Load) → ongoing_load nav loads ≡ Some load → (state.0 == load.state.0) ≡ false

-- those that are still to be frozen or discarded once the document is: those that who falls asleep with it is awake on, too
abbrev pub left_then : Seen → DocId → List DocId → List DocId
left_then s doc docs = left_below s doc ++ without_doc doc docs

-- where documents are left, the move that has begun, if one has, and those that are still to be frozen or discarded
pub record InLeaving : Type 0 where
  pub pass : InPass
  pub move : Option Move
  pub docs : List DocId

-- where one is discarded: the same, and whether documents are swept
pub record InDiscarding : Type 0 where
  pub pass : InPass
  pub move : Option Move
  pub docs : List DocId
  pub sweeps : Bool

-- a document of a navigable at or below this one is to be frozen: it is made and there, not frozen yet, without a handler, and a navigable was awake on it as the event began
pub record IsToFreeze (e : InEvent) (s : Seen) (nav : NavId) (doc : DocId) : Type 0 where
  pub document : Document
  pub found : document_of s doc ≡ Some document
  pub ready : document.is_ready ≡ true
  pub alive : (document.is_discarded || document.is_known_dead) ≡ false
  pub unfrozen : document.is_frozen ≡ false
  pub unhandled : document.slot ≡ None
  pub place : Place
  pub was_awake : shower_of e.start doc ≡ Some place
  pub below : has_nav (way_of place) nav ≡ true

-- the document that the move shows is of the navigable, which wasn't awake on it as the event began
pub record IsNewFor (e : InEvent) (s : Seen) (move : Move) (nav : NavId) : Type 0 where
  pub document : Document
  pub found : document_of s move.doc ≡ Some document
  pub nav_is : document.nav ≡ nav
  pub other : holds (is_awake_on move.doc) (place_of e.start nav) ≡ false

-- ---- documents below one that was left

-- the document is to be frozen, isn't the new one, and nobody is awake on it any more
pub record IsLeftBelow (e : InEvent) (s : Seen) (move : Move) (nav : NavId) (doc : DocId) : Type 0 where
  pub its : IsToFreeze e s nav doc
  pub apart : (doc.0 == move.doc.0) ≡ false
  pub nobody : sleepers_with s doc ≡ []

-- these are, each another one
abbrev pub AreLeftBelow : InEvent → Seen → Move → NavId → List DocId → Type 0
AreLeftBelow e s move nav [] = Unit {0}
AreLeftBelow e s move nav (doc ∷ docs) = IsLeftBelow e s move nav doc × (has_doc docs doc ≡ false) × AreLeftBelow e s move nav docs

-- without these
abbrev pub without_all : List DocId → List DocId → List DocId
without_all docs left = fold (λ (l : List DocId) (doc : DocId). without_doc doc l) left docs

-- a move of this navigable has begun, for a cause
pub record InFreezing : Type 0 where
  pub pass : InPass
  pub move : Move
  pub nav : NavId
  pub cause : Why

-- each of these documents is left duly for a reason
abbrev pub AreLeftDulyFor : Seen → List DocId → Why → Type 0
AreLeftDulyFor s docs why = (doc : DocId) → has_doc docs doc ≡ true → IsLeftDulyFor s doc why

-- nobody was awake on the document as the event began, or it is left duly for a reason
abbrev pub WasOffOrLeft : InEvent → List RowKind → Why → DocId → Type 0
WasOffOrLeft e out why doc = (shower_of e.start doc ≡ None) ⊎ IsLeftDulyFor (log_of e out) doc why

-- so it is of each document that is made and there, on which nobody is awake
abbrev pub OffAreLeft : InEvent → List RowKind → Why → Type 0
OffAreLeft e out why =
    (doc : DocId) (d : Document) → document_of (now_of e out) doc ≡ Some d → d.is_ready ≡ true → d.is_discarded ≡ false → shower_of (now_of e out) doc ≡ None → WasOffOrLeft e out why doc

-- the rows keep that, whatever the reason
abbrev pub KeepsOff : InEvent → List RowKind → List RowKind → Type 0
KeepsOff e was out = (why : Why) → OffAreLeft e was why → OffAreLeft e out why

-- these documents are still to be frozen or discarded, and among them these, one after the other, on which nobody is awake, each left duly
pub record IsFreezing (l : InFreezing) (why : Why) (left docs : List DocId) (out : List RowKind) (t : Tables) : Type 0 where
  pub leaving : IsLeaving l.pass (Some l.move) left out t
  pub for_run : why ≡ show_why t.running l.cause
  pub may : MayCause (now_of l.pass.event out) why
  pub new : IsNewFor l.pass.event (now_of l.pass.event out) l.move l.nav
  pub each : AreLeftBelow l.pass.event (now_of l.pass.event out) l.move l.nav docs
  pub lefts : AreLeftDulyFor (log_of l.pass.event out) docs why

-- of these that are still to be frozen or discarded, those that are to be frozen after the next one
pub record InNext : Type 0 where
  pub freezing : InFreezing
  pub left : List DocId
  pub docs : List DocId

-- the same of a list: those that were still to be frozen or discarded at first
pub record InTurn : Type 0 where
  pub next : InNext
  pub first : List DocId

-- so many of the documents of a list were frozen
abbrev pub IsFreezingAt : InFreezing → Why → List DocId → List DocId → ℕ → List RowKind → Tables → Type 0
IsFreezingAt l why first docs i out t = IsFreezing l why (without_all (take i docs) first) (drop i docs) out t

-- it is the turn of the next one
pub record IsTurnAt (n : InTurn) (docs : List DocId) (i : ℕ) : Type 0 where
  pub low : i < length docs
  pub left : n.next.left ≡ without_all (take i docs) n.first
  pub rest : n.next.docs ≡ drop (i + 1) docs

-- the row is an order, for this, that freezes one of these documents
pub record IsFreezeOf (why : Why) (docs : List DocId) (row : RowKind) : Type 0 where
  pub job : Job
  pub is : row ≡ rows.Sent job
  pub why_is : job.why ≡ why
  pub freezes : job.task ≡ tasks.Freeze
  pub among : has_doc docs job.doc ≡ true

-- nothing but such orders was put out
abbrev pub HasOnlyFrozen : Why → List DocId → List RowKind → List RowKind → Type 0
HasOnlyFrozen why docs was out = HasOnly (IsFreezeOf why docs) was out

-- rows that freeze these documents, on which nobody is awake: the places and the kept documents stay, and so does each other document
pub record IsStill (docs : List DocId) (s t : Seen) : Type 0 where
  pub places : t.places ≡ s.places
  pub leaves : (nav : NavId) → LeavesOthers s t nav
  pub kept : t.kept ≡ s.kept
  pub states : kept_states t ≡ kept_states s
  pub documents : (doc : DocId) → has_doc docs doc ≡ false → document_of t doc ≡ document_of s doc
