-- The document of a state that is kept no longer is discarded, with all that are there below it.
-- HTML Standard, "Documents kept for traversal" and "destroy a document"; how many are kept, and that those below go with one, is this project's own.
use Rattle.apply_plan.specs.Order.{rest}
use Rattle.tab_facts.specs.Calm.Loads.{LoadsHaveDocuments}
use Rattle.seen_facts.specs.Home.Homes.{IsOnAwake}
use Rattle.seen_facts.specs.Kept.Keeping.{kept_states}
use Rattle.row_facts.specs.Left.Left.{WereShown}
use Rattle.seen_facts.specs.Load.Loading.{is_ongoing, look_of}
use Rattle.log_model.specs.Equal.{has_doc, holds}
use Rattle.log_model.specs.Places.{hangs_on}
use Rattle.log_model.specs.Once.{loads}
use Rattle.log_model.specs.Seen.{Document, Place, Seen, awake, document_of, place_of}
use Rattle.log_model.specs.declared.job.Job.{Job}
use Rattle.log_model.specs.declared.job.Why.{Why}
use Rattle.log_model.specs.declared.row_kind.RowKind.{RowKind}
use Rattle.seen_facts.specs.Load.Loading.{Look}
use Rattle.nav_tree.specs.Tree.{Tree, nav_of, state_of}
use Rattle.nav_tree.specs.declared.nav.Nav.{Nav}
use Rattle.page_cache.specs.Kept.{left_first}
use Rattle.seen_laws.specs.InEvent.{now_of}
use Rattle.std.specs.List.{list_any}
use Rattle.std.specs.Prelude.{Bool, List, None, Option, Some, [], drop, false, if◌then◌else◌, length, option_and_then, option_map, true, ℕ, ◌==◌, ◌∷◌, ◌≡◌, ◌≤◌}
use Rattle.tab_doors.specs.Keeping.{Move}
use Rattle.tab_doors.specs.Ties.{nav_in}
use Rattle.tab_doors.specs.Working.{MayDiscardIn}
use Rattle.tab_doors.specs.declared.tables.Tables.{Tables}
use Rattle.tab_ids.specs.declared.DocId.{DocId}
use Rattle.tab_ids.specs.declared.NavId.{NavId}
use Rattle.tab_ids.specs.declared.ReqId.{ReqId}
use Rattle.tab_ids.specs.declared.StateId.{StateId}
use Rattle.tab_passes.specs.Causes.{MayCause}
use Rattle.tab_passes.specs.Leaving.{IsLeavingIn}
pub use Rattle.tab_passes.specs.Leaving.{OffAreLeft}
use Rattle.tab_passes.specs.Passing.{HasOnly, InPass}
use Rattle.seen_facts.specs.Walk.Walking.{LeavesOthers}
use Rattle.log_model.specs.declared.job.Task.TheVariants as tasks
use Rattle.log_model.specs.declared.row_kind.RowKind.TheVariants as rows

-- ---- what hangs on a document state

-- the document state on which a navigable hangs
abbrev pub owner_in : Tree → NavId → Option StateId
owner_in tree nav = option_and_then (λ (n : Nav). n.owner) (nav_of nav tree)

-- it is this one
abbrev pub is_owned_by : Tree → StateId → NavId → Bool
is_owned_by tree state nav = holds (λ (owner : StateId). owner.0 == state.0) (owner_in tree nav)

-- one of the navigables of these numbers hangs on the document state
abbrev pub any_owned_by : Tree → StateId → List ℕ → Bool
any_owned_by tree state navs = list_any (λ (n : ℕ). is_owned_by tree state (record { 0 = n })) navs

-- the navigable, or one of those above it, does
abbrev pub hangs_in : Tree → StateId → NavId → Bool
hangs_in tree state nav = any_owned_by tree state (nav.0 ∷ rest (length tree.navs) tree nav)

-- the state of a document that is there, where its navigable hangs so
abbrev pub below_in : Tables → StateId → DocId → Option StateId
below_in t gone doc = option_and_then (λ (nav : NavId). if hangs_in t.tree gone nav then state_of doc t.tree else None) (nav_in t.whose.entries doc)

-- ---- while documents below a discarded one are, too

-- no ongoing load is of a navigable below the state
abbrev pub NoLoadBelow : Seen → StateId → Type 0
NoLoadBelow s gone =
    (req : ReqId) (l : Look) (nav : NavId) (place : Place) → look_of s req ≡ Some l → is_ongoing l ≡ true → loads nav l.what ≡ true → place_of s nav ≡ Some place → hangs_on gone place ≡ false

-- nobody is awake on a document below the state
abbrev pub NoneBelow : Seen → StateId → Type 0
NoneBelow s gone = (nav : NavId) (place : Place) (doc : DocId) → place_of s nav ≡ Some place → place.status ≡ awake doc → hangs_on gone place ≡ false

-- where one is: the move that has begun, the document that is left for it, with its state, and the new one as it is
pub record InEvicting : Type 0 where
  pub pass : InPass
  pub move : Move
  pub left : DocId
  pub state : StateId
  pub new : Document

-- the navigable that is moved, which isn't below the state; what it leaves, and what it is shown then, are there
pub record IsBeside (s : Seen) (gone : StateId) (m : InEvicting) : Type 0 where
  pub nav : NavId
  pub place : Place
  pub placed : place_of s nav ≡ Some place
  pub outside : hangs_on gone place ≡ false
  pub old : Document
  pub found : document_of s m.left ≡ Some old
  pub its_nav : old.nav ≡ nav
  pub its_state : old.state ≡ m.state
  pub undiscarded : old.is_discarded ≡ false
  pub new_found : document_of s m.move.doc ≡ Some m.new
  pub new_nav : m.new.nav ≡ nav

-- a document of the state was discarded
pub record IsGoneFor (s : Seen) (gone : StateId) : Type 0 where
  pub doc : DocId
  pub document : Document
  pub found : document_of s doc ≡ Some document
  pub discarded : document.is_discarded ≡ true
  pub its_state : document.state ≡ gone

-- the move leaves the document of this state, it is beside, and there is room for all that are kept then
pub record HasRoomBeside (m : InEvicting) (gone : StateId) (s : Seen) (keep : ℕ) : Type 0 where
  pub noted : m.move.left ≡ Some m.state
  pub beside : IsBeside s gone m
  pub room : length (left_first m.state (kept_states s)) ≤ keep

-- where one is: the move that has begun, if one has, and whether documents are swept
pub record InLetting : Type 0 where
  pub pass : InPass
  pub moved : Option InEvicting
  pub sweeps : Bool

abbrev pub move_in : InLetting → Option Move
move_in l = option_map (λ (m : InEvicting). m.move) l.moved

-- the document of the state was discarded, and those below it may be; where a move has begun, there is room for all that are kept then
pub record IsLetting (l : InLetting) (gone : StateId) (why : Why) (out : List RowKind) (t : Tables) : Type 0 where
  pub leaving : IsLeavingIn l.sweeps l.pass (move_in l) [] out t
  pub may : MayCause (now_of l.pass.event out) why
  pub were : WereShown (now_of l.pass.event out)
  pub loads : NoLoadBelow (now_of l.pass.event out) gone
  pub gone_for : IsGoneFor (now_of l.pass.event out) gone
  pub none : NoneBelow (now_of l.pass.event out) gone
  pub moving : (m : InEvicting) → l.moved ≡ Some m → HasRoomBeside m gone (now_of l.pass.event out) t.kept.keep
  -- who isn't shown wasn't as the event began, or is left duly
  pub off : OffAreLeft l.pass.event out why
  -- no step was in its check as the event began or was cut, or documents are swept
  pub free : MayDiscardIn l.sweeps l.pass.event

-- the same within a move
abbrev pub letting_for : InEvicting → InLetting
letting_for m = record { pass = m.pass; moved = Some m; sweeps = false }

abbrev pub IsEvicting : InEvicting → StateId → Why → List RowKind → Tables → Type 0
IsEvicting m gone why out t = IsLetting (letting_for m) gone why out t

-- ---- what such orders leave

-- the row is an order, for this, that discards a document
pub record IsDiscardFor (why : Why) (row : RowKind) : Type 0 where
  pub job : Job
  pub is : row ≡ rows.Sent job
  pub why_is : job.why ≡ why
  pub discards : job.task ≡ tasks.Discard

abbrev pub HasOnlyDiscarded : Why → List RowKind → List RowKind → Type 0
HasOnlyDiscarded why was out = HasOnly (IsDiscardFor why) was out

-- the places, the history and the aim stay, and each ongoing load has its document still
pub record StaysPlaced (s t : Seen) : Type 0 where
  pub places : t.places ≡ s.places
  pub leaves : (nav : NavId) → LeavesOthers s t nav
  pub loading : LoadsHaveDocuments s → LoadsHaveDocuments t

-- ---- what is left below

-- the document is made and there, and its navigable is below the state
pub record IsThereBelow (s : Seen) (gone : StateId) (doc : DocId) : Type 0 where
  pub document : Document
  pub found : document_of s doc ≡ Some document
  pub ready : document.is_ready ≡ true
  pub undiscarded : document.is_discarded ≡ false
  pub unknown : document.is_known_dead ≡ false
  pub place : Place
  pub placed : place_of s document.nav ≡ Some place
  pub below : hangs_on gone place ≡ true

-- it isn't
abbrev pub IsNotBelow : Seen → StateId → DocId → Type 0
IsNotBelow s gone doc = IsThereBelow s gone doc → ⊥

-- none of these is
abbrev pub NoneOfBelow : List DocId → Seen → StateId → Type 0
NoneOfBelow docs s gone = (doc : DocId) → has_doc docs doc ≡ true → IsNotBelow s gone doc

-- none is
abbrev pub NoneThereBelow : Seen → StateId → Type 0
NoneThereBelow s gone = (doc : DocId) → IsNotBelow s gone doc

-- each that is there then was so before
abbrev pub NoMoreBelow : StateId → Seen → Seen → Type 0
NoMoreBelow gone s t = (doc : DocId) → IsThereBelow t gone doc → IsThereBelow s gone doc

-- ---- the first one

-- the state is to be let go for the one that is left: its document is that which is kept longest, and too many would be
pub record IsToEvict (m : InEvicting) (gone : StateId) (why : Why) (s : Seen) (keep : ℕ) : Type 0 where
  pub noted : m.move.left ≡ Some m.state
  pub may : MayCause s why
  pub were : WereShown s
  pub loads : NoLoadBelow s gone
  pub header : keep ≡ m.pass.event.header.keep
  pub free : MayDiscardIn false m.pass.event
  pub over : drop keep (left_first m.state (kept_states s)) ≡ gone ∷ []
  pub kept : (gone.0 == m.state.0) ≡ false
  -- the navigable that is moved, and what it leaves
  pub nav : NavId
  pub place : Place
  pub placed : place_of s nav ≡ Some place
  pub on : (parent : NavId) (others : List NavId) → place.above ≡ parent ∷ others → IsOnAwake s place parent
  pub last : place.last ≡ Some m.left
  pub apart : (m.left.0 == m.move.doc.0) ≡ false
  pub old : Document
  pub found : document_of s m.left ≡ Some old
  pub its_nav : old.nav ≡ nav
  pub its_state : old.state ≡ m.state
  pub undiscarded : old.is_discarded ≡ false
  pub unknown : old.is_known_dead ≡ false
  pub new_found : document_of s m.move.doc ≡ Some m.new
  pub new_nav : m.new.nav ≡ nav
  pub another : (gone.0 == m.new.state.0) ≡ false
