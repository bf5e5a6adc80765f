-- The stray documents: those that are made and there, whose document states have neither an entry in the history nor an ongoing load; and what their discarding leaves.
-- HTML Standard, "destroy a document" and "destroy a child navigable"; that a document of no entry is discarded, and for which request, is this project's own.
use Rattle.seen_facts.specs.Hang.Members.{Has}
use Rattle.seen_facts.specs.Load.Loading.{look_of}
use Rattle.leave_facts.specs.Leaving.{leaves_nav}
use Rattle.load_table.specs.Loads.{ongoing_load as load_in}
use Rattle.load_table.specs.declared.load.Load.{Load}
use Rattle.log_model.specs.Equal.{has_doc, holds}
use Rattle.log_model.specs.History.{has_nav, has_state}
use Rattle.log_model.specs.Orders.{ongoing_load}
use Rattle.log_model.specs.Places.{aim_of, is_below, way_to}
use Rattle.log_model.specs.Seen.{Asked, Document, Place, Seen, asleep, awake, document_of, place_of, request_of}
use Rattle.log_model.specs.declared.job.Job.{Job}
use Rattle.log_model.specs.declared.job.Why.{Why}
use Rattle.log_model.specs.declared.row_kind.RowKind.{RowKind}
use Rattle.seen_facts.proofs.Mover.Stays.{KeepWays}
use Rattle.seen_facts.specs.Mover.Movers.{IsMovedBy}
use Rattle.nav_tree.specs.Tree.{is_state, state_of}
use Rattle.seen_laws.specs.InEvent.{InEvent, now_of}
use Rattle.std.specs.Map.{lookup}
use Rattle.std.specs.Prelude.{Bool, List, None, Option, Some, [], false, filter_map, if◌then◌else◌, is_some, option_and_then, option_map, true, ℕ, ◌++◌, ◌<◌, ◌==◌, ◌||◌, ◌∷◌, ◌≡◌, ◌⊎◌}
use Rattle.step_index.specs.Held.{history_held}
use Rattle.tab_doors.specs.Ties.{nav_in}
use Rattle.tab_doors.specs.declared.tables.Tables.{Tables}
use Rattle.tab_ids.specs.declared.DocId.{DocId}
use Rattle.tab_ids.specs.declared.NavId.{NavId}
use Rattle.tab_ids.specs.declared.ReqId.{ReqId}
use Rattle.tab_ids.specs.declared.StateId.{StateId}
use Rattle.tab_passes.specs.Causes.{HasSetOut, MayCause, MayServe}
use Rattle.tab_passes.specs.Leaving.{WasOffOrLeft}
use Rattle.row_facts.specs.WalkRows.Since.{AwakeSince}
use Rattle.log_model.specs.declared.job.Task.TheVariants as tasks
use Rattle.log_model.specs.declared.job.Why.TheVariants as whys
use Rattle.log_model.specs.declared.row_kind.RowKind.TheVariants as rows

-- ---- which documents are stray

-- the document is made and not discarded, and its state has neither an entry nor an ongoing load
pub record IsStray (s : Seen) (doc : DocId) (state : StateId) : Type 0 where
  pub document : Document
  pub found : document_of s doc ≡ Some document
  pub its_state : document.state ≡ state
  pub ready : document.is_ready ≡ true
  pub undiscarded : document.is_discarded ≡ false
  pub bare : has_state state s.history.rows ≡ false
  pub unloaded : ongoing_load s state ≡ None

-- the document isn't stray
abbrev pub IsNoStray : Seen → DocId → Type 0
IsNoStray s doc = (state : StateId) → IsStray s doc state → ⊥

-- none is
abbrev pub NoneStray : Seen → Type 0
NoneStray s = (doc : DocId) → IsNoStray s doc

-- ---- as the tables tell

-- the ongoing load of the navigable has the document state
abbrev pub loads_state : List Load → NavId → StateId → Bool
loads_state loads nav state = holds (λ (load : Load). load.state.0 == state.0) (load_in nav loads)

-- the state, unless it has an entry, or is that of the navigable's load
abbrev pub unneeded_in : Tables → NavId → StateId → Option StateId
unneeded_in t nav state =
    if has_state state (history_held t.store).rows || loads_state t.loads nav state then None else Some state

-- the state of a document that is there, where it has neither an entry nor a load
abbrev pub stray_in : Tables → DocId → Option StateId
stray_in t doc = option_and_then (λ (nav : NavId). option_and_then (unneeded_in t nav) (state_of doc t.tree)) (nav_in t.whose.entries doc)

-- the document is so
abbrev pub is_stray_in : Tables → DocId → Bool
is_stray_in t doc = is_some (stray_in t doc)

-- ---- for whom they are discarded

-- the reason has moved each navigable that is awake on the document, and each below such a one
abbrev pub MovesUnder : Seen → DocId → Why → Type 0
MovesUnder s doc why =
    (nav : NavId) (place : Place) (other : NavId) (under : Place) → place_of s nav ≡ Some place → place.status ≡ awake doc → place_of s other ≡ Some under → ((other.0 == nav.0) ≡ true) ⊎ (is_below nav under ≡ true) → IsMovedBy s why other

-- the request has set out and hasn't begun, so it never does: a document made it, or it is a load that went to a fragment
pub record NeverBegins (q : Asked) : Type 0 where
  pub out : HasSetOut q
  pub unstarted : q.is_started ≡ false

-- the request is a load or reload of the navigable, or of one above it
pub record IsOverNav (s : Seen) (q : Asked) (nav : NavId) : Type 0 where
  pub at : NavId
  pub leaves : leaves_nav q.what ≡ Some at
  pub above : has_nav (way_to s nav) at ≡ true

-- the request may leave the navigable: it never begins, so it asks nobody, or it is a load or reload of it, or of one above it
pub record MayLeaveNav (s : Seen) (req : ReqId) (nav : NavId) : Type 0 where
  pub q : Asked
  pub found : request_of s req ≡ Some q
  pub how : NeverBegins q ⊎ IsOverNav s q nav

-- so it may each navigable that is awake on the document
abbrev pub LeavesAwake : Seen → DocId → ReqId → Type 0
LeavesAwake s doc req =
    (nav : NavId) (place : Place) → place_of s nav ≡ Some place → place.status ≡ awake doc → MayLeaveNav s req nav

-- a request of which this is so is noted for the state of a stray document, and whoever falls asleep with that one is moved by it, and whoever is awake on it may be left for it
pub record IsBlamedBy (serves : ReqId → Type 0) (s : Seen) (blame : List (StateId × ReqId)) (doc : DocId) (state : StateId) : Type 0 where
  pub req : ReqId
  pub noted : lookup (is_state state) blame ≡ Some req
  pub may : serves req
  pub moves : MovesUnder s doc (whys.Req req)
  pub leaves : LeavesAwake s doc req

-- one is noted for that of each
abbrev pub AreBlamedBy : (ReqId → Type 0) → Seen → List (StateId × ReqId) → Type 0
AreBlamedBy serves s blame = (doc : DocId) (state : StateId) → IsStray s doc state → IsBlamedBy serves s blame doc state

-- one for which orders may be sent
abbrev pub IsBlamed : Seen → List (StateId × ReqId) → DocId → StateId → Type 0
IsBlamed s blame doc state = IsBlamedBy (MayServe s) s blame doc state

abbrev pub AreBlamed : Seen → List (StateId × ReqId) → Type 0
AreBlamed s blame = AreBlamedBy (MayServe s) s blame

-- nobody was awake on a stray document as the event began, or it is left duly for the request that is noted for its state
abbrev pub StraysAreLeft : InEvent → List RowKind → List (StateId × ReqId) → Type 0
StraysAreLeft e out blame =
    (doc : DocId) (state : StateId) (req : ReqId) → IsStray (now_of e out) doc state → lookup (is_state state) blame ≡ Some req → WasOffOrLeft e out (whys.Req req) doc

-- ---- what is put out

-- the row is an order that discards a stray document, for the request that is noted for its state
pub record IsSweepOf (s : Seen) (blame : List (StateId × ReqId)) (row : RowKind) : Type 0 where
  pub job : Job
  pub is : row ≡ rows.Sent job
  pub discards : job.task ≡ tasks.Discard
  pub state : StateId
  pub stray : IsStray s job.doc state
  pub req : ReqId
  pub noted : lookup (is_state state) blame ≡ Some req
  pub why_is : job.why ≡ whys.Req req

-- the number of the document to which a row is an order
abbrev pub ordered_number : RowKind → Option ℕ
ordered_number (rows.Sent job) = Some job.doc.0
ordered_number _ = None

-- each number is less than those after it
abbrev pub AreAscending : List ℕ → Type 0
AreAscending [] = Unit {0}
AreAscending (n ∷ ns) = ((m : ℕ) → Has ns m → n < m) × AreAscending ns

-- nothing but such orders was put out, in the order of the documents' numbers
pub record HasOnlySwept (s : Seen) (blame : List (StateId × ReqId)) (was out : List RowKind) : Type 0 where
  pub more : List RowKind
  pub is : out ≡ was ++ more
  pub each : (row : RowKind) → Has more row → IsSweepOf s blame row
  pub ascending : AreAscending (filter_map ordered_number more)

-- ---- what is left

-- the navigable, or one above it, is awake on a stray document
pub record IsOnStray (s : Seen) (nav : NavId) : Type 0 where
  pub over : NavId
  pub own : Place
  pub there : place_of s over ≡ Some own
  pub doc : DocId
  pub wakes : own.status ≡ awake doc
  pub state : StateId
  pub stray : IsStray s doc state
  pub place : Place
  pub placed : place_of s nav ≡ Some place
  pub under : ((nav.0 == over.0) ≡ true) ⊎ (is_below over place ≡ true)

-- a place but for whether its navigable is awake, and why it fell asleep
abbrev pub but_status : Place → Place
but_status place = record place { status = asleep; why = whys.Req (record { 0 = 0 }) }

-- some stray documents were discarded: the history, the aim, what the requests are and what is held back is as it was; what orders may be for, and who was moved for whom, is so still; who is awake was so on the same document; each navigable's place is as it was but for whether it is awake, and in that, too, unless it, or one above it, was awake on a stray document; each document is of its state, and made if it was; and each other document is as it was, and kept if it was
pub record IsSweptTurn (s t : Seen) : Type 0 where
  pub history : t.history ≡ s.history
  pub aim : aim_of t ≡ aim_of s
  pub looks : (req : ReqId) → look_of t req ≡ look_of s req
  pub parked : t.parked ≡ s.parked
  pub causes : (why : Why) → MayCause s why → MayCause t why
  pub moved : (why : Why) (nav : NavId) → IsMovedBy s why nav → IsMovedBy t why nav
  pub awake_ : AwakeSince s [] t
  pub ways : KeepWays s.places t.places
  pub places : (nav : NavId) → option_map but_status (place_of t nav) ≡ option_map but_status (place_of s nav)
  pub stays : (nav : NavId) → (IsOnStray s nav → ⊥) → place_of t nav ≡ place_of s nav
  pub states : (doc : DocId) → option_map (λ (d : Document). d.state) (document_of t doc) ≡ option_map (λ (d : Document). d.state) (document_of s doc)
  pub ready : (doc : DocId) → option_map (λ (d : Document). d.is_ready) (document_of t doc) ≡ option_map (λ (d : Document). d.is_ready) (document_of s doc)
  pub others : (doc : DocId) → IsNoStray s doc → document_of t doc ≡ document_of s doc
  pub kept : (doc : DocId) → IsNoStray s doc → has_doc t.kept doc ≡ has_doc s.kept doc
  pub fewer : (doc : DocId) (state : StateId) → IsStray t doc state → IsStray s doc state
