-- What the coordinator's tables keep of what a log has come to: each navigable by its number, the documents that are there or being made by their document states, the navigable and the process of each document, the history, and how many of each were numbered.
-- This project's own. Navigables and active documents are the HTML Standard's ("Navigables").
use Rattle.apply_plan.specs.Needs.{is_pending}
use Rattle.tab_doors.specs.Look.{Look, Sight, is_live_for, is_made_for, sight_in}
use Rattle.seen_facts.specs.Hang.Members.{Has}
use Rattle.log_model.specs.History.{History, has_nav}
use Rattle.log_model.specs.Order.{SameHistory}
use Rattle.log_model.specs.Seen.{Asked, Place, Status, asleep, awake, lost, place_in, request_in}
use Rattle.nav_tree.specs.Tree.{document_of, Tree, is_nav, is_state, node_of}
use Rattle.nav_tree.specs.declared.node.Node.{Node}
use Rattle.nav_tree.specs.declared.status.NavStatus.{NavStatus}
use Rattle.seen_facts.specs.Each.Runs.{EachAsked, is_run, is_this}
use Rattle.std.specs.List.{list_any}
use Rattle.std.specs.Map.{lookup}
use Rattle.std.specs.Prelude.{Bool, List, None, Option, Some, [], false, is_some, length, map, option_and_then, option_map, slice_get, true, ℕ, ◌+◌, ◌==◌, ◌∷◌, ◌≡◌}
use Rattle.step_index.specs.Held.{history_held}
use Rattle.tab_ids.specs.declared.DocId.{DocId}
use Rattle.tab_ids.specs.declared.JobId.{JobId}
use Rattle.tab_ids.specs.declared.NavId.{NavId}
use Rattle.tab_ids.specs.declared.ProcId.{ProcId}
use Rattle.tab_ids.specs.declared.ReqId.{ReqId}
use Rattle.tab_ids.specs.declared.StateId.{StateId}
use Rattle.nav_tree.specs.declared.status.NavStatus.TheVariants as kept
use Rattle.apply_plan.specs.Reaches.{is_awake}
use Rattle.nav_tree.specs.declared.place.Place as live
use Rattle.tab_doors.specs.declared.birth.Birth.{Birth}
use Rattle.tab_doors.specs.declared.tables.Tables.{Tables}

-- whether a navigable is awake, in the words of the log
abbrev pub status_of : NavStatus → Status
status_of (kept.Awake doc) = awake doc
status_of kept.Lost = lost
status_of kept.Asleep = asleep

-- the document is the navigable's own, is there, and was last told this
pub record IsHome (documents : List Sight) (nav : NavId) (told : Option (ℕ × ℕ)) (doc : DocId) : Type 0 where
  pub document : Sight
  pub found : sight_in documents doc ≡ Some document
  pub nav_is : document.nav ≡ nav
  pub told_is : document.told ≡ told

-- so is the document that the navigable is awake on, if it is awake
abbrev pub IsAwakeAtHome : List Sight → NavId → Option (ℕ × ℕ) → Status → Type 0
IsAwakeAtHome documents nav told (awake doc) = IsHome documents nav told doc
IsAwakeAtHome documents nav told _ = Unit {0}

-- what is kept of a navigable is its place in the log
pub record IsTied (documents : List Sight) (moved : List NavId) (node : Node) (place : Place) : Type 0 where
  pub parent : node.nav.parent ≡ slice_get place.above 0
  pub owner : node.nav.owner ≡ slice_get place.owners 0
  pub status : status_of node.nav.status ≡ place.status
  pub given : node.nav.given ≡ place.given
  pub epoch : node.nav.epoch ≡ place.epoch
  pub why : node.nav.why ≡ place.why
  pub moved_is : node.nav.moved ≡ has_nav moved place.nav
  pub stands : is_awake node.nav.status ≡ true → node.nav.stands ≡ place.is_delivered
  pub unmet : is_pending node.nav.reload ≡ place.is_unmet
  pub added_by : node.nav.added_by ≡ place.added_by
  pub destroyed_by : node.destroyed_by ≡ place.taken_by
  pub home : IsAwakeAtHome documents place.nav node.nav.told place.status

-- what the table finds under a number is what the log has under it
abbrev pub AreTied : List Sight → List NavId → NavId → Option Node → Option Place → Type 0
AreTied documents moved nav (Some node) (Some place) = (place.nav ≡ nav) × IsTied documents moved node place
AreTied documents moved nav None None = Unit {0}
AreTied documents moved nav _ _ = ⊥

-- the navigables
pub record AreHeld (look : Look) (tree : Tree) : Type 0 where
  pub navs : (nav : NavId) → AreTied look.documents look.moved nav (node_of nav tree) (place_in look.places nav)
  -- and the order in which they were made
  pub order : map (λ (e : NavId × Node). e.0) tree.navs ≡ map (λ (p : Place). p.nav) look.places

-- ---- documents

-- the document passes the test, and no other one does
pub record IsOneSuch (test : Sight → Bool) (documents : List Sight) (doc : DocId) : Type 0 where
  pub document : Sight
  pub found : sight_in documents doc ≡ Some document
  pub passes : test document ≡ true
  pub only : (d : Sight) → Has documents d → test d ≡ true → (d.nr.0 == doc.0) ≡ true

-- the table has a document that passes, or none does
abbrev pub IsListed : (Sight → Bool) → List Sight → Option DocId → Type 0
IsListed test documents (Some doc) = IsOneSuch test documents doc
IsListed test documents None = list_any test documents ≡ false

-- each key of a table stands in it once
abbrev pub AreOnceKeyed : {V : Type 0} → List (StateId × V) → Type 0
AreOnceKeyed [] = Unit {0}
AreOnceKeyed (e ∷ es) = (lookup (is_state e.0) es ≡ None) × AreOnceKeyed es

-- the document that is there, or being made, for each document state
pub record AreListed (documents : List Sight) (tree : Tree) (making : List (StateId × DocId)) : Type 0 where
  pub live : (state : StateId) → IsListed (is_live_for state) documents (option_map (λ (place : live.Place). place.doc) (document_of state tree))
  pub made : (state : StateId) → IsListed (is_made_for state) documents (lookup (is_state state) making)
  pub live_once : AreOnceKeyed tree.places
  pub made_once : AreOnceKeyed making

-- ---- whose documents are

-- the numbers of two documents are the same
abbrev pub is_doc : DocId → DocId → Bool
is_doc doc other = doc.0 == other.0

-- the navigable of a document, as the table has it
abbrev pub nav_in : List (DocId × Birth) → DocId → Option NavId
nav_in whose doc = option_map (λ (b : Birth). b.nav) (lookup (is_doc doc) whose)

-- and its process
abbrev pub proc_in : List (DocId × Birth) → DocId → Option ProcId
proc_in whose doc = option_map (λ (b : Birth). b.proc) (lookup (is_doc doc) whose)

-- the navigable and the process of a document of the log
abbrev pub birth_of : Sight → Birth
birth_of d = record { nav = d.nav; proc = d.proc }

-- the table has them of each document that was ever made
abbrev pub AreWhose : List Sight → List (DocId × Birth) → Type 0
AreWhose documents whose = (doc : DocId) → lookup (is_doc doc) whose ≡ option_map birth_of (sight_in documents doc)

-- the table has what is read of each navigable's place
abbrev pub AreRead : {B : Type 0} → (Place → Option B) → List Place → List (NavId × B) → Type 0
AreRead read places table = (nav : NavId) → lookup (is_nav nav) table ≡ option_and_then read (place_in places nav)

-- the table has the last order that showed the navigable a document, of each that an order showed one
abbrev pub AreShown : List Place → List (NavId × JobId) → Type 0
AreShown places shown = AreRead (λ (p : Place). p.last_job) places shown

-- and the document that it was shown last, of each that was ever shown one
abbrev pub AreLast : List Place → List (NavId × DocId) → Type 0
AreLast places last = AreRead (λ (p : Place). p.last) places last

-- the table has the document states of initial about:blank documents
abbrev pub AreInitial : List StateId → List (StateId × Unit {0}) → Type 0
AreInitial states table = (state : StateId) → is_some (lookup (is_state state) table) ≡ list_any (λ (initial : StateId). initial.0 == state.0) states

-- the history of the store is that of the log, up to the order of its rows
abbrev pub HoldsHistory : History → History → Type 0
HoldsHistory held history = SameHistory held history

-- ---- the traversal that runs

-- this traversal runs, or none
pub record IsRunning (asked : List Asked) (run : Option ReqId) : Type 0 where
  pub only : EachAsked (λ req q. is_run q ≡ is_this run req) asked
  pub there : (req : ReqId) → run ≡ Some req → (q : Asked) × (request_in asked req ≡ Some q)

-- ---- all of it

pub record Holds (look : Look) (t : Tables) : Type 0 where
  pub navs : AreHeld look t.tree
  pub documents : AreListed look.documents t.tree t.making.entries
  pub whose : AreWhose look.documents t.whose.entries
  pub shown : AreShown look.places t.shown.entries
  pub last : AreLast look.places t.last.entries
  pub history : HoldsHistory (history_held t.store) look.history
  pub numbered : t.documents ≡ length look.documents
  pub states : t.states ≡ look.states
  pub entries : t.entries ≡ look.entries
  -- an entry for the opening, and one for each order
  pub sent : length t.sent.items ≡ look.jobs + 1

-- ---- one that is awake

-- the navigable is awake on the document
pub record IsAwakeIn (tree : Tree) (nav : NavId) (doc : DocId) : Type 0 where
  pub node : Node
  pub there : node_of nav tree ≡ Some node
  pub wakes : node.nav.status ≡ kept.Awake doc
