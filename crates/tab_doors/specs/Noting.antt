-- What the tables note of a report as it is delivered: that a document is made, or that it shows what its navigable was given last; and how they begin.
-- HTML Standard, "attempt to populate the history entry's document" and "activate history entry"; reports and numbers of orders are this project's own.
use Rattle.tab_doors.specs.declared.tables.Tables.{Tables}  -- keep
use Rattle.tab_doors.specs.Ties.{AreInitial, nav_in, proc_in}
use Rattle.address.specs.Addresses.{blank_text}
use Rattle.load_table.specs.Loads.{is_populating, moved_on, ongoing_load}
use Rattle.load_table.specs.declared.load.Load.{Load}
use Rattle.load_table.specs.declared.phase.Phase.TheVariants as phases
use Rattle.log_model.specs.Equal.{holds}
use Rattle.log_model.specs.Opening.{opening_history}
use Rattle.nav_tree.specs.Tree.{Tree, is_nav, is_state, placed, top_node, with_nav}
use Rattle.nav_tree.specs.declared.nav.Nav.{Nav}
use Rattle.std.specs.Map.{lookup, remove_entry}
use Rattle.std.specs.Option.{option_map_or}
use Rattle.std.specs.Prelude.{Bool, List, None, Option, Some, [], bytes_eq, find, if◌then◌else◌, length, option_and_then, true, ℕ, ◌==◌, ◌∷◌, ◌≡◌}
use Rattle.step_index.specs.Held.{history_held}
use Rattle.tab_ids.specs.declared.DocId.{DocId}
use Rattle.tab_ids.specs.declared.JobId.{JobId}
use Rattle.tab_ids.specs.declared.NavId.{NavId}
use Rattle.tab_ids.specs.declared.ProcId.{ProcId}
use Rattle.tab_ids.specs.declared.ReqId.{ReqId}
use Rattle.tab_ids.specs.declared.StateId.{StateId}

-- the request of the navigable's ongoing load, where that waits for the document
abbrev pub waiting_in : List Load → NavId → DocId → Option ReqId
waiting_in loads nav doc =
    option_and_then (λ (load : Load). if is_populating doc load then Some load.req else None) (ongoing_load nav loads)

-- the load that waits for the document, if one does, is the navigable's
abbrev pub WaitsAt : NavId → List Load → DocId → Type 0
WaitsAt nav loads doc = (load : Load) → find (is_populating doc) loads ≡ Some load → nav ≡ load.nav

-- so it is of the navigable that the document was made for
abbrev pub WaitsAtItsNav : Tables → DocId → Type 0
WaitsAtItsNav t doc = (load : Load) → find (is_populating doc) t.loads ≡ Some load → nav_in t.whose.entries doc ≡ Some load.nav

-- the document is made, and placed for its state, in its process
pub record PlacesOne (state : StateId) (doc : DocId) (t u : Tables) : Type 0 where
  pub proc : ProcId
  pub proc_is : proc_in t.whose.entries doc ≡ Some proc
  pub tree : u.tree ≡ placed state (record { doc = doc; proc = proc; handler = None }) t.tree
  pub whose : u.whose.entries ≡ t.whose.entries
  pub shown : u.shown.entries ≡ t.shown.entries
  pub making : u.making.entries ≡ remove_entry (is_state state) t.making.entries
  pub history : history_held u.store ≡ history_held t.store
  pub documents : u.documents ≡ t.documents
  pub states : u.states ≡ t.states
  pub entries : u.entries ≡ t.entries
  pub sent : length u.sent.items ≡ length t.sent.items
  pub last : u.last.entries ≡ t.last.entries
  pub initial : u.initial.entries ≡ t.initial.entries
  pub loads : u.loads ≡ moved_on (is_populating doc) (phases.Ready doc) t.loads
  pub asking : u.asking ≡ t.asking
  pub kept : u.kept ≡ t.kept

-- the order is the last one that showed the navigable a document
abbrev pub is_last : Tables → NavId → JobId → Bool
is_last t nav nr = holds (λ (last : JobId). last.0 == nr.0) (lookup (is_nav nav) t.shown.entries)

-- the tree, in which the navigable stands if the order is that one
abbrev pub standing : Bool → NavId → Tree → Tree
standing b nav tree = if b then with_nav (λ (n : Nav). record n { stands = true }) nav tree else tree

-- so it is of the navigable of a document
abbrev pub shown_tree : Tables → DocId → JobId → Tree
shown_tree t doc nr = option_map_or (λ (nav : NavId). standing (is_last t nav nr) nav t.tree) (nav_in t.whose.entries doc) t.tree

-- a tab that was just opened at an address: its document is in this process, shown by no order; nothing is loaded, and at most so many documents are to be kept
pub record IsFresh (address : List ℕ) (proc : ProcId) (keep : ℕ) (t : Tables) : Type 0 where
  pub history : history_held t.store ≡ opening_history (record { maker = 0; nr = 1 }) (record { 0 = 1 }) address
  pub tree : t.tree ≡ record { navs = (record { 0 = 0 }, top_node (record { 0 = 1 })) ∷ []; places = (record { 0 = 1 }, record { doc = record { 0 = 1 }; proc = proc; handler = None }) ∷ [] }
  pub making : t.making.entries ≡ []
  pub whose : t.whose.entries ≡ (record { 0 = 1 }, record { nav = record { 0 = 0 }; proc = proc }) ∷ []
  pub shown : t.shown.entries ≡ []
  pub last : t.last.entries ≡ (record { 0 = 0 }, record { 0 = 1 }) ∷ []
  pub initial : AreInitial (if bytes_eq address blank_text then record { 0 = 1 } ∷ [] else []) t.initial.entries
  pub documents : t.documents ≡ 1
  pub states : t.states ≡ 1
  pub entries : t.entries ≡ 1
  pub sent : length t.sent.items ≡ 1
  pub running : t.running ≡ None
  pub loads : t.loads ≡ []
  pub asking : t.asking ≡ []
  pub kept : t.kept ≡ record { keep = keep; states = [] }
  pub checks : t.checks ≡ []

-- so it is before what is noted of its document: whose it is and where, that it was shown, and whether it is an initial about:blank one; and nothing was sent
pub record IsBare (address : List ℕ) (proc : ProcId) (keep : ℕ) (t : Tables) : Type 0 where
  pub history : history_held t.store ≡ opening_history (record { maker = 0; nr = 1 }) (record { 0 = 1 }) address
  pub tree : t.tree ≡ record { navs = (record { 0 = 0 }, top_node (record { 0 = 1 })) ∷ []; places = (record { 0 = 1 }, record { doc = record { 0 = 1 }; proc = proc; handler = None }) ∷ [] }
  pub making : t.making.entries ≡ []
  pub whose : t.whose.entries ≡ []
  pub shown : t.shown.entries ≡ []
  pub last : t.last.entries ≡ []
  pub initial : t.initial.entries ≡ []
  pub documents : t.documents ≡ 1
  pub states : t.states ≡ 1
  pub entries : t.entries ≡ 1
  pub sent : t.sent.items ≡ []
  pub running : t.running ≡ None
  pub loads : t.loads ≡ []
  pub asking : t.asking ≡ []
  pub kept : t.kept ≡ record { keep = keep; states = [] }
  pub checks : t.checks ≡ []
