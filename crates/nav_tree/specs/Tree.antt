-- The navigables of a tab and the documents that are live for their document states, as two tables, and how each call changes one of them.
-- HTML Standard, "Navigables" and "Session history entries"; what is kept of a navigable beside its parent and its active document is this project's own.
use Rattle.std.specs.Prelude.{◌+◌, Bool, true, false, ◌==◌, List, Option, Some, None, option_map, map, find}
use Rattle.std.specs.Option.{option_map_or}
use Rattle.std.specs.Map.{lookup, set_value, remove_entry}
use Rattle.indexmap.specs.IndexMap.{insert_entry}
use Rattle.tab_ids.specs.declared.NavId.{NavId}
use Rattle.tab_ids.specs.declared.StateId.{StateId}
use Rattle.tab_ids.specs.declared.DocId.{DocId}
use Rattle.tab_ids.specs.declared.ReqId.{ReqId}
use Rattle.tab_ids.specs.declared.Death.{Death}
use Rattle.tab_ids.specs.declared.EntryId.{EntryId}
use Rattle.log_model.specs.declared.job.Why.{Why}
use Rattle.log_model.specs.declared.job.Why.TheVariants as reasons
use Rattle.nav_tree.specs.declared.nav.Nav.{Nav}
use Rattle.nav_tree.specs.declared.node.Node.{Node}
use Rattle.nav_tree.specs.declared.place.Place.{Place}
use Rattle.nav_tree.specs.declared.status.NavStatus.TheVariants.{Awake, Lost, Asleep}
use Rattle.nav_tree.specs.declared.reload.ReloadPhase.TheVariants.{Idle}

-- every navigable ever made, in the order of making, and the document that is live for each document state
pub record Tree : Type 0 where
  pub navs : List (NavId × Node)
  pub places : List (StateId × Place)

-- ---- reading

-- the numbers of two navigables are the same
abbrev pub is_nav : NavId → NavId → Bool
is_nav nav other = nav.0 == other.0

-- the numbers of two document states are the same
abbrev pub is_state : StateId → StateId → Bool
is_state state other = state.0 == other.0

-- what the tree keeps of a navigable
abbrev pub node_of : NavId → Tree → Option Node
node_of nav tree = lookup (is_nav nav) tree.navs

-- the fields of a navigable
abbrev pub nav_of : NavId → Tree → Option Nav
nav_of nav tree = option_map (λ node. node.nav) (node_of nav tree)

-- the document that is live for a document state
abbrev pub document_of : StateId → Tree → Option Place
document_of state tree = lookup (is_state state) tree.places

-- the documents that are live
abbrev pub docs_of : Tree → List DocId
docs_of tree = map (λ entry. entry.1.doc) tree.places

-- the document is the one placed for the state
abbrev pub is_placed : DocId → StateId × Place → Bool
is_placed doc entry = entry.1.doc.0 == doc.0

-- the document state that a document is placed for
abbrev pub state_of : DocId → Tree → Option StateId
state_of doc tree = option_map (λ entry. entry.0) (find (is_placed doc) tree.places)

-- ---- changing a navigable

-- the tree, with this kept of a navigable that is there
abbrev pub with_node : NavId → Node → Tree → Tree
with_node nav node tree = record tree { navs = set_value (is_nav nav) tree.navs node }

-- the tree, with what is kept of one navigable changed
abbrev pub changed : (Node → Node) → NavId → Tree → Tree
changed f nav tree = option_map_or (λ node. with_node nav (f node) tree) (node_of nav tree) tree

-- the tree, with the fields of one navigable changed
abbrev pub with_nav : (Nav → Nav) → NavId → Tree → Tree
with_nav f = changed (λ node. record node { nav = f node.nav })

-- a child navigable as it is made: asleep, for the request that made it
abbrev pub child_node : NavId → StateId → ReqId → Node
child_node parent owner by =
    record {
      nav = record {
        parent = Some parent;
        owner = Some owner;
        status = Asleep;
        given = None;
        epoch = record { 0 = 0 };
        why = reasons.Req by;
        moved = false;
        stands = false;
        reload = Idle;
        told = None;
        added_by = Some by;
      };
      destroyed_by = None;
    }

-- the traversable at the top as the tab opens: awake on its document, given its first entry
abbrev pub top_node : DocId → Node
top_node doc =
    record {
      nav = record {
        parent = None;
        owner = None;
        status = Awake doc;
        given = Some (record { maker = 0; nr = 1 });
        epoch = record { 0 = 1 };
        why = reasons.Start;
        moved = false;
        stands = true;
        reload = Idle;
        told = Some (1, 0);
        added_by = None;
      };
      destroyed_by = None;
    }

-- the navigable, with an Activate sent for an entry to a document
abbrev pub activated : EntryId → DocId → Why → Nav → Nav
activated entry doc why nav =
    record nav {
      status = Awake doc;
      given = Some entry;
      epoch = record { 0 = nav.epoch.0 + 1 };
      why = why;
      stands = false;
    }

-- the navigable, put to sleep
abbrev pub put_to_sleep : Why → Nav → Nav
put_to_sleep why nav = record nav { status = Asleep; why = why }

-- the navigable, known to have lost its document to a death
abbrev pub lost_to : Death → Nav → Nav
lost_to death nav = record nav { status = Lost; why = reasons.Death death }

-- ---- changing the documents

-- the tree, with a document placed for a state: in the place of an earlier one, else last
abbrev pub placed : StateId → Place → Tree → Tree
placed state place tree = record tree { places = insert_entry is_state tree.places state place }

-- the tree without the document of a state
abbrev pub discarded : StateId → Tree → Tree
discarded state tree = record tree { places = remove_entry (is_state state) tree.places }
