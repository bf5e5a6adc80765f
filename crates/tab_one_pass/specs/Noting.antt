-- For which request the document of a load is discarded once the load has given way: noted under its document state, before it does.
-- HTML Standard, "Navigables" ("ongoing navigation") and "destroy a document"; that such an order is for a request is this project's own.
use Rattle.seen_facts.specs.Hang.Members.{Has}
use Rattle.indexmap.specs.IndexMap.{insert_entry}
use Rattle.load_table.specs.Loads.{ongoing_load}
use Rattle.load_table.specs.declared.load.Load.{Load}
use Rattle.log_model.specs.History.{has_state}
use Rattle.nav_tree.specs.Tree.{docs_of, is_state, node_of, state_of}
use Rattle.nav_tree.specs.declared.node.Node.{Node}
use Rattle.std.specs.Map.{lookup}
use Rattle.std.specs.Option.{option_map_or}
use Rattle.std.specs.Prelude.{List, None, Option, Some, false, if◌then◌else◌, option_and_then, option_map, ◌≡◌}
use Rattle.step_index.specs.Held.{history_held}
use Rattle.tab_doors.specs.Dues.{has_none}
use Rattle.tab_doors.specs.declared.tables.Tables.{Tables}
use Rattle.tab_ids.specs.declared.DocId.{DocId}
use Rattle.tab_ids.specs.declared.NavId.{NavId}
use Rattle.tab_ids.specs.declared.ReqId.{ReqId}
use Rattle.tab_ids.specs.declared.StateId.{StateId}

-- ---- as the tables tell

-- the request that took the last entries of the navigable, if it has none
abbrev pub taker_in : Tables → NavId → Option ReqId
taker_in t nav =
    if has_none (history_held t.store).rows nav then (option_and_then (λ (node : Node). node.destroyed_by) (node_of nav t.tree))
    else None

-- the request that is to be noted for the ongoing load of a navigable: this one, or, where none is given, that which took the last entries
abbrev pub noted_for : Tables → Option ReqId → NavId → Option ReqId
noted_for t (Some req) nav = Some req
noted_for t None nav = taker_in t nav

-- the document state of that load, with this request
abbrev pub noting_in : Tables → Option ReqId → NavId → Option (StateId × ReqId)
noting_in t by nav =
    option_and_then (λ (state : StateId). option_map {U = StateId × ReqId} (λ (req : ReqId). (state, req)) (noted_for t by nav)) (option_map (λ (load : Load). load.state) (ongoing_load nav t.loads))

-- what is noted, with this
abbrev pub with_noting : Option (StateId × ReqId) → List (StateId × ReqId) → List (StateId × ReqId)
with_noting noting noted = option_map_or (λ (one : StateId × ReqId). insert_entry is_state noted one.0 one.1) noting noted

-- ---- what was noted

-- the request is to be noted under the document state, for one of these
pub record IsToNoteBy {A : Type 0} (noting : A → Option (StateId × ReqId)) (xs : List A) (state : StateId) (req : ReqId) : Type 0 where
  pub it : A
  pub there : Has xs it
  pub is : noting it ≡ Some (state, req)

-- one that is to be noted under the document state is
pub record IsNotedBy {A : Type 0} (noting : A → Option (StateId × ReqId)) (xs : List A) (noted : List (StateId × ReqId)) (state : StateId) : Type 0 where
  pub req : ReqId
  pub found : lookup (is_state state) noted ≡ Some req
  pub its : IsToNoteBy noting xs state req

-- so it is wherever one is to be; and what was noted under each other document state stays
pub record AreNotedBy {A : Type 0} (noting : A → Option (StateId × ReqId)) (xs : List A) (was noted : List (StateId × ReqId)) : Type 0 where
  pub own : (state : StateId) (req : ReqId) → IsToNoteBy noting xs state req → IsNotedBy noting xs noted state
  pub others : (state : StateId) → ((req : ReqId) → IsToNoteBy noting xs state req → ⊥) → lookup (is_state state) noted ≡ lookup (is_state state) was

-- of the loads of these navigables
abbrev pub IsToNote : Tables → Option ReqId → List NavId → StateId → ReqId → Type 0
IsToNote t by navs state req = IsToNoteBy (noting_in t by) navs state req

abbrev pub AreNoted : Tables → Option ReqId → List NavId → List (StateId × ReqId) → List (StateId × ReqId) → Type 0
AreNoted t by navs was noted = AreNotedBy (noting_in t by) navs was noted

-- ---- documents of entries

-- the document state for which the document is there, if it has an entry
abbrev pub entered_in : Tables → DocId → Option StateId
entered_in t doc =
    option_and_then (λ (state : StateId). if has_state state (history_held t.store).rows then Some state else None) (state_of doc t.tree)

-- that with this request
abbrev pub entry_noting : Tables → ReqId → DocId → Option (StateId × ReqId)
entry_noting t req doc = option_map {U = StateId × ReqId} (λ (state : StateId). (state, req)) (entered_in t doc)

-- the request is noted under each document state that has entries, for which a document is there; and what was noted under each state without an entry stays
pub record EntriesAreNoted (t : Tables) (req : ReqId) (was noted : List (StateId × ReqId)) : Type 0 where
  pub own : (doc : DocId) (state : StateId) → Has (docs_of t.tree) doc → entered_in t doc ≡ Some state → lookup (is_state state) noted ≡ Some req
  pub others : (state : StateId) → has_state state (history_held t.store).rows ≡ false → lookup (is_state state) noted ≡ lookup (is_state state) was
