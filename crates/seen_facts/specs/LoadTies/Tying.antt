-- What a table of ongoing loads has to do with the log: it has the ongoing load of each navigable, with its request, where it leads, its document state and how far it has come.
-- HTML Standard, "Navigables" ("ongoing navigation") and "Beginning navigation"; the phases are this project's own.
use Rattle.std.specs.Prelude.{◌≡◌, Bool, true, not, ◌&&◌, ◌||◌, ◌==◌, List, find, Option, Some, None, if◌then◌else◌}
use Rattle.tab_ids.specs.declared.NavId.{NavId}
use Rattle.tab_ids.specs.declared.ReqId.{ReqId}
use Rattle.tab_ids.specs.declared.StateId.{StateId}
use Rattle.log_model.specs.declared.request.Mode.{Mode}
use Rattle.log_model.specs.declared.request.Request.TheVariants as requests
use Rattle.log_model.specs.Once.{loads}
use Rattle.log_model.specs.Places.{is_ongoing_load}
use Rattle.log_model.specs.Seen.{Seen, Document, Asked, request_of}
use Rattle.load_table.specs.declared.load.Load.{Load}
use Rattle.load_table.specs.declared.phase.Phase.{Phase}
use Rattle.load_table.specs.declared.phase.Phase.TheVariants as phases
use Rattle.load_table.specs.Loads.{ongoing_load}

-- the document was made for the document state, or is to be, and is neither discarded nor known to be dead
abbrev pub is_for_state : StateId → Document → Bool
is_for_state state d = d.state.0 == state.0 && not (d.is_discarded || d.is_known_dead)

abbrev pub made_for : List Document → StateId → Option Document
made_for documents state = find (is_for_state state) documents

-- how far a load has come whose document this is: none was sent for, it is being made, or it is there
abbrev pub phase_with : Option Document → Phase
phase_with None = phases.Asking
phase_with (Some d) = if d.is_ready then phases.Ready d.nr else phases.Populating d.nr

-- a load of the table is an ongoing one of the log
pub record IsLoadTied (s : Seen) (load : Load) : Type 0 where
  pub q : Asked
  pub found : request_of s load.req ≡ Some q
  pub ongoing : is_ongoing_load q ≡ true
  pub mode : Mode
  pub what : q.what ≡ requests.Load load.nav mode load.address
  pub state : q.state ≡ Some load.state
  pub replace : load.replace ≡ q.replaces
  pub phase : load.phase ≡ phase_with (made_for s.documents load.state)

-- the table has this request's load of the navigable
pub record HasLoad (table : List Load) (nav : NavId) (req : ReqId) : Type 0 where
  pub load : Load
  pub at : ongoing_load nav table ≡ Some load
  pub req_is : load.req ≡ req

-- the table tells of the ongoing loads: each that it has is one, and it has each
pub record TiesLoads (s : Seen) (table : List Load) : Type 0 where
  pub there : (nav : NavId) (load : Load) → ongoing_load nav table ≡ Some load → IsLoadTied s load
  pub all : (req : ReqId) (q : Asked) (nav : NavId) → request_of s req ≡ Some q → is_ongoing_load q ≡ true → loads nav q.what ≡ true → HasLoad table nav req
