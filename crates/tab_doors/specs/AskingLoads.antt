-- What the table of loads in their unload checks has to do with the log itself, in which they have begun: each that it has is one, and it has each.
-- HTML Standard, "navigate" ("checking if unloading is canceled") and "Navigables" ("ongoing navigation"); which requests are in their check as the coordinator has it is this project's own.
use Rattle.load_table.specs.Loads.{ongoing_load}
use Rattle.load_table.specs.declared.load.Load.{Load}
use Rattle.load_table.specs.declared.phase.Phase.TheVariants as phases
use Rattle.log_model.specs.Once.{loads}
use Rattle.log_model.specs.Places.{is_ongoing_load}
use Rattle.log_model.specs.Seen.{Asked, Seen, request_of}
use Rattle.log_model.specs.declared.request.Mode.{Mode}
use Rattle.log_model.specs.declared.request.Request.TheVariants as requests
use Rattle.seen_facts.specs.LoadTies.Tying.{HasLoad}
use Rattle.std.specs.Prelude.{Bool, List, Some, true, ◌≡◌}
use Rattle.tab_ids.specs.declared.NavId.{NavId}
use Rattle.tab_ids.specs.declared.ReqId.{ReqId}

-- a load of the table is an ongoing one of the log that is in its check, with the document state that was numbered for it; no document of it was sent for
pub record IsAskingTied (checking : ReqId → Bool) (s : Seen) (load : Load) : Type 0 where
  pub q : Asked
  pub found : request_of s load.req ≡ Some q
  pub on : checking load.req ≡ true
  pub ongoing : is_ongoing_load q ≡ true
  pub mode : Mode
  pub what : q.what ≡ requests.Load load.nav mode load.address
  pub state : q.state ≡ Some load.state
  pub replace : load.replace ≡ q.replaces
  pub phase : load.phase ≡ phases.Asking

-- the table tells of the ongoing loads in their checks: each that it has is one, and it has each
pub record TiesAsking (checking : ReqId → Bool) (s : Seen) (table : List Load) : Type 0 where
  pub there : (nav : NavId) (load : Load) → ongoing_load nav table ≡ Some load → IsAskingTied checking s load
  pub all : (req : ReqId) (q : Asked) (nav : NavId) → request_of s req ≡ Some q → checking req ≡ true → is_ongoing_load q ≡ true → loads nav q.what ≡ true → HasLoad table nav req
