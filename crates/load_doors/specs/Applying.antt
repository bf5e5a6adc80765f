-- When a load is applied.
-- HTML Standard, "finalize a cross-document navigation"; numbers of entries are this project's own.
use Rattle.row_facts.specs.FrameRows.Lawful.{held_at_first}
use Rattle.row_facts.specs.LoadRows.Loaded.{IsLoadToApply}
use Rattle.load_table.specs.declared.load.Load.{Load}
use Rattle.log_model.specs.Equal.{has_req}
use Rattle.log_model.specs.Seen.{Asked}
use Rattle.log_model.specs.declared.change.Change.{Change}
use Rattle.log_model.specs.declared.request.Mode.{Mode}
use Rattle.log_model.specs.declared.row_kind.RowKind.{RowKind}
use Rattle.seen_laws.specs.InEvent.{InEvent, now_of}
use Rattle.std.specs.Prelude.{List, false, ℕ, ◌+◌, ◌≡◌}
use Rattle.tab_doors.specs.declared.tables.Tables.{Tables}
use Rattle.tab_ids.specs.declared.EntryId.{EntryId}
use Rattle.tab_ids.specs.declared.NavId.{NavId}
use Rattle.tab_ids.specs.declared.ReqId.{ReqId}

-- an event in which the coordinator works, a load that is ongoing in it, and the change that it makes
pub record InApply : Type 0 where
  pub event : InEvent
  pub load : Load
  pub change : Change

-- the next entry of the coordinator
abbrev pub new_entry : Tables → EntryId
new_entry t = record { maker = 0; nr = t.entries + 1 }

-- the request is a load of the navigable that is to be applied, by this change; it isn't held back, now or as the event began
pub record IsApplyDue (e : InEvent) (out : List RowKind) (req : ReqId) (nav : NavId) (change : Change) : Type 0 where
  pub mode : Mode
  pub address : List ℕ
  pub asked : Asked
  pub due : IsLoadToApply (now_of e out) req nav mode address asked change
  pub unparked : has_req (now_of e out).parked req ≡ false
  pub unheld : has_req (held_at_first e) req ≡ false
