-- An ongoing load of a navigable gives way to one that is to begin there: what was put out for it, and what was noted.
-- HTML Standard, "Navigables" ("ongoing navigation"); that requests are noted for stray documents is this project's own.
use Rattle.apply_plan.specs.Order.{made_in}
use Rattle.load_table.specs.Loads.{ongoing_load}
use Rattle.load_table.specs.declared.load.Load.{Load}
use Rattle.log_model.specs.declared.row_kind.RowKind.{RowKind}
use Rattle.seen_laws.specs.InEvent.{InEvent}
use Rattle.std.specs.Prelude.{List, None, Some, [], ◌∷◌, ◌≡◌, ◌⊎◌}
use Rattle.tab_doors.specs.Working.{IsAtWork, KeepsStore}
use Rattle.tab_doors.specs.declared.tables.Tables.{Tables}
use Rattle.tab_ids.specs.declared.NavId.{NavId}
use Rattle.tab_ids.specs.declared.ReqId.{ReqId}
use Rattle.tab_ids.specs.declared.StateId.{StateId}
use Rattle.tab_one_pass.specs.Noting.{AreNoted}
use Rattle.log_model.specs.declared.outcome.Cause.TheVariants as drops
use Rattle.log_model.specs.declared.row_kind.RowKind.TheVariants as rows

-- the navigable had none, and all is as it was
pub record HasNone (nav : NavId) (t u : Tables) (out : List RowKind) (was noted : List (StateId × ReqId)) : Type 0 where
  pub none_ : ongoing_load nav t.loads ≡ None
  pub out_is : out ≡ []
  pub tables : u ≡ t
  pub noted_is : noted ≡ was

-- it had one, which was dropped for this one; that is noted for the documents of loads
pub record HasDropped (req : ReqId) (nav : NavId) (t u : Tables) (out : List RowKind) (was noted : List (StateId × ReqId)) : Type 0 where
  pub old : Load
  pub at : ongoing_load nav t.loads ≡ Some old
  pub out_is : out ≡ rows.Dropped old.req (drops.By req) ∷ []
  pub noted_is : AreNoted t (Some req) (made_in t.tree) was noted
  pub kept : KeepsStore t u

-- one of both, and the coordinator is at work
pub record HasMadeWay (e : InEvent) (req : ReqId) (nav : NavId) (t u : Tables) (out : List RowKind) (was noted : List (StateId × ReqId)) : Type 0 where
  pub work : IsAtWork e out u
  pub which : HasNone nav t u out was noted ⊎ HasDropped req nav t u out was noted
