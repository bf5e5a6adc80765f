-- When a traversal ends, and what is as it was.
-- HTML Standard, "apply the history step".
use Rattle.log_model.specs.AfterRequests.{without_req}
use Rattle.log_model.specs.Places.{aim_of, all_stand}
use Rattle.log_model.specs.Seen.{Seen}
use Rattle.log_model.specs.declared.row_kind.RowKind.{RowKind}
use Rattle.seen_laws.specs.InEvent.{InEvent, now_of, EachGoes}
use Rattle.std.specs.Prelude.{Bool, List, None, Option, Some, [], false, is_some, true, ◌&&◌, ◌++◌, ◌∷◌, ◌≡◌}
use Rattle.tab_doors.specs.declared.tables.Tables.{Tables}
use Rattle.tab_ids.specs.declared.ReqId.{ReqId}
use Rattle.tab_turns.specs.Turning.{LeavesAlone}
use Rattle.log_model.specs.declared.change.Change.TheVariants as changes
use Rattle.log_model.specs.declared.row_kind.RowKind.TheVariants as rows

-- a traversal runs, and all stand at the aim
abbrev pub is_through : Seen → Option ReqId → Bool
is_through s run = is_some run && all_stand s (aim_of s)

-- the traversal that ran has ended at the aim, which is the current step now
pub record HasEnded (e : InEvent) (old new : List RowKind) (t u : Tables) : Type 0 where
  pub req : ReqId
  pub ran : t.running ≡ Some req
  pub out : new ≡ old ++ rows.Applied req (changes.Traverse (record { 0 = aim_of (now_of e old) })) ∷ []
  pub goes : EachGoes e [] new
  pub none_runs : u.running ≡ None
  pub keep : u.kept.keep ≡ t.kept.keep
  pub current : (now_of e new).history.current ≡ aim_of (now_of e old)
  pub aim : aim_of (now_of e new) ≡ aim_of (now_of e old)
  pub alone : LeavesAlone (now_of e old) (now_of e new)
  pub joined : (now_of e new).joined ≡ without_req req (now_of e old).joined

-- nothing was put out, and the tables are as they were
pub record HasRested (old new : List RowKind) (t u : Tables) : Type 0 where
  pub out : new ≡ old
  pub tables : u ≡ t

-- one of both
abbrev pub MayHaveEnded : InEvent → List RowKind → List RowKind → Tables → Tables → Bool → Type 0
MayHaveEnded e old new t u true = HasEnded e old new t u
MayHaveEnded e old new t u false = HasRested old new t u
