-- A coordinator in an event of a tab with loads: its tables stand for what the log has come to, all that goes on from row to row does, what the rows owe is paid, what isn't shown rests, and no more documents are kept than may be.
-- This project's own.
use Rattle.seen_facts.specs.Hang.Members.{Has}
use Rattle.leave_facts.proofs.Carried.{AreLeftDuly}
use Rattle.log_model.specs.History.{History, used_step_at}
use Rattle.log_model.specs.Places.{aim_of, all_stand}
use Rattle.log_model.specs.declared.made.Made.{Made}
use Rattle.log_model.specs.declared.row_kind.RowKind.{RowKind}
use Rattle.row_facts.specs.Owed.Owed.{IsLoose, IsOwed}
use Rattle.row_facts.specs.RestRows.Moving.{AllRest}
use Rattle.seen_laws.specs.InEvent.{InEvent, log_of, now_of}
use Rattle.std.specs.Prelude.{Bool, List, None, Option, Some, false, length, true, ℕ, ◌++◌, ◌≡◌, ◌≤◌}
use Rattle.tab_doors.specs.Working.{IsAtWorkIn}
use Rattle.tab_doors.specs.declared.tables.Tables.{Tables}
use Rattle.tab_facts.specs.TabGoing.Going.{IsGoing}
use Rattle.tab_ids.specs.declared.ReqId.{ReqId}
use Rattle.tab_ids.specs.declared.Step.{Step}

-- an event in which the coordinator works, the requests that are at hand in it, and what is of what documents made
pub record InPass : Type 0 where
  pub event : InEvent
  pub loads : List ReqId
  pub hand : List Made

-- where documents are swept, or none are
pub record IsPassingIn (sweeps : Bool) (p : InPass) (out : List RowKind) (t : Tables) : Type 0 where
  pub work : IsAtWorkIn sweeps None p.event out t
  pub going : IsGoing t.running p.loads p.hand (now_of p.event out)
  -- what the rows so far owe is paid, whatever orders come; and by any rows, where all stand
  pub owed : IsOwed p.event out
  pub loose : all_stand (now_of p.event out) (aim_of (now_of p.event out)) ≡ true → IsLoose p.event out
  pub rests : AllRest (now_of p.event out)
  pub few : length (now_of p.event out).kept ≤ t.kept.keep
  -- whom requests leave was asked
  pub duly : AreLeftDuly (log_of p.event out)

-- where none are
abbrev pub IsPassing : InPass → List RowKind → Tables → Type 0
IsPassing p out t = IsPassingIn false p out t

-- the step that the history is brought to, as the tables tell: that of the goal of the traversal that runs, else the current one
abbrev pub aim_in : History → Option ReqId → Step → ℕ
aim_in history None goal = history.current
aim_in history (Some req) goal = used_step_at history.rows goal.0

-- nothing but such rows was put out
pub record HasOnly (Is : RowKind → Type 0) (was out : List RowKind) : Type 0 where
  pub more : List RowKind
  pub is : out ≡ was ++ more
  pub each : (row : RowKind) → Has more row → Is row
