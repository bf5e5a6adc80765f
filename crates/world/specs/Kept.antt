-- What a world is to its callers: its settings, its log, and whether it is closed; and what holds of every world.
-- This project's own.
use Rattle.std.specs.Prelude.{◌≡◌, Bool, false, List, [], None, IsTrue}
use Rattle.log_model.specs.declared.handler.HandlerKind.{HandlerKind}
use Rattle.log_model.specs.declared.row_kind.LogRow.{LogRow}
use Rattle.log_model.specs.declared.header.Header.{Header}
use Rattle.log_model.specs.Seen.{nothing}
use Rattle.log_model.specs.Events.{events_of}
use Rattle.log_model.specs.Legal.{IsLegal}
use Rattle.log_model.specs.LoadsEndInTime.{LoadsEndInTime}
use Rattle.log_model.specs.ActsAtOnce.{ActsAtOnce}
use Rattle.log_model.specs.Limits.{BeginsBelow}
use Rattle.log_model.specs.Suits.{Suits, opens_as, slot_of}
use Rattle.proc_work.specs.Answers.{AnswersBy}
use Rattle.world.specs.Open.{IsOpen, row_limit}
use Rattle.world.specs.declared.state.State.{State}

-- the settings under which the tab was opened, the kind of the unload handler of each slot, its log, and whether an earlier step closed the world
pub record WorldState : Type 0 where
  pub header : Header
  pub kinds : List HandlerKind
  pub log : List LogRow
  pub closed : Bool

-- the log opens as the settings say: at their address, in its process and with its handler
abbrev pub OpensAs : Header → List LogRow → Type 0
OpensAs header log = IsTrue (opens_as header nothing (events_of log))

-- what holds of every world
pub record IsKept (header : Header) (kinds : List HandlerKind) (log : List LogRow) (state : State) (closed : Bool) : Type 0 where
  pub legal : IsLegal log
  pub at_once : ActsAtOnce log
  pub loads_end : LoadsEndInTime log
  -- it suits the settings if it opens as they say, and they have no pages
  pub suits : header.pages ≡ [] → OpensAs header log → Suits header log
  pub limited : BeginsBelow row_limit log
  -- documents that are asked to leave answer by the kinds of their handlers
  pub answers : AnswersBy kinds log
  -- and what is kept beside the log is what it has come to, unless the world is closed
  pub stands : closed ≡ false → IsOpen header log state

-- the settings give the first document no handler
abbrev pub OpensUnhandled : Header → Type 0
OpensUnhandled header = slot_of header header.first ≡ None
