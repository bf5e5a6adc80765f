-- A log of a tab with loads that keeps all rules, with the coordinator that stands for it.
-- This project's own.
use Rattle.std.specs.Prelude.{◌≡◌, ◌<◌, IsTrue, List, []}
use Rattle.log_model.specs.declared.header.Header.{Header}
use Rattle.log_model.specs.declared.row_kind.LogRow.{LogRow}
use Rattle.log_model.specs.ActsAtOnce.{ActsAtOnce}
use Rattle.log_model.specs.Legal.{IsLegal}
use Rattle.log_model.specs.LoadsEndInTime.{LoadsEndInTime}
use Rattle.log_model.specs.Events.{events_of}
use Rattle.log_model.specs.Logs.{seen_of}
use Rattle.log_model.specs.Seen.{nothing}
use Rattle.log_model.specs.Suits.{Suits, opens_as}
use Rattle.seen_laws.specs.InEvent.{InEvent}
use Rattle.coord.specs.Standing.{StandsFor}
use Rattle.coord.specs.declared.coordinator.Coordinator.{Coordinator}

-- the log is legal, acts at once, has its loads end in time and suits the settings if it opens as they say, and the coordinator stands for what it has come to
pub record Keeps (header : Header) (log : List LogRow) (c : Coordinator) : Type 0 where
  pub some : 0 < (seen_of log).events
  pub legal : IsLegal log
  pub at_once : ActsAtOnce log
  pub loads_end : LoadsEndInTime log
  pub suits : IsTrue (opens_as header nothing (events_of log)) → Suits header log
  pub stands : StandsFor (seen_of log) c

-- the event is the one after the log, in which nothing was put out before
pub record Follows (e : InEvent) (log : List LogRow) : Type 0 where
  pub start : e.start ≡ seen_of log
  pub event : e.event ≡ (seen_of log).events
  pub uncut : e.before ≡ []
