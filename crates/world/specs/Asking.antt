-- The events in which a world asks its coordinator.
-- This project's own.
use Rattle.std.specs.Prelude.{List, None, [], true}
use Rattle.coord.specs.Evicting.{InEviction}
use Rattle.coord.specs.Delivering.{InDelivery}
use Rattle.coord.specs.Standing.{asked_for, nobody}
use Rattle.coord.specs.declared.ask.Ask.{Ask}
use Rattle.coord.specs.declared.ask.Ask.TheVariants as asks
use Rattle.tab_ids.specs.declared.ProcId.{ProcId}
use Rattle.tab_ids.specs.declared.ReqId.{ReqId}
use Rattle.tab_ids.specs.declared.StateId.{StateId}
use Rattle.log_model.specs.declared.header.Header.{Header}
use Rattle.log_model.specs.declared.made.Report.{Report}
use Rattle.log_model.specs.declared.row_kind.Actor.{Actor}
use Rattle.log_model.specs.declared.row_kind.Actor.TheVariants as actors
use Rattle.log_model.specs.declared.row_kind.LogRow.{LogRow}
use Rattle.log_model.specs.declared.row_kind.RowKind.{RowKind}
use Rattle.log_model.specs.declared.row_kind.RowKind.TheVariants as rows
use Rattle.log_model.specs.Logs.{seen_of}
use Rattle.seen_laws.specs.InEvent.{InEvent}
use Rattle.world.specs.declared.event.Event.{Event}
use Rattle.world.specs.declared.event.Event.TheVariants as events
use Rattle.world.specs.Open.{bare}

-- the next event of a log, with its own row
abbrev pub event_of : Header → List LogRow → Actor → RowKind → InEvent
event_of header log actor own =
    record { header = bare header; start = seen_of log; event = (seen_of log).events; actor = actor; own = own; before = []; ran = []; checking = nobody; due = λ end. true; wants = λ behind. true }

-- the event in which the user asks for this
abbrev pub event_asking : Ask → Event
event_asking (asks.Load nav mode address) = events.Load nav mode address
event_asking (asks.Go delta) = events.Go delta

-- a load or a traversal is accepted
abbrev pub asking : Header → List LogRow → ReqId → Ask → InEvent
asking header log req ask = event_of header log actors.Ui (rows.Accepted req None (asked_for ask))

-- a report of a process is delivered
abbrev pub delivering : Header → List LogRow → ProcId → Report → InDelivery
delivering header log proc report =
    record { event = event_of header log actors.Coord (rows.Delivered proc); proc = proc; report = report }

-- the document that is kept longest, of this document state, is evicted
abbrev pub evicting : Header → List LogRow → StateId → InEviction
evicting header log state =
    record { event = event_of header log actors.Ui (rows.Evicted state); state = state }
