-- How the log of a world goes on along a scenario: what was played of it, and where an event that was due is missing.
-- This project's own.
use Rattle.std.specs.Prelude.{◌≡◌, true, ◌+◌, ◌≤◌, ℕ, List, ◌++◌, length, Option, Some, None, Result, Ok, Err}
use Rattle.log_model.specs.declared.handler.HandlerKind.{HandlerKind}
use Rattle.log_model.specs.declared.job.Order.{Order}
use Rattle.log_model.specs.declared.request.Request.TheVariants as requests
use Rattle.log_model.specs.declared.row_kind.LogRow.{LogRow}
use Rattle.log_model.specs.Events.{events_of}
use Rattle.log_model.specs.Logs.{seen_of, in_hand_of}
use Rattle.proc_work.specs.Answers.{has_kind_of}
use Rattle.scenario_text.specs.declared.line.ScenarioLine.{ScenarioLine}
use Rattle.scenario_text.specs.declared.line.ScenarioLine.TheVariants as lines
use Rattle.scenario_text.specs.Follows.{Stage, goes, stops, rounds}
use Rattle.world.specs.declared.event.Event.{Event}
use Rattle.world.specs.declared.event.Event.TheVariants as events
use Rattle.world.specs.declared.event.Reply.{Reply}
use Rattle.world.specs.declared.event.Reply.TheVariants as replies

-- the stage is played: the events that the new log has more are its events
pub record Leads (stage : Stage) (old new : List LogRow) : Type 0 where
  pub events : List (List LogRow)
  pub more : events_of new ≡ events_of old ++ events
  pub leads : (later : List (List LogRow)) → stage (seen_of old) (events ++ later) ≡ goes (seen_of new) later

-- the stage is played up to an event that is missing: it was due where the new log ends
pub record Cuts (stage : Stage) (old new : List LogRow) : Type 0 where
  pub events : List (List LogRow)
  pub more : events_of new ≡ events_of old ++ events
  pub cuts : stage (seen_of old) events ≡ stops

-- the stage is played, or there is an error where one of its events was due
abbrev pub Plays : {T E : Type 0} → Stage → List LogRow → Result T E → List LogRow → Type 0
Plays stage old (Ok x) new = Leads stage old new
Plays stage old (Err e) new = Cuts stage old new

-- some rounds are played, and not more than there are events in them
pub record PlaysRounds (old new : List LogRow) : Type 0 where
  pub count : ℕ
  pub events : List (List LogRow)
  pub more : events_of new ≡ events_of old ++ events
  pub few : count ≤ length events
  pub leads : (n : ℕ) (later : List (List LogRow)) → rounds (count + n) (seen_of old) (events ++ later) ≡ rounds n (seen_of new) later

-- the line of an event
abbrev pub line_of : Event → ScenarioLine
line_of (events.Load nav mode address) = lines.Ask (requests.Load nav mode address)
line_of (events.Go delta) = lines.Ask (requests.Go delta)
line_of (events.Poke nav action) = lines.Ask (requests.Poke nav action)
line_of (events.Answer req stay) = lines.Answer req stay
line_of events.Evict = lines.Evict
line_of (events.Act proc) = lines.Act proc
line_of (events.Begin proc) = lines.Begin proc
line_of (events.Finish proc done) = lines.Finish proc
line_of (events.Deliver proc) = lines.Deliver proc

-- what is finished is the order in hand, and a handler of the kind of its slot was asked, if one was
abbrev pub IsOfHand : List HandlerKind → List LogRow → Event → Type 0
IsOfHand kinds log (events.Load nav mode address) = Unit {0}
IsOfHand kinds log (events.Go delta) = Unit {0}
IsOfHand kinds log (events.Poke nav action) = Unit {0}
IsOfHand kinds log (events.Answer req stay) = Unit {0}
IsOfHand kinds log events.Evict = Unit {0}
IsOfHand kinds log (events.Act proc) = Unit {0}
IsOfHand kinds log (events.Begin proc) = Unit {0}
IsOfHand kinds log (events.Finish proc done) =
    (in_hand_of log proc ≡ Some done.order) × (has_kind_of kinds done.order.job.task done.kind ≡ true)
IsOfHand kinds log (events.Deliver proc) = Unit {0}

-- the order that a process took up
abbrev pub order_of : Reply → Option Order
order_of (replies.Took order) = Some order
order_of _ = None
