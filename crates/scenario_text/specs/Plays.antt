-- Which lines a caller can play.
-- This project's own.
use Rattle.std.specs.Prelude.{Bool, true, false}
use Rattle.log_model.specs.declared.request.Request.{Request}
use Rattle.log_model.specs.declared.request.Request.TheVariants as requests
use Rattle.scenario_text.specs.declared.built.Built.{Built}
use Rattle.scenario_text.specs.declared.built.Built.TheVariants as builts
use Rattle.scenario_text.specs.declared.line.ScenarioLine.{ScenarioLine}
use Rattle.scenario_text.specs.declared.line.ScenarioLine.TheVariants as lines
use Rattle.scenario_text.specs.declared.place.Place.{Place}
use Rattle.scenario_text.specs.declared.place.Place.TheVariants as places
use Rattle.scenario_text.specs.declared.place.Stage.{Stage}
use Rattle.scenario_text.specs.declared.place.Stage.TheVariants as stages

-- one step of a process
abbrev pub is_step : ScenarioLine → Bool
is_step (lines.Act proc) = true
is_step (lines.Begin proc) = true
is_step (lines.Finish proc) = true
is_step (lines.Deliver proc) = true
is_step _ = false

-- a request of a tab with loads: a load, a traversal, or an action of a document
abbrev pub is_request_of_loads : Request → Bool
is_request_of_loads (requests.Load nav mode address) = true
is_request_of_loads (requests.Go delta) = true
is_request_of_loads (requests.Poke nav action) = true
is_request_of_loads _ = false

-- a line of a tab with loads, in which no document is asked and no process dies
abbrev pub is_of_loads : ScenarioLine → Bool
is_of_loads (lines.Ask request) = is_request_of_loads request
is_of_loads (lines.Answer req stay) = true
is_of_loads lines.Evict = true
is_of_loads lines.Settle = true
is_of_loads line = is_step line

-- the caller can play the line
abbrev pub plays : Built → ScenarioLine → Bool
plays builts.Loads line = is_of_loads line
plays builts.All line = true

-- the caller can play a header that has come so far: a tab with loads has no handlers yet
abbrev pub plays_stage : Built → Stage → Bool
plays_stage builts.Loads stages.Page = false
plays_stage _ _ = true

-- the caller can play the line that leads here
abbrev pub plays_place : Built → Place → Bool
plays_place built (places.Heading stage settings) = plays_stage built stage
plays_place built _ = true
