-- The lines of a scenario that a tab with loads plays.
-- This project's own.
use Rattle.log_model.specs.Entries.{HasPassed}
use Rattle.log_model.specs.declared.request.Request.{Request}
use Rattle.scenario_text.specs.declared.line.ScenarioLine.{ScenarioLine}
use Rattle.scenario_text.specs.Plays.{is_of_loads, is_request_of_loads}

-- a request that is played: a load, a traversal, or a poke
abbrev pub IsBuiltRequest : Request → Type 0
IsBuiltRequest request = HasPassed (is_request_of_loads request)

-- a line that is played: such a request, an answer to a prompt, an eviction, a step of a process, or a settle
abbrev pub IsBuiltLine : ScenarioLine → Type 0
IsBuiltLine line = HasPassed (is_of_loads line)
