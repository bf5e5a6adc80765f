-- A scenario, as contracts see it.
-- This project's own.
use Rattle.std.specs.Prelude.{List}
use Rattle.log_model.specs.declared.header.Header.{Header}
use Rattle.scenario_text.specs.declared.line.ScenarioLine.{ScenarioLine}

-- the settings under which a tab is opened, and the lines that are played then
pub record Scenario : Type 0 where
  pub header : Header
  pub lines : List ScenarioLine
