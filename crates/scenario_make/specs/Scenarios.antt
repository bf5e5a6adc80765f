-- The scenario that the generator makes of a number.
-- This project's own.
use Rattle.std.specs.Prelude.{ℕ, zero, suc, ◌+◌, Bool, true, false, List, [], ◌∷◌, ◌++◌, codes, if◌then◌else◌}
use Rattle.log_model.specs.declared.action.Action.TheVariants as actions
use Rattle.log_model.specs.declared.header.Header.{Header}
use Rattle.log_model.specs.declared.request.Request.TheVariants as requests
use Rattle.scenario_text.specs.declared.line.ScenarioLine.{ScenarioLine}
use Rattle.scenario_text.specs.declared.line.ScenarioLine.TheVariants as lines
use Rattle.scenario_text.specs.Scenarios.{Scenario}
use Rattle.scenario_make.specs.Turns.{turn_after}

-- ---- the settings

-- `keep 2`, `site http://b.test 2`, `site http://c.test 3`, `page http://b.test/p1 0`, `open http://a.test/`
abbrev pub made_header : Header
made_header = record {
  keep = 2;
  sites = record { origin = codes "http://b.test"; proc = record { 0 = 2 } } ∷ record { origin = codes "http://c.test"; proc = record { 0 = 3 } } ∷ [];
  pages = record { base = codes "http://b.test/p1"; slot = 0 } ∷ [];
  first = codes "http://a.test/";
}

-- ---- the lines

-- the line is a request, which has a number
abbrev pub is_request : ScenarioLine → Bool
is_request (lines.Ask request) = true
is_request _ = false

-- the lines of a turn: its own and `settle`; after a request, of this number, also `answer R leave` and `settle`
abbrev pub turn_lines : ℕ → ScenarioLine → List ScenarioLine
turn_lines number line =
    line ∷ lines.Settle ∷ (if is_request line then lines.Answer (record { 0 = number }) false ∷ lines.Settle ∷ [] else [])

-- the number of the next request, where that of the line's is this
abbrev pub number_after : ℕ → ScenarioLine → ℕ
number_after number line = if is_request line then number + 1 else number

-- the lines of so many turns, of the number that is kept before them and the number of the next request
unfoldable pub made_turns : ℕ → ℕ → ℕ → List ScenarioLine
made_turns zero kept number = []
made_turns (suc turns) kept number =
    turn_lines number (turn_after kept).line ++ made_turns turns (turn_after kept).kept (number_after number (turn_after kept).line)

-- `frame 0 1` and `settle`, and then 1,000 turns
unfoldable pub made_lines : ℕ → List ScenarioLine
made_lines n =
    lines.Ask (requests.Poke (record { 0 = 0 }) (actions.AddFrame (record { 0 = 1 }))) ∷ lines.Settle ∷ made_turns 1000 n 2

-- the scenario that is made of a number, which is at first kept
abbrev pub made_scenario : ℕ → Scenario
made_scenario n = record { header = made_header; lines = made_lines n }
