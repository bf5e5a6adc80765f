-- The lines after `open` with one more.
-- This project's own.
use Rattle.std.specs.Prelude.{ℕ, Bool, List, [], ◌∷◌, ◌++◌, Result, Ok}
use Rattle.scenario_text.specs.declared.built.Built.{Built}
use Rattle.scenario_text.specs.declared.line.ScenarioLine.{ScenarioLine}
use Rattle.scenario_text.specs.declared.reason.Reason.{Reason}
use Rattle.scenario_text.specs.Chain.{◌>>=◌}
use Rattle.scenario_text.specs.Body.{played_line}

-- the lines before and the one that the bytes spell, or why they spell none
abbrev pub with_line : Bool → Built → List ScenarioLine → List ℕ → Result (List ScenarioLine) Reason
with_line in_run built before line = played_line in_run built line >>= λ last. Ok (before ++ last ∷ [])
