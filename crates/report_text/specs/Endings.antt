-- How the requests ended, line by line, read from the endings alone.
-- This project's own.
use Rattle.std.specs.Prelude.{ℕ, ◌+◌, List, [], ◌∷◌, ◌++◌, Option}
use Rattle.log_model.specs.declared.outcome.Ending.{Ending}
use Rattle.report_text.specs.Reports.{request_line}

-- the requests, numbered from here on
abbrev pub ending_lines : ℕ → List (Option Ending) → List ℕ
ending_lines nr [] = []
ending_lines nr (ending ∷ endings) = request_line nr ending ++ ending_lines (nr + 1) endings
