-- The report and the summary of what a world's readers answer are those of its log.
use Rattle.std.proofs.Common.{◌≡◌, ℕ, ◌+◌, List, [], ◌∷◌, ◌++◌, map, refl, ap}
use Rattle.log_model.specs.declared.row_kind.LogRow.{LogRow}
use Rattle.log_model.specs.Logs.{seen_of}
use Rattle.log_model.specs.Seen.{Asked}
use Rattle.report_text.specs.Reports.{request_line, request_lines, report_with, report_of}
use Rattle.report_text.specs.Summary.{summary_with, summary_of}
use Rattle.report_text.specs.Endings.{ending_lines}

-- the requests' lines
pub lines_of_endings : (nr : ℕ) (asked : List Asked) → request_lines nr asked ≡ ending_lines nr (map (λ (q : Asked). q.ending) asked)
lines_of_endings nr [] = refl
lines_of_endings nr (q ∷ asked) = ap (λ (l : List ℕ). request_line nr q.ending ++ l) (lines_of_endings (nr + 1) asked)

pub report_is : (log : List LogRow) → report_of log ≡ report_with (seen_of log)
unfolding report_of
report_is log = refl

pub summary_is : (log : List LogRow) → summary_of log ≡ summary_with (seen_of log)
unfolding summary_of
summary_is log = refl
