-- The summary of a log, line by line: how many requests there were and how they ended, where the history stands, and whether all is quiet.
-- This project's own; the current step, length and index are the HTML Standard's, as the module on histories says.
use Rattle.std.specs.Prelude.{ℕ, Bool, true, false, List, ◌++◌, length, map, codes, Option, Some}
use Rattle.std.specs.List.{count_by}
use Rattle.log_model.specs.declared.outcome.Ending.{Ending}
use Rattle.log_model.specs.declared.outcome.Ending.TheVariants as endings
use Rattle.log_model.specs.declared.row_kind.LogRow.{LogRow}
use Rattle.log_model.specs.History.{history_length, history_index}
use Rattle.log_model.specs.Seen.{Seen, Asked}
use Rattle.log_model.specs.Logs.{seen_of, is_quiet}
use Rattle.report_text.specs.Reports.{line_end, number_word, quiet_line, step_line}

-- how a request ended, if it has
abbrev pub is_applied : Option Ending → Bool
is_applied (Some endings.Applied) = true
is_applied _ = false

abbrev pub is_refused : Option Ending → Bool
is_refused (Some (endings.Refused reason)) = true
is_refused _ = false

abbrev pub is_dropped : Option Ending → Bool
is_dropped (Some (endings.Dropped cause)) = true
is_dropped _ = false

-- how many requests ended in each way, with the words between
abbrev pub outcome_words : List (Option Ending) → List ℕ
outcome_words asked =
    codes " applied" ++ number_word (count_by is_applied asked)
    ++ (codes " refused" ++ number_word (count_by is_refused asked)
    ++ (codes " dropped" ++ number_word (count_by is_dropped asked)))

-- how many requests there were, and how many ended in each way
abbrev pub requests_line : List (Option Ending) → List ℕ
requests_line asked = codes "requests" ++ number_word (length asked) ++ outcome_words asked ++ line_end

-- the summary of what a log has come to
abbrev pub summary_with : Seen → List ℕ
summary_with s =
    requests_line (map (λ (q : Asked). q.ending) s.requests)
    ++ step_line s.history.current (history_length s.history.rows) (history_index s.history.rows s.history.current)
    ++ quiet_line (is_quiet s)

-- the summary of a log
unfoldable pub summary_of : List LogRow → List ℕ
summary_of log = summary_with (seen_of log)
