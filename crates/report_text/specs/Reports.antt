-- The report of a log, line by line.
-- This project's own; the entries, the current step, length and index are the HTML Standard's, as the module on histories says.
use Rattle.std.specs.Prelude.{ℕ, ◌+◌, Bool, true, false, ◌&&◌, ◌==◌, List, [], ◌∷◌, ◌++◌, flat_map, codes, decimal, Option, Some, None, if◌then◌else◌}
use Rattle.log_model.specs.declared.outcome.Cause.{Cause}
use Rattle.log_model.specs.declared.outcome.Cause.TheVariants as causes
use Rattle.log_model.specs.declared.outcome.Denial.{Denial}
use Rattle.log_model.specs.declared.outcome.Denial.TheVariants as denials
use Rattle.log_model.specs.declared.outcome.Ending.{Ending}
use Rattle.log_model.specs.declared.outcome.Ending.TheVariants as endings
use Rattle.log_model.specs.declared.row.Row.{Row}
use Rattle.log_model.specs.declared.row_kind.LogRow.{LogRow}
use Rattle.log_model.specs.History.{History, same_entry, history_length, history_index, target_entry}
use Rattle.log_model.specs.Order.{ordered}
use Rattle.log_model.specs.Views.{View}
use Rattle.log_model.specs.Seen.{Seen, Document, Asked}
use Rattle.log_model.specs.Logs.{seen_of, is_quiet}
use Rattle.log_model.specs.Equal.{holds}
use Rattle.log_model.specs.Places.{is_shown}
use Rattle.log_model.specs.Formed.{running_documents}

-- ---- words

abbrev pub line_end : List ℕ
line_end = 10 ∷ []

-- a number after a space
abbrev pub number_word : ℕ → List ℕ
number_word n = codes " " ++ decimal n

-- a memo after a space; `-` is none
abbrev pub memo_word : Option (List ℕ) → List ℕ
memo_word (Some memo) = codes " " ++ memo
memo_word None = codes " -"

-- a length and an index
abbrev pub pair_words : ℕ → ℕ → List ℕ
pair_words length index = codes " length" ++ number_word length ++ codes " index" ++ number_word index

-- ---- lines

abbrev pub quiet_line : Bool → List ℕ
quiet_line true = codes "quiet yes" ++ line_end
quiet_line false = codes "quiet no" ++ line_end

-- the current step with length and index
abbrev pub step_line : ℕ → ℕ → ℕ → List ℕ
step_line step length index = codes "step" ++ number_word step ++ pair_words length index ++ line_end

abbrev pub address_words : List ℕ → List ℕ
address_words address = codes " " ++ address ++ line_end

abbrev pub entry_line : Row → List ℕ
entry_line row =
    codes "entry" ++ number_word row.nav.0 ++ number_word row.step.0 ++ memo_word row.memo ++ address_words row.address

-- a navigable whose document shows its target, and one that is on its way there
abbrev pub runs_line : ℕ → ℕ → ℕ → ℕ → List ℕ
runs_line nav step length index =
    codes "nav" ++ number_word nav ++ codes " runs" ++ number_word step ++ (pair_words length index ++ line_end)

abbrev pub moves_line : ℕ → ℕ → List ℕ
moves_line nav step = codes "nav" ++ number_word nav ++ codes " moves" ++ number_word step ++ line_end

abbrev pub denial_word : Denial → List ℕ
denial_word denials.NoStep = codes "no-step"
denial_word denials.NoNavigable = codes "no-navigable"
denial_word denials.NotShown = codes "not-shown"
denial_word denials.NoDocument = codes "no-document"
denial_word denials.NavTaken = codes "nav-taken"
denial_word denials.BadAddress = codes "address"

abbrev pub cause_words : Cause → List ℕ
cause_words causes.Stay = codes " stay"
cause_words (causes.By req) = codes " by" ++ number_word req.0
cause_words (causes.Destroyed req) = codes " destroyed" ++ number_word req.0
cause_words (causes.Gone death) = codes " gone" ++ number_word death.0

abbrev pub ending_words : Option Ending → List ℕ
ending_words None = codes " open"
ending_words (Some endings.Applied) = codes " applied"
ending_words (Some (endings.Refused reason)) = codes " refused " ++ denial_word reason
ending_words (Some (endings.Dropped cause)) = codes " dropped" ++ cause_words cause

abbrev pub request_line : ℕ → Option Ending → List ℕ
request_line nr ending = codes "request" ++ number_word nr ++ ending_words ending ++ line_end

-- ---- the whole

-- the view has the entry and the history's length and index
abbrev pub is_at : Row → ℕ → ℕ → View → Bool
is_at row length index view = same_entry view.entry row.entry && view.length == length && view.index == index

-- exactly one document runs, and it is there
abbrev pub one_is_at : Row → ℕ → ℕ → List Document → Bool
one_is_at row length index (d ∷ []) = holds (is_at row length index) d.view
one_is_at row length index _ = false

-- the line of a navigable, with its target
abbrev pub nav_line : Seen → Row → List ℕ
nav_line s target =
    let long = history_length s.history.rows in
    let at = history_index s.history.rows s.history.current in
    if one_is_at target long at (running_documents s target.nav)
    then runs_line target.nav.0 target.step.0 long at else moves_line target.nav.0 target.step.0

-- the row is its navigable's target at the current step
abbrev pub is_target : History → Row → Bool
is_target history row =
    holds (λ (target : Row). same_entry target.entry row.entry) (target_entry history.rows row.nav history.current)

-- and the navigable is shown there
abbrev pub is_shown_target : History → Row → Bool
is_shown_target history row = is_target history row && is_shown history.rows history.current row.nav

-- the line of the row's navigable, where the row is the target of a shown one
abbrev pub shown_line : Seen → Row → List ℕ
shown_line s row = if is_shown_target s.history row then nav_line s row else []

-- the requests, numbered from here on
abbrev pub request_lines : ℕ → List Asked → List ℕ
request_lines nr [] = []
request_lines nr (asked ∷ others) = request_line nr asked.ending ++ request_lines (nr + 1) others

-- the report of what a log has come to; the entries stand by navigable and then by step, and so do the shown navigables, each with its target
abbrev pub report_with : Seen → List ℕ
report_with s =
    quiet_line (is_quiet s)
    ++ step_line s.history.current (history_length s.history.rows) (history_index s.history.rows s.history.current)
    ++ flat_map entry_line (ordered s.history.rows)
    ++ flat_map (shown_line s) (ordered s.history.rows)
    ++ request_lines 1 s.requests

-- the report of a log
unfoldable pub report_of : List LogRow → List ℕ
report_of log = report_with (seen_of log)
