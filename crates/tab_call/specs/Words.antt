-- The words of the command line, as their bytes, what they ask for, and the text that is then due.
-- This project's own.
use Rattle.std.specs.Prelude.{ℕ, Bool, true, false, ◌&&◌, nat_le, List, [], ◌∷◌, length, codes, bytes_eq, Option, Some, None, option_map, if◌then◌else◌}
use Rattle.std.specs.Str.Parse.{digits_value}
use Rattle.log_model.specs.declared.row_kind.LogRow.{LogRow}
use Rattle.scenario_text.specs.Numbers.{are_digits, has_no_zero_in_front}
use Rattle.scenario_text.specs.Printed.{text_of}
use Rattle.scenario_make.specs.Scenarios.{made_scenario}
use Rattle.tab_call.specs.declared.words.Output.TheVariants as outputs
use Rattle.tab_call.specs.declared.words.Work.{Work}
use Rattle.tab_call.specs.declared.words.Work.TheVariants as works
use Rattle.tab_call.specs.Writes.{text_of_log}

-- N: a decimal number of 1 to 9 digits, without a leading zero but `0`
abbrev pub number_in : List ℕ → Option ℕ
number_in word =
    if are_digits word && (has_no_zero_in_front word && nat_le (length word) 9) then Some (digits_value 10 word) else None

-- `play` asks for the report of a log
abbrev pub work_of_one : List ℕ → Option Work
work_of_one word = if bytes_eq word (codes "play") then Some (works.Play outputs.Report) else None

-- `play log` asks for the log before it, and `make N` for the scenario that is made of N
abbrev pub work_of_two : List ℕ → List ℕ → Option Work
work_of_two word more =
    if bytes_eq word (codes "play") then (if bytes_eq more (codes "log") then Some (works.Play outputs.LogAndReport) else None)
    else (if bytes_eq word (codes "make") then option_map (λ n. works.Make n) (number_in more) else None)

-- what words ask for; all others ask for nothing
abbrev pub work_of : List (List ℕ) → Option Work
work_of (word ∷ []) = work_of_one word
work_of (word ∷ more ∷ []) = work_of_two word more
work_of _ = None

-- the words ask to play a scenario
abbrev pub asks_to_play : Option Work → Bool
asks_to_play (Some (works.Play output)) = true
asks_to_play (Some (works.Make n)) = false
asks_to_play None = false

-- the text that is due: where a scenario is to be played, that of its log, if there is one; where one is to be made, its own, which takes no log
abbrev pub text_due : Option Work → Option (List LogRow) → Option (List ℕ)
text_due (Some (works.Play output)) log = text_of_log output log
text_due (Some (works.Make n)) log = Some (text_of (made_scenario n))
text_due None log = None
