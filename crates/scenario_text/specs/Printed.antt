-- The text of a scenario: a line for each setting, and then a line for each step.
-- This project's own.
use Rattle.std.specs.Prelude.{◌≡◌, ℕ, ◌+◌, ◌≤◌, Bool, true, false, List, [], ◌∷◌, ◌++◌, length, flat_map, codes, decimal, Option, Some, None, Ok}
use Rattle.std.specs.Fmt.{signed_decimal}
use Rattle.log_model.specs.declared.action.Action.{Action}
use Rattle.log_model.specs.declared.action.Action.TheVariants as actions
use Rattle.log_model.specs.declared.header.Header.{Header}
use Rattle.log_model.specs.declared.header.Page.{Page}
use Rattle.log_model.specs.declared.header.Site.{Site}
use Rattle.log_model.specs.declared.request.Mode.{Mode}
use Rattle.log_model.specs.declared.request.Mode.TheVariants as modes
use Rattle.log_model.specs.declared.request.Request.{Request}
use Rattle.log_model.specs.declared.request.Request.TheVariants as requests
use Rattle.scenario_text.specs.declared.built.Built.{Built}
use Rattle.scenario_text.specs.declared.line.ScenarioLine.{ScenarioLine}
use Rattle.scenario_text.specs.declared.line.ScenarioLine.TheVariants as lines
use Rattle.scenario_text.specs.Scenarios.{Scenario}
use Rattle.scenario_text.specs.Grammar.{scenario_of}

-- ---- words

abbrev pub line_end : List ℕ
line_end = 10 ∷ []

-- a number after a space
abbrev pub number_word : ℕ → List ℕ
number_word n = codes " " ++ decimal n

-- a text after a space
abbrev pub text_word : List ℕ → List ℕ
text_word text = codes " " ++ text

-- a memo after a space; `-` is none
abbrev pub memo_word : Option (List ℕ) → List ℕ
memo_word (Some memo) = codes " " ++ memo
memo_word None = codes " -"

-- a reference after a space, where there is one
abbrev pub reference_word : Option (List ℕ) → List ℕ
reference_word (Some reference) = codes " " ++ reference
reference_word None = []

abbrev pub mode_word : Mode → List ℕ
mode_word modes.Auto = codes " auto"
mode_word modes.Push = codes " push"
mode_word modes.Replace = codes " replace"

abbrev pub stay_word : Bool → List ℕ
stay_word true = codes " stay"
stay_word false = codes " leave"

-- ---- lines after `open`

-- what the document of a navigable is to do
abbrev pub action_words : ℕ → Action → List ℕ
action_words nav (actions.Push memo reference) = codes "push" ++ number_word nav ++ memo_word memo ++ reference_word reference
action_words nav (actions.Replace memo reference) =
    codes "replace" ++ number_word nav ++ memo_word memo ++ reference_word reference
action_words nav (actions.Fragment text) = codes "fragment" ++ number_word nav ++ text_word text
action_words nav (actions.AddFrame child) = codes "frame" ++ number_word nav ++ number_word child.0
action_words nav (actions.RemoveFrame child) = codes "remove" ++ number_word nav ++ number_word child.0
action_words nav (actions.Go delta) = codes "docgo" ++ number_word nav ++ text_word (signed_decimal delta)
action_words nav actions.Edit = codes "edit" ++ number_word nav

abbrev pub request_words : Request → List ℕ
request_words (requests.Load nav mode address) = codes "load" ++ number_word nav.0 ++ mode_word mode ++ text_word address
request_words (requests.Go delta) = codes "go" ++ text_word (signed_decimal delta)
request_words (requests.Reload nav) = codes "reload" ++ number_word nav.0
request_words (requests.Poke nav action) = action_words nav.0 action

abbrev pub line_words : ScenarioLine → List ℕ
line_words (lines.Ask request) = request_words request
line_words (lines.Answer req stay) = codes "answer" ++ number_word req.0 ++ stay_word stay
line_words lines.Evict = codes "evict"
line_words (lines.Kill proc) = codes "kill" ++ number_word proc.0
line_words (lines.Act proc) = codes "act" ++ number_word proc.0
line_words (lines.Begin proc) = codes "begin" ++ number_word proc.0
line_words (lines.Finish proc) = codes "finish" ++ number_word proc.0
line_words (lines.Deliver proc) = codes "deliver" ++ number_word proc.0
line_words lines.Settle = codes "settle"

-- a line after `open`
abbrev pub line_text : ScenarioLine → List ℕ
line_text line = line_words line ++ line_end

-- ---- the header

abbrev pub keep_line : ℕ → List ℕ
keep_line keep = codes "keep" ++ number_word keep ++ line_end

abbrev pub site_line : Site → List ℕ
site_line site = codes "site" ++ text_word site.origin ++ number_word site.proc.0 ++ line_end

abbrev pub page_line : Page → List ℕ
page_line page = codes "page" ++ text_word page.base ++ number_word page.slot ++ line_end

abbrev pub open_text : List ℕ → List ℕ
open_text first = codes "open" ++ text_word first ++ line_end

-- the version, and a line for each setting; `keep` always has its line
abbrev pub header_text : Header → List ℕ
header_text header =
    (codes "session 1" ++ line_end) ++ keep_line header.keep ++ flat_map site_line header.sites ++ flat_map page_line header.pages ++ open_text header.first

-- the text of a scenario
unfoldable pub text_of : Scenario → List ℕ
text_of scenario = header_text scenario.header ++ flat_map line_text scenario.lines

-- ---- reading it back

-- how many lines the text has: the version, `keep`, `open`, and one for each site, each page and each step
abbrev pub line_count : Scenario → ℕ
line_count scenario = 3 + length scenario.header.sites + length scenario.header.pages + length scenario.lines

-- the text is read back as the scenario, by a caller that plays its lines, where it is within the limits
abbrev pub IsReadBack : Scenario → Type 0
IsReadBack scenario =
    (built : Built) × (length (text_of scenario) ≤ 4194304 → line_count scenario ≤ 65536 → scenario_of false built (text_of scenario) ≡ Ok scenario)
