-- The lines after `open`: for each first word the fields that follow it, from left to right.
-- This project's own.
use Rattle.std.specs.Prelude.{ℕ, ◌&&◌, Bool, List, codes, bytes_eq, Option, Some, None, Result, Ok, Err, if◌then◌else◌}
use Rattle.tab_ids.specs.declared.NavId.{NavId}
use Rattle.tab_ids.specs.declared.ProcId.{ProcId}
use Rattle.log_model.specs.declared.action.Action.TheVariants as actions
use Rattle.log_model.specs.declared.request.Request.TheVariants as requests
use Rattle.scenario_text.specs.declared.built.Built.{Built}
use Rattle.scenario_text.specs.declared.line.ScenarioLine.{ScenarioLine}
use Rattle.scenario_text.specs.declared.line.ScenarioLine.TheVariants as lines
use Rattle.scenario_text.specs.declared.reason.Reason.{Reason}
use Rattle.scenario_text.specs.declared.reason.Reason.TheVariants.{Count, StepLine, Unbuilt, Word as NoWord}
use Rattle.scenario_text.specs.declared.word.Word.{Word}
use Rattle.scenario_text.specs.declared.word.Word.TheVariants as kinds
use Rattle.scenario_text.specs.Chain.{◌>>=◌, unless}
use Rattle.scenario_text.specs.Numbers.{delta_of}
use Rattle.scenario_text.specs.Readings.{nav_of, child_of, proc_of, request_of, mode_of, stay_of, memo_of, text_of, address_field}
use Rattle.scenario_text.specs.Plays.{plays, is_step}
use Rattle.scenario_text.specs.Words as words
use Rattle.scenario_text.specs.Words.{words_of, split_words}

-- ---- fields that several lines have

-- NAV alone
unfoldable pub nav_alone : words.Fields → Result NavId Reason
nav_alone (words.one nav) = nav_of nav
nav_alone _ = Err Count

-- P alone
unfoldable pub proc_alone : words.Fields → Result ProcId Reason
proc_alone (words.one proc) = proc_of proc
proc_alone _ = Err Count

-- NAV CHILD
unfoldable pub nav_and_child : words.Fields → Result (NavId × NavId) Reason
nav_and_child (words.two nav child) = do
  nav ← nav_of nav
  child ← child_of child
  Ok (nav, child)
nav_and_child _ = Err Count

-- NAV MEMO, or NAV MEMO REF
unfoldable pub entry_fields : words.Fields → Result (NavId × Option (List ℕ) × Option (List ℕ)) Reason
entry_fields (words.two nav memo) = do
  nav ← nav_of nav
  memo ← memo_of memo
  Ok (nav, memo, None)
entry_fields (words.three nav memo reference) = do
  nav ← nav_of nav
  memo ← memo_of memo
  reference ← text_of reference
  Ok (nav, memo, Some reference)
entry_fields _ = Err Count

-- ---- requests

-- `load NAV MODE ADDRESS`
unfoldable pub load_line : words.Fields → Result ScenarioLine Reason
load_line (words.three nav mode address) = do
  nav ← nav_of nav
  mode ← mode_of mode
  address ← address_field address
  Ok (lines.Ask (requests.Load nav mode address))
load_line _ = Err Count

-- `go DELTA`
unfoldable pub go_line : words.Fields → Result ScenarioLine Reason
go_line (words.one delta) = do
  delta ← delta_of delta
  Ok (lines.Ask (requests.Go delta))
go_line _ = Err Count

-- `reload NAV`
unfoldable pub reload_line : words.Fields → Result ScenarioLine Reason
reload_line fields = nav_alone fields >>= λ nav. Ok (lines.Ask (requests.Reload nav))

-- `push NAV MEMO` or `push NAV MEMO REF`
unfoldable pub push_line : words.Fields → Result ScenarioLine Reason
push_line fields = do
  entry ← entry_fields fields
  Ok (lines.Ask (requests.Poke entry.0 (actions.Push entry.1 entry.2)))

-- `replace NAV MEMO` or `replace NAV MEMO REF`
unfoldable pub replace_line : words.Fields → Result ScenarioLine Reason
replace_line fields = do
  entry ← entry_fields fields
  Ok (lines.Ask (requests.Poke entry.0 (actions.Replace entry.1 entry.2)))

-- `fragment NAV TEXT`
unfoldable pub fragment_line : words.Fields → Result ScenarioLine Reason
fragment_line (words.two nav text) = do
  nav ← nav_of nav
  text ← text_of text
  Ok (lines.Ask (requests.Poke nav (actions.Fragment text)))
fragment_line _ = Err Count

-- `frame NAV CHILD`
unfoldable pub frame_line : words.Fields → Result ScenarioLine Reason
frame_line fields = do
  both ← nav_and_child fields
  Ok (lines.Ask (requests.Poke both.0 (actions.AddFrame both.1)))

-- `remove NAV CHILD`
unfoldable pub remove_line : words.Fields → Result ScenarioLine Reason
remove_line fields = do
  both ← nav_and_child fields
  Ok (lines.Ask (requests.Poke both.0 (actions.RemoveFrame both.1)))

-- `docgo NAV DELTA`
unfoldable pub docgo_line : words.Fields → Result ScenarioLine Reason
docgo_line (words.two nav delta) = do
  nav ← nav_of nav
  delta ← delta_of delta
  Ok (lines.Ask (requests.Poke nav (actions.Go delta)))
docgo_line _ = Err Count

-- `edit NAV`
unfoldable pub edit_line : words.Fields → Result ScenarioLine Reason
edit_line fields = nav_alone fields >>= λ nav. Ok (lines.Ask (requests.Poke nav actions.Edit))

-- ---- answers, processes and the rest

-- `answer REQ stay` or `answer REQ leave`
unfoldable pub answer_line : words.Fields → Result ScenarioLine Reason
answer_line (words.two req stay) = do
  req ← request_of req
  stay ← stay_of stay
  Ok (lines.Answer req stay)
answer_line _ = Err Count

-- `evict`
unfoldable pub evict_line : words.Fields → Result ScenarioLine Reason
evict_line words.zero = Ok lines.Evict
evict_line _ = Err Count

-- `kill P`
unfoldable pub kill_line : words.Fields → Result ScenarioLine Reason
kill_line fields = proc_alone fields >>= λ proc. Ok (lines.Kill proc)

-- `act P`
unfoldable pub act_line : words.Fields → Result ScenarioLine Reason
act_line fields = proc_alone fields >>= λ proc. Ok (lines.Act proc)

-- `begin P`
unfoldable pub begin_line : words.Fields → Result ScenarioLine Reason
begin_line fields = proc_alone fields >>= λ proc. Ok (lines.Begin proc)

-- `finish P`
unfoldable pub finish_line : words.Fields → Result ScenarioLine Reason
finish_line fields = proc_alone fields >>= λ proc. Ok (lines.Finish proc)

-- `deliver P`
unfoldable pub deliver_line : words.Fields → Result ScenarioLine Reason
deliver_line fields = proc_alone fields >>= λ proc. Ok (lines.Deliver proc)

-- `settle`
unfoldable pub settle_line : words.Fields → Result ScenarioLine Reason
settle_line words.zero = Ok lines.Settle
settle_line _ = Err Count

-- ---- the table

-- the first word of a line after `open`
abbrev pub word_of : List ℕ → Option Word
word_of word =
    if bytes_eq word (codes "load") then Some kinds.Load
    else (if bytes_eq word (codes "go") then Some kinds.Go
    else (if bytes_eq word (codes "reload") then Some kinds.Reload
    else (if bytes_eq word (codes "push") then Some kinds.Push
    else (if bytes_eq word (codes "replace") then Some kinds.Replace
    else (if bytes_eq word (codes "fragment") then Some kinds.Fragment
    else (if bytes_eq word (codes "frame") then Some kinds.Frame
    else (if bytes_eq word (codes "remove") then Some kinds.Remove
    else (if bytes_eq word (codes "docgo") then Some kinds.DocGo
    else (if bytes_eq word (codes "edit") then Some kinds.Edit
    else (if bytes_eq word (codes "answer") then Some kinds.Answer
    else (if bytes_eq word (codes "evict") then Some kinds.Evict
    else (if bytes_eq word (codes "kill") then Some kinds.Kill
    else (if bytes_eq word (codes "act") then Some kinds.Act
    else (if bytes_eq word (codes "begin") then Some kinds.Begin
    else (if bytes_eq word (codes "finish") then Some kinds.Finish
    else (if bytes_eq word (codes "deliver") then Some kinds.Deliver
    else (if bytes_eq word (codes "settle") then Some kinds.Settle
    else None)))))))))))))))))

-- the line that a first word and those after it spell
abbrev pub line_of : Option Word → words.Fields → Result ScenarioLine Reason
line_of (Some kinds.Load) fields = load_line fields
line_of (Some kinds.Go) fields = go_line fields
line_of (Some kinds.Reload) fields = reload_line fields
line_of (Some kinds.Push) fields = push_line fields
line_of (Some kinds.Replace) fields = replace_line fields
line_of (Some kinds.Fragment) fields = fragment_line fields
line_of (Some kinds.Frame) fields = frame_line fields
line_of (Some kinds.Remove) fields = remove_line fields
line_of (Some kinds.DocGo) fields = docgo_line fields
line_of (Some kinds.Edit) fields = edit_line fields
line_of (Some kinds.Answer) fields = answer_line fields
line_of (Some kinds.Evict) fields = evict_line fields
line_of (Some kinds.Kill) fields = kill_line fields
line_of (Some kinds.Act) fields = act_line fields
line_of (Some kinds.Begin) fields = begin_line fields
line_of (Some kinds.Finish) fields = finish_line fields
line_of (Some kinds.Deliver) fields = deliver_line fields
line_of (Some kinds.Settle) fields = settle_line fields
line_of None fields = Err NoWord

-- the line that bytes spell: the first word, then how many words there are, then the fields
unfoldable pub body_line : List ℕ → Result ScenarioLine Reason
body_line line = let split = split_words (words_of line) in line_of (word_of split.0) split.1

-- what is wrong with a line for its caller: a step of its own where threads run, and then that the caller can't play it
abbrev pub caller_fault : Bool → Built → ScenarioLine → Option Reason
caller_fault in_run built line =
    if in_run && is_step line then Some StepLine
    else (if plays built line then None else Some Unbuilt)

-- the line that bytes spell, unless its caller may not have it
unfoldable pub played_line : Bool → Built → List ℕ → Result ScenarioLine Reason
played_line in_run built line = body_line line >>= λ spelled. unless (caller_fault in_run built spelled) spelled
