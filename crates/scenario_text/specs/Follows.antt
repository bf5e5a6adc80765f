-- When a log follows a scenario: it opens as the header says, its events are those that the lines ask for, in order, and there are no others.
-- This project's own.
use Rattle.std.specs.Prelude.{◌≡◌, ◌⊎◌, ℕ, zero, suc, ◌+◌, Bool, true, false, not, ◌&&◌, ◌||◌, ◌==◌, List, [], ◌∷◌, ◌++◌, fold, length, bytes_eq, is_none, is_some, if◌then◌else◌}
use Rattle.tab_ids.specs.declared.ProcId.{ProcId}
use Rattle.log_model.specs.declared.action.Action.{Action}
use Rattle.log_model.specs.declared.action.Action.TheVariants as actions
use Rattle.log_model.specs.declared.request.Request.{Request}
use Rattle.log_model.specs.declared.request.Request.TheVariants as requests
use Rattle.log_model.specs.declared.row_kind.Actor.{Actor}
use Rattle.log_model.specs.declared.row_kind.Actor.TheVariants as actors
use Rattle.log_model.specs.declared.row_kind.LogRow.{LogRow}
use Rattle.log_model.specs.declared.row_kind.RowKind.{RowKind}
use Rattle.log_model.specs.declared.row_kind.RowKind.TheVariants as rows
use Rattle.log_model.specs.Equal.{holds, same_memo, same_delta, same_mode}
use Rattle.log_model.specs.Seen.{Seen, nothing, desk_of, request_of}
use Rattle.log_model.specs.After.{after}
use Rattle.log_model.specs.Logs.{seen_of, is_still, is_prompt_up}
use Rattle.log_model.specs.Events.{events_of}
use Rattle.log_model.specs.Suits.{Suits}
use Rattle.scenario_text.specs.declared.line.ScenarioLine.{ScenarioLine}
use Rattle.scenario_text.specs.declared.line.ScenarioLine.TheVariants as lines
use Rattle.scenario_text.specs.Scenarios.{Scenario}

-- ---- the request of a line is the one that was accepted

abbrev pub same_action : Action → Action → Bool
same_action (actions.Push m r) (actions.Push m' r') = same_memo m m' && same_memo r r'
same_action (actions.Replace m r) (actions.Replace m' r') = same_memo m m' && same_memo r r'
same_action (actions.Fragment t) (actions.Fragment t') = bytes_eq t t'
same_action (actions.AddFrame n) (actions.AddFrame n') = n.0 == n'.0
same_action (actions.RemoveFrame n) (actions.RemoveFrame n') = n.0 == n'.0
same_action (actions.Go d) (actions.Go d') = same_delta d d'
same_action actions.Edit actions.Edit = true
same_action _ _ = false

abbrev pub same_request : Request → Request → Bool
same_request (requests.Load n m a) (requests.Load n' m' a') = n.0 == n'.0 && (same_mode m m' && bytes_eq a a')
same_request (requests.Go d) (requests.Go d') = same_delta d d'
same_request (requests.Reload n) (requests.Reload n') = n.0 == n'.0
same_request (requests.Poke n a) (requests.Poke n' a') = n.0 == n'.0 && same_action a a'
same_request _ _ = false

-- ---- the event of a line

-- the process is the one that acts
abbrev pub is_process : ProcId → Actor → Bool
is_process proc (actors.Proc p) = p.0 == proc.0
is_process proc _ = false

abbrev pub is_ui : Actor → Bool
is_ui actors.Ui = true
is_ui _ = false

abbrev pub is_coordinator : Actor → Bool
is_coordinator actors.Coord = true
is_coordinator _ = false

-- who acts in the event of the line; `settle` has no event of its own
abbrev pub is_actor : ScenarioLine → Actor → Bool
is_actor (lines.Ask request) actor = is_ui actor
is_actor (lines.Answer req stay) actor = is_ui actor
is_actor lines.Evict actor = is_ui actor
is_actor (lines.Kill proc) actor = is_ui actor
is_actor (lines.Act proc) actor = is_process proc actor
is_actor (lines.Begin proc) actor = is_process proc actor
is_actor (lines.Finish proc) actor = is_process proc actor
is_actor (lines.Deliver proc) actor = is_coordinator actor
is_actor lines.Settle actor = false

-- the first row of the line's event: what was accepted, or what the process made, refused, took or finished, or that a report of it was delivered
abbrev pub is_own : ScenarioLine → RowKind → Bool
is_own (lines.Ask request) (rows.Accepted req doc what) = same_request what request
is_own (lines.Answer req stay) (rows.Answered r s) = r.0 == req.0 && (if stay then s else not s)
is_own lines.Evict (rows.Evicted state) = true
is_own (lines.Kill proc) (rows.Killed p death) = p.0 == proc.0
is_own (lines.Act proc) (rows.Made p made) = p.0 == proc.0
is_own (lines.Act proc) (rows.Refused req reason) = true
is_own (lines.Begin proc) (rows.Taken p job live dirty) = p.0 == proc.0
is_own (lines.Finish proc) (rows.Finished p job outcome) = p.0 == proc.0
is_own (lines.Deliver proc) (rows.Delivered p) = p.0 == proc.0
is_own _ _ = false

-- the rows are those of the line's event
abbrev pub is_event : ScenarioLine → List LogRow → Bool
is_event line [] = false
is_event line (row ∷ rows) = is_actor line row.actor && is_own line row.row

-- nothing waits for the line: its event would answer without logging, so the line is passed over. A document acts on a poke, a process takes up an order unless one is in hand, and finishes the one in hand; a report is delivered; a prompt is answered while it is up; the document kept longest is evicted
abbrev pub is_passed : Seen → ScenarioLine → Bool
is_passed s (lines.Ask request) = false
is_passed s (lines.Answer req stay) = not (holds is_prompt_up (request_of s req))
is_passed s lines.Evict = length s.kept == 0
is_passed s (lines.Kill proc) = false
is_passed s (lines.Act proc) = length (desk_of s proc).input == 0
is_passed s (lines.Begin proc) = is_some (desk_of s proc).in_hand || length (desk_of s proc).mail == 0
is_passed s (lines.Finish proc) = is_none (desk_of s proc).in_hand
is_passed s (lines.Deliver proc) = length (desk_of s proc).reports == 0
is_passed s lines.Settle = true

-- ---- lines, one after the other

-- how far lines and events go together: they go on, to what the log has come to and the events that are left; or the next event isn't the one that is due; or an event is due where the log ends
pub data Course : Type 0 where
  goes : Seen → List (List LogRow) → Course
  strays : Course
  stops : Course

-- what is played at a moment of a log, on the events that are left
abbrev pub Stage : Type 0
Stage = Seen → List (List LogRow) → Course

-- one thing is played, and then another
abbrev pub and_then : Course → Stage → Course
and_then (goes s events) next = next s events
and_then strays next = strays
and_then stops next = stops

-- an event of the line is due: the next one has to be it
abbrev pub takes : ScenarioLine → Stage
takes line s [] = stops
takes line s (event ∷ events) = if is_event line event then goes (fold after s event) events else strays

-- one line but `settle` is its event, or is passed over
unfoldable pub does : ScenarioLine → Stage
does line s events = if is_passed s line then goes s events else takes line s events

-- such lines, one after the other
unfoldable pub does_all : List ScenarioLine → Stage
does_all [] s events = goes s events
does_all (line ∷ more) s events = and_then (does line s events) (does_all more)

-- ---- `settle`

-- the turn of a process, as lines: it acts; it takes up an order, unless one is in hand, and finishes the one in hand, unless what it took up was void; and a report of it is delivered
abbrev pub turn_of : ProcId → List ScenarioLine
turn_of proc = lines.Act proc ∷ lines.Begin proc ∷ lines.Finish proc ∷ lines.Deliver proc ∷ []

-- the turns of the processes from 1 up to a number
abbrev pub turns_to : ℕ → List ScenarioLine
turns_to zero = []
turns_to (suc n) = turns_to n ++ turn_of (record { 0 = suc n })

-- a round goes through the processes that a scenario may name
abbrev pub a_round : Stage
a_round = does_all (turns_to 16)

-- rounds, up to a number, until nothing is in transit
unfoldable pub rounds : ℕ → Stage
rounds zero s events = if is_still s then goes s events else strays
rounds (suc n) s events = if is_still s then goes s events else and_then (a_round s events) (rounds n)

-- `settle`: no more rounds are needed than there are events, and one that finds an event missing
abbrev pub settles : Stage
settles s events = rounds (length events + 1) s events

-- ---- a scenario

-- one line
abbrev pub plays_line : ScenarioLine → Stage
plays_line lines.Settle = settles
plays_line (lines.Ask request) = does (lines.Ask request)
plays_line (lines.Answer req stay) = does (lines.Answer req stay)
plays_line lines.Evict = does lines.Evict
plays_line (lines.Kill proc) = does (lines.Kill proc)
plays_line (lines.Act proc) = does (lines.Act proc)
plays_line (lines.Begin proc) = does (lines.Begin proc)
plays_line (lines.Finish proc) = does (lines.Finish proc)
plays_line (lines.Deliver proc) = does (lines.Deliver proc)

-- lines, one after the other
unfoldable pub plays : List ScenarioLine → Stage
plays [] s events = goes s events
plays (line ∷ more) s events = and_then (plays_line line s events) (plays more)

-- the lines on the events after the first, which opens the log
unfoldable pub course_of : List ScenarioLine → List (List LogRow) → Course
course_of lines [] = strays
course_of lines (opening ∷ events) = plays lines (fold after nothing opening) events

-- the log opens as the scenario says, and its events are those of the scenario's lines
pub record Follows (log : List LogRow) (scenario : Scenario) : Type 0 where
  pub suits : Suits scenario.header log
  pub course : course_of scenario.lines (events_of log) ≡ goes (seen_of log) []

-- the same, up to a line whose event is missing: an event that logs was due where the log ends
pub record IsCutShort (log : List LogRow) (scenario : Scenario) : Type 0 where
  pub suits : Suits scenario.header log
  pub course : course_of scenario.lines (events_of log) ≡ stops

-- the log follows the scenario up to a moment
abbrev pub FollowsUpTo : List LogRow → Scenario → Type 0
FollowsUpTo log scenario = Follows log scenario ⊎ IsCutShort log scenario
