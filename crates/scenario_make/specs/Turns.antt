-- The line of each turn of the generator of scenarios. Its draws are made from left to right.
-- This project's own.
use Rattle.std.specs.Prelude.{ℕ, pos, negsuc, ◌+◌, ◌==◌, List, ◌++◌, codes, decimal, Some, if◌then◌else◌}
use Rattle.log_model.specs.declared.action.Action.TheVariants as actions
use Rattle.log_model.specs.declared.request.Mode.TheVariants as modes
use Rattle.log_model.specs.declared.request.Request.TheVariants as requests
use Rattle.scenario_text.specs.declared.line.ScenarioLine.{ScenarioLine}
use Rattle.scenario_text.specs.declared.line.ScenarioLine.TheVariants as lines
use Rattle.scenario_make.specs.Draws.{after_draw, drawn}

-- what a turn makes: its line, and the number that is kept after its draws
pub record Turn : Type 0 where
  pub line : ScenarioLine
  pub kept : ℕ

-- ---- words

-- HOST: `a`, `b` or `c`
abbrev pub host_text : ℕ → List ℕ
host_text host = if host == 0 then codes "a" else (if host == 1 then codes "b" else codes "c")

-- `http://HOST.test/pJ`
abbrev pub page_address : ℕ → ℕ → List ℕ
page_address host page = codes "http://" ++ host_text host ++ codes ".test/p" ++ decimal page

-- `/pJ`
abbrev pub page_path : ℕ → List ℕ
page_path page = codes "/p" ++ decimal page

-- `fJ`
abbrev pub fragment_text : ℕ → List ℕ
fragment_text page = codes "f" ++ decimal page

-- ---- lines

-- `load NAV auto http://HOST.test/pJ`
abbrev pub load : ℕ → ℕ → ℕ → ScenarioLine
load nav host page = lines.Ask (requests.Load (record { 0 = nav }) modes.Auto (page_address host page))

-- `push NAV s /pJ`
abbrev pub push : ℕ → ℕ → ScenarioLine
push nav page = lines.Ask (requests.Poke (record { 0 = nav }) (actions.Push (Some (codes "s")) (Some (page_path page))))

-- `fragment 0 fJ`
abbrev pub fragment : ℕ → ScenarioLine
fragment page = lines.Ask (requests.Poke (record { 0 = 0 }) (actions.Fragment (fragment_text page)))

-- `go -1` and `go 1`
abbrev pub back : ScenarioLine
back = lines.Ask (requests.Go (negsuc 0))

abbrev pub forward : ScenarioLine
forward = lines.Ask (requests.Go (pos 1))

-- `reload 0` and `edit 0`
abbrev pub reload : ScenarioLine
reload = lines.Ask (requests.Reload (record { 0 = 0 }))

abbrev pub edit : ScenarioLine
edit = lines.Ask (requests.Poke (record { 0 = 0 }) actions.Edit)

-- `kill P`
abbrev pub kill : ℕ → ScenarioLine
kill proc = lines.Kill (record { 0 = proc })

-- ---- turns

-- a load: HOST and J are drawn; like those below of the number that is kept before these draws
unfoldable pub load_turn : ℕ → ℕ → Turn
load_turn nav kept =
    record {
      line = load nav (drawn 3 (after_draw kept)) (drawn 4 (after_draw (after_draw kept)));
      kept = after_draw (after_draw kept);
    }

-- a push: J is drawn
unfoldable pub push_turn : ℕ → ℕ → Turn
push_turn nav kept = record { line = push nav (drawn 4 (after_draw kept)); kept = after_draw kept }

-- a fragment: J is drawn
unfoldable pub fragment_turn : ℕ → Turn
fragment_turn kept = record { line = fragment (drawn 4 (after_draw kept)); kept = after_draw kept }

-- the end of a process: P is drawn, from 1
unfoldable pub kill_turn : ℕ → Turn
kill_turn kept = record { line = kill (drawn 3 (after_draw kept) + 1); kept = after_draw kept }

-- one of four lines, by what was drawn, with the number that is kept after that draw
unfoldable pub rare_turn : ℕ → ℕ → Turn
rare_turn which kept =
    if which == 0 then record { line = reload; kept = kept }
    else (if which == 1 then record { line = edit; kept = kept }
    else (if which == 2 then kill_turn kept
    else record { line = lines.Evict; kept = kept }))

-- a turn of a kind that was drawn, with the number that is kept after that draw
unfoldable pub turn_of_kind : ℕ → ℕ → Turn
turn_of_kind kind kept =
    if kind == 0 then load_turn 0 kept
    else (if kind == 1 then load_turn 1 kept
    else (if kind == 2 then push_turn 0 kept
    else (if kind == 3 then push_turn 1 kept
    else (if kind == 4 then fragment_turn kept
    else (if kind == 5 then record { line = back; kept = kept }
    else (if kind == 6 then record { line = forward; kept = kept }
    else rare_turn (drawn 4 (after_draw kept)) (after_draw kept)))))))

-- a turn, of the number that is kept before it
unfoldable pub turn_after : ℕ → Turn
turn_after kept = turn_of_kind (drawn 8 (after_draw kept)) (after_draw kept)
