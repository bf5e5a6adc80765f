-- The grammar of a scenario: which scenario bytes spell, and else the first faulty line with its first reason.
-- This project's own.
use Rattle.std.specs.Prelude.{◌≡◌, ℕ, ◌+◌, ◌==◌, ◌&&◌, not, Bool, true, nat_lt, nat_le, List, [], ◌∷◌, ◌++◌, length, codes, bytes_eq, Result, Ok, Err, if◌then◌else◌}
use Rattle.std.specs.List.{list_all, list_any}
use Rattle.scenario_text.specs.declared.built.Built.{Built}
use Rattle.scenario_text.specs.declared.error.Refusal.{Refusal}
use Rattle.scenario_text.specs.declared.place.Place.{Place}
use Rattle.scenario_text.specs.declared.place.Place.TheVariants as places
use Rattle.scenario_text.specs.declared.place.Stage.TheVariants as stages
use Rattle.scenario_text.specs.declared.reason.Reason.{Reason}
use Rattle.scenario_text.specs.declared.reason.Reason.TheVariants.{TooLong, TooMany, NoEnd, Bytes, Spaces, Unbuilt, Header as NoHeader}
use Rattle.scenario_text.specs.Scenarios.{Scenario}
use Rattle.scenario_text.specs.Pieces.{pieces}
use Rattle.scenario_text.specs.Chain.{◌>>=◌}
use Rattle.scenario_text.specs.Plays.{plays_place}
use Rattle.scenario_text.specs.Words.{words_of}
use Rattle.scenario_text.specs.Body.{played_line}
use Rattle.scenario_text.specs.Heading.{plain_settings, heading_line}

-- ---- one line

-- a byte that a line may have
abbrev pub is_plain : ℕ → Bool
is_plain b = nat_le 32 b && nat_le b 126

-- an empty line, or one that begins with `#`
abbrev pub is_passed_over : List ℕ → Bool
is_passed_over [] = true
is_passed_over (b ∷ bytes) = b == 35

-- a word is empty: the line begins or ends with a space, or has two spaces together
abbrev pub has_empty_word : List ℕ → Bool
has_empty_word line = list_any (λ word. length word == 0) (words_of line)

-- the place, where the caller can play the line of the header that leads there
abbrev pub played_place : Built → Place → Result Place Reason
played_place built place = if plays_place built place then Ok place else Err Unbuilt

-- a line that counts: the first is the version, then come the header's up to `open`, then those that are played
unfoldable pub after_counted : Bool → Built → Place → List ℕ → Result Place Reason
after_counted in_run built places.Start line =
    if bytes_eq line (codes "session 1") then Ok (places.Heading stages.Version plain_settings) else Err NoHeader
after_counted in_run built (places.Heading stage settings) line = do
  next ← heading_line stage settings line
  played_place built next
after_counted in_run built (places.Body header before) line = do
  last ← played_line in_run built line
  Ok (places.Body header (before ++ last ∷ []))

-- how far the lines have come after one more; the reasons of a line stand here in their order, and go on in what is cited
unfoldable pub after_line : Bool → Built → Place → List ℕ → Result Place Reason
after_line in_run built place line =
    if not (list_all is_plain line) then Err Bytes
    else (if is_passed_over line then Ok place
    else (if has_empty_word line then Err Spaces
    else after_counted in_run built place line))

-- ---- all lines

-- a line's fault
abbrev pub faulty : {X : Type 0} → ℕ → Reason → Result X Refusal
faulty number reason = Err (record { line = number; reason = reason })

-- the reason, if any, as the fault of a line
abbrev pub at_line : {X : Type 0} → ℕ → Result X Reason → Result X Refusal
at_line number (Ok x) = Ok x
at_line number (Err reason) = faulty number reason

-- the scenario, once `open` has come
abbrev pub finished : ℕ → Place → Result Scenario Refusal
finished number places.Start = faulty number NoHeader
finished number (places.Heading stage settings) = faulty number NoHeader
finished number (places.Body header lines) = Ok (record { header = header; lines = lines })

-- what stands after the last line feed is nothing; its number is the number of lines plus 1
unfoldable pub at_end : ℕ → Place → List ℕ → Result Scenario Refusal
at_end number place rest =
    if length rest == 0 then finished number place
    else faulty number (if nat_lt 65536 number then TooMany else NoEnd)

-- the lines from one with a number on, which stand at a place
unfoldable pub read_pieces : Bool → Built → ℕ → Place → List (List ℕ) → Result Scenario Refusal
read_pieces in_run built number place [] = at_end number place []
read_pieces in_run built number place (line ∷ others) =
    if length others == 0 then at_end number place line
    else (if nat_lt 65536 number then faulty number TooMany
    else (at_line number (after_line in_run built place line) >>= λ next. read_pieces in_run built (number + 1) next others))

-- the scenario that bytes spell, or the first faulty line and its first reason
unfoldable pub scenario_of : Bool → Built → List ℕ → Result Scenario Refusal
scenario_of in_run built bytes =
    if nat_lt 4194304 (length bytes) then faulty 0 TooLong
    else read_pieces in_run built 1 places.Start (pieces 10 bytes)

-- some bytes spell the scenario, for some caller
abbrev pub IsSpelled : Scenario → Type 0
IsSpelled scenario = (in_run : Bool) × (built : Built) × (bytes : List ℕ) × (scenario_of in_run built bytes ≡ Ok scenario)
