-- How the steps of a round move a world on.
-- This project's own.
use Rattle.std.specs.Prelude.{◌≡◌, ◌<◌, ◌≤◌, Bool, true, false, ◌==◌, not, ◌&&◌, ◌||◌, List, length, is_some}
use Rattle.tab_ids.specs.declared.ProcId.{ProcId}
use Rattle.log_model.specs.declared.header.Header.{Header}
use Rattle.world.specs.Sited.{IsSited}
use Rattle.log_model.specs.declared.row_kind.LogRow.{LogRow}
use Rattle.log_model.specs.Logs.{in_hand_of, input_of, mail_of, reports_of}
use Rattle.world.specs.declared.error.StepError.{StepError}
use Rattle.world.specs.declared.error.StepError.TheVariants as errors
use Rattle.world.specs.Kept.{WorldState}
use Rattle.world.specs.Open.{row_limit}

-- a round has a turn of the process
abbrev pub HasTurn : ProcId → Type 0
HasTurn proc = (1 ≤ proc.0) × (proc.0 ≤ 16)

-- so it has of each process of the settings
abbrev pub HaveTurns : Header → Type 0
HaveTurns header = (proc : ProcId) → IsSited header proc → HasTurn proc

-- the world is open, its log is no shorter, and where something was due more was logged, from below the limit on, and where nothing was nothing changed
pub record MovesIf (due : Bool) (old new : WorldState) : Type 0 where
  pub opened : new.closed ≡ false
  pub longer : length old.log ≤ length new.log
  pub more : due ≡ true → length old.log < length new.log
  pub below : due ≡ true → length old.log < row_limit
  pub idle : due ≡ false → new ≡ old

-- why an open world's step failed: the log is full, `url` overflowed, or there was no memory
abbrev pub IsFault : WorldState → StepError → Type 0
IsFault world errors.Closed = ⊥
IsFault world errors.LogFull = row_limit ≤ length world.log
IsFault world (errors.UrlOverflow overflowed) = Unit {0}
IsFault world errors.OutOfMemory = Unit {0}

-- a poke, an order or a report waits in the process, or an order is in hand
abbrev pub has_poke : List LogRow → ProcId → Bool
has_poke log proc = not (length (input_of log proc) == 0)

abbrev pub has_order : List LogRow → ProcId → Bool
has_order log proc = is_some (in_hand_of log proc) || not (length (mail_of log proc) == 0)

abbrev pub has_report : List LogRow → ProcId → Bool
has_report log proc = not (length (reports_of log proc) == 0)

-- an order waits in its mail, and none is in hand
abbrev pub has_mail : List LogRow → ProcId → Bool
has_mail log proc = not (is_some (in_hand_of log proc)) && not (length (mail_of log proc) == 0)
