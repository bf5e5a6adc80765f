-- Rows that pass each test of their event, whatever comes after them in it.
-- This project's own.
use Rattle.std.specs.Prelude.{◌≡◌, true, List, [], ◌∷◌, ◌++◌}
use Rattle.log_model.specs.declared.header.Header.{Header}
use Rattle.log_model.specs.declared.row_kind.LogRow.{LogRow}
use Rattle.log_model.specs.Seen.{Seen}
use Rattle.log_model.specs.After.{after}
use Rattle.log_model.specs.Events.{Point}
use Rattle.log_model.specs.Formed.{is_formed_row}
use Rattle.log_model.specs.Once.{is_once_row}
use Rattle.log_model.specs.Causes.{is_caused_row}
use Rattle.log_model.specs.Queue.{is_queued_row}
use Rattle.log_model.specs.Orders.{is_ordered_row}
use Rattle.log_model.specs.Checks.{is_checked_row}
use Rattle.log_model.specs.ActsAtOnce.{is_row_in_time}
use Rattle.log_model.specs.Suits.{is_suitable_row}

-- a row passes each test of a row: those of a legal log, of acting at once, and of the settings
pub record Passes (header : Header) (p : Point) (row : LogRow) : Type 0 where
  pub formed : is_formed_row p row ≡ true
  pub once : is_once_row p row ≡ true
  pub caused : is_caused_row p row ≡ true
  pub queued : is_queued_row p row ≡ true
  pub ordered : is_ordered_row p row ≡ true
  pub checked : is_checked_row p row ≡ true
  pub in_time : is_row_in_time p row ≡ true
  pub suits : is_suitable_row header p row ≡ true

-- where an event stands: the settings, what the log had come to as it began, what it has come to, and its rows so far
pub record Here : Type 0 where
  pub header : Header
  pub start : Seen
  pub now : Seen
  pub done : List LogRow

-- the point of a row that comes next, with these rows after it
abbrev pub point_at : Here → List LogRow → Point
point_at h later = record { start = h.start; now = h.now; done = h.done; later = later }

-- the event one row on, and some rows on
abbrev pub on_row : Here → LogRow → Here
on_row h row = record { header = h.header; start = h.start; now = after h.now row; done = h.done ++ row ∷ [] }

abbrev pub on_rows : Here → List LogRow → Here
on_rows h [] = h
on_rows h (row ∷ rows) = on_rows (on_row h row) rows

-- each of the rows passes, where these come later
abbrev pub EachPass : Here → List LogRow → List LogRow → Type 0
EachPass h [] later = Unit {0}
EachPass h (row ∷ rows) later = Passes h.header (point_at h (rows ++ later)) row × EachPass (on_row h row) rows later

-- the rows may be logged here: they pass whatever comes later, if that keeps what is asked of it
abbrev pub MayLog : Here → List LogRow → (List LogRow → Type 0) → Type 0
MayLog h rows Rest = (later : List LogRow) → Rest later → EachPass h rows later
