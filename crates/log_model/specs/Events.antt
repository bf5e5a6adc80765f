-- Rules over a log: tests on its events, each with what the log had come to as the event began, and the law that they hold of a longer log.
-- This project's own.
use Rattle.std.specs.Prelude.{ℕ, Bool, true, ◌&&◌, ◌==◌, IsTrue, List, [], ◌∷◌, ◌++◌, fold, if◌then◌else◌}
use Rattle.std.specs.List.{list_all}
use Rattle.log_model.specs.declared.row_kind.LogRow.{LogRow}
use Rattle.log_model.specs.Seen.{Seen, nothing}
use Rattle.log_model.specs.After.{after}

-- the events with one more row in front: it joins the first event where it has its number
abbrev pub with_row : LogRow → List (List LogRow) → List (List LogRow)
with_row row [] = (row ∷ []) ∷ []
with_row row ([] ∷ events) = (row ∷ []) ∷ events
with_row row ((next ∷ rows) ∷ events) =
    if row.event == next.event then (row ∷ next ∷ rows) ∷ events else (row ∷ []) ∷ (next ∷ rows) ∷ events

-- the events of a log: its rows, those of one number together
unfoldable pub events_of : List LogRow → List (List LogRow)
events_of [] = []
events_of (row ∷ rows) = with_row row (events_of rows)

-- the test holds of each event, read with what the log had come to as it began
unfoldable pub each_event : (Seen → List LogRow → Bool) → Seen → List (List LogRow) → Bool
each_event test s [] = true
each_event test s (rows ∷ events) = test s rows && each_event test (fold after s rows) events

-- the test holds of each event after the first, which opens the log
unfoldable pub after_opening : (Seen → List LogRow → Bool) → List (List LogRow) → Bool
after_opening test [] = true
after_opening test (opening ∷ events) = each_event test (fold after nothing opening) events

-- at each event of the log after its opening the test holds
unfoldable pub AtEachEvent : (Seen → List LogRow → Bool) → List LogRow → Type 0
AtEachEvent test log = IsTrue (after_opening test (events_of log))

-- a row among those of its event: what the log had come to as the event began and just before the row, and the event's rows before and after it
pub record Point : Type 0 where
  pub start : Seen
  pub now : Seen
  pub done : List LogRow
  pub later : List LogRow

-- the test holds of each row of an event
abbrev pub each_point : (Point → LogRow → Bool) → Seen → Seen → List LogRow → List LogRow → Bool
each_point test start now done [] = true
each_point test start now done (row ∷ rows) =
    test (record { start = start; now = now; done = done; later = rows }) row
    && each_point test start (after now row) (done ++ row ∷ []) rows

-- the test holds of each row of the event
abbrev pub each_row : (Point → LogRow → Bool) → Seen → List LogRow → Bool
each_row test s rows = each_point test s s [] rows

-- a test of what the log has come to at the end of the event
abbrev pub at_end : (Seen → Bool) → Seen → List LogRow → Bool
at_end test s rows = test (fold after s rows)

-- the rows have one number
abbrev pub have_number : ℕ → List LogRow → Bool
have_number event rows = list_all (λ (row : LogRow). row.event == event) rows
