-- A log as its events, and the parts of a log that another one shares.
use Rattle.std.specs.Prelude.{ℕ, ◌+◌, ◌-◌, List, [], ◌∷◌, ◌++◌, codes, drop, map, take}
use Rattle.log_model.specs.declared.header.Header.{Header}
use Rattle.log_model.specs.declared.row_kind.Actor.{Actor}
use Rattle.log_model.specs.declared.row_kind.Actor.TheVariants as actors
use Rattle.log_model.specs.declared.row_kind.LogRow.{LogRow}
use Rattle.log_model.specs.declared.row_kind.RowKind.{RowKind}
use Rattle.log_examples.specs.Rows.{p, at}

-- an event before it has its number: who acts, and what happens
pub record Event : Type 0 where
  pub actor : Actor
  pub rows : List RowKind

-- the opening, and events of the user, of the coordinator and of a process: its own row, and those after it
abbrev pub by_start : RowKind → List RowKind → Event
by_start own after = record { actor = actors.Start; rows = own ∷ after }

abbrev pub by_ui : RowKind → List RowKind → Event
by_ui own after = record { actor = actors.Ui; rows = own ∷ after }

abbrev pub by_coord : RowKind → List RowKind → Event
by_coord own after = record { actor = actors.Coord; rows = own ∷ after }

abbrev pub by_proc : ℕ → RowKind → List RowKind → Event
by_proc nr own after = record { actor = actors.Proc (p nr); rows = own ∷ after }

-- the log of events that are numbered from here on
abbrev pub log_from : ℕ → List Event → List LogRow
log_from n [] = []
log_from n (event ∷ events) = map (at n event.actor) event.rows ++ log_from (n + 1) events

-- the log of events, numbered from 0
abbrev pub log_of : List Event → List LogRow
log_of events = log_from 0 events

-- the events before the one of a number, those from it on, and those from one before another
abbrev pub before : ℕ → List Event → List Event
before n events = take n events

abbrev pub since : ℕ → List Event → List Event
since n events = drop n events

abbrev pub between : ℕ → ℕ → List Event → List Event
between n next events = take (next - n) (drop n events)

-- the settings under which most of the tabs are opened
abbrev pub plain_settings : Header
plain_settings = record { keep = 3; sites = []; pages = []; first = codes "http://a.test/" }
