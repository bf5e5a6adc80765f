-- A log that acts at once, suits its settings or stays below a limit still does with one more event that does.
use Rattle.std.proofs.Common.{◌≡◌, ◌<◌, Bool, ℕ, ◌+◌, true, List, [], ◌∷◌, ◌++◌, refl, sym, ap, ◌∙◌, arith}
use Rattle.std.specs.Prelude.{IsTrue, fold, nat_lt, length}
use Rattle.std.proofs.lemmas.Bool.{and_parts}
use Rattle.std.proofs.lemmas.Bool.Decides.{nat_tests}
use Rattle.std.proofs.lemmas.List.{length-append}
use Rattle.std.proofs.lemmas.List.Folds.{list_all-append}
use Rattle.log_model.specs.declared.header.Header.{Header}
use Rattle.log_model.specs.declared.row_kind.LogRow.{LogRow}
use Rattle.log_model.specs.Seen.{Seen, nothing}
use Rattle.log_model.specs.After.{after}
use Rattle.log_model.specs.Logs.{seen_of}
use Rattle.log_model.specs.Events.{events_of, each_event, after_opening, AtEachEvent, have_number, at_end, each_row}
use Rattle.log_model.specs.ActsAtOnce.{ActsAtOnce, ends_told, ends_stepped, goes_in_time}
use Rattle.log_model.specs.Suits.{Suits, opens_as, opens_suitably, is_suitable_row, keeps_few}
use Rattle.log_model.specs.Limits.{BeginsBelow, starts_from}
use Rattle.log_model.proofs.Laws.{next_event, events_fold}
use Rattle.log_model.proofs.EventLaws.{events_of-append, events_of_one, at_each_event_more, events_of_begins, flat, flat-events_of}

-- an event that acts at once, after a log that does
pub at_once_more : (log : List LogRow) (first : LogRow) (rows : List LogRow) → 0 < (seen_of log).events → have_number (seen_of log).events (first ∷ rows) ≡ true → ActsAtOnce log → at_end ends_told (seen_of log) (first ∷ rows) ≡ true → at_end ends_stepped (seen_of log) (first ∷ rows) ≡ true → goes_in_time (seen_of log) (first ∷ rows) ≡ true → ActsAtOnce (log ++ first ∷ rows)
at_once_more log first rows some number before told stepped in_time =
    record {
      told = at_each_event_more _ log first rows some number before.told told;
      stepped = at_each_event_more _ log first rows some number before.stepped stepped;
      in_time = at_each_event_more _ log first rows some number before.in_time in_time;
    }

-- the first row opens the tab, whatever follows
pub opens_as_first : (header : Header) (row : LogRow) (rows : List LogRow) → opens_as header nothing (events_of (row ∷ rows)) ≡ opens_suitably header nothing row.row
opens_as_first header row rows = let begins = events_of_begins row rows in rw begins.is refl

opened_more : (header : Header) (log new : List LogRow) → 0 < (seen_of log).events → IsTrue (opens_as header nothing (events_of log)) → IsTrue (opens_as header nothing (events_of (log ++ new)))
unfolding seen_of
opened_more header [] new some opened = absurd (omega arith)
opened_more header (row ∷ log) new some opened =
    rw (opens_as_first header row (log ++ new), ← opens_as_first header row log) opened

-- and it opened it before, too
pub opened_before : (header : Header) (log new : List LogRow) → 0 < (seen_of log).events → IsTrue (opens_as header nothing (events_of (log ++ new))) → IsTrue (opens_as header nothing (events_of log))
unfolding seen_of
opened_before header [] new some opened = absurd (omega arith)
opened_before header (row ∷ log) new some opened =
    rw (opens_as_first header row log, ← opens_as_first header row (log ++ new)) opened

-- an event that suits the settings, after a log that does
pub suits_more : (header : Header) (log : List LogRow) (first : LogRow) (rows : List LogRow) → 0 < (seen_of log).events → have_number (seen_of log).events (first ∷ rows) ≡ true → Suits header log → each_row (is_suitable_row header) (seen_of log) (first ∷ rows) ≡ true → at_end (keeps_few header) (seen_of log) (first ∷ rows) ≡ true → Suits header (log ++ first ∷ rows)
suits_more header log first rows some number before placed kept =
    record {
      opened = opened_more header log (first ∷ rows) some before.opened;
      placed = at_each_event_more _ log first rows some number before.placed placed;
      kept = at_each_event_more _ log first rows some number before.kept kept;
    }

-- a rule that holds at each of more events holds at each of the first ones
each_first : (test : Seen → List LogRow → Bool) (s : Seen) (events later : List (List LogRow)) → each_event test s (events ++ later) ≡ true → each_event test s events ≡ true
unfolding each_event
each_first test s [] later each = refl
each_first test s (event ∷ events) later each =
    let parts = and_parts (test s event) (each_event test (fold after s event) (events ++ later)) each in
    rw (parts.0, each_first test (fold after s event) events later parts.1) refl

-- so does one after the opening
after_first : (test : Seen → List LogRow → Bool) (opening : List LogRow) (events later : List (List LogRow)) → after_opening test ((opening ∷ events) ++ later) ≡ true → after_opening test (opening ∷ events) ≡ true
unfolding after_opening
after_first test opening events later each = each_first test (fold after nothing opening) events later each

front_passes : (test : Seen → List LogRow → Bool) (row : LogRow) (rows more : List LogRow) (later : List (List LogRow)) → events_of ((row ∷ rows) ++ more) ≡ events_of (row ∷ rows) ++ later → AtEachEvent test ((row ∷ rows) ++ more) → AtEachEvent test (row ∷ rows)
unfolding AtEachEvent
front_passes test row rows more later moment each =
    let begins = events_of_begins row rows in
    let whole : after_opening test (events_of (row ∷ rows) ++ later) ≡ true = ap (after_opening test) (sym moment) ∙ each in
    rw begins.is (after_first test (row ∷ begins.rows) begins.others later (rw begins.is at whole))

-- a moment of a log suits the settings that the log suits
pub suits_front : (header : Header) (row : LogRow) (rows more : List LogRow) (later : List (List LogRow)) → events_of ((row ∷ rows) ++ more) ≡ events_of (row ∷ rows) ++ later → Suits header ((row ∷ rows) ++ more) → Suits header (row ∷ rows)
suits_front header row rows more later moment suits =
    record {
      opened = rw (opens_as_first header row rows, ← opens_as_first header row (rows ++ more)) suits.opened;
      placed = front_passes _ row rows more later moment suits.placed;
      kept = front_passes _ row rows more later moment suits.kept;
    }

starts_from-append : (n : ℕ) (events : List (List LogRow)) (rows : List LogRow) → starts_from n (events ++ rows ∷ []) ≡ starts_from n events ++ (n + length (flat events)) ∷ []
unfolding starts_from
starts_from-append n [] rows = ap (λ (k : ℕ). k ∷ []) (omega arith)
starts_from-append n (event ∷ events) rows =
    let more : starts_from (n + length event) (events ++ rows ∷ []) ≡ starts_from (n + length event) events ++ ((n + length event) + length (flat events)) ∷ [] = starts_from-append (n + length event) events rows in
    let sum : (n + length event) + length (flat events) ≡ n + length (event ++ flat events) = rw (length-append event (flat events)) (omega arith) in
    rw (more, sum) refl

-- an event that begins below the limit, after a log whose events do
pub begins_below_more : (limit : ℕ) (log : List LogRow) (first : LogRow) (rows : List LogRow) → 0 < (seen_of log).events → have_number (seen_of log).events (first ∷ rows) ≡ true → BeginsBelow limit log → length log < limit → BeginsBelow limit (log ++ first ∷ rows)
unfolding BeginsBelow seen_of
begins_below_more limit [] first rows some number before short = absurd (omega arith)
begins_below_more limit (row ∷ log) first rows some number before short =
    let next : next_event 0 (row ∷ log) ≡ first.event =
    let is : (seen_of (row ∷ log)).events ≡ next_event 0 (row ∷ log) = events_fold nothing (row ∷ log) in
    let here : first.event ≡ (seen_of (row ∷ log)).events = grind (arith, nat_tests) in sym is ∙ sym here in
    let one : events_of (first ∷ rows) ≡ (first ∷ rows) ∷ [] = events_of_one _ first rows number in
    let split : events_of ((row ∷ log) ++ first ∷ rows) ≡ events_of (row ∷ log) ++ (first ∷ rows) ∷ [] = events_of-append 0 row log first rows next ∙ ap (λ (e : List (List LogRow)). events_of (row ∷ log) ++ e) one in
    let starts : starts_from 0 (events_of (row ∷ log) ++ (first ∷ rows) ∷ []) ≡ starts_from 0 (events_of (row ∷ log)) ++ (0 + length (flat (events_of (row ∷ log)))) ∷ [] = starts_from-append 0 (events_of (row ∷ log)) (first ∷ rows) in
    let size : 0 + length (flat (events_of (row ∷ log))) ≡ length (row ∷ log) = rw (flat-events_of (row ∷ log)) (omega arith) in
    let fits : nat_lt (length (row ∷ log)) limit ≡ true = grind (arith, nat_tests) in
    rw (split, starts, size, list_all-append, before, fits) refl
