-- A rule that holds of a log and of one more event holds of the longer log.
use Rattle.std.proofs.Common.{◌≡◌, ◌≢◌, ℕ, ◌+◌, Bool, true, false, cond, ◌&&◌, ◌==◌, List, [], ◌∷◌, ◌++◌, refl, sym, ap, ◌∙◌, arith, ◌<◌}
use Rattle.std.specs.Prelude.{fold}
use Rattle.std.proofs.lemmas.Bool.Decides.{nat_tests}
use Rattle.std.proofs.lemmas.List.Sums.{fold-append}
use Rattle.log_model.specs.declared.row_kind.LogRow.{LogRow}
use Rattle.log_model.specs.Seen.{Seen, nothing}
use Rattle.log_model.specs.After.{after}
use Rattle.log_model.specs.Logs.{seen_of}
use Rattle.log_model.specs.Events.{with_row, events_of, each_event, after_opening, AtEachEvent, have_number}
use Rattle.log_model.proofs.Laws.{next_event, events_fold}

-- the rows of a list of events
abbrev pub flat : List (List LogRow) → List LogRow
flat [] = []
flat (rows ∷ events) = rows ++ flat events

flat-with_row : (row : LogRow) (events : List (List LogRow)) → flat (with_row row events) ≡ row ∷ flat events
flat-with_row row [] = refl
flat-with_row row ([] ∷ events) = refl
flat-with_row row ((next ∷ rows) ∷ events) =
    elim (row.event == next.event) as (λ b. flat (cond b ((row ∷ next ∷ rows) ∷ events) ((row ∷ []) ∷ (next ∷ rows) ∷ events)) ≡ row ∷ flat ((next ∷ rows) ∷ events)) [
      | true ↦ refl
      | false ↦ refl
    ]

-- no row is lost
pub flat-events_of : (log : List LogRow) → flat (events_of log) ≡ log
unfolding events_of
flat-events_of [] = refl
flat-events_of (row ∷ rows) = flat-with_row row (events_of rows) ∙ ap (λ (l : List LogRow). row ∷ l) (flat-events_of rows)

-- the first event begins with the first row
pub record BeginsWith (row : LogRow) (events : List (List LogRow)) : Type 0 where
  pub rows : List LogRow
  pub others : List (List LogRow)
  pub is : events ≡ (row ∷ rows) ∷ others

with_row_begins : (row : LogRow) (events : List (List LogRow)) → BeginsWith row (with_row row events)
with_row_begins row [] = record { rows = []; others = []; is = refl }
with_row_begins row ([] ∷ events) = record { rows = []; others = events; is = refl }
with_row_begins row ((next ∷ rows) ∷ events) =
    elim (row.event == next.event) as (λ b. BeginsWith row (cond b ((row ∷ next ∷ rows) ∷ events) ((row ∷ []) ∷ (next ∷ rows) ∷ events))) [
      | true ↦ record { rows = next ∷ rows; others = events; is = refl }
      | false ↦ record { rows = []; others = (next ∷ rows) ∷ events; is = refl }
    ]

pub events_of_begins : (row : LogRow) (rows : List LogRow) → BeginsWith row (events_of (row ∷ rows))
unfolding events_of
events_of_begins row rows = with_row_begins row (events_of rows)

-- a row of the next row's number joins its event
with_row_same : (row next : LogRow) (rows : List LogRow) (others : List (List LogRow)) → row.event ≡ next.event → with_row row ((next ∷ rows) ∷ others) ≡ (row ∷ next ∷ rows) ∷ others
with_row_same row next rows others same =
    let test : (row.event == next.event) ≡ true = grind (arith, nat_tests) in rw test refl

-- a row of another number stays apart
with_row_other : (row next : LogRow) (events : List (List LogRow)) → BeginsWith next events → row.event ≢ next.event → with_row row events ≡ (row ∷ []) ∷ events
with_row_other row next events begins other =
    let test : (row.event == next.event) ≡ false = grind (arith, nat_tests) in
    rw (begins.is, test) refl

-- a row in front of more events of which the first stays apart from it
with_row_append : (row next : LogRow) (events more : List (List LogRow)) → BeginsWith next events → with_row row (events ++ more) ≡ with_row row events ++ more
with_row_append row next events more begins =
    rw begins.is (split row next begins.rows begins.others more)
  where
    split : (row next : LogRow) (rows : List LogRow) (others more : List (List LogRow)) → with_row row (((next ∷ rows) ∷ others) ++ more) ≡ with_row row ((next ∷ rows) ∷ others) ++ more
    split row next rows others more =
        elim (row.event == next.event) as (λ b. cond b ((row ∷ next ∷ rows) ∷ (others ++ more)) ((row ∷ []) ∷ (next ∷ rows) ∷ (others ++ more)) ≡ cond b ((row ∷ next ∷ rows) ∷ others) ((row ∷ []) ∷ (next ∷ rows) ∷ others) ++ more) [
          | true ↦ refl
          | false ↦ refl
        ]

-- rows of one number are one event
pub events_of_one : (n : ℕ) (first : LogRow) (rows : List LogRow) → have_number n (first ∷ rows) ≡ true → events_of (first ∷ rows) ≡ (first ∷ rows) ∷ []
unfolding events_of
events_of_one n first [] same = refl
events_of_one n first (next ∷ rows) same =
    let here : first.event ≡ n = grind (arith, nat_tests) in
    let there : next.event ≡ n = grind (arith, nat_tests) in
    let others : have_number n (next ∷ rows) ≡ true = grind (arith, nat_tests) in
    let one : with_row next (events_of rows) ≡ (next ∷ rows) ∷ [] = events_of_one n next rows others in
    rw one (with_row_same first next rows [] (here ∙ sym there))

-- a log and one more event, of another number than the last: their events, one after the other
pub events_of-append : (n : ℕ) (row : LogRow) (rows : List LogRow) (first : LogRow) (new : List LogRow) → next_event n (row ∷ rows) ≡ first.event → events_of ((row ∷ rows) ++ first ∷ new) ≡ events_of (row ∷ rows) ++ events_of (first ∷ new)
unfolding events_of
events_of-append n row [] first new next = with_row_other row first (with_row first (events_of new)) (with_row_begins first (events_of new)) (omega arith)
events_of-append n row (second ∷ rows) first new next =
    let more : events_of ((second ∷ rows) ++ first ∷ new) ≡ events_of (second ∷ rows) ++ events_of (first ∷ new) = events_of-append (row.event + 1) second rows first new next in
    rw more (with_row_append row second (events_of (second ∷ rows)) (events_of (first ∷ new)) (events_of_begins second rows))

-- the test of more events is that of the first ones, and then that of the others
pub each_event-append : (test : Seen → List LogRow → Bool) (s : Seen) (events : List (List LogRow)) (new : List LogRow) → each_event test s (events ++ new ∷ []) ≡ (each_event test s events && test (fold after s (flat events)) new)
unfolding each_event
each_event-append test s [] new = and_true (test s new)
  where
    and_true : (b : Bool) → (b && true) ≡ b
    and_true true = refl
    and_true false = refl
each_event-append test s (rows ∷ events) new =
    rw (each_event-append test (fold after s rows) events new, fold-append (λ (t : Seen) (row : LogRow). after t row) s rows (flat events)) (and_assoc (test s rows) (each_event test (fold after s rows) events) (test (fold after (fold after s rows) (flat events)) new))
  where
    and_assoc : (a b c : Bool) → (a && (b && c)) ≡ ((a && b) && c)
    and_assoc true b c = refl
    and_assoc false b c = refl

-- the same, on the events of a log and one more
after_opening-append : (test : Seen → List LogRow → Bool) (row : LogRow) (events : List (List LogRow)) (new : List LogRow) → BeginsWith row events → after_opening test (events ++ new ∷ []) ≡ (after_opening test events && test (fold after nothing (flat events)) new)
unfolding after_opening
after_opening-append test row events new begins =
    rw begins.is (each_event-append test (fold after nothing (row ∷ begins.rows)) begins.others new ∙ ap (λ (s : Seen). each_event test (fold after nothing (row ∷ begins.rows)) begins.others && test s new) (sym (fold-append (λ (t : Seen) (r : LogRow). after t r) nothing (row ∷ begins.rows) (flat begins.others))))

-- the law: what holds at each event of a log, and of one more event, holds at each event of the longer log
pub at_each_event_more : (test : Seen → List LogRow → Bool) (log : List LogRow) (first : LogRow) (rows : List LogRow) → 0 < (seen_of log).events → have_number (seen_of log).events (first ∷ rows) ≡ true → AtEachEvent test log → test (seen_of log) (first ∷ rows) ≡ true → AtEachEvent test (log ++ first ∷ rows)
unfolding AtEachEvent seen_of
at_each_event_more test [] first rows some number before now = absurd (omega arith)
at_each_event_more test (row ∷ log) first rows some number before now =
    let next : next_event 0 (row ∷ log) ≡ first.event =
    let is : (seen_of (row ∷ log)).events ≡ next_event 0 (row ∷ log) = events_fold nothing (row ∷ log) in
    let here : first.event ≡ (seen_of (row ∷ log)).events = grind (arith, nat_tests) in sym is ∙ sym here in
    let one : events_of (first ∷ rows) ≡ (first ∷ rows) ∷ [] = events_of_one _ first rows number in
    let split : events_of ((row ∷ log) ++ first ∷ rows) ≡ events_of (row ∷ log) ++ (first ∷ rows) ∷ [] = events_of-append 0 row log first rows next ∙ ap (λ (e : List (List LogRow)). events_of (row ∷ log) ++ e) one in
    let state : fold after nothing (flat (events_of (row ∷ log))) ≡ seen_of (row ∷ log) = ap (λ (l : List LogRow). fold after nothing l) (flat-events_of (row ∷ log)) in
    rw (split, after_opening-append test row (events_of (row ∷ log)) (first ∷ rows) (events_of_begins row log), state, now) (and_both before)
  where
    and_both : {b : Bool} → b ≡ true → (b && true) ≡ true
    and_both e = rw e refl
