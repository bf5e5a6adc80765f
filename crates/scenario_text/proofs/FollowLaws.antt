-- What is played goes on: with more lines, with more events after those that were played, and with more rounds than a settle needs.
use Rattle.std.proofs.Common.{◌≡◌, ℕ, zero, suc, ◌+◌, ◌≤◌, ◌<◌, Bool, true, false, List, [], ◌∷◌, ◌++◌, length, refl, sym, ap, ◌∙◌, arith, length-append, le_of_suc-le-suc}
use Rattle.std.specs.Prelude.{fold, if◌then◌else◌}
use Rattle.std.proofs.lemmas.Bool.Decides.{nat_tests}
use Rattle.log_model.specs.declared.row_kind.LogRow.{LogRow}
use Rattle.log_model.specs.Seen.{Seen, nothing}
use Rattle.log_model.specs.After.{after}
use Rattle.log_model.specs.Logs.{seen_of, is_still}
use Rattle.log_model.specs.Events.{events_of, have_number}
use Rattle.log_model.proofs.Laws.{next_event, events_fold}
use Rattle.log_model.proofs.EventLaws.{events_of-append, events_of_one}
use Rattle.scenario_text.specs.declared.line.ScenarioLine.{ScenarioLine}
use Rattle.scenario_text.specs.declared.line.ScenarioLine.TheVariants as lines
use Rattle.scenario_text.specs.Follows.{Course, goes, strays, stops, Stage, and_then, is_passed, is_event, takes, does, does_all, turns_to, a_round, rounds, settles, plays_line, plays}

-- ---- courses

-- one thing after another, whichever of them are put together first
pub and_then-assoc : (c : Course) (f g : Stage) → and_then (and_then c f) g ≡ and_then c (λ s events. and_then (f s events) g)
and_then-assoc (goes s events) f g = refl
and_then-assoc strays f g = refl
and_then-assoc stops f g = refl

-- nothing more is played
and_then_nothing : (c : Course) → and_then c (λ s events. goes s events) ≡ c
and_then_nothing (goes s events) = refl
and_then_nothing strays = refl
and_then_nothing stops = refl

-- what went on to the end went on half way
pub record GoesBy (c : Course) (f : Stage) (t : Seen) (rest : List (List LogRow)) : Type 0 where
  pub state : Seen
  pub events : List (List LogRow)
  pub first : c ≡ goes state events
  pub second : f state events ≡ goes t rest

pub goes_by : (c : Course) (f : Stage) (t : Seen) (rest : List (List LogRow)) → and_then c f ≡ goes t rest → GoesBy c f t rest
goes_by (goes s events) f t rest e = record { state = s; events = events; first = refl; second = e }
goes_by strays f t rest e = cc
goes_by stops f t rest e = cc

-- the course with more events after those that are left
abbrev with_later : List (List LogRow) → Course → Course
with_later later (goes s events) = goes s (events ++ later)
with_later later strays = strays
with_later later stops = stops

-- ---- more lines

pub does_all-append : (a b : List ScenarioLine) (s : Seen) (events : List (List LogRow)) → does_all (a ++ b) s events ≡ and_then (does_all a s events) (does_all b)
unfolding does_all
does_all-append [] b s events = refl
does_all-append (line ∷ a) b s events =
    elim (does line s events) as (λ c. and_then c (does_all (a ++ b)) ≡ and_then (and_then c (does_all a)) (does_all b)) [
      | goes t rest ↦ does_all-append a b t rest
      | strays ↦ refl
      | stops ↦ refl
    ]

pub plays-append : (a b : List ScenarioLine) (s : Seen) (events : List (List LogRow)) → plays (a ++ b) s events ≡ and_then (plays a s events) (plays b)
unfolding plays
plays-append [] b s events = refl
plays-append (line ∷ a) b s events =
    elim (plays_line line s events) as (λ c. and_then c (plays (a ++ b)) ≡ and_then (and_then c (plays a)) (plays b)) [
      | goes t rest ↦ plays-append a b t rest
      | strays ↦ refl
      | stops ↦ refl
    ]

-- one line
pub does_all_one : (line : ScenarioLine) (s : Seen) (events : List (List LogRow)) → does_all (line ∷ []) s events ≡ does line s events
unfolding does_all
does_all_one line s events = and_then_nothing (does line s events)

pub plays_one : (line : ScenarioLine) (s : Seen) (events : List (List LogRow)) → plays (line ∷ []) s events ≡ plays_line line s events
unfolding plays
plays_one line s events = and_then_nothing (plays_line line s events)

-- ---- more events

-- events that come later change nothing of what was played
abbrev pub IsLasting : Stage → Type 0
IsLasting stage =
    (s : Seen) (events later : List (List LogRow)) (t : Seen) (rest : List (List LogRow)) → stage s events ≡ goes t rest → stage s (events ++ later) ≡ goes t (rest ++ later)

pub does-later : (line : ScenarioLine) → IsLasting (does line)
unfolding does
does-later line s events later t rest e = by_passed (is_passed s line) events e
  where
    by_event : (b : Bool) (event : List LogRow) (events : List (List LogRow)) → (if b then goes (fold after s event) events else strays) ≡ goes t rest → (if b then goes (fold after s event) (events ++ later) else strays) ≡ goes t (rest ++ later)
    by_event true event events e = ap (with_later later) e
    by_event false event events e = cc

    by_passed : (b : Bool) (events : List (List LogRow)) → (if b then goes s events else takes line s events) ≡ goes t rest → (if b then goes s (events ++ later) else takes line s (events ++ later)) ≡ goes t (rest ++ later)
    by_passed true events e = ap (with_later later) e
    by_passed false [] e = cc
    by_passed false (event ∷ events) e = by_event (is_event line event) event events e

pub does_all-later : (ls : List ScenarioLine) → IsLasting (does_all ls)
unfolding does_all
does_all-later [] s events later t rest e = ap (with_later later) e
does_all-later (line ∷ more) s events later t rest e =
    let by = goes_by (does line s events) (does_all more) t rest e in
    rw (does-later line s events later by.state by.events by.first) (does_all-later more by.state by.events later t rest by.second)

-- more rounds than were needed change nothing either
pub rounds-later : (n m : ℕ) → n ≤ m → (s : Seen) (events later : List (List LogRow)) (t : Seen) (rest : List (List LogRow)) → rounds n s events ≡ goes t rest → rounds m s (events ++ later) ≡ goes t (rest ++ later)
unfolding rounds
rounds-later zero zero within s events later t rest e = by_still (is_still s) e
  where
    by_still : (b : Bool) → (if b then goes s events else strays) ≡ goes t rest → (if b then goes s (events ++ later) else strays) ≡ goes t (rest ++ later)
    by_still true e = ap (with_later later) e
    by_still false e = cc
rounds-later zero (suc m) within s events later t rest e = by_still (is_still s) e
  where
    by_still : (b : Bool) → (if b then goes s events else strays) ≡ goes t rest → (if b then goes s (events ++ later) else and_then (a_round s (events ++ later)) (rounds m)) ≡ goes t (rest ++ later)
    by_still true e = ap (with_later later) e
    by_still false e = cc
rounds-later (suc n) zero within s events later t rest e = absurd (omega (arith, within))
rounds-later (suc n) (suc m) within s events later t rest e =
    by_still (λ s_ events_ e_. rounds-later n m (le_of_suc-le-suc within) s_ events_ later t rest e_) (is_still s) e
  where
    by_still : ((s_ : Seen) (events_ : List (List LogRow)) → rounds n s_ events_ ≡ goes t rest → rounds m s_ (events_ ++ later) ≡ goes t (rest ++ later)) → (b : Bool) → (if b then goes s events else and_then (a_round s events) (rounds n)) ≡ goes t rest → (if b then goes s (events ++ later) else and_then (a_round s (events ++ later)) (rounds m)) ≡ goes t (rest ++ later)
    by_still others true e = ap (with_later later) e
    by_still others false e =
        let by = goes_by (a_round s events) (rounds n) t rest e in
        rw (does_all-later (turns_to 16) s events later by.state by.events by.first) (others by.state by.events by.second)

-- nor where an event is missing
pub rounds-stops : (n m : ℕ) → n ≤ m → (s : Seen) (events : List (List LogRow)) → rounds n s events ≡ stops → rounds m s events ≡ stops
unfolding rounds
rounds-stops zero m within s events e = by_still (is_still s) e
  where
    by_still : (b : Bool) → (if b then goes s events else strays) ≡ stops → rounds m s events ≡ stops
    by_still true e = cc
    by_still false e = cc
rounds-stops (suc n) zero within s events e = absurd (omega (arith, within))
rounds-stops (suc n) (suc m) within s events e =
    by_still (λ s_ events_ e_. rounds-stops n m (le_of_suc-le-suc within) s_ events_ e_) (is_still s) (a_round s events) e
  where
    by_still : ((s_ : Seen) (events_ : List (List LogRow)) → rounds n s_ events_ ≡ stops → rounds m s_ events_ ≡ stops) → (b : Bool) (c : Course) → (if b then goes s events else and_then c (rounds n)) ≡ stops → (if b then goes s events else and_then c (rounds m)) ≡ stops
    by_still others true c e = cc
    by_still others false (goes t rest) e = others t rest e
    by_still others false strays e = cc
    by_still others false stops e = refl

pub settles-later : IsLasting settles
settles-later s events later t rest e =
    rounds-later (length events + 1) (length (events ++ later) + 1) (omega (arith, length-append events later)) s events later t rest e

pub plays_line-later : (line : ScenarioLine) → IsLasting (plays_line line)
plays_line-later (lines.Ask request) = does-later (lines.Ask request)
plays_line-later (lines.Answer req stay) = does-later (lines.Answer req stay)
plays_line-later lines.Evict = does-later lines.Evict
plays_line-later (lines.Kill proc) = does-later (lines.Kill proc)
plays_line-later (lines.Act proc) = does-later (lines.Act proc)
plays_line-later (lines.Begin proc) = does-later (lines.Begin proc)
plays_line-later (lines.Finish proc) = does-later (lines.Finish proc)
plays_line-later (lines.Deliver proc) = does-later (lines.Deliver proc)
plays_line-later lines.Settle = settles-later

pub plays-later : (ls : List ScenarioLine) → IsLasting (plays ls)
unfolding plays
plays-later [] s events later t rest e = ap (with_later later) e
plays-later (line ∷ more) s events later t rest e =
    let by = goes_by (plays_line line s events) (plays more) t rest e in
    rw (plays_line-later line s events later by.state by.events by.first) (plays-later more by.state by.events later t rest by.second)

-- ---- one more event of a log

-- the rows of an event are the last of the log's events
pub events_more : (log : List LogRow) (first : LogRow) (rows : List LogRow) → 0 < (seen_of log).events → have_number (seen_of log).events (first ∷ rows) ≡ true → events_of (log ++ first ∷ rows) ≡ events_of log ++ (first ∷ rows) ∷ []
unfolding seen_of
events_more [] first rows some number = absurd (omega arith)
events_more (row ∷ log) first rows some number =
    let next : next_event 0 (row ∷ log) ≡ first.event =
    let is : (seen_of (row ∷ log)).events ≡ next_event 0 (row ∷ log) = events_fold nothing (row ∷ log) in
    let here : first.event ≡ (seen_of (row ∷ log)).events = grind (arith, nat_tests) in sym is ∙ sym here in
    events_of-append 0 row log first rows next ∙ ap (λ (e : List (List LogRow)). events_of (row ∷ log) ++ e) (events_of_one _ first rows number)
