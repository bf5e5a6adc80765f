-- The events of a log are numbered without a gap, and each has a row; so a log has no more events than the limit below which each of them begins.
use Rattle.std.proofs.Common.{◌≡◌, ℕ, ◌+◌, ◌≤◌, ◌<◌, true, ◌&&◌, ◌==◌, List, [], ◌∷◌, length, fold, refl, sym, ◌∙◌, arith, subst}
use Rattle.std.specs.Prelude.{nat_lt}
use Rattle.std.specs.List.{list_all}
use Rattle.std.proofs.lemmas.Bool.{and_parts}
use Rattle.std.proofs.lemmas.Bool.Decides.{nat_tests}
use Rattle.std.proofs.lemmas.List.Sums.{fold-append}
use Rattle.log_model.specs.declared.row_kind.Actor.TheVariants as actors
use Rattle.log_model.specs.declared.row_kind.LogRow.{LogRow}
use Rattle.log_model.specs.Equal.{same_actor}
use Rattle.log_model.specs.Seen.{Seen, nothing}
use Rattle.log_model.specs.After.{after}
use Rattle.log_model.specs.Logs.{seen_of}
use Rattle.log_model.specs.Events.{events_of, each_event, after_opening, AtEachEvent, have_number}
use Rattle.log_model.specs.Formed.{is_numbered, is_opening}
use Rattle.log_model.specs.Legal.{opens, IsLegal}
use Rattle.log_model.specs.Limits.{BeginsBelow, starts_from}
use Rattle.log_model.proofs.Laws.{next_event, events_fold}
use Rattle.log_model.proofs.EventLaws.{flat, flat-events_of}

-- ---- numbers

-- a numbered event has the next number
pub numbered_has : (s : Seen) (rows : List LogRow) → is_numbered s rows ≡ true → have_number s.events rows ≡ true
unfolding is_numbered
numbered_has s rows numbered = (and_parts _ _ numbered).0

-- rows of one number
next_stays : (n : ℕ) (rows : List LogRow) → have_number n rows ≡ true → next_event (n + 1) rows ≡ n + 1
next_stays n [] same = refl
next_stays n (row ∷ rows) same =
    let parts = and_parts (row.event == n) (have_number n rows) same in
    let here : row.event ≡ n = grind (arith, nat_tests, parts.0) in
    rw here (next_stays n rows parts.1)

-- an event is one event more
pub one_event : (s : Seen) (row : LogRow) (rows : List LogRow) → is_numbered s (row ∷ rows) ≡ true → (fold after s (row ∷ rows)).events ≡ s.events + 1
one_event s row rows numbered =
    let parts = and_parts (row.event == s.events) (have_number s.events rows) (numbered_has s (row ∷ rows) numbered) in
    let here : row.event ≡ s.events = grind (arith, nat_tests, parts.0) in
    let next : next_event (row.event + 1) rows ≡ s.events + 1 = rw here (next_stays s.events rows parts.1) in
    events_fold s (row ∷ rows) ∙ next

-- ---- where events begin

-- as many events as rows, or fewer, and each begins below the limit
events_below : (limit n : ℕ) (s : Seen) (events : List (List LogRow)) → s.events ≤ n → s.events ≤ limit → each_event is_numbered s events ≡ true → list_all (λ (start : ℕ). nat_lt start limit) (starts_from n events) ≡ true → (fold after s (flat events)).events ≤ limit
unfolding each_event starts_from
events_below limit n s [] many few each below = few
events_below limit n s ([] ∷ events) many few each below =
    let parts = and_parts (is_numbered s []) (each_event is_numbered s events) each in
    let starts = and_parts (nat_lt n limit) (list_all (λ (start : ℕ). nat_lt start limit) (starts_from (n + 0) events)) below in
    events_below limit (n + 0) s events (omega (arith, many)) few parts.1 starts.1
events_below limit n s ((row ∷ rows) ∷ events) many few each below =
    let parts = and_parts (is_numbered s (row ∷ rows)) (each_event is_numbered (fold after s (row ∷ rows)) events) each in
    let starts = and_parts (nat_lt n limit) (list_all (λ (start : ℕ). nat_lt start limit) (starts_from (n + length (row ∷ rows)) events)) below in
    let one = one_event s row rows parts.0 in
    let begins : n < limit = grind (arith, nat_tests, starts.0) in
    let rest : (fold after (fold after s (row ∷ rows)) (flat events)).events ≤ limit = events_below limit (n + length (row ∷ rows)) (fold after s (row ∷ rows)) events (omega (arith, one, many)) (omega (arith, one, many, begins)) parts.1 starts.1 in
    subst (λ (t : Seen). t.events ≤ limit) (sym (fold-append (λ (t : Seen) (r : LogRow). after t r) s (row ∷ rows) (flat events))) rest

-- the opening is the first event
pub first_event : (row : LogRow) → is_opening row ≡ true → (after nothing row).events ≡ 1
first_event row opening =
    let front = and_parts (row.event == 0 && same_actor row.actor actors.Start) _ opening in
    let number = and_parts (row.event == 0) _ front.0 in
    let here : row.event ≡ 0 = grind (arith, nat_tests, number.0) in
    rw here refl

-- all events
few_from : (limit : ℕ) (events : List (List LogRow)) → opens events ≡ true → after_opening is_numbered events ≡ true → list_all (λ (start : ℕ). nat_lt start limit) (starts_from 0 events) ≡ true → (fold after nothing (flat events)).events ≤ limit
unfolding opens after_opening starts_from
few_from limit [] opened numbered below = cc
few_from limit ([] ∷ events) opened numbered below = cc
few_from limit ((row ∷ []) ∷ events) opened numbered below =
    let first = first_event row (and_parts (is_opening row) _ opened).0 in
    let starts = and_parts (nat_lt 0 limit) (list_all (λ (start : ℕ). nat_lt start limit) (starts_from (0 + length (row ∷ [])) events)) below in
    let begins : 0 < limit = grind (arith, nat_tests, starts.0) in
    events_below limit (0 + length (row ∷ [])) (after nothing row) events (omega (arith, first)) (omega (arith, first, begins)) numbered starts.1
few_from limit ((row ∷ second ∷ rows) ∷ events) opened numbered below = cc

-- the law
pub few_events : (limit : ℕ) (log : List LogRow) → 0 < (seen_of log).events → IsLegal log → BeginsBelow limit log → (seen_of log).events ≤ limit
unfolding seen_of AtEachEvent BeginsBelow
few_events limit log some legal below =
    subst (λ (rows : List LogRow). (fold after nothing rows).events ≤ limit) (flat-events_of log) (few_from limit (events_of log) legal.opened legal.numbered below)
