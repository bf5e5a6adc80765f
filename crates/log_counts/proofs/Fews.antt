-- The numbers of a legal log are no greater than the number of its events.
use Rattle.std.proofs.Common.{◌≡◌, ℕ, ◌+◌, ◌≤◌, ◌<◌, true, List, [], ◌∷◌, ◌++◌, fold, sym, subst, arith}
use Rattle.std.proofs.lemmas.Bool.{and_parts, false≢true}
use Rattle.std.proofs.lemmas.List.Sums.{fold-append}
use Rattle.log_model.specs.declared.row_kind.Actor.{Actor}
use Rattle.log_model.specs.declared.row_kind.LogRow.{LogRow}
use Rattle.log_model.specs.declared.row_kind.RowKind.{RowKind}
use Rattle.log_model.specs.declared.row_kind.RowKind.TheVariants as rows
use Rattle.log_model.specs.Seen.{Seen, nothing}
use Rattle.log_model.specs.After.{after}
use Rattle.log_model.specs.Logs.{seen_of}
use Rattle.log_model.specs.Events.{events_of, each_event, after_opening, AtEachEvent, each_point}
use Rattle.log_model.specs.Formed.{is_numbered, is_opening, is_formed_row}
use Rattle.log_model.specs.Once.{is_once_row}
use Rattle.log_model.specs.Orders.{is_ordered_row}
use Rattle.log_model.specs.Legal.{opens, is_formed, is_once, is_ordered, IsLegal}
use Rattle.log_model.proofs.EventLaws.{flat, flat-events_of}
use Rattle.log_counts.specs.Counts.{AreFew}
use Rattle.log_counts.proofs.Desks.{TellsWithin, desk_there, hand_there, each_there}
use Rattle.log_counts.proofs.EachRow.{IsFew, rows_few, later_accepts, at_most_accepts, row_few}
use Rattle.log_counts.proofs.Requests.{accepts}
use Rattle.log_counts.proofs.Numbered.{one_event, first_event}

-- ---- an event

-- the rows after the first
rest_few : (n : ℕ) (start now : Seen) (own : LogRow) (done rows_ : List LogRow) → IsFew n now → each_point is_formed_row start now (own ∷ done) rows_ ≡ true → each_point is_once_row start now (own ∷ done) rows_ ≡ true → each_point is_ordered_row start now (own ∷ done) rows_ ≡ true → IsFew n (fold after now rows_)
rest_few n start now own done [] few formed once ordered = few
rest_few n start now own done (row ∷ rows_) few formed once ordered =
    let form = and_parts _ _ formed in
    let one = and_parts _ _ once in
    let order = and_parts _ _ ordered in
    let none = later_accepts own.row row.row (and_parts _ _ form.0).0 in
    rest_few n start (after now row) own (done ++ row ∷ []) rows_ (row_few n n (record { start = start; now = now; done = own ∷ done; later = rows_ }) row (omega (arith, none)) few one.0 order.0) form.1 one.1 order.1

-- all of its rows: the first one allows one more
event_few : (s : Seen) (rows_ : List LogRow) → is_numbered s rows_ ≡ true → is_formed s rows_ ≡ true → is_once s rows_ ≡ true → is_ordered s rows_ ≡ true → IsFew s.events s → IsFew (fold after s rows_).events (fold after s rows_)
unfolding is_formed is_once is_ordered
event_few s [] numbered formed once ordered few = few
event_few s (row ∷ rows_) numbered formed once ordered few =
    let n : ℕ = s.events + 1 in
    let more : s.events + accepts row.row ≤ n = omega (arith, at_most_accepts row.row) in
    let form = and_parts _ _ formed in
    let one = and_parts _ _ once in
    let order = and_parts _ _ ordered in
    let first : IsFew n (after s row) = row_few s.events n (record { start = s; now = s; done = []; later = rows_ }) row more few one.0 order.0 in
    let all : IsFew n (fold after s (row ∷ rows_)) = rest_few n s (after s row) row [] rows_ first form.1 one.1 order.1 in
    subst (λ (m : ℕ). IsFew m (fold after s (row ∷ rows_))) (sym (one_event s row rows_ numbered)) all

-- ---- the events

-- events after the opening
events_few : (s : Seen) (events : List (List LogRow)) → each_event is_numbered s events ≡ true → each_event is_formed s events ≡ true → each_event is_once s events ≡ true → each_event is_ordered s events ≡ true → IsFew s.events s → IsFew (fold after s (flat events)).events (fold after s (flat events))
unfolding each_event
events_few s [] numbered formed once ordered few = few
events_few s (rows_ ∷ events) numbered formed once ordered few =
    let number = and_parts _ _ numbered in
    let form = and_parts _ _ formed in
    let one = and_parts _ _ once in
    let order = and_parts _ _ ordered in
    let now : IsFew (fold after s rows_).events (fold after s rows_) = event_few s rows_ number.0 form.0 one.0 order.0 few in
    subst (λ (t : Seen). IsFew t.events t) (sym (fold-append (λ (t : Seen) (r : LogRow). after t r) s rows_ (flat events))) (events_few (fold after s rows_) events number.1 form.1 one.1 order.1 now)

-- the opening
opening_few : (event : ℕ) (actor : Actor) (kind : RowKind) → is_opening (record { event = event; actor = actor; row = kind }) ≡ true → IsFew 1 (after nothing (record { event = event; actor = actor; row = kind }))
opening_few event actor (rows.Opened entry state doc proc slot address) opening =
    record { requests = omega arith; rows = omega arith; desks = (record { mail = tt; hand = tt }, tt) }
opening_few event actor _ opening = absurd (false≢true (and_parts _ _ opening).1)

-- all events
few_from : (events : List (List LogRow)) → opens events ≡ true → after_opening is_numbered events ≡ true → after_opening is_formed events ≡ true → after_opening is_once events ≡ true → after_opening is_ordered events ≡ true → IsFew (fold after nothing (flat events)).events (fold after nothing (flat events))
unfolding opens after_opening
few_from [] opened numbered formed once ordered = cc
few_from ([] ∷ events) opened numbered formed once ordered = cc
few_from ((row ∷ []) ∷ events) opened numbered formed once ordered =
    let opening = (and_parts (is_opening row) _ opened).0 in
    let first : IsFew (after nothing row).events (after nothing row) = subst (λ (n : ℕ). IsFew n (after nothing row)) (sym (first_event row opening)) (opening_few row.event row.actor row.row opening) in
    events_few (after nothing row) events numbered formed once ordered first
few_from ((row ∷ second ∷ rows_) ∷ events) opened numbered formed once ordered = cc

-- ---- the law

-- what stays few, as callers read it
are_few : (s : Seen) → IsFew s.events s → AreFew s
are_few s few =
    record {
      requests = few.requests;
      rows = rows_few s.events s few;
      mail = λ proc i job at. each_there (TellsWithin s.events) _ i job (desk_there s.events s.desks proc few.desks).mail at;
      hand = λ proc order at. hand_there s.events _ order (desk_there s.events s.desks proc few.desks).hand at;
    }

-- the law
pub legal_few : (log : List LogRow) → 0 < (seen_of log).events → IsLegal log → AreFew (seen_of log)
unfolding seen_of AtEachEvent
legal_few log some legal =
    are_few (fold after nothing log) (subst (λ (rows_ : List LogRow). IsFew (fold after nothing rows_).events (fold after nothing rows_)) (flat-events_of log) (few_from (events_of log) legal.opened legal.numbered legal.formed legal.once legal.ordered))
