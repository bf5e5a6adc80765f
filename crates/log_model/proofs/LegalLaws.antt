-- A legal log and one more event that keeps the rules are a legal log.
use Rattle.std.proofs.Common.{◌≡◌, ◌<◌, true, List, [], ◌∷◌, ◌++◌, sym, ◌∙◌, arith}
use Rattle.std.specs.Prelude.{IsTrue}
use Rattle.std.proofs.lemmas.Bool.{and_parts}
use Rattle.std.proofs.lemmas.Bool.Decides.{nat_tests}
use Rattle.log_model.specs.declared.row_kind.LogRow.{LogRow}
use Rattle.log_model.specs.Seen.{Seen, nothing}
use Rattle.log_model.specs.Logs.{seen_of}
use Rattle.log_model.specs.Events.{events_of, have_number}
use Rattle.log_model.specs.Formed.{is_numbered}
use Rattle.log_model.specs.Legal.{opens, IsLegal, IsLegalEvent}
use Rattle.log_model.proofs.Laws.{next_event, events_fold}
use Rattle.log_model.proofs.EventLaws.{events_of-append, at_each_event_more, BeginsWith, events_of_begins}

-- what opens a log still does once more events follow
opens-append : (row : LogRow) (events more : List (List LogRow)) → BeginsWith row events → IsTrue (opens events) → IsTrue (opens (events ++ more))
unfolding opens
opens-append row events more begins opened = rw begins.is (rest row begins.rows begins.others more (rw begins.is at opened))
  where
    rest : (row : LogRow) (rows : List LogRow) (others more : List (List LogRow)) → IsTrue (opens ((row ∷ rows) ∷ others)) → IsTrue (opens (((row ∷ rows) ∷ others) ++ more))
    rest row [] others more opened = opened
    rest row (second ∷ rows) others more opened = opened

opened_more : (log : List LogRow) (first : LogRow) (rows : List LogRow) → 0 < (seen_of log).events → have_number (seen_of log).events (first ∷ rows) ≡ true → IsTrue (opens (events_of log)) → IsTrue (opens (events_of (log ++ first ∷ rows)))
unfolding seen_of
opened_more [] first rows some number opened = absurd (omega arith)
opened_more (row ∷ log) first rows some number opened =
    let is : (seen_of (row ∷ log)).events ≡ next_event 0 (row ∷ log) = events_fold nothing (row ∷ log) in
    let here : first.event ≡ (seen_of (row ∷ log)).events = grind (arith, nat_tests) in
    rw (events_of-append 0 row log first rows (sym is ∙ sym here)) (opens-append row (events_of (row ∷ log)) (events_of (first ∷ rows)) (events_of_begins row log) opened)

-- a numbered event has the next number
numbered_has : (s : Seen) (rows : List LogRow) → is_numbered s rows ≡ true → have_number s.events rows ≡ true
unfolding is_numbered
numbered_has s rows numbered = (and_parts _ _ numbered).0

pub legal_more : (log : List LogRow) (first : LogRow) (rows : List LogRow) → 0 < (seen_of log).events → IsLegal log → IsLegalEvent (seen_of log) (first ∷ rows) → IsLegal (log ++ first ∷ rows)
legal_more log first rows some legal event =
    let number = numbered_has (seen_of log) (first ∷ rows) event.numbered in
    record {
      opened = opened_more log first rows some number legal.opened;
      numbered = at_each_event_more _ log first rows some number legal.numbered event.numbered;
      formed = at_each_event_more _ log first rows some number legal.formed event.formed;
      once = at_each_event_more _ log first rows some number legal.once event.once;
      caused = at_each_event_more _ log first rows some number legal.caused event.caused;
      queued = at_each_event_more _ log first rows some number legal.queued event.queued;
      ordered = at_each_event_more _ log first rows some number legal.ordered event.ordered;
      checked = at_each_event_more _ log first rows some number legal.checked event.checked;
      settled = at_each_event_more _ log first rows some number legal.settled event.settled;
    }
