-- One stage after another: what was played of a scenario is put together.
use Rattle.std.proofs.Common.{◌≡◌, ℕ, zero, suc, ◌+◌, ◌-◌, ◌≤◌, ◌<◌, true, false, List, [], ◌∷◌, ◌++◌, length, Result, Ok, Err, refl, sym, ap, ◌∙◌, subst, arith, append_assoc, append-nil, add-one, zero-add, length-append, take, drop, get_or, take-suc, drop-cons, eq-or-lt_of_le, inl, inr, IsErr, IsTrue}
use Rattle.std.proofs.lemmas.List.{take-append-drop}
use Rattle.log_model.specs.declared.row_kind.LogRow.{LogRow}
use Rattle.log_model.specs.declared.header.Header.{Header}
use Rattle.log_model.specs.Suits.{Suits, opens_as}
use Rattle.log_model.specs.Seen.{Seen, nothing}
use Rattle.log_model.specs.Logs.{seen_of, is_still}
use Rattle.log_model.specs.Events.{events_of, have_number}
use Rattle.log_model.proofs.Laws.{seen_of_append}
use Rattle.log_model.proofs.EventLaws.{flat, flat-events_of}
use Rattle.scenario_text.specs.declared.line.ScenarioLine.{ScenarioLine}
use Rattle.scenario_text.specs.Scenarios.{Scenario}
use Rattle.scenario_text.specs.Follows.{Course, goes, Stage, and_then, is_passed, is_event, does, does_all, turn_of, turns_to, a_round, rounds, settles, plays_line, plays, course_of, Follows, IsCutShort}
use Rattle.scenario_text.proofs.FollowLaws.{does_all-append, plays-append, plays_one, events_more}
use Rattle.scenario_play.specs.Courses.{Leads, Cuts, Plays, PlaysRounds}

-- ---- one line

-- nothing waits for the line
pub leads_none : (line : ScenarioLine) (log : List LogRow) → is_passed (seen_of log) line ≡ true → Leads (does line) log log
unfolding does
leads_none line log passed =
    record { events = []; more = sym (append-nil (events_of log)); leads = λ later. rw passed refl }

-- its event is logged
pub leads_event : (line : ScenarioLine) (log : List LogRow) (first : LogRow) (rows : List LogRow) → 0 < (seen_of log).events → is_passed (seen_of log) line ≡ false → is_event line (first ∷ rows) ≡ true → have_number (seen_of log).events (first ∷ rows) ≡ true → Leads (does line) log (log ++ first ∷ rows)
unfolding does
leads_event line log first rows some due is number =
    record {
      events = (first ∷ rows) ∷ [];
      more = events_more log first rows some number;
      leads = λ later. rw (due, is, seen_of_append log (first ∷ rows)) refl;
    }

-- its event is missing
pub cuts_here : (line : ScenarioLine) (log : List LogRow) → is_passed (seen_of log) line ≡ false → Cuts (does line) log log
unfolding does
cuts_here line log due =
    record { events = []; more = sym (append-nil (events_of log)); cuts = rw due refl }

-- ---- one stage after another

abbrev both : Stage → Stage → Stage
both f g s events = and_then (f s events) g

pub leads_then : (f g : Stage) (a b c : List LogRow) → Leads f a b → Leads g b c → Leads (both f g) a c
leads_then f g a b c first second =
    record {
      events = first.events ++ second.events;
      more = second.more ∙ ap (λ (e : List (List LogRow)). e ++ second.events) first.more ∙ append_assoc (events_of a) first.events second.events;
      leads = λ later.
          ap (λ (e : List (List LogRow)). and_then (f (seen_of a) e) g) (append_assoc first.events second.events later)
          ∙ ap (λ (course : Course). and_then course g) (first.leads (second.events ++ later))
          ∙ second.leads later;
    }

pub cuts_then : (f g : Stage) (a b c : List LogRow) → Leads f a b → Cuts g b c → Cuts (both f g) a c
cuts_then f g a b c first second =
    record {
      events = first.events ++ second.events;
      more = second.more ∙ ap (λ (e : List (List LogRow)). e ++ second.events) first.more ∙ append_assoc (events_of a) first.events second.events;
      cuts = ap (λ (course : Course). and_then course g) (first.leads second.events) ∙ second.cuts;
    }

pub cuts_first : (f g : Stage) (a b : List LogRow) → Cuts f a b → Cuts (both f g) a b
cuts_first f g a b first =
    record { events = first.events; more = first.more; cuts = ap (λ (course : Course). and_then course g) first.cuts }

-- the same stage in other words
pub leads_as : (f g : Stage) (a b : List LogRow) → ((s : Seen) (events : List (List LogRow)) → g s events ≡ f s events) → Leads f a b → Leads g a b
leads_as f g a b same leads =
    record { events = leads.events; more = leads.more; leads = λ later. same (seen_of a) (leads.events ++ later) ∙ leads.leads later }

pub cuts_as : (f g : Stage) (a b : List LogRow) → ((s : Seen) (events : List (List LogRow)) → g s events ≡ f s events) → Cuts f a b → Cuts g a b
cuts_as f g a b same cuts =
    record { events = cuts.events; more = cuts.more; cuts = same (seen_of a) cuts.events ∙ cuts.cuts }

-- an error that is handed on
pub failed : {T E : Type 0} (stage : Stage) (a b : List LogRow) (result : Result T E) → IsErr result → Cuts stage a b → Plays stage a result b
failed stage a b (Ok x) err cuts = cc
failed stage a b (Err e) err cuts = cuts

-- ---- lines of events

pub all_done : (log : List LogRow) → Leads (does_all []) log log
unfolding does_all
all_done log = record { events = []; more = sym (append-nil (events_of log)); leads = λ later. refl }

pub all_leads : (line : ScenarioLine) (more : List ScenarioLine) (a b c : List LogRow) → Leads (does line) a b → Leads (does_all more) b c → Leads (does_all (line ∷ more)) a c
unfolding does_all
all_leads line more a b c first second = leads_then (does line) (does_all more) a b c first second

pub all_cuts : (line : ScenarioLine) (more : List ScenarioLine) (a b c : List LogRow) → Leads (does line) a b → Cuts (does_all more) b c → Cuts (does_all (line ∷ more)) a c
unfolding does_all
all_cuts line more a b c first second = cuts_then (does line) (does_all more) a b c first second

pub all_cut : (line : ScenarioLine) (more : List ScenarioLine) (a b : List LogRow) → Cuts (does line) a b → Cuts (does_all (line ∷ more)) a b
unfolding does_all
all_cut line more a b first = cuts_first (does line) (does_all more) a b first

pub all_then : {T E : Type 0} (line : ScenarioLine) (more : List ScenarioLine) (a b c : List LogRow) (result : Result T E) → Leads (does line) a b → Plays (does_all more) b result c → Plays (does_all (line ∷ more)) a result c
all_then line more a b c (Ok x) first second = all_leads line more a b c first second
all_then line more a b c (Err e) first second = all_cuts line more a b c first second

-- one line at the end
pub all_last : {T E : Type 0} (line : ScenarioLine) (a b : List LogRow) (result : Result T E) → Plays (does line) a result b → Plays (does_all (line ∷ [])) a result b
all_last line a b (Ok x) played = all_leads line [] a b b played (all_done b)
all_last line a b (Err e) played = all_cut line [] a b played

pub all_appended : (xs ys : List ScenarioLine) (a b c : List LogRow) → Leads (does_all xs) a b → Leads (does_all ys) b c → Leads (does_all (xs ++ ys)) a c
all_appended xs ys a b c first second =
    leads_as (both (does_all xs) (does_all ys)) (does_all (xs ++ ys)) a c (does_all-append xs ys) (leads_then (does_all xs) (does_all ys) a b c first second)

pub all_appended_cut : (xs ys : List ScenarioLine) (a b c : List LogRow) → Leads (does_all xs) a b → Cuts (does_all ys) b c → Cuts (does_all (xs ++ ys)) a c
all_appended_cut xs ys a b c first second =
    cuts_as (both (does_all xs) (does_all ys)) (does_all (xs ++ ys)) a c (does_all-append xs ys) (cuts_then (does_all xs) (does_all ys) a b c first second)

pub all_cut_front : (xs ys : List ScenarioLine) (a b : List LogRow) → Cuts (does_all xs) a b → Cuts (does_all (xs ++ ys)) a b
all_cut_front xs ys a b first =
    cuts_as (both (does_all xs) (does_all ys)) (does_all (xs ++ ys)) a b (does_all-append xs ys) (cuts_first (does_all xs) (does_all ys) a b first)

-- ---- the turns of a round

-- the turns up to a process, and its own
pub turn_more : (number : ℕ) (a b c : List LogRow) → 1 ≤ number → Leads (does_all (turns_to (number - 1))) a b → Leads (does_all (turn_of (record { 0 = number }))) b c → Leads (does_all (turns_to (number + 1 - 1))) a c
turn_more zero a b c some first second = absurd (omega (arith, some))
turn_more (suc n) a b c some first second =
    let before : Leads (does_all (turns_to n)) a b = subst (λ (k : ℕ). Leads (does_all (turns_to k)) a b) (let e : suc n - 1 ≡ n = omega arith in e) first in
    subst (λ (k : ℕ). Leads (does_all (turns_to k)) a c) (let e : suc n ≡ suc n + 1 - 1 = omega arith in e) (all_appended (turns_to n) (turn_of (record { 0 = suc n })) a b c before second)

-- what is cut short at a turn is so whatever turns follow
pub later_turns : (last number : ℕ) (a b : List LogRow) → number ≤ last → Cuts (does_all (turns_to number)) a b → Cuts (does_all (turns_to last)) a b
later_turns zero number a b within cuts =
    subst (λ (k : ℕ). Cuts (does_all (turns_to k)) a b) (let e : number ≡ 0 = omega (arith, within) in e) cuts
later_turns (suc last) number a b within cuts =
    elim (eq-or-lt_of_le within) [
      | inl same ↦ subst (λ (k : ℕ). Cuts (does_all (turns_to k)) a b) same cuts
      | inr below ↦ all_cut_front (turns_to last) (turn_of (record { 0 = suc last })) a b (later_turns last number a b (omega (arith, below)) cuts)
    ]

pub turn_cut : (number : ℕ) (a b c : List LogRow) → 1 ≤ number → number ≤ 16 → Leads (does_all (turns_to (number - 1))) a b → Cuts (does_all (turn_of (record { 0 = number }))) b c → Cuts a_round a c
turn_cut zero a b c some within first second = absurd (omega (arith, some))
turn_cut (suc n) a b c some within first second =
    let before : Leads (does_all (turns_to n)) a b = subst (λ (k : ℕ). Leads (does_all (turns_to k)) a b) (let e : suc n - 1 ≡ n = omega arith in e) first in
    later_turns 16 (suc n) a c within (all_appended_cut (turns_to n) (turn_of (record { 0 = suc n })) a b c before second)

-- ---- rounds

pub no_rounds : (log : List LogRow) → PlaysRounds log log
no_rounds log =
    record {
      count = 0;
      events = [];
      more = sym (append-nil (events_of log));
      few = omega arith;
      leads = λ n later. ap (λ (k : ℕ). rounds k (seen_of log) later) (zero-add n);
    }

-- a log that is longer has more events
some_events : (a b : List LogRow) (events : List (List LogRow)) → events_of b ≡ events_of a ++ events → length a < length b → 1 ≤ length events
some_events a b [] more longer =
    let same : b ≡ a = sym (flat-events_of b) ∙ ap (λ (e : List (List LogRow)). flat e) (more ∙ append-nil (events_of a)) ∙ flat-events_of a in
    absurd (omega (arith, longer, ap (λ (l : List LogRow). length l) same))
some_events a b (event ∷ events) more longer = omega arith

busy_round : (n : ℕ) (s : Seen) (events : List (List LogRow)) → is_still s ≡ false → rounds (suc n) s events ≡ and_then (a_round s events) (rounds n)
unfolding rounds
busy_round n s events busy = rw busy refl

still_rounds : (n : ℕ) (s : Seen) (events : List (List LogRow)) → is_still s ≡ true → rounds n s events ≡ goes s events
unfolding rounds
still_rounds zero s events still = rw still refl
still_rounds (suc n) s events still = rw still refl

pub one_more_round : (a b c : List LogRow) → PlaysRounds a b → is_still (seen_of b) ≡ false → length b < length c → Leads a_round b c → PlaysRounds a c
one_more_round a b c before busy longer round =
    record {
      count = before.count + 1;
      events = before.events ++ round.events;
      more = round.more ∙ ap (λ (e : List (List LogRow)). e ++ round.events) before.more ∙ append_assoc (events_of a) before.events round.events;
      few = omega (arith, before.few, some_events b c round.events round.more longer, length-append before.events round.events);
      leads = λ n later.
          ap (λ (k : ℕ). rounds k (seen_of a) ((before.events ++ round.events) ++ later)) (let e : before.count + 1 + n ≡ before.count + suc n = omega arith in e)
          ∙ ap (λ (e : List (List LogRow)). rounds (before.count + suc n) (seen_of a) e) (append_assoc before.events round.events later)
          ∙ before.leads (suc n) (round.events ++ later)
          ∙ busy_round n (seen_of b) (round.events ++ later) busy
          ∙ ap (λ (course : Course). and_then course (rounds n)) (round.leads later);
    }

-- the rounds end where nothing is in transit
pub rounds_settle : (a b : List LogRow) → PlaysRounds a b → is_still (seen_of b) ≡ true → Leads settles a b
rounds_settle a b before still =
    record {
      events = before.events;
      more = before.more;
      leads = λ later.
          let enough : length (before.events ++ later) + 1 ≡ before.count + (length (before.events ++ later) + 1 - before.count) = omega (arith, before.few, length-append before.events later) in
          ap (λ (k : ℕ). rounds k (seen_of a) (before.events ++ later)) enough
          ∙ before.leads (length (before.events ++ later) + 1 - before.count) later
          ∙ still_rounds (length (before.events ++ later) + 1 - before.count) (seen_of b) later still;
    }

-- or where an event of one is missing
pub rounds_cut : (a b c : List LogRow) → PlaysRounds a b → is_still (seen_of b) ≡ false → Cuts a_round b c → Cuts settles a c
rounds_cut a b c before busy round =
    record {
      events = before.events ++ round.events;
      more = round.more ∙ ap (λ (e : List (List LogRow)). e ++ round.events) before.more ∙ append_assoc (events_of a) before.events round.events;
      cuts =
          let enough : length (before.events ++ round.events) + 1 ≡ before.count + suc (length (before.events ++ round.events) - before.count) = omega (arith, before.few, length-append before.events round.events) in
          ap (λ (k : ℕ). rounds k (seen_of a) (before.events ++ round.events)) enough
          ∙ before.leads (suc (length (before.events ++ round.events) - before.count)) round.events
          ∙ busy_round (length (before.events ++ round.events) - before.count) (seen_of b) round.events busy
          ∙ ap (λ (course : Course). and_then course (rounds (length (before.events ++ round.events) - before.count))) round.cuts;
    }

-- ---- the lines of a scenario

pub plays_none : (log : List LogRow) → Leads (plays []) log log
unfolding plays
plays_none log = record { events = []; more = sym (append-nil (events_of log)); leads = λ later. refl }

-- one line more
pub plays_more : (before : List ScenarioLine) (line : ScenarioLine) (a b c : List LogRow) → Leads (plays before) a b → Leads (plays_line line) b c → Leads (plays (before ++ line ∷ [])) a c
plays_more before line a b c first second =
    leads_as (both (plays before) (plays (line ∷ []))) (plays (before ++ line ∷ [])) a c (plays-append before (line ∷ [])) (leads_then (plays before) (plays (line ∷ [])) a b c first (leads_as (plays_line line) (plays (line ∷ [])) b c (plays_one line) second))

-- one line that was cut short, whatever lines follow
pub plays_cut : (before : List ScenarioLine) (line : ScenarioLine) (others : List ScenarioLine) (a b c : List LogRow) → Leads (plays before) a b → Cuts (plays_line line) b c → Cuts (plays (before ++ line ∷ others)) a c
unfolding plays
plays_cut before line others a b c first second =
    cuts_as (both (plays before) (plays (line ∷ others))) (plays (before ++ line ∷ others)) a c (plays-append before (line ∷ others)) (cuts_then (plays before) (plays (line ∷ others)) a b c first (cuts_first (plays_line line) (plays others) b c second))

-- the lines up to one, and that one
pub lines_more : (ls : List ScenarioLine) (i : ℕ) (line : ScenarioLine) → i < length ls → line ≡ get_or ls i line → take (i + 1) ls ≡ take i ls ++ line ∷ []
lines_more ls i line within is =
    ap (λ (k : ℕ). take k ls) (add-one i) ∙ take-suc ls i line within ∙ ap (λ (l : ScenarioLine). take i ls ++ l ∷ []) (sym is)

lines_whole : (ls : List ScenarioLine) (i : ℕ) (line : ScenarioLine) → i < length ls → line ≡ get_or ls i line → take i ls ++ line ∷ drop (suc i) ls ≡ ls
lines_whole ls i line within is =
    ap (λ (l : ScenarioLine). take i ls ++ l ∷ drop (suc i) ls) is ∙ ap (λ (d : List ScenarioLine). take i ls ++ d) (sym (drop-cons ls i line within)) ∙ take-append-drop i ls

pub line_leads : (ls : List ScenarioLine) (i : ℕ) (line : ScenarioLine) (a b c : List LogRow) → i < length ls → line ≡ get_or ls i line → Leads (plays (take i ls)) a b → Leads (plays_line line) b c → Leads (plays (take (i + 1) ls)) a c
line_leads ls i line a b c within is first second =
    subst (λ (l : List ScenarioLine). Leads (plays l) a c) (sym (lines_more ls i line within is)) (plays_more (take i ls) line a b c first second)

pub line_cut : (ls : List ScenarioLine) (i : ℕ) (line : ScenarioLine) (a b c : List LogRow) → i < length ls → line ≡ get_or ls i line → Leads (plays (take i ls)) a b → Cuts (plays_line line) b c → Cuts (plays ls) a c
line_cut ls i line a b c within is first second =
    subst (λ (l : List ScenarioLine). Cuts (plays l) a c) (lines_whole ls i line within is) (plays_cut (take i ls) line (drop (suc i) ls) a b c first second)

-- ---- a log that has its opening alone

-- after it the events are those of the lines
opened_events : (row : LogRow) → events_of (row ∷ []) ≡ (row ∷ []) ∷ []
unfolding events_of
opened_events row = refl

course_opened : (ls : List ScenarioLine) (row : LogRow) (new : List LogRow) (events : List (List LogRow)) → events_of new ≡ events_of (row ∷ []) ++ events → course_of ls (events_of new) ≡ plays ls (seen_of (row ∷ [])) events
unfolding course_of seen_of
course_opened ls row new events more = rw (more, opened_events row) refl

-- the log opens as before
pub opens_still : (header : Header) (old new : List LogRow) (events : List (List LogRow)) → length old ≡ 1 → events_of new ≡ events_of old ++ events → IsTrue (opens_as header nothing (events_of old)) → IsTrue (opens_as header nothing (events_of new))
opens_still header [] new events one more opened = absurd (omega (arith, one))
opens_still header (row ∷ []) new events one more opened = rw (more, opened_events row) (rw (opened_events row) at opened)
opens_still header (row ∷ second ∷ rows) new events one more opened = absurd (omega (arith, one))

pub follows : (scenario : Scenario) (old new : List LogRow) → length old ≡ 1 → Suits scenario.header old → (IsTrue (opens_as scenario.header nothing (events_of new)) → Suits scenario.header new) → Leads (plays scenario.lines) old new → Follows new scenario
follows scenario [] new one suits opens leads = absurd (omega (arith, one))
follows scenario (row ∷ []) new one suits opens leads =
    record {
      suits = opens (opens_still scenario.header (row ∷ []) new leads.events one leads.more suits.opened);
      course = course_opened scenario.lines row new leads.events leads.more
          ∙ ap (λ (e : List (List LogRow)). plays scenario.lines (seen_of (row ∷ [])) e) (sym (append-nil leads.events))
          ∙ leads.leads [];
    }
follows scenario (row ∷ second ∷ rows) new one suits opens leads = absurd (omega (arith, one))

pub cut_short : (scenario : Scenario) (old new : List LogRow) → length old ≡ 1 → Suits scenario.header old → (IsTrue (opens_as scenario.header nothing (events_of new)) → Suits scenario.header new) → Cuts (plays scenario.lines) old new → IsCutShort new scenario
cut_short scenario [] new one suits opens cuts = absurd (omega (arith, one))
cut_short scenario (row ∷ []) new one suits opens cuts =
    record {
      suits = opens (opens_still scenario.header (row ∷ []) new cuts.events one cuts.more suits.opened);
      course = course_opened scenario.lines row new cuts.events cuts.more ∙ cuts.cuts;
    }
cut_short scenario (row ∷ second ∷ rows) new one suits opens cuts = absurd (omega (arith, one))
