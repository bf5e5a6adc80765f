-- A log that follows a scenario follows it up to each of its moments.
use Rattle.std.proofs.Common.{◌≡◌, ◌⊎◌, ℕ, zero, suc, ◌+◌, ◌<◌, Bool, true, false, List, [], ◌∷◌, ◌++◌, length, refl, sym, ap, ◌∙◌, subst, arith, inl, inr}
use Rattle.std.specs.Prelude.{fold, if◌then◌else◌}
use Rattle.std.proofs.lemmas.List.Sums.{fold-append}
use Rattle.log_model.specs.declared.row_kind.LogRow.{LogRow}
use Rattle.log_model.specs.Seen.{Seen, nothing}
use Rattle.log_model.specs.After.{after}
use Rattle.log_model.specs.Logs.{seen_of, is_still}
use Rattle.log_model.specs.Events.{events_of}
use Rattle.log_model.proofs.EventLaws.{flat, flat-events_of}
use Rattle.scenario_text.specs.declared.line.ScenarioLine.{ScenarioLine}
use Rattle.scenario_text.specs.declared.line.ScenarioLine.TheVariants as lines
use Rattle.scenario_text.specs.Scenarios.{Scenario}
use Rattle.log_model.specs.Suits.{Suits}
use Rattle.log_model.proofs.FurtherLaws.{suits_front}
use Rattle.scenario_text.specs.Follows.{Course, goes, strays, stops, Stage, and_then, is_passed, is_event, takes, does, does_all, turns_to, a_round, rounds, settles, plays_line, plays, course_of, Follows, FollowsUpTo}
use Rattle.scenario_text.proofs.FollowLaws.{GoesBy, goes_by, IsLasting, does-later, does_all-later, plays_line-later, plays-later}

-- it goes on, or an event is missing
abbrev IsUpTo : Course → Type 0
IsUpTo (goes s events) = Unit {0}
IsUpTo strays = ⊥
IsUpTo stops = Unit {0}

-- what goes on with more events goes on without them, or stops
abbrev HasMoments : Stage → Type 0
HasMoments stage =
    (s : Seen) (events later : List (List LogRow)) (t : Seen) (rest : List (List LogRow)) → stage s (events ++ later) ≡ goes t rest → IsUpTo (stage s events)

does_moments : (line : ScenarioLine) → HasMoments (does line)
unfolding does
does_moments line s events later t rest e = by_passed (is_passed s line) events e
  where
    by_event : (b : Bool) (event : List LogRow) (events : List (List LogRow)) → (if b then goes (fold after s event) (events ++ later) else strays) ≡ goes t rest → IsUpTo (if b then goes (fold after s event) events else strays)
    by_event true event events e = tt
    by_event false event events e = cc

    by_passed : (b : Bool) (events : List (List LogRow)) → (if b then goes s (events ++ later) else takes line s (events ++ later)) ≡ goes t rest → IsUpTo (if b then goes s events else takes line s events)
    by_passed true events e = tt
    by_passed false [] e = tt
    by_passed false (event ∷ events) e = by_event (is_event line event) event events e

-- one stage and then another
both_moments : (f g : Stage) → HasMoments f → IsLasting f → HasMoments g → (s : Seen) (events later : List (List LogRow)) (t : Seen) (rest : List (List LogRow)) → and_then (f s (events ++ later)) g ≡ goes t rest → IsUpTo (and_then (f s events) g)
both_moments f g first lasting second s events later t rest e = by_course (f s events) refl
  where
    by : GoesBy (f s (events ++ later)) g t rest
    by = goes_by (f s (events ++ later)) g t rest e

    by_course : (c : Course) → f s events ≡ c → IsUpTo (and_then c g)
    by_course stops is = tt
    by_course strays is =
        let up : IsUpTo (f s events) = first s events later by.state by.events by.first in
        elim (rw is at up) [ ]
    by_course (goes s' mid) is =
        let long : f s (events ++ later) ≡ goes s' (mid ++ later) = lasting s events later s' mid is in
        let same : and_then (goes s' (mid ++ later)) g ≡ goes t rest = ap (λ (c : Course). and_then c g) (sym long) ∙ e in
        second s' mid later t rest same

does_all_moments : (ls : List ScenarioLine) → HasMoments (does_all ls)
unfolding does_all
does_all_moments [] s events later t rest e = tt
does_all_moments (line ∷ more) s events later t rest e =
    both_moments (does line) (does_all more) (does_moments line) (does-later line) (does_all_moments more) s events later t rest e

-- ---- a round that takes no event changes nothing

abbrev IsSlower : Stage → Type 0
IsSlower stage =
    (s : Seen) (events : List (List LogRow)) (t : Seen) (rest : List (List LogRow)) → stage s events ≡ goes t rest → (length rest < length events) ⊎ ((t ≡ s) × (rest ≡ events))

-- what a course came to, and the events left
abbrev state_in : Seen → Course → Seen
state_in s (goes t rest) = t
state_in s strays = s
state_in s stops = s

abbrev events_in : Course → List (List LogRow)
events_in (goes t rest) = rest
events_in strays = []
events_in stops = []

goes_same : (s t : Seen) (events rest : List (List LogRow)) → goes s events ≡ goes t rest → (t ≡ s) × (rest ≡ events)
goes_same s t events rest e = (sym (ap (state_in s) e), sym (ap events_in e))

does_slower : (line : ScenarioLine) → IsSlower (does line)
unfolding does
does_slower line s events t rest e = by_passed (is_passed s line) events e
  where
    by_event : (b : Bool) (event : List LogRow) (events : List (List LogRow)) → (if b then goes (fold after s event) events else strays) ≡ goes t rest → (length rest < length (event ∷ events)) ⊎ ((t ≡ s) × (rest ≡ event ∷ events))
    by_event true event events e =
        let same = goes_same (fold after s event) t events rest e in
        inl (omega (arith, ap (λ (l : List (List LogRow)). length l) same.1))
    by_event false event events e = cc

    by_passed : (b : Bool) (events : List (List LogRow)) → (if b then goes s events else takes line s events) ≡ goes t rest → (length rest < length events) ⊎ ((t ≡ s) × (rest ≡ events))
    by_passed true events e = inr (goes_same s t events rest e)
    by_passed false [] e = cc
    by_passed false (event ∷ events) e = by_event (is_event line event) event events e

does_all_slower : (ls : List ScenarioLine) → IsSlower (does_all ls)
unfolding does_all
does_all_slower [] s events t rest e = inr (goes_same s t events rest e)
does_all_slower (line ∷ more) s events t rest e =
    let by = goes_by (does line s events) (does_all more) t rest e in
    both (does_slower line s events by.state by.events by.first) (does_all_slower more by.state by.events t rest by.second)
  where
    both : {s' : Seen} {mid : List (List LogRow)} → (length mid < length events) ⊎ ((s' ≡ s) × (mid ≡ events)) → (length rest < length mid) ⊎ ((t ≡ s') × (rest ≡ mid)) → (length rest < length events) ⊎ ((t ≡ s) × (rest ≡ events))
    both (inl first) (inl second) = inl (omega (arith, first, second))
    both (inl first) (inr second) = inl (omega (arith, first, ap (λ (l : List (List LogRow)). length l) second.1))
    both (inr first) (inl second) = inl (omega (arith, second, ap (λ (l : List (List LogRow)). length l) first.1))
    both (inr first) (inr second) = inr (second.0 ∙ first.0, second.1 ∙ first.1)

-- rounds that take no event never settle
idle_rounds : (n : ℕ) (s : Seen) (events : List (List LogRow)) → is_still s ≡ false → a_round s events ≡ goes s events → rounds n s events ≡ strays
unfolding rounds
idle_rounds zero s events busy idle = rw busy refl
idle_rounds (suc n) s events busy idle = rw (busy, idle) (idle_rounds n s events busy idle)

-- ---- rounds

-- what the rounds do on fewer events, where nothing is in transit or a round is played
rounds_moments : (n m : ℕ) (s : Seen) (events later : List (List LogRow)) (t : Seen) (rest : List (List LogRow)) → length events < n → rounds m s (events ++ later) ≡ goes t rest → IsUpTo (rounds n s events)
unfolding rounds
rounds_moments zero m s events later t rest enough e = absurd (omega (arith, enough))
rounds_moments (suc n) zero s events later t rest enough e = by_still (is_still s) e
  where
    by_still : (b : Bool) → (if b then goes s (events ++ later) else strays) ≡ goes t rest → IsUpTo (if b then goes s events else and_then (a_round s events) (rounds n))
    by_still true e = tt
    by_still false e = cc
rounds_moments (suc n) (suc m) s events later t rest enough e =
    by_still (λ s' mid fewer e'. rounds_moments n m s' mid later t rest fewer e') (is_still s) refl e
  where
    by_course : ((s' : Seen) (mid : List (List LogRow)) → length mid < n → rounds m s' (mid ++ later) ≡ goes t rest → IsUpTo (rounds n s' mid)) → is_still s ≡ false → and_then (a_round s (events ++ later)) (rounds m) ≡ goes t rest → (c : Course) → a_round s events ≡ c → IsUpTo (and_then c (rounds n))
    by_course others busy e stops is = tt
    by_course others busy e strays is =
        let by = goes_by (a_round s (events ++ later)) (rounds m) t rest e in
        let up : IsUpTo (a_round s events) = does_all_moments (turns_to 16) s events later by.state by.events by.first in
        elim (subst (λ (c : Course). IsUpTo c) is up) [ ]
    by_course others busy e (goes s' mid) is =
        let long : a_round s (events ++ later) ≡ goes s' (mid ++ later) = does_all-later (turns_to 16) s events later s' mid is in
        let next : rounds m s' (mid ++ later) ≡ goes t rest = ap (λ (c : Course). and_then c (rounds m)) (sym long) ∙ e in
        elim (does_all_slower (turns_to 16) s events s' mid is) [
          | inl fewer ↦ others s' mid (omega (arith, fewer, enough)) next
          | inr same ↦
              let idle : a_round s (events ++ later) ≡ goes s (events ++ later) = long ∙ ap (λ (x : Seen). goes x (mid ++ later)) same.0 ∙ ap (λ (x : List (List LogRow)). goes s (x ++ later)) same.1 in
              let never : rounds m s (events ++ later) ≡ strays = idle_rounds m s (events ++ later) busy idle in
              let ends : rounds m s (events ++ later) ≡ goes t rest = ap (λ (x : List (List LogRow)). rounds m s (x ++ later)) (sym same.1) ∙ ap (λ (x : Seen). rounds m x (mid ++ later)) (sym same.0) ∙ next in
              absurd (no_end never ends)
        ]
      where
        no_end : {c : Course} → c ≡ strays → c ≡ goes t rest → ⊥
        no_end never ends = let wrong : strays ≡ goes t rest = sym never ∙ ends in cc

    by_still : ((s' : Seen) (mid : List (List LogRow)) → length mid < n → rounds m s' (mid ++ later) ≡ goes t rest → IsUpTo (rounds n s' mid)) → (b : Bool) → is_still s ≡ b → (if b then goes s (events ++ later) else and_then (a_round s (events ++ later)) (rounds m)) ≡ goes t rest → IsUpTo (if b then goes s events else and_then (a_round s events) (rounds n))
    by_still others true still e = tt
    by_still others false busy e = by_course others busy e (a_round s events) refl

-- what settles is still
pub settles_still : (n : ℕ) (s : Seen) (events : List (List LogRow)) (t : Seen) (rest : List (List LogRow)) → rounds n s events ≡ goes t rest → is_still t ≡ true
unfolding rounds
settles_still zero s events t rest e = by_still (is_still s) refl e
  where
    by_still : (b : Bool) → is_still s ≡ b → (if b then goes s events else strays) ≡ goes t rest → is_still t ≡ true
    by_still true still e = ap is_still (goes_same s t events rest e).0 ∙ still
    by_still false still e = cc
settles_still (suc n) s events t rest e =
    by_still (λ s' mid e'. settles_still n s' mid t rest e') (is_still s) refl e
  where
    by_still : ((s' : Seen) (mid : List (List LogRow)) → rounds n s' mid ≡ goes t rest → is_still t ≡ true) → (b : Bool) → is_still s ≡ b → (if b then goes s events else and_then (a_round s events) (rounds n)) ≡ goes t rest → is_still t ≡ true
    by_still others true still e = ap is_still (goes_same s t events rest e).0 ∙ still
    by_still others false still e =
        let by = goes_by (a_round s events) (rounds n) t rest e in others by.state by.events by.second

settles_moments : HasMoments settles
settles_moments s events later t rest e =
    rounds_moments (length events + 1) (length (events ++ later) + 1) s events later t rest (omega arith) e

-- ---- lines

plays_line_moments : (line : ScenarioLine) → HasMoments (plays_line line)
plays_line_moments (lines.Ask request) = does_moments (lines.Ask request)
plays_line_moments (lines.Answer req stay) = does_moments (lines.Answer req stay)
plays_line_moments lines.Evict = does_moments lines.Evict
plays_line_moments (lines.Kill proc) = does_moments (lines.Kill proc)
plays_line_moments (lines.Act proc) = does_moments (lines.Act proc)
plays_line_moments (lines.Begin proc) = does_moments (lines.Begin proc)
plays_line_moments (lines.Finish proc) = does_moments (lines.Finish proc)
plays_line_moments (lines.Deliver proc) = does_moments (lines.Deliver proc)
plays_line_moments lines.Settle = settles_moments

plays_moments : (ls : List ScenarioLine) → HasMoments (plays ls)
unfolding plays
plays_moments [] s events later t rest e = tt
plays_moments (line ∷ more) s events later t rest e =
    both_moments (plays_line line) (plays more) (plays_line_moments line) (plays_line-later line) (plays_moments more) s events later t rest e

-- ---- what a stage comes to is what the events that it took lead to

abbrev IsFaithful : Stage → Type 0
IsFaithful stage =
    (s : Seen) (events : List (List LogRow)) (t : Seen) (rest : List (List LogRow)) → stage s events ≡ goes t rest → fold after s (flat events) ≡ fold after t (flat rest)

faithful_same : (s t : Seen) (events rest : List (List LogRow)) → goes s events ≡ goes t rest → fold after s (flat events) ≡ fold after t (flat rest)
faithful_same s t events rest e =
    let same = goes_same s t events rest e in
    ap (λ (x : Seen). fold after x (flat events)) (sym same.0) ∙ ap (λ (l : List (List LogRow)). fold after t (flat l)) (sym same.1)

does_faithful : (line : ScenarioLine) → IsFaithful (does line)
unfolding does
does_faithful line s events t rest e = by_passed (is_passed s line) events e
  where
    by_event : (b : Bool) (event : List LogRow) (events : List (List LogRow)) → (if b then goes (fold after s event) events else strays) ≡ goes t rest → fold after s (flat (event ∷ events)) ≡ fold after t (flat rest)
    by_event true event events e =
        fold-append (λ (x : Seen) (row : LogRow). after x row) s event (flat events) ∙ faithful_same (fold after s event) t events rest e
    by_event false event events e = cc

    by_passed : (b : Bool) (events : List (List LogRow)) → (if b then goes s events else takes line s events) ≡ goes t rest → fold after s (flat events) ≡ fold after t (flat rest)
    by_passed true events e = faithful_same s t events rest e
    by_passed false [] e = cc
    by_passed false (event ∷ events) e = by_event (is_event line event) event events e

does_all_faithful : (ls : List ScenarioLine) → IsFaithful (does_all ls)
unfolding does_all
does_all_faithful [] s events t rest e = faithful_same s t events rest e
does_all_faithful (line ∷ more) s events t rest e =
    let by = goes_by (does line s events) (does_all more) t rest e in
    does_faithful line s events by.state by.events by.first ∙ does_all_faithful more by.state by.events t rest by.second

rounds_faithful : (n : ℕ) → IsFaithful (rounds n)
unfolding rounds
rounds_faithful zero s events t rest e = by_still (is_still s) e
  where
    by_still : (b : Bool) → (if b then goes s events else strays) ≡ goes t rest → fold after s (flat events) ≡ fold after t (flat rest)
    by_still true e = faithful_same s t events rest e
    by_still false e = cc
rounds_faithful (suc n) s events t rest e =
    by_still (λ s' mid e'. rounds_faithful n s' mid t rest e') (is_still s) e
  where
    by_still : ((s' : Seen) (mid : List (List LogRow)) → rounds n s' mid ≡ goes t rest → fold after s' (flat mid) ≡ fold after t (flat rest)) → (b : Bool) → (if b then goes s events else and_then (a_round s events) (rounds n)) ≡ goes t rest → fold after s (flat events) ≡ fold after t (flat rest)
    by_still others true e = faithful_same s t events rest e
    by_still others false e =
        let by = goes_by (a_round s events) (rounds n) t rest e in
        does_all_faithful (turns_to 16) s events by.state by.events by.first ∙ others by.state by.events by.second

plays_line_faithful : (line : ScenarioLine) → IsFaithful (plays_line line)
plays_line_faithful (lines.Ask request) = does_faithful (lines.Ask request)
plays_line_faithful (lines.Answer req stay) = does_faithful (lines.Answer req stay)
plays_line_faithful lines.Evict = does_faithful lines.Evict
plays_line_faithful (lines.Kill proc) = does_faithful (lines.Kill proc)
plays_line_faithful (lines.Act proc) = does_faithful (lines.Act proc)
plays_line_faithful (lines.Begin proc) = does_faithful (lines.Begin proc)
plays_line_faithful (lines.Finish proc) = does_faithful (lines.Finish proc)
plays_line_faithful (lines.Deliver proc) = does_faithful (lines.Deliver proc)
plays_line_faithful lines.Settle = λ s events t rest e. rounds_faithful (length events + 1) s events t rest e

pub plays_faithful : (ls : List ScenarioLine) → IsFaithful (plays ls)
unfolding plays
plays_faithful [] s events t rest e = faithful_same s t events rest e
plays_faithful (line ∷ more) s events t rest e =
    let by = goes_by (plays_line line s events) (plays more) t rest e in
    plays_line_faithful line s events by.state by.events by.first ∙ plays_faithful more by.state by.events t rest by.second

-- ---- a log and a moment of it

-- the first of two lists of which nothing is left is empty
none_left : (rest later : List (List LogRow)) → rest ++ later ≡ [] → rest ≡ []
none_left [] later e = refl
none_left (event ∷ rest) later e = cc

-- of events that were all played, the first ones are played whole, or they are cut short
first_events : (ls : List ScenarioLine) (s : Seen) (events later : List (List LogRow)) (t : Seen) → plays ls s (events ++ later) ≡ goes t [] → (plays ls s events ≡ goes (fold after s (flat events)) []) ⊎ (plays ls s events ≡ stops)
first_events ls s events later t e = by_course (plays ls s events) refl
  where
    by_course : (c : Course) → plays ls s events ≡ c → (plays ls s events ≡ goes (fold after s (flat events)) []) ⊎ (plays ls s events ≡ stops)
    by_course stops is = inr is
    by_course strays is =
        let up : IsUpTo (plays ls s events) = plays_moments ls s events later t [] e in
        elim (subst (λ (c : Course). IsUpTo c) is up) [ ]
    by_course (goes s' rest) is =
        let long : goes s' (rest ++ later) ≡ goes t [] = sym (plays-later ls s events later s' rest is) ∙ e in
        let none : rest ≡ [] = none_left rest later (sym (goes_same s' t (rest ++ later) [] long).1) in
        let state : s' ≡ fold after s (flat events) = sym (plays_faithful ls s events s' rest is ∙ ap (λ (l : List (List LogRow)). fold after s' (flat l)) none) in
        inl (is ∙ ap (λ (l : List (List LogRow)). goes s' l) none ∙ ap (λ (x : Seen). goes x []) state)

-- a moment of a log that follows a scenario follows it up to there: more rows come after it, in events of their own
pub follows_up_to : (row : LogRow) (rows more : List LogRow) (later : List (List LogRow)) (scenario : Scenario) → events_of ((row ∷ rows) ++ more) ≡ events_of (row ∷ rows) ++ later → Follows ((row ∷ rows) ++ more) scenario → FollowsUpTo (row ∷ rows) scenario
unfolding course_of seen_of
follows_up_to row rows more later scenario moment follows = by_events (events_of (row ∷ rows)) refl
  where
    whole : course_of scenario.lines (events_of (row ∷ rows) ++ later) ≡ goes (seen_of ((row ∷ rows) ++ more)) []
    whole = ap (λ (e : List (List LogRow)). course_of scenario.lines e) (sym moment) ∙ follows.course

    suits : Suits scenario.header (row ∷ rows)
    suits = suits_front scenario.header row rows more later moment follows.suits

    by_events : (events : List (List LogRow)) → events_of (row ∷ rows) ≡ events → FollowsUpTo (row ∷ rows) scenario
    by_events [] is =
        let none : [] ≡ row ∷ rows = sym (ap (λ (e : List (List LogRow)). flat e) is) ∙ flat-events_of (row ∷ rows) in cc
    by_events (opening ∷ events) is =
        let start : Seen = fold after nothing opening in
        let all : plays scenario.lines start (events ++ later) ≡ goes (seen_of ((row ∷ rows) ++ more)) [] = ap (λ (e : List (List LogRow)). course_of scenario.lines (e ++ later)) (sym is) ∙ whole in
        let state : fold after start (flat events) ≡ seen_of (row ∷ rows) =
        sym (fold-append (λ (x : Seen) (r : LogRow). after x r) nothing opening (flat events)) ∙ ap (λ (l : List LogRow). fold after nothing l) (sym (ap (λ (e : List (List LogRow)). flat e) is) ∙ flat-events_of (row ∷ rows)) in
        let here : course_of scenario.lines (events_of (row ∷ rows)) ≡ plays scenario.lines start events = ap (λ (e : List (List LogRow)). course_of scenario.lines e) is in
        elim (first_events scenario.lines start events later (seen_of ((row ∷ rows) ++ more)) all) [
          | inl played ↦ inl (record { suits = suits; course = here ∙ played ∙ ap (λ (x : Seen). goes x []) state })
          | inr cut ↦ inr (record { suits = suits; course = here ∙ cut })
        ]
