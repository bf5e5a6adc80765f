-- Each line of a made scenario is a made one, and there are at most four a turn.
use Rattle.std.proofs.Common.{◌≡◌, ℕ, zero, suc, ◌+◌, ◌-◌, ◌*◌, ◌<◌, ◌≤◌, Bool, true, false, ◌==◌, List, [], ◌∷◌, ◌++◌, length, refl, sym, ap, ◌∙◌, arith, append-nil, append_assoc, length-append}
use Rattle.scenario_text.specs.declared.line.ScenarioLine.{ScenarioLine}
use Rattle.scenario_text.specs.Written.{Each}
use Rattle.scenario_make.specs.Draws.{after_draw, drawn}
use Rattle.scenario_make.specs.Turns.{Turn, load_turn, push_turn, fragment_turn, kill_turn, rare_turn, turn_of_kind, turn_after}
use Rattle.scenario_make.specs.Scenarios.{is_request, turn_lines, number_after, made_turns, made_lines}
use Rattle.scenario_make.proofs.MadeLines.{IsMade, load_made, push_made, fragment_made, back_made, forward_made, reload_made, edit_made, kill_made, evict_made, settle_made, frame_made, answer_made}

-- ---- a turn's line

below_three : (kept : ℕ) → drawn 3 kept < 3
below_three kept = omega arith

below_four : (kept : ℕ) → drawn 4 kept < 4
below_four kept = omega arith

load_turn_made : (nav kept : ℕ) → nav < 2 → IsMade (load_turn nav kept).line
unfolding load_turn
load_turn_made nav kept few =
    load_made nav (drawn 3 (after_draw kept)) (drawn 4 (after_draw (after_draw kept))) few (below_three (after_draw kept)) (below_four (after_draw (after_draw kept)))

push_turn_made : (nav kept : ℕ) → nav < 2 → IsMade (push_turn nav kept).line
unfolding push_turn
push_turn_made nav kept few = push_made nav (drawn 4 (after_draw kept)) few (below_four (after_draw kept))

fragment_turn_made : (kept : ℕ) → IsMade (fragment_turn kept).line
unfolding fragment_turn
fragment_turn_made kept = fragment_made (drawn 4 (after_draw kept)) (below_four (after_draw kept))

kill_turn_made : (kept : ℕ) → IsMade (kill_turn kept).line
unfolding kill_turn
kill_turn_made kept = kill_made (drawn 3 (after_draw kept)) (below_three (after_draw kept))

rare_turn_made : (which kept : ℕ) → IsMade (rare_turn which kept).line
unfolding rare_turn
rare_turn_made which kept = by_tests (which == 0) (which == 1) (which == 2) refl refl refl
  where
    by_tests : (a b c : Bool) → (which == 0) ≡ a → (which == 1) ≡ b → (which == 2) ≡ c → IsMade (rare_turn which kept).line
    by_tests true b c e0 e1 e2 = rw e0 reload_made
    by_tests false true c e0 e1 e2 = rw (e0, e1) edit_made
    by_tests false false true e0 e1 e2 = rw (e0, e1, e2) (kill_turn_made kept)
    by_tests false false false e0 e1 e2 = rw (e0, e1, e2) evict_made

kind_made : (kind kept : ℕ) → IsMade (turn_of_kind kind kept).line
unfolding turn_of_kind
kind_made kind kept = by_tests (kind == 0) (kind == 1) (kind == 2) (kind == 3) (kind == 4) (kind == 5) (kind == 6) refl refl refl refl refl refl refl
  where
    by_tests : (a b c d e f g : Bool) → (kind == 0) ≡ a → (kind == 1) ≡ b → (kind == 2) ≡ c → (kind == 3) ≡ d → (kind == 4) ≡ e → (kind == 5) ≡ f → (kind == 6) ≡ g → IsMade (turn_of_kind kind kept).line
    by_tests true b c d e f g e0 e1 e2 e3 e4 e5 e6 = rw e0 (load_turn_made 0 kept (omega arith))
    by_tests false true c d e f g e0 e1 e2 e3 e4 e5 e6 = rw (e0, e1) (load_turn_made 1 kept (omega arith))
    by_tests false false true d e f g e0 e1 e2 e3 e4 e5 e6 = rw (e0, e1, e2) (push_turn_made 0 kept (omega arith))
    by_tests false false false true e f g e0 e1 e2 e3 e4 e5 e6 = rw (e0, e1, e2, e3) (push_turn_made 1 kept (omega arith))
    by_tests false false false false true f g e0 e1 e2 e3 e4 e5 e6 = rw (e0, e1, e2, e3, e4) (fragment_turn_made kept)
    by_tests false false false false false true g e0 e1 e2 e3 e4 e5 e6 = rw (e0, e1, e2, e3, e4, e5) back_made
    by_tests false false false false false false true e0 e1 e2 e3 e4 e5 e6 = rw (e0, e1, e2, e3, e4, e5, e6) forward_made
    by_tests false false false false false false false e0 e1 e2 e3 e4 e5 e6 =
        rw (e0, e1, e2, e3, e4, e5, e6) (rare_turn_made (drawn 4 (after_draw kept)) (after_draw kept))

turn_made : (kept : ℕ) → IsMade (turn_after kept).line
unfolding turn_after
turn_made kept = kind_made (drawn 8 (after_draw kept)) (after_draw kept)

-- ---- a turn's lines

each_join : {A : Type 0} (P : A → Type 0) (xs ys : List A) → Each P xs → Each P ys → Each P (xs ++ ys)
each_join P [] ys are others = others
each_join P (x ∷ xs) ys are others = (are.0, each_join P xs ys are.1 others)

lines_made : (number : ℕ) (line : ScenarioLine) → IsMade line → 0 < number → number ≤ 65535 → Each IsMade (turn_lines number line)
lines_made number line is some few = by_test (is_request line) refl
  where
    by_test : (b : Bool) → is_request line ≡ b → Each IsMade (turn_lines number line)
    by_test true e = rw e (is, (settle_made, (answer_made number some few, (settle_made, tt))))
    by_test false e = rw e (is, (settle_made, tt))

lines_few : (number : ℕ) (line : ScenarioLine) → length (turn_lines number line) ≤ 4
lines_few number line = by_test (is_request line) refl
  where
    by_test : (b : Bool) → is_request line ≡ b → length (turn_lines number line) ≤ 4
    by_test true e = rw e (omega arith)
    by_test false e = rw e (omega arith)

-- the next number is the same or the next one
record IsNext (old new : ℕ) : Type 0 where
  pub least : old ≤ new
  pub greatest : new ≤ old + 1

next_is : (number : ℕ) (line : ScenarioLine) → IsNext number (number_after number line)
next_is number line = by_test (is_request line) refl
  where
    by_test : (b : Bool) → is_request line ≡ b → IsNext number (number_after number line)
    by_test true e = rw e (record { least = omega arith; greatest = omega arith })
    by_test false e = rw e (record { least = omega arith; greatest = omega arith })

-- ---- all turns

turns_made : (turns kept number : ℕ) → 0 < number → number + turns ≤ 65536 → Each IsMade (made_turns turns kept number)
unfolding made_turns
turns_made zero kept number some few = tt
turns_made (suc turns) kept number some few =
    let turn : Turn = turn_after kept in
    let next = next_is number turn.line in
    each_join IsMade (turn_lines number turn.line) (made_turns turns turn.kept (number_after number turn.line))
    (lines_made number turn.line (turn_made kept) some (omega (arith, few)))
    (turns_made turns turn.kept (number_after number turn.line) (omega (arith, some, next.least)) (omega (arith, few, next.greatest)))

turns_few : (turns kept number : ℕ) → length (made_turns turns kept number) ≤ 4 * turns
unfolding made_turns
turns_few zero kept number = omega arith
turns_few (suc turns) kept number =
    let turn : Turn = turn_after kept in
    omega (arith, length-append (turn_lines number turn.line) (made_turns turns turn.kept (number_after number turn.line)), lines_few number turn.line, turns_few turns turn.kept (number_after number turn.line))

pub each_made : (n : ℕ) → Each IsMade (made_lines n)
unfolding made_lines
each_made n = (frame_made, (settle_made, turns_made 1000 n 2 (omega arith) (omega arith)))

pub made_few : (n : ℕ) → length (made_lines n) ≤ 4002
unfolding made_lines
made_few n = omega (arith, turns_few 1000 n 2)

-- ---- one turn after another

-- so many turns of 1,000 are added, and the others would make the whole
pub record AreAdded (whole before : List ScenarioLine) (turn kept number : ℕ) : Type 0 where
  pub rest : whole ≡ before ++ made_turns (1000 - turn) kept number
  pub few : number ≤ turn + 2

turns_first : (turns kept number : ℕ) → made_turns (suc turns) kept number ≡ turn_lines number (turn_after kept).line ++ made_turns turns (turn_after kept).kept (number_after number (turn_after kept).line)
unfolding made_turns
turns_first turns kept number = refl

pub none_added : (lines : List ScenarioLine) (kept : ℕ) → AreAdded (lines ++ made_turns 1000 kept 2) lines 0 kept 2
none_added lines kept = record { rest = refl; few = omega arith }

pub one_added : (whole before after : List ScenarioLine) (line : ScenarioLine) (turn kept next number later : ℕ) → turn < 1000
    → AreAdded whole before turn kept number
    → line ≡ (turn_after kept).line → next ≡ (turn_after kept).kept
    → after ≡ before ++ turn_lines number line → later ≡ number_after number line
    → AreAdded whole after (turn + 1) next later
one_added whole before after line turn kept next number later more are is_line is_next is_after is_later =
    let left : ℕ = 1000 - (turn + 1) in
    let one_less : 1000 - turn ≡ suc left = omega (arith, more) in
    let made : Turn = turn_after kept in
    let others : List ScenarioLine = made_turns left made.kept (number_after number made.line) in
    let same : number_after number made.line ≡ later = ap (λ (l : ScenarioLine). number_after number l) (sym is_line) ∙ sym is_later in
    record {
      rest =
          are.rest
          ∙ ap (λ (t : ℕ). before ++ made_turns t kept number) one_less
          ∙ ap (λ (l : List ScenarioLine). before ++ l) (turns_first left kept number)
          ∙ sym (append_assoc before (turn_lines number made.line) others)
          ∙ ap (λ (l : ScenarioLine). (before ++ turn_lines number l) ++ others) (sym is_line)
          ∙ ap (λ (l : List ScenarioLine). l ++ others) (sym is_after)
          ∙ ap (λ (k : ℕ). after ++ made_turns left k (number_after number made.line)) (sym is_next)
          ∙ ap (λ (k : ℕ). after ++ made_turns left next k) same;
      few = rw is_later (omega (arith, are.few, (next_is number line).greatest));
    }

pub all_added : (whole lines : List ScenarioLine) (turn kept number : ℕ) → 1000 ≤ turn → AreAdded whole lines turn kept number → lines ≡ whole
unfolding made_turns
all_added whole lines turn kept number done are =
    let none : 1000 - turn ≡ 0 = omega (arith, done) in
    sym (are.rest ∙ ap (λ (t : ℕ). lines ++ made_turns t kept number) none ∙ append-nil lines)
