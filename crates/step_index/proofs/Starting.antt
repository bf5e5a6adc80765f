-- Where document states start, as rows come and go.
use Rattle.std.proofs.Common.{◌≡◌, ◌≢◌, ℕ, suc, ◌<◌, ◌≤◌, Bool, true, false, not, ◌&&◌, ◌||◌, cond, List, [], ◌∷◌, ◌++◌, refl, ap, sym, ◌∙◌, filter, fold, find, min, take, length, get_or, append_assoc, arith, inl, inr, subst, Option, Some, None}
use Rattle.std.specs.Prelude.{◌==◌, nat_le, nat_lt, is_some, option_map, if◌then◌else◌}
use Rattle.std.specs.List.{list_any, count_by}
use Rattle.std.specs.Option.{option_map_or}
use Rattle.std.proofs.lemmas.Bool.{cases_Bool, false≢true, or_parts, or_cases, and_parts, and_from, eq-eqb, eqb-true, ne_eqb, le-leb, leb-true, leb-false, lt-ltb, le-ltb}
use Rattle.std.proofs.Math.Seq.{take-suc}
use Rattle.std.proofs.lemmas.List.{append-nil}
use Rattle.std.proofs.lemmas.List.Folds.{list_any-append}
use Rattle.tab_ids.specs.declared.StateId.{StateId}
use Rattle.tab_ids.specs.declared.Step.{Step}
use Rattle.log_model.specs.declared.row.Row.{Row}
use Rattle.log_model.specs.History.{History, is_of, has_state}
use Rattle.log_model.specs.Soundness.{is_in_state, stands_at, holds, IsSound}
use Rattle.history_laws.proofs.Members.{IsIn, IsIn-head, or_right, or_none, none_passes, list_any-none, list_any-weaker, witness, found, list_any-filter, IsIn-filter, IsIn-filter_passes, IsIn-into_filter}
use Rattle.history_laws.proofs.OneMore.{AddsRow-insert}
use Rattle.history_laws.proofs.Replace.{list_any-zero}
use Rattle.history_laws.proofs.Tidying.{state_same, held}
use Rattle.entry_store.specs.Kept.{PutsRow}
use Rattle.entry_store.specs.Reading.{first_of, lower_step}
use Rattle.step_index.specs.Ascending.{IsAscending}
use Rattle.step_index.specs.Tracks.{step_of}
use Rattle.step_index.specs.Starts.{start_of, is_by, is_start, AreStarted, StartsOne, StartsAnew, StartsOver, starts_with, StartsLess}
use Rattle.step_index.proofs.Tracking.{was_not, any_insert}
use Rattle.step_index.proofs.Noting.{eqb_turned}

-- a row's document state starts by the row's step
pub started_by : (starts : List (StateId × Step)) (rows : List Row) → AreStarted starts rows → (row : Row) → IsIn rows row → is_by (start_of row.state starts) row.step.0 ≡ true
started_by starts rows are row there =
    was_not (is_by (start_of row.state starts) row.step.0) (none_passes (λ (r : Row). not (is_by (start_of r.state starts) r.step.0)) rows are.by_rows row there)

-- ---- what is asked

none_starts : (start : Option Step) (step : ℕ) → start ≡ None → is_by start step ≡ true → false ≡ true
none_starts start step none is = ap (λ (s : Option Step). is_by s step) (sym none) ∙ is

-- a row has the document state where it starts somewhere
pub has_state-started : (starts : List (StateId × Step)) (rows : List Row) → AreStarted starts rows → (state : StateId) → has_state state rows ≡ is_some (start_of state starts)
has_state-started starts rows are state = by_start (start_of state starts) refl
  where
    by_start : (start : Option Step) → start_of state starts ≡ start → has_state state rows ≡ is_some start
    by_start None none =
        list_any-none (is_in_state state) rows (λ row there.
        elim (cases_Bool (is_in_state state row)) [
          | inl is ↦
              absurd (false≢true (none_starts (start_of row.state starts) row.step.0 (ap (λ (s : StateId). start_of s starts) (state_same row.state state (eqb-true row.state.0 state.0 is)) ∙ none) (started_by starts rows are row there)))
          | inr isnt ↦ isnt
        ])
    by_start (Some start) is =
        list_any-weaker (λ (row : Row). is_in_state state row && row.step.0 == start.0) (is_in_state state) rows (λ row there both. (and_parts (is_in_state state row) (row.step.0 == start.0) both).0)
        (are.at_row state start.0 (ap (λ (s : Option Step). is_start s start.0) is ∙ eq-eqb start.0 start.0 refl))

-- no row of the document state stands below a step
abbrev none_below : StateId → ℕ → List Row → Type 0
none_below state least rows = list_any (λ (row : Row). is_in_state state row && not (nat_le least row.step.0)) rows ≡ false

-- whatever was found so far is at the step or past it
abbrev is_from : ℕ → Option ℕ → Bool
is_from least best = option_map_or (λ step. nat_le least step) best true

lower_from : (least step : ℕ) (best : Option ℕ) → nat_le least step ≡ true → is_from least best ≡ true → is_from least (lower_step best step) ≡ true
lower_from least step None past from = past
lower_from least step (Some best) past from =
    le-leb least (min best step) (omega (arith, leb-true least step past, leb-true least best from))

lower_at : (least : ℕ) (best : Option ℕ) → is_from least best ≡ true → lower_step best least ≡ Some least
lower_at least None from = refl
lower_at least (Some best) from =
    let same : min best least ≡ least = omega (arith, leb-true least best from) in ap (λ (n : ℕ). Some n) same

past_it : (state : StateId) (least : ℕ) (row : Row) → is_in_state state row ≡ true → (is_in_state state row && not (nat_le least row.step.0)) ≡ false → nat_le least row.step.0 ≡ true
past_it state least row is none = was_not (nat_le least row.step.0) (sym (ap (λ b. b && not (nat_le least row.step.0)) is) ∙ none)

stays_at : (state : StateId) (least : ℕ) (rows : List Row) → none_below state least rows → fold (first_of state) (Some least) rows ≡ Some least
stays_at state least [] none = refl
stays_at state least (row ∷ rows) none =
    let both = or_parts (is_in_state state row && not (nat_le least row.step.0)) (list_any (λ (r : Row). is_in_state state r && not (nat_le least r.step.0)) rows) none in
    by_state both.0 (stays_at state least rows both.1) (is_in_state state row) refl
  where
    by_state : (is_in_state state row && not (nat_le least row.step.0)) ≡ false → fold (first_of state) (Some least) rows ≡ Some least → (b : Bool) → is_in_state state row ≡ b → fold (first_of state) (Some least) (row ∷ rows) ≡ Some least
    by_state here rest true is =
        let same : min least row.step.0 ≡ least = omega (arith, leb-true least row.step.0 (past_it state least row is here)) in
        ap (λ b. fold (first_of state) (cond b (Some (min least row.step.0)) (Some least)) rows) is
        ∙ ap (λ (n : ℕ). fold (first_of state) (Some n) rows) same
        ∙ rest
    by_state here rest false isnt = ap (λ b. fold (first_of state) (cond b (Some (min least row.step.0)) (Some least)) rows) isnt ∙ rest

-- what is left once a row isn't the one at the step
rest_any : (state : StateId) (least : ℕ) (row : Row) (rows : List Row) → (is_in_state state row && row.step.0 == least) ≡ false → list_any (λ (r : Row). is_in_state state r && r.step.0 == least) (row ∷ rows) ≡ true → list_any (λ (r : Row). is_in_state state r && r.step.0 == least) rows ≡ true
rest_any state least row rows isnt any = sym (ap (λ b. b || list_any (λ (r : Row). is_in_state state r && r.step.0 == least) rows) isnt) ∙ any

comes_to : (state : StateId) (least : ℕ) (best : Option ℕ) (rows : List Row) → is_from least best ≡ true → none_below state least rows → list_any (λ (row : Row). is_in_state state row && row.step.0 == least) rows ≡ true → fold (first_of state) best rows ≡ Some least
comes_to state least best [] from none any = absurd (false≢true any)
comes_to state least best (row ∷ rows) from none any =
    let both = or_parts (is_in_state state row && not (nat_le least row.step.0)) (list_any (λ (r : Row). is_in_state state r && not (nat_le least r.step.0)) rows) none in
    by_state both.0 both.1 (λ next ok more. comes_to state least next rows ok both.1 more) (is_in_state state row) refl (row.step.0 == least) refl
  where
    by_state : (is_in_state state row && not (nat_le least row.step.0)) ≡ false → none_below state least rows
        → ((next : Option ℕ) → is_from least next ≡ true → list_any (λ (r : Row). is_in_state state r && r.step.0 == least) rows ≡ true → fold (first_of state) next rows ≡ Some least)
        → (a : Bool) → is_in_state state row ≡ a → (b : Bool) → (row.step.0 == least) ≡ b → fold (first_of state) best (row ∷ rows) ≡ Some least
    by_state here below rest true is true at =
        ap (λ b. fold (first_of state) (cond b (lower_step best row.step.0) best) rows) is
        ∙ ap (λ n. fold (first_of state) (lower_step best n) rows) (eqb-true row.step.0 least at)
        ∙ ap (λ (found : Option ℕ). fold (first_of state) found rows) (lower_at least best from)
        ∙ stays_at state least rows below
    by_state here below rest true is false apart =
        ap (λ b. fold (first_of state) (cond b (lower_step best row.step.0) best) rows) is
        ∙ rest (lower_step best row.step.0) (lower_from least row.step.0 best (past_it state least row is here) from)
        (rest_any state least row rows (ap (λ b. b && row.step.0 == least) is ∙ apart) any)
    by_state here below rest false isnt b at =
        ap (λ c. fold (first_of state) (cond c (lower_step best row.step.0) best) rows) isnt
        ∙ rest best from (rest_any state least row rows (ap (λ c. c && row.step.0 == least) isnt) any)

-- where it starts is the least step of its rows
pub first_started : (starts : List (StateId × Step)) (rows : List Row) → AreStarted starts rows → (state : StateId) (start : Step) → start_of state starts ≡ Some start → fold (first_of state) None rows ≡ Some start.0
first_started starts rows are state start is =
    comes_to state start.0 None rows refl
    (list_any-none (λ (row : Row). is_in_state state row && not (nat_le start.0 row.step.0)) rows (λ row there. past row there (is_in_state state row) refl))
    (are.at_row state start.0 (ap (λ (s : Option Step). is_start s start.0) is ∙ eq-eqb start.0 start.0 refl))
  where
    past : (row : Row) → IsIn rows row → (b : Bool) → is_in_state state row ≡ b → (is_in_state state row && not (nat_le start.0 row.step.0)) ≡ false
    past row there false isnt = ap (λ b. b && not (nat_le start.0 row.step.0)) isnt
    past row there true here =
        ap (λ b. b && not (nat_le start.0 row.step.0)) here
        ∙ ap not (sym (ap (λ (s : Option Step). is_by s row.step.0) (ap (λ (s : StateId). start_of s starts) (state_same row.state state (eqb-true row.state.0 state.0 here)) ∙ is)) ∙ started_by starts rows are row there)

-- ---- a row comes

module _ (old : List (StateId × Step)) (rows : List Row) (row : Row) (new : List (StateId × Step)) (one : StartsOne old row.state row.step new) where
  -- what starts by a step starts by it still
  still_by : (state : StateId) (step : ℕ) → is_by (start_of state old) step ≡ true → is_by (start_of state new) step ≡ true
  still_by state step is = ap (λ (s : Option Step). is_by s step) (one state) ∙ by_test (state.0 == row.state.0 && not (is_by (start_of state old) row.step.0)) refl (start_of state old) refl is
    where
      by_test : (b : Bool) → (state.0 == row.state.0 && not (is_by (start_of state old) row.step.0)) ≡ b → (start : Option Step) → start_of state old ≡ start → is_by (start_of state old) step ≡ true
          → is_by (if b then Some row.step else start_of state old) step ≡ true
      by_test false isnt start at was = was
      by_test true now None at was = absurd (false≢true (none_starts (start_of state old) step at was))
      by_test true now (Some start) at was =
          let past : not (is_by (start_of state old) row.step.0) ≡ true = (and_parts (state.0 == row.state.0) (not (is_by (start_of state old) row.step.0)) now).1 in
          let later : nat_le start.0 row.step.0 ≡ false = not_true (nat_le start.0 row.step.0) (ap (λ (s : Option Step). not (is_by s row.step.0)) (sym at) ∙ past) in
          let by : nat_le start.0 step ≡ true = ap (λ (s : Option Step). is_by s step) (sym at) ∙ was in
          le-leb row.step.0 step (omega (arith, leb-false start.0 row.step.0 later, leb-true start.0 step by))
        where
          not_true : (b : Bool) → not b ≡ true → b ≡ false
          not_true true is_ = absurd (false≢true is_)
          not_true false is_ = refl

  here_by : is_by (start_of row.state new) row.step.0 ≡ true
  here_by = ap (λ (s : Option Step). is_by s row.step.0) (one row.state) ∙ by_test (is_by (start_of row.state old) row.step.0) refl
    where
      by_test : (b : Bool) → is_by (start_of row.state old) row.step.0 ≡ b → is_by (if row.state.0 == row.state.0 && not (is_by (start_of row.state old) row.step.0) then Some row.step else start_of row.state old) row.step.0 ≡ true
      by_test true is = rw (is, eq-eqb row.state.0 row.state.0 refl) is
      by_test false isnt = rw (isnt, eq-eqb row.state.0 row.state.0 refl) (le-leb row.step.0 row.step.0 (omega arith))

  pub more_started : (more : List Row) → PutsRow rows row more → AreStarted old rows → AreStarted new more
  more_started more puts are = record {
    by_rows =
        any_more (λ (r : Row). not (is_by (start_of r.state new) r.step.0))
        ∙ or_none _ _ (ap not here_by) (list_any-none (λ (r : Row). not (is_by (start_of r.state new) r.step.0)) rows (λ r there. ap not (still_by r.state r.step.0 (started_by old rows are r there))));
    at_row = λ state step is.
        any_more (λ (r : Row). is_in_state state r && r.step.0 == step)
        ∙ by_test state step (state.0 == row.state.0 && not (is_by (start_of state old) row.step.0)) refl (sym (ap (λ (s : Option Step). is_start s step) (one state)) ∙ is);
  }
    where
      any_more : (test : Row → Bool) → list_any test more ≡ (test row || list_any test rows)
      any_more test = ap (list_any test) puts.is ∙ any_insert test puts.front puts.back row ∙ ap (λ (r : List Row). test row || list_any test r) (sym puts.was)

      by_test : (state : StateId) (step : ℕ) (b : Bool) → (state.0 == row.state.0 && not (is_by (start_of state old) row.step.0)) ≡ b → is_start (if b then Some row.step else start_of state old) step ≡ true
          → (is_in_state state row && row.step.0 == step || list_any (λ (r : Row). is_in_state state r && r.step.0 == step) rows) ≡ true
      by_test state step true now is =
          let same = (and_parts (state.0 == row.state.0) (not (is_by (start_of state old) row.step.0)) now).0 in
          ap (λ b. b || list_any (λ (r : Row). is_in_state state r && r.step.0 == step) rows)
          (and_from (is_in_state state row) (row.step.0 == step) (eq-eqb row.state.0 state.0 (sym (eqb-true state.0 row.state.0 same))) is)
      by_test state step false isnt is = or_right (is_in_state state row && row.step.0 == step) (list_any (λ (r : Row). is_in_state state r && r.step.0 == step) rows) (are.at_row state step is)

-- none has started
pub none_started : AreStarted [] []
none_started = record { by_rows = refl; at_row = λ state step is. absurd (false≢true is) }

-- one document state with one row
pub one_started : (starts : List (StateId × Step)) (row : Row) → starts ≡ (row.state, row.step) ∷ [] → AreStarted starts (row ∷ [])
one_started starts row is =
    subst (λ (s : List (StateId × Step)). AreStarted s (row ∷ [])) (sym is) (record {
      by_rows = or_none _ _ (rw (eq-eqb row.state.0 row.state.0 refl) (ap not (le-leb row.step.0 row.step.0 (omega arith)))) refl;
      at_row = λ state step at. by_test state step (state.0 == row.state.0) refl at;
    })
  where
    by_test : (state : StateId) (step : ℕ) (b : Bool) → (state.0 == row.state.0) ≡ b → is_start (cond (state.0 == row.state.0) (Some row.step) None) step ≡ true → (is_in_state state row && row.step.0 == step || false) ≡ true
    by_test state step true same at =
        ap (λ b. b || false) (and_from (is_in_state state row) (row.step.0 == step) (eq-eqb row.state.0 state.0 (sym (eqb-true state.0 row.state.0 same))) (sym (ap (λ b. is_start (cond b (Some row.step) None) step) same) ∙ at))
    by_test state step false apart at = absurd (false≢true (sym (ap (λ b. is_start (cond b (Some row.step) None) step) apart) ∙ at))

-- where it didn't start by then
pub start_put : (old new : List (StateId × Step)) (state : StateId) (step : Step) → is_by (start_of state old) step.0 ≡ false
    → ((other : StateId) → start_of other new ≡ cond (state.0 == other.0) (Some step) (start_of other old)) → StartsOne old state step new
start_put old new state step isnt put other = put other ∙ ap (λ b. cond b (Some step) (start_of other old)) (eqb_turned state.0 other.0) ∙ by_test (other.0 == state.0) refl
  where
    by_test : (b : Bool) → (other.0 == state.0) ≡ b → cond b (Some step) (start_of other old) ≡ cond (b && not (is_by (start_of other old) step.0)) (Some step) (start_of other old)
    by_test true same =
        sym (ap (λ c. cond (not c) (Some step) (start_of other old)) (ap (λ (s : StateId). is_by (start_of s old) step.0) (state_same other state (eqb-true other.0 state.0 same)) ∙ isnt))
    by_test false apart = refl

-- rows taken in one after the other
pub next_started : (old new : List (StateId × Step)) (rows : List Row) (i : ℕ) (row : Row) → i < length rows → row ≡ get_or rows i row → StartsOne old row.state row.step new → AreStarted old (take i rows) → AreStarted new (take (suc i) rows)
next_started old new rows i row within item one are =
    subst (λ (r : List Row). AreStarted new r) (sym (take-suc rows i row within ∙ ap (λ (r : Row). take i rows ++ r ∷ []) (sym item)))
    (more_started old (take i rows) row new one (take i rows ++ row ∷ []) (record { front = take i rows; back = []; was = sym (append-nil (take i rows)); is = refl }) are)

-- ---- rows go

-- those that start with some rows, and then with others
pub less_and_less : (one two three : List (StateId × Step)) (rows more : List Row) → StartsLess one rows two → StartsLess two more three → StartsLess one (rows ++ more) three
less_and_less one two three rows more first next state =
    next state
    ∙ ap (λ (s : Option Step). cond (starts_with state s more) None s) (first state)
    ∙ by_test (starts_with state (start_of state one) rows) refl
    ∙ ap (λ b. cond b None (start_of state one)) (sym (list_any-append (λ (r : Row). is_in_state state r && is_start (start_of state one) r.step.0) rows more))
  where
    same : (b : Bool) (start : Option Step) → start ≡ None → cond b None start ≡ None
    same true start is = refl
    same false start is = is

    by_test : (b : Bool) → starts_with state (start_of state one) rows ≡ b
        → cond (starts_with state (cond (starts_with state (start_of state one) rows) None (start_of state one)) more) None (cond (starts_with state (start_of state one) rows) None (start_of state one))
        ≡ cond (starts_with state (start_of state one) rows || starts_with state (start_of state one) more) None (start_of state one)
    by_test true is = rw is (same (starts_with state None more) None refl)
    by_test false isnt = rw isnt refl

pub less_none : (starts : List (StateId × Step)) → StartsLess starts [] starts
less_none starts state = refl

-- the rows up to a step stay, and those past it go
module _ (old : List (StateId × Step)) (rows : List Row) (current : ℕ) (new : List (StateId × Step)) (less : StartsLess old (filter (λ (row : Row). not (nat_le row.step.0 current)) rows) new) (are : AreStarted old rows) where
  abbrev past : List Row
  past = filter (λ (row : Row). not (nat_le row.step.0 current)) rows

  abbrev left : List Row
  left = filter (λ (row : Row). nat_le row.step.0 current) rows

  -- what starts by a step that stays isn't gone
  stays_by : (state : StateId) (step : ℕ) → step ≤ current → is_by (start_of state old) step ≡ true → start_of state new ≡ start_of state old
  stays_by state step upto is =
      less state ∙ ap (λ b. if b then None else start_of state old)
      (list_any-none (λ (row : Row). is_in_state state row && is_start (start_of state old) row.step.0) past (λ row there. apart row (IsIn-filter_passes (λ (r : Row). not (nat_le r.step.0 current)) rows row there) (start_of state old) refl))
    where
      apart : (row : Row) → not (nat_le row.step.0 current) ≡ true → (start : Option Step) → start_of state old ≡ start → (is_in_state state row && is_start (start_of state old) row.step.0) ≡ false
      apart row beyond start at = nothing (is_in_state state row) (is_start (start_of state old) row.step.0) (other start at)
        where
          nothing : (a b : Bool) → b ≡ false → (a && b) ≡ false
          nothing true b e = e
          nothing false b e = refl

          not_upto : nat_le row.step.0 current ≡ false
          not_upto = by_b (nat_le row.step.0 current) beyond
            where
              by_b : (b : Bool) → not b ≡ true → b ≡ false
              by_b true e = absurd (false≢true e)
              by_b false e = refl

          other : (start : Option Step) → start_of state old ≡ start → is_start (start_of state old) row.step.0 ≡ false
          other None at_ = ap (λ (s : Option Step). is_start s row.step.0) at_
          other (Some start) at_ =
              let by : nat_le start.0 step ≡ true = ap (λ (s : Option Step). is_by s step) (sym at_) ∙ is in
              ap (λ (s : Option Step). is_start s row.step.0) at_
              ∙ ne_eqb start.0 row.step.0 (λ same. omega (arith, same, upto, leb-true start.0 step by, leb-false row.step.0 current not_upto))

  pub left_started : AreStarted new left
  left_started = record {
    by_rows = list_any-none (λ (row : Row). not (is_by (start_of row.state new) row.step.0)) left (λ row there.
        let was = started_by old rows are row (IsIn-filter (λ (r : Row). nat_le r.step.0 current) rows row there) in
        let upto = leb-true row.step.0 current (IsIn-filter_passes (λ (r : Row). nat_le r.step.0 current) rows row there) in
        ap not (ap (λ (s : Option Step). is_by s row.step.0) (stays_by row.state row.step.0 upto was) ∙ was));
    at_row = λ state step is. by_test state step is (starts_with state (start_of state old) past) refl;
  }
    where
      by_test : (state : StateId) (step : ℕ) → is_start (start_of state new) step ≡ true → (b : Bool) → starts_with state (start_of state old) past ≡ b → list_any (λ (row : Row). is_in_state state row && row.step.0 == step) left ≡ true
      by_test state step is true gone =
          absurd (false≢true (ap (λ (s : Option Step). is_start s step) (sym (less state ∙ ap (λ b. if b then None else start_of state old) gone)) ∙ is))
      by_test state step is false stays =
          let same : start_of state new ≡ start_of state old = less state ∙ ap (λ b. if b then None else start_of state old) stays in
          let w = witness (λ (row : Row). is_in_state state row && row.step.0 == step) rows (are.at_row state step (ap (λ (s : Option Step). is_start s step) (sym same) ∙ is)) in
          IsIn-into_filter (λ (r : Row). nat_le r.step.0 current) rows w.it w.is_in (upto w.it w.is_in w.passes (nat_le w.it.step.0 current) refl) (λ (row : Row). is_in_state state row && row.step.0 == step) w.passes
        where
          upto : (row : Row) → IsIn rows row → (is_in_state state row && row.step.0 == step) ≡ true → (b : Bool) → nat_le row.step.0 current ≡ b → nat_le row.step.0 current ≡ true
          upto row there passes true in_ = in_
          upto row there passes false beyond =
              let both = and_parts (is_in_state state row) (row.step.0 == step) passes in
              let same : start_of state new ≡ start_of state old = less state ∙ ap (λ b. if b then None else start_of state old) stays in
              let starts_here : is_start (start_of state old) row.step.0 ≡ true =
              ap (λ n. is_start (start_of state old) n) (eqb-true row.step.0 step both.1) ∙ ap (λ (s : Option Step). is_start s step) (sym same) ∙ is in
              absurd (false≢true (
              sym (none_passes (λ (r : Row). is_in_state state r && is_start (start_of state old) r.step.0) past stays row
              (IsIn-into_filter (λ (r : Row). not (nat_le r.step.0 current)) rows row there (ap not beyond)))
              ∙ and_from (is_in_state state row) (is_start (start_of state old) row.step.0) both.0 starts_here))

-- ---- one row goes

-- the later step is that of the document state's first row, if there is one
pub record IsFirst (state : StateId) (later : Option Step) (rows : List Row) : Type 0 where
  pub by_rows : list_any (λ (row : Row). is_in_state state row && not (is_by later row.step.0)) rows ≡ false
  pub at_row : (step : ℕ) → is_start later step ≡ true → list_any (λ (row : Row). is_in_state state row && row.step.0 == step) rows ≡ true

state_is : (state other : StateId) → (other.0 == state.0) ≡ true → other ≡ state
state_is state other same = state_same other state (eqb-true other.0 state.0 same)

goes_started : (old new : List (StateId × Step)) (front back : List Row) (was : Row) (later : Option Step) → AreStarted old (front ++ was ∷ back) → StartsAnew old was.state was.step later new
    → (is_start (start_of was.state old) was.step.0 ≡ true → IsFirst was.state later (front ++ back)) → AreStarted new (front ++ back)
goes_started old new front back was later are anew first = record {
  by_rows = list_any-none (λ (row : Row). not (is_by (start_of row.state new) row.step.0)) (front ++ back) (λ row there. ap not (by_moved row there (row.state.0 == was.state.0 && is_start (start_of row.state old) was.step.0) refl));
  at_row = λ state step is. at_moved state step (sym (ap (λ (s : Option Step). is_start s step) (anew state)) ∙ is) (state.0 == was.state.0 && is_start (start_of state old) was.step.0) refl;
}
  where
    here : (state : StateId) → (state.0 == was.state.0 && is_start (start_of state old) was.step.0) ≡ true → IsFirst was.state later (front ++ back)
    here state moved =
        let both = and_parts (state.0 == was.state.0) (is_start (start_of state old) was.step.0) moved in
        first (ap (λ (s : StateId). is_start (start_of s old) was.step.0) (sym (state_is was.state state both.0)) ∙ both.1)

    by_moved : (row : Row) → IsIn (front ++ back) row → (b : Bool) → (row.state.0 == was.state.0 && is_start (start_of row.state old) was.step.0) ≡ b → is_by (start_of row.state new) row.step.0 ≡ true
    by_moved row there true moved =
        let both = and_parts (row.state.0 == was.state.0) (is_start (start_of row.state old) was.step.0) moved in
        let none = none_passes (λ (r : Row). is_in_state was.state r && not (is_by later r.step.0)) (front ++ back) (here row.state moved).by_rows row there in
        ap (λ (s : Option Step). is_by s row.step.0) (anew row.state ∙ ap (λ b. cond b later (start_of row.state old)) moved)
        ∙ was_not (is_by later row.step.0) (sym (ap (λ b. b && not (is_by later row.step.0)) both.0) ∙ none)
    by_moved row there false stays =
        ap (λ (s : Option Step). is_by s row.step.0) (anew row.state ∙ ap (λ b. cond b later (start_of row.state old)) stays)
        ∙ started_by old (front ++ was ∷ back) are row (λ test passes. any_insert test front back was ∙ or_right (test was) (list_any test (front ++ back)) (there test passes))

    at_moved : (state : StateId) (step : ℕ) → is_start (cond (state.0 == was.state.0 && is_start (start_of state old) was.step.0) later (start_of state old)) step ≡ true
        → (b : Bool) → (state.0 == was.state.0 && is_start (start_of state old) was.step.0) ≡ b → list_any (λ (row : Row). is_in_state state row && row.step.0 == step) (front ++ back) ≡ true
    at_moved state step is true moved =
        let both = and_parts (state.0 == was.state.0) (is_start (start_of state old) was.step.0) moved in
        subst (λ (s : StateId). list_any (λ (row : Row). is_in_state s row && row.step.0 == step) (front ++ back) ≡ true) (sym (state_is was.state state both.0))
        ((here state moved).at_row step (sym (ap (λ b. is_start (cond b later (start_of state old)) step) moved) ∙ is))
    at_moved state step is false stays =
        let at : is_start (start_of state old) step ≡ true = sym (ap (λ b. is_start (cond b later (start_of state old)) step) stays) ∙ is in
        elim (or_cases (is_in_state state was && was.step.0 == step) (list_any (λ (row : Row). is_in_state state row && row.step.0 == step) (front ++ back)) (sym (any_insert (λ (row : Row). is_in_state state row && row.step.0 == step) front back was) ∙ are.at_row state step at)) [
          | inl mine ↦
              let both = and_parts (is_in_state state was) (was.step.0 == step) mine in
              absurd (false≢true (
              sym stays
              ∙ and_from (state.0 == was.state.0) (is_start (start_of state old) was.step.0) (eq-eqb state.0 was.state.0 (sym (eqb-true was.state.0 state.0 both.0))) (ap (is_start (start_of state old)) (eqb-true was.step.0 step both.1) ∙ at)))
          | inr others ↦ others
        ]

-- among rows that ascend, the first of a document state stands before its others
first_by : (state : StateId) (rows : List Row) → IsAscending step_of rows → list_any (λ (row : Row). is_in_state state row && not (is_by (option_map (λ (r : Row). r.step) (find (is_in_state state) rows)) row.step.0)) rows ≡ false
first_by state [] sorted = refl
first_by state (row ∷ rows) sorted = by_state (first_by state rows sorted.1) (is_in_state state row) refl
  where
    by_state : list_any (λ (r : Row). is_in_state state r && not (is_by (option_map (λ (x : Row). x.step) (find (is_in_state state) rows)) r.step.0)) rows ≡ false
        → (b : Bool) → is_in_state state row ≡ b → list_any (λ (r : Row). is_in_state state r && not (is_by (option_map (λ (x : Row). x.step) (find (is_in_state state) (row ∷ rows))) r.step.0)) (row ∷ rows) ≡ false
    by_state rest true is =
        ap (λ b. list_any (λ (r : Row). is_in_state state r && not (is_by (option_map (λ (x : Row). x.step) (cond b (Some row) (find (is_in_state state) rows))) r.step.0)) (row ∷ rows)) is
        ∙ list_any-none (λ (r : Row). is_in_state state r && not (nat_le row.step.0 r.step.0)) (row ∷ rows) (λ r there.
        nothing (is_in_state state r) (not (nat_le row.step.0 r.step.0)) (ap not (later r there)))
      where
        nothing : (a b : Bool) → b ≡ false → (a && b) ≡ false
        nothing true b e = e
        nothing false b e = refl

        later : (r : Row) → IsIn (row ∷ rows) r → nat_le row.step.0 r.step.0 ≡ true
        later r there =
            was_not (nat_le row.step.0 r.step.0)
            (none_passes (λ (x : Row). not (nat_le row.step.0 x.step.0)) (row ∷ rows)
            (or_none _ _ (ap not (le-leb row.step.0 row.step.0 (omega arith)))
            (list_any-none (λ (x : Row). not (nat_le row.step.0 x.step.0)) rows (λ x in_.
            ap not (le-leb row.step.0 x.step.0 (omega (arith, leb-false x.step.0 row.step.0 (none_passes (λ (y : Row). nat_le y.step.0 row.step.0) rows sorted.0 x in_)))))))
            r there)
    by_state rest false isnt =
        ap (λ b. list_any (λ (r : Row). is_in_state state r && not (is_by (option_map (λ (x : Row). x.step) (cond b (Some row) (find (is_in_state state) rows))) r.step.0)) (row ∷ rows)) isnt
        ∙ or_none _ _ (ap (λ b. b && not (is_by (option_map (λ (x : Row). x.step) (find (is_in_state state) rows)) row.step.0)) isnt) rest

-- it is one of them
first_at : (state : StateId) (rows : List Row) (step : ℕ) → is_start (option_map (λ (r : Row). r.step) (find (is_in_state state) rows)) step ≡ true → list_any (λ (row : Row). is_in_state state row && row.step.0 == step) rows ≡ true
first_at state rows step is = by_found (find (is_in_state state) rows) refl
  where
    by_found : (search : Option Row) → find (is_in_state state) rows ≡ search → list_any (λ (row : Row). is_in_state state row && row.step.0 == step) rows ≡ true
    by_found None none = absurd (false≢true (ap (λ (s : Option Row). is_start (option_map (λ (r : Row). r.step) s) step) (sym none) ∙ is))
    by_found (Some row) at =
        let it = found (is_in_state state) rows row at in
        it.is_in (λ (r : Row). is_in_state state r && r.step.0 == step) (and_from (is_in_state state row) (row.step.0 == step) it.passes (ap (λ (s : Option Row). is_start (option_map (λ (r : Row). r.step) s) step) (sym at) ∙ is))

-- ---- one row in the place of another

module _ (history : History) (sound : IsSound history) (front back : List Row) (was row : Row) (rows_are : history.rows ≡ front ++ was ∷ back) (before after : List Row) (own : filter (is_of was.nav) history.rows ≡ before ++ was ∷ after) (sorted : IsAscending step_of (before ++ was ∷ after)) (step_is : row.step.0 ≡ was.step.0) (old new : List (StateId × Step)) (are : AreStarted old history.rows) (over : StartsOver old row was (row ∷ after) new) where
  abbrev later : Option Step
  later = option_map (λ (r : Row). r.step) (find (is_in_state was.state) (row ∷ after))

  -- the rows with both
  both_rows : AreStarted over.between ((front ++ row ∷ []) ++ was ∷ back)
  both_rows =
      subst (λ (rows : List Row). AreStarted over.between rows) (sym (append_assoc front (row ∷ []) (was ∷ back)))
      (more_started old history.rows row over.between over.comes (front ++ row ∷ was ∷ back) (record { front = front; back = was ∷ back; was = rows_are; is = refl }) are)

  -- what passes past its step
  abbrev past_it_ : (Row → Bool) → Row → Bool
  past_it_ test r = nat_lt was.step.0 r.step.0 && test r

  none_before : (xs : List Row) → IsAscending step_of (xs ++ was ∷ after) → (test : Row → Bool) → list_any (past_it_ test) xs ≡ false
  none_before [] up test = refl
  none_before (x ∷ xs) up test =
      let lower : x.step.0 < was.step.0 = leb-false was.step.0 x.step.0 (none_passes (λ (o : Row). nat_le o.step.0 x.step.0) (xs ++ was ∷ after) up.0 was (λ t passes. list_any-append t xs (was ∷ after) ∙ or_right (list_any t xs) (list_any t (was ∷ after)) (IsIn-head after was t passes))) in
      or_none _ _ (ap (λ b. b && test x) (le-ltb was.step.0 x.step.0 (omega (arith, lower)))) (none_before xs up.1 test)

  -- is found behind it in its track
  all_behind : (test : Row → Bool) → list_any (λ (r : Row). is_of was.nav r && past_it_ test r) history.rows ≡ list_any (past_it_ test) after
  all_behind test =
      sym (list_any-filter (past_it_ test) (is_of was.nav) history.rows)
      ∙ ap (list_any (past_it_ test)) own
      ∙ list_any-append (past_it_ test) before (was ∷ after)
      ∙ ap (λ b. b || list_any (past_it_ test) (was ∷ after)) (none_before before sorted test)
      ∙ ap (λ b. (b && test was) || list_any (past_it_ test) after) (le-ltb was.step.0 was.step.0 (omega arith))

  ascends : (xs : List Row) → IsAscending step_of (xs ++ was ∷ after) → IsAscending step_of (row ∷ after)
  ascends [] up = (ap (λ n. list_any (λ (o : Row). nat_le o.step.0 n) after) step_is ∙ up.0, up.1)
  ascends (x ∷ xs) up = ascends xs up.1

  up : IsAscending step_of (row ∷ after)
  up = ascends before sorted

  -- no other row has its place
  apart : list_any (stands_at was.nav was.step.0) (front ++ back) ≡ false
  apart =
      list_any-zero (stands_at was.nav was.step.0) (front ++ back)
      (omega (
        arith,
        sound.steps was.nav was.step.0,
        ap (count_by (stands_at was.nav was.step.0)) rows_are,
        (AddsRow-insert front back was).count (stands_at was.nav was.step.0),
        ap {B = ℕ} (λ b. cond b 1 0) (and_from (is_of was.nav was) (was.step.0 == was.step.0) (eq-eqb was.nav.0 was.nav.0 refl) (eq-eqb was.step.0 was.step.0 refl)),
      ))

  in_all : (r : Row) → IsIn (front ++ back) r → IsIn history.rows r
  in_all r there test passes = ap (list_any test) rows_are ∙ any_insert test front back was ∙ or_right (test was) (list_any test (front ++ back)) (there test passes)

  was_in : IsIn history.rows was
  was_in test passes = ap (list_any test) rows_are ∙ any_insert test front back was ∙ ap (λ b. b || list_any test (front ++ back)) passes

  -- another row of its document state stands behind it, where that starts with it
  behind : is_start (start_of was.state over.between) was.step.0 ≡ true → (r : Row) → IsIn (front ++ back) r → is_in_state was.state r ≡ true → (is_of was.nav r ≡ true) × (nat_lt was.step.0 r.step.0 ≡ true)
  behind start r there is = (mine, lt-ltb was.step.0 r.step.0 (less (leb-true was.step.0 r.step.0 from) other))
    where
      state_same_ : r.state ≡ was.state
      state_same_ = state_same r.state was.state (eqb-true r.state.0 was.state.0 is)

      mine : is_of was.nav r ≡ true
      mine =
          eq-eqb r.nav.0 was.nav.0
          (sound.rooted.states was.state r.nav was.nav
          (subst (λ (s : StateId). holds r.nav s history.rows ≡ true) state_same_ (held history.rows sound.rooted r (in_all r there)))
          (held history.rows sound.rooted was was_in))

      from : nat_le was.step.0 r.step.0 ≡ true
      from =
          by_start (start_of was.state over.between) refl
        where
          by_start : (s : Option Step) → start_of was.state over.between ≡ s → nat_le was.step.0 r.step.0 ≡ true
          by_start None none = absurd (false≢true (ap (λ (s : Option Step). is_start s was.step.0) (sym none) ∙ start))
          by_start (Some s) at =
              let here : s.0 ≡ was.step.0 = eqb-true s.0 was.step.0 (ap (λ (x : Option Step). is_start x was.step.0) (sym at) ∙ start) in
              ap (λ n. nat_le n r.step.0) (sym here)
              ∙ ap (λ (x : Option Step). is_by x r.step.0) (sym at)
              ∙ ap (λ (x : StateId). is_by (start_of x over.between) r.step.0) (sym state_same_)
              ∙ started_by over.between ((front ++ row ∷ []) ++ was ∷ back) both_rows r (λ test passes.
              any_insert test (front ++ row ∷ []) back was
              ∙ or_right (test was) (list_any test ((front ++ row ∷ []) ++ back))
              (ap (list_any test) (append_assoc front (row ∷ []) back) ∙ any_insert test front back row ∙ or_right (test row) (list_any test (front ++ back)) (there test passes)))

      other : was.step.0 ≢ r.step.0
      other same = false≢true (sym (none_passes (stands_at was.nav was.step.0) (front ++ back) apart r there) ∙ and_from (is_of was.nav r) (r.step.0 == was.step.0) mine (eq-eqb r.step.0 was.step.0 (sym same)))

      less : was.step.0 ≤ r.step.0 → was.step.0 ≢ r.step.0 → was.step.0 < r.step.0
      less upto isnt = grind (arith, upto, isnt)

  abbrev late : Row → Bool
  late r = is_in_state was.state r && not (is_by later r.step.0)

  abbrev stands : ℕ → Row → Bool
  stands step r = is_in_state was.state r && r.step.0 == step

  first_there : is_start (start_of was.state over.between) was.step.0 ≡ true → IsFirst was.state later (front ++ row ∷ back)
  first_there start = record {
    by_rows =
        any_insert (λ (r : Row). is_in_state was.state r && not (is_by later r.step.0)) front back row
        ∙ or_none _ _ none.0 (list_any-none (λ (r : Row). is_in_state was.state r && not (is_by later r.step.0)) (front ++ back) (λ r there. by_state r there (is_in_state was.state r) refl));
    at_row = λ step is. found_at step (first_at was.state (row ∷ after) step is);
  }
    where
      none : ((is_in_state was.state row && not (is_by later row.step.0)) ≡ false) × (list_any (λ (r : Row). is_in_state was.state r && not (is_by later r.step.0)) after ≡ false)
      none = or_parts (is_in_state was.state row && not (is_by later row.step.0)) (list_any (λ (r : Row). is_in_state was.state r && not (is_by later r.step.0)) after) (first_by was.state (row ∷ after) up)

      nothing : (a b : Bool) → b ≡ false → (a && b) ≡ false
      nothing true b e = e
      nothing false b e = refl

      none_late : list_any (past_it_ late) after ≡ false
      none_late = list_any-none (past_it_ late) after (λ x in_. nothing (nat_lt was.step.0 x.step.0) (late x) (none_passes late after none.1 x in_))

      by_state : (r : Row) → IsIn (front ++ back) r → (b : Bool) → is_in_state was.state r ≡ b → late r ≡ false
      by_state r there false isnt = ap (λ b. b && not (is_by later r.step.0)) isnt
      by_state r there true is =
          let place = behind start r there is in
          elim (cases_Bool (late r)) [
            | inl passes ↦
                absurd (false≢true (
                sym none_late ∙ sym (all_behind late)
                ∙ in_all r there (λ (x : Row). is_of was.nav x && past_it_ late x) (and_from (is_of was.nav r) (past_it_ late r) place.0 (and_from (nat_lt was.step.0 r.step.0) (late r) place.1 passes))))
            | inr fails ↦ fails
          ]

      found_at : (step : ℕ) → list_any (stands step) (row ∷ after) ≡ true → list_any (stands step) (front ++ row ∷ back) ≡ true
      found_at step any =
          any_insert (stands step) front back row
          ∙ elim (or_cases (stands step row) (list_any (stands step) after) any) [
            | inl mine ↦ ap (λ b. b || list_any (stands step) (front ++ back)) mine
            | inr there ↦ or_right (stands step row) (list_any (stands step) (front ++ back)) (from_after there)
          ]
        where
          past_all_ : list_any (stands step) after ≡ true → list_any (past_it_ (stands step)) after ≡ true
          past_all_ = list_any-weaker (stands step) (past_it_ (stands step)) after (λ x in_ passes.
              and_from (nat_lt was.step.0 x.step.0) (stands step x)
              (lt-ltb was.step.0 x.step.0 (omega (arith, step_is, leb-false x.step.0 row.step.0 (none_passes (λ (o : Row). nat_le o.step.0 row.step.0) after up.0 x in_)))) passes)

          from_after : list_any (stands step) after ≡ true → list_any (stands step) (front ++ back) ≡ true
          from_after there =
              list_any-weaker (λ (r : Row). is_of was.nav r && past_it_ (stands step) r) (stands step) (front ++ back)
              (λ x in_ both. (and_parts (nat_lt was.step.0 x.step.0) (stands step x) (and_parts (is_of was.nav x) (past_it_ (stands step) x) both).1).1)
              (sym (ap (λ b. b || list_any (λ (r : Row). is_of was.nav r && past_it_ (stands step) r) (front ++ back)) (nothing (is_of was.nav was) (past_it_ (stands step) was) (ap (λ b. b && stands step was) (le-ltb was.step.0 was.step.0 (omega arith)))))
              ∙ sym (any_insert (λ (r : Row). is_of was.nav r && past_it_ (stands step) r) front back was)
              ∙ ap (list_any (λ (r : Row). is_of was.nav r && past_it_ (stands step) r)) (sym rows_are)
              ∙ all_behind (stands step) ∙ past_all_ there)

  pub over_started : AreStarted new (front ++ row ∷ back)
  over_started =
      subst (λ (rows : List Row). AreStarted new rows) (append_assoc front (row ∷ []) back)
      (goes_started over.between new (front ++ row ∷ []) back was later both_rows over.goes (λ start.
      subst (λ (rows : List Row). IsFirst was.state later rows) (sym (append_assoc front (row ∷ []) back)) (first_there start)))
