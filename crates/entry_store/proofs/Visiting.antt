-- A pass along the rows, which takes in the document states that stay: it ends, and with exactly those.
use Rattle.std.proofs.Common.{◌≡◌, ◌<◌, ◌≤◌, Bool, true, false, not, ◌&&◌, ◌||◌, cond, List, [], ◌∷◌, ◌++◌, length, refl, ap, sym, ◌∙◌, filter, fold, arith, inl, inr, Option, Some, None, length-append}
use Rattle.std.specs.List.{list_any, count_by}
use Rattle.std.specs.Option.{option_map_or}
use Rattle.std.proofs.lemmas.Bool.{cases_Bool, or_cases, false≢true, not-true, and_parts, and_from, eqb-true, eq-eqb}
use Rattle.std.proofs.lemmas.List.Sums.{sum_by-cons}
use Rattle.std.proofs.lemmas.List.Folds.{list_any-append}
use Rattle.tab_ids.specs.declared.StateId.{StateId}
use Rattle.log_model.specs.declared.row.Row.{Row}
use Rattle.log_model.specs.History.{has_state}
use Rattle.log_model.specs.Soundness.{is_in_state}
use Rattle.history_laws.proofs.Members.{or_right, or_none, IsIn, IsIn-head, IsIn-tail, IsIn-filter, IsIn-filter_passes, IsIn-into_filter, witness, list_any-none}
use Rattle.history_laws.proofs.Tidying.{state_same}
use Rattle.entry_store.specs.declared.cut.Cut.{Cut}
use Rattle.entry_store.specs.Nested.{outlives, has, is_held_by, stays, visit, AreHeld, AreSupported, missing}

-- ---- a list of document states, and one with one more

has-push : (states : List StateId) (more state : StateId) → has (states ++ more ∷ []) state ≡ (has states state || (lib.Dec.eqb state.0 more.0 || false))
has-push states more state = list_any-append (λ (other : StateId). lib.Dec.eqb state.0 other.0) states (more ∷ [])

has-kept : (states : List StateId) (more state : StateId) → has states state ≡ true → has (states ++ more ∷ []) state ≡ true
has-kept states more state there = rw (has-push states more state, there) refl

has-new : (states : List StateId) (more : StateId) → has (states ++ more ∷ []) more ≡ true
has-new states more = rw (has-push states more more, eq-eqb more.0 more.0 refl) (or_right (has states more) true refl)

held-kept : (states : List StateId) (more : StateId) (row : Row) → is_held_by states row ≡ true → is_held_by (states ++ more ∷ []) row ≡ true
held-kept states more row held = by_owner row.owner held
  where
    by_owner : (owner : Option StateId) → option_map_or (has states) owner true ≡ true → option_map_or (has (states ++ more ∷ [])) owner true ≡ true
    by_owner None is = refl
    by_owner (Some owner) is = has-kept states more owner is

-- ---- one visit

-- it takes in nothing, or the document state of a row that stays
pub data Visited (cut : Cut) (states : List StateId) (row : Row) : Type 0 where
  same : visit cut states row ≡ states → (stays cut states row ≡ true → has states row.state ≡ true) → Visited cut states row
  grown : visit cut states row ≡ states ++ row.state ∷ [] → stays cut states row ≡ true → has states row.state ≡ false → Visited cut states row

pub visited : (cut : Cut) (states : List StateId) (row : Row) → Visited cut states row
visited cut states row =
    elim (cases_Bool (stays cut states row)) [
      | inr goes ↦ same (rw goes refl) (λ it_stays. absurd (false≢true (sym goes ∙ it_stays)))
      | inl it_stays ↦
          elim (cases_Bool (has states row.state)) [
            | inl there ↦ same (rw (it_stays, there) refl) (λ _. there)
            | inr new ↦ grown (rw (it_stays, new) refl) it_stays new
          ]
    ]

-- ---- a pass gets longer and has less to find, or changes nothing

one_weaker : (a b : Bool) → (a ≡ true → b ≡ true) → cond a 1 0 ≤ cond b 1 0
one_weaker true b weaker = rw (weaker refl) (omega arith)
one_weaker false true weaker = omega arith
one_weaker false false weaker = omega arith

count_by-weaker : {A : Type 0} (p q : A → Bool) (xs : List A) → ((x : A) → p x ≡ true → q x ≡ true) → count_by p xs ≤ count_by q xs
count_by-weaker p q [] weaker = omega arith
count_by-weaker p q (x ∷ xs) weaker =
    omega (arith, count_by-weaker p q xs weaker, one_weaker (p x) (q x) (weaker x), sum_by-cons (λ y. cond (p y) 1 0) x xs, sum_by-cons (λ y. cond (q y) 1 0) x xs)

one_fewer : (a b : Bool) → (b && not a) ≡ true → cond a 1 0 < cond b 1 0
one_fewer true true both = absurd (false≢true both)
one_fewer false true both = omega arith
one_fewer a false both = absurd (false≢true both)

count_by-fewer : {A : Type 0} (p q : A → Bool) (xs : List A) → ((x : A) → p x ≡ true → q x ≡ true) → list_any (λ x. q x && not (p x)) xs ≡ true → count_by p xs < count_by q xs
count_by-fewer p q [] weaker one = absurd (false≢true one)
count_by-fewer p q (x ∷ xs) weaker one =
    elim (or_cases (q x && not (p x)) (list_any (λ y. q y && not (p y)) xs) one) [
      | inl here ↦ omega (arith, count_by-weaker p q xs weaker, one_fewer (p x) (q x) here, sum_by-cons (λ y. cond (p y) 1 0) x xs, sum_by-cons (λ y. cond (q y) 1 0) x xs)
      | inr there ↦ omega (arith, count_by-fewer p q xs weaker there, one_weaker (p x) (q x) (weaker x), sum_by-cons (λ y. cond (p y) 1 0) x xs, sum_by-cons (λ y. cond (q y) 1 0) x xs)
    ]

lacks-kept : (states : List StateId) (more : StateId) (row : Row) → not (has (states ++ more ∷ []) row.state) ≡ true → not (has states row.state) ≡ true
lacks-kept states more row lacks =
    elim (cases_Bool (has states row.state)) [
      | inl there ↦ absurd (false≢true (sym (not-true (has (states ++ more ∷ []) row.state) lacks) ∙ has-kept states more row.state there))
      | inr new ↦ ap not new
    ]

missing-new : (states : List StateId) (row : Row) (rows : List Row) → has states row.state ≡ false → IsIn rows row → missing (states ++ row.state ∷ []) rows < missing states rows
missing-new states row rows new there =
    count_by-fewer (λ (r : Row). not (has (states ++ row.state ∷ []) r.state)) (λ (r : Row). not (has states r.state)) rows (lacks-kept states row.state)
    (there (λ (r : Row). not (has states r.state) && not (not (has (states ++ row.state ∷ []) r.state))) (and_from _ _ (ap not new) (ap (λ b. not (not b)) (has-new states row.state))))

pub data Passed (cut : Cut) (rows : List Row) (states result : List StateId) : Type 0 where
  same : result ≡ states → Passed cut rows states result
  grown : length states < length result → missing result rows < missing states rows → Passed cut rows states result

-- a first step, and what follows it
grown_then : (cut : Cut) (rows : List Row) (states next result : List StateId) → length states < length next → missing next rows < missing states rows → Passed cut rows next result → Passed cut rows states result
grown_then cut rows states next result longer fewer (same is) = rw is (grown longer fewer)
grown_then cut rows states next result longer fewer (grown longer_on fewer_on) = grown (omega (arith, longer, longer_on)) (omega (arith, fewer, fewer_on))

pub passed : (cut : Cut) (rows rest : List Row) (states : List StateId) → ((row : Row) → IsIn rest row → IsIn rows row) → Passed cut rows states (fold (visit cut) states rest)
passed cut rows [] states part = same refl
passed cut rows (row ∷ rest) states part =
    elim (visited cut states row) [
      | same is _ ↦ rw is (passed cut rows rest states (λ r there. part r (IsIn-tail rest row r there)))
      | grown is it_stays new ↦
          let next = states ++ row.state ∷ [] in
          rw is (grown_then cut rows states next (fold (visit cut) next rest)
          (omega (arith, length-append states (row.state ∷ [])))
          (missing-new states row rows new (part row (IsIn-head rest row)))
          (passed cut rows rest next (λ r there. part r (IsIn-tail rest row r there))))
    ]

no_shorter : (cut : Cut) (rows : List Row) (states : List StateId) (state : StateId) (result : List StateId) → Passed cut rows (states ++ state ∷ []) result → result ≡ states → ⊥
no_shorter cut rows states state result (same is) ends =
    omega (arith, length-append states (state ∷ []), ap (length {A = StateId}) (sym is ∙ ends))
no_shorter cut rows states state result (grown longer fewer) ends =
    omega (arith, longer, length-append states (state ∷ []), ap (length {A = StateId}) ends)

-- a pass that changes nothing has taken in all that stay
none_left : (cut : Cut) (rest : List Row) (states : List StateId) → fold (visit cut) states rest ≡ states → list_any (λ row. stays cut states row && not (has states row.state)) rest ≡ false
none_left cut [] states ends = refl
none_left cut (row ∷ rest) states ends =
    elim (visited cut states row) [
      | same is there ↦
          or_none _ _ (not_both (stays cut states row) (has states row.state) there) (none_left cut rest states (ap (λ next. fold (visit cut) next rest) (sym is) ∙ ends))
      | grown is it_stays new ↦
          absurd (no_shorter cut rest states row.state _ (passed cut rest rest (states ++ row.state ∷ []) (λ r there. there)) (ap (λ next. fold (visit cut) next rest) (sym is) ∙ ends))
    ]
  where
    not_both : (a b : Bool) → (a ≡ true → b ≡ true) → (a && not b) ≡ false
    not_both true b both = ap not (both refl)
    not_both false b both = refl

-- ---- what is taken in hangs on what was

module _ (cut : Cut) (rows : List Row) where
  supported-visit : (states : List StateId) (row : Row) → IsIn rows row → AreSupported states (filter (outlives cut) rows) → AreSupported (visit cut states row) (filter (outlives cut) rows)
  supported-visit states row there supported state =
      elim (visited cut states row) [
        | same is _ ↦ rw is (supported state)
        | grown is it_stays new ↦ rw is (by_cases it_stays)
      ]
    where
      left : List Row
      left = filter (outlives cut) rows

      by_cases : stays cut states row ≡ true → has (states ++ row.state ∷ []) state ≡ true → has_state state (filter (is_held_by (states ++ row.state ∷ [])) (filter (outlives cut) rows)) ≡ true
      by_cases it_stays any =
          elim (or_cases (has states state) (lib.Dec.eqb state.0 row.state.0 || false) (sym (has-push states row.state state) ∙ any)) [
            | inl before ↦
                let w = witness (is_in_state state) (filter (is_held_by states) (filter (outlives cut) rows)) (supported state before) in
                let outlived = IsIn-filter (is_held_by states) (filter (outlives cut) rows) w.it w.is_in in
                let held = IsIn-filter_passes (is_held_by states) (filter (outlives cut) rows) w.it w.is_in in
                IsIn-into_filter (is_held_by (states ++ row.state ∷ [])) (filter (outlives cut) rows) w.it outlived (held-kept states row.state w.it held) (is_in_state state) w.passes
            | inr here ↦
                elim (or_cases (lib.Dec.eqb state.0 row.state.0) false here) [
                  | inl equal ↦
                      let both = and_parts (outlives cut row) (is_held_by states row) it_stays in
                      let outlived = IsIn-into_filter (outlives cut) rows row there both.0 in
                      IsIn-into_filter (is_held_by (states ++ row.state ∷ [])) (filter (outlives cut) rows) row outlived (held-kept states row.state row both.1) (is_in_state state) (eq-eqb row.state.0 state.0 (sym (eqb-true state.0 row.state.0 equal)))
                  | inr never ↦ absurd (false≢true never)
                ]
          ]

  pub supported-pass : (rest : List Row) (states : List StateId) → ((row : Row) → IsIn rest row → IsIn rows row) → AreSupported states (filter (outlives cut) rows) → AreSupported (fold (visit cut) states rest) (filter (outlives cut) rows)
  supported-pass [] states part supported = supported
  supported-pass (row ∷ rest) states part supported =
      supported-pass rest (visit cut states row) (λ r there. part r (IsIn-tail rest row r there)) (supported-visit states row (part row (IsIn-head rest row)) supported)

  -- where a pass changes nothing, they are exactly those that stay
  pub AreHeld-pass : (states : List StateId) → AreSupported states (filter (outlives cut) rows) → fold (visit cut) states rows ≡ states → AreHeld states (filter (outlives cut) rows)
  AreHeld-pass states supported ends state =
      elim (cases_Bool (has states state)) [
        | inl there ↦ there ∙ sym (supported state there)
        | inr none ↦ none ∙ sym (list_any-none (is_in_state state) (filter (is_held_by states) (filter (outlives cut) rows)) (not_held none))
      ]
    where
      not_held : has states state ≡ false → (row : Row) → IsIn (filter (is_held_by states) (filter (outlives cut) rows)) row → is_in_state state row ≡ false
      not_held none row kept =
          elim (cases_Bool (is_in_state state row)) [
            | inr isnt ↦ isnt
            | inl is ↦
                let outlived = IsIn-filter (is_held_by states) (filter (outlives cut) rows) row kept in
                let held = IsIn-filter_passes (is_held_by states) (filter (outlives cut) rows) row kept in
                let there = IsIn-filter (outlives cut) rows row outlived in
                let it_stays = and_from (outlives cut row) (is_held_by states row) (IsIn-filter_passes (outlives cut) rows row outlived) held in
                let lacks : has states row.state ≡ false = rw (state_same row.state state (eqb-true row.state.0 state.0 is)) none in
                absurd (false≢true (sym (none_left cut rows states ends) ∙ there (λ r. stays cut states r && not (has states r.state)) (and_from _ _ it_stays (ap not lacks))))
          ]

-- ---- a round of the loop

pub round_ends : (cut : Cut) (rows : List Row) (states result : List StateId) → result ≡ fold (visit cut) states rows → length result ≡ length states → result ≡ states
round_ends cut rows states result is long = by_pass (passed cut rows rows states (λ r there. there))
  where
    by_pass : Passed cut rows states (fold (visit cut) states rows) → result ≡ states
    by_pass (same ends) = is ∙ ends
    by_pass (grown longer fewer) = absurd (omega (arith, longer, long, ap (length {A = StateId}) is))

pub round_gains : (cut : Cut) (rows : List Row) (states result : List StateId) → result ≡ fold (visit cut) states rows → (length result ≡ length states → ⊥) → missing result rows < missing states rows
round_gains cut rows states result is long = by_pass (passed cut rows rows states (λ r there. there))
  where
    by_pass : Passed cut rows states (fold (visit cut) states rows) → missing result rows < missing states rows
    by_pass (same ends) = absurd (long (ap (length {A = StateId}) (is ∙ ends)))
    by_pass (grown longer fewer) = rw is fewer

pub round_supports : (cut : Cut) (rows : List Row) (states result : List StateId) → result ≡ fold (visit cut) states rows → AreSupported states (filter (outlives cut) rows) → AreSupported result (filter (outlives cut) rows)
round_supports cut rows states result is supported = rw is (supported-pass cut rows rows states (λ r there. there) supported)

pub round_holds : (cut : Cut) (rows : List Row) (states result : List StateId) → result ≡ fold (visit cut) states rows → length result ≡ length states → AreSupported states (filter (outlives cut) rows) → AreHeld result (filter (outlives cut) rows)
round_holds cut rows states result is long supported =
    let ends = round_ends cut rows states result is long in
    rw ends (AreHeld-pass cut rows states supported (sym is ∙ ends))
