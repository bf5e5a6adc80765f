-- What a cache of kept states lets go as one of them leaves it.
use Rattle.log_model.proofs.Refl.{nat_eq_refl}
use Rattle.page_cache.specs.Kept.{is_state, left_first, without}
use Rattle.std.proofs.Common.{Bool, List, [], ap, append-nil, arith, cond, drop, false, length, not, refl, sym, take, true, ℕ, ◌++◌, ◌==◌, ◌∙◌, ◌∷◌, ◌≡◌, ◌≤◌}
use Rattle.std.proofs.lemmas.List.{take-append-drop, take_all}
use Rattle.tab_ids.specs.declared.StateId.{StateId}
use Rattle.tab_passes.proofs.Fews.{fewer, taken_few}

without_more : (state : StateId) (xs ys : List StateId) → without state (xs ++ ys) ≡ without state xs ++ without state ys
without_more state [] ys = refl
without_more state (x ∷ xs) ys = by_test (is_state state x) (without_more state xs ys)
  where
    by_test : (b : Bool) → without state (xs ++ ys) ≡ without state xs ++ without state ys → (let l : List StateId = cond (not b) (x ∷ without state (xs ++ ys)) (without state (xs ++ ys)) in l) ≡ (let l : List StateId = cond (not b) (x ∷ without state xs) (without state xs) in l) ++ without state ys
    by_test true more = more
    by_test false more = ap (λ (l : List StateId). x ∷ l) more

without_twice : (a b : StateId) (l : List StateId) → without a (without b l) ≡ without b (without a l)
without_twice a b [] = refl
without_twice a b (x ∷ l) = by_tests (is_state a x) refl (is_state b x) refl (without_twice a b l)
  where
    by_tests : (p : Bool) → is_state a x ≡ p → (q : Bool) → is_state b x ≡ q → without a (without b l) ≡ without b (without a l) → without a (without b (x ∷ l)) ≡ without b (without a (x ∷ l))
    by_tests true is true at more = rw at (rw is more)
    by_tests true is false at more = rw at (rw is more)
    by_tests false is true at more = rw at (rw is (rw at more))
    by_tests false is false at more = rw at (rw is (rw at (ap (λ (m : List StateId). x ∷ m) more)))

-- another one than the first leaves
without_left : (left state : StateId) (states : List StateId) → (state.0 == left.0) ≡ false → without state (left_first left states) ≡ left_first left (without state states)
without_left left state states apart = rw apart (ap (λ (l : List StateId). left ∷ l) (without_twice state left states))

-- the one beyond the bound leaves
over_first : (keep : ℕ) (left state : StateId) (states : List StateId) → drop keep (left_first left states) ≡ state ∷ [] → (state.0 == left.0) ≡ false → without state (take keep (left_first left states)) ≡ left_first left (without state states)
over_first keep left state states over apart =
    sym (append-nil (without state (take keep (left_first left states))))
    ∙ ap (λ (l : List StateId). without state (take keep (left_first left states)) ++ l) (sym own)
    ∙ sym (without_more state (take keep (left_first left states)) (state ∷ []))
    ∙ ap (without state) all
    ∙ without_left left state states apart
  where
    all : take keep (left_first left states) ++ state ∷ [] ≡ left_first left states
    all = ap (λ (l : List StateId). take keep (left_first left states) ++ l) (sym over) ∙ take-append-drop keep (left_first left states)

    own : without state (state ∷ []) ≡ []
    own = rw (nat_eq_refl state.0) refl

-- and then no more are left than may be
pub over_fits : (keep : ℕ) (left state : StateId) (states : List StateId) → drop keep (left_first left states) ≡ state ∷ [] → (state.0 == left.0) ≡ false → length (left_first left (without state states)) ≤ keep
over_fits keep left state states over apart =
    let same : length (left_first left (without state states)) ≡ length (without state (take keep (left_first left states))) = ap (λ (l : List StateId). length l) (sym (over_first keep left state states over apart)) in
    let less : length (without state (take keep (left_first left states))) ≤ length (take keep (left_first left states)) = fewer (λ (other : StateId). not (is_state state other)) (take keep (left_first left states)) in
    let few : length (take keep (left_first left states)) ≤ keep = taken_few keep (left_first left states) in
    omega (arith, same, less, few)

pub over_leaves : (keep : ℕ) (left state : StateId) (states : List StateId) → drop keep (left_first left states) ≡ state ∷ [] → (state.0 == left.0) ≡ false → without state (take keep (left_first left states)) ≡ take keep (left_first left (without state states))
over_leaves keep left state states over apart =
    over_first keep left state states over apart
    ∙ sym (take_all keep (left_first left (without state states)) (over_fits keep left state states over apart))

-- where no more are, no more are left once any other one goes
pub fitting_fits : (keep : ℕ) (left state : StateId) (states : List StateId) → length (left_first left states) ≤ keep → (state.0 == left.0) ≡ false → length (left_first left (without state states)) ≤ keep
fitting_fits keep left state states low apart =
    let few : length (without state (left_first left states)) ≤ length (left_first left states) = fewer (λ (other : StateId). not (is_state state other)) (left_first left states) in
    let same : length (without state (left_first left states)) ≡ length (left_first left (without state states)) = ap (λ (l : List StateId). length l) (without_left left state states apart) in
    omega (arith, few, same, low)

pub fitting_leaves : (keep : ℕ) (left state : StateId) (states : List StateId) → length (left_first left states) ≤ keep → (state.0 == left.0) ≡ false → without state (take keep (left_first left states)) ≡ take keep (left_first left (without state states))
fitting_leaves keep left state states low apart =
    ap (without state) (take_all keep (left_first left states) low)
    ∙ without_left left state states apart
    ∙ sym (take_all keep (left_first left (without state states)) (fitting_fits keep left state states low apart))

-- as does the new one, whose document is kept no longer
pub fitting_room : (keep : ℕ) (left state : StateId) (states : List StateId) → length (left_first left states) ≤ keep → (state.0 == left.0) ≡ false → without state (take keep (left_first left states)) ≡ left_first left (without state states)
fitting_room keep left state states low apart =
    ap (without state) (take_all keep (left_first left states) low) ∙ without_left left state states apart

-- or which is the one beyond the bound
pub over_room : (keep : ℕ) (left state : StateId) (states : List StateId) → drop keep (left_first left states) ≡ state ∷ [] → (state.0 == left.0) ≡ false → without state (take keep (left_first left states)) ≡ left_first left (without state states)
over_room = over_first
