-- What leaving a state, and taking one out, do to the states of a cache.
use Rattle.std.proofs.Common.{◌≡◌, ℕ, zero, suc, ◌+◌, ◌-◌, ◌<◌, ◌≤◌, true, false, not, ◌||◌, List, [], ◌∷◌, length, take, drop, map, slice_get, Some, None, is_some, option_map, option_to_list, refl, sym, ap, subst, arith, cond, ◌∙◌}
use Rattle.std.proofs.lemmas.Bool.Decides.{nat_tests}
use Rattle.std.proofs.lemmas.List.{take_all, drop_all, take-map}
use Rattle.std.proofs.lemmas.Map.Keys.{IsDistinct-head, IsDistinct-tail}
use Rattle.std.proofs.lemmas.Map.Entries.{length-keys_of}
use Rattle.std.specs.List.{AllByRecursion, IsDistinct}
use Rattle.std.specs.Option.{option_map_or}
use Rattle.std.specs.Map.{keys_of, lookup, lookup_entry, remove_entry}
use Rattle.tab_ids.specs.declared.StateId.{StateId}
use Rattle.lru.specs.LruCache.{LruCache, IsValid, displaced, put_entries}
use Rattle.page_cache.specs.Kept.{is_state, has_state, without, left_first}

-- a state is found where it is a key
pub found_is_kept : (state : StateId) (es : List (StateId × Unit {0})) → is_some (lookup (is_state state) es) ≡ has_state state (keys_of es)
found_is_kept state [] = refl
found_is_kept state (e ∷ es) = grind (arith, nat_tests, found_is_kept state es)

-- where it is not there, the others are all
without-none : (state : StateId) (states : List StateId) → has_state state states ≡ false → without state states ≡ states
without-none state [] none = refl
without-none state (first ∷ states) none = grind (arith, nat_tests, without-none state states)

-- the states that differ from an equal one differ from it
none_behind : (state first : StateId) (states : List StateId) → is_state state first ≡ true → AllByRecursion (λ other. is_state first other ≡ false) states → has_state state states ≡ false
none_behind state first [] same apart = refl
none_behind state first (next ∷ states) same apart =
    let ih : has_state state states ≡ false = none_behind state first states same apart.1 in
    let next_differs : is_state first next ≡ false = apart.0 in
    grind (arith, nat_tests, ih)

-- taking a key out leaves the others
pub others_stay : (state : StateId) (es : List (StateId × Unit {0})) → IsDistinct is_state (keys_of es) → keys_of (remove_entry (is_state state) es) ≡ without state (keys_of es)
others_stay state [] apart = refl
others_stay state (e ∷ es) apart =
    let rest : keys_of (remove_entry (is_state state) es) ≡ without state (keys_of es) = others_stay state es (IsDistinct-tail is_state e.0 (keys_of es) apart) in
    let none : is_state state e.0 ≡ true → without state (keys_of es) ≡ keys_of es =
    λ same. without-none state (keys_of es) (none_behind state e.0 (keys_of es) same (IsDistinct-head is_state e.0 (keys_of es) apart)) in
    (elim (is_state state e.0) as (λ b. is_state state e.0 ≡ b → keys_of (cond b es (e ∷ remove_entry (is_state state) es)) ≡ cond (not b) (e.0 ∷ without state (keys_of es)) (without state (keys_of es))) [
      | true ↦ λ same. sym (none same)
      | false ↦ λ _. ap (λ states. e.0 ∷ states) rest
    ]) refl

-- there are at most as many others
not_more : (state : StateId) (states : List StateId) → length (without state states) ≤ length states
not_more state [] = omega arith
not_more state (first ∷ states) = let ih = not_more state states in grind (arith, nat_tests, ih)

-- and fewer where it is there
fewer : (state : StateId) (states : List StateId) → has_state state states ≡ true → length (without state states) < length states
fewer state [] any = (cc)
fewer state (first ∷ states) any =
    (elim (is_state state first) as (λ b. (b || has_state state states) ≡ true → length (cond (not b) (first ∷ without state states) (without state states)) < suc (length states)) [
      | true ↦ λ _. omega (arith, not_more state states)
      | false ↦ λ there. omega (arith, fewer state states there)
    ]) any

-- the entry that is found has the state
found-state : (state : StateId) (es : List (StateId × Unit {0})) (e : StateId × Unit {0}) → lookup_entry (is_state state) es ≡ Some e → e.0 ≡ state
found-state state [] e found = (cc)
found-state state (first ∷ es) e found =
    (elim (is_state state first.0) as (λ b. is_state state first.0 ≡ b → cond b (Some first) (lookup_entry (is_state state) es) ≡ Some e → e.0 ≡ state) [
      | true ↦ λ same this.
          let number : first.0.0 ≡ state.0 = grind (arith, nat_tests, same) in
          let number_is : first.0 ≡ state = ap (λ n. record { 0 = n }) number in
          let entry : first ≡ e = cc this in
          subst (λ (f : StateId × Unit {0}). f.0 ≡ state) entry number_is
      | false ↦ λ _ behind. found-state state es e behind
    ]) refl found

-- an entry is found where its state is there
entry_is_kept : (state : StateId) (es : List (StateId × Unit {0})) → is_some (lookup_entry (is_state state) es) ≡ has_state state (keys_of es)
entry_is_kept state [] = refl
entry_is_kept state (e ∷ es) = grind (arith, nat_tests, entry_is_kept state es)

-- what is taken from a list that begins with an element
take-first : {X : Type 0} (n : ℕ) (x : X) (xs : List X) → 0 < n → take n (x ∷ xs) ≡ x ∷ take (n - 1) xs
take-first zero x xs some = absurd (omega arith)
take-first (suc n) x xs some = let before : suc n - 1 ≡ n = omega arith in rw before refl

-- and what is dropped
drop-first : {X : Type 0} (n : ℕ) (x : X) (xs : List X) → 0 < n → drop n (x ∷ xs) ≡ drop (n - 1) xs
drop-first zero x xs some = absurd (omega arith)
drop-first (suc n) x xs some = let before : suc n - 1 ≡ n = omega arith in rw before refl

-- where one element at most is beyond n, it is all that is dropped
drop-one : {X Y : Type 0} (f : X → Y) (n : ℕ) (xs : List X) → length xs ≤ n + 1 → drop n (map f xs) ≡ option_to_list (option_map f (slice_get xs n))
drop-one f zero [] few = refl
drop-one f zero (x ∷ []) few = refl
drop-one f zero (x ∷ y ∷ xs) few = absurd (omega arith)
drop-one f (suc n) [] few = refl
drop-one f (suc n) (x ∷ xs) few = let fewer : length xs ≤ n + 1 = omega arith in drop-one f n xs fewer

-- what a put leaves, where the state is there and where it is not
put-known : (c : LruCache StateId (Unit {0})) (state : StateId) (e : StateId × Unit {0}) → IsValid is_state c → lookup_entry (is_state state) c.entries ≡ Some e
    → e.0 ∷ keys_of (remove_entry (is_state state) c.entries) ≡ take c.cap (left_first state (keys_of c.entries))
put-known c state e valid found =
    let there : has_state state (keys_of c.entries) ≡ true = sym (entry_is_kept state c.entries) ∙ ap is_some found in
    let few : length (left_first state (keys_of c.entries)) ≤ c.cap = omega (arith, valid.1, fewer state (keys_of c.entries) there, length-keys_of c.entries) in
    rw (found-state state c.entries e found, others_stay state c.entries valid.0) (sym (take_all c.cap (left_first state (keys_of c.entries)) few))

put-new : (c : LruCache StateId (Unit {0})) (state : StateId) → IsValid is_state c → lookup_entry (is_state state) c.entries ≡ None
    → state ∷ keys_of (take (c.cap - 1) c.entries) ≡ take c.cap (left_first state (keys_of c.entries))
put-new c state valid none =
    let absent : has_state state (keys_of c.entries) ≡ false = sym (entry_is_kept state c.entries) ∙ ap is_some none in
    rw (without-none state (keys_of c.entries) absent, take-first c.cap state (keys_of c.entries) valid.2, take-map (λ (e : StateId × Unit {0}). e.0) (c.cap - 1) c.entries) refl

-- after a put the state is first, and what is beyond the capacity is gone
pub put_left : (c : LruCache StateId (Unit {0})) (state : StateId) → IsValid is_state c → keys_of (put_entries is_state c state tt) ≡ take c.cap (left_first state (keys_of c.entries))
put_left c state valid =
    (elim (lookup_entry (is_state state) c.entries) as (λ o. lookup_entry (is_state state) c.entries ≡ o → keys_of (option_map_or (λ (e : StateId × Unit {0}). (e.0, tt) ∷ remove_entry (is_state state) c.entries) o ((state, tt) ∷ take (c.cap - 1) c.entries)) ≡ take c.cap (left_first state (keys_of c.entries))) [
      | Some e ↦ λ found. put-known c state e valid found
      | None ↦ λ none. put-new c state valid none
    ]) refl

-- where it was there, nothing is beyond
pub none_out : (c : LruCache StateId (Unit {0})) (state : StateId) → IsValid is_state c → is_some (lookup (is_state state) c.entries) ≡ true → [] ≡ drop c.cap (left_first state (keys_of c.entries))
none_out c state valid known =
    let there : has_state state (keys_of c.entries) ≡ true = sym (found_is_kept state c.entries) ∙ known in
    let few : length (left_first state (keys_of c.entries)) ≤ c.cap = omega (arith, valid.1, fewer state (keys_of c.entries) there, length-keys_of c.entries) in
    sym (drop_all c.cap (left_first state (keys_of c.entries)) few)

-- where it was not, what is pushed out is beyond
pub one_out : (c : LruCache StateId (Unit {0})) (state : StateId) → IsValid is_state c → is_some (lookup (is_state state) c.entries) ≡ false
    → drop c.cap (left_first state (keys_of c.entries)) ≡ option_to_list (option_map (λ e. e.0) (displaced is_state c state tt))
one_out c state valid fresh =
    let absent : has_state state (keys_of c.entries) ≡ false = sym (found_is_kept state c.entries) ∙ fresh in
    let none : lookup (is_state state) c.entries ≡ None = grind (arith, fresh) in
    let few : length c.entries ≤ (c.cap - 1) + 1 = omega (arith, valid.1, valid.2) in
    rw (without-none state (keys_of c.entries) absent, drop-first c.cap state (keys_of c.entries) valid.2, none) (drop-one (λ (e : StateId × Unit {0}). e.0) (c.cap - 1) c.entries few)

-- what falls out
pub ruleset leaves = (none_out, one_out)
