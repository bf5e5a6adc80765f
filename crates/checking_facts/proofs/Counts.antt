-- How many requests pass a test, once one of them is changed.
use Rattle.log_model.specs.AfterRequests.{on_request}
use Rattle.log_model.specs.Seen.{Asked, request_in}
use Rattle.std.proofs.Common.{Bool, List, None, Option, Some, [], ap, arith, cond, false, length, refl, suc, sym, true, zero, ℕ, ◌++◌, ◌+◌, ◌-◌, ◌==◌, ◌∙◌, ◌∷◌, ◌≡◌, ◌≤◌}
use Rattle.std.specs.Option.{option_map_or}
use Rattle.std.specs.Prelude.{filter, slice_get, slice_set}
use Rattle.tab_ids.specs.declared.ReqId.{ReqId}

some_same : {A : Type 0} {a b : A} → (let o : Option A = Some a in o) ≡ Some b → a ≡ b
some_same e = cc

module _ (test : Asked → Bool) where
  abbrev count : List Asked → ℕ
  count asked = length (filter test asked)

  -- ---- one passes that didn't

  set_more : (asked : List Asked) (n : ℕ) (q new : Asked) → slice_get asked n ≡ Some q → test q ≡ false → test new ≡ true → count (slice_set asked n new) ≡ count asked + 1
  set_more [] n q new at before then_ = absurd cc
  set_more (x ∷ asked) zero q new at before then_ =
      by_tests (test x) (test new) (ap (λ (y : Asked). test y) (some_same at) ∙ before) then_
    where
      by_tests : (b c : Bool) → b ≡ false → c ≡ true → length (let l : List Asked = cond c (new ∷ filter test asked) (filter test asked) in l) ≡ length (let l : List Asked = cond b (x ∷ filter test asked) (filter test asked) in l) + 1
      by_tests false true e f = omega arith
      by_tests true c e f = absurd cc
      by_tests false false e f = absurd cc
  set_more (x ∷ asked) (suc n) q new at before then_ = by_test (test x) (set_more asked n q new at before then_)
    where
      by_test : (b : Bool) → count (slice_set asked n new) ≡ count asked + 1 → length (let l : List Asked = cond b (x ∷ filter test (slice_set asked n new)) (filter test (slice_set asked n new)) in l) ≡ length (let l : List Asked = cond b (x ∷ filter test asked) (filter test asked) in l) + 1
      by_test true more = omega (arith, more)
      by_test false more = more

  pub on_more : (asked : List Asked) (req : ReqId) (f : Asked → Asked) (q : Asked) → request_in asked req ≡ Some q → test q ≡ false → test (f q) ≡ true → count (on_request req f asked) ≡ count asked + 1
  on_more asked req f q there before then_ = by_number (req.0 == 0) there
    where
      by_number : (b : Bool) → (let o : Option Asked = cond b None (slice_get asked (req.0 - 1)) in o) ≡ Some q → count (option_map_or (λ (x : Asked). slice_set asked (req.0 - 1) (f x)) (let o : Option Asked = cond b None (slice_get asked (req.0 - 1)) in o) asked) ≡ count asked + 1
      by_number true e = absurd cc
      by_number false e = rw e (set_more asked (req.0 - 1) q (f q) e before then_)

  -- ---- one passes still, if it did

  set_up : (asked : List Asked) (n : ℕ) (q new : Asked) → slice_get asked n ≡ Some q → (test q ≡ true → test new ≡ true) → count asked ≤ count (slice_set asked n new)
  set_up [] n q new at up = absurd cc
  set_up (x ∷ asked) zero q new at up =
      by_tests (test x) (test new) (λ is. up (ap (λ (y : Asked). test y) (sym (some_same at)) ∙ is))
    where
      by_tests : (b c : Bool) → (b ≡ true → c ≡ true) → length (let l : List Asked = cond b (x ∷ filter test asked) (filter test asked) in l) ≤ length (let l : List Asked = cond c (new ∷ filter test asked) (filter test asked) in l)
      by_tests true true f = omega arith
      by_tests false true f = omega arith
      by_tests false false f = omega arith
      by_tests true false f = let never : false ≡ true = f refl in absurd cc
  set_up (x ∷ asked) (suc n) q new at up = by_test (test x) (set_up asked n q new at up)
    where
      by_test : (b : Bool) → count asked ≤ count (slice_set asked n new) → length (let l : List Asked = cond b (x ∷ filter test asked) (filter test asked) in l) ≤ length (let l : List Asked = cond b (x ∷ filter test (slice_set asked n new)) (filter test (slice_set asked n new)) in l)
      by_test true more = omega (arith, more)
      by_test false more = more

  pub on_up : (asked : List Asked) (req : ReqId) (f : Asked → Asked) → ((q : Asked) → test q ≡ true → test (f q) ≡ true) → count asked ≤ count (on_request req f asked)
  on_up asked req f up = by_number (req.0 == 0)
    where
      by_found : (o : Option Asked) → slice_get asked (req.0 - 1) ≡ o → count asked ≤ count (option_map_or (λ (x : Asked). slice_set asked (req.0 - 1) (f x)) o asked)
      by_found None e = omega arith
      by_found (Some q) e = set_up asked (req.0 - 1) q (f q) e (up q)

      by_number : (b : Bool) → count asked ≤ count (option_map_or (λ (x : Asked). slice_set asked (req.0 - 1) (f x)) (let o : Option Asked = cond b None (slice_get asked (req.0 - 1)) in o) asked)
      by_number true = omega arith
      by_number false = by_found (slice_get asked (req.0 - 1)) refl

  -- ---- one more is there

  pub one_up : (asked : List Asked) (new : Asked) → count asked ≤ count (asked ++ new ∷ [])
  one_up [] new = omega arith
  one_up (x ∷ asked) new = by_test (test x) (one_up asked new)
    where
      by_test : (b : Bool) → count asked ≤ count (asked ++ new ∷ []) → length (let l : List Asked = cond b (x ∷ filter test asked) (filter test asked) in l) ≤ length (let l : List Asked = cond b (x ∷ filter test (asked ++ new ∷ [])) (filter test (asked ++ new ∷ [])) in l)
      by_test true more = omega (arith, more)
      by_test false more = more
