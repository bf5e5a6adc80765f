-- A fact of each request, as one is changed or accepted; and which traversal runs.
use Rattle.std.proofs.Common.{◌≡◌, ℕ, zero, suc, ◌+◌, ◌-◌, Bool, true, false, cond, ◌==◌, List, [], ◌∷◌, ◌++◌, length, Option, Some, None, refl, sym, ap, ◌∙◌, subst, arith}
use Rattle.std.specs.Prelude.{find, slice_get, option_map}
use Rattle.std.proofs.lemmas.Bool.Decides.{nat_tests}
use Rattle.tab_ids.specs.declared.ReqId.{ReqId}
use Rattle.log_model.specs.Seen.{Asked, request_in}
use Rattle.log_model.specs.AfterRequests.{on_request}
use Rattle.seen_facts.proofs.Coord.Held.{on_else}
use Rattle.seen_facts.proofs.Request.LookUps.{on_itself, one_more, others_before}
use Rattle.seen_facts.specs.Each.Runs.{EachAsked, is_this}

req_same : (a b : ReqId) → (a.0 == b.0) ≡ true → a ≡ b
req_same a b e =
    let n : a.0 ≡ b.0 = grind (arith, nat_tests, e) in ap (λ (i : ℕ). let x : ReqId = record { 0 = i } in x) n

some_same : {A : Type 0} {a b : A} → (let o : Option A = Some a in o) ≡ Some b → a ≡ b
some_same e = cc

-- one request is changed
pub each_asked_on : (F G : ReqId → Asked → Type 0) (asked : List Asked) (req : ReqId) (f : Asked → Asked) → ((r : ReqId) (q : Asked) → (r.0 == req.0) ≡ false → F r q → G r q) → ((q : Asked) → request_in asked req ≡ Some q → F req q → G req (f q)) → EachAsked F asked → EachAsked G (on_request req f asked)
each_asked_on F G asked req f others own each r q at = by_number (r.0 == req.0) refl
  where
    by_found : (o : Option Asked) → request_in asked req ≡ o → option_map f o ≡ Some q → G req q
    by_found None e is = cc
    by_found (Some x) e is = (let same : f x ≡ q = cc in subst (λ (y : Asked). G req y) same (own x e (each req x e)))

    by_number : (b : Bool) → (r.0 == req.0) ≡ b → G r q
    by_number true e =
        let same : r ≡ req = req_same r req e in
        subst (λ (x : ReqId). G x q) (sym same) (by_found (request_in asked req) refl (sym (on_itself asked req f) ∙ (ap (λ (x : ReqId). request_in (on_request req f asked) x) (sym same) ∙ at)))
    by_number false e = others r q e (each r q (sym (on_else asked req f r e) ∙ at))

-- one request more
pub each_asked_more : (F : ReqId → Asked → Type 0) (asked : List Asked) (new : Asked) (req : ReqId) → req.0 ≡ length asked + 1 → F req new → EachAsked F asked → EachAsked F (asked ++ new ∷ [])
each_asked_more F asked new req nr own each r q at = by_number (req.0 == r.0) refl
  where
    by_number : (b : Bool) → (req.0 == r.0) ≡ b → F r q
    by_number true e =
        let same : req ≡ r = req_same req r e in
        let here : Some new ≡ Some q = sym (one_more asked new req nr) ∙ (ap (λ (x : ReqId). request_in (asked ++ new ∷ []) x) same ∙ at) in
        subst (λ (x : ReqId). F x q) same (subst (λ (y : Asked). F req y) (some_same here) own)
    by_number false e = each r q (sym (others_before asked new req nr r e) ∙ at)

-- ---- the first that passes a test

module _ (test : Asked → Bool) where
  -- none does
  pub find_none : (asked : List Asked) → ((i : ℕ) (q : Asked) → slice_get asked i ≡ Some q → test q ≡ false) → find test asked ≡ None
  find_none [] none = refl
  find_none (q ∷ asked) none = rw (none 0 q refl) (find_none asked (λ i x at. none (suc i) x at))

  -- one does, and no other
  pub find_only : (asked : List Asked) (i : ℕ) (q : Asked) → slice_get asked i ≡ Some q → test q ≡ true → ((j : ℕ) (x : Asked) → slice_get asked j ≡ Some x → (j == i) ≡ false → test x ≡ false) → find test asked ≡ Some q
  find_only [] i q at is others = cc
  find_only (first ∷ asked) zero q at is others =
      let same : first ≡ q = cc in
      let yes : test first ≡ true = ap test same ∙ is in rw yes at
  find_only (first ∷ asked) (suc i) q at is others =
      let apart : (0 == suc i) ≡ false = grind (arith, nat_tests) in
      let no_ : test first ≡ false = others 0 first refl apart in
      rw no_ (find_only asked i q at is (λ j x there apart. others (suc j) x there (let less : (suc j == suc i) ≡ false = grind (arith, nat_tests, apart) in less)))

-- the request at a place has its number
pub at_place : (asked : List Asked) (i : ℕ) → request_in asked (record { 0 = i + 1 }) ≡ slice_get asked i
at_place asked i =
    let real : ((i + 1) == 0) ≡ false = grind (arith, nat_tests) in
    let less : (i + 1) - 1 ≡ i = omega arith in
    rw real (ap (λ (n : ℕ). slice_get asked n) less)

-- a test of each request that only one passes, or none
module _ (test : Asked → Bool) (asked : List Asked) where
  pub none_passes : EachAsked (λ req q. test q ≡ false) asked → find test asked ≡ None
  none_passes each = find_none test asked (λ i q at. each (record { 0 = i + 1 }) q (at_place asked i ∙ at))

  pub only_passes : (run : ReqId) (q : Asked) → request_in asked run ≡ Some q → EachAsked (λ req x. test x ≡ is_this (Some run) req) asked → find test asked ≡ Some q
  only_passes run q at each = by_number (run.0 == 0) refl at
    where
      by_number : (b : Bool) → (run.0 == 0) ≡ b → (let o : Option Asked = cond b None (slice_get asked (run.0 - 1)) in o) ≡ Some q → find test asked ≡ Some q
      by_number true e there = cc
      by_number false e there =
          find_only test asked (run.0 - 1) q there (each run q at ∙ (let itself : (run.0 == run.0) ≡ true = grind (arith, nat_tests) in itself))
          (λ j x there_ apart. each (record { 0 = j + 1 }) x (at_place asked j ∙ there_) ∙ (let other : (run.0 == (j + 1)) ≡ false = grind (arith, nat_tests, e, apart) in other))
