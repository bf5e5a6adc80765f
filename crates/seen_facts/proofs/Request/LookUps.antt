-- Requests by their number: the one that is changed, and one more.
use Rattle.std.proofs.Common.{◌≡◌, ℕ, zero, suc, ◌+◌, ◌-◌, Bool, true, false, cond, ◌==◌, List, [], ◌∷◌, ◌++◌, length, Option, Some, None, refl, ap, ◌∙◌, arith}
use Rattle.std.specs.Prelude.{slice_get, slice_set, option_map}
use Rattle.std.specs.Option.{option_map_or}
use Rattle.std.proofs.lemmas.Bool.Decides.{nat_tests}
use Rattle.tab_ids.specs.declared.ReqId.{ReqId}
use Rattle.log_model.specs.Seen.{Asked, request_in}
use Rattle.log_model.specs.AfterRequests.{on_request}

-- an item that is set is there
set_there : {A : Type 0} (xs : List A) (n : ℕ) (x y : A) → slice_get xs n ≡ Some x → slice_get (slice_set xs n y) n ≡ Some y
set_there [] n x y at = cc
set_there (z ∷ xs) zero x y at = refl
set_there (z ∷ xs) (suc n) x y at = set_there xs n x y at

-- the request that is changed
pub on_itself : (asked : List Asked) (req : ReqId) (f : Asked → Asked) → request_in (on_request req f asked) req ≡ option_map f (request_in asked req)
on_itself asked req f = by_number (req.0 == 0)
  where
    by_found : (o : Option Asked) → slice_get asked (req.0 - 1) ≡ o → slice_get (option_map_or (λ q. slice_set asked (req.0 - 1) (f q)) o asked) (req.0 - 1) ≡ option_map f o
    by_found None e = e
    by_found (Some q) e = set_there asked (req.0 - 1) q (f q) e

    by_number : (b : Bool) → (let o : Option Asked = cond b None (slice_get (option_map_or (λ q. slice_set asked (req.0 - 1) (f q)) (cond b None (slice_get asked (req.0 - 1))) asked) (req.0 - 1)) in o) ≡ option_map f (cond b None (slice_get asked (req.0 - 1)))
    by_number true = refl
    by_number false = by_found (slice_get asked (req.0 - 1)) refl

-- the last of one item more
last_there : {A : Type 0} (xs : List A) (x : A) → slice_get (xs ++ x ∷ []) (length xs) ≡ Some x
last_there [] x = refl
last_there (y ∷ xs) x = last_there xs x

none_there : {A : Type 0} (xs : List A) → slice_get xs (length xs) ≡ None
none_there [] = refl
none_there (y ∷ xs) = none_there xs

others_there : {A : Type 0} (xs : List A) (x : A) (n : ℕ) → (n == length xs) ≡ false → slice_get (xs ++ x ∷ []) n ≡ slice_get xs n
others_there [] x zero other = cc
others_there [] x (suc n) other = refl
others_there (y ∷ xs) x zero other = refl
others_there (y ∷ xs) x (suc n) other =
    others_there xs x n (let less : (n == length xs) ≡ false = grind (arith, nat_tests, other) in less)

module _ (asked : List Asked) (q : Asked) (req : ReqId) (next : req.0 ≡ length asked + 1) where
  place : (req.0 - 1) ≡ length asked
  place = omega (arith, next)

  real : (req.0 == 0) ≡ false
  real = grind (arith, nat_tests, next)

  -- a request more has the next number
  pub one_more : request_in (asked ++ q ∷ []) req ≡ Some q
  one_more =
      rw real (ap (λ (n : ℕ). slice_get (asked ++ q ∷ []) n) place ∙ last_there asked q)

  -- which no request had before
  pub none_before : request_in asked req ≡ None
  none_before = rw real (ap (λ (n : ℕ). slice_get asked n) place ∙ none_there asked)

  pub others_before : (r : ReqId) → (req.0 == r.0) ≡ false → request_in (asked ++ q ∷ []) r ≡ request_in asked r
  others_before r apart = by_number (r.0 == 0) refl
    where
      by_number : (b : Bool) → (r.0 == 0) ≡ b → (let o : Option Asked = cond b None (slice_get (asked ++ q ∷ []) (r.0 - 1)) in o) ≡ cond b None (slice_get asked (r.0 - 1))
      by_number true e = refl
      by_number false e =
          others_there asked q (r.0 - 1) (let other : ((r.0 - 1) == length asked) ≡ false = grind (arith, nat_tests, next, apart, e) in other)
