-- Lists of which some, or the first ones, are taken.
use Rattle.std.proofs.Common.{Bool, List, [], arith, cond, false, length, suc, take, true, zero, ℕ, ◌∷◌, ◌≤◌}
use Rattle.std.specs.Prelude.{filter}

pub fewer : {A : Type 0} (test : A → Bool) (l : List A) → length (filter test l) ≤ length l
fewer test [] = omega arith
fewer {A} test (x ∷ l) = by_test (test x) (fewer test l)
  where
    by_test : (b : Bool) → length (filter test l) ≤ length l → length (let m : List A = cond b (x ∷ filter test l) (filter test l) in m) ≤ suc (length l)
    by_test true low = omega (arith, low)
    by_test false low = omega (arith, low)

pub taken_few : {A : Type 0} (n : ℕ) (l : List A) → length (take n l) ≤ n
taken_few zero l = omega arith
taken_few (suc n) [] = omega arith
taken_few (suc n) (x ∷ l) = let low = taken_few n l in omega (arith, low)
