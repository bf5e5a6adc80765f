-- Words, and numbers of few digits.
use Rattle.std.proofs.Common.{◌≡◌, ℕ, ◌^◌, ◌<◌, ◌≤◌, List, [], ◌∷◌, length, map, None, refl, arith}
use Rattle.std.proofs.Math.Nat.{pow-le-pow_right}
use Rattle.tab_call.specs.Words.{work_of}

-- three words or more ask for nothing
pub work_of_many : {A : Type 0} (bytes_of : A → List ℕ) (words : List A) → 3 ≤ length words → work_of (map bytes_of words) ≡ None
work_of_many bytes_of [] many = refl
work_of_many bytes_of (word ∷ []) many = absurd (omega (arith, many))
work_of_many bytes_of (word ∷ more ∷ []) many = absurd (omega (arith, many))
work_of_many bytes_of (word ∷ more ∷ next ∷ words) many = refl

-- up to eight digits write a small number
pub few_digits : (digits number : ℕ) → digits ≤ 8 → number < 10 ^ digits → number < 100000000
few_digits digits number few below = omega (arith, below, pow-le-pow_right {n = 10} (omega arith) few)
