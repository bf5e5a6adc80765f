-- A power of two that is at most twice seven and one.
use Rattle.std.proofs.Common.{◌≡◌, ℕ, suc, zero, ◌+◌, ◌*◌, ◌^◌, ◌≤◌, arith}
use Rattle.std.proofs.Math.Nat.{pow-suc}

-- two to the fourth is past fifteen
pub three_at_most : (t n : ℕ) → 2 ^ t ≤ 2 * n + 1 → n ≡ 7 → t ≤ 3
three_at_most zero n bound seven = omega arith
three_at_most (suc zero) n bound seven = omega arith
three_at_most (suc (suc zero)) n bound seven = omega arith
three_at_most (suc (suc (suc zero))) n bound seven = omega arith
three_at_most (suc (suc (suc (suc t)))) n bound seven =
    let some : 1 ≤ 2 ^ t = one_at_least t in
    absurd (omega (arith, bound, seven, some, pow-suc 2 t, pow-suc 2 (suc t), pow-suc 2 (suc (suc t)), pow-suc 2 (suc (suc (suc t)))))
  where
    one_at_least : (k : ℕ) → 1 ≤ 2 ^ k
    one_at_least zero = omega arith
    one_at_least (suc k) = omega (arith, pow-suc 2 k, one_at_least k)
