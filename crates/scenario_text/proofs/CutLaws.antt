-- The first place of a byte, as a search gives it.
use Rattle.std.proofs.Common.{◌≡◌, ℕ, Bool, true, false, List, length, get_or, Option, Some, None, refl, sym, ap, ⊎_elim, arith}
use Rattle.std.specs.Prelude.{position, nat_lt}
use Rattle.std.specs.List.{position_or_len}
use Rattle.std.proofs.lemmas.Bool.{cases_Bool}
use Rattle.std.proofs.lemmas.Bool.Decides.{nat_tests}
use Rattle.std.proofs.lemmas.List.Sums.{position_or_len_is}
use Rattle.memchr.specs.Find.{IsFirstByte}

fails : (test : ℕ → Bool) (b : ℕ) → ¬ (test b ≡ true) → test b ≡ false
fails test b never = ⊎_elim (λ yes. absurd (never yes)) (λ is. is) (cases_Bool (test b))

-- the first place that a search gives is the position
pub position_from_first : (test : ℕ → Bool) (bytes : List ℕ) (found : Option ℕ) → IsFirstByte test bytes found → found ≡ position test bytes
position_from_first test bytes None none =
    let all : position_or_len test bytes ≡ length bytes = position_or_len_is test bytes (length bytes) 0 (omega arith) (λ k below. fails test (get_or bytes k 0) (none k (omega arith) below)) (λ beyond. absurd (omega (arith, beyond))) in
    let test_ : nat_lt (position_or_len test bytes) (length bytes) ≡ false = grind (arith, nat_tests, all) in
    rw test_ refl
position_from_first test bytes (Some at) first =
    let is : position_or_len test bytes ≡ at = position_or_len_is test bytes at 0 (omega (arith, first.0.high)) (λ k below. fails test (get_or bytes k 0) (first.0.before k (omega arith) below)) (λ within. first.1) in
    let high = first.0.high in
    let test_ : nat_lt (position_or_len test bytes) (length bytes) ≡ true = grind (arith, nat_tests, is, high) in
    rw test_ (ap Some (sym is))
