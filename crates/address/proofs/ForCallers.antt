-- What a crate above may cite of an address that it knows by its text alone.
use Rattle.std.proofs.Common.{◌≡◌, ℕ, ◌≤◌, List, Ok, Err, length, arith, refl}
use Rattle.std.specs.Prelude.{Bool, Result, true, false, not, nat_le, if◌then◌else◌}
use Rattle.std.proofs.lemmas.Bool.Decides.{nat_tests}
use Rattle.std.proofs.lemmas.Slice.Eq.{bytes_eq-Decides}
use Rattle.address.specs.Addresses.{IsAddress, Fault, too_long, address_of, base_of, has_same_base, is_rewritable, origin_of, read_against}

not_long : (short : Bool) (rest : Result (List ℕ) Fault) (text : List ℕ) → (if not short then Err too_long else rest) ≡ Ok text → short ≡ true
not_long true rest text given = refl
not_long false rest text given = cc

-- an address has at most 2,048 bytes
pub short_from_is_address : (text : List ℕ) → IsAddress text → length text ≤ 2048
unfolding address_of read_against
short_from_is_address text is =
    let passes = not_long (nat_le (length text) 2048) _ text is.reads in grind (arith, nat_tests)

-- equal bases, by the test
pub same_base_from_equal : (a b : List ℕ) → base_of a ≡ base_of b → has_same_base a b ≡ true
unfolding has_same_base
same_base_from_equal a b same = (bytes_eq-Decides (base_of a) (base_of b)).1 same

pub equal_from_same_base : (a b : List ℕ) → has_same_base a b ≡ true → base_of a ≡ base_of b
unfolding has_same_base
equal_from_same_base a b same = (bytes_eq-Decides (base_of a) (base_of b)).0 same

-- equal origins, by the test
pub rewritable_from_equal : (a b : List ℕ) → origin_of a ≡ origin_of b → is_rewritable a b ≡ true
unfolding is_rewritable
rewritable_from_equal a b same = (bytes_eq-Decides (origin_of a) (origin_of b)).1 same

pub equal_from_rewritable : (a b : List ℕ) → is_rewritable a b ≡ true → origin_of a ≡ origin_of b
unfolding is_rewritable
equal_from_rewritable a b same = (bytes_eq-Decides (origin_of a) (origin_of b)).0 same
