-- Reading digits from the left, up to a greatest number.
use Rattle.std.proofs.Common.{◌≡◌, ℕ, ◌+◌, ◌<◌, List, length, take, false, ◌&&◌, cond, Some, None, sym, arith}
use Rattle.std.proofs.Math.Dec.{leb}
use Rattle.std.proofs.lemmas.Bool.{and_right, cond-false}
use Rattle.std.proofs.lemmas.Bool.Decides.{nat_tests}
use Rattle.std.proofs.lemmas.Int.Digits.{digits_value_more}
use Rattle.std.proofs.lemmas.Str.Parse.{digits_value-take-le}
use Rattle.std.specs.Str.Parse.{digits_value}
use Rattle.scenario_text.specs.Numbers.{are_digits}

-- where the digits before one are large, all of them are too large
pub too_large : (digits : List ℕ) (i : ℕ) → i < length digits → 99999 < digits_value 10 (take i digits)
    → None ≡ cond (are_digits digits && leb (digits_value 10 digits) 999999) (Some (digits_value 10 digits)) None
too_large digits i inside large =
    let beyond : 999999 < digits_value 10 digits = omega (arith, digits_value_more 10 digits i inside, digits_value-take-le 10 digits (i + 1) (omega arith)) in
    let no_number : leb (digits_value 10 digits) 999999 ≡ false = grind (arith, nat_tests) in
    sym (cond-false _ _ _ (and_right _ _ no_number))
