-- Decimal numbers.
-- This project's own.
use Rattle.std.specs.Prelude.{ℕ, ℤ, pos, neg_ℤ, ◌==◌, ◌&&◌, not, Bool, true, false, nat_le, List, [], ◌∷◌, Result, Ok, Err, if◌then◌else◌}
use Rattle.std.specs.List.{list_all}
use Rattle.std.specs.Char.{is_ascii_digit}
use Rattle.std.specs.Str.Parse.{digits_value}
use Rattle.scenario_text.specs.declared.reason.Reason.{Reason}
use Rattle.scenario_text.specs.declared.reason.Reason.TheVariants.{Number}
use Rattle.scenario_text.specs.Chain.{◌>>=◌}

-- all bytes are digits
abbrev pub are_digits : List ℕ → Bool
are_digits word = list_all is_ascii_digit word

-- there is a digit, and a 0 only stands first where it is alone
abbrev pub has_no_zero_in_front : List ℕ → Bool
has_no_zero_in_front [] = false
has_no_zero_in_front (digit ∷ []) = true
has_no_zero_in_front (digit ∷ next ∷ others) = not (digit == 48)

-- a decimal number from `low` to `high`, without a leading zero but `0`
unfoldable pub number_of : ℕ → ℕ → List ℕ → Result ℕ Reason
number_of low high word =
    let number = digits_value 10 word in
    if are_digits word && (has_no_zero_in_front word && (nat_le low number && nat_le number high)) then Ok number
    else Err Number

-- DELTA: 1 to 999, or `-` and 1 to 999
unfoldable pub delta_of : List ℕ → Result ℤ Reason
delta_of [] = Err Number
delta_of (b ∷ word) =
    if b == 45 then (number_of 1 999 word >>= λ number. Ok (neg_ℤ (pos number)))
    else (number_of 1 999 (b ∷ word) >>= λ number. Ok (pos number))
