-- Reading digits from the left, up to a greatest number.
use Rattle.std.proofs.Common.{◌≡◌, ℕ, ◌+◌, ◌<◌, ◌≤◌, List, length, take, get_or, true, false, Some, None, refl, sym, ap, subst, ◌∙◌, arith}
use Rattle.std.specs.Prelude.{nat_le}
use Rattle.std.specs.List.{list_all}
use Rattle.std.specs.Char.{is_ascii_digit}
use Rattle.std.specs.Str.Parse.{digits_value}
use Rattle.std.proofs.lemmas.Bool.{and_right, cond-false}
use Rattle.std.proofs.lemmas.Bool.Decides.{nat_tests}
use Rattle.std.proofs.lemmas.List.{take_all}
use Rattle.std.proofs.lemmas.List.Folds.{list_all_at}
use Rattle.std.proofs.lemmas.Str.Parse.{digits_value-take-le}
use Rattle.log_reading.specs.Fields.{number_of}

-- where one byte is no digit, there is no number
pub no_digit : (word : List ℕ) (i greatest : ℕ) → i < length word → is_ascii_digit (get_or word i 0) ≡ false → number_of greatest word ≡ None
unfolding number_of
no_digit word i greatest inside none = rw (list_all_at is_ascii_digit word i 0 inside none) refl

-- where the digits before one are too large, all of them are
pub too_large : (word : List ℕ) (i greatest : ℕ) → i < length word → greatest < digits_value 10 (take (i + 1) word) → number_of greatest word ≡ None
unfolding number_of
too_large word i greatest inside large =
    let beyond : greatest < digits_value 10 word = omega (arith, large, digits_value-take-le 10 word (i + 1) (omega arith)) in
    let over : nat_le (digits_value 10 word) greatest ≡ false = grind (arith, nat_tests) in
    cond-false _ _ _ (and_right (list_all is_ascii_digit word) _ over)

-- all digits are read
pub is_number : (word : List ℕ) (i number greatest : ℕ) → length word ≤ i → number ≡ digits_value 10 (take i word) → list_all is_ascii_digit (take i word) ≡ true → number ≤ greatest → number_of greatest word ≡ Some number
unfolding number_of
is_number word i number greatest all value digits small =
    let whole : take i word ≡ word = take_all i word all in
    let are : list_all is_ascii_digit word ≡ true = subst (λ (l : List ℕ). list_all is_ascii_digit l ≡ true) whole digits in
    let is : digits_value 10 word ≡ number = ap (λ (l : List ℕ). digits_value 10 l) (sym whole) ∙ sym value in
    let fits : nat_le (digits_value 10 word) greatest ≡ true = grind (arith, nat_tests) in
    rw (are, fits) (ap (λ (n : ℕ). Some n) is)
