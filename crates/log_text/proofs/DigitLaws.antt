-- How many digits a number has.
use Rattle.std.proofs.Common.{ℕ, List, take, drop, ◌-◌, ◌≡◌, ◌≤◌, ◌<◌, ◌+◌, ◌^◌, ◌/◌, ◌++◌, length, decimal, arith, ap, ◌∙◌, sym}
use Rattle.std.proofs.lemmas.List.{length-append}
use Rattle.std.proofs.Math.Seq.{take-add, take-append_seam}
use Rattle.std.proofs.lemmas.Fmt.{decimal_digit, decimal_step}

-- the last digit, and those of a tenth
pub length-decimal_step : (n : ℕ) → 10 ≤ n → n < 2 ^ 64 → length (decimal n) ≡ length (decimal (n / 10)) + 1
length-decimal_step n large fits = ap length (decimal_step n large fits) ∙ length-append (decimal (n / 10)) _

pub one_digit : (n : ℕ) → n < 10 → 1 ≡ length (decimal n)
one_digit n small = sym (ap length (decimal_digit n small))

pub two_digits : (n : ℕ) → 10 ≤ n → n < 100 → 2 ≡ length (decimal n)
two_digits n large small = omega (arith, length-decimal_step n large (omega arith), one_digit (n / 10) (omega arith))

pub three_digits : (n : ℕ) → 100 ≤ n → n < 1000 → 3 ≡ length (decimal n)
three_digits n large small = omega (arith, length-decimal_step n (omega arith) (omega arith), two_digits (n / 10) (omega arith) (omega arith))

pub four_digits : (n : ℕ) → 1000 ≤ n → n < 10000 → 4 ≡ length (decimal n)
four_digits n large small = omega (arith, length-decimal_step n (omega arith) (omega arith), three_digits (n / 10) (omega arith) (omega arith))

-- the last four digits, and those before them
four_more : (n : ℕ) → 10000 ≤ n → n < 2 ^ 64 → 4 + length (decimal (n / 10000)) ≡ length (decimal n)
four_more n large fits =
    let a = length-decimal_step n (omega arith) fits in
    let b = length-decimal_step (n / 10) (omega arith) (omega arith) in
    let c = length-decimal_step (n / 10 / 10) (omega arith) (omega arith) in
    let d = length-decimal_step (n / 10 / 10 / 10) (omega arith) (omega arith) in
    let tenth : n / 10 / 10 / 10 / 10 ≡ n / 10000 = omega arith in
    omega (arith, a, b, c, d, ap (λ (m : ℕ). length (decimal m)) tenth)

-- with the digits of what is before the last four, eight, twelve or sixteen
pub up_to_eight : (n front : ℕ) → 10000 ≤ n → n < 2 ^ 64 → front ≡ length (decimal (n / 10000)) → 4 + front ≡ length (decimal n)
up_to_eight n front large fits is = omega (arith, four_more n large fits, is)

pub up_to_twelve : (n front : ℕ) → 100000000 ≤ n → n < 2 ^ 64 → front ≡ length (decimal (n / 100000000)) → 8 + front ≡ length (decimal n)
up_to_twelve n front large fits is =
    let parts : n / 10000 / 10000 ≡ n / 100000000 = omega arith in
    omega (arith, up_to_eight (n / 10000) front (omega arith) (omega arith) (is ∙ ap (λ (m : ℕ). length (decimal m)) (sym parts)), four_more n (omega arith) fits)

pub up_to_sixteen : (n front : ℕ) → 1000000000000 ≤ n → n < 2 ^ 64 → front ≡ length (decimal (n / 1000000000000)) → 12 + front ≡ length (decimal n)
up_to_sixteen n front large fits is =
    let parts : n / 10000 / 100000000 ≡ n / 1000000000000 = omega arith in
    omega (arith, up_to_twelve (n / 10000) front (omega arith) (omega arith) (is ∙ ap (λ (m : ℕ). length (decimal m)) (sym parts)), four_more n (omega arith) fits)

pub up_to_twenty : (n front : ℕ) → 10000000000000000 ≤ n → n < 2 ^ 64 → front ≡ length (decimal (n / 10000000000000000)) → 16 + front ≡ length (decimal n)
up_to_twenty n front large fits is =
    let parts : n / 10000 / 1000000000000 ≡ n / 10000000000000000 = omega arith in
    omega (arith, up_to_sixteen (n / 10000) front (omega arith) (omega arith) (is ∙ ap (λ (m : ℕ). length (decimal m)) (sym parts)), four_more n (omega arith) fits)

-- what stands before an end, where digits were written before it
pub written_before : (old new digits : List ℕ) (end start : ℕ) → start + length digits ≡ end → drop start new ≡ digits ++ drop end old → take start new ≡ take start old → take end new ≡ take (end - length digits) old ++ digits
written_before old new digits end start begins after before =
    let at : end - length digits ≡ start = omega arith in
    ap (λ (n : ℕ). take n new) (sym begins) ∙ take-add start (length digits) new
    ∙ ap (λ (xs : List ℕ). xs ++ take (length digits) (drop start new)) before
    ∙ ap (λ (xs : List ℕ). take start old ++ take (length digits) xs) after
    ∙ ap (λ (xs : List ℕ). take start old ++ xs) (take-append_seam digits (drop end old))
    ∙ ap (λ (n : ℕ). take n old ++ digits) (sym at)

pub ruleset few_digits = (one_digit, two_digits, three_digits, four_digits)

pub ruleset many_digits = (up_to_eight, up_to_twelve, up_to_sixteen, up_to_twenty)
