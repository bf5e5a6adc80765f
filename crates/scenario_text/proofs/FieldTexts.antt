-- A field is written as it was read.
use Rattle.std.proofs.Common.{◌≡◌, ℕ, ◌<◌, ◌≤◌, ◌^◌, ℤ, pos, zero, suc, Bool, true, false, not, ◌&&◌, ◌==◌, List, [], ◌∷◌, length, get_or, Option, Some, None, Ok, Err, refl, sym, ap, ◌∙◌, arith, rules}
use Rattle.std.specs.Prelude.{bytes_eq, codes, nat_lt, nat_le, neg_ℤ, decimal, if◌then◌else◌}
use Rattle.std.specs.Fmt.{signed_decimal}
use Rattle.std.specs.List.{list_all}
use Rattle.std.specs.Char.{is_ascii_digit}
use Rattle.std.specs.Str.Parse.{digits_value}
use Rattle.std.proofs.lemmas.Bool.Decides.{nat_tests}
use Rattle.std.proofs.lemmas.Fmt.{decimal-digits_value}
use Rattle.std.proofs.lemmas.Slice.Eq.{bytes_eq-Decides}
use Rattle.std.proofs.lemmas.Str.Parse.{IsNumeralModel, numerals_by_value}
use Rattle.tab_ids.specs.declared.NavId.{NavId}
use Rattle.tab_ids.specs.declared.ProcId.{ProcId}
use Rattle.tab_ids.specs.declared.ReqId.{ReqId}
use Rattle.log_model.specs.declared.request.Mode.{Mode}
use Rattle.log_model.specs.declared.request.Mode.TheVariants as modes
use Rattle.scenario_text.specs.declared.reason.Reason.TheVariants.{Number, Memo, UrlLength, Mode as NoMode}
use Rattle.scenario_text.specs.Chain.{◌>>=◌}
use Rattle.scenario_text.specs.Numbers.{are_digits, has_no_zero_in_front, number_of, delta_of}
use Rattle.scenario_text.specs.Printed.{memo_word, mode_word, stay_word}
use Rattle.scenario_text.specs.Readings.{nav_of, child_of, proc_of, request_of, mode_of, stay_of, memo_of, text_of}
use Rattle.scenario_text.proofs.Spelled.{bind_ok, ok_same}

pub same_bytes : (a b : List ℕ) → bytes_eq a b ≡ true → a ≡ b
same_bytes a b e = (bytes_eq-Decides a b).0 e

-- ---- numbers

own : IsNumeralModel (λ ds. list_all is_ascii_digit ds ≡ true) (digits_value 10)
own = numerals_by_value _ (search rules)

pub and_first : (b c : Bool) → (b && c) ≡ true → b ≡ true
and_first true c e = refl
and_first false c e = absurd cc

pub and_second : (b c : Bool) → (b && c) ≡ true → c ≡ true
and_second true c e = e
and_second false c e = absurd cc

pub some_digit : (word : List ℕ) → has_no_zero_in_front word ≡ true → 0 < length word
some_digit [] e = absurd cc
some_digit (d ∷ word) e = omega arith

lone_zero : (word : List ℕ) → has_no_zero_in_front word ≡ true → get_or word 0 0 ≡ 48 → length word ≡ 1
lone_zero [] e z = absurd cc
lone_zero (d ∷ []) e z = refl
lone_zero (d ∷ next ∷ others) e z = absurd (by_test (d == 48) refl e)
  where
    by_test : (b : Bool) → (d == 48) ≡ b → not (d == 48) ≡ true → ⊥
    by_test true at no_ = let e_ : false ≡ true = rw at at no_ in cc
    by_test false at no_ = let same : d ≡ 48 = z in let e_ : (d == 48) ≡ true = grind (arith, nat_tests) in cc

-- what is read as a number is digits, with no zero in front
pub record NumberIs (word : List ℕ) : Type 0 where
  pub digits : list_all is_ascii_digit word ≡ true
  pub front : has_no_zero_in_front word ≡ true

pub number_is : (low high : ℕ) (word : List ℕ) (n : ℕ) → number_of low high word ≡ Ok n → NumberIs word
unfolding number_of
number_is low high word n e =
    by_test (are_digits word) (has_no_zero_in_front word) (nat_le low (digits_value 10 word) && nat_le (digits_value 10 word) high) refl refl e
  where
    by_test : (a b c : Bool) → are_digits word ≡ a → has_no_zero_in_front word ≡ b → (if a && (b && c) then Ok (digits_value 10 word) else Err Number) ≡ Ok n → NumberIs word
    by_test true true c digits front read = record { digits = digits; front = front }
    by_test true false c digits front read = absurd cc
    by_test false b c digits front read = absurd cc

-- a number is written as it was read
pub number_text : (low high : ℕ) (word : List ℕ) (n : ℕ) → high < 2 ^ 64 → number_of low high word ≡ Ok n → (decimal n ≡ word) × (low ≤ n)
unfolding number_of
number_text low high word n small e =
    by_test (are_digits word && (has_no_zero_in_front word && (nat_le low (digits_value 10 word) && nat_le (digits_value 10 word) high))) refl e
  where
    by_test : (b : Bool) → (are_digits word && (has_no_zero_in_front word && (nat_le low (digits_value 10 word) && nat_le (digits_value 10 word) high))) ≡ b → (if b then Ok (digits_value 10 word) else Err Number) ≡ Ok n → (decimal n ≡ word) × (low ≤ n)
    by_test false at read = absurd cc
    by_test true at read =
        let same : digits_value 10 word ≡ n = ok_same read in
        let digits = and_first (are_digits word) (has_no_zero_in_front word && (nat_le low (digits_value 10 word) && nat_le (digits_value 10 word) high)) at in
        let rest = and_second (are_digits word) (has_no_zero_in_front word && (nat_le low (digits_value 10 word) && nat_le (digits_value 10 word) high)) at in
        let front = and_first (has_no_zero_in_front word) (nat_le low (digits_value 10 word) && nat_le (digits_value 10 word) high) rest in
        let bounds = and_second (has_no_zero_in_front word) (nat_le low (digits_value 10 word) && nat_le (digits_value 10 word) high) rest in
        let low_ : nat_le low (digits_value 10 word) ≡ true = and_first (nat_le low (digits_value 10 word)) (nat_le (digits_value 10 word) high) bounds in
        let high_ : nat_le (digits_value 10 word) high ≡ true = and_second (nat_le low (digits_value 10 word)) (nat_le (digits_value 10 word) high) bounds in
        let least : low ≤ digits_value 10 word = grind (arith, nat_tests) in
        let most : digits_value 10 word ≤ high = grind (arith, nat_tests) in
        let back : decimal (digits_value 10 word) ≡ word = decimal-digits_value own word digits (some_digit word front) (lone_zero word front) (omega (arith, most, small)) in
        (rw (← same) back, rw (← same) least)

back_text : (n : ℕ) (word : List ℕ) → decimal n ≡ word → 1 ≤ n → signed_decimal (neg_ℤ (pos n)) ≡ 45 ∷ word
back_text zero word e some = absurd (omega arith)
back_text (suc n) word e some = ap (λ (l : List ℕ). 45 ∷ l) e

-- a delta is written as it was read
pub delta_text : (word : List ℕ) (delta : ℤ) → delta_of word ≡ Ok delta → signed_decimal delta ≡ word
unfolding delta_of
delta_text [] delta e = absurd cc
delta_text (b ∷ word) delta e = by_test (b == 45) refl e
  where
    by_test : (back : Bool) → (b == 45) ≡ back → (if back then (number_of 1 999 word >>= λ number. Ok (neg_ℤ (pos number))) else (number_of 1 999 (b ∷ word) >>= λ number. Ok (pos number))) ≡ Ok delta → signed_decimal delta ≡ b ∷ word
    by_test true at read =
        let number = bind_ok (number_of 1 999 word) (λ (n : ℕ). Ok (neg_ℤ (pos n))) delta read in
        let text = number_text 1 999 word number.0 (omega arith) number.1 in
        let same : neg_ℤ (pos number.0) ≡ delta = ok_same number.2 in
        let dash : b ≡ 45 = grind (arith, nat_tests) in
        ap signed_decimal (sym same) ∙ back_text number.0 word text.0 text.1 ∙ ap (λ (x : ℕ). x ∷ word) (sym dash)
    by_test false at read =
        let number = bind_ok (number_of 1 999 (b ∷ word)) (λ (n : ℕ). Ok (pos n)) delta read in
        let text = number_text 1 999 (b ∷ word) number.0 (omega arith) number.1 in
        let same : pos number.0 ≡ delta = ok_same number.2 in
        ap signed_decimal (sym same) ∙ text.0

-- ---- fields

pub nav_text : (word : List ℕ) (nav : NavId) → nav_of word ≡ Ok nav → decimal nav.0 ≡ word
nav_text word nav e =
    let number = bind_ok (number_of 0 4095 word) (λ (n : ℕ). Ok (record { 0 = n })) nav e in
    let same : record { 0 = number.0 } ≡ nav = ok_same number.2 in
    ap (λ (n : NavId). decimal n.0) (sym same) ∙ (number_text 0 4095 word number.0 (omega arith) number.1).0

pub proc_text : (word : List ℕ) (proc : ProcId) → proc_of word ≡ Ok proc → decimal proc.0 ≡ word
proc_text word proc e =
    let number = bind_ok (number_of 1 16 word) (λ (n : ℕ). Ok (record { 0 = n })) proc e in
    let same : record { 0 = number.0 } ≡ proc = ok_same number.2 in
    ap (λ (p : ProcId). decimal p.0) (sym same) ∙ (number_text 1 16 word number.0 (omega arith) number.1).0

pub child_text : (word : List ℕ) (nav : NavId) → child_of word ≡ Ok nav → decimal nav.0 ≡ word
child_text word nav e =
    let number = bind_ok (number_of 1 4095 word) (λ (n : ℕ). Ok (record { 0 = n })) nav e in
    let same : record { 0 = number.0 } ≡ nav = ok_same number.2 in
    ap (λ (n : NavId). decimal n.0) (sym same) ∙ (number_text 1 4095 word number.0 (omega arith) number.1).0

pub request_text : (word : List ℕ) (req : ReqId) → request_of word ≡ Ok req → decimal req.0 ≡ word
request_text word req e =
    let number = bind_ok (number_of 1 65535 word) (λ (n : ℕ). Ok (record { 0 = n })) req e in
    let same : record { 0 = number.0 } ≡ req = ok_same number.2 in
    ap (λ (r : ReqId). decimal r.0) (sym same) ∙ (number_text 1 65535 word number.0 (omega arith) number.1).0

pub memo_text : (word : List ℕ) (memo : Option (List ℕ)) → memo_of word ≡ Ok memo → memo_word memo ≡ 32 ∷ word
memo_text word memo e = by_tests (bytes_eq word (codes "-")) (nat_lt 0 (length word) && nat_le (length word) 64) refl e
  where
    by_tests : (b c : Bool) → bytes_eq word (codes "-") ≡ b → (if b then Ok None else (if c then Ok (Some word) else Err Memo)) ≡ Ok memo → memo_word memo ≡ 32 ∷ word
    by_tests true c at read =
        let same : None ≡ memo = ok_same read in
        let dash : word ≡ codes "-" = same_bytes word (codes "-") at in
        ap (λ (m : Option (List ℕ)). memo_word m) (sym same) ∙ ap (λ (l : List ℕ). 32 ∷ l) (sym dash)
    by_tests false true at read = let same : Some word ≡ memo = ok_same read in ap (λ (m : Option (List ℕ)). memo_word m) (sym same)
    by_tests false false at read = absurd cc

pub long_text : (word text : List ℕ) → text_of word ≡ Ok text → text ≡ word
long_text word text e = by_test (nat_lt 0 (length word) && nat_le (length word) 2048) e
  where
    by_test : (b : Bool) → (if b then Ok word else Err UrlLength) ≡ Ok text → text ≡ word
    by_test true read = sym (ok_same read)
    by_test false read = absurd cc

pub mode_text : (word : List ℕ) (mode : Mode) → mode_of word ≡ Ok mode → mode_word mode ≡ 32 ∷ word
mode_text word mode e = by_tests (bytes_eq word (codes "auto")) (bytes_eq word (codes "push")) (bytes_eq word (codes "replace")) refl refl refl e
  where
    by_tests : (a b c : Bool) → bytes_eq word (codes "auto") ≡ a → bytes_eq word (codes "push") ≡ b → bytes_eq word (codes "replace") ≡ c → (if a then Ok modes.Auto else (if b then Ok modes.Push else (if c then Ok modes.Replace else Err NoMode))) ≡ Ok mode → mode_word mode ≡ 32 ∷ word
    by_tests true b c at1 at2 at3 read =
        ap (λ (m : Mode). mode_word m) (sym (ok_same read)) ∙ ap (λ (l : List ℕ). 32 ∷ l) (sym (same_bytes word (codes "auto") at1))
    by_tests false true c at1 at2 at3 read =
        ap (λ (m : Mode). mode_word m) (sym (ok_same read)) ∙ ap (λ (l : List ℕ). 32 ∷ l) (sym (same_bytes word (codes "push") at2))
    by_tests false false true at1 at2 at3 read =
        ap (λ (m : Mode). mode_word m) (sym (ok_same read)) ∙ ap (λ (l : List ℕ). 32 ∷ l) (sym (same_bytes word (codes "replace") at3))
    by_tests false false false at1 at2 at3 read = absurd cc

pub stay_text : (word : List ℕ) (stay : Bool) → stay_of word ≡ Ok stay → stay_word stay ≡ 32 ∷ word
stay_text word stay e = by_tests (bytes_eq word (codes "stay")) (bytes_eq word (codes "leave")) refl refl e
  where
    by_tests : (a b : Bool) → bytes_eq word (codes "stay") ≡ a → bytes_eq word (codes "leave") ≡ b → (if a then Ok true else (if b then Ok false else Err NoMode)) ≡ Ok stay → stay_word stay ≡ 32 ∷ word
    by_tests true b at1 at2 read =
        ap (λ (s : Bool). stay_word s) (sym (ok_same read)) ∙ ap (λ (l : List ℕ). 32 ∷ l) (sym (same_bytes word (codes "stay") at1))
    by_tests false true at1 at2 read =
        ap (λ (s : Bool). stay_word s) (sym (ok_same read)) ∙ ap (λ (l : List ℕ). 32 ∷ l) (sym (same_bytes word (codes "leave") at2))
    by_tests false false at1 at2 read = absurd cc
