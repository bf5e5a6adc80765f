-- Words, parted by one space, are the words of the line that they make.
use Rattle.std.proofs.Common.{◌≡◌, ℕ, true, false, ◌==◌, List, [], ◌∷◌, ◌++◌, length, Ok, All, refl, ap, ◌∙◌, arith}
use Rattle.std.specs.Prelude.{nat_lt, nat_le}
use Rattle.std.specs.List.{list_all, list_any}
use Rattle.std.specs.Char.{is_ascii_digit}
use Rattle.std.proofs.lemmas.Bool.Decides.{nat_tests}
use Rattle.std.proofs.lemmas.List.Elements.{All-nil, All-cons}
use Rattle.std.proofs.lemmas.List.Splits.{slice_split_at, slice_split_none}
use Rattle.scenario_text.specs.Numbers.{has_no_zero_in_front, number_of}
use Rattle.scenario_text.specs.Pieces.{pieces}
use Rattle.scenario_text.specs.Written.{is_word_byte, IsWord}
use Rattle.scenario_text.specs.Words as words
use Rattle.scenario_text.specs.Words.{words_of, split_words}
use Rattle.scenario_text.specs.Grammar.{is_plain, has_empty_word}
use Rattle.scenario_text.proofs.FieldTexts.{and_first, and_second, NumberIs, number_is}

word_apart : (w : List ℕ) → list_all is_word_byte w ≡ true → All (λ b. (b == 32) ≡ false) w
word_apart [] bytes = All-nil (λ (x : ℕ). (x == 32) ≡ false)
word_apart (b ∷ w) bytes =
    let here : is_word_byte b ≡ true = and_first (is_word_byte b) (list_all is_word_byte w) bytes in
    let low : nat_lt 32 b ≡ true = and_first (nat_lt 32 b) (nat_le b 126) here in
    All-cons (λ (x : ℕ). (x == 32) ≡ false) b w (let apart : (b == 32) ≡ false = grind (arith, nat_tests) in apart) (word_apart w (and_second (is_word_byte b) (list_all is_word_byte w) bytes))

first_word : (w rest : List ℕ) → IsWord w → words_of (w ++ 32 ∷ rest) ≡ w ∷ words_of rest
unfolding pieces
first_word w rest is = slice_split_at (λ b. b == 32) w 32 rest (word_apart w is.bytes) refl

last_word : (w : List ℕ) → IsWord w → words_of w ≡ w ∷ []
unfolding pieces
last_word w is = slice_split_none (λ b. b == 32) w (word_apart w is.bytes)

plain_byte : (b : ℕ) → is_word_byte b ≡ true → is_plain b ≡ true
plain_byte b is =
    let low : nat_lt 32 b ≡ true = and_first (nat_lt 32 b) (nat_le b 126) is in
    let high : nat_le b 126 ≡ true = and_second (nat_lt 32 b) (nat_le b 126) is in
    let low_ : nat_le 32 b ≡ true = grind (arith, nat_tests) in
    rw (low_, high) refl

-- the bytes of a word before others
plain_before : (w rest : List ℕ) → list_all is_word_byte w ≡ true → list_all is_plain rest ≡ true → list_all is_plain (w ++ rest) ≡ true
plain_before [] rest bytes plain = plain
plain_before (b ∷ w) rest bytes plain =
    let here : is_plain b ≡ true = plain_byte b (and_first (is_word_byte b) (list_all is_word_byte w) bytes) in
    rw (here, plain_before w rest (and_second (is_word_byte b) (list_all is_word_byte w) bytes) plain) refl

plain_word : (w : List ℕ) → list_all is_word_byte w ≡ true → list_all is_plain w ≡ true
plain_word [] bytes = refl
plain_word (b ∷ w) bytes =
    let here : is_plain b ≡ true = plain_byte b (and_first (is_word_byte b) (list_all is_word_byte w) bytes) in
    rw (here, plain_word w (and_second (is_word_byte b) (list_all is_word_byte w) bytes)) refl

-- ---- lines of two, three and four words

-- a text with this first word and these others, and no fault in its form
pub record IsLine (text word : List ℕ) (fields : words.Fields) : Type 0 where
  pub split : split_words (words_of text) ≡ (word, fields)
  pub plain : list_all is_plain text ≡ true
  pub full : has_empty_word text ≡ false

pub two_words : (a b : List ℕ) → IsWord a → IsWord b → IsLine (a ++ 32 ∷ b) a (words.one b)
two_words a b is_a is_b =
    let cut : words_of (a ++ 32 ∷ b) ≡ a ∷ b ∷ [] = first_word a b is_a ∙ ap (λ (l : List (List ℕ)). a ∷ l) (last_word b is_b) in
    record {
      split = ap (λ (l : List (List ℕ)). split_words l) cut;
      plain = plain_before a (32 ∷ b) is_a.bytes (plain_word b is_b.bytes);
      full = ap (λ (l : List (List ℕ)). list_any (λ w. length w == 0) l) cut ∙ rw (is_a.some, is_b.some) refl;
    }

pub three_words : (a b c : List ℕ) → IsWord a → IsWord b → IsWord c → IsLine (a ++ 32 ∷ (b ++ 32 ∷ c)) a (words.two b c)
three_words a b c is_a is_b is_c =
    let cut : words_of (a ++ 32 ∷ (b ++ 32 ∷ c)) ≡ a ∷ b ∷ c ∷ [] =
    first_word a (b ++ 32 ∷ c) is_a ∙ ap (λ (l : List (List ℕ)). a ∷ l) (first_word b c is_b ∙ ap (λ (l : List (List ℕ)). b ∷ l) (last_word c is_c)) in
    record {
      split = ap (λ (l : List (List ℕ)). split_words l) cut;
      plain = plain_before a (32 ∷ (b ++ 32 ∷ c)) is_a.bytes (plain_before b (32 ∷ c) is_b.bytes (plain_word c is_c.bytes));
      full = ap (λ (l : List (List ℕ)). list_any (λ w. length w == 0) l) cut ∙ rw (is_a.some, is_b.some, is_c.some) refl;
    }

pub four_words : (a b c d : List ℕ) → IsWord a → IsWord b → IsWord c → IsWord d → IsLine (a ++ 32 ∷ (b ++ 32 ∷ (c ++ 32 ∷ d))) a (words.three b c d)
four_words a b c d is_a is_b is_c is_d =
    let cut : words_of (a ++ 32 ∷ (b ++ 32 ∷ (c ++ 32 ∷ d))) ≡ a ∷ b ∷ c ∷ d ∷ [] =
    first_word a (b ++ 32 ∷ (c ++ 32 ∷ d)) is_a
    ∙ ap (λ (l : List (List ℕ)). a ∷ l) (first_word b (c ++ 32 ∷ d) is_b ∙ ap (λ (l : List (List ℕ)). b ∷ l) (first_word c d is_c ∙ ap (λ (l : List (List ℕ)). c ∷ l) (last_word d is_d))) in
    record {
      split = ap (λ (l : List (List ℕ)). split_words l) cut;
      plain = plain_before a (32 ∷ (b ++ 32 ∷ (c ++ 32 ∷ d))) is_a.bytes (plain_before b (32 ∷ (c ++ 32 ∷ d)) is_b.bytes (plain_before c (32 ∷ d) is_c.bytes (plain_word d is_d.bytes)));
      full = ap (λ (l : List (List ℕ)). list_any (λ w. length w == 0) l) cut ∙ rw (is_a.some, is_b.some, is_c.some, is_d.some) refl;
    }

-- ---- the word of a number

digits_are_word : (w : List ℕ) → list_all is_ascii_digit w ≡ true → list_all is_word_byte w ≡ true
digits_are_word [] digits = refl
digits_are_word (b ∷ w) digits =
    let here : is_ascii_digit b ≡ true = and_first (is_ascii_digit b) (list_all is_ascii_digit w) digits in
    let byte : is_word_byte b ≡ true = grind (arith, nat_tests) in
    rw (byte, digits_are_word w (and_second (is_ascii_digit b) (list_all is_ascii_digit w) digits)) refl

some_word : (w : List ℕ) → has_no_zero_in_front w ≡ true → (length w == 0) ≡ false
some_word [] e = absurd cc
some_word (b ∷ w) e = let some : (length (b ∷ w) == 0) ≡ false = grind (arith, nat_tests) in some

-- what is read as a number may stand as a word
pub number_is_word : (low high : ℕ) (w : List ℕ) (n : ℕ) → number_of low high w ≡ Ok n → IsWord w
number_is_word low high w n e =
    let is : NumberIs w = number_is low high w n e in
    record { some = some_word w is.front; bytes = digits_are_word w is.digits }
