-- Words, parted by one space, and the words of the text that they make.
use Rattle.std.proofs.Common.{◌≡◌, ℕ, ◌+◌, ◌<◌, ◌==◌, ◌&&◌, Bool, true, false, List, [], ◌∷◌, ◌++◌, length, drop, get_or, refl, ap, ◌∙◌, arith, append-nil}
use Rattle.std.specs.Prelude.{nat_lt, nat_le}
use Rattle.std.specs.List.{list_all, position_or_len}
use Rattle.std.proofs.lemmas.Bool.Decides.{nat_tests}
use Rattle.std.proofs.lemmas.List.{take_all, drop_all}
use Rattle.std.proofs.Math.Seq.{take-append_seam, drop-append-add}
use Rattle.log_text.specs.Lines.{spaced}
use Rattle.log_reading.specs.Readable.{is_word_byte, IsWord}
use Rattle.log_reading.specs.Words.{before, after, first_word, after_word, Part, part_of}

pub and_first : (b c : Bool) → (b && c) ≡ true → b ≡ true
and_first true c e = refl
and_first false c e = absurd cc

pub and_second : (b c : Bool) → (b && c) ≡ true → c ≡ true
and_second true c e = e
and_second false c e = absurd cc

-- ---- a text without a separator

-- the separator isn't in the text
abbrev pub Lacks : ℕ → List ℕ → Type 0
Lacks separator [] = Unit {0}
Lacks separator (b ∷ text) = ((b == separator) ≡ false) × Lacks separator text

pub Lacks-append : (separator : ℕ) (a b : List ℕ) → Lacks separator a → Lacks separator b → Lacks separator (a ++ b)
Lacks-append separator [] b first second = second
Lacks-append separator (x ∷ a) b first second = (first.0, Lacks-append separator a b first.1 second)

-- a word has no space and no line feed in it
pub word_lacks : (separator : ℕ) (w : List ℕ) → separator < 33 → list_all is_word_byte w ≡ true → Lacks separator w
word_lacks separator [] low bytes = tt
word_lacks separator (b ∷ w) low bytes =
    let here : is_word_byte b ≡ true = and_first (is_word_byte b) (list_all is_word_byte w) bytes in
    let high : nat_lt 32 b ≡ true = and_first (nat_lt 32 b) (nat_le b 126) here in
    let apart : (b == separator) ≡ false = grind (arith, nat_tests) in
    (apart, word_lacks separator w low (and_second (is_word_byte b) (list_all is_word_byte w) bytes))

-- ---- cutting

pub place : (separator : ℕ) (w rest : List ℕ) → (separator == separator) ≡ true → Lacks separator w → position_or_len (λ b. b == separator) (w ++ separator ∷ rest) ≡ length w
place separator [] rest same lacks = rw same refl
place separator (b ∷ w) rest same lacks = rw (lacks.0, place separator w rest same lacks.1) (omega arith)

pub no_place : (separator : ℕ) (w : List ℕ) → Lacks separator w → position_or_len (λ b. b == separator) w ≡ length w
no_place separator [] lacks = refl
no_place separator (b ∷ w) lacks = rw (lacks.0, no_place separator w lacks.1) (omega arith)

pub before_word : (separator : ℕ) (w rest : List ℕ) → (separator == separator) ≡ true → Lacks separator w → before separator (w ++ separator ∷ rest) ≡ w
unfolding before
before_word separator w rest same lacks = rw (place separator w rest same lacks) (take-append_seam w (separator ∷ rest))

pub after_first_word : (separator : ℕ) (w rest : List ℕ) → (separator == separator) ≡ true → Lacks separator w → after separator (w ++ separator ∷ rest) ≡ rest
unfolding after
after_first_word separator w rest same lacks = rw (place separator w rest same lacks) (drop-append-add w (separator ∷ rest) 1)

pub before_none : (separator : ℕ) (w : List ℕ) → Lacks separator w → before separator w ≡ w
unfolding before
before_none separator w lacks = rw (no_place separator w lacks) (take_all (length w) w (omega arith))

pub after_none : (separator : ℕ) (w : List ℕ) → Lacks separator w → after separator w ≡ []
unfolding after
after_none separator w lacks = rw (no_place separator w lacks) (drop_all (length w + 1) w (omega arith))

-- ---- words in a row

-- each is a word
abbrev pub AreWords : List (List ℕ) → Type 0
AreWords [] = Unit {0}
AreWords (w ∷ ws) = IsWord w × AreWords ws

-- the text of words, with a space between two
abbrev pub joined : List (List ℕ) → List ℕ
joined [] = []
joined (w ∷ ws) = w ++ spaced ws

pub AreWords-rest : (ws : List (List ℕ)) → AreWords ws → AreWords (drop 1 ws)
AreWords-rest [] are = tt
AreWords-rest (w ∷ ws) are = are.1

pub first_joined : (ws : List (List ℕ)) → AreWords ws → first_word (joined ws) ≡ get_or ws 0 []
first_joined [] are = before_none 32 [] tt
first_joined (w ∷ []) are =
    ap (λ (l : List ℕ). before 32 l) (append-nil w) ∙ before_none 32 w (word_lacks 32 w (omega arith) are.0.bytes)
first_joined (w ∷ v ∷ ws) are = before_word 32 w (v ++ spaced ws) refl (word_lacks 32 w (omega arith) are.0.bytes)

pub after_joined : (ws : List (List ℕ)) → AreWords ws → after_word (joined ws) ≡ joined (drop 1 ws)
after_joined [] are = after_none 32 [] tt
after_joined (w ∷ []) are =
    ap (λ (l : List ℕ). after 32 l) (append-nil w) ∙ after_none 32 w (word_lacks 32 w (omega arith) are.0.bytes)
after_joined (w ∷ v ∷ ws) are = after_first_word 32 w (v ++ spaced ws) refl (word_lacks 32 w (omega arith) are.0.bytes)

-- ---- the words of a part

abbrev pub part_at : List (List ℕ) → Part
part_at ws =
    let w1 = drop 1 ws in
    let w2 = drop 1 w1 in
    let w3 = drop 1 w2 in
    let w4 = drop 1 w3 in
    let w5 = drop 1 w4 in
    let w6 = drop 1 w5 in
    record { name = get_or ws 0 []; a = get_or w1 0 []; b = get_or w2 0 []; c = get_or w3 0 []; d = get_or w4 0 []; e = get_or w5 0 []; f = get_or w6 0 [] }

pub part_joined : (ws : List (List ℕ)) → AreWords ws → part_of (joined ws) ≡ part_at ws
unfolding part_of
part_joined ws are =
    let w1 = drop 1 ws in
    let w2 = drop 1 w1 in
    let w3 = drop 1 w2 in
    let w4 = drop 1 w3 in
    let w5 = drop 1 w4 in
    let w6 = drop 1 w5 in
    let are1 = AreWords-rest ws are in
    let are2 = AreWords-rest w1 are1 in
    let are3 = AreWords-rest w2 are2 in
    let are4 = AreWords-rest w3 are3 in
    let are5 = AreWords-rest w4 are4 in
    let are6 = AreWords-rest w5 are5 in
    rw (
      after_joined ws are,
      after_joined w1 are1,
      after_joined w2 are2,
      after_joined w3 are3,
      after_joined w4 are4,
      after_joined w5 are5,
      first_joined ws are,
      first_joined w1 are1,
      first_joined w2 are2,
      first_joined w3 are3,
      first_joined w4 are4,
      first_joined w5 are5,
      first_joined w6 are6,
    )
    refl
