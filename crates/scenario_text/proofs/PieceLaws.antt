-- Cutting a text at its first separator, again and again.
use Rattle.std.proofs.Common.{◌≡◌, ℕ, ◌+◌, ◌<◌, ◌≤◌, List, [], ◌∷◌, length, take, drop, All, Bool, true, false, cond, Some, None, refl, subst, arith}
use Rattle.std.proofs.Math.Dec.{eqb, ltb}
use Rattle.std.specs.List.{position, position_or_len, slice_split}
use Rattle.std.proofs.lemmas.Option.{cond_some}
use Rattle.std.proofs.lemmas.Bool.{ltb-true, ltb-false}
use Rattle.std.proofs.lemmas.List.{get_or-take, length-take-le}
use Rattle.std.proofs.lemmas.List.Elements.{All-from_get_or}
use Rattle.std.proofs.lemmas.List.Sums.{fails_before_first}
use Rattle.std.proofs.lemmas.List.Splits.{slice_split_first, slice_split_none, length-slice_split}
use Rattle.scenario_text.specs.Pieces.{pieces}
use Rattle.scenario_text.specs.Words.{split_words, more}

-- where there is a separator, the first piece ends at it
pub pieces_first : (separator : ℕ) (bytes : List ℕ) (at : ℕ) → position (λ b. eqb b separator) bytes ≡ Some at
    → (at < length bytes) × (pieces separator bytes ≡ take at bytes ∷ pieces separator (drop (at + 1) bytes))
unfolding pieces
pieces_first separator bytes at found =
    let p = λ (b : ℕ). eqb b separator in
    let both = cond_some (ltb (position_or_len p bytes) (length bytes)) (position_or_len p bytes) at found in
    let inside : position_or_len p bytes < length bytes = ltb-true _ _ both.0 in
    (subst (λ (i : ℕ). i < length bytes) both.1 inside, subst (λ (i : ℕ). slice_split p bytes ≡ take i bytes ∷ slice_split p (drop (i + 1) bytes)) both.1 (slice_split_first p bytes 0 inside))

is_false : (b : Bool) (x : ℕ) → cond b (Some x) None ≡ None → b ≡ false
is_false true x e = cc
is_false false x e = refl

-- where there is none, the text is one piece
pub pieces_only : (separator : ℕ) (bytes : List ℕ) → position (λ b. eqb b separator) bytes ≡ None → pieces separator bytes ≡ bytes ∷ []
unfolding pieces
pieces_only separator bytes none =
    let p = λ (b : ℕ). eqb b separator in
    let outside : length bytes ≤ position_or_len p bytes = ltb-false _ _ (is_false _ _ none) in
    slice_split_none p bytes (All-from_get_or (λ b. p b ≡ false) bytes 0 (λ i inside. fails_before_first p bytes i 0 (omega arith)))

-- nothing before the first separator is one
pub none_before : (separator : ℕ) (bytes : List ℕ) (at : ℕ) → position (λ b. eqb b separator) bytes ≡ Some at → All (λ b. eqb b separator ≡ false) (take at bytes)
none_before separator bytes at found =
    let p = λ (b : ℕ). eqb b separator in
    let both = cond_some (ltb (position_or_len p bytes) (length bytes)) (position_or_len p bytes) at found in
    let inside : position_or_len p bytes < length bytes = ltb-true _ _ both.0 in
    let first : position_or_len p bytes ≡ at = both.1 in
    let long : length (take at bytes) ≡ at = length-take-le at bytes (omega (arith, inside, first)) in
    All-from_get_or (λ b. p b ≡ false) (take at bytes) 0 (λ i below. rw (get_or-take at bytes i 0 (omega (arith, long, below))) (fails_before_first p bytes i 0 (omega (arith, long, below, first))))

-- there is at least one piece
pub length-pieces : (separator : ℕ) (bytes : List ℕ) → 0 < length (pieces separator bytes)
unfolding pieces
length-pieces separator bytes = omega (arith, length-slice_split (λ b. eqb b separator) bytes)

-- four words and at least one other are more than a line may have
pub split_words-more : (word a b c : List ℕ) (others : List (List ℕ)) → 0 < length others → split_words (word ∷ a ∷ b ∷ c ∷ others) ≡ (word, more)
split_words-more word a b c [] some = absurd (omega arith)
split_words-more word a b c (d ∷ others) some = refl

-- a line cut four times has more words than it may
pub cut_four : (line word a b c r1 r2 r3 r4 : List ℕ) → pieces 32 line ≡ word ∷ pieces 32 r1 → pieces 32 r1 ≡ a ∷ pieces 32 r2 → pieces 32 r2 ≡ b ∷ pieces 32 r3 → pieces 32 r3 ≡ c ∷ pieces 32 r4
    → split_words (pieces 32 line) ≡ (word, more)
cut_four line word a b c r1 r2 r3 r4 e1 e2 e3 e4 = rw (e1, e2, e3, e4) (split_words-more word a b c (pieces 32 r4) (length-pieces 32 r4))
