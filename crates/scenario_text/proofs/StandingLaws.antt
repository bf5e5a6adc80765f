-- Where the words of a line stand in it, and the lines of a text.
use Rattle.std.proofs.Common.{◌≡◌, ℕ, ◌+◌, ◌-◌, ◌<◌, ◌≤◌, List, [], ◌∷◌, ◌++◌, length, take, drop, refl, sym, ap, subst, ◌∙◌, arith}
use Rattle.std.specs.List.{join_with_byte}
use Rattle.std.proofs.Math.Seq.{drop-append-add, take-append_seam, take-length}
use Rattle.std.proofs.lemmas.List.{take-append-drop, length-append, length-take-le, append_assoc, drop-drop}
use Rattle.std.proofs.lemmas.List.Splits.{join_with_byte-slice_split}
use Rattle.scenario_text.specs.Pieces.{pieces}
use Rattle.scenario_text.specs.Standing.{Stands}
use Rattle.scenario_text.specs.Words as words
use Rattle.scenario_text.specs.Words.{words_of, split_words}
use Rattle.scenario_text.proofs.LineTexts.{IsText, text_of_words}
use Rattle.scenario_text.proofs.PieceLaws.{length-pieces}

-- a word that others follow
here : (word after : List ℕ) → Stands (word ++ after) word (length after)
here word after =
    let from : length (word ++ after) - length after - length word ≡ 0 = omega (arith, length-append word after) in
    record {
      within = omega (arith, length-append word after);
      is = rw from (take-append_seam word after);
    }

whole : (word : List ℕ) → Stands word word 0
whole word =
    let from : length word - 0 - length word ≡ 0 = omega arith in
    record { within = omega arith; is = rw from (take-length word) }

-- the same behind others
later : (before rest word : List ℕ) (after : ℕ) → Stands rest word after → Stands (before ++ rest) word after
later before rest word after stands =
    let from : length (before ++ rest) - after - length word ≡ length before + (length rest - after - length word) = omega (arith, length-append before rest, stands.within) in
    record {
      within = omega (arith, length-append before rest, stands.within);
      is = rw (from, drop-append-add before rest (length rest - after - length word)) stands.is;
    }

-- a list before and behind a word of it
around : (line word : List ℕ) (after : ℕ) → Stands line word after
    → line ≡ take (length line - after - length word) line ++ (word ++ drop (length word) (drop (length line - after - length word) line))
around line word after stands =
    let from = length line - after - length word in
    sym (take-append-drop from line)
    ∙ ap (λ (rest : List ℕ). take from line ++ rest) (sym (take-append-drop (length word) (drop from line)) ∙ ap (λ (first : List ℕ). first ++ drop (length word) (drop from line)) stands.is)

-- a word of a line of a text stands in the text
stands_in_text : (text line word : List ℕ) (behind after : ℕ) → Stands text line behind → Stands line word after → Stands text word (behind + after)
stands_in_text text line word behind after outer inner =
    let before = take (length text - behind - length line) text in
    let last = drop (length line) (drop (length text - behind - length line) text) in
    let first = take (length line - after - length word) line in
    let rest = drop (length word) (drop (length line - after - length word) line) in
    let is : text ≡ before ++ (first ++ (word ++ (rest ++ last))) =
    around text line behind outer ∙ ap (λ (l : List ℕ). before ++ (l ++ last)) (around line word after inner)
    ∙ ap (λ (l : List ℕ). before ++ l) (append_assoc first (word ++ rest) last ∙ ap (λ (l : List ℕ). first ++ l) (append_assoc word rest last)) in
    let stands : Stands (before ++ (first ++ (word ++ (rest ++ last)))) word (length (rest ++ last)) =
    later before (first ++ (word ++ (rest ++ last))) word (length (rest ++ last)) (later first (word ++ (rest ++ last)) word (length (rest ++ last)) (here word (rest ++ last))) in
    let long : length text ≡ length before + (length first + (length word + length (rest ++ last))) =
    ap (λ (l : List ℕ). length l) is ∙ length-append before (first ++ (word ++ (rest ++ last)))
    ∙ ap (λ (n : ℕ). length before + n) (length-append first (word ++ (rest ++ last)) ∙ ap (λ (n : ℕ). length first + n) (length-append word (rest ++ last))) in
    let count : length (rest ++ last) ≡ behind + after =
    omega (arith, long, outer.within, inner.within, length-take-le (length text - behind - length line) text (omega arith), length-take-le (length line - after - length word) line (omega arith)) in
    subst (λ (n : ℕ). Stands text word n) count (subst (λ (t : List ℕ). Stands t word (length (rest ++ last))) (sym is) stands)

-- the part of a text that a word of a line of it stands at
pub part_is : (text line word : List ℕ) (behind after : ℕ) → Stands text line behind → Stands line word after
    → take ((length text - behind - after) - (length text - behind - after - length word)) (drop (length text - behind - after - length word) text) ≡ word
part_is text line word behind after outer inner =
    let stands = stands_in_text text line word behind after outer inner in
    let from : length text - behind - after - length word ≡ length text - (behind + after) - length word = omega arith in
    let long : (length text - behind - after) - (length text - behind - after - length word) ≡ length word = omega (arith, stands.within) in
    rw (long, from) stands.is

-- ---- words of a line

pub last_of_two : (line nav memo : List ℕ) → words.two nav memo ≡ (split_words (words_of line)).1 → Stands line memo 0
last_of_two line nav memo fields =
    let word = (split_words (words_of line)).0 in
    let is : line ≡ word ++ 32 ∷ (nav ++ 32 ∷ memo) = subst (λ (f : words.Fields). IsText line word f) (sym fields) (text_of_words line) in
    subst (λ (l : List ℕ). Stands l memo 0) (sym is) (later word (32 ∷ (nav ++ 32 ∷ memo)) memo 0 (later (32 ∷ nav) (32 ∷ memo) memo 0 (later (32 ∷ []) memo memo 0 (whole memo))))

pub last_of_three : (line nav memo reference : List ℕ) → words.three nav memo reference ≡ (split_words (words_of line)).1 → Stands line reference 0
last_of_three line nav memo reference fields =
    let word = (split_words (words_of line)).0 in
    let is : line ≡ word ++ 32 ∷ (nav ++ 32 ∷ (memo ++ 32 ∷ reference)) = subst (λ (f : words.Fields). IsText line word f) (sym fields) (text_of_words line) in
    subst (λ (l : List ℕ). Stands l reference 0) (sym is) (later word (32 ∷ (nav ++ 32 ∷ (memo ++ 32 ∷ reference))) reference 0 (later (32 ∷ nav) (32 ∷ (memo ++ 32 ∷ reference)) reference 0 (later (32 ∷ memo) (32 ∷ reference) reference 0 (later (32 ∷ []) reference reference 0 (whole reference)))))

pub memo_of_three : (line nav memo reference : List ℕ) → words.three nav memo reference ≡ (split_words (words_of line)).1 → Stands line memo (length reference + 1)
memo_of_three line nav memo reference fields =
    let word = (split_words (words_of line)).0 in
    let is : line ≡ word ++ 32 ∷ (nav ++ 32 ∷ (memo ++ 32 ∷ reference)) = subst (λ (f : words.Fields). IsText line word f) (sym fields) (text_of_words line) in
    let after = length (32 ∷ reference) in
    let at : Stands line memo after = subst (λ (l : List ℕ). Stands l memo after) (sym is) (later word (32 ∷ (nav ++ 32 ∷ (memo ++ 32 ∷ reference))) memo after (later (32 ∷ nav) (32 ∷ (memo ++ 32 ∷ reference)) memo after (later (32 ∷ []) (memo ++ 32 ∷ reference) memo after (here memo (32 ∷ reference))))) in
    let count : after ≡ length reference + 1 = omega arith in
    subst (λ (n : ℕ). Stands line memo n) count at

pub ruleset words_stand = (last_of_two, last_of_three, memo_of_three)

-- ---- lines of a text

-- what is left of a text to be read
pub record IsLeft (text rest : List ℕ) : Type 0 where
  pub short : length rest ≤ length text
  pub is : drop (length text - length rest) text ≡ rest

pub all_left : (text : List ℕ) → IsLeft text text
all_left text =
    let none : length text - length text ≡ 0 = omega arith in
    record { short = omega arith; is = rw none refl }

joined_more : (separator : ℕ) (first : List ℕ) (others : List (List ℕ)) → 0 < length others → join_with_byte separator (first ∷ others) ≡ first ++ separator ∷ join_with_byte separator others
joined_more separator first [] some = absurd (omega arith)
joined_more separator first (second ∷ others) some = refl

-- a text is its first line, the line feed, and what follows
line_whole : (separator : ℕ) (rest line after : List ℕ) → pieces separator rest ≡ line ∷ pieces separator after → rest ≡ line ++ separator ∷ after
unfolding pieces
line_whole separator rest line after cut =
    sym (join_with_byte-slice_split separator rest) ∙ ap (λ (all : List (List ℕ)). join_with_byte separator all) cut
    ∙ joined_more separator line (pieces separator after) (length-pieces separator after) ∙ ap (λ (text : List ℕ). line ++ separator ∷ text) (join_with_byte-slice_split separator after)

-- the line that is cut off stands in the text
pub line_stands : (text rest line after : List ℕ) → IsLeft text rest → pieces 10 rest ≡ line ∷ pieces 10 after → Stands text line (length after + 1)
line_stands text rest line after left cut =
    let before = take (length text - length rest) text in
    let is : text ≡ before ++ (line ++ 10 ∷ after) = sym (take-append-drop (length text - length rest) text) ∙ ap (λ (r : List ℕ). before ++ r) (left.is ∙ line_whole 10 rest line after cut) in
    let stands : Stands (before ++ (line ++ 10 ∷ after)) line (length (10 ∷ after)) = later before (line ++ 10 ∷ after) line (length (10 ∷ after)) (here line (10 ∷ after)) in
    let count : length (10 ∷ after) ≡ length after + 1 = omega arith in
    subst (λ (n : ℕ). Stands text line n) count (subst (λ (t : List ℕ). Stands t line (length (10 ∷ after))) (sym is) stands)

-- and what follows it is left then
pub left_after : (text rest line after : List ℕ) → IsLeft text rest → pieces 10 rest ≡ line ∷ pieces 10 after → IsLeft text after
left_after text rest line after left cut =
    let is : rest ≡ line ++ 10 ∷ after = line_whole 10 rest line after cut in
    let long : length rest ≡ length line + length (10 ∷ after) = ap (λ (r : List ℕ). length r) is ∙ length-append line (10 ∷ after) in
    let count : length (10 ∷ after) ≡ length after + 1 = omega arith in
    let from : length text - length after ≡ (length text - length rest) + (length line + 1) = omega (arith, long, count, left.short) in
    record {
      short = omega (arith, long, count, left.short);
      is = ap (λ (n : ℕ). drop n text) from ∙ sym (drop-drop (length line + 1) (length text - length rest) text)
          ∙ ap (λ (r : List ℕ). drop (length line + 1) r) (left.is ∙ is) ∙ drop-append-add line (10 ∷ after) 1;
    }

pub ruleset lines_stand = (all_left, line_stands, left_after)
