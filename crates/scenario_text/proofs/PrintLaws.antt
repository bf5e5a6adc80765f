-- A printed scenario is read back: first the lines after `open`.
use Rattle.std.proofs.Common.{◌≡◌, ℕ, ◌+◌, ◌≤◌, Bool, true, false, ◌&&◌, ◌==◌, List, [], ◌∷◌, ◌++◌, length, Option, Some, None, Ok, All, refl, sym, ap, subst, ◌∙◌, arith, append-nil, append_assoc}
use Rattle.std.specs.Prelude.{codes, decimal, flat_map, nat_le}
use Rattle.std.specs.List.{list_all}
use Rattle.std.proofs.lemmas.Bool.Decides.{nat_tests}
use Rattle.std.proofs.lemmas.List.Elements.{All-nil, All-cons}
use Rattle.std.proofs.lemmas.List.Splits.{slice_split_at}
use Rattle.tab_ids.specs.declared.NavId.{NavId}
use Rattle.log_model.specs.declared.header.Header.{Header}
use Rattle.log_model.specs.declared.request.Mode.{Mode}
use Rattle.log_model.specs.declared.request.Mode.TheVariants as modes
use Rattle.log_model.specs.declared.request.Request.TheVariants as requests
use Rattle.scenario_text.specs.declared.built.Built.{Built}
use Rattle.scenario_text.specs.declared.line.ScenarioLine.{ScenarioLine}
use Rattle.scenario_text.specs.declared.line.ScenarioLine.TheVariants as lines
use Rattle.scenario_text.specs.declared.place.Place.{Place}
use Rattle.scenario_text.specs.declared.place.Place.TheVariants as places
use Rattle.scenario_text.specs.declared.word.Word.{Word}
use Rattle.scenario_text.specs.declared.word.Word.TheVariants as kinds
use Rattle.scenario_text.specs.Chain.{◌>>=◌}
use Rattle.scenario_text.specs.Numbers.{number_of}
use Rattle.scenario_text.specs.Pieces.{pieces}
use Rattle.scenario_text.specs.Plays.{plays}
use Rattle.scenario_text.specs.Printed.{mode_word, line_end, line_words, line_text}
use Rattle.scenario_text.specs.Written.{Each, IsWord, IsWritten, IsWrittenLine}
use Rattle.scenario_text.specs.Readings.{nav_of, mode_of, address_field}
use Rattle.scenario_text.specs.Words as words
use Rattle.scenario_text.specs.Words.{words_of, split_words}
use Rattle.scenario_text.specs.Body.{load_line, word_of, line_of, body_line, played_line}
use Rattle.scenario_text.specs.Grammar.{is_plain, is_passed_over, has_empty_word, after_counted, after_line, at_end, read_pieces}
use Rattle.scenario_text.proofs.FieldTexts.{and_first, and_second, nav_text, mode_text}
use Rattle.scenario_text.proofs.LineLaws.{reads_on, reads_end}
use Rattle.scenario_text.proofs.LineTexts.{text_of_words, word_text, line_text_is, IsText, HasNoAddress}
use Rattle.scenario_text.proofs.PrintedWords.{IsLine, four_words, number_is_word}
use Rattle.scenario_text.proofs.Spelled.{bind_ok, ok_same, played_line_is, played_line_again}

-- a line after `open` whose printed text spells it
pub record IsBack (line : ScenarioLine) : Type 0 where
  pub read : body_line (line_words line) ≡ Ok line
  pub plain : list_all is_plain (line_words line) ≡ true
  pub counted : is_passed_over (line_words line) ≡ false
  pub full : has_empty_word (line_words line) ≡ false

-- ---- a load

nav_is_word : (word : List ℕ) (nav : NavId) → nav_of word ≡ Ok nav → IsWord word
nav_is_word word nav e =
    let number = bind_ok (number_of 0 4095 word) (λ (n : ℕ). let nav : NavId = record { 0 = n } in Ok nav) nav e in
    number_is_word 0 4095 word number.0 number.1

mode_is_word : (word : List ℕ) (mode : Mode) → mode_word mode ≡ 32 ∷ word → IsWord word
mode_is_word word modes.Auto e = let same : codes "auto" ≡ word = cc in subst IsWord same (record { some = refl; bytes = refl })
mode_is_word word modes.Push e = let same : codes "push" ≡ word = cc in subst IsWord same (record { some = refl; bytes = refl })
mode_is_word word modes.Replace e = let same : codes "replace" ≡ word = cc in subst IsWord same (record { some = refl; bytes = refl })

load_read : (nav mode address : List ℕ) (n : NavId) (m : Mode) → nav_of nav ≡ Ok n → mode_of mode ≡ Ok m → address_field address ≡ Ok address → load_line (words.three nav mode address) ≡ Ok (lines.Ask (requests.Load n m address))
unfolding load_line
load_read nav mode address n m e1 e2 e3 =
    ap (λ r. r >>= λ x. (mode_of mode >>= λ y. (address_field address >>= λ z. Ok (lines.Ask (requests.Load x y z))))) e1
    ∙ ap (λ r. r >>= λ y. (address_field address >>= λ z. Ok (lines.Ask (requests.Load n y z)))) e2
    ∙ ap (λ r. r >>= λ z. Ok (lines.Ask (requests.Load n m z))) e3

load_back : (nav mode address : List ℕ) (n : NavId) (m : Mode) → nav_of nav ≡ Ok n → mode_of mode ≡ Ok m → IsWritten address → IsBack (lines.Ask (requests.Load n m address))
unfolding body_line
load_back nav mode address n m e1 e2 written =
    let line : ScenarioLine = lines.Ask (requests.Load n m address) in
    let text : List ℕ = codes "load" ++ 32 ∷ (nav ++ 32 ∷ (mode ++ 32 ∷ address)) in
    let mode_ = mode_text mode m e2 in
    let same : text ≡ line_words line =
    ap (λ (l : List ℕ). codes "load" ++ 32 ∷ (l ++ 32 ∷ (mode ++ 32 ∷ address))) (sym (nav_text nav n e1))
    ∙ ap (λ (l : List ℕ). codes "load" ++ 32 ∷ (decimal n.0 ++ (l ++ 32 ∷ address))) (sym mode_)
    ∙ ap (λ (l : List ℕ). codes "load" ++ 32 ∷ l) (sym (append_assoc (decimal n.0) (mode_word m) (32 ∷ address))) in
    let is : IsLine text (codes "load") (words.three nav mode address) =
    four_words (codes "load") nav mode address (record { some = refl; bytes = refl }) (nav_is_word nav n e1) (mode_is_word mode m mode_) written.word in
    record {
      read = subst (λ (t : List ℕ). body_line t ≡ Ok line) same (ap (λ (s : List ℕ × words.Fields). line_of (word_of s.0) s.1) is.split ∙ load_read nav mode address n m e1 e2 written.reads);
      plain = subst (λ (t : List ℕ). list_all is_plain t ≡ true) same is.plain;
      counted = subst (λ (t : List ℕ). is_passed_over t ≡ false) same refl;
      full = subst (λ (t : List ℕ). has_empty_word t ≡ false) same is.full;
    }

loaded_back : (fields : words.Fields) (line : ScenarioLine) → load_line fields ≡ Ok line → IsWrittenLine line → IsBack line
unfolding load_line
loaded_back (words.three nav mode address) line e written =
    let first = bind_ok (nav_of nav) (λ (n : NavId). mode_of mode >>= λ m. (address_field address >>= λ a. Ok (lines.Ask (requests.Load n m a)))) line e in
    let second = bind_ok (mode_of mode) (λ (m : Mode). address_field address >>= λ a. Ok (lines.Ask (requests.Load first.0 m a))) line first.2 in
    let third = bind_ok (address_field address) (λ (a : List ℕ). Ok (lines.Ask (requests.Load first.0 second.0 a))) line second.2 in
    let same : lines.Ask (requests.Load first.0 second.0 third.0) ≡ line = ok_same third.2 in
    subst (λ (l : ScenarioLine). IsWrittenLine l → IsBack l) same (λ w. load_back nav mode third.0 first.0 second.0 first.1 second.1 w) written
loaded_back _ line e written = absurd cc

-- ---- any line

same_back : (text : List ℕ) (line : ScenarioLine) → body_line text ≡ Ok line → list_all is_plain text ≡ true → is_passed_over text ≡ false → has_empty_word text ≡ false → line_words line ≡ text → IsBack line
same_back text line e plain counted full same = record { read = rw same e; plain = rw same plain; counted = rw same counted; full = rw same full }

word_back : (text : List ℕ) (k : Word) (line : ScenarioLine) → IsText text (split_words (words_of text)).0 (split_words (words_of text)).1 → word_of (split_words (words_of text)).0 ≡ Some k → HasNoAddress k → line_of (Some k) (split_words (words_of text)).1 ≡ Ok line → line_words line ≡ text
word_back text k line is at free read =
    line_text_is text k (split_words (words_of text)).1 line free (subst (λ (w : List ℕ). IsText text w (split_words (words_of text)).1) (word_text (split_words (words_of text)).0 k at) is) read

-- a line whose address, if any, is written as it is read spells itself
pub body_back : (text : List ℕ) (line : ScenarioLine) → body_line text ≡ Ok line → list_all is_plain text ≡ true → is_passed_over text ≡ false → has_empty_word text ≡ false → IsWrittenLine line → IsBack line
unfolding body_line
body_back text line e plain counted full written = by_word (word_of (split_words (words_of text)).0) refl e
  where
    other : (k : Word) → word_of (split_words (words_of text)).0 ≡ Some k → HasNoAddress k → line_of (Some k) (split_words (words_of text)).1 ≡ Ok line → IsBack line
    other k at free read = same_back text line e plain counted full (word_back text k line (text_of_words text) at free read)

    by_word : (k : Option Word) → word_of (split_words (words_of text)).0 ≡ k → line_of k (split_words (words_of text)).1 ≡ Ok line → IsBack line
    by_word None at read = absurd cc
    by_word (Some kinds.Load) at read = loaded_back (split_words (words_of text)).1 line read written
    by_word (Some kinds.Go) at read = other kinds.Go at tt read
    by_word (Some kinds.Reload) at read = other kinds.Reload at tt read
    by_word (Some kinds.Push) at read = other kinds.Push at tt read
    by_word (Some kinds.Replace) at read = other kinds.Replace at tt read
    by_word (Some kinds.Fragment) at read = other kinds.Fragment at tt read
    by_word (Some kinds.Frame) at read = other kinds.Frame at tt read
    by_word (Some kinds.Remove) at read = other kinds.Remove at tt read
    by_word (Some kinds.DocGo) at read = other kinds.DocGo at tt read
    by_word (Some kinds.Edit) at read = other kinds.Edit at tt read
    by_word (Some kinds.Answer) at read = other kinds.Answer at tt read
    by_word (Some kinds.Evict) at read = other kinds.Evict at tt read
    by_word (Some kinds.Kill) at read = other kinds.Kill at tt read
    by_word (Some kinds.Act) at read = other kinds.Act at tt read
    by_word (Some kinds.Begin) at read = other kinds.Begin at tt read
    by_word (Some kinds.Finish) at read = other kinds.Finish at tt read
    by_word (Some kinds.Deliver) at read = other kinds.Deliver at tt read
    by_word (Some kinds.Settle) at read = other kinds.Settle at tt read

-- ---- printed lines

plain_apart : (text : List ℕ) → list_all is_plain text ≡ true → All (λ b. (b == 10) ≡ false) text
plain_apart [] plain = All-nil (λ (x : ℕ). (x == 10) ≡ false)
plain_apart (b ∷ text) plain =
    let here : (nat_le 32 b && nat_le b 126) ≡ true = and_first (is_plain b) (list_all is_plain text) plain in
    let low : nat_le 32 b ≡ true = and_first (nat_le 32 b) (nat_le b 126) here in
    All-cons (λ (x : ℕ). (x == 10) ≡ false) b text (let apart : (b == 10) ≡ false = grind (arith, nat_tests) in apart) (plain_apart text (and_second (is_plain b) (list_all is_plain text) plain))

line_cut : (text rest : List ℕ) → list_all is_plain text ≡ true → pieces 10 (text ++ 10 ∷ rest) ≡ text ∷ pieces 10 rest
unfolding pieces
line_cut text rest plain = slice_split_at (λ b. b == 10) text 10 rest (plain_apart text plain) refl

-- one printed line is read, and the others after it
pub read_on : (built : Built) (number : ℕ) (place next : Place) (text rest : List ℕ) → list_all is_plain text ≡ true → number ≤ 65536 → after_line false built place text ≡ Ok next → read_pieces false built number place (pieces 10 (text ++ 10 ∷ rest)) ≡ read_pieces false built (number + 1) next (pieces 10 rest)
read_on built number place next text rest plain few read =
    reads_on false built number place next (text ++ 10 ∷ rest) text rest (line_cut text rest plain) few read

line_after : (built : Built) (header : Header) (before : List ScenarioLine) (line : ScenarioLine) → IsBack line → plays built line ≡ true → after_line false built (places.Body header before) (line_words line) ≡ Ok (places.Body header (before ++ line ∷ []))
unfolding after_line after_counted
line_after built header before line back playable =
    let read : played_line false built (line_words line) ≡ Ok line = played_line_again built (line_words line) line back.read playable in
    rw (back.plain, back.counted, back.full, read) refl

-- a line that its caller plays, and that is read back where its address is written as it is read
pub record IsKept (built : Built) (line : ScenarioLine) : Type 0 where
  pub back : IsWrittenLine line → IsBack line
  pub playable : plays built line ≡ true

pub kept : (in_run : Bool) (built : Built) (text : List ℕ) (line : ScenarioLine) → played_line in_run built text ≡ Ok line → list_all is_plain text ≡ true → is_passed_over text ≡ false → has_empty_word text ≡ false → IsKept built line
kept in_run built text line e plain counted full =
    let is = played_line_is in_run built text line e in
    record { back = λ written. body_back text line is.0 plain counted full written; playable = is.1 }

-- after `open` the printed lines are read back
pub lines_read_back : (built : Built) (number : ℕ) (header : Header) (before lines : List ScenarioLine) → Each (IsKept built) lines → Each IsWrittenLine lines → number + length lines ≤ 65537 → read_pieces false built number (places.Body header before) (pieces 10 (flat_map line_text lines)) ≡ Ok (record { header = header; lines = before ++ lines })
unfolding pieces at_end
lines_read_back built number header before [] back written few =
    reads_end false built number (places.Body header before) [] refl ∙ ap (λ (l : List ScenarioLine). Ok (record { header = header; lines = l })) (sym (append-nil before))
lines_read_back built number header before (line ∷ lines) back written few =
    let here : IsBack line = back.0.back written.0 in
    let apart : flat_map line_text (line ∷ lines) ≡ line_words line ++ 10 ∷ flat_map line_text lines = append_assoc (line_words line) line_end (flat_map line_text lines) in
    ap (λ (l : List ℕ). read_pieces false built number (places.Body header before) (pieces 10 l)) apart
    ∙ read_on built number (places.Body header before) (places.Body header (before ++ line ∷ [])) (line_words line) (flat_map line_text lines) here.plain (omega (arith, few)) (line_after built header before line here back.0.playable)
    ∙ lines_read_back built (number + 1) header (before ++ line ∷ []) lines back.1 written.1 (omega (arith, few))
    ∙ ap (λ (l : List ScenarioLine). Ok (record { header = header; lines = l })) (append_assoc before (line ∷ []) lines)
