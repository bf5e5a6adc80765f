-- What each line of a made scenario is: its text spells it, its address is written as it is read, and it is short.
use Rattle.std.proofs.Common.{◌≡◌, ℕ, zero, suc, ◌+◌, ◌<◌, ◌≤◌, ◌^◌, true, false, ◌==◌, List, [], ◌∷◌, ◌++◌, length, get_or, Ok, refl, sym, ap, subst, ◌∙◌, rules, arith, append_assoc, length-append}
use Rattle.std.specs.Prelude.{codes, decimal, nat_le}
use Rattle.std.specs.List.{list_all}
use Rattle.std.specs.Char.{is_ascii_digit}
use Rattle.std.specs.Str.Parse.{digits_value}
use Rattle.std.proofs.lemmas.Bool.Decides.{nat_tests}
use Rattle.std.proofs.lemmas.Fmt.{first_decimal, length-decimal-le, digits_decimal, digits_value-decimal, decimal_nonempty}
use Rattle.std.proofs.lemmas.Str.Parse.{IsNumeralModel, numerals_by_value}
use Rattle.url.proofs.OnLiterals.{url_on_literals}
use Rattle.tab_ids.specs.declared.NavId.{NavId}
use Rattle.tab_ids.specs.declared.ReqId.{ReqId}
use Rattle.log_model.specs.declared.action.Action.TheVariants as actions
use Rattle.log_model.specs.declared.request.Mode.TheVariants as modes
use Rattle.log_model.specs.declared.request.Request.TheVariants as requests
use Rattle.scenario_text.specs.declared.line.ScenarioLine.{ScenarioLine}
use Rattle.scenario_text.specs.declared.line.ScenarioLine.TheVariants as lines
use Rattle.scenario_text.specs.Chain.{◌>>=◌}
use Rattle.scenario_text.specs.Numbers.{has_no_zero_in_front, number_of, delta_of}
use Rattle.scenario_text.specs.Pieces.{pieces}
use Rattle.scenario_text.specs.Readings.{nav_of, mode_of, stay_of, address_field}
use Rattle.scenario_text.specs.Words as words
use Rattle.scenario_text.specs.Body.{nav_alone, proc_alone, nav_and_child, entry_fields, load_line, go_line, reload_line, push_line, fragment_line, frame_line, edit_line, answer_line, evict_line, kill_line, settle_line, word_of, line_of, body_line}
use Rattle.scenario_text.specs.Printed.{line_text, line_words}
use Rattle.scenario_text.specs.Written.{IsWord, IsWritten, IsWrittenLine}
use Rattle.scenario_text.specs.Grammar.{is_plain, is_passed_over, has_empty_word}
use Rattle.scenario_text.proofs.PrintedWords.{IsLine, three_words, four_words, number_is_word}
use Rattle.scenario_text.proofs.PrintLaws.{IsBack}
use Rattle.scenario_make.proofs.Addresses.{page_written, page_short}
use Rattle.scenario_make.specs.Turns.{page_address, load, push, fragment, back, forward, reload, edit, kill}

-- a line whose text spells it, with an address that is written as it is read, and of at most 40 bytes
pub record IsMade (line : ScenarioLine) : Type 0 where
  pub back : IsBack line
  pub written : IsWrittenLine line
  pub short : length (line_text line) ≤ 40

-- ---- lines without a number that grows

-- a line of which all of this computes
computed : (line : ScenarioLine) → IsWrittenLine line → body_line (line_words line) ≡ Ok line → list_all is_plain (line_words line) ≡ true → is_passed_over (line_words line) ≡ false → has_empty_word (line_words line) ≡ false → nat_le (length (line_text line)) 40 ≡ true → IsMade line
computed line written read plain counted full short =
    record { back = record { read = read; plain = plain; counted = counted; full = full }; written = written; short = grind (arith, nat_tests) }

pub push_made : (nav page : ℕ) → nav < 2 → page < 4 → IsMade (push nav page)
unfolding url_on_literals body_line push_line entry_fields number_of pieces
push_made zero zero n p = computed (push 0 0) tt refl refl refl refl refl
push_made zero (suc zero) n p = computed (push 0 1) tt refl refl refl refl refl
push_made zero (suc (suc zero)) n p = computed (push 0 2) tt refl refl refl refl refl
push_made zero (suc (suc (suc zero))) n p = computed (push 0 3) tt refl refl refl refl refl
push_made zero (suc (suc (suc (suc more)))) n p = absurd (omega (arith, p))
push_made (suc zero) zero n p = computed (push 1 0) tt refl refl refl refl refl
push_made (suc zero) (suc zero) n p = computed (push 1 1) tt refl refl refl refl refl
push_made (suc zero) (suc (suc zero)) n p = computed (push 1 2) tt refl refl refl refl refl
push_made (suc zero) (suc (suc (suc zero))) n p = computed (push 1 3) tt refl refl refl refl refl
push_made (suc zero) (suc (suc (suc (suc more)))) n p = absurd (omega (arith, p))
push_made (suc (suc more)) page n p = absurd (omega (arith, n))

pub fragment_made : (page : ℕ) → page < 4 → IsMade (fragment page)
unfolding url_on_literals body_line fragment_line number_of pieces
fragment_made zero p = computed (fragment 0) tt refl refl refl refl refl
fragment_made (suc zero) p = computed (fragment 1) tt refl refl refl refl refl
fragment_made (suc (suc zero)) p = computed (fragment 2) tt refl refl refl refl refl
fragment_made (suc (suc (suc zero))) p = computed (fragment 3) tt refl refl refl refl refl
fragment_made (suc (suc (suc (suc more)))) p = absurd (omega (arith, p))

pub kill_made : (proc : ℕ) → proc < 3 → IsMade (kill (proc + 1))
unfolding url_on_literals body_line kill_line proc_alone number_of pieces
kill_made zero p = computed (kill 1) tt refl refl refl refl refl
kill_made (suc zero) p = computed (kill 2) tt refl refl refl refl refl
kill_made (suc (suc zero)) p = computed (kill 3) tt refl refl refl refl refl
kill_made (suc (suc (suc more))) p = absurd (omega (arith, p))

pub back_made : IsMade back
unfolding url_on_literals body_line go_line delta_of number_of pieces
back_made = computed back tt refl refl refl refl refl

pub forward_made : IsMade forward
unfolding url_on_literals body_line go_line delta_of number_of pieces
forward_made = computed forward tt refl refl refl refl refl

pub reload_made : IsMade reload
unfolding url_on_literals body_line reload_line nav_alone number_of pieces
reload_made = computed reload tt refl refl refl refl refl

pub edit_made : IsMade edit
unfolding url_on_literals body_line edit_line nav_alone number_of pieces
edit_made = computed edit tt refl refl refl refl refl

pub evict_made : IsMade lines.Evict
unfolding body_line evict_line pieces
evict_made = computed lines.Evict tt refl refl refl refl refl

pub settle_made : IsMade lines.Settle
unfolding body_line settle_line pieces
settle_made = computed lines.Settle tt refl refl refl refl refl

pub frame_made : IsMade (lines.Ask (requests.Poke (record { 0 = 0 }) (actions.AddFrame (record { 0 = 1 }))))
unfolding url_on_literals body_line frame_line nav_and_child number_of pieces
frame_made = computed (lines.Ask (requests.Poke (record { 0 = 0 }) (actions.AddFrame (record { 0 = 1 })))) tt refl refl refl refl refl

-- ---- a load

-- the number of a navigable is read as it is written, and has one digit
record IsReadNav (nav : ℕ) : Type 0 where
  pub read : nav_of (decimal nav) ≡ Ok (record { 0 = nav })
  pub word : IsWord (decimal nav)
  pub short : length (decimal nav) ≤ 1

nav_read : (nav : ℕ) → nav < 2 → IsReadNav nav
unfolding url_on_literals number_of
nav_read zero few = record { read = refl; word = record { some = refl; bytes = refl }; short = omega arith }
nav_read (suc zero) few = record { read = refl; word = record { some = refl; bytes = refl }; short = omega arith }
nav_read (suc (suc more)) few = absurd (omega (arith, few))

load_read : (nav address : List ℕ) (number : NavId) → nav_of nav ≡ Ok number → address_field address ≡ Ok address → load_line (words.three nav (codes "auto") address) ≡ Ok (lines.Ask (requests.Load number modes.Auto address))
unfolding load_line
load_read nav address number is_nav is_address =
    ap (λ r. r >>= λ n. (mode_of (codes "auto") >>= λ m. (address_field address >>= λ a. Ok (lines.Ask (requests.Load n m a))))) is_nav
    ∙ ap (λ r. r >>= λ a. Ok (lines.Ask (requests.Load number modes.Auto a))) is_address

pub load_made : (nav host page : ℕ) → nav < 2 → host < 3 → page < 4 → IsMade (load nav host page)
unfolding body_line
load_made nav host page n h p =
    let line : ScenarioLine = load nav host page in
    let address : List ℕ = page_address host page in
    let written : IsWritten address = page_written host page h p in
    let number = nav_read nav n in
    let text : List ℕ = codes "load" ++ 32 ∷ (decimal nav ++ 32 ∷ (codes "auto" ++ 32 ∷ address)) in
    let same : text ≡ line_words line = ap (λ (l : List ℕ). codes "load" ++ 32 ∷ l) (sym (append_assoc (decimal nav) (codes " auto") (32 ∷ address))) in
    let is : IsLine text (codes "load") (words.three (decimal nav) (codes "auto") address) =
    four_words (codes "load") (decimal nav) (codes "auto") address (record { some = refl; bytes = refl }) number.word (record { some = refl; bytes = refl }) written.word in
    record {
      back = record {
        read = subst (λ (t : List ℕ). body_line t ≡ Ok line) same (ap (λ (s : List ℕ × words.Fields). line_of (word_of s.0) s.1) is.split ∙ load_read (decimal nav) address (record { 0 = nav }) number.read written.reads);
        plain = subst (λ (t : List ℕ). list_all is_plain t ≡ true) same is.plain;
        counted = refl;
        full = subst (λ (t : List ℕ). has_empty_word t ≡ false) same is.full;
      };
      written = written;
      short = omega (arith, length-append ((decimal nav ++ codes " auto") ++ 32 ∷ address) (10 ∷ []), length-append (decimal nav ++ codes " auto") (32 ∷ address), length-append (decimal nav) (codes " auto"), number.short, page_short host page h p);
    }

-- ---- an answer

own : IsNumeralModel (λ ds. list_all is_ascii_digit ds ≡ true) (digits_value 10)
own = numerals_by_value _ (search rules)

front_is : (word : List ℕ) → 0 < length word → 48 < get_or word 0 0 → has_no_zero_in_front word ≡ true
front_is [] some first = absurd (omega (arith, some))
front_is (digit ∷ []) some first = refl
front_is (digit ∷ next ∷ others) some first = let other : (digit == 48) ≡ false = grind (arith, nat_tests) in rw other refl

-- a number is read as it is written
pub number_read : (low high n : ℕ) → 0 < low → low ≤ n → n ≤ high → n < 2 ^ 64 → number_of low high (decimal n) ≡ Ok n
unfolding number_of
number_read low high n some least greatest small =
    let digits : list_all is_ascii_digit (decimal n) ≡ true = digits_decimal own n small in
    let front : has_no_zero_in_front (decimal n) ≡ true = front_is (decimal n) (decimal_nonempty n small) (first_decimal n (omega arith) small) in
    let at_least : nat_le low n ≡ true = grind (arith, nat_tests) in
    let at_most : nat_le n high ≡ true = grind (arith, nat_tests) in
    rw (digits, front, digits_value-decimal own n small, at_least, at_most) refl

answer_read : (number : ℕ) → 0 < number → number ≤ 65535 → answer_line (words.two (decimal number) (codes "leave")) ≡ Ok (lines.Answer (record { 0 = number }) false)
unfolding answer_line
answer_read number some few =
    ap (λ r. (r >>= λ n. (let req : ReqId = record { 0 = n } in Ok req)) >>= λ req. (stay_of (codes "leave") >>= λ stay. Ok (lines.Answer req stay))) (number_read 1 65535 number (omega arith) some few (omega arith))

pub answer_made : (number : ℕ) → 0 < number → number ≤ 65535 → IsMade (lines.Answer (record { 0 = number }) false)
unfolding body_line
answer_made number some few =
    let line : ScenarioLine = lines.Answer (record { 0 = number }) false in
    let word : IsWord (decimal number) = number_is_word 1 65535 (decimal number) number (number_read 1 65535 number (omega arith) some few (omega arith)) in
    let is : IsLine (line_words line) (codes "answer") (words.two (decimal number) (codes "leave")) =
    three_words (codes "answer") (decimal number) (codes "leave") (record { some = refl; bytes = refl }) word (record { some = refl; bytes = refl }) in
    record {
      back = record {
        read = ap (λ (s : List ℕ × words.Fields). line_of (word_of s.0) s.1) is.split ∙ answer_read number some few;
        plain = is.plain;
        counted = refl;
        full = is.full;
      };
      written = tt;
      short = omega (arith, length-append (decimal number ++ codes " leave") (10 ∷ []), length-append (decimal number) (codes " leave"), length-decimal-le 5 number (omega arith) (omega arith) (omega arith));
    }
