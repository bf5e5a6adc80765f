-- A line after `open` that has no address is written as it was read.
use Rattle.std.proofs.Common.{◌≡◌, ℕ, ℤ, Bool, true, false, List, [], ◌∷◌, ◌++◌, Option, Some, None, Ok, refl, sym, ap, ◌∙◌, append-nil, append_assoc}
use Rattle.std.specs.Prelude.{bytes_eq, codes, if◌then◌else◌}
use Rattle.std.specs.Fmt.{signed_decimal}
use Rattle.std.specs.List.{join_with_byte}
use Rattle.std.proofs.lemmas.List.Splits.{join_with_byte-slice_split}
use Rattle.tab_ids.specs.declared.NavId.{NavId}
use Rattle.tab_ids.specs.declared.ProcId.{ProcId}
use Rattle.tab_ids.specs.declared.ReqId.{ReqId}
use Rattle.log_model.specs.declared.action.Action.TheVariants as actions
use Rattle.log_model.specs.declared.request.Request.TheVariants as requests
use Rattle.scenario_text.specs.declared.line.ScenarioLine.{ScenarioLine}
use Rattle.scenario_text.specs.declared.line.ScenarioLine.TheVariants as lines
use Rattle.scenario_text.specs.declared.word.Word.{Word}
use Rattle.scenario_text.specs.declared.word.Word.TheVariants as kinds
use Rattle.scenario_text.specs.Chain.{◌>>=◌}
use Rattle.scenario_text.specs.Numbers.{delta_of}
use Rattle.scenario_text.specs.Pieces.{pieces}
use Rattle.scenario_text.specs.Printed.{number_word, memo_word, reference_word, stay_word, line_words}
use Rattle.scenario_text.specs.Readings.{nav_of, child_of, request_of, stay_of, memo_of, text_of}
use Rattle.scenario_text.specs.Words as words
use Rattle.scenario_text.specs.Words.{words_of, split_words}
use Rattle.scenario_text.specs.Body.{nav_alone, proc_alone, nav_and_child, entry_fields, go_line, reload_line, push_line, replace_line, fragment_line, frame_line, remove_line, docgo_line, edit_line, answer_line, evict_line, kill_line, act_line, begin_line, finish_line, deliver_line, settle_line, word_of, line_of}
use Rattle.scenario_text.proofs.FieldTexts.{same_bytes, delta_text, nav_text, child_text, proc_text, request_text, memo_text, long_text, stay_text}
use Rattle.scenario_text.proofs.Spelled.{bind_ok, ok_same}

-- ---- words

-- a text that has this first word and these others
abbrev pub IsText : List ℕ → List ℕ → words.Fields → Type 0
IsText text word words.zero = text ≡ word
IsText text word (words.one a) = text ≡ word ++ 32 ∷ a
IsText text word (words.two a b) = text ≡ word ++ 32 ∷ (a ++ 32 ∷ b)
IsText text word (words.three a b c) = text ≡ word ++ 32 ∷ (a ++ 32 ∷ (b ++ 32 ∷ c))
IsText text word words.more = Unit {0}

words_joined : (text : List ℕ) (all : List (List ℕ)) → join_with_byte 32 all ≡ text → IsText text (split_words all).0 (split_words all).1
words_joined text [] e = sym e
words_joined text (word ∷ []) e = sym e
words_joined text (word ∷ a ∷ []) e = sym e
words_joined text (word ∷ a ∷ b ∷ []) e = sym e
words_joined text (word ∷ a ∷ b ∷ c ∷ []) e = sym e
words_joined text (word ∷ a ∷ b ∷ c ∷ d ∷ others) e = tt

pub text_of_words : (text : List ℕ) → IsText text (split_words (words_of text)).0 (split_words (words_of text)).1
unfolding pieces
text_of_words text = words_joined text (words_of text) (join_with_byte-slice_split 32 text)

-- ---- lines

abbrev pub name : Word → List ℕ
name kinds.Load = codes "load"
name kinds.Go = codes "go"
name kinds.Reload = codes "reload"
name kinds.Push = codes "push"
name kinds.Replace = codes "replace"
name kinds.Fragment = codes "fragment"
name kinds.Frame = codes "frame"
name kinds.Remove = codes "remove"
name kinds.DocGo = codes "docgo"
name kinds.Edit = codes "edit"
name kinds.Answer = codes "answer"
name kinds.Evict = codes "evict"
name kinds.Kill = codes "kill"
name kinds.Act = codes "act"
name kinds.Begin = codes "begin"
name kinds.Finish = codes "finish"
name kinds.Deliver = codes "deliver"
name kinds.Settle = codes "settle"

pick : (word : List ℕ) (b : Bool) (first k : Word) (rest : Option Word) → (b ≡ true → word ≡ name first) → (rest ≡ Some k → word ≡ name k) → (if b then Some first else rest) ≡ Some k → word ≡ name k
pick word true first k rest yes_ no_ e = let same : first ≡ k = cc in yes_ refl ∙ ap (λ (w : Word). name w) same
pick word false first k rest yes_ no_ e = no_ e

pub word_text : (word : List ℕ) (k : Word) → word_of word ≡ Some k → word ≡ name k
word_text word k e =
    pick word (bytes_eq word (codes "load")) kinds.Load k _ (same_bytes word (codes "load"))
    (pick word (bytes_eq word (codes "go")) kinds.Go k _ (same_bytes word (codes "go"))
    (pick word (bytes_eq word (codes "reload")) kinds.Reload k _ (same_bytes word (codes "reload"))
    (pick word (bytes_eq word (codes "push")) kinds.Push k _ (same_bytes word (codes "push"))
    (pick word (bytes_eq word (codes "replace")) kinds.Replace k _ (same_bytes word (codes "replace"))
    (pick word (bytes_eq word (codes "fragment")) kinds.Fragment k _ (same_bytes word (codes "fragment"))
    (pick word (bytes_eq word (codes "frame")) kinds.Frame k _ (same_bytes word (codes "frame"))
    (pick word (bytes_eq word (codes "remove")) kinds.Remove k _ (same_bytes word (codes "remove"))
    (pick word (bytes_eq word (codes "docgo")) kinds.DocGo k _ (same_bytes word (codes "docgo"))
    (pick word (bytes_eq word (codes "edit")) kinds.Edit k _ (same_bytes word (codes "edit"))
    (pick word (bytes_eq word (codes "answer")) kinds.Answer k _ (same_bytes word (codes "answer"))
    (pick word (bytes_eq word (codes "evict")) kinds.Evict k _ (same_bytes word (codes "evict"))
    (pick word (bytes_eq word (codes "kill")) kinds.Kill k _ (same_bytes word (codes "kill"))
    (pick word (bytes_eq word (codes "act")) kinds.Act k _ (same_bytes word (codes "act"))
    (pick word (bytes_eq word (codes "begin")) kinds.Begin k _ (same_bytes word (codes "begin"))
    (pick word (bytes_eq word (codes "finish")) kinds.Finish k _ (same_bytes word (codes "finish"))
    (pick word (bytes_eq word (codes "deliver")) kinds.Deliver k _ (same_bytes word (codes "deliver"))
    (pick word (bytes_eq word (codes "settle")) kinds.Settle k None (same_bytes word (codes "settle")) (λ none. absurd cc))))))))))))))))))
    e

go_text : (text : List ℕ) (fields : words.Fields) (line : ScenarioLine) → IsText text (codes "go") fields → go_line fields ≡ Ok line → line_words line ≡ text
unfolding go_line
go_text text (words.one a) line is e =
    let delta = bind_ok (delta_of a) (λ (d : ℤ). Ok (lines.Ask (requests.Go d))) line e in
    let same : lines.Ask (requests.Go delta.0) ≡ line = ok_same delta.2 in
    ap (λ (l : ScenarioLine). line_words l) (sym same) ∙ ap (λ (d : List ℕ). codes "go" ++ 32 ∷ d) (delta_text a delta.0 delta.1) ∙ sym is
go_text text _ line is e = absurd cc

-- what an entry's fields are written as
entry_grouped : (front text : List ℕ) (fields : words.Fields) (entry : NavId × Option (List ℕ) × Option (List ℕ)) → IsText text front fields → entry_fields fields ≡ Ok entry → front ++ (number_word entry.0.0 ++ (memo_word entry.1 ++ reference_word entry.2)) ≡ text
unfolding entry_fields
entry_grouped front text (words.two nav memo) entry is e =
    let first = bind_ok (nav_of nav) (λ (n : NavId). memo_of memo >>= λ m. Ok (n, m, None)) entry e in
    let second = bind_ok (memo_of memo) (λ (m : Option (List ℕ)). Ok (first.0, m, None)) entry first.2 in
    let same : (first.0, second.0, None) ≡ entry = ok_same second.2 in
    let written : number_word first.0.0 ++ (memo_word second.0 ++ []) ≡ 32 ∷ (nav ++ 32 ∷ memo) =
    rw (nav_text nav first.0 first.1, memo_text memo second.0 second.1) (ap (λ (l : List ℕ). 32 ∷ (nav ++ 32 ∷ l)) (append-nil memo)) in
    ap (λ (x : NavId × Option (List ℕ) × Option (List ℕ)). front ++ (number_word x.0.0 ++ (memo_word x.1 ++ reference_word x.2))) (sym same) ∙ ap (λ (l : List ℕ). front ++ l) written ∙ sym is
entry_grouped front text (words.three nav memo reference) entry is e =
    let first = bind_ok (nav_of nav) (λ (n : NavId). memo_of memo >>= λ m. (text_of reference >>= λ r. Ok (n, m, Some r))) entry e in
    let second = bind_ok (memo_of memo) (λ (m : Option (List ℕ)). text_of reference >>= λ r. Ok (first.0, m, Some r)) entry first.2 in
    let third = bind_ok (text_of reference) (λ (r : List ℕ). Ok (first.0, second.0, Some r)) entry second.2 in
    let same : (first.0, second.0, Some third.0) ≡ entry = ok_same third.2 in
    let written : number_word first.0.0 ++ (memo_word second.0 ++ (32 ∷ third.0)) ≡ 32 ∷ (nav ++ 32 ∷ (memo ++ 32 ∷ reference)) =
    rw (nav_text nav first.0 first.1, memo_text memo second.0 second.1, long_text reference third.0 third.1) refl in
    ap (λ (x : NavId × Option (List ℕ) × Option (List ℕ)). front ++ (number_word x.0.0 ++ (memo_word x.1 ++ reference_word x.2))) (sym same) ∙ ap (λ (l : List ℕ). front ++ l) written ∙ sym is
entry_grouped front text _ entry is e = absurd cc

regrouped : (a b c d : List ℕ) → a ++ b ++ c ++ d ≡ a ++ (b ++ (c ++ d))
regrouped a b c d = append_assoc (a ++ b) c d ∙ append_assoc a b (c ++ d)

entry_text : (front text : List ℕ) (fields : words.Fields) (entry : NavId × Option (List ℕ) × Option (List ℕ)) → IsText text front fields → entry_fields fields ≡ Ok entry → front ++ number_word entry.0.0 ++ memo_word entry.1 ++ reference_word entry.2 ≡ text
entry_text front text fields entry is e = regrouped front (number_word entry.0.0) (memo_word entry.1) (reference_word entry.2) ∙ entry_grouped front text fields entry is e

push_text : (text : List ℕ) (fields : words.Fields) (line : ScenarioLine) → IsText text (codes "push") fields → push_line fields ≡ Ok line → line_words line ≡ text
unfolding push_line
push_text text fields line is e =
    let entry = bind_ok (entry_fields fields) (λ (x : NavId × Option (List ℕ) × Option (List ℕ)). Ok (lines.Ask (requests.Poke x.0 (actions.Push x.1 x.2)))) line e in
    let same : lines.Ask (requests.Poke entry.0.0 (actions.Push entry.0.1 entry.0.2)) ≡ line = ok_same entry.2 in
    ap (λ (l : ScenarioLine). line_words l) (sym same) ∙ entry_text (codes "push") text fields entry.0 is entry.1

replace_text : (text : List ℕ) (fields : words.Fields) (line : ScenarioLine) → IsText text (codes "replace") fields → replace_line fields ≡ Ok line → line_words line ≡ text
unfolding replace_line
replace_text text fields line is e =
    let entry = bind_ok (entry_fields fields) (λ (x : NavId × Option (List ℕ) × Option (List ℕ)). Ok (lines.Ask (requests.Poke x.0 (actions.Replace x.1 x.2)))) line e in
    let same : lines.Ask (requests.Poke entry.0.0 (actions.Replace entry.0.1 entry.0.2)) ≡ line = ok_same entry.2 in
    ap (λ (l : ScenarioLine). line_words l) (sym same) ∙ entry_text (codes "replace") text fields entry.0 is entry.1

fragment_text : (text : List ℕ) (fields : words.Fields) (line : ScenarioLine) → IsText text (codes "fragment") fields → fragment_line fields ≡ Ok line → line_words line ≡ text
unfolding fragment_line
fragment_text text (words.two nav fragment) line is e =
    let first = bind_ok (nav_of nav) (λ (n : NavId). text_of fragment >>= λ t. Ok (lines.Ask (requests.Poke n (actions.Fragment t)))) line e in
    let second = bind_ok (text_of fragment) (λ (t : List ℕ). Ok (lines.Ask (requests.Poke first.0 (actions.Fragment t)))) line first.2 in
    let same : lines.Ask (requests.Poke first.0 (actions.Fragment second.0)) ≡ line = ok_same second.2 in
    let written : number_word first.0.0 ++ (32 ∷ second.0) ≡ 32 ∷ (nav ++ 32 ∷ fragment) = rw (nav_text nav first.0 first.1, long_text fragment second.0 second.1) refl in
    ap (λ (l : ScenarioLine). line_words l) (sym same) ∙ ap (λ (l : List ℕ). codes "fragment" ++ l) written ∙ sym is
fragment_text text _ line is e = absurd cc

-- NAV alone
nav_text_alone : (front text : List ℕ) (fields : words.Fields) (nav : NavId) → IsText text front fields → nav_alone fields ≡ Ok nav → front ++ number_word nav.0 ≡ text
unfolding nav_alone
nav_text_alone front text (words.one a) nav is e = ap (λ (l : List ℕ). front ++ 32 ∷ l) (nav_text a nav e) ∙ sym is
nav_text_alone front text _ nav is e = absurd cc

-- P alone
proc_text_alone : (front text : List ℕ) (fields : words.Fields) (proc : ProcId) → IsText text front fields → proc_alone fields ≡ Ok proc → front ++ number_word proc.0 ≡ text
unfolding proc_alone
proc_text_alone front text (words.one a) proc is e = ap (λ (l : List ℕ). front ++ 32 ∷ l) (proc_text a proc e) ∙ sym is
proc_text_alone front text _ proc is e = absurd cc

-- NAV CHILD
both_text : (front text : List ℕ) (fields : words.Fields) (both : NavId × NavId) → IsText text front fields → nav_and_child fields ≡ Ok both → front ++ number_word both.0.0 ++ number_word both.1.0 ≡ text
unfolding nav_and_child
both_text front text (words.two nav child) both is e =
    let first = bind_ok (nav_of nav) (λ (n : NavId). child_of child >>= λ c. Ok (n, c)) both e in
    let second = bind_ok (child_of child) (λ (c : NavId). Ok (first.0, c)) both first.2 in
    let same : (first.0, second.0) ≡ both = ok_same second.2 in
    let written : number_word first.0.0 ++ number_word second.0.0 ≡ 32 ∷ (nav ++ 32 ∷ child) = rw (nav_text nav first.0 first.1, child_text child second.0 second.1) refl in
    ap (λ (x : NavId × NavId). front ++ number_word x.0.0 ++ number_word x.1.0) (sym same) ∙ append_assoc front (number_word first.0.0) (number_word second.0.0) ∙ ap (λ (l : List ℕ). front ++ l) written ∙ sym is
both_text front text _ both is e = absurd cc

reload_text : (text : List ℕ) (fields : words.Fields) (line : ScenarioLine) → IsText text (codes "reload") fields → reload_line fields ≡ Ok line → line_words line ≡ text
unfolding reload_line
reload_text text fields line is e =
    let nav = bind_ok (nav_alone fields) (λ (x : NavId). Ok (lines.Ask (requests.Reload x))) line e in
    let same : lines.Ask (requests.Reload nav.0) ≡ line = ok_same nav.2 in
    ap (λ (l : ScenarioLine). line_words l) (sym same) ∙ nav_text_alone (codes "reload") text fields nav.0 is nav.1

edit_text : (text : List ℕ) (fields : words.Fields) (line : ScenarioLine) → IsText text (codes "edit") fields → edit_line fields ≡ Ok line → line_words line ≡ text
unfolding edit_line
edit_text text fields line is e =
    let nav = bind_ok (nav_alone fields) (λ (x : NavId). Ok (lines.Ask (requests.Poke x actions.Edit))) line e in
    let same : lines.Ask (requests.Poke nav.0 actions.Edit) ≡ line = ok_same nav.2 in
    ap (λ (l : ScenarioLine). line_words l) (sym same) ∙ nav_text_alone (codes "edit") text fields nav.0 is nav.1

frame_text : (text : List ℕ) (fields : words.Fields) (line : ScenarioLine) → IsText text (codes "frame") fields → frame_line fields ≡ Ok line → line_words line ≡ text
unfolding frame_line
frame_text text fields line is e =
    let both = bind_ok (nav_and_child fields) (λ (x : NavId × NavId). Ok (lines.Ask (requests.Poke x.0 (actions.AddFrame x.1)))) line e in
    let same : lines.Ask (requests.Poke both.0.0 (actions.AddFrame both.0.1)) ≡ line = ok_same both.2 in
    ap (λ (l : ScenarioLine). line_words l) (sym same) ∙ both_text (codes "frame") text fields both.0 is both.1

remove_text : (text : List ℕ) (fields : words.Fields) (line : ScenarioLine) → IsText text (codes "remove") fields → remove_line fields ≡ Ok line → line_words line ≡ text
unfolding remove_line
remove_text text fields line is e =
    let both = bind_ok (nav_and_child fields) (λ (x : NavId × NavId). Ok (lines.Ask (requests.Poke x.0 (actions.RemoveFrame x.1)))) line e in
    let same : lines.Ask (requests.Poke both.0.0 (actions.RemoveFrame both.0.1)) ≡ line = ok_same both.2 in
    ap (λ (l : ScenarioLine). line_words l) (sym same) ∙ both_text (codes "remove") text fields both.0 is both.1

docgo_text : (text : List ℕ) (fields : words.Fields) (line : ScenarioLine) → IsText text (codes "docgo") fields → docgo_line fields ≡ Ok line → line_words line ≡ text
unfolding docgo_line
docgo_text text (words.two nav word) line is e =
    let first = bind_ok (nav_of nav) (λ (n : NavId). delta_of word >>= λ d. Ok (lines.Ask (requests.Poke n (actions.Go d)))) line e in
    let second = bind_ok (delta_of word) (λ (d : ℤ). Ok (lines.Ask (requests.Poke first.0 (actions.Go d)))) line first.2 in
    let same : lines.Ask (requests.Poke first.0 (actions.Go second.0)) ≡ line = ok_same second.2 in
    ap (λ (l : ScenarioLine). line_words l) (sym same) ∙ ap (λ (l : List ℕ). codes "docgo" ++ 32 ∷ (l ++ 32 ∷ signed_decimal second.0)) (nav_text nav first.0 first.1) ∙ ap (λ (l : List ℕ). codes "docgo" ++ 32 ∷ (nav ++ 32 ∷ l)) (delta_text word second.0 second.1) ∙ sym is
docgo_text text _ line is e = absurd cc

answer_text : (text : List ℕ) (fields : words.Fields) (line : ScenarioLine) → IsText text (codes "answer") fields → answer_line fields ≡ Ok line → line_words line ≡ text
unfolding answer_line
answer_text text (words.two req stay) line is e =
    let first = bind_ok (request_of req) (λ (r : ReqId). stay_of stay >>= λ s. Ok (lines.Answer r s)) line e in
    let second = bind_ok (stay_of stay) (λ (s : Bool). Ok (lines.Answer first.0 s)) line first.2 in
    let same : lines.Answer first.0 second.0 ≡ line = ok_same second.2 in
    ap (λ (l : ScenarioLine). line_words l) (sym same) ∙ ap (λ (l : List ℕ). codes "answer" ++ 32 ∷ (l ++ stay_word second.0)) (request_text req first.0 first.1) ∙ ap (λ (l : List ℕ). codes "answer" ++ 32 ∷ (req ++ l)) (stay_text stay second.0 second.1) ∙ sym is
answer_text text _ line is e = absurd cc

evict_text : (text : List ℕ) (fields : words.Fields) (line : ScenarioLine) → IsText text (codes "evict") fields → evict_line fields ≡ Ok line → line_words line ≡ text
unfolding evict_line
evict_text text words.zero line is e = let same : lines.Evict ≡ line = ok_same e in ap (λ (l : ScenarioLine). line_words l) (sym same) ∙ sym is
evict_text text _ line is e = absurd cc

settle_text : (text : List ℕ) (fields : words.Fields) (line : ScenarioLine) → IsText text (codes "settle") fields → settle_line fields ≡ Ok line → line_words line ≡ text
unfolding settle_line
settle_text text words.zero line is e = let same : lines.Settle ≡ line = ok_same e in ap (λ (l : ScenarioLine). line_words l) (sym same) ∙ sym is
settle_text text _ line is e = absurd cc

kill_text : (text : List ℕ) (fields : words.Fields) (line : ScenarioLine) → IsText text (codes "kill") fields → kill_line fields ≡ Ok line → line_words line ≡ text
unfolding kill_line
kill_text text fields line is e =
    let proc = bind_ok (proc_alone fields) (λ (x : ProcId). Ok (lines.Kill x)) line e in
    let same : lines.Kill proc.0 ≡ line = ok_same proc.2 in
    ap (λ (l : ScenarioLine). line_words l) (sym same) ∙ proc_text_alone (codes "kill") text fields proc.0 is proc.1

act_text : (text : List ℕ) (fields : words.Fields) (line : ScenarioLine) → IsText text (codes "act") fields → act_line fields ≡ Ok line → line_words line ≡ text
unfolding act_line
act_text text fields line is e =
    let proc = bind_ok (proc_alone fields) (λ (x : ProcId). Ok (lines.Act x)) line e in
    let same : lines.Act proc.0 ≡ line = ok_same proc.2 in
    ap (λ (l : ScenarioLine). line_words l) (sym same) ∙ proc_text_alone (codes "act") text fields proc.0 is proc.1

begin_text : (text : List ℕ) (fields : words.Fields) (line : ScenarioLine) → IsText text (codes "begin") fields → begin_line fields ≡ Ok line → line_words line ≡ text
unfolding begin_line
begin_text text fields line is e =
    let proc = bind_ok (proc_alone fields) (λ (x : ProcId). Ok (lines.Begin x)) line e in
    let same : lines.Begin proc.0 ≡ line = ok_same proc.2 in
    ap (λ (l : ScenarioLine). line_words l) (sym same) ∙ proc_text_alone (codes "begin") text fields proc.0 is proc.1

finish_text : (text : List ℕ) (fields : words.Fields) (line : ScenarioLine) → IsText text (codes "finish") fields → finish_line fields ≡ Ok line → line_words line ≡ text
unfolding finish_line
finish_text text fields line is e =
    let proc = bind_ok (proc_alone fields) (λ (x : ProcId). Ok (lines.Finish x)) line e in
    let same : lines.Finish proc.0 ≡ line = ok_same proc.2 in
    ap (λ (l : ScenarioLine). line_words l) (sym same) ∙ proc_text_alone (codes "finish") text fields proc.0 is proc.1

deliver_text : (text : List ℕ) (fields : words.Fields) (line : ScenarioLine) → IsText text (codes "deliver") fields → deliver_line fields ≡ Ok line → line_words line ≡ text
unfolding deliver_line
deliver_text text fields line is e =
    let proc = bind_ok (proc_alone fields) (λ (x : ProcId). Ok (lines.Deliver x)) line e in
    let same : lines.Deliver proc.0 ≡ line = ok_same proc.2 in
    ap (λ (l : ScenarioLine). line_words l) (sym same) ∙ proc_text_alone (codes "deliver") text fields proc.0 is proc.1

-- the line has no address
abbrev pub HasNoAddress : Word → Type 0
HasNoAddress kinds.Load = ⊥
HasNoAddress _ = Unit {0}

-- a line without an address is written as it was read
pub line_text_is : (text : List ℕ) (k : Word) (fields : words.Fields) (line : ScenarioLine) → HasNoAddress k → IsText text (name k) fields → line_of (Some k) fields ≡ Ok line → line_words line ≡ text
line_text_is text kinds.Load fields line free is e = absurd free
line_text_is text kinds.Go fields line free is e = go_text text fields line is e
line_text_is text kinds.Reload fields line free is e = reload_text text fields line is e
line_text_is text kinds.Push fields line free is e = push_text text fields line is e
line_text_is text kinds.Replace fields line free is e = replace_text text fields line is e
line_text_is text kinds.Fragment fields line free is e = fragment_text text fields line is e
line_text_is text kinds.Frame fields line free is e = frame_text text fields line is e
line_text_is text kinds.Remove fields line free is e = remove_text text fields line is e
line_text_is text kinds.DocGo fields line free is e = docgo_text text fields line is e
line_text_is text kinds.Edit fields line free is e = edit_text text fields line is e
line_text_is text kinds.Answer fields line free is e = answer_text text fields line is e
line_text_is text kinds.Evict fields line free is e = evict_text text fields line is e
line_text_is text kinds.Kill fields line free is e = kill_text text fields line is e
line_text_is text kinds.Act fields line free is e = act_text text fields line is e
line_text_is text kinds.Begin fields line free is e = begin_text text fields line is e
line_text_is text kinds.Finish fields line free is e = finish_text text fields line is e
line_text_is text kinds.Deliver fields line free is e = deliver_text text fields line is e
line_text_is text kinds.Settle fields line free is e = settle_text text fields line is e
