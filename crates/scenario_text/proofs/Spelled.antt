-- What holds at each place of a text that spells a scenario, and so of the scenario.
use Rattle.std.proofs.Common.{◌≡◌, ℕ, ◌+◌, Bool, true, false, not, List, [], ◌∷◌, ◌++◌, length, Result, Ok, Err, Some, None, All, refl, ap, subst, ◌∙◌, ◌==◌}
use Rattle.std.specs.Prelude.{Option, bytes_eq, nat_lt, codes, if◌then◌else◌}
use Rattle.std.specs.List.{list_all}
use Rattle.std.proofs.lemmas.List.Elements.{All-nil, All-cons}
use Rattle.tab_ids.specs.declared.ProcId.{ProcId}
use Rattle.log_model.specs.declared.header.Header.{Header}
use Rattle.log_model.specs.declared.header.Page.{Page}
use Rattle.log_model.specs.declared.header.Site.{Site}
use Rattle.scenario_text.specs.declared.built.Built.{Built}
use Rattle.scenario_text.specs.declared.head_word.HeadWord.{HeadWord}
use Rattle.scenario_text.specs.declared.head_word.HeadWord.TheVariants as heads
use Rattle.scenario_text.specs.declared.line.ScenarioLine.{ScenarioLine}
use Rattle.scenario_text.specs.declared.place.Place.{Place}
use Rattle.scenario_text.specs.declared.place.Place.TheVariants as places
use Rattle.scenario_text.specs.declared.place.Settings.{Settings}
use Rattle.scenario_text.specs.declared.place.Stage.{Stage}
use Rattle.scenario_text.specs.declared.place.Stage.TheVariants as stages
use Rattle.scenario_text.specs.declared.reason.Reason.{Reason}
use Rattle.scenario_text.specs.declared.reason.Reason.TheVariants.{TooLong, TooMany, NoEnd, Bytes, Spaces, Twice, Header as NoHeader, StepLine, Unbuilt}
use Rattle.scenario_text.specs.Scenarios.{Scenario}
use Rattle.scenario_text.specs.Chain.{◌>>=◌, unless}
use Rattle.scenario_text.specs.Pieces.{pieces}
use Rattle.scenario_text.specs.Plays.{plays, plays_place}
use Rattle.scenario_text.specs.Readings.{keep_of, proc_of, slot_of, address_field, origin_field, base_field}
use Rattle.scenario_text.specs.Body.{body_line, caller_fault, played_line}
use Rattle.scenario_text.specs.Heading.{plain_settings, has_site, with_site, has_page, with_page, keep_line, site_line, page_line, open_line, due, head_word_of, setting_of, heading_line}
use Rattle.scenario_text.specs.Words as words
use Rattle.scenario_text.specs.Words.{words_of, split_words}
use Rattle.scenario_text.specs.Written.{Each}
use Rattle.scenario_text.specs.Grammar.{is_plain, is_passed_over, has_empty_word, played_place, after_counted, after_line, faulty, at_line, finished, at_end, read_pieces, scenario_of}

-- a chain that gave something had something to go on with
pub bind_ok : {A B E : Type 0} (r : Result A E) (f : A → Result B E) (b : B) → (r >>= f) ≡ Ok b → (a : A) × (r ≡ Ok a) × (f a ≡ Ok b)
bind_ok (Ok a) f b e = (a, refl, e)
bind_ok (Err x) f b e = cc

-- equal results have equal values
pub ok_same : {A E : Type 0} {a b : A} → (let r : Result A E = Ok a in r) ≡ Ok b → a ≡ b
ok_same e = cc

-- ---- lines after `open`

no_fault : (step play : Bool) (l line : ScenarioLine) → unless (if step then Some StepLine else (if play then None else Some Unbuilt)) l ≡ Ok line → (play ≡ true) × (l ≡ line)
no_fault true play l line e = cc
no_fault false true l line e = (refl, ok_same e)
no_fault false false l line e = cc

-- a line that is read is spelled, and the caller plays it
pub played_line_is : (in_run : Bool) (built : Built) (text : List ℕ) (line : ScenarioLine) → played_line in_run built text ≡ Ok line → (body_line text ≡ Ok line) × (plays built line ≡ true)
unfolding played_line
played_line_is in_run built text line e =
    let spelled = bind_ok (body_line text) (λ (l : ScenarioLine). unless (caller_fault in_run built l) l) line e in
    let fine = no_fault _ (plays built spelled.0) spelled.0 line spelled.2 in
    subst (λ (k : ScenarioLine). (body_line text ≡ Ok k) × (plays built k ≡ true)) fine.1 (spelled.1, fine.0)

-- and such a line is read where no threads run
pub played_line_again : (built : Built) (text : List ℕ) (line : ScenarioLine) → body_line text ≡ Ok line → plays built line ≡ true → played_line false built text ≡ Ok line
unfolding played_line
played_line_again built text line spelled plays = rw (spelled, plays) refl

-- ---- lines of the header

-- what holds of each place that a line of the header leads to
pub record OnHeading (settings : Settings) (I : Place → Type 0) : Type 0 where
  pub keep : (word : List ℕ) (keep : ℕ) → keep_of word ≡ Ok keep → I (places.Heading stages.Keep (record settings { keep = keep }))
  pub site : (word number origin : List ℕ) (proc : ProcId) → origin_field word ≡ Ok origin → proc_of number ≡ Ok proc → has_site settings.sites origin ≡ false → I (places.Heading stages.Site (record settings { sites = settings.sites ++ (record { origin = origin; proc = proc }) ∷ [] }))
  pub page : (word number base : List ℕ) (slot : ℕ) → base_field word ≡ Ok base → slot_of number ≡ Ok slot → has_page settings.pages base ≡ false → I (places.Heading stages.Page (record settings { pages = settings.pages ++ (record { base = base; slot = slot }) ∷ [] }))
  pub opens : (word first : List ℕ) → address_field word ≡ Ok first → I (places.Body (record { keep = settings.keep; sites = settings.sites; pages = settings.pages; first = first }) [])

keep_gives : (settings : Settings) (I : Place → Type 0) → OnHeading settings I → (fields : words.Fields) (next : Place) → keep_line settings fields ≡ Ok next → I next
unfolding keep_line
keep_gives settings I on (words.one word) next e =
    let keep = bind_ok (keep_of word) (λ (k : ℕ). Ok (places.Heading stages.Keep (record settings { keep = k }))) next e in
    subst I (ok_same keep.2) (on.keep word keep.0 keep.1)
keep_gives settings I on _ next e = cc

new_site : (seen : Bool) (old new : List Site) → (if seen then Err Twice else Ok new) ≡ Ok old → (seen ≡ false) × (new ≡ old)
new_site true old new e = cc
new_site false old new e = (refl, ok_same e)

site_gives : (settings : Settings) (I : Place → Type 0) → OnHeading settings I → (fields : words.Fields) (next : Place) → site_line settings fields ≡ Ok next → I next
unfolding site_line
site_gives settings I on (words.two word number) next e =
    let origin = bind_ok (origin_field word) (λ (o : List ℕ). proc_of number >>= λ p. (with_site settings.sites o p >>= λ s. Ok (places.Heading stages.Site (record settings { sites = s })))) next e in
    let proc = bind_ok (proc_of number) (λ (p : ProcId). with_site settings.sites origin.0 p >>= λ s. Ok (places.Heading stages.Site (record settings { sites = s }))) next origin.2 in
    let sites = bind_ok (with_site settings.sites origin.0 proc.0) (λ (s : List Site). Ok (places.Heading stages.Site (record settings { sites = s }))) next proc.2 in
    let new = new_site (has_site settings.sites origin.0) sites.0 (settings.sites ++ (record { origin = origin.0; proc = proc.0 }) ∷ []) sites.1 in
    subst I (ap (λ (s : List Site). places.Heading stages.Site (record settings { sites = s })) new.1 ∙ ok_same sites.2) (on.site word number origin.0 proc.0 origin.1 proc.1 new.0)
site_gives settings I on _ next e = cc

new_page : (seen : Bool) (old new : List Page) → (if seen then Err Twice else Ok new) ≡ Ok old → (seen ≡ false) × (new ≡ old)
new_page true old new e = cc
new_page false old new e = (refl, ok_same e)

page_gives : (settings : Settings) (I : Place → Type 0) → OnHeading settings I → (fields : words.Fields) (next : Place) → page_line settings fields ≡ Ok next → I next
unfolding page_line
page_gives settings I on (words.two word number) next e =
    let base = bind_ok (base_field word) (λ (b : List ℕ). slot_of number >>= λ k. (with_page settings.pages b k >>= λ p. Ok (places.Heading stages.Page (record settings { pages = p })))) next e in
    let slot = bind_ok (slot_of number) (λ (k : ℕ). with_page settings.pages base.0 k >>= λ p. Ok (places.Heading stages.Page (record settings { pages = p }))) next base.2 in
    let pages = bind_ok (with_page settings.pages base.0 slot.0) (λ (p : List Page). Ok (places.Heading stages.Page (record settings { pages = p }))) next slot.2 in
    let new = new_page (has_page settings.pages base.0) pages.0 (settings.pages ++ (record { base = base.0; slot = slot.0 }) ∷ []) pages.1 in
    subst I (ap (λ (p : List Page). places.Heading stages.Page (record settings { pages = p })) new.1 ∙ ok_same pages.2) (on.page word number base.0 slot.0 base.1 slot.1 new.0)
page_gives settings I on _ next e = cc

open_gives : (settings : Settings) (I : Place → Type 0) → OnHeading settings I → (fields : words.Fields) (next : Place) → open_line settings fields ≡ Ok next → I next
unfolding open_line
open_gives settings I on (words.one word) next e =
    let first = bind_ok (address_field word) (λ (f : List ℕ). Ok (places.Body (record { keep = settings.keep; sites = settings.sites; pages = settings.pages; first = f }) [])) next e in
    subst I (ok_same first.2) (on.opens word first.0 first.1)
open_gives settings I on _ next e = cc

setting_gives : (settings : Settings) (I : Place → Type 0) → OnHeading settings I → (word : Option HeadWord) (fields : words.Fields) (next : Place) → setting_of word settings fields ≡ Ok next → I next
setting_gives settings I on (Some heads.Keep) fields next e = keep_gives settings I on fields next e
setting_gives settings I on (Some heads.Site) fields next e = site_gives settings I on fields next e
setting_gives settings I on (Some heads.Page) fields next e = page_gives settings I on fields next e
setting_gives settings I on (Some heads.Open) fields next e = open_gives settings I on fields next e
setting_gives settings I on None fields next e = cc

pub heading_gives : (stage : Stage) (settings : Settings) (I : Place → Type 0) → OnHeading settings I → (text : List ℕ) (next : Place) → heading_line stage settings text ≡ Ok next → I next
unfolding heading_line
heading_gives stage settings I on text next e =
    setting_gives settings I on (due stage (head_word_of (split_words (words_of text)).0)) (split_words (words_of text)).1 next e

-- ---- all lines

-- what holds at the start, and at each place after a line that counts
pub record Stays (in_run : Bool) (built : Built) (I : Place → Type 0) : Type 0 where
  pub version : I (places.Heading stages.Version plain_settings)
  pub heading : (stage : Stage) (settings : Settings) → I (places.Heading stage settings) → OnHeading settings (λ place. plays_place built place ≡ true → I place)
  pub line : (header : Header) (before : List ScenarioLine) (text : List ℕ) (line : ScenarioLine) → I (places.Body header before) → played_line in_run built text ≡ Ok line → list_all is_plain text ≡ true → is_passed_over text ≡ false → has_empty_word text ≡ false → I (places.Body header (before ++ line ∷ []))

counted_stays : (in_run : Bool) (built : Built) (I : Place → Type 0) → Stays in_run built I → (place next : Place) (text : List ℕ) → list_all is_plain text ≡ true → is_passed_over text ≡ false → has_empty_word text ≡ false → I place → after_counted in_run built place text ≡ Ok next → I next
unfolding after_counted
counted_stays in_run built I stays places.Start next text plain counted full so_far e = by_test (bytes_eq text (codes "session 1")) e
  where
    by_test : (b : Bool) → (if b then Ok (places.Heading stages.Version plain_settings) else Err NoHeader) ≡ Ok next → I next
    by_test true e = subst I (ok_same e) stays.version
    by_test false e = cc
counted_stays in_run built I stays (places.Heading stage settings) next text plain counted full so_far e =
    let led = bind_ok (heading_line stage settings text) (played_place built) next e in
    let may = may_play (plays_place built led.0) led.0 next led.2 in
    subst I may.1 (heading_gives stage settings (λ place. plays_place built place ≡ true → I place) (stays.heading stage settings so_far) text led.0 led.1 may.0)
  where
    may_play : (b : Bool) (place next : Place) → (if b then Ok place else Err Unbuilt) ≡ Ok next → (b ≡ true) × (place ≡ next)
    may_play true place next e = (refl, ok_same e)
    may_play false place next e = cc
counted_stays in_run built I stays (places.Body header before) next text plain counted full so_far e =
    let last = bind_ok (played_line in_run built text) (λ (l : ScenarioLine). Ok (places.Body header (before ++ l ∷ []))) next e in
    subst I (ok_same last.2) (stays.line header before text last.0 so_far last.1 plain counted full)

line_stays : (in_run : Bool) (built : Built) (I : Place → Type 0) → Stays in_run built I → (place next : Place) (text : List ℕ) → I place → after_line in_run built place text ≡ Ok next → I next
unfolding after_line
line_stays in_run built I stays place next text so_far e = by_tests (list_all is_plain text) (is_passed_over text) (has_empty_word text) refl refl refl e
  where
    by_tests : (plain passed empty : Bool) → list_all is_plain text ≡ plain → is_passed_over text ≡ passed → has_empty_word text ≡ empty → (if not plain then Err Bytes else (if passed then Ok place else (if empty then Err Spaces else after_counted in_run built place text))) ≡ Ok next → I next
    by_tests false passed empty is_plain_ is_passed is_empty e = cc
    by_tests true true empty is_plain_ is_passed is_empty e = subst I (ok_same e) so_far
    by_tests true false true is_plain_ is_passed is_empty e = cc
    by_tests true false false is_plain_ is_passed is_empty e = counted_stays in_run built I stays place next text is_plain_ is_passed is_empty so_far e

end_stays : (I : Place → Type 0) (number : ℕ) (place : Place) (rest : List ℕ) (scenario : Scenario) → I place → at_end number place rest ≡ Ok scenario → I (places.Body scenario.header scenario.lines)
unfolding at_end
end_stays I number place rest scenario so_far e = by_test (length rest == 0) place so_far e
  where
    by_test : (b : Bool) (p : Place) → I p → (if b then finished number p else faulty number (if nat_lt 65536 number then TooMany else NoEnd)) ≡ Ok scenario → I (places.Body scenario.header scenario.lines)
    by_test false p so_far e = cc
    by_test true places.Start so_far e = cc
    by_test true (places.Heading stage settings) so_far e = cc
    by_test true (places.Body header lines) so_far e =
        let same : record { header = header; lines = lines } ≡ scenario = cc in
        subst (λ (s : Scenario). I (places.Body s.header s.lines)) same so_far

at_line_ok : {A : Type 0} (number : ℕ) (r : Result A Reason) (a : A) → at_line number r ≡ Ok a → r ≡ Ok a
at_line_ok number (Ok x) a e = let same : x ≡ a = cc in ap Ok same
at_line_ok number (Err reason) a e = cc

pieces_stay : (in_run : Bool) (built : Built) (I : Place → Type 0) → Stays in_run built I → (number : ℕ) (place : Place) (parts : List (List ℕ)) (scenario : Scenario) → I place → read_pieces in_run built number place parts ≡ Ok scenario → I (places.Body scenario.header scenario.lines)
unfolding read_pieces
pieces_stay in_run built I stays number place [] scenario so_far e = end_stays I number place [] scenario so_far e
pieces_stay in_run built I stays number place (text ∷ others) scenario so_far e =
    by_tests (λ next so_far_ e_. pieces_stay in_run built I stays (number + 1) next others scenario so_far_ e_) (length others == 0) (nat_lt 65536 number) e
  where
    by_tests : ((next : Place) → I next → read_pieces in_run built (number + 1) next others ≡ Ok scenario → I (places.Body scenario.header scenario.lines)) → (last many : Bool) → (if last then at_end number place text else (if many then faulty number TooMany else (at_line number (after_line in_run built place text) >>= λ next. read_pieces in_run built (number + 1) next others))) ≡ Ok scenario → I (places.Body scenario.header scenario.lines)
    by_tests rest true many e = end_stays I number place text scenario so_far e
    by_tests rest false true e = cc
    by_tests rest false false e =
        let first = bind_ok (at_line number (after_line in_run built place text)) (λ (next : Place). read_pieces in_run built (number + 1) next others) scenario e in
        rest first.0 (line_stays in_run built I stays place first.0 text so_far (at_line_ok number (after_line in_run built place text) first.0 first.1)) first.2

-- what stays to the end holds of the scenario
pub scenario_stays : (in_run : Bool) (built : Built) (I : Place → Type 0) → I places.Start → Stays in_run built I → (bytes : List ℕ) (scenario : Scenario) → scenario_of in_run built bytes ≡ Ok scenario → I (places.Body scenario.header scenario.lines)
unfolding scenario_of
scenario_stays in_run built I start stays bytes scenario e = by_test (nat_lt 4194304 (length bytes)) e
  where
    by_test : (b : Bool) → (if b then faulty 0 TooLong else read_pieces in_run built 1 places.Start (pieces 10 bytes)) ≡ Ok scenario → I (places.Body scenario.header scenario.lines)
    by_test true e = cc
    by_test false e = pieces_stay in_run built I stays 1 places.Start (pieces 10 bytes) scenario start e

-- ---- what holds of each item

pub Each-append : {A : Type 0} (P : A → Type 0) (lines : List A) (line : A) → Each P lines → P line → Each P (lines ++ line ∷ [])
Each-append P [] line are is = (is, tt)
Each-append P (first ∷ lines) line are is = (are.0, Each-append P lines line are.1 is)

pub Each-all : {A : Type 0} (P : A → Type 0) (lines : List A) → Each P lines → All P lines
Each-all P [] are = All-nil P
Each-all P (line ∷ lines) are = All-cons P line lines are.0 (Each-all P lines are.1)

-- what holds of each line after `open`
abbrev Lines : (ScenarioLine → Type 0) → Place → Type 0
Lines P (places.Body header lines) = Each P lines
Lines P _ = Unit {0}

pub lines_stay : (in_run : Bool) (built : Built) (P : ScenarioLine → Type 0) → ((text : List ℕ) (line : ScenarioLine) → played_line in_run built text ≡ Ok line → list_all is_plain text ≡ true → is_passed_over text ≡ false → has_empty_word text ≡ false → P line) → (bytes : List ℕ) (scenario : Scenario) → scenario_of in_run built bytes ≡ Ok scenario → Each P scenario.lines
lines_stay in_run built P of_line bytes scenario e =
    scenario_stays in_run built (Lines P) tt
    (record {
      version = tt;
      heading = λ stage settings so_far. record {
        keep = λ word keep e_ played. tt;
        site = λ word number origin proc e1 e2 e3 played. tt;
        page = λ word number base slot e1 e2 e3 played. tt;
        opens = λ word first e_ played. tt;
      };
      line = λ header before text line so_far e_ plain counted full. Each-append P before line so_far (of_line text line e_ plain counted full);
    })
    bytes scenario e
