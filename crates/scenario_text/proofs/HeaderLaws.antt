-- A printed scenario is read back: its header, and so the whole.
use Rattle.std.proofs.Common.{◌≡◌, ℕ, ◌+◌, ◌≤◌, Bool, true, false, List, [], ◌∷◌, ◌++◌, length, Some, Ok, refl, sym, ap, subst, ◌∙◌, arith, append-nil, append_assoc}
use Rattle.std.specs.Prelude.{codes, decimal, flat_map}
use Rattle.tab_ids.specs.declared.ProcId.{ProcId}
use Rattle.log_model.specs.declared.header.Header.{Header}
use Rattle.log_model.specs.declared.header.Page.{Page}
use Rattle.log_model.specs.declared.header.Site.{Site}
use Rattle.scenario_text.specs.declared.built.Built.{Built}
use Rattle.scenario_text.specs.declared.built.Built.TheVariants as builts
use Rattle.scenario_text.specs.declared.head_word.HeadWord.{HeadWord}
use Rattle.scenario_text.specs.declared.head_word.HeadWord.TheVariants as heads
use Rattle.scenario_text.specs.declared.line.ScenarioLine.{ScenarioLine}
use Rattle.scenario_text.specs.declared.place.Place.{Place}
use Rattle.scenario_text.specs.declared.place.Place.TheVariants as places
use Rattle.scenario_text.specs.declared.place.Settings.{Settings}
use Rattle.scenario_text.specs.declared.place.Stage.{Stage}
use Rattle.scenario_text.specs.declared.place.Stage.TheVariants as stages
use Rattle.scenario_text.specs.Scenarios.{Scenario}
use Rattle.scenario_text.specs.Chain.{◌>>=◌}
use Rattle.scenario_text.specs.Numbers.{number_of}
use Rattle.scenario_text.specs.Pieces.{pieces}
use Rattle.scenario_text.specs.Printed.{IsReadBack, line_count, line_end, line_text, keep_line, site_line, page_line, open_text, text_of}
use Rattle.scenario_text.specs.Written.{Each, IsWord, IsWritten, IsWrittenSite, IsWrittenPage, IsWrittenLine, AreWritten}
use Rattle.scenario_text.specs.Plays.{plays_stage, plays_place}
use Rattle.scenario_text.specs.Readings.{keep_of, proc_of, slot_of}
use Rattle.scenario_text.specs.Words as words
use Rattle.scenario_text.specs.Words.{words_of, split_words}
use Rattle.scenario_text.specs.Heading as heading
use Rattle.scenario_text.specs.Heading.{plain_settings, head_word_of, may_stand, due, has_site, with_site, has_page, with_page, setting_of, heading_line}
use Rattle.scenario_text.specs.Grammar.{is_passed_over, after_counted, after_line, read_pieces, scenario_of, IsSpelled}
use Rattle.scenario_text.proofs.FieldTexts.{number_text, proc_text}
use Rattle.scenario_text.proofs.LineLaws.{reads_text}
use Rattle.scenario_text.proofs.PrintedWords.{IsLine, two_words, three_words, number_is_word}
use Rattle.scenario_text.proofs.PrintLaws.{IsKept, kept, read_on, lines_read_back}
use Rattle.scenario_text.proofs.Spelled.{bind_ok, Each-append, scenario_stays}

-- ---- what each setting keeps

-- the number of kept documents is read as it is written
abbrev KeepIs : ℕ → Type 0
KeepIs keep = keep_of (decimal keep) ≡ Ok keep

-- a site whose process is read as it is written, and whose origin none of the earlier sites has
record SiteIs (built : Built) (earlier : List Site) (site : Site) : Type 0 where
  pub plays : plays_stage built stages.Site ≡ true
  pub proc : proc_of (decimal site.proc.0) ≡ Ok site.proc
  pub new : has_site earlier site.origin ≡ false

abbrev SitesAre : Built → List Site → List Site → Type 0
SitesAre built earlier [] = Unit {0}
SitesAre built earlier (site ∷ sites) = SiteIs built earlier site × SitesAre built (earlier ++ site ∷ []) sites

-- a page whose slot is read as it is written, and whose address none of the earlier pages has
record PageIs (built : Built) (earlier : List Page) (page : Page) : Type 0 where
  pub plays : plays_stage built stages.Page ≡ true
  pub slot : slot_of (decimal page.slot) ≡ Ok page.slot
  pub new : has_page earlier page.base ≡ false

abbrev PagesAre : Built → List Page → List Page → Type 0
PagesAre built earlier [] = Unit {0}
PagesAre built earlier (page ∷ pages) = PageIs built earlier page × PagesAre built (earlier ++ page ∷ []) pages

sites_more : (built : Built) (earlier sites : List Site) (site : Site) → SitesAre built earlier sites → SiteIs built (earlier ++ sites) site → SitesAre built earlier (sites ++ site ∷ [])
sites_more built earlier [] site are is = (subst (λ (l : List Site). SiteIs built l site) (append-nil earlier) is, tt)
sites_more built earlier (first ∷ sites) site are is =
    (are.0, sites_more built (earlier ++ first ∷ []) sites site are.1 (subst (λ (l : List Site). SiteIs built l site) (sym (append_assoc earlier (first ∷ []) sites)) is))

pages_more : (built : Built) (earlier pages : List Page) (page : Page) → PagesAre built earlier pages → PageIs built (earlier ++ pages) page → PagesAre built earlier (pages ++ page ∷ [])
pages_more built earlier [] page are is = (subst (λ (l : List Page). PageIs built l page) (append-nil earlier) is, tt)
pages_more built earlier (first ∷ pages) page are is =
    (are.0, pages_more built (earlier ++ first ∷ []) pages page are.1 (subst (λ (l : List Page). PageIs built l page) (sym (append_assoc earlier (first ∷ []) pages)) is))

record SettingsAre (built : Built) (k : ℕ) (s : List Site) (p : List Page) : Type 0 where
  pub keep : KeepIs k
  pub sites : SitesAre built [] s
  pub pages : PagesAre built [] p

-- what holds of each place
abbrev Kept : Built → Place → Type 0
Kept built places.Start = Unit {0}
Kept built (places.Heading stage settings) = SettingsAre built settings.keep settings.sites settings.pages
Kept built (places.Body header lines) = SettingsAre built header.keep header.sites header.pages × Each (IsKept built) lines

keep_is : (word : List ℕ) (keep : ℕ) → keep_of word ≡ Ok keep → KeepIs keep
keep_is word keep e = subst (λ (w : List ℕ). keep_of w ≡ Ok keep) (sym (number_text 0 64 word keep (omega arith) e).0) e

slot_is : (word : List ℕ) (slot : ℕ) → slot_of word ≡ Ok slot → slot_of (decimal slot) ≡ Ok slot
slot_is word slot e = subst (λ (w : List ℕ). slot_of w ≡ Ok slot) (sym (number_text 0 63 word slot (omega arith) e).0) e

proc_is : (word : List ℕ) (proc : ProcId) → proc_of word ≡ Ok proc → proc_of (decimal proc.0) ≡ Ok proc
proc_is word proc e = subst (λ (w : List ℕ). proc_of w ≡ Ok proc) (sym (proc_text word proc e)) e

three_read : keep_of (codes "3") ≡ Ok 3
unfolding number_of
three_read = refl

three_kept : KeepIs 3
three_kept = keep_is (codes "3") 3 three_read

settings_kept : (in_run : Bool) (built : Built) (bytes : List ℕ) (scenario : Scenario) → scenario_of in_run built bytes ≡ Ok scenario → Kept built (places.Body scenario.header scenario.lines)
settings_kept in_run built bytes scenario e =
    scenario_stays in_run built (Kept built) tt
    (record {
      version = record { keep = three_kept; sites = tt; pages = tt };
      heading = λ stage settings are. record {
        keep = λ word keep e_ played. record { keep = keep_is word keep e_; sites = are.sites; pages = are.pages };
        site = λ word number origin proc e1 e2 e3 played. record {
          keep = are.keep;
          sites = sites_more built [] settings.sites (record { origin = origin; proc = proc }) are.sites (record { plays = played; proc = proc_is number proc e2; new = e3 });
          pages = are.pages;
        };
        page = λ word number base slot e1 e2 e3 played. record {
          keep = are.keep;
          sites = are.sites;
          pages = pages_more built [] settings.pages (record { base = base; slot = slot }) are.pages (record { plays = played; slot = slot_is number slot e2; new = e3 });
        };
        opens = λ word first e_ played. (record { keep = are.keep; sites = are.sites; pages = are.pages }, tt);
      };
      line = λ header before text line so_far e_ plain counted full. (so_far.0, Each-append (IsKept built) before line so_far.1 (kept in_run built text line e_ plain counted full));
    })
    bytes scenario e

-- ---- one line of the header

heading_after : (built : Built) (stage : Stage) (settings : Settings) (text word : List ℕ) (fields : words.Fields) (next : Place) → IsLine text word fields → is_passed_over text ≡ false → setting_of (due stage (head_word_of word)) settings fields ≡ Ok next → plays_place built next ≡ true → after_line false built (places.Heading stage settings) text ≡ Ok next
unfolding after_line after_counted heading_line
heading_after built stage settings text word fields next is counted read plays =
    let split : heading_line stage settings text ≡ Ok next = ap (λ (s : List ℕ × words.Fields). setting_of (due stage (head_word_of s.0)) settings s.1) is.split ∙ read in
    rw (is.plain, counted, is.full, split, plays) refl

-- the line is read, and the others after it
heading_on : (built : Built) (number : ℕ) (stage : Stage) (settings : Settings) (text word rest : List ℕ) (fields : words.Fields) (next : Place) → IsLine text word fields → is_passed_over text ≡ false → setting_of (due stage (head_word_of word)) settings fields ≡ Ok next → plays_place built next ≡ true → number ≤ 65536 → read_pieces false built number (places.Heading stage settings) (pieces 10 (text ++ 10 ∷ rest)) ≡ read_pieces false built (number + 1) next (pieces 10 rest)
heading_on built number stage settings text word rest fields next is counted read plays few =
    read_on built number (places.Heading stage settings) next text rest is.plain few (heading_after built stage settings text word fields next is counted read plays)

proc_is_word : (proc : ProcId) → proc_of (decimal proc.0) ≡ Ok proc → IsWord (decimal proc.0)
proc_is_word proc e =
    let number = bind_ok (number_of 1 16 (decimal proc.0)) (λ (n : ℕ). let p : ProcId = record { 0 = n } in Ok p) proc e in
    number_is_word 1 16 (decimal proc.0) number.0 number.1

keep_read : (settings : Settings) (keep : ℕ) → KeepIs keep → heading.keep_line settings (words.one (decimal keep)) ≡ Ok (places.Heading stages.Keep (record settings { keep = keep }))
unfolding heading.keep_line
keep_read settings keep is = ap (λ r. r >>= λ k. Ok (places.Heading stages.Keep (record settings { keep = k }))) is

site_read : (built : Built) (settings : Settings) (site : Site) → SiteIs built settings.sites site → IsWrittenSite site → heading.site_line settings (words.two site.origin (decimal site.proc.0)) ≡ Ok (places.Heading stages.Site (record settings { sites = settings.sites ++ site ∷ [] }))
unfolding heading.site_line
site_read built settings site is written =
    ap (λ r. r >>= λ o. (proc_of (decimal site.proc.0) >>= λ p. (with_site settings.sites o p >>= λ s. Ok (places.Heading stages.Site (record settings { sites = s }))))) written.reads
    ∙ ap (λ r. r >>= λ p. (with_site settings.sites site.origin p >>= λ s. Ok (places.Heading stages.Site (record settings { sites = s })))) is.proc
    ∙ rw is.new refl

page_read : (built : Built) (settings : Settings) (page : Page) → PageIs built settings.pages page → IsWrittenPage page → heading.page_line settings (words.two page.base (decimal page.slot)) ≡ Ok (places.Heading stages.Page (record settings { pages = settings.pages ++ page ∷ [] }))
unfolding heading.page_line
page_read built settings page is written =
    ap (λ r. r >>= λ b. (slot_of (decimal page.slot) >>= λ k. (with_page settings.pages b k >>= λ p. Ok (places.Heading stages.Page (record settings { pages = p }))))) written.reads
    ∙ ap (λ r. r >>= λ k. (with_page settings.pages page.base k >>= λ p. Ok (places.Heading stages.Page (record settings { pages = p })))) is.slot
    ∙ rw is.new refl

open_read : (settings : Settings) (first : List ℕ) → IsWritten first → heading.open_line settings (words.one first) ≡ Ok (places.Body (record { keep = settings.keep; sites = settings.sites; pages = settings.pages; first = first }) [])
unfolding heading.open_line
open_read settings first written =
    ap (λ r. r >>= λ f. Ok (places.Body (record { keep = settings.keep; sites = settings.sites; pages = settings.pages; first = f }) [])) written.reads

page_may_stand : (stage : Stage) → may_stand stage heads.Page ≡ true
page_may_stand stages.Version = refl
page_may_stand stages.Keep = refl
page_may_stand stages.Site = refl
page_may_stand stages.Page = refl

open_may_stand : (stage : Stage) → may_stand stage heads.Open ≡ true
open_may_stand stages.Version = refl
open_may_stand stages.Keep = refl
open_may_stand stages.Site = refl
open_may_stand stages.Page = refl

-- a word that may stand is due
is_due : (stage : Stage) (word : HeadWord) (settings : Settings) (fields : words.Fields) (next : Place) → may_stand stage word ≡ true → setting_of (Some word) settings fields ≡ Ok next → setting_of (due stage (Some word)) settings fields ≡ Ok next
is_due stage word settings fields next may read = rw may read

-- ---- the lines of sites and of pages

-- the settings of sites and pages
abbrev settings_with : ℕ → List Site → List Page → Settings
settings_with keep sites pages = record { keep = keep; sites = sites; pages = pages }

sites_read : (built : Built) (number more keep : ℕ) (stage : Stage) (earlier sites : List Site) (rest : List ℕ) (scenario : Scenario) → may_stand stage heads.Site ≡ true → SitesAre built earlier sites → Each IsWrittenSite sites → number + length sites + more ≤ 65537
    → ((last : Stage) (next : ℕ) → next + more ≤ 65537 → read_pieces false built next (places.Heading last (settings_with keep (earlier ++ sites) [])) (pieces 10 rest) ≡ Ok scenario)
    → read_pieces false built number (places.Heading stage (settings_with keep earlier [])) (pieces 10 (flat_map site_line sites ++ rest)) ≡ Ok scenario
sites_read built number more keep stage earlier [] rest scenario may are written few go_on =
    subst (λ (l : List Site). read_pieces false built number (places.Heading stage (settings_with keep l [])) (pieces 10 rest) ≡ Ok scenario) (append-nil earlier) (go_on stage number (omega (arith, few)))
sites_read built number more keep stage earlier (site ∷ sites) rest scenario may are written few go_on =
    let text : List ℕ = codes "site" ++ 32 ∷ (site.origin ++ 32 ∷ decimal site.proc.0) in
    let others : List ℕ = flat_map site_line sites ++ rest in
    let apart : flat_map site_line (site ∷ sites) ++ rest ≡ text ++ 10 ∷ others =
    append_assoc (site_line site) (flat_map site_line sites) rest ∙ append_assoc text line_end others in
    let is : IsLine text (codes "site") (words.two site.origin (decimal site.proc.0)) =
    three_words (codes "site") site.origin (decimal site.proc.0) (record { some = refl; bytes = refl }) written.0.word (proc_is_word site.proc are.0.proc) in
    let settings : Settings = settings_with keep earlier [] in
    ap (λ (l : List ℕ). read_pieces false built number (places.Heading stage settings) (pieces 10 l)) apart
    ∙ heading_on built number stage settings text (codes "site") others (words.two site.origin (decimal site.proc.0)) (places.Heading stages.Site (settings_with keep (earlier ++ site ∷ []) [])) is refl (is_due stage heads.Site settings (words.two site.origin (decimal site.proc.0)) (places.Heading stages.Site (settings_with keep (earlier ++ site ∷ []) [])) may (site_read built settings site are.0 written.0)) are.0.plays (omega (arith, few))
    ∙ sites_read built (number + 1) more keep stages.Site (earlier ++ site ∷ []) sites rest scenario refl are.1 written.1 (omega (arith, few))
    (λ last next few_. subst (λ (l : List Site). read_pieces false built next (places.Heading last (settings_with keep l [])) (pieces 10 rest) ≡ Ok scenario) (sym (append_assoc earlier (site ∷ []) sites)) (go_on last next few_))

slot_is_word : (slot : ℕ) → slot_of (decimal slot) ≡ Ok slot → IsWord (decimal slot)
slot_is_word slot e = number_is_word 0 63 (decimal slot) slot e

pages_read : (built : Built) (number more keep : ℕ) (stage : Stage) (sites : List Site) (earlier pages : List Page) (rest : List ℕ) (scenario : Scenario) → PagesAre built earlier pages → Each IsWrittenPage pages → number + length pages + more ≤ 65537
    → ((last : Stage) (next : ℕ) → next + more ≤ 65537 → read_pieces false built next (places.Heading last (settings_with keep sites (earlier ++ pages))) (pieces 10 rest) ≡ Ok scenario)
    → read_pieces false built number (places.Heading stage (settings_with keep sites earlier)) (pieces 10 (flat_map page_line pages ++ rest)) ≡ Ok scenario
pages_read built number more keep stage sites earlier [] rest scenario are written few go_on =
    subst (λ (l : List Page). read_pieces false built number (places.Heading stage (settings_with keep sites l)) (pieces 10 rest) ≡ Ok scenario) (append-nil earlier) (go_on stage number (omega (arith, few)))
pages_read built number more keep stage sites earlier (page ∷ pages) rest scenario are written few go_on =
    let text : List ℕ = codes "page" ++ 32 ∷ (page.base ++ 32 ∷ decimal page.slot) in
    let others : List ℕ = flat_map page_line pages ++ rest in
    let apart : flat_map page_line (page ∷ pages) ++ rest ≡ text ++ 10 ∷ others =
    append_assoc (page_line page) (flat_map page_line pages) rest ∙ append_assoc text line_end others in
    let is : IsLine text (codes "page") (words.two page.base (decimal page.slot)) =
    three_words (codes "page") page.base (decimal page.slot) (record { some = refl; bytes = refl }) written.0.word (slot_is_word page.slot are.0.slot) in
    let settings : Settings = settings_with keep sites earlier in
    ap (λ (l : List ℕ). read_pieces false built number (places.Heading stage settings) (pieces 10 l)) apart
    ∙ heading_on built number stage settings text (codes "page") others (words.two page.base (decimal page.slot)) (places.Heading stages.Page (settings_with keep sites (earlier ++ page ∷ []))) is refl (is_due stage heads.Page settings (words.two page.base (decimal page.slot)) (places.Heading stages.Page (settings_with keep sites (earlier ++ page ∷ []))) (page_may_stand stage) (page_read built settings page are.0 written.0)) are.0.plays (omega (arith, few))
    ∙ pages_read built (number + 1) more keep stages.Page sites (earlier ++ page ∷ []) pages rest scenario are.1 written.1 (omega (arith, few))
    (λ last next few_. subst (λ (l : List Page). read_pieces false built next (places.Heading last (settings_with keep sites l)) (pieces 10 rest) ≡ Ok scenario) (sym (append_assoc earlier (page ∷ []) pages)) (go_on last next few_))

-- ---- the whole

open_line_read : (built : Built) (number : ℕ) (stage : Stage) (header : Header) (lines : List ScenarioLine) → IsWritten header.first → Each (IsKept built) lines → Each IsWrittenLine lines → number + 1 + length lines ≤ 65537
    → read_pieces false built number (places.Heading stage (settings_with header.keep header.sites header.pages)) (pieces 10 (open_text header.first ++ flat_map line_text lines)) ≡ Ok (record { header = header; lines = lines })
open_line_read built number stage header lines first back written few =
    let text : List ℕ = codes "open" ++ 32 ∷ header.first in
    let settings : Settings = settings_with header.keep header.sites header.pages in
    let is : IsLine text (codes "open") (words.one header.first) = two_words (codes "open") header.first (record { some = refl; bytes = refl }) first.word in
    ap (λ (l : List ℕ). read_pieces false built number (places.Heading stage settings) (pieces 10 l)) (append_assoc text line_end (flat_map line_text lines))
    ∙ heading_on built number stage settings text (codes "open") (flat_map line_text lines) (words.one header.first) (places.Body header []) is refl (is_due stage heads.Open settings (words.one header.first) (places.Body header []) (open_may_stand stage) (open_read settings header.first first)) refl (omega (arith, few))
    ∙ lines_read_back built (number + 1) header [] lines back written few

version_after : (built : Built) → after_line false built places.Start (codes "session 1") ≡ Ok (places.Heading stages.Version plain_settings)
unfolding after_line after_counted pieces
version_after built = refl

-- a caller of any kind plays `keep`
keep_played : (built : Built) → plays_stage built stages.Keep ≡ true
keep_played builts.Loads = refl
keep_played builts.All = refl

keep_line_read : (built : Built) (keep : ℕ) (rest : List ℕ) → KeepIs keep → read_pieces false built 2 (places.Heading stages.Version plain_settings) (pieces 10 (keep_line keep ++ rest)) ≡ read_pieces false built 3 (places.Heading stages.Keep (settings_with keep [] [])) (pieces 10 rest)
keep_line_read built keep rest is_kept =
    let text : List ℕ = codes "keep" ++ 32 ∷ decimal keep in
    let is : IsLine text (codes "keep") (words.one (decimal keep)) = two_words (codes "keep") (decimal keep) (record { some = refl; bytes = refl }) (number_is_word 0 64 (decimal keep) keep is_kept) in
    ap (λ (l : List ℕ). read_pieces false built 2 (places.Heading stages.Version plain_settings) (pieces 10 l)) (append_assoc text line_end rest)
    ∙ heading_on built 2 stages.Version plain_settings text (codes "keep") rest (words.one (decimal keep)) (places.Heading stages.Keep (settings_with keep [] [])) is refl (keep_read plain_settings keep is_kept) (keep_played built) (omega arith)

regrouped : (s k a b o l : List ℕ) → s ++ k ++ a ++ b ++ o ++ l ≡ s ++ (k ++ (a ++ (b ++ (o ++ l))))
regrouped s k a b o l =
    append_assoc (s ++ k ++ a ++ b) o l ∙ append_assoc (s ++ k ++ a) b (o ++ l) ∙ append_assoc (s ++ k) a (b ++ (o ++ l)) ∙ append_assoc s k (a ++ (b ++ (o ++ l)))

-- a printed scenario is read back
text_read_back : (built : Built) (scenario : Scenario) → Kept built (places.Body scenario.header scenario.lines) → AreWritten scenario → length (text_of scenario) ≤ 4194304 → line_count scenario ≤ 65536 → scenario_of false built (text_of scenario) ≡ Ok scenario
unfolding text_of
text_read_back built scenario are written short few =
    let header = scenario.header in
    let lines_ = flat_map line_text scenario.lines in
    let opened = open_text header.first ++ lines_ in
    let paged = flat_map page_line header.pages ++ opened in
    let sited = flat_map site_line header.sites ++ paged in
    reads_text false built (text_of scenario) short
    ∙ ap (λ (l : List ℕ). read_pieces false built 1 places.Start (pieces 10 l)) (regrouped (codes "session 1" ++ line_end) (keep_line header.keep) (flat_map site_line header.sites) (flat_map page_line header.pages) (open_text header.first) lines_)
    ∙ read_on built 1 places.Start (places.Heading stages.Version plain_settings) (codes "session 1") (keep_line header.keep ++ sited) refl (omega arith) (version_after built)
    ∙ keep_line_read built header.keep sited are.0.keep
    ∙ sites_read built 3 (length header.pages + 1 + length scenario.lines) header.keep stages.Keep [] header.sites paged scenario refl are.0.sites written.header.sites (omega (arith, few))
    (λ last next few_. pages_read built next (1 + length scenario.lines) header.keep last header.sites [] header.pages opened scenario are.0.pages written.header.pages (omega (arith, few_))
    (λ last_ next_ few__. open_line_read built next_ last_ header scenario.lines written.header.first are.1 written.lines (omega (arith, few__))))

pub spelled_read_back : (scenario : Scenario) → IsSpelled scenario → AreWritten scenario → IsReadBack scenario
spelled_read_back scenario spelled written =
    let in_run : Bool = spelled.0 in
    let built : Built = spelled.1 in
    (built, λ short few. text_read_back built scenario (settings_kept in_run built spelled.2 scenario spelled.3) written short few)
