-- The lines from the version to `open`: which of them may stand where, and the settings that they give.
-- This project's own.
use Rattle.std.specs.Prelude.{ℕ, Bool, true, false, List, [], ◌∷◌, ◌++◌, codes, bytes_eq, Option, Some, None, Result, Ok, Err, if◌then◌else◌}
use Rattle.std.specs.List.{list_any}
use Rattle.tab_ids.specs.declared.ProcId.{ProcId}
use Rattle.log_model.specs.declared.header.Page.{Page}
use Rattle.log_model.specs.declared.header.Site.{Site}
use Rattle.scenario_text.specs.declared.head_word.HeadWord.{HeadWord}
use Rattle.scenario_text.specs.declared.head_word.HeadWord.TheVariants as heads
use Rattle.scenario_text.specs.declared.place.Place.{Place}
use Rattle.scenario_text.specs.declared.place.Place.TheVariants as places
use Rattle.scenario_text.specs.declared.place.Settings.{Settings}
use Rattle.scenario_text.specs.declared.place.Stage.{Stage}
use Rattle.scenario_text.specs.declared.place.Stage.TheVariants as stages
use Rattle.scenario_text.specs.declared.reason.Reason.{Reason}
use Rattle.scenario_text.specs.declared.reason.Reason.TheVariants.{Count, Twice, Header as NoHeader}
use Rattle.scenario_text.specs.Chain.{◌>>=◌}
use Rattle.scenario_text.specs.Readings.{keep_of, proc_of, slot_of, address_field, origin_field, base_field}
use Rattle.scenario_text.specs.Words as words
use Rattle.scenario_text.specs.Words.{words_of, split_words}

-- ---- the order

-- the first word of a line of the header
abbrev pub head_word_of : List ℕ → Option HeadWord
head_word_of word =
    if bytes_eq word (codes "keep") then Some heads.Keep
    else (if bytes_eq word (codes "site") then Some heads.Site
    else (if bytes_eq word (codes "page") then Some heads.Page
    else (if bytes_eq word (codes "open") then Some heads.Open
    else None)))

-- at most one `keep`, then sites, then pages, then `open`
abbrev pub may_stand : Stage → HeadWord → Bool
may_stand stages.Version heads.Keep = true
may_stand stages.Keep heads.Keep = false
may_stand stages.Site heads.Keep = false
may_stand stages.Page heads.Keep = false
may_stand stages.Page heads.Site = false
may_stand _ _ = true

-- the first word, where a line that begins with it may stand here
abbrev pub due : Stage → Option HeadWord → Option HeadWord
due stage (Some word) = if may_stand stage word then Some word else None
due stage None = None

-- ---- settings

-- the settings where no line gives others
abbrev pub plain_settings : Settings
plain_settings = record { keep = 3; sites = []; pages = [] }

-- `keep K`
unfoldable pub keep_line : Settings → words.Fields → Result Place Reason
keep_line settings (words.one keep) = do
  keep ← keep_of keep
  Ok (places.Heading stages.Keep (record settings { keep = keep }))
keep_line settings _ = Err Count

-- a site of this origin has come
abbrev pub has_site : List Site → List ℕ → Bool
has_site sites origin = list_any (λ site. bytes_eq site.origin origin) sites

-- the sites with one more, of another origin
abbrev pub with_site : List Site → List ℕ → ProcId → Result (List Site) Reason
with_site sites origin proc =
    if has_site sites origin then Err Twice else Ok (sites ++ (record { origin = origin; proc = proc }) ∷ [])

-- `site ORIGIN P`
unfoldable pub site_line : Settings → words.Fields → Result Place Reason
site_line settings (words.two origin proc) = do
  origin ← origin_field origin
  proc ← proc_of proc
  sites ← with_site settings.sites origin proc
  Ok (places.Heading stages.Site (record settings { sites = sites }))
site_line settings _ = Err Count

-- a page at this address has come
abbrev pub has_page : List Page → List ℕ → Bool
has_page pages base = list_any (λ page. bytes_eq page.base base) pages

-- the pages with one more, at another address
abbrev pub with_page : List Page → List ℕ → ℕ → Result (List Page) Reason
with_page pages base slot =
    if has_page pages base then Err Twice else Ok (pages ++ (record { base = base; slot = slot }) ∷ [])

-- `page ADDRESS SLOT`
unfoldable pub page_line : Settings → words.Fields → Result Place Reason
page_line settings (words.two address slot) = do
  base ← base_field address
  slot ← slot_of slot
  pages ← with_page settings.pages base slot
  Ok (places.Heading stages.Page (record settings { pages = pages }))
page_line settings _ = Err Count

-- `open ADDRESS`
unfoldable pub open_line : Settings → words.Fields → Result Place Reason
open_line settings (words.one address) = do
  first ← address_field address
  Ok (places.Body (record { keep = settings.keep; sites = settings.sites; pages = settings.pages; first = first }) [])
open_line settings _ = Err Count

-- ---- the table

-- the place after a line with this first word and these others
abbrev pub setting_of : Option HeadWord → Settings → words.Fields → Result Place Reason
setting_of (Some heads.Keep) settings fields = keep_line settings fields
setting_of (Some heads.Site) settings fields = site_line settings fields
setting_of (Some heads.Page) settings fields = page_line settings fields
setting_of (Some heads.Open) settings fields = open_line settings fields
setting_of None settings fields = Err NoHeader

-- the place after a line between the version and `open`: the first word, then how many words there are, then the fields
unfoldable pub heading_line : Stage → Settings → List ℕ → Result Place Reason
heading_line stage settings line =
    let split = split_words (words_of line) in
    setting_of (due stage (head_word_of split.0)) settings split.1
