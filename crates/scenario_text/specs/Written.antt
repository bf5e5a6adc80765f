-- When the addresses of a scenario are written as they are read, in bytes that a word may have. What was read is so.
-- This project's own.
use Rattle.std.specs.Prelude.{◌≡◌, ℕ, Bool, true, false, ◌&&◌, ◌==◌, nat_lt, nat_le, List, [], ◌∷◌, length, Ok}
use Rattle.std.specs.List.{list_all}
use Rattle.log_model.specs.declared.header.Header.{Header}
use Rattle.log_model.specs.declared.header.Page.{Page}
use Rattle.log_model.specs.declared.header.Site.{Site}
use Rattle.log_model.specs.declared.request.Request.{Request}
use Rattle.log_model.specs.declared.request.Request.TheVariants as requests
use Rattle.scenario_text.specs.declared.line.ScenarioLine.{ScenarioLine}
use Rattle.scenario_text.specs.declared.line.ScenarioLine.TheVariants as lines
use Rattle.scenario_text.specs.declared.place.Place.{Place}
use Rattle.scenario_text.specs.declared.place.Place.TheVariants as places
use Rattle.scenario_text.specs.declared.place.Settings.{Settings}
use Rattle.scenario_text.specs.Scenarios.{Scenario}
use Rattle.scenario_text.specs.Readings.{address_field, origin_field, base_field}

-- it holds of each item
abbrev pub Each : {A : Type 0} → (A → Type 0) → List A → Type 0
Each P [] = Unit {0}
Each P (item ∷ items) = P item × Each P items

-- a byte that a word may have
abbrev pub is_word_byte : ℕ → Bool
is_word_byte b = nat_lt 32 b && nat_le b 126

-- it may stand as a word of a line
pub record IsWord (word : List ℕ) : Type 0 where
  pub some : (length word == 0) ≡ false
  pub bytes : list_all is_word_byte word ≡ true

-- an address is a word that reads as itself
pub record IsWritten (address : List ℕ) : Type 0 where
  pub word : IsWord address
  pub reads : address_field address ≡ Ok address

-- so is an origin, without the `/` of its address
pub record IsWrittenOrigin (origin : List ℕ) : Type 0 where
  pub word : IsWord origin
  pub reads : origin_field origin ≡ Ok origin

-- and the address of a page
pub record IsWrittenBase (base : List ℕ) : Type 0 where
  pub word : IsWord base
  pub reads : base_field base ≡ Ok base

-- the same of a site and of a page
abbrev pub IsWrittenSite : Site → Type 0
IsWrittenSite site = IsWrittenOrigin site.origin

abbrev pub IsWrittenPage : Page → Type 0
IsWrittenPage page = IsWrittenBase page.base

-- the same of a line, where it has an address
abbrev pub IsWrittenRequest : Request → Type 0
IsWrittenRequest (requests.Load nav mode address) = IsWritten address
IsWrittenRequest _ = Unit {0}

abbrev pub IsWrittenLine : ScenarioLine → Type 0
IsWrittenLine (lines.Ask request) = IsWrittenRequest request
IsWrittenLine _ = Unit {0}

-- the same of the settings so far, of a header, and of all that came so far
pub record AreWrittenSettings (settings : Settings) : Type 0 where
  pub sites : Each IsWrittenSite settings.sites
  pub pages : Each IsWrittenPage settings.pages

pub record IsWrittenHeader (header : Header) : Type 0 where
  pub first : IsWritten header.first
  pub sites : Each IsWrittenSite header.sites
  pub pages : Each IsWrittenPage header.pages

abbrev pub IsWrittenPlace : Place → Type 0
IsWrittenPlace places.Start = Unit {0}
IsWrittenPlace (places.Heading stage settings) = AreWrittenSettings settings
IsWrittenPlace (places.Body header lines) = IsWrittenHeader header × Each IsWrittenLine lines

-- the addresses of a scenario are written as they are read
pub record AreWritten (scenario : Scenario) : Type 0 where
  pub header : IsWrittenHeader scenario.header
  pub lines : Each IsWrittenLine scenario.lines
