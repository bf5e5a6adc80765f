-- What was read is written as it is read.
use Rattle.std.proofs.Common.{◌≡◌, ℕ, true, false, List, [], ◌∷◌, ◌++◌, Ok, Err, refl, ap, ◌∙◌}
use Rattle.std.specs.Prelude.{is_some, if◌then◌else◌}
use Rattle.address.specs.Addresses.{IsAddress, origin_of, fragment_of, is_root}
use Rattle.log_model.specs.declared.header.Page.{Page}
use Rattle.log_model.specs.declared.header.Site.{Site}
use Rattle.scenario_text.specs.declared.line.ScenarioLine.{ScenarioLine}
use Rattle.scenario_text.specs.declared.reason.Reason.TheVariants.{Origin, Fragment}
use Rattle.scenario_text.specs.Chain.{◌>>=◌}
use Rattle.scenario_text.specs.Readings.{address_or, origin_field, base_field}
use Rattle.scenario_text.specs.Written.{Each, IsWritten, IsWrittenOrigin, IsWrittenBase, IsWrittenSite, IsWrittenPage, IsWrittenLine}
use Rattle.scenario_text.proofs.Spelled.{Each-append}

pub written_address : (address : List ℕ) → IsAddress address → IsWritten address
written_address address is = record { word = record { some = is.some; bytes = is.bytes }; reads = ap (λ r. address_or r) is.reads }

pub written_origin : (address : List ℕ) → IsAddress address → is_root address ≡ true → IsWrittenOrigin (origin_of address)
unfolding origin_field
written_origin address is root =
    let origin = is.root root in
    record {
      word = record { some = origin.some; bytes = origin.bytes };
      reads = ap (λ r. address_or r >>= λ a. (if is_root a then Ok (origin_of a) else Err Origin)) origin.reads ∙ rw root refl;
    }

pub written_base : (address : List ℕ) → IsAddress address → is_some (fragment_of address) ≡ false → IsWrittenBase address
unfolding base_field
written_base address is none = record {
  word = record { some = is.some; bytes = is.bytes };
  reads = ap (λ r. address_or r >>= λ a. (if is_some (fragment_of a) then Err Fragment else Ok a)) is.reads ∙ rw none refl;
}

pub one_more_site : (sites : List Site) (site : Site) → Each IsWrittenSite sites → IsWrittenSite site → Each IsWrittenSite (sites ++ site ∷ [])
one_more_site sites site are is = Each-append IsWrittenSite sites site are is

pub one_more_page : (pages : List Page) (page : Page) → Each IsWrittenPage pages → IsWrittenPage page → Each IsWrittenPage (pages ++ page ∷ [])
one_more_page pages page are is = Each-append IsWrittenPage pages page are is

pub one_more_line : (lines : List ScenarioLine) (line : ScenarioLine) → Each IsWrittenLine lines → IsWrittenLine line → Each IsWrittenLine (lines ++ line ∷ [])
one_more_line lines line are is = Each-append IsWrittenLine lines line are is

pub ruleset addresses = (written_address, written_origin, written_base)

pub ruleset one_more = (one_more_site, one_more_page, one_more_line)
