-- A made scenario is spelled, and its addresses are written as they are read.
use Rattle.std.proofs.Common.{◌≡◌, ℕ, ◌*◌, ◌≤◌, false, List, [], ◌∷◌, ◌++◌, length, Ok, refl, ap, ◌∙◌, arith, length-append}
use Rattle.std.specs.Prelude.{codes, flat_map}
use Rattle.url.proofs.OnLiterals.{url_on_literals}
use Rattle.address.specs.Addresses.{address_of, is_blank_url, is_web, judged, judged_parse, read_against, url_of, origin_of, origin_text, fragment_of}
use Rattle.log_model.specs.declared.header.Header.{Header}
use Rattle.log_model.specs.declared.header.Page.{Page}
use Rattle.log_model.specs.declared.header.Site.{Site}
use Rattle.scenario_text.specs.declared.built.Built.TheVariants as builts
use Rattle.scenario_text.specs.declared.line.ScenarioLine.{ScenarioLine}
use Rattle.scenario_text.specs.declared.place.Place.TheVariants as places
use Rattle.scenario_text.specs.declared.place.Settings.{Settings}
use Rattle.scenario_text.specs.declared.place.Stage.TheVariants as stages
use Rattle.scenario_text.specs.Numbers.{number_of}
use Rattle.scenario_text.specs.Pieces.{pieces}
use Rattle.scenario_text.specs.Printed.{line_text, text_of}
use Rattle.scenario_text.specs.Readings.{origin_field, base_field}
use Rattle.scenario_text.specs.Heading.{plain_settings, keep_line, site_line, page_line, open_line, heading_line}
use Rattle.scenario_text.specs.Grammar.{after_counted, after_line, read_pieces, scenario_of, IsSpelled}
use Rattle.scenario_text.specs.Written.{Each, IsWrittenHeader, IsWrittenLine, AreWritten}
use Rattle.scenario_text.proofs.LineLaws.{reads_text}
use Rattle.scenario_text.proofs.PrintLaws.{IsKept, read_on, lines_read_back}
use Rattle.scenario_make.specs.Scenarios.{made_header, made_lines}
use Rattle.scenario_make.proofs.MadeLines.{IsMade}
use Rattle.scenario_make.proofs.MadeTurns.{each_made, made_few}

-- ---- what each line is, for all lines

text_short : (lines : List ScenarioLine) → Each IsMade lines → length (flat_map line_text lines) ≤ 40 * length lines
text_short [] are = omega arith
text_short (line ∷ lines) are = omega (arith, length-append (line_text line) (flat_map line_text lines), are.0.short, text_short lines are.1)

each_kept : (lines : List ScenarioLine) → Each IsMade lines → Each (IsKept builts.All) lines
each_kept [] are = tt
each_kept (line ∷ lines) are = (record { back = λ written. are.0.back; playable = refl }, each_kept lines are.1)

each_written : (lines : List ScenarioLine) → Each IsMade lines → Each IsWrittenLine lines
each_written [] are = tt
each_written (line ∷ lines) are = (are.0.written, each_written lines are.1)

-- ---- the settings

header_written : IsWrittenHeader made_header
unfolding url_on_literals address_of read_against judged_parse judged is_web is_blank_url url_of origin_of origin_text fragment_of origin_field base_field
header_written = record {
  first = record { word = record { some = refl; bytes = refl }; reads = refl };
  sites = (record { word = record { some = refl; bytes = refl }; reads = refl }, (record { word = record { some = refl; bytes = refl }; reads = refl }, tt));
  pages = (record { word = record { some = refl; bytes = refl }; reads = refl }, tt);
}

-- the settings after `keep` with the first sites, and with the page
abbrev site_b : Site
site_b = record { origin = codes "http://b.test"; proc = record { 0 = 2 } }

abbrev site_c : Site
site_c = record { origin = codes "http://c.test"; proc = record { 0 = 3 } }

abbrev page_b : Page
page_b = record { base = codes "http://b.test/p1"; slot = 0 }

abbrev with_sites : List Site → List Page → Settings
with_sites sites pages = record { keep = 2; sites = sites; pages = pages }

version_read : after_line false builts.All places.Start (codes "session 1") ≡ Ok (places.Heading stages.Version plain_settings)
unfolding after_line after_counted pieces
version_read = refl

keep_read : after_line false builts.All (places.Heading stages.Version plain_settings) (codes "keep 2") ≡ Ok (places.Heading stages.Keep (with_sites [] []))
unfolding after_line after_counted pieces heading_line keep_line number_of
keep_read = refl

first_site_read : after_line false builts.All (places.Heading stages.Keep (with_sites [] [])) (codes "site http://b.test 2") ≡ Ok (places.Heading stages.Site (with_sites (site_b ∷ []) []))
unfolding url_on_literals address_of read_against judged_parse judged is_web is_blank_url url_of origin_of origin_text origin_field after_line after_counted pieces heading_line site_line number_of
first_site_read = refl

second_site_read : after_line false builts.All (places.Heading stages.Site (with_sites (site_b ∷ []) [])) (codes "site http://c.test 3") ≡ Ok (places.Heading stages.Site (with_sites (site_b ∷ site_c ∷ []) []))
unfolding url_on_literals address_of read_against judged_parse judged is_web is_blank_url url_of origin_of origin_text origin_field after_line after_counted pieces heading_line site_line number_of
second_site_read = refl

page_read : after_line false builts.All (places.Heading stages.Site (with_sites (site_b ∷ site_c ∷ []) [])) (codes "page http://b.test/p1 0") ≡ Ok (places.Heading stages.Page (with_sites (site_b ∷ site_c ∷ []) (page_b ∷ [])))
unfolding url_on_literals address_of read_against judged_parse judged is_web is_blank_url url_of fragment_of base_field after_line after_counted pieces heading_line page_line number_of
page_read = refl

open_read : after_line false builts.All (places.Heading stages.Page (with_sites (site_b ∷ site_c ∷ []) (page_b ∷ []))) (codes "open http://a.test/") ≡ Ok (places.Body made_header [])
unfolding url_on_literals address_of read_against judged_parse judged is_web is_blank_url after_line after_counted pieces heading_line open_line
open_read = refl

-- ---- the whole

-- the text of the settings before that of the lines
abbrev opened : List ℕ → List ℕ
opened rest = codes "open http://a.test/" ++ 10 ∷ rest

abbrev paged : List ℕ → List ℕ
paged rest = codes "page http://b.test/p1 0" ++ 10 ∷ opened rest

abbrev second_sited : List ℕ → List ℕ
second_sited rest = codes "site http://c.test 3" ++ 10 ∷ paged rest

abbrev first_sited : List ℕ → List ℕ
first_sited rest = codes "site http://b.test 2" ++ 10 ∷ second_sited rest

abbrev keeping : List ℕ → List ℕ
keeping rest = codes "keep 2" ++ 10 ∷ first_sited rest

abbrev whole : List ℕ → List ℕ
whole rest = codes "session 1" ++ 10 ∷ keeping rest

header_read : (rest : List ℕ) → read_pieces false builts.All 1 places.Start (pieces 10 (whole rest)) ≡ read_pieces false builts.All 7 (places.Body made_header []) (pieces 10 rest)
header_read rest =
    read_on builts.All 1 places.Start (places.Heading stages.Version plain_settings) (codes "session 1") (keeping rest) refl (omega arith) version_read
    ∙ read_on builts.All 2 (places.Heading stages.Version plain_settings) (places.Heading stages.Keep (with_sites [] [])) (codes "keep 2") (first_sited rest) refl (omega arith) keep_read
    ∙ read_on builts.All 3 (places.Heading stages.Keep (with_sites [] [])) (places.Heading stages.Site (with_sites (site_b ∷ []) [])) (codes "site http://b.test 2") (second_sited rest) refl (omega arith) first_site_read
    ∙ read_on builts.All 4 (places.Heading stages.Site (with_sites (site_b ∷ []) [])) (places.Heading stages.Site (with_sites (site_b ∷ site_c ∷ []) [])) (codes "site http://c.test 3") (paged rest) refl (omega arith) second_site_read
    ∙ read_on builts.All 5 (places.Heading stages.Site (with_sites (site_b ∷ site_c ∷ []) [])) (places.Heading stages.Page (with_sites (site_b ∷ site_c ∷ []) (page_b ∷ []))) (codes "page http://b.test/p1 0") (opened rest) refl (omega arith) page_read
    ∙ read_on builts.All 6 (places.Heading stages.Page (with_sites (site_b ∷ site_c ∷ []) (page_b ∷ []))) (places.Body made_header []) (codes "open http://a.test/") rest refl (omega arith) open_read

whole_short : (rest : List ℕ) → length rest ≤ 4000000 → length (whole rest) ≤ 4194304
whole_short rest short = omega (arith, short)

-- the text of a scenario with these settings
text_is : (lines : List ScenarioLine) → text_of (record { header = made_header; lines = lines }) ≡ whole (flat_map line_text lines)
unfolding url_on_literals text_of
text_is lines = refl

-- lines that are made, and not too many of them, are read back from the text with the settings before them
lines_read : (lines : List ScenarioLine) → Each IsMade lines → length lines ≤ 65000 → scenario_of false builts.All (text_of (record { header = made_header; lines = lines })) ≡ Ok (record { header = made_header; lines = lines })
lines_read lines are few =
    ap (λ (text : List ℕ). scenario_of false builts.All text) (text_is lines)
    ∙ reads_text false builts.All (whole (flat_map line_text lines)) (whole_short (flat_map line_text lines) (omega (arith, text_short lines are, few)))
    ∙ header_read (flat_map line_text lines)
    ∙ lines_read_back builts.All 7 made_header [] lines (each_kept lines are) (each_written lines are) (omega (arith, few))

-- what is made is read back from its text
pub made_read_back : (header : Header) (lines : List ScenarioLine) (n : ℕ) → header ≡ made_header → lines ≡ made_lines n → scenario_of false builts.All (text_of (record { header = header; lines = lines })) ≡ Ok (record { header = header; lines = lines })
made_read_back header lines n is_header is_lines =
    rw (is_header, is_lines) (lines_read (made_lines n) (each_made n) (omega (arith, made_few n)))

-- so it is spelled
pub made_spelled : (header : Header) (lines : List ScenarioLine) (n : ℕ) → header ≡ made_header → lines ≡ made_lines n → IsSpelled (record { header = header; lines = lines })
made_spelled header lines n is_header is_lines =
    (false, builts.All, text_of (record { header = header; lines = lines }), made_read_back header lines n is_header is_lines)

-- and its addresses are written as they are read
pub made_written : (header : Header) (lines : List ScenarioLine) (n : ℕ) → header ≡ made_header → lines ≡ made_lines n → AreWritten (record { header = header; lines = lines })
made_written header lines n is_header is_lines =
    rw (is_header, is_lines) (record { header = header_written; lines = each_written (made_lines n) (each_made n) })
