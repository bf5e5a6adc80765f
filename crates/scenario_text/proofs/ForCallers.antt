-- What a caller of `Scenario::read` may want to know of the grammar.
use Rattle.std.proofs.Common.{◌≡◌, ℕ, ◌<◌, ◌≤◌, List, [], length, Bool, true, false, ◌&&◌, Result, Ok, Err, All, refl, subst, arith}
use Rattle.std.specs.Prelude.{nat_le, if◌then◌else◌}
use Rattle.std.specs.Str.Parse.{digits_value}
use Rattle.std.proofs.lemmas.Bool.Decides.{nat_tests}
use Rattle.tab_ids.specs.declared.ProcId.{ProcId}
use Rattle.log_model.specs.declared.header.Site.{Site}
use Rattle.scenario_text.specs.Grammar.{scenario_of, faulty, IsSpelled}
use Rattle.scenario_text.specs.Chain.{◌>>=◌}
use Rattle.scenario_text.specs.Numbers.{are_digits, has_no_zero_in_front, number_of}
use Rattle.scenario_text.specs.Plays.{plays}
use Rattle.scenario_text.specs.Readings.{proc_of}
use Rattle.scenario_text.specs.Written.{Each}
use Rattle.scenario_text.specs.declared.reason.Reason.{Reason}
use Rattle.scenario_text.specs.declared.built.Built.{Built}
use Rattle.scenario_text.specs.declared.built.Built.TheVariants as builts
use Rattle.scenario_text.specs.declared.line.ScenarioLine.{ScenarioLine}
use Rattle.scenario_text.specs.declared.place.Place.{Place}
use Rattle.scenario_text.specs.declared.place.Place.TheVariants as places
use Rattle.scenario_text.specs.declared.reason.Reason.TheVariants.{Number, TooLong}
use Rattle.scenario_text.specs.Scenarios.{Scenario}
use Rattle.scenario_text.proofs.LineLaws.{reads_too_long}
use Rattle.scenario_text.proofs.Spelled.{Each-all, Each-append, bind_ok, ok_same, played_line_is, lines_stay, scenario_stays}

-- past the limit it doesn't matter what the bytes are
pub scenario_of-too_long : (in_run : Bool) (built : Built) (bytes : List ℕ) → 4194304 < length bytes → scenario_of in_run built bytes ≡ faulty 0 TooLong
scenario_of-too_long in_run built bytes long = reads_too_long in_run built bytes long

-- what bytes spell for a caller is spelled
pub IsSpelled-from_scenario_of : (in_run : Bool) (built : Built) (bytes : List ℕ) (scenario : Scenario) → scenario_of in_run built bytes ≡ Ok scenario → IsSpelled scenario
IsSpelled-from_scenario_of in_run built bytes scenario read = (in_run, built, bytes, read)

-- each line is one that the caller plays
pub lines_played : (in_run : Bool) (built : Built) (bytes : List ℕ) (scenario : Scenario) → scenario_of in_run built bytes ≡ Ok scenario → All (λ line. plays built line ≡ true) scenario.lines
lines_played in_run built bytes scenario read =
    let P : ScenarioLine → Type 0 = λ line. plays built line ≡ true in
    Each-all P scenario.lines (lines_stay in_run built P (λ text line e plain counted full. (played_line_is in_run built text line e).1) bytes scenario read)

-- no page has come
abbrev NoPageCame : Place → Type 0
NoPageCame places.Start = Unit {0}
NoPageCame (places.Heading stage settings) = settings.pages ≡ []
NoPageCame (places.Body header lines) = header.pages ≡ []

-- a scenario of a tab of frames names no page
pub header_played : (in_run : Bool) (bytes : List ℕ) (scenario : Scenario) → scenario_of in_run builts.Loads bytes ≡ Ok scenario → scenario.header.pages ≡ []
header_played in_run bytes scenario read =
    scenario_stays in_run builts.Loads NoPageCame tt
    (record {
      version = refl;
      heading = λ stage settings none. record {
        keep = λ word keep e played. none;
        site = λ word number origin proc e1 e2 e3 played. none;
        page = λ word number base slot e1 e2 e3 played. cc;
        opens = λ word first e played. none;
      };
      line = λ header before text line none e plain counted full. none;
    })
    bytes scenario read

-- a process that a scenario may name
abbrev pub IsNamed : ProcId → Type 0
IsNamed proc = (1 ≤ proc.0) × (proc.0 ≤ 16)

-- a number that is read is within its bounds
number_within : (low high : ℕ) (word : List ℕ) (n : ℕ) → number_of low high word ≡ Ok n → (low ≤ n) × (n ≤ high)
unfolding number_of
number_within low high word n read =
    by_tests (are_digits word) (has_no_zero_in_front word) (nat_le low (digits_value 10 word)) (nat_le (digits_value 10 word) high) refl refl read
  where
    by_tests : (a b c d : Bool) → nat_le low (digits_value 10 word) ≡ c → nat_le (digits_value 10 word) high ≡ d → (let r : Result ℕ Reason = if a && (b && (c && d)) then Ok (digits_value 10 word) else Err Number in r) ≡ Ok n → (low ≤ n) × (n ≤ high)
    by_tests true true true true least most e =
        let same : digits_value 10 word ≡ n = ok_same e in
        let l : low ≤ digits_value 10 word = grind (arith, nat_tests, least) in
        let h : digits_value 10 word ≤ high = grind (arith, nat_tests, most) in
        (omega (arith, l, same), omega (arith, h, same))
    by_tests true true true false least most e = cc
    by_tests true true false d least most e = cc
    by_tests true false c d least most e = cc
    by_tests false b c d least most e = cc

proc_named : (word : List ℕ) (proc : ProcId) → proc_of word ≡ Ok proc → IsNamed proc
proc_named word proc read =
    let number = bind_ok (number_of 1 16 word) (λ (n : ℕ). let p : ProcId = record { 0 = n } in Ok p) proc read in
    subst IsNamed (ok_same number.2) (number_within 1 16 word number.0 number.1)

-- each site so far has such a process
abbrev SitesNamed : Place → Type 0
SitesNamed places.Start = Unit {0}
SitesNamed (places.Heading stage settings) = Each (λ (site : Site). IsNamed site.proc) settings.sites
SitesNamed (places.Body header lines) = Each (λ (site : Site). IsNamed site.proc) header.sites

-- and so has each site of a scenario
pub sites_named : (in_run : Bool) (built : Built) (bytes : List ℕ) (scenario : Scenario) → scenario_of in_run built bytes ≡ Ok scenario → Each (λ (site : Site). IsNamed site.proc) scenario.header.sites
sites_named in_run built bytes scenario read =
    scenario_stays in_run built SitesNamed tt
    (record {
      version = tt;
      heading = λ stage settings named. record {
        keep = λ word keep e played. named;
        site = λ word number origin proc e1 e2 e3 played. Each-append (λ (site : Site). IsNamed site.proc) settings.sites (record { origin = origin; proc = proc }) named (proc_named number proc e2);
        page = λ word number base slot e1 e2 e3 played. named;
        opens = λ word first e played. named;
      };
      line = λ header before text line named e plain counted full. named;
    })
    bytes scenario read
