-- Each line of a scenario that bytes spell is one that is played.
use Rattle.std.proofs.Common.{◌≡◌, ℕ, Bool, true, false, List, [], ◌∷◌, Ok, All, refl, arith, inl, inr, subst}
use Rattle.log_model.specs.declared.header.Header.{Header}
use Rattle.log_model.specs.declared.header.Site.{Site}
use Rattle.std.proofs.lemmas.List.Elements.{All-nil, All-cons, All-head, All-tail}
use Rattle.scenario_text.specs.declared.built.Built.TheVariants as builts
use Rattle.scenario_text.specs.declared.line.ScenarioLine.{ScenarioLine}
use Rattle.scenario_text.specs.Scenarios.{Scenario}
use Rattle.scenario_text.specs.Grammar.{scenario_of}
use Rattle.log_model.specs.Entries.{HasPassed}
use Rattle.scenario_text.specs.Plays.{plays, is_of_loads}
use Rattle.scenario_text.proofs.ForCallers.{IsNamed, lines_played, header_played, sites_named}
use Rattle.scenario_text.specs.Written.{Each}
use Rattle.world.specs.Kept.{OpensUnhandled}
use Rattle.scenario_play.specs.Lines.{IsBuiltLine}
use Rattle.scenario_play.specs.Moves.{HasTurn, HaveTurns}
use Rattle.seen_facts.specs.Hang.Members.{Has}

has_passed : (b : Bool) → b ≡ true → HasPassed b
has_passed true is = tt
has_passed false is = absurd cc

line_built : (line : ScenarioLine) → plays builts.Loads line ≡ true → IsBuiltLine line
line_built line is = has_passed (is_of_loads line) is

all_built : (lines : List ScenarioLine) → All (λ line. plays builts.Loads line ≡ true) lines → All IsBuiltLine lines
all_built [] are = All-nil IsBuiltLine
all_built (line ∷ lines) are =
    All-cons IsBuiltLine line lines (line_built line (All-head (λ (l : ScenarioLine). plays builts.Loads l ≡ true) line lines are)) (all_built lines (All-tail (λ (l : ScenarioLine). plays builts.Loads l ≡ true) line lines are))

pub spelled_built : (in_run : Bool) (bytes : List ℕ) (scenario : Scenario) → scenario_of in_run builts.Loads bytes ≡ Ok scenario → All IsBuiltLine scenario.lines
spelled_built in_run bytes scenario e =
    all_built scenario.lines (lines_played in_run builts.Loads bytes scenario e)

-- the settings have no pages
pub spelled_pages : (in_run : Bool) (bytes : List ℕ) (scenario : Scenario) → scenario_of in_run builts.Loads bytes ≡ Ok scenario → scenario.header.pages ≡ []
spelled_pages in_run bytes scenario e = header_played in_run bytes scenario e

-- so they give the first document no handler
pub spelled_unhandled : (in_run : Bool) (bytes : List ℕ) (scenario : Scenario) → scenario_of in_run builts.Loads bytes ≡ Ok scenario → OpensUnhandled scenario.header
spelled_unhandled in_run bytes scenario e = rw (header_played in_run bytes scenario e) refl

-- a round has a turn of each process of the settings
among_sites : (sites : List Site) → Each (λ (site : Site). IsNamed site.proc) sites → (site : Site) → Has sites site → HasTurn site.proc
among_sites [] named site never = absurd never
among_sites (x ∷ sites) named site (inl same) = subst (λ (y : Site). HasTurn y.proc) same named.0
among_sites (x ∷ sites) named site (inr has) = among_sites sites named.1 site has

sites_have_turns : (header : Header) → Each (λ (site : Site). IsNamed site.proc) header.sites → HaveTurns header
sites_have_turns header named proc (inl first) = (omega (arith, first), omega (arith, first))
sites_have_turns header named proc (inr of) =
    let its = among_sites header.sites named of.site of.has in
    let same = of.proc_is in
    (omega (arith, same, its.0), omega (arith, same, its.1))

pub spelled_turns : (in_run : Bool) (bytes : List ℕ) (scenario : Scenario) → scenario_of in_run builts.Loads bytes ≡ Ok scenario → HaveTurns scenario.header
spelled_turns in_run bytes scenario e =
    sites_have_turns scenario.header (sites_named in_run builts.Loads bytes scenario e)
