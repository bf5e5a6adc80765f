use Rattle.std.proofs.Common.{false, Ok, ap, ◌∙◌}
use Rattle.scenario_text.specs.Scenarios.{Scenario}
use Rattle.scenario_play.proofs.Spelled.{spelled_built, spelled_pages, spelled_turns, spelled_unhandled}
use Rattle.tab_call.proofs.CallLaws.{follows_read, played_read, reads_such}
use Rattle.tab_call.proofs.call.play_source.Goals as goal

pub play-played-requires-clause-built : goal.play-played-requires-clause-built
play-played-requires-clause-built g c =
    spelled_built false c.in-Ok.ensures.bytes c.in-Ok.scenario (c.in-Ok.ensures.spells ∙ ap Ok c.in-Ok.ensures.such)

pub play-played-requires-clause-suits : goal.play-played-requires-clause-suits
play-played-requires-clause-suits g c =
    let same = ap (λ (s : Scenario). s.header) c.scenario.view_is in
    rw same at (c.in-Ok-fresh.ensures.suits (rw same (spelled_unhandled false c.in-Ok.ensures.bytes c.in-Ok.scenario (c.in-Ok.ensures.spells ∙ ap Ok c.in-Ok.ensures.such))))

pub play-played-requires-clause-turns : goal.play-played-requires-clause-turns
play-played-requires-clause-turns g c =
    spelled_turns false c.in-Ok.ensures.bytes c.in-Ok.scenario (c.in-Ok.ensures.spells ∙ ap Ok c.in-Ok.ensures.such)

pub play-played-requires-clause-pages : goal.play-played-requires-clause-pages
play-played-requires-clause-pages g c =
    spelled_pages false c.in-Ok.ensures.bytes c.in-Ok.scenario (c.in-Ok.ensures.spells ∙ ap Ok c.in-Ok.ensures.such)

pub returns-clause-read : goal.returns-clause-read
returns-clause-read g c =
    played_read _ _ _ _ _ c.tell.ensures.kind (reads_such _ _ c.in-Ok.scenario (λ scenario. Unit {0}) c.in-Ok.ensures tt)

pub returns-clause-follows : goal.returns-clause-follows
returns-clause-follows g c =
    follows_read _ _ _ _ c.in-Ok.scenario c.tell.ensures.kind c.in-Ok.ensures c.tell.ensures.follows
