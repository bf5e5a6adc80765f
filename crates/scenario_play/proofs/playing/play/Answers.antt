use Rattle.std.proofs.Common.{◌≡◌, ◌∙◌, [], List, ap, subst}
use Rattle.log_model.specs.declared.header.Header.{Header}
use Rattle.log_model.specs.declared.row_kind.LogRow.{LogRow}
use Rattle.log_model.specs.Suits.{Suits}
use Rattle.scenario_text.specs.Scenarios.{Scenario}
use Rattle.world.specs.Kept.{OpensAs}
use Rattle.scenario_play.proofs.LeadLaws.{follows, cut_short}
use Rattle.scenario_play.proofs.playing.play.Goals as goal

lines_of : {a b : Scenario} → a ≡ b → a.lines ≡ b.lines
lines_of e = ap (λ (s : Scenario). s.lines) e

-- the settings are those of the world
suits_as : (header kept : Header) (log : List LogRow) → kept ≡ header → header.pages ≡ [] → (kept.pages ≡ [] → OpensAs kept log → Suits kept log) → OpensAs header log → Suits header log
suits_as header kept log same none suits =
    subst (λ (h : Header). h.pages ≡ [] → OpensAs h log → Suits h log) same suits none

pub play_lines-played-requires-clause-built : goal.play_lines-played-requires-clause-built
play_lines-played-requires-clause-built g c = rw (c.as_slice.ensures, lines_of c.scenario.view_is) c.requires.built

pub play_lines-played-requires-clause-turns : goal.play_lines-played-requires-clause-turns
play_lines-played-requires-clause-turns g c = rw c.requires.header c.requires.turns

pub returns-in-Ok-clause-follows : goal.returns-in-Ok-clause-follows
returns-in-Ok-clause-follows g c e =
    follows c.args.scenario.now c.args.world.log c.play_lines-played.new.world.log c.requires.opened c.requires.suits (suits_as c.args.scenario.now.header c.play_lines-played.new.world.header c.play_lines-played.new.world.log (c.play_lines-played.ensures.header ∙ c.requires.header) c.requires.pages c.log-log.ensures.suits) (rw (c.as_slice.ensures, lines_of c.scenario.view_is) at c.in-Ok.ensures.plays)

pub returns-in-Err-clause-cut : goal.returns-in-Err-clause-cut
returns-in-Err-clause-cut g c e =
    cut_short c.args.scenario.now c.args.world.log c.play_lines-played.new.world.log c.requires.opened c.requires.suits (suits_as c.args.scenario.now.header c.play_lines-played.new.world.header c.play_lines-played.new.world.log (c.play_lines-played.ensures.header ∙ c.requires.header) c.requires.pages c.log-log.ensures.suits) (rw (c.as_slice.ensures, lines_of c.scenario.view_is) at c.in-Err.ensures.plays)
