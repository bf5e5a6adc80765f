use Rattle.std.proofs.Common.{List, refl, ◌∙◌, subst}
use Rattle.std.proofs.lemmas.List.{take_all}
use Rattle.scenario_text.specs.declared.line.ScenarioLine.{ScenarioLine}
use Rattle.scenario_text.specs.Follows.{plays}
use Rattle.scenario_play.specs.Courses.{Leads}
use Rattle.scenario_play.proofs.LeadLaws.{failed, plays_none, line_leads, line_cut}
use Rattle.scenario_play.proofs.playing.play_lines.Goals as goal

pub loop-line-init : goal.loop-line-init
loop-line-init g c = record { opened = c.requires.open; header = refl; kinds = refl; turns = c.requires.turns; played = plays_none c.args.world.now.log }

pub loop-line-preserved : goal.loop-line-preserved
loop-line-preserved g c =
    record {
      opened = c.in_ok-play_line.ensures.open;
      header = c.play_line.ensures.header ∙ c.loop-line.invariant.header;
      kinds = c.play_line.ensures.kinds ∙ c.loop-line.invariant.kinds;
      turns = rw c.play_line.ensures.header c.loop-line.invariant.turns;
      played = line_leads c.args.lines.now c.loop-line.line-index c.line-item.result _ _ _ c.loop-line-test.true c.line-item.is c.loop-line.invariant.played c.in_ok-play_line.ensures.plays;
    }

pub returns-in_err-play_line-clause-plays : goal.returns-in_err-play_line-clause-plays
returns-in_err-play_line-clause-plays g c =
    failed (plays c.args.lines.now) _ _ c.from_residual.result c.from_residual.ensures.0 (line_cut c.args.lines.now c.loop-line.line-index c.line-item.result _ _ _ c.loop-line-test.true c.line-item.is c.loop-line.invariant.played c.in_err-play_line.ensures.plays)

pub returns-clause-plays : goal.returns-clause-plays
returns-clause-plays g c =
    subst (λ (ls : List ScenarioLine). Leads (plays ls) c.args.world.now.log c.loop-line.world.log) (take_all c.loop-line.line-index c.args.lines.now c.loop-line-test.false) c.loop-line.invariant.played
