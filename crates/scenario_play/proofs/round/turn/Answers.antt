use Rattle.std.proofs.Common.{sym}
use Rattle.scenario_text.specs.declared.line.ScenarioLine.TheVariants as lines
use Rattle.scenario_text.specs.Follows.{does_all, turn_of}
use Rattle.scenario_play.proofs.LeadLaws.{all_cut, failed}
use Rattle.scenario_play.proofs.StepPlays.{turn_is_idle, turn_leads, turn_cut_at_work, turn_cut_late}
use Rattle.scenario_play.proofs.StepMoves.{turn_goes, turn_stays}
use Rattle.scenario_play.proofs.round.turn.Goals as goal

pub returns-then-is_idle-clause-plays : goal.returns-then-is_idle-clause-plays
returns-then-is_idle-clause-plays g c = turn_is_idle c.args.world.now.log c.args.proc (sym c.if-is_idle.ensures)

pub returns-in_err-act-clause-plays : goal.returns-in_err-act-clause-plays
returns-in_err-act-clause-plays g c =
    failed (does_all (turn_of c.args.proc)) _ _ c.from_residual.result c.from_residual.ensures.0 (all_cut (lines.Act c.args.proc) _ _ _ c.in_err-act.ensures.plays)

pub returns-in_err-work_on-clause-plays : goal.returns-in_err-work_on-clause-plays
returns-in_err-work_on-clause-plays g c =
    failed (does_all (turn_of c.args.proc)) _ _ c.from_residual-in_err-work_on.result c.from_residual-in_err-work_on.ensures.0 (turn_cut_at_work c.args.proc _ _ _ c.in_ok-act.ensures.plays c.in_err-work_on.ensures.plays)

pub returns-in_err-deliver-clause-plays : goal.returns-in_err-deliver-clause-plays
returns-in_err-deliver-clause-plays g c =
    failed (does_all (turn_of c.args.proc)) _ _ c.from_residual-in_err-deliver.result c.from_residual-in_err-deliver.ensures.0 (turn_cut_late c.args.proc _ _ _ _ c.in_ok-act.ensures.plays c.in_ok-work_on.ensures.plays c.in_err-deliver.ensures.plays)

pub returns-clause-plays : goal.returns-clause-plays
returns-clause-plays g c =
    turn_leads c.args.proc _ _ _ _ c.in_ok-act.ensures.plays c.in_ok-work_on.ensures.plays c.in_ok-deliver.ensures.plays

pub returns-then-is_idle-clause-moves : goal.returns-then-is_idle-clause-moves
returns-then-is_idle-clause-moves g c = turn_stays _ _ c.requires.open (sym c.if-is_idle.ensures)

pub returns-clause-moves : goal.returns-clause-moves
returns-clause-moves g c =
    turn_goes _ _ _ _ _ (sym c.if-is_idle.ensures) c.in_ok-act.ensures.moves c.in_ok-work_on.ensures.moves c.in_ok-deliver.ensures.moves
