use Rattle.std.proofs.Common.{◌≡◌, ◌∙◌, [], ◌∷◌, true, refl, sym, ap}
use Rattle.log_model.specs.Logs.{in_hand_of}
use Rattle.scenario_text.specs.declared.line.ScenarioLine.TheVariants as lines
use Rattle.scenario_text.specs.Follows.{does_all}
use Rattle.world.specs.Kept.{WorldState}
use Rattle.world.specs.declared.event.Reply.TheVariants as replies
use Rattle.scenario_play.specs.Moves.{MovesIf, has_mail}
use Rattle.scenario_play.proofs.LeadLaws.{all_cut, failed, leads_none}
use Rattle.scenario_play.proofs.StepMoves.{begin_moves, begun_moves, on_ok}
use Rattle.scenario_play.proofs.StepPlays.{took_is, taken_in_hand, none_taken, works, no_work}
use Rattle.scenario_play.proofs.round.begin.Goals as goal

pub returns-in_err-reply-clause-plays : goal.returns-in_err-reply-clause-plays
returns-in_err-reply-clause-plays g c =
    failed (does_all (lines.Begin c.args.proc ∷ lines.Finish c.args.proc ∷ [])) _ _ c.from_residual.result c.from_residual.ensures.0 (all_cut (lines.Begin c.args.proc) (lines.Finish c.args.proc ∷ []) _ _ c.in_err-reply.ensures.plays)

pub returns-in-Some-clause-moves : goal.returns-in-Some-clause-moves
returns-in-Some-clause-moves g c =
    let took : c.in_ok-reply.reply ≡ replies.Took c.in-Some.order = took_is c.in_ok-reply.reply c.in-Some.order (sym c.taken.ensures ∙ c.in-Some.is) in
    on_ok c.finish.result (MovesIf true c.step.new.world c.finish.new.world) (MovesIf (has_mail c.args.world.now.log c.args.proc) c.args.world.now c.finish.new.world) (λ moves. begun_moves c.args.world.now c.step.new.world c.finish.new.world c.args.proc c.in-Some.order c.requires.open (rw took at c.in_ok-reply.ensures.steps) (record { opened = moves.opened; longer = moves.longer })) c.finish.ensures.moves

pub returns-in-Some-clause-plays : goal.returns-in-Some-clause-plays
returns-in-Some-clause-plays g c =
    works c.args.proc c.args.world.now.log c.step.new.world.log c.finish.new.world.log c.finish.result c.in_ok-reply.ensures.plays c.finish.ensures.plays

pub returns-in-None-clause-moves : goal.returns-in-None-clause-moves
returns-in-None-clause-moves g c =
    begin_moves c.args.world.now c.step.new.world c.args.proc c.in_ok-reply.reply c.requires.open c.in_ok-reply.ensures.steps

pub returns-in-None-clause-plays : goal.returns-in-None-clause-plays
returns-in-None-clause-plays g c =
    let same = none_taken c.args.world.now c.step.new.world c.args.proc c.in_ok-reply.reply c.in_ok-reply.ensures.steps (sym c.taken.ensures ∙ c.in-None.is) in
    no_work c.args.proc c.args.world.now.log c.step.new.world.log c.in_ok-reply.ensures.plays (ap (λ (w : WorldState). in_hand_of w.log c.args.proc) same ∙ c.requires.free)

pub returns-then-not-has_mail-clause-plays : goal.returns-then-not-has_mail-clause-plays
returns-then-not-has_mail-clause-plays g c =
    no_work c.args.proc c.args.world.now.log c.args.world.now.log (leads_none (lines.Begin c.args.proc) c.args.world.now.log (c.if-not-has_mail.ensures.log refl)) c.requires.free

pub finish-requires-clause-hand : goal.finish-requires-clause-hand
finish-requires-clause-hand g c =
    taken_in_hand c.args.world.now c.step.new.world c.args.proc c.in_ok-reply.reply c.in-Some.order c.in_ok-reply.ensures.steps (sym c.taken.ensures ∙ c.in-Some.is)
