use Rattle.std.proofs.Common.{◌≡◌, ◌∙◌, ℕ, ◌-◌, refl, subst, arith}
use Rattle.scenario_text.specs.Follows.{does_all, turns_to, a_round}
use Rattle.scenario_play.specs.Courses.{Leads}
use Rattle.scenario_play.proofs.LeadLaws.{failed, all_done, turn_more, turn_cut}
use Rattle.scenario_play.proofs.StepMoves.{none_moved, moved_more}
use Rattle.scenario_play.proofs.round.round.Goals as goal

pub loop-number-init : goal.loop-number-init
loop-number-init g c =
    record {
      opened = c.requires.open;
      header = refl;
      kinds = refl;
      moved = λ busy turn. none_moved _ _ turn.0;
      played = all_done c.args.world.now.log;
    }

pub loop-number-preserved : goal.loop-number-preserved
loop-number-preserved g c =
    record {
      opened = c.in_ok-turn.ensures.moves.opened;
      header = c.turn.ensures.header ∙ c.loop-number.invariant.header;
      kinds = c.turn.ensures.kinds ∙ c.loop-number.invariant.kinds;
      moved = λ busy turn. moved_more _ c.loop-number.number _ _ _ busy.busy (c.loop-number.invariant.moved busy turn) c.in_ok-turn.ensures.moves;
      played = turn_more c.loop-number.number _ _ _ (omega (arith, c.loop-number.auto.number)) c.loop-number.invariant.played c.in_ok-turn.ensures.plays;
    }

pub returns-in_err-turn-clause-plays : goal.returns-in_err-turn-clause-plays
returns-in_err-turn-clause-plays g c =
    failed a_round _ _ c.from_residual.result c.from_residual.ensures.0 (turn_cut c.loop-number.number _ _ _ (omega (arith, c.loop-number.auto.number)) (omega (arith, c.loop-number-test.true)) c.loop-number.invariant.played c.in_err-turn.ensures.plays)

pub returns-clause-longer : goal.returns-clause-longer
returns-clause-longer g c =
    let turn = c.requires.turns c.requires.busy.proc c.requires.busy.sited in
    ((c.loop-number.invariant.moved c.requires.busy turn).grown (omega (arith, c.loop-number-test.false, turn.1))).longer

pub returns-clause-below : goal.returns-clause-below
returns-clause-below g c =
    let turn = c.requires.turns c.requires.busy.proc c.requires.busy.sited in
    ((c.loop-number.invariant.moved c.requires.busy turn).grown (omega (arith, c.loop-number-test.false, turn.1))).below

pub returns-clause-plays : goal.returns-clause-plays
returns-clause-plays g c =
    let last : c.loop-number.number - 1 ≡ 16 = omega (arith, c.loop-number-test.false, c.loop-number.auto.number-end) in
    subst (λ (k : ℕ). Leads (does_all (turns_to k)) c.args.world.now.log c.loop-number.world.log) last c.loop-number.invariant.played
