use Rattle.std.proofs.Common.{arith, refl, sym, ◌∙◌}
use Rattle.scenario_text.specs.Follows.{settles}
use Rattle.scenario_play.proofs.LeadLaws.{failed, no_rounds, one_more_round, rounds_settle, rounds_cut}
use Rattle.scenario_play.proofs.round.settle.Goals as goal

pub rounds-init : goal.rounds-init
rounds-init g c = record { opened = c.requires.open; header = refl; kinds = refl; turns = c.requires.turns; played = no_rounds _ }

pub round-requires-clause-busy : goal.round-requires-clause-busy
round-requires-clause-busy g c =
    c.rounds-test.ensures.sited c.rounds.invariant.opened (grind (arith, c.rounds-test.true))

pub rounds-preserved : goal.rounds-preserved
rounds-preserved g c =
    record {
      opened = c.in_ok-round.ensures.open;
      header = c.round.ensures.header ∙ c.rounds.invariant.header;
      kinds = c.round.ensures.kinds ∙ c.rounds.invariant.kinds;
      turns = rw c.round.ensures.header c.rounds.invariant.turns;
      played = one_more_round _ _ _ c.rounds.invariant.played (sym (c.rounds-test.ensures.still c.rounds.invariant.opened)) c.in_ok-round.ensures.longer c.in_ok-round.ensures.plays;
    }

pub returns-in_err-round-clause-plays : goal.returns-in_err-round-clause-plays
returns-in_err-round-clause-plays g c =
    failed settles _ _ c.from_residual.result c.from_residual.ensures.0 (rounds_cut _ _ _ c.rounds.invariant.played (sym (c.rounds-test.ensures.still c.rounds.invariant.opened)) c.in_err-round.ensures.plays)

pub returns-clause-plays : goal.returns-clause-plays
returns-clause-plays g c = rounds_settle _ _ c.rounds.invariant.played (sym (c.rounds-test.ensures.still c.rounds.invariant.opened))
