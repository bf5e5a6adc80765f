use Rattle.seen_laws.specs.InEvent.{log_of}
use Rattle.std.proofs.Common.{ap, inr}
use Rattle.tab_settles.proofs.Puts.{turn_put}
use Rattle.leave_questions.proofs.Slots.{has_slots}
use Rattle.tab_settles.proofs.Begun.{asks_first, asks_settled, asks_still, begin_asks, refused_ready, refused_turned, rested_settled, rested_still, went_ready, went_turned}
use Rattle.tab_settles.proofs.turning.begin.Goals as goal
use Rattle.tab_settles.specs.declared.reasons.Reasons.{Reasons}

pub returns-in-Refused-clause-ready : goal.returns-in-Refused-clause-ready
returns-in-Refused-clause-ready g c did =
    refused_ready g.p _ _ _ _ _ c.requires.0 c.requires.1.0 _ _ _ _ c.in_ok-begin_next.ensures.passing c.in_ok-begin_next.ensures.turning c.in_ok-begin_next.ensures.none c.in_ok-begin_next.ensures.queued c.in_ok-begin_next.ensures.parked c.in_ok-begin_next.ensures.keep c.in_ok-begin_next.ensures.made c.in_ok-begin_next.ensures.grown _ c.in_ok-begin_next.ensures.stood c.in-Refused.is c.in_ok-begin_next.ensures.came

pub returns-after-is_none-clause-ready : goal.returns-after-is_none-clause-ready
returns-after-is_none-clause-ready g c did =
    went_ready g.p _ _ _ _ _ c.requires.0 c.requires.1.0 _ _ _ _ c.in_ok-begin_next.ensures.passing c.in_ok-begin_next.ensures.turning c.in_ok-begin_next.ensures.none c.in_ok-begin_next.ensures.queued c.in_ok-begin_next.ensures.parked c.in_ok-begin_next.ensures.keep c.in_ok-begin_next.ensures.made c.in_ok-begin_next.ensures.grown _ c.in_ok-begin_next.ensures.stood _ c.in-Went.is c.in_ok-begin_next.ensures.came _ (ap (λ (r : Reasons). r.cause) c.follow.ensures)

pub returns-in-Rests-clause-rested : goal.returns-in-Rests-clause-rested
returns-in-Rests-clause-rested g c did =
    rested_settled g.p _ _ _ _ _ c.requires.0 c.requires.1.0 _ _ _ _ c.in_ok-begin_next.ensures.passing c.in_ok-begin_next.ensures.turning c.in_ok-begin_next.ensures.none c.in_ok-begin_next.ensures.queued c.in_ok-begin_next.ensures.parked c.in_ok-begin_next.ensures.keep c.in_ok-begin_next.ensures.made _ c.in-Rests.is c.in_ok-begin_next.ensures.came

pub returns-in-Refused-clause-turned : goal.returns-in-Refused-clause-turned
returns-in-Refused-clause-turned g c did =
    refused_turned g.p _ _ _ _ _ c.requires.0 c.requires.1.0 _ c.in_ok-begin_next.ensures.passing.work.goes c.in_ok-begin_next.ensures.needs _ c.in_ok-begin_next.ensures.stood c.in-Refused.is

pub returns-after-is_none-clause-turned : goal.returns-after-is_none-clause-turned
returns-after-is_none-clause-turned g c did =
    went_turned g.p _ _ _ _ _ c.requires.0 c.requires.1.0 _ c.in_ok-begin_next.ensures.passing.work.goes c.in_ok-begin_next.ensures.needs _ c.in_ok-begin_next.ensures.stood _ c.in-Went.is

pub returns-in-Rests-clause-still : goal.returns-in-Rests-clause-still
returns-in-Rests-clause-still g c none =
    rested_still g.p _ _ _ _ _ c.requires.0 c.requires.1.0 _ _ _ _ _ c.in-Rests.is c.in_ok-begin_next.ensures.came

pub returns-after-is_none-clause-put : goal.returns-after-is_none-clause-put
returns-after-is_none-clause-put g c = turn_put g.p.event _ _ c.in_ok-begin_next.ensures.grown

pub begin_next-requires : goal.begin_next-requires
begin_next-requires g c =
    let asks = begin_asks g.p _ _ _ _ _ c.requires.0 c.requires.1.0 c.requires.1.1.1 in (asks.0, (asks.1.0, (asks.1.1.0, (asks.1.1.1.0, (asks.1.1.1.1, has_slots (log_of g.p.event c.args.out.now) _ c.requires.1.1.0.known)))))

pub returns-in-Asks-clause-rested : goal.returns-in-Asks-clause-rested
returns-in-Asks-clause-rested g c did =
    asks_settled g.p _ _ _ _ _ c.requires.0 c.requires.1.0 _ _ _ _ c.in_ok-begin_next.ensures.passing c.in_ok-begin_next.ensures.turning c.in_ok-begin_next.ensures.none c.in_ok-begin_next.ensures.queued c.in_ok-begin_next.ensures.parked c.in_ok-begin_next.ensures.keep c.in_ok-begin_next.ensures.made _ _ c.in-Asks.is c.in_ok-begin_next.ensures.came

pub returns-in-Asks-clause-still : goal.returns-in-Asks-clause-still
returns-in-Asks-clause-still g c none =
    asks_still g.p _ _ _ _ _ c.requires.0 c.requires.1.0 _ _ _ _ _ _ c.in-Asks.is c.in_ok-begin_next.ensures.came

pub returns-in-Asks-clause-due : goal.returns-in-Asks-clause-due
returns-in-Asks-clause-due g c did =
    inr (asks_first g.p _ _ _ _ _ c.requires.0 c.requires.1.0 _ _ _ _ c.in_ok-begin_next.ensures.passing c.in_ok-begin_next.ensures.turning c.in_ok-begin_next.ensures.none c.in_ok-begin_next.ensures.queued c.in_ok-begin_next.ensures.parked c.in_ok-begin_next.ensures.keep c.in_ok-begin_next.ensures.made _ _ c.in-Asks.is c.in_ok-begin_next.ensures.came c.in_ok-begin_next.ensures.stood)
