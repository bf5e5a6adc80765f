use Rattle.std.proofs.Common.{ap, sym, ◌∙◌}
use Rattle.tab_settles.proofs.Ended.{finish_put, has_ended, has_rested, ready_n, release_asks, still_due}
use Rattle.tab_settles.proofs.EndedOff.{ended_turned}
use Rattle.tab_settles.proofs.turning.finish.Goals as goal
use Rattle.tab_settles.specs.declared.reasons.Reasons.{Reasons}

pub end_running-requires : goal.end_running-requires
end_running-requires g c = (c.requires.0.passing, record { waits = c.requires.0.queueing.waits; free = c.requires.1.1 })

pub release-requires : goal.release-requires
release-requires g c =
    release_asks g.p _ _ _ _ _ c.requires.0 _ _ c.in_ok-end_running.ensures.passing c.in_ok-end_running.ensures.turning (has_ended _ _ _ _ _ _ c.if-branch.true c.in_ok-end_running.ensures.ended) (sym c.in_ok-end_running.ensures.due ∙ c.if-branch.true)

pub returns-then-branch-clause-ready : goal.returns-then-branch-clause-ready
returns-then-branch-clause-ready g c did =
    ready_n g.p _ _ _ _ _ c.requires.0 _ _ c.in_ok-end_running.ensures.passing c.in_ok-end_running.ensures.turning (has_ended _ _ _ _ _ _ c.if-branch.true c.in_ok-end_running.ensures.ended) (sym c.in_ok-end_running.ensures.due ∙ c.if-branch.true) _ _ _ _ _ c.in_ok-last.ensures.passing c.in_ok-last.ensures.turning c.in_ok-last.ensures.open_ c.in_ok-last.ensures.queued c.in_ok-last.ensures.none c.in_ok-last.ensures.parked c.in_ok-last.ensures.ended c.in_ok-last.ensures.last c.in_ok-last.ensures.theirs c.in_ok-last.ensures.cause c.in_ok-last.ensures.waiting c.in_ok-last.ensures.kept _ (ap (λ (r : Reasons). r.cause) c.follow.ensures)

pub returns-then-branch-clause-put : goal.returns-then-branch-clause-put
returns-then-branch-clause-put g c =
    finish_put g.p.event _ _ _ _ _ _ _ c.in_ok-last.ensures.passing.work.goes c.in_ok-last.ensures.passing.going.tab.asked (has_ended _ _ _ _ _ _ c.if-branch.true c.in_ok-end_running.ensures.ended) c.in_ok-last.ensures.ended

pub returns-clause-due : goal.returns-clause-due
returns-clause-due g c not_ended =
    still_due g.p _ _ _ _ _ c.requires.0 _ _ (has_rested _ _ _ _ _ _ c.if-branch.false c.in_ok-end_running.ensures.ended) c.requires.1.0 (sym c.if-branch.false ∙ c.in_ok-end_running.ensures.due)

pub returns-then-branch-clause-turned : goal.returns-then-branch-clause-turned
returns-then-branch-clause-turned g c did =
    ended_turned g.p.event _ _ _ _ _ _ _ c.in_ok-end_running.ensures.passing.going.tab (has_ended _ _ _ _ _ _ c.if-branch.true c.in_ok-end_running.ensures.ended) (sym c.in_ok-end_running.ensures.due ∙ c.if-branch.true) c.in_ok-last.ensures.ended c.in_ok-last.ensures.passing.work.goes

pub returns-clause-still : goal.returns-clause-still
returns-clause-still g c not_ended =
    (has_rested _ _ _ _ _ _ c.if-branch.false c.in_ok-end_running.ensures.ended).out
