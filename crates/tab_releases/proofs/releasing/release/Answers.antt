use Rattle.move_queue.specs.Queue.{Queue}
use Rattle.std.proofs.Common.{ap, refl, sym, ◌∙◌}
use Rattle.tab_releases.proofs.Releases.{one_due, release_begins, release_goes_on, released_each, released_last, released_none, released_queue, released_turning}
use Rattle.tab_releases.proofs.releasing.release.Goals as goal

pub held-init : goal.held-init
held-init g c =
    (release_begins g.p _ _ _ _ c.requires.0 c.requires.1.0 c.requires.1.1.0 c.requires.1.1.1.0 c.requires.1.1.1.1.0 c.requires.1.1.1.1.1.0 c.requires.1.1.1.1.1.1.0 c.requires.1.1.1.1.1.1.1.1.0 c.requires.1.1.1.1.1.1.1.1.1, refl)

pub release_one-requires : goal.release_one-requires
release_one-requires g c =
    (one_due g.p _ _ _ _ _ _ _ c.held.invariant.0 _ _ (ap (λ (q : Queue). q.parked) c.in-Some.ensures.first) c.held.invariant.0.idle, c.held.invariant.0.idle)

pub held-preserved : goal.held-preserved
held-preserved g c = (
  release_goes_on g.p _ _ _ _ _ _ _ c.held.invariant.0 _ _ (ap (λ (q : Queue). q.parked) c.in-Some.ensures.first) _ _ _ c.in_ok-release_one.ensures.taken _ c.in_ok-release_one.ensures.req,
  sym (ap (λ (q : Queue). q.waiting) c.in-Some.ensures.first) ∙ c.held.invariant.1,
)

pub returns-clause-passing : goal.returns-clause-passing
returns-clause-passing g c = c.held.invariant.0.passing

pub returns-clause-turning : goal.returns-clause-turning
returns-clause-turning g c = released_turning g.p _ _ _ _ _ _ _ c.held.invariant.0 (c.in_default.ensures.none.0 refl)

pub returns-clause-open_ : goal.returns-clause-open_
returns-clause-open_ g c = c.held.invariant.0.open_

pub returns-clause-queued : goal.returns-clause-queued
returns-clause-queued g c =
    released_queue g.p _ _ _ _ _ _ _ c.held.invariant.0 _ _ (ap (λ (q : Queue). q.waiting) c.in_default.ensures.unchanged ∙ c.held.invariant.1) c.requires.1.1.1.1.1.1.1.0

pub returns-clause-none : goal.returns-clause-none
returns-clause-none g c = released_none g.p _ _ _ _ _ _ _ c.held.invariant.0 (c.in_default.ensures.none.0 refl)

pub returns-clause-parked : goal.returns-clause-parked
returns-clause-parked g c =
    let none = c.in_default.ensures.none.0 refl in ap (λ (q : Queue). q.parked) c.in_default.ensures.unchanged ∙ none

pub returns-clause-ended : goal.returns-clause-ended
returns-clause-ended g c = released_each g.p _ _ _ _ _ _ _ c.held.invariant.0 (c.in_default.ensures.none.0 refl)

pub returns-clause-last : goal.returns-clause-last
returns-clause-last g c = released_last g.p _ _ _ _ _ _ _ c.held.invariant.0 (c.in_default.ensures.none.0 refl)

pub returns-clause-cause : goal.returns-clause-cause
returns-clause-cause g c = c.held.invariant.0.cause

pub returns-clause-kept : goal.returns-clause-kept
returns-clause-kept g c = c.held.invariant.0.kept

pub returns-clause-theirs : goal.returns-clause-theirs
returns-clause-theirs g c = c.held.invariant.0.theirs
