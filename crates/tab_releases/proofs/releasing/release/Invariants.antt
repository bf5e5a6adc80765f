use Rattle.std.specs.Prelude.{length, ◌≡◌}
use Rattle.tab_releases.proofs.releasing.release.Given as goal
use Rattle.tab_releases.specs.Releasing.{HasReleased}

abbrev pub ghost-release_one : goal.ghost-release_one
ghost-release_one g a = g.p

-- what holds once some were taken up
abbrev pub invariant-held : goal.invariant-held
invariant-held g l = (HasReleased g.p l.fn.tables l.fn.out l.tables l.out l.blame.entries l.queue.parked l.last) × (l.queue.waiting ≡ l.fn.queue.waiting)

abbrev pub decreases-held : goal.decreases-held
decreases-held g l = length l.queue.parked
