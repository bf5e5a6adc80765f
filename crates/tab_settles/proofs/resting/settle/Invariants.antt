use Rattle.std.specs.Prelude.{◌≡◌}
use Rattle.tab_settles.proofs.resting.settle.Given as goal
use Rattle.tab_settles.specs.Settling.{HasPut, IsReady, LeavesOff, turns_left}

abbrev pub ghost-pass : goal.ghost-pass
ghost-pass g a = g.p

abbrev pub ghost-take_turn : goal.ghost-take_turn
ghost-take_turn g a = g.p

-- what goes on from pass to pass
abbrev pub invariant-passes : goal.invariant-passes
invariant-passes g l = IsReady g.p l.out l.tables l.queue l.blame.entries l.reasons.cause × (HasPut g.p.event l.fn.out l.out × (LeavesOff g.p.event l.fn.out l.out × (l.reasons.handled ≡ l.fn.reasons.handled)))

abbrev pub decreases-passes : goal.decreases-passes
decreases-passes g l = turns_left l.tables.running l.queue.waiting
